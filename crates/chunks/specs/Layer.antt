-- The layer over a carrier: what is to come of it, and what it lacks after some Pulls.
use Rattle.std.specs.Prelude.{◌≡◌, ℕ, zero, suc, ◌+◌, ◌≤◌, Bool, true, false, not, ◌&&◌, ◌||◌, List, [], length, take, drop, refl}
use Rattle.std.proofs.Common.{sym, ap, ◌∙◌, add-zero, arith, length-append, take-add}
use Rattle.std.proofs.lemmas.List.{drop_at, drop_all}
use Rattle.std.proofs.lemmas.Bool.{false≢true}
use Rattle.std.proofs.Math.Bool.{or-false, or_self}
use Rattle.carrier.specs.declared.endings.Ending.{Ending}
use Rattle.carrier.specs.Pulls.{Adds, Spent}
use Rattle.chunks.specs.declared.machine.State.{State}
use Rattle.chunks.specs.declared.Chunks.{Chunks}
use Rattle.chunks.specs.Machine.{over}
use Rattle.chunks.specs.Decoding.{state_after, data_in, drawn_in, drawn_through, ending_at, ending_in}
use Rattle.carrier.specs.Passing.{counted}
use Rattle.chunks.specs.Splitting.{state_after_append, still, behind, split_state, split_data, split_drawn, split_through, through_gives, through_within, counted_more}

-- how many bytes beneath are used to give n data bytes, and to tell the ending where it was told
abbrev pub used_for : State → ℕ → Bool → List ℕ → ℕ
used_for at n false bs = drawn_through at n bs
used_for at n true bs = drawn_in at bs

-- whether the ending beneath was reached: the layer's own ending was told, and nothing but the end of the bytes shows it
abbrev pub ran_dry : State → Bool → List ℕ → Bool
ran_dry at told bs = told && not (over (state_after at bs))

-- n data bytes are among those to come, and all of them where the ending was told
abbrev pub Gives : State → ℕ → Bool → List ℕ → Type 0
Gives at n told bs = (n ≤ length (data_in at bs)) × (told ≡ true → n ≡ length (data_in at bs))

-- nothing comes behind the bytes that show the ending
pub at_end : (at : State) (bs : List ℕ) → let k = drawn_in at bs in (drawn_in (behind at k bs) (drop k bs) ≡ 0) × (data_in (behind at k bs) (drop k bs) ≡ []) × (behind at k bs ≡ state_after at bs)
at_end at bs =
    let k = drawn_in at bs in
    let none : drawn_in (behind at k bs) (drop k bs) ≡ 0 = omega (arith, split_drawn at k bs (omega arith)) in
    let rest = still (behind at k bs) (drop k bs) none in
    (none, rest.1, sym (split_state at k bs ∙ rest.0))

module _ (at : State) (n : ℕ) (bs : List ℕ) where
  used_within : (told : Bool) → Gives at n told bs → used_for at n told bs ≤ drawn_in at bs
  used_within false g = through_within at n bs g.0
  used_within true g = omega arith

  used_gives : (told : Bool) → Gives at n told bs → length (data_in at (take (used_for at n told bs) bs)) ≡ n
  used_gives false g = through_gives at n bs g.0
  used_gives true g =
      let k = drawn_in at bs in
      omega (arith, ap length (split_data at k bs), length-append (data_in at (take k bs)) (data_in (behind at k bs) (drop k bs)), ap length (at_end at bs).1, g.1 refl)

  -- what is left to come
  used_leaves : (told : Bool) → Gives at n told bs → data_in (behind at (used_for at n told bs) bs) (drop (used_for at n told bs) bs) ≡ drop n (data_in at bs)
  used_leaves told g =
      let k = used_for at n told bs in
      sym (ap (drop n) (split_data at k bs) ∙ drop_at (data_in at (take k bs)) (data_in (behind at k bs) (drop k bs)) n (used_gives told g))

-- more data bytes, once the first m were given
module _ (at : State) (m n : ℕ) (bs : List ℕ) where
  abbrev pub Joins : Bool → Bool → State → List ℕ → Type 0
  Joins a b at' bs' =
      Gives at' n b bs'
      → Gives at (m + n) (a || b) bs
      × (used_for at (m + n) (a || b) bs ≡ used_for at m a bs + used_for at' n b bs')
      × (ran_dry at (a || b) bs ≡ (ran_dry at a bs || ran_dry at' b bs'))

  gives_more : (a b : Bool) → Gives at m a bs → Gives (behind at (used_for at m a bs) bs) n b (drop (used_for at m a bs) bs) → (m + n ≤ length (data_in at bs)) × (b ≡ true → m + n ≡ length (data_in at bs))
  gives_more a b g h =
      let k = used_for at m a bs in
      let whole = ap length (split_data at k bs) in
      let parts = length-append (data_in at (take k bs)) (data_in (behind at k bs) (drop k bs)) in
      let first = used_gives at m bs a g in
      (omega arith, λ told. omega (arith, h.1 told))

  through_more : m ≤ length (data_in at bs) → (n : ℕ) → drawn_through at (m + n) bs ≡ drawn_through at m bs + drawn_through (behind at (drawn_through at m bs) bs) n (drop (drawn_through at m bs) bs)
  through_more g zero = ap (λ l. drawn_through at l bs) (add-zero m) ∙ sym (add-zero (drawn_through at m bs))
  through_more g (suc n) =
      ap (λ l. drawn_through at (l + suc n) bs) (sym (through_gives at m bs g)) ∙ split_through at (drawn_through at m bs) n bs (through_within at m bs g)

  joins : (a b : Bool) → Gives at m a bs → Joins a b (behind at (used_for at m a bs) bs) (drop (used_for at m a bs) bs)
  joins false false g h = (((gives_more false false g h).0, λ told. absurd (false≢true told)), through_more g.0 n, refl)
  joins false true g h =
      (gives_more false true g h, split_drawn at (drawn_through at m bs) bs (through_within at m bs g.0), ap (λ s. not (over s)) (split_state at (drawn_through at m bs) bs))
  joins true b g h = by b h
    where
      k : ℕ
      k = drawn_in at bs

      none : n ≡ 0
      none = omega (arith, h.0, ap length (at_end at bs).1)

      all : m + n ≡ length (data_in at bs)
      all = omega (arith, g.1 refl, none)

      by : (b : Bool) → Gives (behind at k bs) n b (drop k bs) → Gives at (m + n) true bs × (k ≡ k + used_for (behind at k bs) n b (drop k bs)) × (not (over (state_after at bs)) ≡ (not (over (state_after at bs)) || ran_dry (behind at k bs) b (drop k bs)))
      by false h = ((omega (arith, all), λ told. all), omega (arith, ap (λ l. drawn_through (behind at k bs) l (drop k bs)) none), sym (or-false (not (over (state_after at bs)))))
      by true h =
          ((omega (arith, all), λ told. all), omega (arith, (at_end at bs).0), sym (or_self (not (over (state_after at bs)))) ∙ ap (λ s. not (over (state_after at bs)) || not (over s)) (split_state at k bs))

abbrev pub data_coming : {C : Type 0} (coming : C → List ℕ) → Chunks C → List ℕ
data_coming coming s = data_in s.state (coming s.beneath)

abbrev pub data_ending : {C : Type 0} (coming : C → List ℕ) (ending : C → Ending) → Chunks C → Ending
data_ending coming ending s = ending_in s.state s.drawn (coming s.beneath) (ending s.beneath)

-- t stands where the bytes used lead, has counted them, and the carrier beneath lacks exactly those
abbrev pub data_lacks : {C : Type 0} (coming : C → List ℕ) (lacks : C → ℕ → Bool → C → Type 0) → Chunks C → ℕ → Bool → Chunks C → Type 0
data_lacks coming lacks s n told t =
    let bs = coming s.beneath in
    let used = used_for s.state n told bs in
    Gives s.state n told bs
    × (t.state ≡ behind s.state used bs)
    × (t.drawn ≡ counted s.drawn used)
    × lacks s.beneath used (ran_dry s.state told bs) t.beneath

module _ {C : Type 0} (coming : C → List ℕ) (ending : C → Ending) (lacks : C → ℕ → Bool → C → Type 0) (adds : Adds coming ending lacks) (s t : Chunks C) (n : ℕ) (told : Bool) (h : data_lacks coming lacks s n told t) where
  left : coming t.beneath ≡ drop (used_for s.state n told (coming s.beneath)) (coming s.beneath)
  left = (adds.spends s.beneath t.beneath _ _ h.3).1

  data_spends : Spent (data_coming coming s) n told (data_coming coming t)
  data_spends =
      let gone : data_in t.state (coming t.beneath) ≡ drop n (data_in s.state (coming s.beneath)) = ap (λ at. data_in at (coming t.beneath)) h.1 ∙ ap (data_in _) left ∙ used_leaves s.state n (coming s.beneath) told h.0 in
      (h.0.0, gone, λ all. gone ∙ drop_all n (data_in s.state (coming s.beneath)) (omega (arith, h.0.1 all)))

  data_ends : data_ending coming ending t ≡ data_ending coming ending s
  data_ends =
      let at = s.state in
      let bs = coming s.beneath in
      let k = used_for at n told bs in
      ap (λ e. ending_in t.state t.drawn (coming t.beneath) e) (adds.ends s.beneath t.beneath _ _ h.3)
      ∙ ap (λ l. ending_in t.state t.drawn l (ending s.beneath)) left
      ∙ ap (λ i. ending_in i t.drawn (drop k bs) (ending s.beneath)) h.1
      ∙ ap (λ i. ending_at i (counted t.drawn (drawn_in (behind at k bs) (drop k bs))) (ending s.beneath)) (sym (split_state at k bs))
      ∙ ap (λ d. ending_at (state_after at bs) d (ending s.beneath)) (
      ap (λ d. counted d (drawn_in (behind at k bs) (drop k bs))) h.2 ∙ counted_more s.drawn k (drawn_in (behind at k bs) (drop k bs)) ∙ ap (counted s.drawn) (sym (split_drawn at k bs (used_within at n bs told h.0)))
      )

data_same : {C : Type 0} (coming : C → List ℕ) (ending : C → Ending) (lacks : C → ℕ → Bool → C → Type 0) → Adds coming ending lacks → (s : Chunks C) → data_lacks coming lacks s 0 false s
data_same coming ending lacks adds s = ((omega arith, λ told. absurd (false≢true told)), refl, omega arith, adds.same s.beneath)

data_joined : {C : Type 0} (coming : C → List ℕ) (ending : C → Ending) (lacks : C → ℕ → Bool → C → Type 0) → Adds coming ending lacks → (s t u : Chunks C) (m n : ℕ) (a b : Bool) → data_lacks coming lacks s m a t → data_lacks coming lacks t n b u → data_lacks coming lacks s (m + n) (a || b) u
data_joined coming ending lacks adds s t u m n a b p q =
    let at = s.state in
    let bs = coming s.beneath in
    let k = used_for at m a bs in
    let went = left coming ending lacks adds s t m a p in
    let j : Joins at m n bs a b t.state (coming t.beneath) = rw (p.1, went) (joins at m n bs a b p.0) in
    let both = j q.0 in
    let more = used_for t.state n b (coming t.beneath) in (
      both.0,
      q.1 ∙ ap (λ s. behind s more (coming t.beneath)) p.1 ∙ ap (λ l. state_after (behind at k bs) (take more l)) went ∙ sym (state_after_append at (take k bs) (take more (drop k bs))) ∙ ap (state_after at) (sym (take-add k more bs)) ∙ ap (λ l. behind at l bs) (sym both.1),
      q.2 ∙ ap (λ d. counted d more) p.2 ∙ counted_more s.drawn k more ∙ ap (counted s.drawn) (sym both.1),
      rw (both.1, both.2) (adds.joined s.beneath t.beneath u.beneath _ _ _ _ p.3 q.3),
    )

pub data_adds : {C : Type 0} (coming : C → List ℕ) (ending : C → Ending) (lacks : C → ℕ → Bool → C → Type 0) → Adds coming ending lacks → Adds (data_coming coming) (data_ending coming ending) (data_lacks coming lacks)
data_adds coming ending lacks adds =
    record {
      spends = data_spends coming ending lacks adds;
      ends = data_ends coming ending lacks adds;
      same = data_same coming ending lacks adds;
      joined = data_joined coming ending lacks adds;
    }
