-- The turns and the ends of drawing single bytes.
use Rattle.std.proofs.Common.{◌≡◌, ℕ, ◌+◌, Bool, true, false, not, List, [], ◌∷◌, ◌++◌, take, drop, Ok, Err, sym, ap, ◌∙◌, subst, add-zero, arith, take-add}
use Rattle.carrier.specs.declared.endings.Ending.{Ending}
use Rattle.carrier.specs.Pulls.{Adds}
use Rattle.chunks.specs.declared.machine.State.{State}
use Rattle.chunks.specs.declared.Chunks.{Chunks}
use Rattle.chunks.specs.Machine.{next_state, data_byte, over}
use Rattle.chunks.specs.Decoding.{state_after, data_in, drawn_in, cut_short, ending_at}
use Rattle.carrier.specs.Passing.{counted}
use Rattle.chunks.specs.Splitting.{state_after_append, data_in_append, drawn_over, drawn_more, behind, split_drawn, counted_more}
use Rattle.chunks.specs.Drawing.{Quiet, Came, Drew, Advanced}

-- single bytes are drawn here, and none of them is data
abbrev pub Silent : State → Type 0
Silent at = (over at ≡ false) × ((b : ℕ) → data_byte at b ≡ [])

pub ends_short : (at : State) (drawn : ℕ) (e : Ending) → over at ≡ false → ending_at at drawn e ≡ cut_short drawn e
ends_short at drawn e h = grind arith

-- one quiet byte more
quiet_more : (at to : State) (bs cs : List ℕ) (k b : ℕ) → Quiet at bs k to → drop k bs ≡ b ∷ cs → over to ≡ false → data_byte to b ≡ [] → Quiet at bs (k + 1) (next_state to b)
quiet_more at to bs cs k b q next live none =
    record {
      within =
          omega (
            arith,
            split_drawn at k bs q.within,
            ap (λ s. drawn_in s (drop k bs)) (sym q.leads) ∙ ap (drawn_in to) next ∙ drawn_more to b cs live,
          );
      silent =
          ap (data_in at) longer
          ∙ data_in_append at (take k bs) (b ∷ [])
          ∙ ap (λ l. l ++ data_in (behind at k bs) (b ∷ [])) q.silent
          ∙ ap (λ s. data_in s (b ∷ [])) (sym q.leads)
          ∙ ap (λ l. l ++ []) none;
      leads = ap (λ s. next_state s b) q.leads ∙ sym (state_after_append at (take k bs) (b ∷ [])) ∙ ap (state_after at) (sym longer);
    }
  where
    longer : take (k + 1) bs ≡ take k bs ++ (b ∷ [])
    longer = take-add k 1 bs ∙ ap (λ l. take k bs ++ take 1 l) next

-- the k bytes are all that are drawn
all_drawn : {C : Type 0} {coming : C → List ℕ} (ending : C → Ending) {lacks : C → ℕ → Bool → C → Type 0} (s : Chunks C) (k : ℕ) (u : Chunks C) (e : Ending) → Came coming lacks s k (not (over u.state)) u → drawn_in u.state (drop k (coming s.beneath)) ≡ 0 → ending_at u.state u.drawn (ending s.beneath) ≡ e → Advanced coming ending lacks s u (Err e)
all_drawn {coming} ending {lacks} s k u e came none ends =
    let all : k ≡ drawn_in s.state (coming s.beneath) = omega (arith, split_drawn s.state k (coming s.beneath) came.quiet.within, ap (λ i. drawn_in i (drop k (coming s.beneath))) came.quiet.leads) in
    (subst (λ n. Came coming lacks s n (not (over u.state)) u) all came, ends)

-- s came to t by k quiet bytes
module _ {C : Type 0} {coming : C → List ℕ} {ending : C → Ending} {lacks : C → ℕ → Bool → C → Type 0} (adds : Adds coming ending lacks) (s t : Chunks C) (k : ℕ) (came : Came coming lacks s k false t) where
  left : coming t.beneath ≡ drop k (coming s.beneath)
  left = (adds.spends s.beneath t.beneath k false came.lacked).1

  -- a byte more
  pub turn : (u : Chunks C) (b : ℕ) (then : State) → Silent t.state → Drew coming ending lacks t u (Ok b) → then ≡ next_state u.state b → Came coming lacks s (k + 1) false (record { beneath = u.beneath; state = then; drawn = u.drawn })
  turn u b then on drew led =
      record {
        quiet =
            subst (Quiet s.state (coming s.beneath) (k + 1)) (sym (led ∙ ap (λ i. next_state i b) drew.2)) (quiet_more s.state t.state (coming s.beneath) (coming u.beneath) k b came.quiet (sym left ∙ drew.0) on.0 (on.1 b));
        counts = drew.3 ∙ ap (λ d. counted d 1) came.counts ∙ counted_more s.drawn k 1;
        lacked = adds.joined s.beneath t.beneath u.beneath k 1 false false came.lacked drew.1;
      }

  pub stops : (at : State) (e : Ending) → t.state ≡ at → over at ≡ true → ending_at at t.drawn (ending s.beneath) ≡ e → Advanced coming ending lacks s t (Err e)
  stops at e is done ends =
      let here = ap over is ∙ done in
      all_drawn ending s k t e (record { quiet = came.quiet; counts = came.counts; lacked = subst (λ o. lacks s.beneath k (not o) t.beneath) (sym here) came.lacked }) (drawn_over t.state (drop k (coming s.beneath)) here) (ap (λ i. ending_at i t.drawn (ending s.beneath)) is ∙ ends)

  pub runs_dry : (u : Chunks C) (e : Ending) → over t.state ≡ false → Drew coming ending lacks t u (Err e) → Advanced coming ending lacks s u (Err e)
  runs_dry u e live drew =
      let same = ap over drew.3 ∙ live in
      let dry = subst (λ n. lacks s.beneath n true u.beneath) (add-zero k) (adds.joined s.beneath t.beneath u.beneath k 0 false true came.lacked drew.2) in
      all_drawn ending s k u e (record {
        quiet = subst (Quiet s.state (coming s.beneath) k) (sym drew.3) came.quiet;
        counts = drew.4 ∙ came.counts;
        lacked = subst (λ o. lacks s.beneath k (not o) u.beneath) (sym same) dry;
      }) (ap (drawn_in u.state) (sym left ∙ drew.0)) (
      ends_short u.state u.drawn (ending s.beneath) same ∙ ap (λ d. cut_short d (ending s.beneath)) drew.4 ∙ ap (cut_short t.drawn) (sym (adds.ends s.beneath t.beneath k false came.lacked)) ∙ drew.1
      )
