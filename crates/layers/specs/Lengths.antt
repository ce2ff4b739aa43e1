-- The length layer: the first so many bytes beneath, and then a clean end.
--
-- left   how many bytes it is still to give
-- drawn  how many it has drawn from beneath since it was made
use Rattle.std.specs.Prelude.{◌≡◌, ℕ, ◌+◌, ◌-◌, ◌<◌, ◌≤◌, min, Bool, true, cond, ◌&&◌, ◌||◌, List, [], ◌∷◌, ◌++◌, map, length, take, drop, nat_lt}
use Rattle.std.proofs.Common.{subst, arith, length-drop}
use Rattle.std.proofs.lemmas.List.{drop-take}
use Rattle.std.proofs.lemmas.Grind.{common_steps}
use Rattle.std.proofs.Math.Bool.{and-or_distrib_right}
use Rattle.std.proofs.lemmas.Bool.{false≢true}
use Rattle.carrier.specs.declared.endings.Ending.{Ending}
use Rattle.carrier.specs.declared.endings.Ending.TheVariants.{Clean, Broken}
use Rattle.carrier.specs.declared.endings.Fault.{Fault}
use Rattle.carrier.specs.Pulls.{Adds, Spent}
use Rattle.layers.specs.declared.lengths.Length.{Length}
use Rattle.carrier.specs.Passing.{found, deeper, too_early, counted}

-- what is to come, with bs to come beneath
abbrev pub gives : ℕ → List ℕ → List ℕ
gives left bs = take left bs

-- the bytes beneath end before the length is full: the layer's own fault, unless they break off themselves
abbrev pub short : ℕ → Ending → Ending
short place e = too_early (found 6 place) e

-- the ending, with bs to come beneath and the ending e there
abbrev pub ends : ℕ → ℕ → List ℕ → Ending → Ending
ends left drawn bs e = cond (nat_lt (length bs) left) (short (counted drawn (length bs)) e) Clean

-- A new layer of length n, over a carrier with bs to come and the ending e, gives exactly so many bytes: the first n, or all
-- where there are fewer; and its ending is clean exactly when those are n, whatever stands beneath behind them.
pub record GivesExactlySoMany (n : ℕ) (bs : List ℕ) (e : Ending) (to_come : List ℕ) (ending : Ending) : Type 0 where
  pub many : length to_come ≡ min n (length bs)
  pub first : bs ≡ to_come ++ drop (length to_come) bs
  pub full : length to_come ≡ n → ending ≡ Clean
  pub clean : ending ≡ Clean → length to_come ≡ n
  pub early : length bs < n → e ≡ Clean → ending ≡ Broken (found 6 (length bs))
  pub broken : (f : Fault) → length bs < n → e ≡ Broken f → ending ≡ Broken (deeper f)

-- the same on examples: the length, the bytes and the ending beneath; the bytes and the ending that the layer then has
abbrev pub facts : List (ℕ × List ℕ × Ending × List ℕ × Ending)
facts =
    let abc : List ℕ = 0x41 ∷ 0x42 ∷ 0x43 ∷ [] in
    let fault : ℕ → Ending = λ depth. Broken (record { cause = 9; place = 2; depth = depth }) in
    (5, abc, Clean, abc, Broken (found 6 3))
    ∷ (3, abc, Clean, abc, Clean)
    ∷ (3, abc, fault 0, abc, Clean)
    ∷ (0, [], fault 0, [], Clean)
    ∷ (5, abc, fault 0, abc, fault 1)
    ∷ (5, abc, fault 255, abc, fault 255)
    ∷ []

abbrev pub LengthFacts : Type 0
LengthFacts = map {B = List ℕ × Ending} (λ r. (gives r.0 r.1, ends r.0 0 r.1 r.2)) facts ≡ map {B = List ℕ × Ending} (λ r. (r.3, r.4)) facts

-- `Uses s n b t`: t is s after it gave n bytes, with its ending told (b) or not. For that it has used the first n bytes
-- beneath, and the ending beneath only where that shows its own: fewer bytes came than the length asks for.
abbrev pub Uses : {C : Type 0} (coming : C → List ℕ) (lacks : C → ℕ → Bool → C → Type 0) → Length C → ℕ → Bool → Length C → Type 0
Uses coming lacks s n b t =
    (n ≤ s.left)
    × (t.left ≡ s.left - n)
    × (t.drawn ≡ counted s.drawn n)
    × (b ≡ true → gives t.left (coming t.beneath) ≡ [])
    × lacks s.beneath n (b && nat_lt (length (coming s.beneath)) s.left) t.beneath

-- once m bytes were given, the bytes beneath fall short of the length as before
still_short : (bs : List ℕ) (left m : ℕ) → m ≤ length bs → m ≤ left → nat_lt (length (drop m bs)) (left - m) ≡ nat_lt (length bs) left
still_short bs left m p q = grind (arith, common_steps)

pub ends_kept : (bs : List ℕ) (left drawn n : ℕ) (e : Ending) → n ≤ length bs → n ≤ left → ends (left - n) (counted drawn n) (drop n bs) e ≡ ends left drawn bs e
ends_kept bs left drawn n e p q =
    let falls_short = still_short bs left n p q in
    let place : counted (counted drawn n) (length (drop n bs)) ≡ counted drawn (length bs) = simp length-drop (omega arith) in cc

pub gives_rest : (bs : List ℕ) (left n : ℕ) → n ≤ left → gives (left - n) (drop n bs) ≡ drop n (gives left bs)
gives_rest bs left n p = let cut = drop-take n (left - n) bs in let all : n + (left - n) ≡ left = omega arith in cc

-- what the layer used adds up, if what the carrier beneath used does
module _ {C : Type 0} {coming : C → List ℕ} {ending : C → Ending} {lacks : C → ℕ → Bool → C → Type 0} (adds : Adds coming ending lacks) where
  -- the state after n bytes, where `Uses` holds
  module _ (s t : Length C) (n : ℕ) (b : Bool) (h : Uses coming lacks s n b t) where
    under : Spent (coming s.beneath) n (b && nat_lt (length (coming s.beneath)) s.left) (coming t.beneath)
    under = adds.spends _ _ n _ h.4

    length_spends : Spent (gives s.left (coming s.beneath)) n b (gives t.left (coming t.beneath))
    length_spends = let cut = gives_rest (coming s.beneath) s.left n h.0 in (grind (arith, common_steps, under), grind (arith, under), h.3)

    length_ends : ends t.left t.drawn (coming t.beneath) (ending t.beneath) ≡ ends s.left s.drawn (coming s.beneath) (ending s.beneath)
    length_ends =
        let same = adds.ends _ _ n _ h.4 in
        let kept = ends_kept (coming s.beneath) s.left s.drawn n (ending s.beneath) under.0 h.0 in cc under.1

  length_joined : (s t u : Length C) (m n : ℕ) (a b : Bool) → Uses coming lacks s m a t → Uses coming lacks t n b u → Uses coming lacks s (m + n) (a || b) u
  length_joined s t u m n a b p q =
      let first = under s t m a p in
      let rest = length_spends t u n b q in
      let as_short = still_short (coming s.beneath) s.left m first.0 p.0 in (
        omega arith,
        omega arith,
        omega arith,
        grind (arith, common_steps),
        subst (λ r. lacks s.beneath (m + n) r u.beneath) (grind (arith, and-or_distrib_right)) (adds.joined _ _ _ m n _ _ p.4 q.4),
      )

  pub length_adds : Adds {S = Length C} (λ s. gives s.left (coming s.beneath)) (λ s. ends s.left s.drawn (coming s.beneath) (ending s.beneath)) (Uses coming lacks)
  length_adds =
      record {
        spends = length_spends;
        ends = length_ends;
        same = λ s. (omega arith, omega arith, omega arith, λ no. absurd (false≢true no), adds.same s.beneath);
        joined = length_joined;
      }
