-- The leftover layer: the bytes loaded into it, and then those beneath.
use Rattle.std.specs.Prelude.{◌≡◌, ℕ, zero, suc, ◌+◌, ◌-◌, Bool, true, false, cond, ◌||◌, List, [], ◌∷◌, ◌++◌, map, length, take, drop, Ok, Err, Result, nat_lt, refl}
use Rattle.std.proofs.Common.{ap, subst, ◌∙◌, arith, length-drop}
use Rattle.std.proofs.lemmas.Grind.{common_steps}
use Rattle.std.proofs.lemmas.Bool.{false≢true}
use Rattle.carrier.specs.declared.endings.Ending.{Ending}
use Rattle.carrier.specs.declared.endings.Ending.TheVariants.{Clean, Broken}
use Rattle.carrier.specs.declared.endings.Fault.{Fault}
use Rattle.carrier.specs.Pulls.{Adds, Spent}
use Rattle.layers.specs.declared.leftovers.Leftover.{Leftover}
use Rattle.layers.specs.declared.leftovers.LoadRefusal.{LoadRefusal}
use Rattle.layers.specs.declared.leftovers.LoadRefusal.TheVariants.{TooManyBytes, StillLoaded}
use Rattle.carrier.specs.Passing.{deeper, passed}

-- the loaded bytes that remain: they stand at the back of the array, from `at` on
abbrev pub held : {C : Type 0} → Leftover C → List ℕ
held s = take (4096 - s.at) (drop s.at s.bytes)

-- what is to come, with bs to come beneath
abbrev pub gives : List ℕ → List ℕ → List ℕ
gives loaded bs = loaded ++ bs

-- what `load` answers, with so many loaded bytes remaining and so many given
abbrev pub loads : ℕ → ℕ → Result (Unit {0}) LoadRefusal
loads remaining more = cond (nat_lt 4096 more) (Err TooManyBytes) (cond (nat_lt 0 remaining) (Err StillLoaded) (Ok tt))

abbrev pub refusal_number : LoadRefusal → ℕ
refusal_number TooManyBytes = 71
refusal_number StillLoaded = 72

-- The loaded bytes come first, then those beneath, and the ending is the one beneath.
pub record LoadedFirst (loaded bs : List ℕ) (e : Ending) (to_come : List ℕ) (ending : Ending) : Type 0 where
  pub first : take (length loaded) to_come ≡ loaded
  pub then : drop (length loaded) to_come ≡ bs
  pub clean : e ≡ Clean → ending ≡ Clean
  pub broken : (f : Fault) → e ≡ Broken f → ending ≡ Broken (deeper f)

-- when a load is granted, on examples: how many loaded bytes remain, how many are given, and the answer
abbrev pub facts : List (ℕ × ℕ × Result (Unit {0}) LoadRefusal)
facts =
    (0, 0, Ok tt)
    ∷ (0, 4096, Ok tt)
    ∷ (0, 4097, Err TooManyBytes)
    ∷ (1, 0, Err StillLoaded)
    ∷ (1, 4096, Err StillLoaded)
    ∷ (1, 4097, Err TooManyBytes)
    ∷ []

abbrev pub LoadFacts : Type 0
LoadFacts = map (λ r. loads r.0 r.1) facts ≡ map (λ r. r.2) facts

-- `Uses s n b t`: t is s after it gave n bytes, with its ending told (b) or not. The loaded bytes went first, so that of the
-- bytes beneath it has used the rest of the n, and the ending beneath once it told its own.
abbrev pub Uses : {C : Type 0} (lacks : C → ℕ → Bool → C → Type 0) → Leftover C → ℕ → Bool → Leftover C → Type 0
Uses lacks s n b t =
    (held t ≡ drop n (held s))
    × (b ≡ true → held t ≡ [])
    × lacks s.beneath (n - length (held s)) b t.beneath

drop_both : (xs ys : List ℕ) (n : ℕ) → drop n (xs ++ ys) ≡ drop n xs ++ drop (n - length xs) ys
drop_both [] ys n = grind (arith, common_steps)
drop_both (x ∷ xs) ys zero = grind (arith, common_steps)
drop_both (x ∷ xs) ys (suc n) = grind (arith, drop_both xs ys n)

-- what the layer used adds up, if what the carrier beneath used does
module _ {C : Type 0} {coming : C → List ℕ} {ending : C → Ending} {lacks : C → ℕ → Bool → C → Type 0} (adds : Adds coming ending lacks) where
  leftover_spends : (s t : Leftover C) (n : ℕ) (b : Bool) → Uses lacks s n b t → Spent (gives (held s) (coming s.beneath)) n b (gives (held t) (coming t.beneath))
  leftover_spends s t n b h =
      let under = adds.spends _ _ _ b h.2 in (
        grind (arith, common_steps),
        grind (arith, drop_both),
        grind (arith, common_steps),
      )

  leftover_joined : (s t u : Leftover C) (m n : ℕ) (a b : Bool) → Uses lacks s m a t → Uses lacks t n b u → Uses lacks s (m + n) (a || b) u
  leftover_joined s t u m n a b p q = (
    grind (arith, common_steps),
    grind (arith, common_steps),
    subst (λ k. lacks s.beneath k (a || b) u.beneath) (omega (arith, ap length p.0 ∙ length-drop m (held s))) (adds.joined _ _ _ _ _ a b p.2 q.2),
  )

  pub leftover_adds : Adds {S = Leftover C} (λ s. gives (held s) (coming s.beneath)) (λ s. passed (ending s.beneath)) (Uses lacks)
  leftover_adds =
      record {
        spends = leftover_spends;
        ends = λ s t n b h. ap passed (adds.ends _ _ _ b h.2);
        same = λ s. (refl, λ no. absurd (false≢true no), subst (λ k. lacks s.beneath k false s.beneath) (omega arith) (adds.same s.beneath));
        joined = leftover_joined;
      }
