-- What a Pull may answer, and what a carrier lacks afterwards.
--
-- coming   the body bytes that a carrier is still to give
-- ending   what stands behind them: a clean end, or a fault
-- stretch  the memory that a Pull may write to
use Rattle.std.specs.Prelude.{◌≡◌, ℕ, ◌+◌, ◌<◌, ◌≤◌, Bool, true, false, ◌||◌, List, [], ◌++◌, length, take, drop, Ok, Err, Result}
use Rattle.carrier.specs.declared.endings.Ending.{Ending}

-- `Answers bs e w r bs' e' w'`: with bs to come and the ending e, a Pull into the stretch w may answer r, and leaves bs', e' and w'.
-- How many bytes n it takes is its own choice within these bounds: none for an empty stretch, at least one for any other.
abbrev pub Answers : List ℕ → Ending → List ℕ → Result ℕ Ending → List ℕ → Ending → List ℕ → Type 0
Answers bs e w (Ok n) bs' e' w' =
    (n ≤ length bs) × (n ≤ length w) × (0 < length w → 0 < n) × (bs' ≡ drop n bs) × (e' ≡ e) × (w' ≡ take n bs ++ drop n w)
Answers bs e w (Err f) bs' e' w' = (0 < length w) × (bs ≡ []) × (e ≡ f) × (bs' ≡ []) × (e' ≡ e) × (w' ≡ w)

-- how many bytes an answer gave
abbrev pub given : Result ℕ Ending → ℕ
given (Ok n) = n
given (Err e) = 0

-- whether it told the ending
abbrev pub told : Result ℕ Ending → Bool
told (Ok n) = false
told (Err e) = true

-- bs' is bs less its first n bytes; and nothing is left where the ending was told
abbrev pub Spent : List ℕ → ℕ → Bool → List ℕ → Type 0
Spent bs n b bs' = (n ≤ length bs) × (bs' ≡ drop n bs) × (b ≡ true → bs' ≡ [])

-- What a carrier's `lacks` keeps to: it follows what is to come and the ending; a carrier that gave nothing lacks nothing; and what two runs of Pulls used adds up.
pub record Adds {S : Type 0} (coming : S → List ℕ) (ending : S → Ending) (lacks : S → ℕ → Bool → S → Type 0) : Type 0 where
  pub spends : (s t : S) (n : ℕ) (b : Bool) → lacks s n b t → Spent (coming s) n b (coming t)
  pub ends : (s t : S) (n : ℕ) (b : Bool) → lacks s n b t → ending t ≡ ending s
  pub same : (s : S) → lacks s 0 false s
  pub joined : (s t u : S) (m n : ℕ) (a b : Bool) → lacks s m a t → lacks t n b u → lacks s (m + n) (a || b) u
