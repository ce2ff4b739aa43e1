-- The test of the pieces, as a fact on each.
use Rattle.std.proofs.Common.{ℕ, ◌<◌, ltb, List, Decides, refl}
use Rattle.std.specs.List.{AllByRecursion}
use Rattle.std.proofs.lemmas.Bool.Decides.{Decides-ltb}
use Rattle.std.proofs.ByRecursion.{Decides-by_and}
use Rattle.capture.specs.Pieces.{none_empty}

pub none_empty_decides : (ps : List ℕ) → Decides (none_empty ps) (AllByRecursion (λ p. 0 < p) ps)
none_empty_decides ps = Decides-by_and (λ p. ltb 0 p) (λ p. 0 < p) none_empty (λ p. Decides-ltb 0 p) refl (λ _ _. refl) ps
