-- What the answer of filling a stretch tells of the bytes to come.
use Rattle.std.proofs.Common.{◌≡◌, ℕ, ◌<◌, ◌≤◌, List, length, Ok, Err, arith}
use Rattle.std.proofs.lemmas.Grind.{common_steps}
use Rattle.carrier.specs.declared.endings.Ending.{Ending}
use Rattle.carrier.specs.declared.filling.Short.{Short}
use Rattle.carrier.specs.Fills.{fills}

module _ (bs : List ℕ) (e : Ending) (size : ℕ) where
  pub full_fill : Ok tt ≡ fills bs e size → size ≤ length bs
  full_fill is = grind (arith, common_steps)

  pub short_fill : (short : Short) → Err short ≡ fills bs e size → (length bs < size) × (short.came ≡ length bs) × (short.ending ≡ e)
  short_fill short is = grind (arith, common_steps)
