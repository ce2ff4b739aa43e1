use Rattle.std.proofs.Common.{ℕ, false, length}
use Rattle.chunks.specs.Drawing.{Came}
use Rattle.chunks.proofs.Chunks.advance.Given as goal

-- Some quiet bytes were drawn.
abbrev pub invariant-loop-self : goal.invariant-loop-self
invariant-loop-self g l = (k : ℕ) × Came g.C.Carrier.coming g.C.Carrier.lacks l.initial.self k false l.self

abbrev pub decreases-loop-self : goal.decreases-loop-self
decreases-loop-self g l = length (g.C.Carrier.coming l.self.beneath)
