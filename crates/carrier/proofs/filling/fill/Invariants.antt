use Rattle.std.proofs.Common.{◌≡◌, ◌-◌, length}
use Rattle.carrier.proofs.Turns.{Filled}
use Rattle.carrier.proofs.filling.fill.Given as goal

-- The first `came` bytes to come stand in front, and exactly those are used.
abbrev pub invariant-loop-came : goal.invariant-loop-came
invariant-loop-came g l =
    (l.len ≡ length l.initial.out)
    × (length l.out ≡ length l.initial.out)
    × Filled g.C.Carrier.coming g.C.Carrier.lacks l.initial.carrier l.initial.out l.came l.carrier l.out

abbrev pub decreases-loop-came : goal.decreases-loop-came
decreases-loop-came g l = l.len - l.came
