use Rattle.std.proofs.Common.{◌≡◌, length}
use Rattle.receiver.specs.Views.{view}
use Rattle.receiver.specs.Passes.{passes}
use Rattle.receiver.proofs.Passing.{OnTheWay}
use Rattle.receiver.proofs.receiving.Receiver.pass_over.Given as goal

-- The whole Pass is what is still to be passed from here.
abbrev pub invariant-loop-counted : goal.invariant-loop-counted
invariant-loop-counted g l =
    let m = g.C.Carrier in
    (length l.work ≡ length l.initial.work)
    × OnTheWay m l.initial.self (passes (view m l.initial.self) l.initial.work) l.self l.work l.delivered l.stale

abbrev pub decreases-loop-counted : goal.decreases-loop-counted
decreases-loop-counted g l = length (g.C.Carrier.coming l.self.carrier)
