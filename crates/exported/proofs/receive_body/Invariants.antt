use Rattle.std.proofs.Common.{◌≡◌, length}
use Rattle.receiver.specs.Views.{view}
use Rattle.exported.specs.Reading.{reads_from}
use Rattle.exported.proofs.receive_body.Given as goal

-- The whole reading is what is still to be read from here.
abbrev pub invariant-loop-answer : goal.invariant-loop-answer
invariant-loop-answer g l =
    let m = g.C.Carrier in
    record {
      number : l.receiver.number ≡ l.initial.receiver.number;
      whole : reads_from (view m l.receiver) l.work l.sum.0 ≡ reads_from (view m l.initial.receiver) l.initial.work 1;
    }

-- Each event takes bytes from the carrier.
abbrev pub decreases-loop-answer : goal.decreases-loop-answer
decreases-loop-answer g l = length (g.C.Carrier.coming l.receiver.carrier)
