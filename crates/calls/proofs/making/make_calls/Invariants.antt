use Rattle.std.proofs.Common.{◌≡◌, drop, vec_items, vec_len, vec_capacity}
use Rattle.receiver.specs.Views.{Usage, Moved, view}
use Rattle.calls.specs.Calling.{calls_run}
use Rattle.calls.proofs.Turning.{and_then}
use Rattle.calls.proofs.making.make_calls.Given as goal

-- The replies so far, and then those of the calls to come.
abbrev pub invariant-loop-call : goal.invariant-loop-call
invariant-loop-call g l =
    let m = g.C.Carrier in
    record {
      many : vec_len l.replies ≡ l.call-index;
      room : vec_capacity l.replies ≡ vec_capacity l.initial.replies;
      on : (u : Usage)
          × Moved m l.initial.receiver l.receiver.standing u l.receiver
          × (and_then (vec_items l.replies) u (calls_run (view m l.receiver) l.work (drop l.call-index l.calls)) ≡ calls_run (view m l.initial.receiver) l.initial.work l.calls);
    }
