use Rattle.std.proofs.Common.{length, w32, ap, ◌∙◌, arith}
use Rattle.std.specs.Int.{from_le_bytes}
use Rattle.capture.proofs.Coming.{begun}
use Rattle.capture.proofs.Capture.begin.Goals as goal

pub invariant_of-self : goal.invariant_of-self
invariant_of-self c =
    let now = c.args.self.now in
    let (piece, rest, size) = c.in-Some.ensures.cases in
    let same = begun now.left c.from_le_bytes-self.result (length now.bytes.now) now.lengths.now c.in-Some.rest.now c.if-self-eq0.true (omega arith) (c.from_le_bytes-self.ensures ∙ ap (from_le_bytes w32) piece) rest now.made_up in
    record { few = rw same.1 now.few; made_up = rw same.1 now.made_up }
