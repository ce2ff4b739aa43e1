use Rattle.std.proofs.Common.{append_assoc, arith}
use Rattle.listing.proofs.Turns.{fewer, next_lines}
use Rattle.listing.proofs.listings.list_answers.Goals as goal

pub loop-answer-smaller : goal.loop-answer-smaller
loop-answer-smaller g c = fewer g.met.C.Carrier.adds _ (omega arith) c.in-Ok.ensures.answer c.in-Ok.ensures.moved c.in-Event.is

pub loop-answer-preserved : goal.loop-answer-preserved
loop-answer-preserved g c =
    let next = next_lines g.met.C.Carrier.adds _ (omega arith) c.in-Ok.ensures.answer c.in-Ok.ensures.moved c.in-Event.is in
    rw (c.in_ok-write.ensures.bytes, append_assoc, next) c.loop-answer.invariant
