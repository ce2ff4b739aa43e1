use Rattle.std.proofs.Common.{◌≡◌, refl, ◌∙◌, arith}
use Rattle.receiver.specs.declared.answers.Answer.TheVariants as answer
use Rattle.receiver.proofs.Granted.{fewer}
use Rattle.exported.specs.Checksums.{mixed_answer}
use Rattle.exported.proofs.Turns.{granted, next_reads, last_read}
use Rattle.exported.proofs.receive_body.Goals as goal

pub loop-answer-smaller : goal.loop-answer-smaller
loop-answer-smaller g c =
    let to = granted g.C.Carrier c.loop-answer.receiver c.step.new.self c.loop-answer.work c.step.new.work c.in-Ok.answer (omega arith) c.in-Ok.ensures in
    fewer g.met.C.Carrier.adds to c.in-Event.is

pub loop-answer-preserved : goal.loop-answer-preserved
loop-answer-preserved g c =
    let inv = c.loop-answer.invariant in
    let to = granted g.C.Carrier c.loop-answer.receiver c.step.new.self c.loop-answer.work c.step.new.work c.in-Ok.answer (omega arith) c.in-Ok.ensures in
    let mixes : c.with_payload-sum.result.0 ≡ mixed_answer c.loop-answer.sum.0 (answer.Event c.in-Event.event) c.step.new.work = cc in
    record { number = to.told.moved.number ∙ inv.number; whole = next_reads g.met.C.Carrier.adds to c.in-Event.is c.loop-answer.sum.0 mixes ∙ inv.whole }

pub returns-in-End : goal.returns-in-End
returns-in-End g c =
    let inv = c.loop-answer.invariant in
    let to = granted g.C.Carrier c.loop-answer.receiver c.step.new.self c.loop-answer.work c.step.new.work c.in-Ok.answer (omega arith) c.in-Ok.ensures in
    let end = last_read g.met.C.Carrier.adds to c.in-End.is refl c.loop-answer.sum.0 c.with.ensures inv.whole in
    record { sum = end.sum; buffer = end.buffer; standing = end.standing; number = to.told.moved.number ∙ inv.number }

pub returns-in-Failed : goal.returns-in-Failed
returns-in-Failed g c =
    let inv = c.loop-answer.invariant in
    let to = granted g.C.Carrier c.loop-answer.receiver c.step.new.self c.loop-answer.work c.step.new.work c.in-Ok.answer (omega arith) c.in-Ok.ensures in
    let end = last_read g.met.C.Carrier.adds to c.in-Failed.is refl c.loop-answer.sum.0 c.with_failure.ensures inv.whole in
    record { sum = end.sum; buffer = end.buffer; standing = end.standing; number = to.told.moved.number ∙ inv.number }
