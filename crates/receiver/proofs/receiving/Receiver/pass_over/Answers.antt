use Rattle.std.proofs.Common.{sym, ap, ◌∙◌, rules}
use Rattle.receiver.specs.Passes.{counts}
use Rattle.receiver.proofs.Passing.{fewer, goes_on, stops}
use Rattle.receiver.proofs.receiving.Receiver.pass_over.Goals as goal

pub loop-counted-smaller-in-Delivered : goal.loop-counted-smaller-in-Delivered
loop-counted-smaller-in-Delivered g c =
    let told = c.advance-answer.ensures in
    fewer g.C.Carrier g.met.C.Carrier.adds told.moved (ap counts (sym told.answer) ∙ sym c.in-Some.ensures)

pub loop-counted-preserved-in-Delivered : goal.loop-counted-preserved-in-Delivered
loop-counted-preserved-in-Delivered g c =
    let before = c.loop-counted in
    let told = c.advance-answer.ensures in
    let is = ap counts (sym told.answer) ∙ sym c.in-Some.ensures in
    (search rules, goes_on g.C.Carrier g.met.C.Carrier.adds told.moved _ _ before.work _ before.delivered before.stale before.invariant.1 told.buffer _ is _ _ (rw (c.in-Delivered.is, c.saturating_add-delivered.ensures)))

pub loop-counted-smaller : goal.loop-counted-smaller
loop-counted-smaller g c =
    let told = c.advance-answer.ensures in
    fewer g.C.Carrier g.met.C.Carrier.adds told.moved (ap counts (sym told.answer) ∙ sym c.in-Some.ensures)

pub loop-counted-preserved : goal.loop-counted-preserved
loop-counted-preserved g c =
    let before = c.loop-counted in
    let told = c.advance-answer.ensures in
    let is = ap counts (sym told.answer) ∙ sym c.in-Some.ensures in
    (search rules, goes_on g.C.Carrier g.met.C.Carrier.adds told.moved _ _ before.work _ before.delivered before.stale before.invariant.1 told.buffer _ is _ _ (rw (c.in-Stale.is, c.saturating_add-stale.ensures)))

pub returns-in_default-clause-moved : goal.returns-in_default-clause-moved
returns-in_default-clause-moved g c =
    let before = c.loop-counted in
    let told = c.advance-answer.ensures in
    stops g.C.Carrier g.met.C.Carrier.adds told.moved _ _ before.work _ before.delivered before.stale before.invariant.1 told.buffer (ap counts (sym told.answer) ∙ sym c.in_default.ensures)
