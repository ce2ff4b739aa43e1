use Rattle.std.proofs.Common.{false}
use Rattle.receiver.proofs.Draws.{head_came}
use Rattle.receiver.proofs.drawing.draw.Goals as goal

pub returns : goal.returns
returns g c =
    let m = g.C.Carrier in
    let adds = g.met.C.Carrier.adds in
    let s = c.args.carrier.now in
    let t = c.fill.new.carrier in
    let told = c.in_ok-fill.ensures in
    let (long, head, four) = head_came (m.coming s) (m.ending s) _ _ told.answer told.bytes c.in_ok-head.ensures in
    let gave = rw four at told.lacks in
    let left = (adds.spends s t 4 false gave).1 in
    let ends = adds.ends s t 4 false gave in
    let rest = c.draw_rest.ensures in
    record {
      answer = rw (long, head, ← left, ← ends) rest.answer;
      buffer = rw (long, head, ← left) rest.buffer;
      lacks = rw (long, head, ← left) (adds.joined s t _ _ _ false _ gave rest.lacks);
    }
