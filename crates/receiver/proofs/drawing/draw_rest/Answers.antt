use Rattle.std.proofs.Common.{◌≡◌, Ok, arith, rules, length-take}
use Rattle.carrier.specs.Fills.{ran_out as was_short}
use Rattle.receiver.specs.Draws.{ran_out}
use Rattle.receiver.proofs.Draws.{fixed_small, behind_fields}
use Rattle.receiver.proofs.drawing.draw_rest.Goals as goal

pub returns-in_err-map_err-2-clause-buffer : goal.returns-in_err-map_err-2-clause-buffer
returns-in_err-map_err-2-clause-buffer g c =
    let came : c.fill.result ≡ Ok tt = search rules in
    let first = rw came at c.fill.ensures in
    let small = fixed_small c.args.head.kind in
    let behind = behind_fields g.met.C.Carrier.adds c.args.head c.requires (simp length-take (omega arith)) first.answer first.lacks c.args.work.now _ (omega arith) (omega arith) in
    behind.lies _ c.fill-2.ensures.bytes

pub returns-in_err-map_err-2-clause-lacks : goal.returns-in_err-map_err-2-clause-lacks
returns-in_err-map_err-2-clause-lacks g c =
    let out : ran_out c.from_residual-in_err-map_err-2.result ≡ was_short c.fill-2.result = search rules in
    let came : c.fill.result ≡ Ok tt = search rules in
    let first = rw came at c.fill.ensures in
    let small = fixed_small c.args.head.kind in
    let behind = behind_fields g.met.C.Carrier.adds c.args.head c.requires (simp length-take (omega arith)) first.answer first.lacks c.args.work.now _ (omega arith) (omega arith) in
    rw out (behind.lack _ _ c.fill-2.ensures.lacks)

pub returns : goal.returns
returns g c =
    let came : c.fill.result ≡ Ok tt = search rules in
    let first = rw came at c.fill.ensures in
    let all : c.fill-2.result ≡ Ok tt = search rules in
    let told = rw all at c.fill-2.ensures in
    let small = fixed_small c.args.head.kind in
    let behind = behind_fields g.met.C.Carrier.adds c.args.head c.requires (simp length-take (omega arith)) first.answer first.lacks c.args.work.now _ (omega arith) (omega arith) in
    record {
      answer = behind.whole told.answer _ _ _ first.bytes c.fields_of.result c.fields_of.ensures;
      buffer = behind.lies _ told.bytes;
      lacks = behind.lack _ _ told.lacks;
    }
