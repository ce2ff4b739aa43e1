use Rattle.std.proofs.Common.{length, refl, sym, take-append-drop}
use Rattle.std.proofs.lemmas.Bool.{le-leb}
use Rattle.receiver.specs.Steps.{work_length}
use Rattle.receiver.specs.Views.{view}
use Rattle.receiver.proofs.Fronts.{pass_lent}
use Rattle.receiver.proofs.receiving.Receiver.pass.Goals as goal

pub returns-then-not-has_header : goal.returns-then-not-has_header
returns-then-not-has_header g c =
    let w = c.args.work.now in
    let lent = c.in-Some.ensures.cases in
    let long = le-leb work_length (length w) lent.enough in
    let none = sym c.if-not-has_header.ensures in
    rw (long, none, lent.same) (record { answer = refl; buffer = take-append-drop work_length w; moved = record { standing = refl; number = refl; lacks = g.met.C.Carrier.adds.same _ } })

pub returns : goal.returns
returns g c =
    let w = c.args.work.now in
    let lent = c.in-Some.ensures.cases in
    let long = le-leb work_length (length w) lent.enough in
    let some = sym c.if-not-has_header.ensures in
    let told = rw lent.same at c.pass_over.ensures in
    let same = pass_lent (view g.C.Carrier c.args.self.now) w _ work_length lent.enough told.buffer told.length in
    rw (long, some, same) (record { answer = rw told.answer; buffer = rw told.buffer; moved = told.moved })
