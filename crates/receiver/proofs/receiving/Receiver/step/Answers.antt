use Rattle.std.proofs.Common.{length, Ok, ap}
use Rattle.std.proofs.lemmas.Bool.{le-leb}
use Rattle.receiver.specs.Steps.{work_length, advance_front}
use Rattle.receiver.specs.Views.{view}
use Rattle.receiver.proofs.Fronts.{lent_lies}
use Rattle.receiver.proofs.receiving.Receiver.step.Goals as goal

pub returns : goal.returns
returns g c =
    let w = c.args.work.now in
    let lent = c.in-Some.ensures.cases in
    let long = le-leb work_length (length w) lent.enough in
    let told = rw lent.same at c.advance.ensures in
    rw long (record { answer = ap Ok told.answer; buffer = lent_lies (advance_front (view g.C.Carrier c.args.self.now)) w _ work_length lent.enough told.buffer told.length; moved = told.moved })
