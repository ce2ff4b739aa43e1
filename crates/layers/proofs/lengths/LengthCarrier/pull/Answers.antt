use Rattle.std.proofs.Common.{◌≡◌, Ok, arith, rules}
use Rattle.layers.proofs.Draws.{drew}
use Rattle.layers.proofs.lengths.LengthCarrier.pull.Goals as goal

pub returns-clause-answers : goal.returns-clause-answers
returns-clause-answers g c =
    let m = g.C.Carrier in
    let s = c.args.self.now in
    let took : c.pull.result ≡ Ok c.in_ok-n.n = search rules in
    let told = c.pull.ensures.answers in
    drew (m.coming s.beneath) _ c.args.out.now c.pull.new.out (m.ending s.beneath) _ s.left s.drawn _ c.min-most.result c.in_ok-n.n (omega arith) (omega arith) (omega arith) (rw took at told)
