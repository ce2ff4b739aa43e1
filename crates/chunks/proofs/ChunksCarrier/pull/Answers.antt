use Rattle.std.proofs.Common.{◌<◌, ◌≤◌, length, refl, ◌∙◌, arith, rules, length-take}
use Rattle.std.proofs.lemmas.Result.{err_from_is_err_and}
use Rattle.chunks.proofs.Pulling.{gave, tells, tells_short}
use Rattle.chunks.proofs.ChunksCarrier.pull.Goals as goal

pub returns-in_err-left : goal.returns-in_err-left
returns-in_err-left g c =
    let told = err_from_is_err_and c.from_residual.result c.from_residual.ensures.1 in
    let owed = tells g.met.C.Carrier.adds c.args.self.now c.advance.new.self _ c.in_err-left.ensures c.args.out.now c.args.out.now (search rules) refl in
    rw (told.1, told.2) record { answers = owed.0; lacks = owed.1 }

pub returns-in_err-n : goal.returns-in_err-n
returns-in_err-n g c =
    let told = err_from_is_err_and c.from_residual-in_err-n.result c.from_residual-in_err-n.ensures.1 in
    let drew = c.in_err-n.ensures in
    let owed = tells_short g.met.C.Carrier.adds c.args.self.now c.advance.new.self c.draw.new.self c.in_ok-left.left _ c.args.out.now c.draw.new.out c.min-most.result c.in_ok-left.ensures (drew.answers.1, drew.answers.2, drew.lacks, drew.state, drew.drawn ∙ omega arith) (search rules) drew.answers.5 in
    rw (told.1, told.2) record { answers = owed.0; lacks = owed.1 }

pub returns : goal.returns
returns g c =
    let adv = c.in_ok-left.ensures in
    let drew = c.in_ok-n.ensures in
    let within : c.in_ok-n.n ≤ c.in_ok-left.left = omega (arith, simp length-take at drew.answers.1) in
    let some : 0 < c.in_ok-n.n = drew.answers.2 (simp length-take (let room : 0 < length c.args.out.now = search rules in omega (arith, adv.3))) in
    let owed = gave g.met.C.Carrier.adds c.args.self.now c.advance.new.self (record { beneath = c.draw.new.self.beneath; state = _; drawn = c.draw.new.self.drawn }) c.in_ok-left.left c.in_ok-n.n c.args.out.now c.draw.new.out c.min-most.result adv some within drew.answers.0 drew.lacks refl drew.drawn drew.answers.1 drew.answers.5 in
    record { answers = owed.0; lacks = owed.1 }
