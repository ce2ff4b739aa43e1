use Rattle.std.proofs.Common.{refl, rules}
use Rattle.carrier.proofs.Turns.{turn, full, ran_out_here}
use Rattle.carrier.proofs.filling.fill.Goals as goal

pub loop-came-preserved : goal.loop-came-preserved
loop-came-preserved g c =
    (refl, search rules, turn g.met.C.Carrier.adds c.loop-came.invariant.2 c.pull.new.self c.pull.new.out c.in-Ok.n c.in-Ok.ensures.answers c.in-Ok.ensures.lacks)

pub returns-in-Err : goal.returns-in-Err
returns-in-Err g c =
    ran_out_here g.met.C.Carrier.adds c.loop-came.invariant.2 c.pull.new.self c.pull.new.out _ c.loop-came-test.true c.in-Err.ensures.answers c.in-Err.ensures.lacks

pub returns : goal.returns
returns g c = full g.met.C.Carrier.adds c.loop-came.invariant.2 c.loop-came-test.false
