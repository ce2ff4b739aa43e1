use Rattle.std.proofs.Common.{sym, refl, ap, arith}
use Rattle.std.proofs.lemmas.Result.{err_from_is_err_and}
use Rattle.carrier.specs.declared.endings.Ending.TheVariants.{Broken}
use Rattle.chunks.proofs.Advancing.{Silent, turn, stops, runs_dry}
use Rattle.chunks.proofs.Chunks.advance.Goals as goal

pub returns-in-Done : goal.returns-in-Done
returns-in-Done g c =
    let inv = c.loop-self.invariant in
    stops g.met.C.Carrier.adds c.args.self.now c.loop-self.self inv.0 inv.1 _ _ c.in-Done.is refl refl

pub returns-in-Failed : goal.returns-in-Failed
returns-in-Failed g c =
    let inv = c.loop-self.invariant in
    stops g.met.C.Carrier.adds c.args.self.now c.loop-self.self inv.0 inv.1 _ _ c.in-Failed.is refl (ap Broken (sym c.fault.ensures))

pub loop-self-preserved : goal.loop-self-preserved
loop-self-preserved g c =
    let inv = c.loop-self.invariant in
    let on : Silent c.loop-self.self.state = grind arith in
    (_, turn g.met.C.Carrier.adds c.args.self.now c.loop-self.self inv.0 inv.1 c.draw_byte.new.self c.in_ok-byte-in_default.byte _ on c.in_ok-byte-in_default.ensures c.next_state-self.ensures)

pub returns-in_err-byte-in_default : goal.returns-in_err-byte-in_default
returns-in_err-byte-in_default g c =
    let inv = c.loop-self.invariant in
    let told = err_from_is_err_and c.from_residual.result c.from_residual.ensures.1 in
    let on : Silent c.loop-self.self.state = grind arith in
    rw (told.1, told.2) (runs_dry g.met.C.Carrier.adds c.args.self.now c.loop-self.self inv.0 inv.1 c.draw_byte.new.self _ on.0 c.in_err-byte-in_default.ensures)
