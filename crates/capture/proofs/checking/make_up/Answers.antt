use Rattle.std.proofs.Common.{◌/◌, length, sym, ap, refl, ◌∙◌, map, w32}
use Rattle.std.specs.Int.{from_le_bytes}
use Rattle.capture.specs.Captures.{pieced}
use Rattle.capture.proofs.Fours.{numbers_all}
use Rattle.capture.proofs.checking.make_up.Goals as goal

pub loop-piece-init : goal.loop-piece-init
loop-piece-init c =
    ap (λ ps. pieced (map (from_le_bytes w32) ps) c.args.count) c.as_chunks.ensures.front ∙ ap (λ ps. pieced ps c.args.count) (sym (numbers_all (length c.args.lengths.now / 4) c.args.lengths.now refl))
