use Rattle.std.proofs.Common.{◌≡◌, map, drop, w32}
use Rattle.std.specs.Int.{from_le_bytes}
use Rattle.capture.specs.Pieces.{numbers}
use Rattle.capture.specs.Captures.{pieced}
use Rattle.capture.proofs.checking.make_up.Given as goal

-- The pieces still to test are to make up what is left.
abbrev pub invariant-loop-piece : goal.invariant-loop-piece
invariant-loop-piece l = pieced (map (from_le_bytes w32) (drop l.piece-index l.pieces)) l.left ≡ pieced (numbers l.lengths) l.count
