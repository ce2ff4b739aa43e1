-- What a byte string holds as a capture, or why it is none.
use Rattle.std.specs.Prelude.{ℕ, zero, suc, Bool, cond, ◌&&◌, List, [], ◌∷◌, length, Ok, Err, Result, ◌==◌}
use Rattle.carrier.specs.declared.endings.Fault.{Fault}
use Rattle.carrier.specs.declared.endings.Ending.{Ending}
use Rattle.carrier.specs.declared.endings.Ending.TheVariants.{Clean, Broken}
use Rattle.carrier.specs.Passing.{found}
use Rattle.capture.specs.declared.sections.CaptureRefusal.{CaptureRefusal}
use Rattle.capture.specs.declared.sections.CaptureRefusal.TheVariants as refusal
use Rattle.capture.specs.Pieces.{numbers, total, none_empty}
use Rattle.capture.specs.Sections.{◌>>=◌, sections}

-- why a capture is refused, by its number
abbrev pub refusal_number : CaptureRefusal → ℕ
refusal_number refusal.TooManyPieces = 61
refusal_number refusal.CutShort = 62
refusal_number refusal.PiecesDisagree = 63
refusal_number refusal.BadEnding = 64

-- the pieces are none of them empty, and make up so many bytes
abbrev pub pieced : List ℕ → ℕ → Bool
pieced ps n = none_empty ps && total ps == n

-- what a broken connection tells after so many bytes
abbrev pub fault_at : ℕ → Fault
fault_at = found 7

-- the ending that the third section tells, behind so many bytes
abbrev pub ended : List ℕ → ℕ → Result Ending CaptureRefusal
ended [] n = Err refusal.BadEnding
ended (zero ∷ []) n = Ok Clean
ended (suc zero ∷ []) n = Ok (Broken (fault_at n))
ended (suc (suc e) ∷ []) n = Err refusal.BadEnding
ended (e ∷ f ∷ es) n = Err refusal.BadEnding

-- the lengths of the pieces, the bytes, and the ending behind them
abbrev pub checked : List ℕ → Result (List ℕ × List ℕ × Ending) CaptureRefusal
checked input = do
  held ← sections input
  ending ← cond (pieced (numbers held.0) (length held.1)) (ended held.2 (length held.1)) (Err refusal.PiecesDisagree)
  Ok (numbers held.0, held.1, ending)

-- the bytes and the ending alone: what a carrier over the capture is to give
abbrev pub captured : List ℕ → Result (List ℕ × Ending) CaptureRefusal
captured input = checked input >>= λ held. Ok (held.1, held.2)
