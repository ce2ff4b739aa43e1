-- Captures and what the check says of them, worked out from the rules.
use Rattle.std.specs.Prelude.{◌≡◌, ℕ, List, [], ◌∷◌, Ok, Err, Result}
use Rattle.std.specs.List.{AllByRecursion}
use Rattle.carrier.specs.declared.endings.Ending.{Ending}
use Rattle.carrier.specs.declared.endings.Ending.TheVariants.{Clean, Broken}
use Rattle.capture.specs.declared.sections.CaptureRefusal.{CaptureRefusal}
use Rattle.capture.specs.declared.sections.CaptureRefusal.TheVariants.{TooManyPieces, CutShort, PiecesDisagree, BadEnding}
use Rattle.capture.specs.Captures.{checked}

pub record Example : Type 0 where
  pub input : List ℕ
  pub says : Result (List ℕ × List ℕ × Ending) CaptureRefusal

abbrev accepts : List ℕ → List ℕ → List ℕ → Ending → Example
accepts input pieces bytes ending = record { input = input; says = Ok (pieces, bytes, ending) }

abbrev refuses : List ℕ → CaptureRefusal → Example
refuses input why = record { input = input; says = Err why }

abbrev pub examples : List Example
examples =
    -- no pieces and no bytes
    accepts (0 ∷ 0 ∷ 0 ∷ 0 ∷ 0 ∷ 0 ∷ 0 ∷ 0 ∷ 1 ∷ 0 ∷ 0 ∷ 0 ∷ 0 ∷ []) [] [] Clean
    -- three bytes in two pieces, broken off behind them
    ∷ accepts (2 ∷ 0 ∷ 0 ∷ 0 ∷ 1 ∷ 0 ∷ 0 ∷ 0 ∷ 2 ∷ 0 ∷ 0 ∷ 0 ∷ 3 ∷ 0 ∷ 0 ∷ 0 ∷ 10 ∷ 11 ∷ 12 ∷ 1 ∷ 0 ∷ 0 ∷ 0 ∷ 1 ∷ []) (1 ∷ 2 ∷ []) (10 ∷ 11 ∷ 12 ∷ []) (Broken (record { cause = 7; place = 3; depth = 0 }))
    -- 4,097 pieces, by the count alone
    ∷ refuses (1 ∷ 16 ∷ 0 ∷ 0 ∷ []) TooManyPieces
    -- 4,096 pieces, and no length of one
    ∷ refuses (0 ∷ 16 ∷ 0 ∷ 0 ∷ []) CutShort
    -- nothing at all
    ∷ refuses [] CutShort
    -- a count of two endings, and one
    ∷ refuses (0 ∷ 0 ∷ 0 ∷ 0 ∷ 0 ∷ 0 ∷ 0 ∷ 0 ∷ 2 ∷ 0 ∷ 0 ∷ 0 ∷ 0 ∷ []) CutShort
    -- a byte behind the third section
    ∷ refuses (0 ∷ 0 ∷ 0 ∷ 0 ∷ 0 ∷ 0 ∷ 0 ∷ 0 ∷ 1 ∷ 0 ∷ 0 ∷ 0 ∷ 0 ∷ 0 ∷ []) CutShort
    -- an empty piece
    ∷ refuses (1 ∷ 0 ∷ 0 ∷ 0 ∷ 0 ∷ 0 ∷ 0 ∷ 0 ∷ 0 ∷ 0 ∷ 0 ∷ 0 ∷ 1 ∷ 0 ∷ 0 ∷ 0 ∷ 0 ∷ []) PiecesDisagree
    -- a piece of two bytes, with one there, and a wrong ending, which is looked at last
    ∷ refuses (1 ∷ 0 ∷ 0 ∷ 0 ∷ 2 ∷ 0 ∷ 0 ∷ 0 ∷ 1 ∷ 0 ∷ 0 ∷ 0 ∷ 10 ∷ 1 ∷ 0 ∷ 0 ∷ 0 ∷ 2 ∷ []) PiecesDisagree
    -- two endings
    ∷ refuses (0 ∷ 0 ∷ 0 ∷ 0 ∷ 0 ∷ 0 ∷ 0 ∷ 0 ∷ 2 ∷ 0 ∷ 0 ∷ 0 ∷ 0 ∷ 0 ∷ []) BadEnding
    -- no ending
    ∷ refuses (0 ∷ 0 ∷ 0 ∷ 0 ∷ 0 ∷ 0 ∷ 0 ∷ 0 ∷ 0 ∷ 0 ∷ 0 ∷ 0 ∷ []) BadEnding
    -- an ending that is neither
    ∷ refuses (0 ∷ 0 ∷ 0 ∷ 0 ∷ 0 ∷ 0 ∷ 0 ∷ 0 ∷ 1 ∷ 0 ∷ 0 ∷ 0 ∷ 2 ∷ []) BadEnding
    ∷ []

-- the definition says of each what the rules say
abbrev pub SaysSo : Type 0
SaysSo = AllByRecursion (λ x. checked x.input ≡ x.says) examples
