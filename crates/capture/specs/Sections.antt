-- The three sections of a capture, each behind a count of its items.
use Rattle.std.specs.Prelude.{ℕ, ◌*◌, cond, List, [], ◌∷◌, length, take, drop, Ok, Err, Result, ◌==◌, nat_le, nat_lt}
use Rattle.capture.specs.declared.sections.CaptureRefusal.{CaptureRefusal}
use Rattle.capture.specs.declared.sections.CaptureRefusal.TheVariants.{TooManyPieces, CutShort}
use Rattle.capture.specs.Pieces.{number}

infixl 20 ◌>>=◌
-- goes on with what was found, unless there was a refusal
abbrev pub ◌>>=◌ : {A B : Type 0} → Result A CaptureRefusal → (A → Result B CaptureRefusal) → Result B CaptureRefusal
Ok a >>= f = f a
Err e >>= f = Err e

-- a count, and what follows it
abbrev pub counted : List ℕ → Result (ℕ × List ℕ) CaptureRefusal
counted [] = Err CutShort
counted (a ∷ []) = Err CutShort
counted (a ∷ b ∷ []) = Err CutShort
counted (a ∷ b ∷ c ∷ []) = Err CutShort
counted (a ∷ b ∷ c ∷ d ∷ bs) = Ok (number a b c d, bs)

-- the first so many bytes, and what follows them
abbrev pub parted : ℕ → List ℕ → Result (List ℕ × List ℕ) CaptureRefusal
parted n bs = cond (nat_le n (length bs)) (Ok (take n bs, drop n bs)) (Err CutShort)

-- a section whose items are bytes, and what follows it
abbrev pub section : List ℕ → Result (List ℕ × List ℕ) CaptureRefusal
section bs = counted bs >>= λ c. parted c.0 c.1

-- what the three hold: the lengths of at most 4,096 pieces, the bytes, and the ending, with nothing behind
abbrev pub sections : List ℕ → Result (List ℕ × List ℕ × List ℕ) CaptureRefusal
sections input = do
  pieces ← counted input
  lengths ← cond (nat_lt 4096 pieces.0) (Err TooManyPieces) (parted (4 * pieces.0) pieces.1)
  bytes ← section lengths.1
  ending ← section bytes.1
  cond (length ending.1 == 0) (Ok (lengths.0, bytes.0, ending.0)) (Err CutShort)
