-- What a capture holds, how it comes of a byte string, and what a Pull takes from it.
use Rattle.std.specs.Prelude.{◌≡◌, ℕ, zero, suc, ◌-◌, min, List, [], ◌∷◌, Ok, Err, Result}
use Rattle.carrier.specs.declared.endings.Ending.{Ending}
use Rattle.capture.specs.declared.Capture.{Capture}
use Rattle.capture.specs.declared.sections.CaptureRefusal.{CaptureRefusal}
use Rattle.capture.specs.Pieces.{numbers, to_come}
use Rattle.capture.specs.Captures.{checked, captured}

-- the lengths of the pieces to come, what is left of the one being handed out first
abbrev pub pieces : Capture → List ℕ
pieces c = to_come c.left (numbers c.lengths.now)

-- all that is to come: the pieces, their bytes, and the ending behind them
abbrev pub held : Capture → List ℕ × List ℕ × Ending
held c = (pieces c, c.bytes.now, c.ending)

-- the bytes and the ending: what it gives as a carrier
abbrev pub carried : Capture → List ℕ × Ending
carried c = (c.bytes.now, c.ending)

-- what was read of a byte string is a capture of all that it holds, or why it is none
abbrev pub Holds : List ℕ → Result Capture CaptureRefusal → Type 0
Holds input (Ok c) = checked input ≡ Ok (held c)
Holds input (Err e) = checked input ≡ Err e

-- and as a carrier it is to give what the byte string has for one
abbrev pub Carries : List ℕ → Result Capture CaptureRefusal → Type 0
Carries input (Ok c) = captured input ≡ Ok (carried c)
Carries input (Err e) = captured input ≡ Err e

-- the answer of a Pull, with these pieces and this ending to come, into a stretch of so many bytes: it takes from the first piece alone
abbrev pub answer : List ℕ → Ending → ℕ → Result ℕ Ending
answer ps e zero = Ok 0
answer [] e (suc room) = Err e
answer (p ∷ ps) e (suc room) = Ok (min p (suc room))

-- the pieces to come once so many bytes of the first were taken
abbrev pub less : ℕ → List ℕ → List ℕ
less n [] = []
less n (p ∷ ps) = to_come (p - n) ps
