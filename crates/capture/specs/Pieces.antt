-- The pieces that bytes came in, by their lengths.
use Rattle.std.specs.Prelude.{ℕ, zero, suc, ◌+◌, ◌*◌, Bool, true, ◌&&◌, List, [], ◌∷◌, nat_lt}

-- the number that four bytes write, the low one first
abbrev pub number : ℕ → ℕ → ℕ → ℕ → ℕ
number a b c d = a + 256 * b + 65536 * c + 16777216 * d

-- the numbers that bytes write, four to each
abbrev pub numbers : List ℕ → List ℕ
numbers [] = []
numbers (a ∷ []) = []
numbers (a ∷ b ∷ []) = []
numbers (a ∷ b ∷ c ∷ []) = []
numbers (a ∷ b ∷ c ∷ d ∷ bs) = number a b c d ∷ numbers bs

-- how many bytes the pieces have together
abbrev pub total : List ℕ → ℕ
total [] = 0
total (p ∷ ps) = p + total ps

-- none is empty
abbrev pub none_empty : List ℕ → Bool
none_empty [] = true
none_empty (p ∷ ps) = nat_lt 0 p && none_empty ps

-- the pieces to come: what is left of the one being handed out, if any is, and those not begun
abbrev pub to_come : ℕ → List ℕ → List ℕ
to_come zero ps = ps
to_come (suc n) ps = suc n ∷ ps
