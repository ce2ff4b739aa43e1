-- Four bytes in front, and the number that they write.
use Rattle.std.proofs.Common.{◌≡◌, ℕ, zero, suc, ◌≤◌, ◌/◌, List, [], ◌∷◌, length, take, drop, map, w32, refl, ap, ◌∙◌, arith, length-drop}
use Rattle.std.specs.Int.{from_le_bytes}
use Rattle.std.specs.Simd.{first_chunks}
use Rattle.capture.specs.Pieces.{number, numbers}

pub numbers_first : (bs : List ℕ) (n : ℕ) → 4 ≤ length bs → n ≡ from_le_bytes w32 (take 4 bs) → numbers bs ≡ n ∷ numbers (drop 4 bs)
numbers_first [] n h e = absurd (omega arith)
numbers_first (a ∷ []) n h e = absurd (omega arith)
numbers_first (a ∷ b ∷ []) n h e = absurd (omega arith)
numbers_first (a ∷ b ∷ c ∷ []) n h e = absurd (omega arith)
numbers_first (a ∷ b ∷ c ∷ d ∷ bs) n h e = let same : number a b c d ≡ n = omega arith in ap (λ m. m ∷ numbers bs) same

-- all of them
pub numbers_all : (k : ℕ) (bs : List ℕ) → k ≡ length bs / 4 → numbers bs ≡ map (from_le_bytes w32) (first_chunks 4 k bs)
numbers_all zero [] h = refl
numbers_all zero (a ∷ []) h = refl
numbers_all zero (a ∷ b ∷ []) h = refl
numbers_all zero (a ∷ b ∷ c ∷ []) h = refl
numbers_all zero (a ∷ b ∷ c ∷ d ∷ bs) h = absurd (omega arith)
numbers_all (suc k) bs h =
    numbers_first bs (from_le_bytes w32 (take 4 bs)) (omega arith) refl
    ∙ ap (λ ps. from_le_bytes w32 (take 4 bs) ∷ ps) (numbers_all k (drop 4 bs) (omega (arith, length-drop 4 bs)))
