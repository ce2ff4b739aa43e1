-- The pieces to come, as one is begun and handed out.
use Rattle.std.proofs.Common.{◌≡◌, ℕ, zero, suc, ◌+◌, ◌-◌, ◌<◌, ◌≤◌, min, true, List, [], ◌∷◌, length, take, drop, w32, Ok, Err, sym, refl, ap, ◌∙◌, arith}
use Rattle.std.specs.Int.{from_le_bytes}
use Rattle.carrier.specs.declared.endings.Ending.{Ending}
use Rattle.capture.specs.Replays.{answer}
use Rattle.capture.specs.Captures.{pieced}
use Rattle.capture.specs.Pieces.{numbers, total, none_empty, to_come}
use Rattle.capture.proofs.Fours.{numbers_first}

pub to_come_some : (n : ℕ) (ps : List ℕ) → 0 < n → to_come n ps ≡ n ∷ ps
to_come_some zero ps h = absurd (omega arith)
to_come_some (suc n) ps h = refl

pub few_to_come : (m n : ℕ) (ps : List ℕ) → m ≤ n → length (to_come m ps) ≤ length (to_come n ps)
few_to_come zero zero ps h = omega arith
few_to_come zero (suc n) ps h = omega arith
few_to_come (suc m) zero ps h = absurd (omega arith)
few_to_come (suc m) (suc n) ps h = omega arith

-- what it means that the pieces to come make up so many bytes
pub made_up_parts : (n : ℕ) (ps : List ℕ) (size : ℕ) → pieced (to_come n ps) size ≡ true → (none_empty ps ≡ true) × (n + total ps ≡ size)
made_up_parts zero ps size h = grind arith
made_up_parts (suc n) ps size h = grind arith

-- what is left of a piece after some of it was handed out
pub made_up_handed : (left n : ℕ) (ps : List ℕ) (size rest : ℕ) → n ≤ left → rest + n ≡ size → pieced (to_come left ps) size ≡ true → pieced (to_come (left - n) ps) rest ≡ true
made_up_handed left n ps size rest h r m = let sums = made_up_parts left ps size m in from (left - n) (omega arith)
  where
    from : (k : ℕ) → k + total ps ≡ rest → pieced (to_come k ps) rest ≡ true
    from zero e = grind arith
    from (suc k) e = grind arith

-- the next piece is not empty, and once begun it is still the first to come
pub begun : (left n size : ℕ) (bs rest : List ℕ) → left ≡ 0 → 4 ≤ length bs → n ≡ from_le_bytes w32 (take 4 bs) → rest ≡ drop 4 bs → pieced (to_come left (numbers bs)) size ≡ true → (0 < n) × (to_come n (numbers rest) ≡ to_come left (numbers bs))
begun left n size bs rest z h e r made_up =
    let next : to_come left (numbers bs) ≡ n ∷ numbers rest = ap (λ m. to_come m (numbers bs)) z ∙ numbers_first bs n h e ∙ ap (λ xs. n ∷ numbers xs) (sym r) in
    let m : pieced (n ∷ numbers rest) size ≡ true = ap (λ ps. pieced ps size) (sym next) ∙ made_up in
    let full : 0 < n = grind arith in
    (full, to_come_some n (numbers rest) full ∙ sym next)

pub answer_told : (ps : List ℕ) (e : Ending) (room : ℕ) → ps ≡ [] → 0 < room → answer ps e room ≡ Err e
answer_told ps e zero q h = absurd (omega arith)
answer_told ps e (suc room) q h = ap (λ xs. answer xs e (suc room)) q

pub answer_taken : (p : ℕ) (ps : List ℕ) (e : Ending) (room n : ℕ) → 0 < room → n ≡ min room p → answer (p ∷ ps) e room ≡ Ok n
answer_taken p ps e zero n h m = absurd (omega arith)
answer_taken p ps e (suc room) n h m = ap Ok (omega arith)
