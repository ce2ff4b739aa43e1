-- What filling a stretch by repeated Pulls comes to.
use Rattle.std.specs.Prelude.{ℕ, min, Bool, true, false, cond, List, ◌++◌, length, take, drop, Ok, Err, Result, nat_le}
use Rattle.carrier.specs.declared.endings.Ending.{Ending}
use Rattle.carrier.specs.declared.filling.Short.{Short}

-- the answer, with bs to come, the ending e and a stretch of so many bytes
abbrev pub fills : List ℕ → Ending → ℕ → Result (Unit {0}) Short
fills bs e size = cond (nat_le size (length bs)) (Ok tt) (Err (record { came = length bs; ending = e }))

-- what the stretch w then holds
abbrev pub stretched : List ℕ → List ℕ → List ℕ
stretched bs w = take (length w) bs ++ drop (length bs) w

-- how many bytes that used
abbrev pub used : List ℕ → ℕ → ℕ
used bs size = min size (length bs)

-- whether the ending was told on the way
abbrev pub ran_out : Result (Unit {0}) Short → Bool
ran_out (Ok _) = false
ran_out (Err _) = true
