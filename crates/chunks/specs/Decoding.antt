-- The data and the ending that the bytes beneath come to.
use Rattle.std.specs.Prelude.{ℕ, zero, suc, ◌-◌, cond, List, [], ◌∷◌, ◌++◌, length}
use Rattle.carrier.specs.declared.endings.Fault.{Fault}
use Rattle.carrier.specs.declared.endings.Ending.{Ending}
use Rattle.carrier.specs.declared.endings.Ending.TheVariants.{Clean, Broken}
use Rattle.carrier.specs.Passing.{found, too_early, counted}
use Rattle.chunks.specs.declared.machine.ChunkCause.{ChunkCause}
use Rattle.chunks.specs.declared.machine.ChunkCause.TheVariants.{EndsEarly}
use Rattle.chunks.specs.declared.machine.State.{State}
use Rattle.chunks.specs.declared.machine.State.TheVariants as state
use Rattle.chunks.specs.Machine.{next_state, data_byte, over, cause_number}

-- the state behind some bytes
abbrev pub state_after : State → List ℕ → State
state_after at [] = at
state_after at (b ∷ bs) = state_after (next_state at b) bs

-- the data bytes among them
abbrev pub data_in : State → List ℕ → List ℕ
data_in at [] = []
data_in at (b ∷ bs) = data_byte at b ++ data_in (next_state at b) bs

-- how many of them are drawn until the body is over, or they are
abbrev pub drawn_in : State → List ℕ → ℕ
drawn_in at [] = 0
drawn_in at (b ∷ bs) = cond (over at) 0 (suc (drawn_in (next_state at b) bs))

-- how many of them are drawn through the data byte by number
abbrev pub drawn_through : State → ℕ → List ℕ → ℕ
drawn_through at zero bs = 0
drawn_through at (suc n) [] = 0
drawn_through at (suc n) (b ∷ bs) = suc (drawn_through (next_state at b) (suc n - length (data_byte at b)) bs)

-- a fault that the layer itself finds, with so many bytes drawn
abbrev pub own_fault : ChunkCause → ℕ → Fault
own_fault c drawn = found (cause_number c) drawn

-- the ending where the bytes beneath end before the body is over
abbrev pub cut_short : ℕ → Ending → Ending
cut_short drawn e = too_early (own_fault EndsEarly drawn) e

-- the ending in a state that no byte leads on from, with so many bytes drawn and e behind them
abbrev pub ending_at : State → ℕ → Ending → Ending
ending_at (state.Size digits value) drawn e = cut_short drawn e
ending_at (state.Extension length value) drawn e = cut_short drawn e
ending_at (state.SizeCr value) drawn e = cut_short drawn e
ending_at (state.Data left) drawn e = cut_short drawn e
ending_at state.DataCr drawn e = cut_short drawn e
ending_at (state.Trailer length at) drawn e = cut_short drawn e
ending_at state.Done drawn e = Clean
ending_at (state.Failed c) drawn e = Broken (own_fault c drawn)

-- the ending of a body from a state on, with so many bytes drawn before
abbrev pub ending_in : State → ℕ → List ℕ → Ending → Ending
ending_in at drawn bs e = ending_at (state_after at bs) (counted drawn (drawn_in at bs)) e
