-- What each byte of a chunked body does to where a reader stands in it.
use Rattle.std.specs.Prelude.{ℕ, zero, suc, ◌+◌, ◌-◌, ◌*◌, ◌%◌, ◌^◌, Bool, true, false, cond, ◌&&◌, List, [], ◌∷◌, Some, None, Option, ◌==◌, nat_le, nat_lt}
use Rattle.chunks.specs.declared.machine.ChunkCause.{ChunkCause}
use Rattle.chunks.specs.declared.machine.ChunkCause.TheVariants as cause
use Rattle.chunks.specs.declared.machine.Line.{Line}
use Rattle.chunks.specs.declared.machine.Line.TheVariants as line
use Rattle.chunks.specs.declared.machine.State.{State}
use Rattle.chunks.specs.declared.machine.State.TheVariants as state

-- the value of a hexadecimal digit, of either case
abbrev pub digit_of : ℕ → Option ℕ
digit_of b = cond (nat_le 48 b && nat_le b 57) (Some (b - 48)) (cond (nat_le 65 b && nat_le b 70) (Some (b - 55)) (cond (nat_le 97 b && nat_le b 102) (Some (b - 87)) None))

-- no more than 7 digits stand before another, so that the remainder takes nothing away
abbrev pub after_digit : ℕ → ℕ → ℕ → State
after_digit digits value d = cond (nat_lt digits 8) (state.Size (digits + 1) (value % 2 ^ 28 * 16 + d)) (state.Failed cause.NinthDigit)

-- a byte that is no digit: what may follow the last of them
abbrev pub after_digits : ℕ → ℕ → ℕ → State
after_digits digits value b =
    cond (digits == 0) (state.Failed cause.BadSizeLine) (cond (b == 13) (state.SizeCr value) (cond (b == 59) (state.Extension 1 value) (state.Failed cause.BadSizeLine)))

abbrev pub after_size : ℕ → ℕ → ℕ → Option ℕ → State
after_size digits value b (Some d) = after_digit digits value d
after_size digits value b None = after_digits digits value b

abbrev pub after_extension : ℕ → ℕ → ℕ → State
after_extension length value b =
    cond (b == 13) (state.SizeCr value) (cond (b == 10) (state.Failed cause.BadSizeLine) (cond (nat_lt length 256) (state.Extension (length + 1) value) (state.Failed cause.LongExtension)))

abbrev pub after_size_line : ℕ → State
after_size_line zero = state.Trailer 0 line.Start
after_size_line (suc n) = state.Data (suc n)

abbrev pub after_size_cr : ℕ → ℕ → State
after_size_cr value b = cond (b == 10) (after_size_line value) (state.Failed cause.BadSizeLine)

abbrev pub after_data : ℕ → ℕ → State
after_data zero b = cond (b == 13) state.DataCr (state.Failed cause.NoLineEnd)
after_data (suc left) b = state.Data left

abbrev pub after_data_cr : ℕ → State
after_data_cr b = cond (b == 10) (state.Size 0 0) (state.Failed cause.NoLineEnd)

-- where in a line of the trailer another byte leads; none where the byte ends the trailer
abbrev pub line_after : Line → ℕ → Option Line
line_after line.Start b = cond (b == 13) (Some line.StartCr) (Some line.Inside)
line_after line.StartCr b = cond (b == 10) None (cond (b == 13) (Some line.InsideCr) (Some line.Inside))
line_after line.Inside b = cond (b == 13) (Some line.InsideCr) (Some line.Inside)
line_after line.InsideCr b = cond (b == 10) (Some line.Start) (cond (b == 13) (Some line.InsideCr) (Some line.Inside))

-- a byte of the trailer, of which `length` bytes came before it: where the 1,024th does not end it, it is too long
abbrev pub after_trailer : ℕ → Option Line → State
after_trailer length (Some at) = cond (nat_lt length 1023) (state.Trailer (length + 1) at) (state.Failed cause.LongTrailer)
after_trailer length None = state.Done

-- a byte leads from each state to the next; the last two draw no byte
abbrev pub next_state : State → ℕ → State
next_state (state.Size digits value) b = after_size digits value b (digit_of b)
next_state (state.Extension length value) b = after_extension length value b
next_state (state.SizeCr value) b = after_size_cr value b
next_state (state.Data left) b = after_data left b
next_state state.DataCr b = after_data_cr b
next_state (state.Trailer length at) b = after_trailer length (line_after at b)
next_state state.Done b = state.Done
next_state (state.Failed c) b = state.Failed c

-- the data byte that a byte is, if it is one
abbrev pub data_byte : State → ℕ → List ℕ
data_byte (state.Size digits value) b = []
data_byte (state.Extension length value) b = []
data_byte (state.SizeCr value) b = []
data_byte (state.Data zero) b = []
data_byte (state.Data (suc left)) b = b ∷ []
data_byte state.DataCr b = []
data_byte (state.Trailer length at) b = []
data_byte state.Done b = []
data_byte (state.Failed c) b = []

-- whether the body is over, well or not
abbrev pub over : State → Bool
over (state.Size digits value) = false
over (state.Extension length value) = false
over (state.SizeCr value) = false
over (state.Data left) = false
over state.DataCr = false
over (state.Trailer length at) = false
over state.Done = true
over (state.Failed c) = true

abbrev pub cause_number : ChunkCause → ℕ
cause_number cause.BadSizeLine = 1
cause_number cause.NinthDigit = 2
cause_number cause.LongExtension = 3
cause_number cause.NoLineEnd = 4
cause_number cause.LongTrailer = 5
cause_number cause.EndsEarly = 6
