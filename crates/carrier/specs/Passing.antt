-- How a layer passes on the ending beneath it, and counts what it draws.
use Rattle.std.specs.Prelude.{ℕ, ◌+◌, ◌-◌, ◌^◌, min}
use Rattle.carrier.specs.declared.endings.Ending.{Ending}
use Rattle.carrier.specs.declared.endings.Ending.TheVariants.{Clean, Broken}
use Rattle.carrier.specs.declared.endings.Fault.{Fault}

-- a fault that its finder tells: no layer stands above it
abbrev pub found : ℕ → ℕ → Fault
found cause place = record { cause = cause; place = place; depth = 0 }

-- a fault from beneath: one layer more stands above its finder; depths stop at 255
abbrev pub deeper : Fault → Fault
deeper f = record { cause = f.cause; place = f.place; depth = min (f.depth + 1) 255 }

-- an ending from beneath
abbrev pub passed : Ending → Ending
passed Clean = Clean
passed (Broken f) = Broken (deeper f)

-- an ending from beneath where more is wanted: a clean one is a fault of the layer's own
abbrev pub too_early : Fault → Ending → Ending
too_early early Clean = Broken early
too_early early (Broken f) = Broken (deeper f)

-- a count of bytes drawn, after so many more; places stop at 2^64 - 1
abbrev pub counted : ℕ → ℕ → ℕ
counted drawn more = drawn + min more (2 ^ 64 - 1 - drawn)
