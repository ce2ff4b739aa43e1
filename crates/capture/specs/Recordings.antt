-- A recorded connection as it is written down, said without reference to how it is checked.
use Rattle.std.specs.Prelude.{◌≡◌, ℕ, ◌+◌, ◌*◌, ◌<◌, ◌≤◌, ◌↔◌, List, [], ◌∷◌, ◌++◌, length, Ok}
use Rattle.std.specs.List.{AllByRecursion}
use Rattle.carrier.specs.declared.endings.Ending.{Ending}
use Rattle.carrier.specs.declared.endings.Ending.TheVariants.{Clean, Broken}
use Rattle.capture.specs.Pieces.{total}
use Rattle.capture.specs.Captures.{checked, fault_at}

-- four bytes write a number, the low one first
abbrev pub Writes : ℕ → List ℕ → Type 0
Writes n bs = (a : ℕ) × (b : ℕ) × (c : ℕ) × (d : ℕ) × (bs ≡ a ∷ b ∷ c ∷ d ∷ []) × (n ≡ a + 256 * b + 65536 * c + 16777216 * d)

-- bytes write numbers, one behind the other
abbrev pub WritesAll : List ℕ → List ℕ → Type 0
WritesAll [] bs = bs ≡ []
WritesAll (n ∷ ns) bs = (front : List ℕ) × (rest : List ℕ) × (bs ≡ front ++ rest) × Writes n front × WritesAll ns rest

-- a section: a count in four bytes, and its items behind it
abbrev pub Section : ℕ → List ℕ → List ℕ → Type 0
Section n items bs = (count : List ℕ) × (bs ≡ count ++ items) × Writes n count

-- one byte marks an ending behind so many bytes: 0 a clean one, 1 a broken one
abbrev pub Marks : ℕ → ℕ → Ending → Type 0
Marks mark n Clean = mark ≡ 0
Marks mark n (Broken f) = (mark ≡ 1) × (f ≡ fault_at n)

-- the input records a connection whose bytes came in these pieces, with this ending behind them
pub record Recorded (pieces bytes : List ℕ) (ending : Ending) (input : List ℕ) : Type 0 where
  pub lengths : List ℕ
  pub mark : ℕ
  pub first : List ℕ
  pub second : List ℕ
  pub third : List ℕ
  pub laid : input ≡ first ++ (second ++ third)
  pub first_section : Section (length pieces) lengths first
  pub second_section : Section (length bytes) bytes second
  pub third_section : Section 1 (mark ∷ []) third
  pub writes : WritesAll pieces lengths
  pub few : length pieces ≤ 4096
  pub full : AllByRecursion (λ p. 0 < p) pieces
  pub adds : total pieces ≡ length bytes
  pub marks : Marks mark (length bytes) ending

-- the check accepts exactly what records a connection, and finds its pieces, its bytes and its ending
abbrev pub AcceptsExactlyCaptures : Type 0
AcceptsExactlyCaptures =
    (pieces bytes : List ℕ) (ending : Ending) (input : List ℕ) → (checked input ≡ Ok (pieces, bytes, ending)) ↔ Recorded pieces bytes ending input
