-- What decoding from the start of a body comes to, by the grammar and by worked examples.
use Rattle.std.specs.Prelude.{◌≡◌, ℕ, ◌≤◌, List, [], ◌∷◌, ◌++◌, length, take}
use Rattle.carrier.specs.declared.endings.Fault.{Fault}
use Rattle.carrier.specs.declared.endings.Ending.{Ending}
use Rattle.carrier.specs.declared.endings.Ending.TheVariants.{Clean, Broken}
use Rattle.chunks.specs.declared.machine.State.{State}
use Rattle.chunks.specs.declared.machine.State.TheVariants.{Size}
use Rattle.chunks.specs.Decoding.{data_in, drawn_in, ending_in}
use Rattle.chunks.specs.Grammar.{Body}

-- at the start of a size line
abbrev pub start : State
start = Size 0 0

-- decoding ends clean, with the data d and u bytes used, exactly where the first u bytes are a chunked body with the data d
abbrev pub CleanExactly : Type 0
CleanExactly =
    (bs d : List ℕ) (e : Ending) (u : ℕ)
    → ((ending_in start 0 bs e ≡ Clean) × (data_in start bs ≡ d) × (drawn_in start bs ≡ u) → (u ≤ length bs) × Body (take u bs) d)
    × ((u ≤ length bs) × Body (take u bs) d → (ending_in start 0 bs e ≡ Clean) × (data_in start bs ≡ d) × (drawn_in start bs ≡ u))

-- where a fault of causes 1 to 5 is told that was found here, no chunked body begins with the bytes drawn
abbrev pub NoneGoesOn : Type 0
NoneGoesOn =
    (bs : List ℕ) (e : Ending) (f : Fault)
    → ending_in start 0 bs e ≡ Broken f
    → f.depth ≡ 0
    → f.cause ≤ 5
    → (more d : List ℕ)
    → Body (take (drawn_in start bs) bs ++ more) d
    → ⊥

pub record Example : Type 0 where
  pub bytes : List ℕ
  -- what stands behind them
  pub behind : Ending
  pub gives : List ℕ
  pub ends : Ending
  pub uses : ℕ

abbrev pub Holds : Example → Type 0
Holds x = (data_in start x.bytes ≡ x.gives) × (ending_in start 0 x.bytes x.behind ≡ x.ends) × (drawn_in start x.bytes ≡ x.uses)

abbrev pub AllHold : List Example → Type 0
AllHold [] = Unit {0}
AllHold (x ∷ xs) = Holds x × AllHold xs

abbrev pub examples : List Example
examples =
    -- 3 CR LF ABC CR LF 0 CR LF CR LF
    record {
      bytes = 51 ∷ 13 ∷ 10 ∷ 65 ∷ 66 ∷ 67 ∷ 13 ∷ 10 ∷ 48 ∷ 13 ∷ 10 ∷ 13 ∷ 10 ∷ [];
      behind = Clean;
      gives = 65 ∷ 66 ∷ 67 ∷ [];
      ends = Clean;
      uses = 13;
    }
    -- 3 CR LF ABCX
    ∷ record {
      bytes = 51 ∷ 13 ∷ 10 ∷ 65 ∷ 66 ∷ 67 ∷ 88 ∷ [];
      behind = Clean;
      gives = 65 ∷ 66 ∷ 67 ∷ [];
      ends = Broken (record { cause = 4; place = 7; depth = 0 });
      uses = 7;
    }
    -- 3 CR LF AB
    ∷ record {
      bytes = 51 ∷ 13 ∷ 10 ∷ 65 ∷ 66 ∷ [];
      behind = Clean;
      gives = 65 ∷ 66 ∷ [];
      ends = Broken (record { cause = 6; place = 5; depth = 0 });
      uses = 5;
    }
    -- 3 CR LF A, and a fault beneath
    ∷ record {
      bytes = 51 ∷ 13 ∷ 10 ∷ 65 ∷ [];
      behind = Broken (record { cause = 9; place = 4; depth = 1 });
      gives = 65 ∷ [];
      ends = Broken (record { cause = 9; place = 4; depth = 2 });
      uses = 4;
    }
    -- 0 ; CR LF CR CR LF CR LF 0
    ∷ record {
      bytes = 48 ∷ 59 ∷ 13 ∷ 10 ∷ 13 ∷ 13 ∷ 10 ∷ 13 ∷ 10 ∷ 48 ∷ [];
      behind = Clean;
      gives = [];
      ends = Clean;
      uses = 9;
    }
    ∷ []

abbrev pub ExamplesHold : Type 0
ExamplesHold = AllHold examples
