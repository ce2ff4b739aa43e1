-- Worked examples of all layers: one fact over one list.
use Rattle.std.specs.Prelude.{◌≡◌, ℕ, ◌-◌, true, List, [], ◌∷◌, map, length}
use Rattle.carrier.specs.declared.endings.Ending.{Ending}
use Rattle.carrier.specs.declared.endings.Ending.TheVariants.{Clean, Broken}
use Rattle.carrier.specs.Passing.{passed}
use Rattle.chunks.specs.Decoding.{data_in, ending_in}
use Rattle.chunks.specs.Layer.{used_for}
use Rattle.chunks.specs.Laws.{start}
use Rattle.layers.specs.Lengths as lengths
use Rattle.layers.specs.Leftovers as leftovers

-- a new chunk layer, a new length layer, and a leftover layer that bytes were just loaded into
pub data Layer : Type 0 where
  chunked : Layer
  of_length : ℕ → Layer
  loaded : List ℕ → Layer

pub record Outcome : Type 0 where
  pub gives : List ℕ
  pub ends : Ending
  -- how many bytes beneath are used once all was given and the ending told
  pub uses : ℕ

-- what a layer comes to over a carrier with the bytes bs to come and the ending e
abbrev pub comes_to : Layer → List ℕ → Ending → Outcome
comes_to chunked bs e =
    let found = data_in start bs in record { gives = found; ends = ending_in start 0 bs e; uses = used_for start (length found) true bs }
comes_to (of_length n) bs e =
    let first = lengths.gives n bs in record { gives = first; ends = lengths.ends n 0 bs e; uses = length first }
comes_to (loaded front) bs e =
    let all = leftovers.gives front bs in record { gives = all; ends = passed e; uses = length all - length front }

pub record Example : Type 0 where
  pub layer : Layer
  -- the bytes and the ending beneath
  pub bytes : List ℕ
  pub behind : Ending
  pub outcome : Outcome

abbrev pub abc : List ℕ
abc = 0x41 ∷ 0x42 ∷ 0x43 ∷ []

-- an ending by a fault
abbrev pub fault : ℕ → ℕ → ℕ → Ending
fault cause place depth = Broken (record { cause = cause; place = place; depth = depth })

abbrev pub all_examples : List Example
all_examples =
    -- 3 CR LF ABC CR LF 0 CR LF CR LF
    record {
      layer = chunked;
      bytes = 0x33 ∷ 13 ∷ 10 ∷ 0x41 ∷ 0x42 ∷ 0x43 ∷ 13 ∷ 10 ∷ 0x30 ∷ 13 ∷ 10 ∷ 13 ∷ 10 ∷ [];
      behind = Clean;
      outcome = record { gives = abc; ends = Clean; uses = 13 };
    }
    -- 3 CR LF ABCX
    ∷ record {
      layer = chunked;
      bytes = 0x33 ∷ 13 ∷ 10 ∷ 0x41 ∷ 0x42 ∷ 0x43 ∷ 0x58 ∷ [];
      behind = Clean;
      outcome = record { gives = abc; ends = fault 4 7 0; uses = 7 };
    }
    -- 3 CR LF AB
    ∷ record {
      layer = chunked;
      bytes = 0x33 ∷ 13 ∷ 10 ∷ 0x41 ∷ 0x42 ∷ [];
      behind = Clean;
      outcome = record { gives = 0x41 ∷ 0x42 ∷ []; ends = fault 6 5 0; uses = 5 };
    }
    -- 3 CR LF A, and a fault beneath
    ∷ record {
      layer = chunked;
      bytes = 0x33 ∷ 13 ∷ 10 ∷ 0x41 ∷ [];
      behind = fault 9 4 1;
      outcome = record { gives = 0x41 ∷ []; ends = fault 9 4 2; uses = 4 };
    }
    -- 0 ; CR LF CR CR LF CR LF 0
    ∷ record {
      layer = chunked;
      bytes = 0x30 ∷ 0x3B ∷ 13 ∷ 10 ∷ 13 ∷ 13 ∷ 10 ∷ 13 ∷ 10 ∷ 0x30 ∷ [];
      behind = Clean;
      outcome = record { gives = []; ends = Clean; uses = 9 };
    }
    -- length 5 over ABC
    ∷ record { layer = of_length 5; bytes = abc; behind = Clean; outcome = record { gives = abc; ends = fault 6 3 0; uses = 3 } }
    ∷ record { layer = of_length 3; bytes = abc; behind = Clean; outcome = record { gives = abc; ends = Clean; uses = 3 } }
    ∷ record { layer = of_length 3; bytes = abc; behind = fault 9 2 0; outcome = record { gives = abc; ends = Clean; uses = 3 } }
    ∷ record { layer = of_length 2; bytes = abc; behind = Clean; outcome = record { gives = 0x41 ∷ 0x42 ∷ []; ends = Clean; uses = 2 } }
    ∷ record { layer = of_length 0; bytes = []; behind = fault 9 2 0; outcome = record { gives = []; ends = Clean; uses = 0 } }
    ∷ record { layer = of_length 5; bytes = abc; behind = fault 9 2 0; outcome = record { gives = abc; ends = fault 9 2 1; uses = 3 } }
    ∷ record { layer = of_length 5; bytes = abc; behind = fault 9 2 255; outcome = record { gives = abc; ends = fault 9 2 255; uses = 3 } }
    -- AB loaded over C
    ∷ record { layer = loaded (0x41 ∷ 0x42 ∷ []); bytes = 0x43 ∷ []; behind = Clean; outcome = record { gives = abc; ends = Clean; uses = 1 } }
    ∷ record { layer = loaded (0x41 ∷ 0x42 ∷ []); bytes = 0x43 ∷ []; behind = fault 9 2 0; outcome = record { gives = abc; ends = fault 9 2 1; uses = 1 } }
    ∷ []

-- each example comes to what its row says
abbrev pub ExamplesHold : Type 0
ExamplesHold = map (λ x. comes_to x.layer x.bytes x.behind) all_examples ≡ map (λ x. x.outcome) all_examples
