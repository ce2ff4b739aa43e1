-- Lines of a listing by example.
use Rattle.std.specs.Prelude.{◌≡◌, ℕ, List, [], ◌∷◌, codes}
use Prim.Native.String.{String}
use Rattle.carrier.specs.Passing.{found}
use Rattle.packet.specs.declared.grammar.Letter.{Letter}
use Rattle.packet.specs.declared.grammar.Letter.TheVariants as letter
use Rattle.packet.specs.declared.wire.Fields.{Fields}
use Rattle.receiver.specs.declared.answers.Answer.{Answer}
use Rattle.receiver.specs.declared.answers.Answer.TheVariants as answer
use Rattle.receiver.specs.declared.answers.StepFault.TheVariants as fault
use Rattle.receiver.specs.Steps.{failure}
use Rattle.listing.specs.Lines.{line_of}

-- LocationId, Incarnation, AFFlags, PacketSize and Reason
abbrev pub sample_fields : ℕ → ℕ → ℕ → ℕ → ℕ → Fields
sample_fields location incarnation flags size reason =
    record { location_id = location; incarnation = incarnation; af_flags = flags; packet_size = size; reason = reason }

-- a letter, its place and entry, the fields and the payload's length
abbrev pub sample_event : Letter → ℕ → ℕ → Fields → ℕ → Answer
sample_event l place entry fs payload =
    answer.Event (record { letter = l; place = place; entry = entry; fields = fs; payload_length = payload })

-- answers, each with the text of its line: a body of four packets and its clean end, a body that ends early,
-- and a carrier that broke
abbrev pub samples : List (Answer × String)
samples =
    (sample_event letter.Header 0 1 (sample_fields 0 5 0x0C 10 0) 2, "H 0 1 0 5 2 0\n")
    ∷ (sample_event letter.Data 14 1 (sample_fields 7 5 0 9 0) 1, "D 14 1 7 5 1 0\n")
    ∷ (sample_event letter.Stale 27 1 (sample_fields 8 4 1 8 0) 0, "S 27 1 8 4 0 0\n")
    ∷ (sample_event letter.EndOfStream 39 1 (sample_fields 0 0 0 0 0) 0, "E 39 1 0 0 0 0\n")
    ∷ (answer.End 47, ". 47\n")
    ∷ (answer.Failed (failure fault.EndsEarly 39), "! 28 39\n")
    ∷ (answer.Failed (failure (fault.CarrierBroke (found 7 12)) 12), "! 29 12 7 12 0\n")
    ∷ []

-- each has that line
abbrev pub Lined : List (Answer × String) → Type 0
Lined [] = Unit {0}
Lined (sample ∷ rest) = (line_of sample.0 ≡ codes sample.1) × Lined rest

abbrev pub SampleLines : Type 0
SampleLines = Lined samples
