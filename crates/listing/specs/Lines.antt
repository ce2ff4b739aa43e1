-- The lines of a listing, as lists of bytes.
use Rattle.std.specs.Prelude.{ℕ, List, [], ◌∷◌, ◌++◌, codes, decimal}
use Rattle.capture.specs.declared.sections.CaptureRefusal.{CaptureRefusal}
use Rattle.capture.specs.Captures.{refusal_number}
use Rattle.packet.specs.declared.grammar.Event.{Event}
use Rattle.packet.specs.declared.grammar.Letter.{Letter}
use Rattle.packet.specs.declared.grammar.Letter.TheVariants as letter
use Rattle.receiver.specs.declared.answers.Answer.{Answer}
use Rattle.receiver.specs.declared.answers.Answer.TheVariants as answer
use Rattle.receiver.specs.declared.answers.Failure.{Failure}
use Rattle.receiver.specs.declared.answers.StepFault.{StepFault}
use Rattle.receiver.specs.declared.answers.StepFault.TheVariants as fault
use Rattle.receiver.specs.Steps.{step_fault_number}

-- the fields of a line, one space between two, and a line feed behind the last
abbrev pub row : List ℕ → List (List ℕ) → List ℕ
row first [] = first ++ codes "\n"
row first (next ∷ rest) = first ++ (codes " " ++ row next rest)

-- the letter that a packet is told by
abbrev pub letter_text : Letter → List ℕ
letter_text letter.StreamChange = codes "C"
letter_text letter.Data = codes "D"
letter_text letter.EndOfStream = codes "E"
letter_text letter.Header = codes "H"
letter_text letter.Metadata = codes "M"
letter_text letter.PacketPair = codes "P"
letter_text letter.Stale = codes "S"

-- the letter, place, entry, LocationId, Incarnation, payload length and Reason
abbrev pub event_line_of : Event → List ℕ
event_line_of e =
    row (letter_text e.letter)
    (decimal e.place
    ∷ decimal e.entry
    ∷ decimal e.fields.location_id
    ∷ decimal e.fields.incarnation
    ∷ decimal e.payload_length
    ∷ decimal e.fields.reason
    ∷ [])

-- the carrier's cause, place and depth, where it broke
abbrev pub carrier_fields : StepFault → List (List ℕ)
carrier_fields (fault.Packet f) = []
carrier_fields fault.EndsEarly = []
carrier_fields (fault.CarrierBroke f) = decimal f.cause ∷ decimal f.place ∷ decimal f.depth ∷ []

-- the fault's number and place, and what the carrier tells
abbrev pub failure_line_of : Failure → List ℕ
failure_line_of f =
    row (codes "!") (decimal (step_fault_number f.fault) ∷ decimal f.place ∷ carrier_fields f.fault)

-- the line for what a receiver answers; a clean end has its place
abbrev pub line_of : Answer → List ℕ
line_of (answer.Event e) = event_line_of e
line_of (answer.End place) = row (codes ".") (decimal place ∷ [])
line_of (answer.Failed f) = failure_line_of f

-- the line for what is refused, by its number
abbrev pub refusal_line_of : ℕ → List ℕ
refusal_line_of n = row (codes "?") (decimal n ∷ [])

-- the line for a refused capture
abbrev pub refused_line_of : CaptureRefusal → List ℕ
refused_line_of r = refusal_line_of (refusal_number r)
