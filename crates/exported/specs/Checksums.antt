-- The checksum of what a receiver answers.
use Rattle.std.specs.Prelude.{ℕ, ◌+◌, ◌-◌, ◌*◌, ◌/◌, ◌%◌, ◌^◌, cond, List, length, take, ◌==◌, slice_index}
use Rattle.packet.specs.declared.wire.Fields.{Fields}
use Rattle.packet.specs.declared.grammar.Event.{Event}
use Rattle.packet.specs.declared.grammar.Letter.{Letter}
use Rattle.packet.specs.declared.grammar.Letter.TheVariants as letter
use Rattle.receiver.specs.declared.answers.Answer.{Answer}
use Rattle.receiver.specs.declared.answers.Answer.TheVariants as answer
use Rattle.receiver.specs.declared.answers.Failure.{Failure}
use Rattle.receiver.specs.declared.answers.StepFault.{StepFault}
use Rattle.receiver.specs.declared.answers.StepFault.TheVariants as fault
use Rattle.receiver.specs.Steps.{step_fault_number}

-- a checksum with one more number, in 64 bits
unfoldable pub mixed : ℕ → ℕ → ℕ
mixed sum n = ((sum * 0x9E3779B97F4A7C15) % 2 ^ 64 + n) % 2 ^ 64

-- with the first, middle and last byte of a payload
abbrev pub mixed_payload : ℕ → List ℕ → ℕ
mixed_payload sum bs = cond (length bs == 0) sum (mixed (mixed (mixed sum (slice_index bs 0)) (slice_index bs (length bs / 2))) (slice_index bs (length bs - 1)))

abbrev letter_number : Letter → ℕ
letter_number letter.StreamChange = 0
letter_number letter.Data = 1
letter_number letter.EndOfStream = 2
letter_number letter.Header = 3
letter_number letter.Metadata = 4
letter_number letter.PacketPair = 5
letter_number letter.Stale = 6

-- with the header fields, and with all that is told of a packet
abbrev pub mixed_fields : ℕ → Fields → ℕ
mixed_fields sum f = mixed (mixed (mixed (mixed (mixed sum f.location_id) f.incarnation) f.af_flags) f.packet_size) f.reason

abbrev pub mixed_event : ℕ → Event → ℕ
mixed_event sum e = mixed (mixed_fields (mixed (mixed (mixed sum (letter_number e.letter)) e.place) e.entry) e.fields) e.payload_length

abbrev mixed_carrier : ℕ → StepFault → ℕ
mixed_carrier sum (fault.Packet f) = sum
mixed_carrier sum fault.EndsEarly = sum
mixed_carrier sum (fault.CarrierBroke f) = mixed (mixed (mixed sum f.cause) f.place) f.depth

-- with a fault, and the carrier's own where it broke
abbrev pub mixed_failure : ℕ → Failure → ℕ
mixed_failure sum f = mixed_carrier (mixed (mixed sum (step_fault_number f.fault)) f.place) f.fault

-- with an answer, which left the work buffer w
abbrev pub mixed_answer : ℕ → Answer → List ℕ → ℕ
mixed_answer sum (answer.Event e) w = mixed_payload (mixed_event sum e) (take e.payload_length w)
mixed_answer sum (answer.End place) w = mixed sum place
mixed_answer sum (answer.Failed f) w = mixed_failure sum f
