-- The law of runs.
use Rattle.std.specs.Prelude.{◌≡◌, ℕ, ◌+◌, Bool, true, false, cond, ◌&&◌, List, [], length, vec_items, Ok, Err, Option, Result, slice_index}
use Rattle.carrier.specs.declared.Carrier.{Ghosts}
use Rattle.carrier.specs.declared.endings.Ending.{Ending}
use Rattle.packet.specs.declared.wire.Packet.{Packet}
use Rattle.packet.specs.declared.grammar.BodyKind.{BodyKind}
use Rattle.packet.specs.declared.grammar.PacketFault.{PacketFault}
use Rattle.packet.specs.declared.grammar.PacketFault.TheVariants as packet_fault
use Rattle.packet.specs.Wire.{le2}
use Rattle.bodies.specs.Told.{bytes_of, from_before}
use Rattle.receiver.specs.declared.answers.Answer.{Answer}
use Rattle.receiver.specs.declared.answers.Answer.TheVariants as answer
use Rattle.receiver.specs.declared.answers.StepFault.{StepFault}
use Rattle.receiver.specs.declared.answers.StepFault.TheVariants as fault
use Rattle.receiver.specs.Steps.{opened}
use Rattle.receiver.specs.Views.{view_of}
use Rattle.calls.specs.declared.replies.Call.{Call}
use Rattle.calls.specs.declared.replies.Reply.{Reply}
use Rattle.calls.specs.declared.making.NoMemory.{NoMemory}
use Rattle.calls.specs.declared.making.Ran.{Ran}
use Rattle.calls.specs.declared.making.Script.{Script}
use Rattle.calls.specs.Calling.{calls_run}
use Rattle.calls.specs.Order.{Cut, Told, ShortRefused}

-- how many bytes of the rest show a packet's fault: the head, or the packet whole
abbrev packet_shown_by : PacketFault → List ℕ → ℕ
packet_shown_by packet_fault.Mark rest = 4
packet_shown_by packet_fault.Kind rest = 4
packet_shown_by packet_fault.PacketLength rest = 4
packet_shown_by packet_fault.PacketSize rest = 4 + le2 (slice_index rest 2) (slice_index rest 3)
packet_shown_by packet_fault.HeaderMarks rest = 4 + le2 (slice_index rest 2) (slice_index rest 3)
packet_shown_by packet_fault.NotAllowedHere rest = 4 + le2 (slice_index rest 2) (slice_index rest 3)
packet_shown_by packet_fault.Incarnation rest = 4 + le2 (slice_index rest 2) (slice_index rest 3)
packet_shown_by packet_fault.TooManyEntries rest = 4 + le2 (slice_index rest 2) (slice_index rest 3)

-- how many bytes of the rest show a fault; an ending shows behind all of them
abbrev pub shown_by : StepFault → List ℕ → ℕ
shown_by (fault.Packet f) rest = packet_shown_by f rest
shown_by fault.EndsEarly rest = length rest
shown_by (fault.CarrierBroke f) rest = length rest

-- how many bytes of the rest show the last answer
abbrev pub shown : Answer → List ℕ → ℕ
shown (answer.Event e) rest = 0
shown (answer.End place) rest = length rest
shown (answer.Failed f) rest = shown_by f.fault rest

-- whether a fault tells the ending
abbrev pub fault_tells : StepFault → Bool
fault_tells (fault.Packet f) = false
fault_tells fault.EndsEarly = true
fault_tells (fault.CarrierBroke f) = true

-- whether the last answer tells the ending: the clean end, EndsEarly and CarrierBroke do
abbrev pub tells_ending : Answer → Bool
tells_ending (answer.Event e) = false
tells_ending (answer.End place) = true
tells_ending (answer.Failed f) = fault_tells f.fault

-- The law of a run: calls on a new receiver, with the bytes bs to come and the ending e, which find the work buffer w and leave x; `lacks n told` says that the carrier lacks n bytes, with its ending told or not.
pub record Law (b : BodyKind) (before : Option ℕ) (bs : List ℕ) (e : Ending) (w : List ℕ) (cs : List Call) (rs : List Reply) (x : List ℕ) (lacks : ℕ → Bool → Type 0) : Type 0 where
  pub accepted : List Packet
  pub rest : List ℕ
  pub last : Answer
  pub every_answer_by_the_rules : Cut b before bs e accepted rest last
  pub read : List Packet
  pub ended : Bool
  pub each_packet_once_in_order : Told (from_before b before) last bs rest [] accepted false w cs rs read ended x
  pub refused_by_length : ShortRefused (length w) cs rs
  pub nothing_more_was_used : lacks (bytes_of read + cond ended (shown last rest) 0) (ended && tells_ending last)

-- What the calls come to keeps the law.
abbrev pub CallsKeepTheLaw : Type 0
CallsKeepTheLaw =
    (b : BodyKind) (before : Option ℕ) (bs : List ℕ) (e : Ending) (w : List ℕ) (cs : List Call)
    → Law b before bs e w cs (calls_run (view_of (opened b before) bs e) w cs).replies (calls_run (view_of (opened b before) bs e) w cs).buffer (λ n told. ((calls_run (view_of (opened b before) bs e) w cs).usage.bytes ≡ n) × ((calls_run (view_of (opened b before) bs e) w cs).usage.told ≡ told))

-- a run on a new receiver over the carrier keeps the law; where there is no memory nothing was called
abbrev pub KeepsTheLaw : {C : Type 0} → Ghosts C → Script → C → List ℕ → Result (Ran C) (NoMemory C) → List ℕ → Type 0
KeepsTheLaw m script carrier w (Ok r) x = Law script.body script.before (m.coming carrier) (m.ending carrier) w script.calls.now (vec_items r.replies) x (λ n told. m.lacks carrier n told r.closed.carrier)
KeepsTheLaw m script carrier w (Err n) x = (n.carrier ≡ carrier) × (x ≡ w)
