-- What the packets of a body are told as: each event is a function of its packet and of the packets before it.
use Rattle.std.specs.Prelude.{◌≡◌, ℕ, ◌+◌, ◌-◌, Bool, true, false, cond, ◌||◌, List, [], ◌∷◌, ◌++◌, Some, None, Ok, Option, ◌==◌}
use Rattle.packet.specs.declared.wire.Kind.{Kind}
use Rattle.packet.specs.declared.wire.Kind.TheVariants as kind
use Rattle.packet.specs.declared.wire.Packet.{Packet}
use Rattle.packet.specs.declared.grammar.BodyKind.{BodyKind}
use Rattle.packet.specs.declared.grammar.BodyKind.TheVariants as body
use Rattle.packet.specs.declared.grammar.Position.{Position}
use Rattle.packet.specs.declared.grammar.Letter.{Letter}
use Rattle.packet.specs.declared.grammar.Letter.TheVariants as letter
use Rattle.packet.specs.declared.grammar.Event.{Event}
use Rattle.packet.specs.declared.grammar.Judged.{Judged}
use Rattle.packet.specs.Wire.{fixed}
use Rattle.packet.specs.Judging.{judged, ends, behind, stopped, event, last, first_and_last}

-- whether a packet is the last $H of a header
abbrev pub completing : Kind → ℕ → Bool
completing kind.StreamChange flags = false
completing kind.Data flags = false
completing kind.EndOfStream flags = false
completing kind.Header flags = flags == last || flags == first_and_last
completing kind.Metadata flags = false
completing kind.PacketPair flags = false

abbrev pub completes : Packet → Bool
completes p = completing p.kind p.fields.af_flags

-- how many headers the packets complete
abbrev pub headers : List Packet → ℕ
headers [] = 0
headers (p ∷ ps) = cond (completes p) 1 0 + headers ps

-- The Incarnation of the header in force behind a packet: a completed header is in force, $D leave it so, anything else ends it.
abbrev pub in_force_behind : Kind → Packet → Option ℕ → Option ℕ
in_force_behind kind.StreamChange p now = None
in_force_behind kind.Data p now = now
in_force_behind kind.EndOfStream p now = None
in_force_behind kind.Header p now = cond (completes p) (Some p.fields.incarnation) None
in_force_behind kind.Metadata p now = None
in_force_behind kind.PacketPair p now = None

-- the header in force behind packets, with the one from before them
abbrev pub in_force : Option ℕ → List Packet → Option ℕ
in_force now [] = now
in_force now (p ∷ ps) = in_force (in_force_behind p.kind p now) ps

-- the header in force where a body begins
abbrev pub from_before : BodyKind → Option ℕ → Option ℕ
from_before body.Describe before = None
from_before body.Play before = None
from_before body.PlayNext before = before

-- a $D is delivered under the header in force, and stale under any other or none
abbrev pub data_letter : Option ℕ → ℕ → Letter
data_letter None i = letter.Stale
data_letter (Some of) i = cond (i == of) letter.Data letter.Stale

abbrev pub letter_as : Kind → Option ℕ → ℕ → Letter
letter_as kind.StreamChange now i = letter.StreamChange
letter_as kind.Data now i = data_letter now i
letter_as kind.EndOfStream now i = letter.EndOfStream
letter_as kind.Header now i = letter.Header
letter_as kind.Metadata now i = letter.Metadata
letter_as kind.PacketPair now i = letter.PacketPair

-- how many bytes the packets have
abbrev pub bytes_of : List Packet → ℕ
bytes_of [] = 0
bytes_of (p ∷ ps) = (4 + p.length) + bytes_of ps

-- what a packet is told as behind others
abbrev pub told_behind : Option ℕ → List Packet → Packet → Event
told_behind now before p =
    record {
      letter = letter_as p.kind (in_force now before) p.fields.incarnation;
      place = stopped (bytes_of before);
      entry = headers (before ++ (p ∷ []));
      fields = p.fields;
      payload_length = p.length - fixed p.kind;
    }

-- the events of packets behind others, in order
abbrev pub events_behind : Option ℕ → List Packet → List Packet → List Event
events_behind now before [] = []
events_behind now before (p ∷ ps) = told_behind now before p ∷ events_behind now (before ++ (p ∷ [])) ps

-- the events of a body
abbrev pub events : BodyKind → Option ℕ → List Packet → List Event
events b before ps = events_behind (from_before b before) [] ps

-- The judgements along a list of packets: each packet is allowed at its position, the events are those told, and the body may end behind the last.
abbrev pub Accepted : Position → ℕ → ℕ → List Packet → List Event → Type 0
Accepted at entry place [] es = (ends at ≡ true) × (es ≡ [])
Accepted at entry place (p ∷ ps) es =
    (j : Judged) × (fs : List Event) × (judged p at entry ≡ Ok j) × (es ≡ event p place j ∷ fs) × Accepted j.next j.entry (behind place p.length) ps fs

-- The packets are allowed one after another, and lead from one position, entry number and place to others.
abbrev pub Reached : Position → ℕ → ℕ → List Packet → Position → ℕ → ℕ → Type 0
Reached at entry place [] at' entry' place' = (at' ≡ at) × (entry' ≡ entry) × (place' ≡ place)
Reached at entry place (p ∷ ps) at' entry' place' = (j : Judged) × (judged p at entry ≡ Ok j) × Reached j.next j.entry (behind place p.length) ps at' entry' place'
