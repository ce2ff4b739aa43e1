-- Which packet may come where in a body, and what it then gives.
use Rattle.std.specs.Prelude.{ℕ, ◌+◌, ◌-◌, ◌^◌, min, Bool, true, false, cond, Some, None, Ok, Err, Option, Result, ◌==◌}
use Rattle.packet.specs.Wire.{fixed}
use Rattle.packet.specs.declared.wire.Kind.{Kind}
use Rattle.packet.specs.declared.wire.Kind.TheVariants as kind
use Rattle.packet.specs.declared.wire.Fields.{Fields}
use Rattle.packet.specs.declared.wire.Packet.{Packet}
use Rattle.packet.specs.declared.grammar.BodyKind.{BodyKind}
use Rattle.packet.specs.declared.grammar.BodyKind.TheVariants as body
use Rattle.packet.specs.declared.grammar.Position.{Position}
use Rattle.packet.specs.declared.grammar.Position.TheVariants as at
use Rattle.packet.specs.declared.grammar.PacketFault.{PacketFault}
use Rattle.packet.specs.declared.grammar.PacketFault.TheVariants as fault
use Rattle.packet.specs.declared.grammar.Letter.{Letter}
use Rattle.packet.specs.declared.grammar.Letter.TheVariants as letter
use Rattle.packet.specs.declared.grammar.Judged.{Judged}
use Rattle.packet.specs.declared.grammar.Event.{Event}

-- what a packet shows to be wrong, by its number
abbrev pub fault_number : PacketFault → ℕ
fault_number fault.Mark = 21
fault_number fault.Kind = 22
fault_number fault.PacketLength = 23
fault_number fault.PacketSize = 24
fault_number fault.HeaderMarks = 25
fault_number fault.NotAllowedHere = 26
fault_number fault.Incarnation = 27
fault_number fault.TooManyEntries = 30

-- where a body of a kind begins; the Incarnation from before counts for PlayNext only
abbrev pub starts : BodyKind → Option ℕ → Position
starts body.Describe before = at.Preface
starts body.Play before = at.HeaderDue
starts body.PlayNext None = at.Resuming
starts body.PlayNext (Some of) = at.ResumingUnder of

-- whether a body may end here
abbrev pub ends : Position → Bool
ends at.Preface = false
ends (at.PrefaceOf of) = false
ends (at.DescribeRun of) = false
ends (at.Described of) = true
ends at.HeaderDue = false
ends (at.MetadataOf of) = false
ends (at.HeaderRun of) = false
ends (at.InForce of) = false
ends at.EntryOver = true
ends at.BodyOver = true
ends at.Resuming = true
ends (at.ResumingUnder of) = true

-- the header in force at a position
abbrev pub in_force_at : Position → Option ℕ
in_force_at at.Preface = None
in_force_at (at.PrefaceOf i) = None
in_force_at (at.DescribeRun i) = None
in_force_at (at.Described i) = Some i
in_force_at at.HeaderDue = None
in_force_at (at.MetadataOf i) = None
in_force_at (at.HeaderRun i) = None
in_force_at (at.InForce i) = Some i
in_force_at at.EntryOver = None
in_force_at at.BodyOver = None
in_force_at at.Resuming = None
in_force_at (at.ResumingUnder i) = Some i

-- AFFlags of a $H: neither mark, the first of its header, the last, or both
abbrev pub middle : ℕ
middle = 0x00

abbrev pub first : ℕ
first = 0x04

abbrev pub last : ℕ
last = 0x08

abbrev pub first_and_last : ℕ
first_and_last = 0x0C

-- the greatest entry number
abbrev pub entry_limit : ℕ
entry_limit = 255

-- the packet is allowed
abbrev pub told : Letter → Position → ℕ → Result Judged PacketFault
told l next entry = Ok (record { letter = l; next = next; entry = entry })

-- the packet completes a header
abbrev pub completed : Position → ℕ → Result Judged PacketFault
completed next entry = cond (entry == entry_limit) (Err fault.TooManyEntries) (told letter.Header next (entry + 1))

-- the packet has the Incarnation of its header, or does not
abbrev pub agreed : ℕ → ℕ → Result Judged PacketFault → Result Judged PacketFault
agreed inc of r = cond (inc == of) r (Err fault.Incarnation)

-- a $H that opens the run of $H of a header, and one that goes on with it
abbrev pub begun : Fields → ℕ → Position → Position → ℕ → Result Judged PacketFault
begun f of run done entry =
    cond (f.af_flags == first) (agreed f.incarnation of (told letter.Header run entry))
    (cond (f.af_flags == first_and_last) (agreed f.incarnation of (completed done entry)) (Err fault.HeaderMarks))

abbrev pub continued : Fields → ℕ → Position → Position → ℕ → Result Judged PacketFault
continued f of run done entry =
    cond (f.af_flags == middle) (agreed f.incarnation of (told letter.Header run entry))
    (cond (f.af_flags == last) (agreed f.incarnation of (completed done entry)) (Err fault.HeaderMarks))

-- a packet's kind at a position
abbrev pub placed : Kind → Position → Fields → ℕ → Result Judged PacketFault
placed kind.StreamChange at.Preface f entry = Err fault.NotAllowedHere
placed kind.StreamChange (at.PrefaceOf of) f entry = Err fault.NotAllowedHere
placed kind.StreamChange (at.DescribeRun of) f entry = Err fault.NotAllowedHere
placed kind.StreamChange (at.Described of) f entry = Err fault.NotAllowedHere
placed kind.StreamChange at.HeaderDue f entry = Err fault.NotAllowedHere
placed kind.StreamChange (at.MetadataOf of) f entry = Err fault.NotAllowedHere
placed kind.StreamChange (at.HeaderRun of) f entry = Err fault.NotAllowedHere
placed kind.StreamChange (at.InForce of) f entry = Err fault.NotAllowedHere
placed kind.StreamChange at.EntryOver f entry = told letter.StreamChange at.HeaderDue entry
placed kind.StreamChange at.BodyOver f entry = Err fault.NotAllowedHere
placed kind.StreamChange at.Resuming f entry = told letter.StreamChange at.HeaderDue entry
placed kind.StreamChange (at.ResumingUnder of) f entry = told letter.StreamChange at.HeaderDue entry
placed kind.Data at.Preface f entry = Err fault.NotAllowedHere
placed kind.Data (at.PrefaceOf of) f entry = Err fault.NotAllowedHere
placed kind.Data (at.DescribeRun of) f entry = Err fault.NotAllowedHere
placed kind.Data (at.Described of) f entry = Err fault.NotAllowedHere
placed kind.Data at.HeaderDue f entry = Err fault.NotAllowedHere
placed kind.Data (at.MetadataOf of) f entry = Err fault.NotAllowedHere
placed kind.Data (at.HeaderRun of) f entry = Err fault.NotAllowedHere
placed kind.Data (at.InForce of) f entry = told (cond (f.incarnation == of) letter.Data letter.Stale) (at.InForce of) entry
placed kind.Data at.EntryOver f entry = Err fault.NotAllowedHere
placed kind.Data at.BodyOver f entry = Err fault.NotAllowedHere
placed kind.Data at.Resuming f entry = Err fault.NotAllowedHere
placed kind.Data (at.ResumingUnder of) f entry = told (cond (f.incarnation == of) letter.Data letter.Stale) (at.InForce of) entry
placed kind.EndOfStream at.Preface f entry = Err fault.NotAllowedHere
placed kind.EndOfStream (at.PrefaceOf of) f entry = Err fault.NotAllowedHere
placed kind.EndOfStream (at.DescribeRun of) f entry = Err fault.NotAllowedHere
placed kind.EndOfStream (at.Described of) f entry = Err fault.NotAllowedHere
placed kind.EndOfStream at.HeaderDue f entry = Err fault.NotAllowedHere
placed kind.EndOfStream (at.MetadataOf of) f entry = Err fault.NotAllowedHere
placed kind.EndOfStream (at.HeaderRun of) f entry = Err fault.NotAllowedHere
placed kind.EndOfStream (at.InForce of) f entry = told letter.EndOfStream (cond (f.reason == 1) at.EntryOver at.BodyOver) entry
placed kind.EndOfStream at.EntryOver f entry = Err fault.NotAllowedHere
placed kind.EndOfStream at.BodyOver f entry = Err fault.NotAllowedHere
placed kind.EndOfStream at.Resuming f entry = Err fault.NotAllowedHere
placed kind.EndOfStream (at.ResumingUnder of) f entry = told letter.EndOfStream (cond (f.reason == 1) at.EntryOver at.BodyOver) entry
placed kind.Header at.Preface f entry = begun f f.incarnation (at.DescribeRun f.incarnation) (at.Described f.incarnation) entry
placed kind.Header (at.PrefaceOf of) f entry = begun f of (at.DescribeRun f.incarnation) (at.Described f.incarnation) entry
placed kind.Header (at.DescribeRun of) f entry = continued f of (at.DescribeRun of) (at.Described of) entry
placed kind.Header (at.Described of) f entry = Err fault.NotAllowedHere
placed kind.Header at.HeaderDue f entry = begun f f.incarnation (at.HeaderRun f.incarnation) (at.InForce f.incarnation) entry
placed kind.Header (at.MetadataOf of) f entry = begun f of (at.HeaderRun f.incarnation) (at.InForce f.incarnation) entry
placed kind.Header (at.HeaderRun of) f entry = continued f of (at.HeaderRun of) (at.InForce of) entry
placed kind.Header (at.InForce of) f entry = Err fault.NotAllowedHere
placed kind.Header at.EntryOver f entry = Err fault.NotAllowedHere
placed kind.Header at.BodyOver f entry = Err fault.NotAllowedHere
placed kind.Header at.Resuming f entry = begun f f.incarnation (at.HeaderRun f.incarnation) (at.InForce f.incarnation) entry
placed kind.Header (at.ResumingUnder of) f entry = begun f f.incarnation (at.HeaderRun f.incarnation) (at.InForce f.incarnation) entry
placed kind.Metadata at.Preface f entry = told letter.Metadata (at.PrefaceOf f.incarnation) entry
placed kind.Metadata (at.PrefaceOf of) f entry = agreed f.incarnation of (told letter.Metadata (at.PrefaceOf of) entry)
placed kind.Metadata (at.DescribeRun of) f entry = Err fault.NotAllowedHere
placed kind.Metadata (at.Described of) f entry = Err fault.NotAllowedHere
placed kind.Metadata at.HeaderDue f entry = told letter.Metadata (at.MetadataOf f.incarnation) entry
placed kind.Metadata (at.MetadataOf of) f entry = agreed f.incarnation of (told letter.Metadata (at.MetadataOf of) entry)
placed kind.Metadata (at.HeaderRun of) f entry = Err fault.NotAllowedHere
placed kind.Metadata (at.InForce of) f entry = Err fault.NotAllowedHere
placed kind.Metadata at.EntryOver f entry = Err fault.NotAllowedHere
placed kind.Metadata at.BodyOver f entry = Err fault.NotAllowedHere
placed kind.Metadata at.Resuming f entry = told letter.Metadata (at.MetadataOf f.incarnation) entry
placed kind.Metadata (at.ResumingUnder of) f entry = told letter.Metadata (at.MetadataOf f.incarnation) entry
placed kind.PacketPair at.Preface f entry = told letter.PacketPair at.Preface entry
placed kind.PacketPair (at.PrefaceOf of) f entry = told letter.PacketPair (at.PrefaceOf of) entry
placed kind.PacketPair (at.DescribeRun of) f entry = Err fault.NotAllowedHere
placed kind.PacketPair (at.Described of) f entry = Err fault.NotAllowedHere
placed kind.PacketPair at.HeaderDue f entry = Err fault.NotAllowedHere
placed kind.PacketPair (at.MetadataOf of) f entry = Err fault.NotAllowedHere
placed kind.PacketPair (at.HeaderRun of) f entry = Err fault.NotAllowedHere
placed kind.PacketPair (at.InForce of) f entry = Err fault.NotAllowedHere
placed kind.PacketPair at.EntryOver f entry = Err fault.NotAllowedHere
placed kind.PacketPair at.BodyOver f entry = Err fault.NotAllowedHere
placed kind.PacketPair at.Resuming f entry = Err fault.NotAllowedHere
placed kind.PacketPair (at.ResumingUnder of) f entry = Err fault.NotAllowedHere

-- whether a packet may come at a position, with so many headers completed before it, and what it then gives
abbrev pub judged : Packet → Position → ℕ → Result Judged PacketFault
judged p at entry = placed p.kind at p.fields entry

-- places stop at the greatest number of 64 bits
abbrev pub stopped : ℕ → ℕ
stopped n = min n (2 ^ 64 - 1)

-- the place behind a packet of PacketLength n that begins at a place
abbrev pub behind : ℕ → ℕ → ℕ
behind place n = stopped (place + (4 + n))

-- what Step tells of an allowed packet that begins at a place
abbrev pub event : Packet → ℕ → Judged → Event
event p place j = record { letter = j.letter; place = place; entry = j.entry; fields = p.fields; payload_length = p.length - fixed p.kind }
