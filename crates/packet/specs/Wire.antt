-- The wire format of a packet, on lists of bytes.
use Rattle.std.specs.Prelude.{ℕ, ◌+◌, ◌*◌, Bool, true, cond, List, Some, None, Ok, Err, Option, Result, ◌==◌, nat_le, slice_index}
use Rattle.packet.specs.declared.wire.Kind.{Kind}
use Rattle.packet.specs.declared.wire.Kind.TheVariants as kind
use Rattle.packet.specs.declared.wire.Head.{Head}
use Rattle.packet.specs.declared.wire.Fields.{Fields}
use Rattle.packet.specs.declared.wire.Packet.{Packet}
use Rattle.packet.specs.declared.grammar.PacketFault.{PacketFault}
use Rattle.packet.specs.declared.grammar.PacketFault.TheVariants as fault

-- the byte that every packet begins with
abbrev pub mark : ℕ
mark = 0x24

-- the kind that a letter names
abbrev pub kind_of : ℕ → Option Kind
kind_of letter =
    cond (letter == 67) (Some kind.StreamChange)
    (cond (letter == 68) (Some kind.Data)
    (cond (letter == 69) (Some kind.EndOfStream)
    (cond (letter == 72) (Some kind.Header)
    (cond (letter == 77) (Some kind.Metadata)
    (cond (letter == 80) (Some kind.PacketPair) None)))))

-- the little-endian number of two bytes, and of four
abbrev pub le2 : ℕ → ℕ → ℕ
le2 a b = a + 256 * b

abbrev pub le4 : ℕ → ℕ → ℕ → ℕ → ℕ
le4 a b c d = a + 256 * b + 65536 * c + 16777216 * d

-- how many bytes of fixed fields a kind has
abbrev pub fixed : Kind → ℕ
fixed kind.StreamChange = 4
fixed kind.Data = 8
fixed kind.EndOfStream = 4
fixed kind.Header = 8
fixed kind.Metadata = 8
fixed kind.PacketPair = 0

-- whether a kind may have this PacketLength
abbrev pub lawful : Kind → ℕ → Bool
lawful kind.StreamChange n = n == 4
lawful kind.Data n = nat_le 8 n
lawful kind.EndOfStream n = n == 4
lawful kind.Header n = nat_le 8 n
lawful kind.Metadata n = nat_le 8 n
lawful kind.PacketPair n = true

abbrev pub of_kind : Option Kind → ℕ → Result Head PacketFault
of_kind None n = Err fault.Kind
of_kind (Some k) n = cond (lawful k n) (Ok (record { kind = k; length = n })) (Err fault.PacketLength)

-- the head in the first four bytes, or what is wrong with them
abbrev pub head_of : List ℕ → Result Head PacketFault
head_of bs = cond (slice_index bs 0 == mark) (of_kind (kind_of (slice_index bs 1)) (le2 (slice_index bs 2) (slice_index bs 3))) (Err fault.Mark)

abbrev pub framed : List ℕ → Fields
framed bs =
    record {
      location_id = le4 (slice_index bs 0) (slice_index bs 1) (slice_index bs 2) (slice_index bs 3);
      incarnation = slice_index bs 4;
      af_flags = slice_index bs 5;
      packet_size = le2 (slice_index bs 6) (slice_index bs 7);
      reason = 0;
    }

abbrev pub unframed : ℕ → Fields
unframed reason = record { location_id = 0; incarnation = 0; af_flags = 0; packet_size = 0; reason = reason }

-- the fields of a kind, from the bytes behind the head
abbrev pub fields_of : Kind → List ℕ → Fields
fields_of kind.StreamChange bs = unframed (le4 (slice_index bs 0) (slice_index bs 1) (slice_index bs 2) (slice_index bs 3))
fields_of kind.Data bs = framed bs
fields_of kind.EndOfStream bs = unframed (le4 (slice_index bs 0) (slice_index bs 1) (slice_index bs 2) (slice_index bs 3))
fields_of kind.Header bs = framed bs
fields_of kind.Metadata bs = framed bs
fields_of kind.PacketPair bs = unframed 0

abbrev pub sized_as : Kind → ℕ → ℕ → Bool
sized_as kind.StreamChange size n = true
sized_as kind.Data size n = size == n
sized_as kind.EndOfStream size n = true
sized_as kind.Header size n = size == n
sized_as kind.Metadata size n = size == n
sized_as kind.PacketPair size n = true

-- whether PacketSize equals PacketLength, where the kind has it
abbrev pub sized : Packet → Bool
sized p = sized_as p.kind p.fields.packet_size p.length
