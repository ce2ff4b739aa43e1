-- The bytes of a packet, field by field, as MS-WMSP lays them out.
use Rattle.std.specs.Prelude.{◌≡◌, ℕ, ◌+◌, ◌<◌, List, [], ◌∷◌, length}
use Rattle.packet.specs.declared.wire.Kind.{Kind}
use Rattle.packet.specs.declared.wire.Kind.TheVariants as kind
use Rattle.packet.specs.declared.wire.Packet.{Packet}
use Rattle.packet.specs.Wire.{mark, le2, le4, unframed}
use Rattle.std.specs.List.{AllByRecursion}

-- each number is a byte
abbrev pub ByteString : List ℕ → Type 0
ByteString bs = AllByRecursion (λ b. b < 256) bs

-- the letter behind the mark
abbrev pub letter : Kind → ℕ
letter kind.StreamChange = 67
letter kind.Data = 68
letter kind.EndOfStream = 69
letter kind.Header = 72
letter kind.Metadata = 77
letter kind.PacketPair = 80

-- $C and $E: PacketLength 4, and a Reason of four bytes
abbrev pub Notice : Packet → List ℕ → List ℕ → Type 0
Notice p payload bs =
    (l m a b c d : ℕ)
    × (bs ≡ mark ∷ letter p.kind ∷ l ∷ m ∷ a ∷ b ∷ c ∷ d ∷ [])
    × (le2 l m ≡ p.length)
    × (p.length ≡ 4)
    × (p.fields ≡ unframed (le4 a b c d))
    × (payload ≡ [])

-- $D, $H and $M: PacketLength, LocationId (4), Incarnation, AFFlags, PacketSize (2), which equals PacketLength, and the payload
abbrev pub Framed : Packet → List ℕ → List ℕ → Type 0
Framed p payload bs =
    (l m a b c d i f s t : ℕ)
    × (bs ≡ mark ∷ letter p.kind ∷ l ∷ m ∷ a ∷ b ∷ c ∷ d ∷ i ∷ f ∷ s ∷ t ∷ payload)
    × (le2 l m ≡ p.length)
    × (p.length ≡ 8 + length payload)
    × (le2 s t ≡ p.length)
    × (p.fields ≡ record { location_id = le4 a b c d; incarnation = i; af_flags = f; packet_size = le2 s t; reason = 0 })

-- $P: PacketLength and the payload
abbrev pub Bare : Packet → List ℕ → List ℕ → Type 0
Bare p payload bs =
    (l m : ℕ)
    × (bs ≡ mark ∷ letter p.kind ∷ l ∷ m ∷ payload)
    × (le2 l m ≡ p.length)
    × (p.length ≡ length payload)
    × (p.fields ≡ unframed 0)

abbrev pub LaidAs : Kind → Packet → List ℕ → List ℕ → Type 0
LaidAs kind.StreamChange = Notice
LaidAs kind.Data = Framed
LaidAs kind.EndOfStream = Notice
LaidAs kind.Header = Framed
LaidAs kind.Metadata = Framed
LaidAs kind.PacketPair = Bare

-- `Laid p payload bs`: the bytes bs are the packet p with this payload
abbrev pub Laid : Packet → List ℕ → List ℕ → Type 0
Laid p payload bs = LaidAs p.kind p payload bs

-- the packet has bytes, and each of the packets has
abbrev pub LaidOut : Packet → Type 0
LaidOut p = (payload bs : List ℕ) × Laid p payload bs × ByteString bs

abbrev pub AllLaid : List Packet → Type 0
AllLaid ps = AllByRecursion LaidOut ps
