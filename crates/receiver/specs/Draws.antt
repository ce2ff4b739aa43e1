-- What drawing one packet comes to, with the bytes to come and the ending behind them.
use Rattle.std.specs.Prelude.{ℕ, ◌+◌, ◌-◌, min, Bool, true, false, cond, List, [], ◌++◌, length, take, drop, Ok, Err, Result, nat_le}
use Rattle.carrier.specs.declared.endings.Ending.{Ending}
use Rattle.packet.specs.declared.wire.Head.{Head}
use Rattle.packet.specs.declared.wire.Packet.{Packet}
use Rattle.packet.specs.declared.grammar.PacketFault.{PacketFault}
use Rattle.packet.specs.Wire.{fixed, head_of, fields_of}
use Rattle.receiver.specs.declared.drawing.NoPacket.{NoPacket}
use Rattle.receiver.specs.declared.drawing.NoPacket.TheVariants.{BadHead, CutShort}

-- the packet that a head and the bytes behind it make
abbrev pub packet_of : Head → List ℕ → Packet
packet_of h bs = record { kind = h.kind; length = h.length; fields = fields_of h.kind bs }

-- the bytes came to the ending e after n of them
abbrev pub cut_short : ℕ → Ending → NoPacket
cut_short n e = CutShort (record { came = n; ending = e })

-- behind the head h: the packet, or too few bytes for it
abbrev pub rest_drawn : Head → List ℕ → Ending → Result Packet NoPacket
rest_drawn h bs e = cond (nat_le h.length (length bs)) (Ok (packet_of h bs)) (Err (cut_short (4 + length bs) e))

abbrev pub rest_used : Head → List ℕ → ℕ
rest_used h bs = min h.length (length bs)

-- the payload bytes that came
abbrev pub rest_front : Head → List ℕ → List ℕ
rest_front h bs = take (h.length - fixed h.kind) (drop (fixed h.kind) bs)

abbrev pub headed : Result Head PacketFault → List ℕ → Ending → Result Packet NoPacket
headed (Err f) bs e = Err (BadHead f)
headed (Ok h) bs e = rest_drawn h bs e

abbrev pub headed_used : Result Head PacketFault → List ℕ → ℕ
headed_used (Err f) bs = 4
headed_used (Ok h) bs = 4 + rest_used h bs

abbrev pub headed_front : Result Head PacketFault → List ℕ → List ℕ
headed_front (Err f) bs = []
headed_front (Ok h) bs = rest_front h bs

-- the packet that comes next, or what stands in its place
abbrev pub draws : List ℕ → Ending → Result Packet NoPacket
draws bs e = cond (nat_le 4 (length bs)) (headed (head_of (take 4 bs)) (drop 4 bs) e) (Err (cut_short (length bs) e))

-- how many bytes that used
abbrev pub used : List ℕ → ℕ
used bs = cond (nat_le 4 (length bs)) (headed_used (head_of (take 4 bs)) (drop 4 bs)) (length bs)

-- the payload bytes that came, which stand in front of the work buffer
abbrev pub front : List ℕ → List ℕ
front bs = cond (nat_le 4 (length bs)) (headed_front (head_of (take 4 bs)) (drop 4 bs)) []

-- whether the ending was reached
abbrev pub ran_out : Result Packet NoPacket → Bool
ran_out (Ok p) = false
ran_out (Err (BadHead f)) = false
ran_out (Err (CutShort s)) = true

-- a buffer with bytes laid over its front
abbrev pub laid_over : List ℕ → List ℕ → List ℕ
laid_over bs w = bs ++ drop (length bs) w
