-- From every position a body can be completed, by packets that have bytes.
use Rattle.std.proofs.Common.{ℕ, ◌<◌, List, [], ◌∷◌, refl, inl, inr, arith}
use Rattle.packet.specs.declared.wire.Kind.{Kind}
use Rattle.packet.specs.declared.wire.Kind.TheVariants as kind
use Rattle.packet.specs.declared.wire.Packet.{Packet}
use Rattle.packet.specs.declared.grammar.Position.{Position}
use Rattle.packet.specs.declared.grammar.Position.TheVariants as at
use Rattle.packet.specs.Judging.{first_and_last, last}
use Rattle.packet.specs.Wire.{unframed, mark}
use Rattle.bodies.specs.Grammar.{RunOn, Run, Header, Entry, Groups, Entries, Described}
use Rattle.bodies.specs.Layout.{ByteString, letter, Framed, LaidAs, LaidOut, AllLaid}
use Rattle.bodies.proofs.Rest.{Rest}
use Rattle.bodies.proofs.Ruling.{ByteHeld}

-- the Incarnation of a packet that has bytes is one of them, or 0 where the packet has no such field
pub incarnation_small : (p : Packet) → LaidOut p → p.fields.incarnation < 256
incarnation_small p (payload, bs, laid, small) = go p.kind laid
  where
    framed : Framed p payload bs → p.fields.incarnation < 256
    framed (l, m, a, b, c, d, i, f, s, t, is, size, long, same, fields) =
        let each : ByteString (mark ∷ letter p.kind ∷ l ∷ m ∷ a ∷ b ∷ c ∷ d ∷ i ∷ f ∷ s ∷ t ∷ payload) = rw is at small in
        rw fields (omega arith)

    go : (k : Kind) → LaidAs k p payload bs → p.fields.incarnation < 256
    go kind.StreamChange (l, m, a, b, c, d, is, size, four, fields, none) = rw fields (omega arith)
    go kind.EndOfStream (l, m, a, b, c, d, is, size, four, fields, none) = rw fields (omega arith)
    go kind.PacketPair (l, m, is, size, long, fields) = rw fields (omega arith)
    go any_other laid = framed laid

-- a $H and a $E with no payload
abbrev a_header : ℕ → ℕ → Packet
a_header i marks = record { kind = kind.Header; length = 8; fields = record { location_id = 0; incarnation = i; af_flags = marks; packet_size = 8; reason = 0 } }

abbrev an_end : Packet
an_end = record { kind = kind.EndOfStream; length = 4; fields = unframed 0 }

-- both have bytes
header_laid : (i marks : ℕ) → i < 256 → marks < 256 → LaidOut (a_header i marks)
header_laid i marks small low = ([], mark ∷ letter kind.Header ∷ 8 ∷ 0 ∷ 0 ∷ 0 ∷ 0 ∷ 0 ∷ i ∷ marks ∷ 8 ∷ 0 ∷ [], (8, 0, 0, 0, 0, 0, i, marks, 8, 0, refl, refl, refl, refl, refl), omega arith)

end_laid : LaidOut an_end
end_laid = ([], mark ∷ letter kind.EndOfStream ∷ 4 ∷ 0 ∷ 0 ∷ 0 ∷ 0 ∷ 0 ∷ [], (4, 0, 0, 0, 0, 0, refl, refl, refl, refl, refl), omega arith)

-- a $E alone is an entry
at_end : Entries (an_end ∷ [])
at_end = (0, an_end ∷ [], [], refl, Entry.over (refl, refl), Groups.none)

-- packets that complete a body from a position; they have bytes where the Incarnation that they go on with is one
abbrev pub Completed : Position → Type 0
Completed here = (qs : List Packet) × Rest here qs × (ByteHeld here → AllLaid qs)

-- each position has such packets
pub completion : (here : Position) → Completed here
completion at.Preface = (a_header 0 first_and_last ∷ [], (0, Described.run (Run.alone (refl, refl, refl))), λ held. (header_laid 0 first_and_last (omega arith) (omega arith), tt))
completion (at.PrefaceOf i) = (a_header i first_and_last ∷ [], Described.run (Run.alone (refl, refl, refl)), λ held. (header_laid i first_and_last held (omega arith), tt))
completion (at.DescribeRun i) = (a_header i last ∷ [], RunOn.closes (refl, refl, refl), λ held. (header_laid i last held (omega arith), tt))
completion (at.Described i) = ([], refl, λ held. tt)
completion at.HeaderDue = (a_header 0 first_and_last ∷ an_end ∷ [], (0, a_header 0 first_and_last ∷ [], an_end ∷ [], refl, Header.run (Run.alone (refl, refl, refl)), at_end), λ held. (header_laid 0 first_and_last (omega arith) (omega arith), (end_laid, tt)))
completion (at.MetadataOf i) = (a_header i first_and_last ∷ an_end ∷ [], (a_header i first_and_last ∷ [], an_end ∷ [], refl, Header.run (Run.alone (refl, refl, refl)), at_end), λ held. (header_laid i first_and_last held (omega arith), (end_laid, tt)))
completion (at.HeaderRun i) = (a_header i last ∷ an_end ∷ [], (a_header i last ∷ [], an_end ∷ [], refl, RunOn.closes (refl, refl, refl), at_end), λ held. (header_laid i last held (omega arith), (end_laid, tt)))
completion (at.InForce i) = (an_end ∷ [], at_end, λ held. (end_laid, tt))
completion at.EntryOver = ([], Groups.none, λ held. tt)
completion at.BodyOver = ([], refl, λ held. tt)
completion at.Resuming = ([], inr (inl Groups.none), λ held. tt)
completion (at.ResumingUnder i) = ([], inr (inl Groups.none), λ held. tt)
