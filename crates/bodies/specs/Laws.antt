-- What the judgement of packets comes to over whole bodies.
use Rattle.std.specs.Prelude.{◌≡◌, ℕ, ◌≤◌, true, ◌⊎◌, ◌↔◌, List, ◌∷◌, ◌++◌, Err, Option, Result}
use Rattle.packet.specs.declared.wire.Packet.{Packet}
use Rattle.packet.specs.declared.grammar.BodyKind.{BodyKind}
use Rattle.packet.specs.declared.grammar.Position.{Position}
use Rattle.packet.specs.declared.grammar.Event.{Event}
use Rattle.packet.specs.declared.grammar.Judged.{Judged}
use Rattle.packet.specs.declared.grammar.PacketFault.{PacketFault}
use Rattle.packet.specs.declared.grammar.PacketFault.TheVariants as fault
use Rattle.packet.specs.Judging.{judged, starts, entry_limit}
use Rattle.bodies.specs.Grammar.{Body}
use Rattle.bodies.specs.Layout.{LaidOut, AllLaid}
use Rattle.bodies.specs.Told.{Accepted, Reached, completes, headers, events}

-- The lists of packets that are accepted are the bodies with at most 255 headers, each told as its events.
abbrev pub AcceptsExactlyBodies : Type 0
AcceptsExactlyBodies =
    (b : BodyKind) (before : Option ℕ) (ps : List Packet) (es : List Event)
    → Accepted (starts b before) 0 0 ps es ↔ (Body b before ps × (headers ps ≤ entry_limit) × (es ≡ events b before ps))

-- the faults of a packet that does not fit where it stands
abbrev pub OutOfPlace : Result Judged PacketFault → Type 0
OutOfPlace r = (r ≡ Err fault.NotAllowedHere) ⊎ ((r ≡ Err fault.HeaderMarks) ⊎ (r ≡ Err fault.Incarnation))

-- Behind packets that were allowed, a packet is out of place exactly where no body goes on with it.
abbrev pub FaultsWhereNoBodyGoesOn : Type 0
FaultsWhereNoBodyGoesOn =
    (b : BodyKind) (before : Option ℕ) (ps : List Packet) (at : Position) (n place : ℕ) (p : Packet)
    → Reached (starts b before) 0 0 ps at n place
    → (OutOfPlace (judged p at n) ↔ ((qs : List Packet) × Body b before (ps ++ (p ∷ qs)) → ⊥))

-- Any other packet goes on to a body. Where it and the packets before it have bytes, it does so by packets that have bytes.
abbrev pub GoesOn : Type 0
GoesOn =
    (b : BodyKind) (before : Option ℕ) (ps : List Packet) (at : Position) (n place : ℕ) (p : Packet)
    → Reached (starts b before) 0 0 ps at n place
    → (OutOfPlace (judged p at n) → ⊥)
    → (qs : List Packet) × Body b before (ps ++ (p ∷ qs)) × (AllLaid ps → LaidOut p → AllLaid qs)

-- The limit is met by the packet that would complete the 256th header of what could go on to a body, and by no other.
abbrev pub LimitAtThe256thHeader : Type 0
LimitAtThe256thHeader =
    (b : BodyKind) (before : Option ℕ) (ps : List Packet) (at : Position) (n place : ℕ) (p : Packet)
    → Reached (starts b before) 0 0 ps at n place
    → ((judged p at n ≡ Err fault.TooManyEntries)
    ↔ ((headers ps ≡ entry_limit) × (completes p ≡ true) × ((qs : List Packet) × Body b before (ps ++ (p ∷ qs)))))
