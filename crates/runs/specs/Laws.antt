-- What a run of Steps comes to, in terms of the grammar of bodies.
use Rattle.std.specs.Prelude.{◌≡◌, ℕ, ◌≤◌, true, ◌⊎◌, ◌↔◌, List, [], ◌∷◌, ◌++◌, map, length, Option}
use Rattle.carrier.specs.declared.endings.Ending.{Ending}
use Rattle.carrier.specs.declared.endings.Ending.TheVariants as ending
use Rattle.packet.specs.declared.wire.Packet.{Packet}
use Rattle.packet.specs.declared.grammar.BodyKind.{BodyKind}
use Rattle.packet.specs.declared.grammar.Event.{Event}
use Rattle.packet.specs.declared.grammar.PacketFault.{PacketFault}
use Rattle.packet.specs.declared.grammar.PacketFault.TheVariants as fault
use Rattle.packet.specs.Judging.{stopped, entry_limit}
use Rattle.bodies.specs.Layout.{ByteString, Laid}
use Rattle.bodies.specs.Grammar.{Body}
use Rattle.bodies.specs.Told.{events, headers, completes}
use Rattle.receiver.specs.declared.answers.Answer.{Answer}
use Rattle.receiver.specs.declared.answers.Answer.TheVariants as answer
use Rattle.receiver.specs.declared.answers.StepFault.TheVariants as step_fault
use Rattle.receiver.specs.Steps.{failure}
use Rattle.runs.specs.Answers.{answers}
use Rattle.runs.specs.Bytes.{Bytes, BeginsABody}

-- A run ends clean, with the events es, exactly where the ending is clean and the bytes are a body of the kind with at most 255 headers; the events are then those that the grammar gives.
abbrev pub EndsCleanExactlyForBodies : Type 0
EndsCleanExactlyForBodies =
    (b : BodyKind) (before : Option ℕ) (bs : List ℕ) (e : Ending) (es : List Event) (place : ℕ)
    → (answers b before bs e ≡ map answer.Event es ++ (answer.End place ∷ []))
    ↔ ((e ≡ ending.Clean) × (place ≡ stopped (length bs)) × ((ps : List Packet) × Bytes ps bs × Body b before ps × (headers ps ≤ entry_limit) × (es ≡ events b before ps)))

-- the answers to packets that came before, and then a fault at the place behind them
abbrev pub FaultsBehind : BodyKind → Option ℕ → List Packet → List ℕ → PacketFault → List Answer → Type 0
FaultsBehind b before ps qs f told = told ≡ map answer.Event (events b before ps) ++ (answer.Failed (failure (step_fault.Packet f) (stopped (length qs))) ∷ [])

-- the same with a fault 26, 25 or 27: a packet that is not allowed there, by its kind, its marks or its Incarnation
abbrev pub FaultsOutOfPlace : BodyKind → Option ℕ → List Packet → List ℕ → List Answer → Type 0
FaultsOutOfPlace b before ps qs told =
    FaultsBehind b before ps qs fault.NotAllowedHere told
    ⊎ (FaultsBehind b before ps qs fault.HeaderMarks told ⊎ FaultsBehind b before ps qs fault.Incarnation told)

-- Where a body may begin with the bytes qs, which are the packets ps with at most 255 headers, and the packet p comes next in the bytes ws, its PacketSize right: it faults as out of place exactly where no body goes on behind ws, in bytes.
abbrev pub FaultsExactlyWhereNoBodyGoesOn : Type 0
FaultsExactlyWhereNoBodyGoesOn =
    (b : BodyKind) (before : Option ℕ) (ps : List Packet) (qs : List ℕ) (p : Packet) (payload ws rest : List ℕ) (e : Ending)
    → Bytes ps qs
    → BeginsABody b before qs
    → headers ps ≤ entry_limit
    → Laid p payload ws
    → ByteString (qs ++ ws)
    → FaultsOutOfPlace b before ps qs (answers b before (qs ++ (ws ++ rest)) e)
    ↔ (BeginsABody b before (qs ++ ws) → ⊥)

-- Under the same conditions the limit is met exactly where p completes the 256th header of what a body may begin with.
abbrev pub LimitExactlyAtThe256thHeader : Type 0
LimitExactlyAtThe256thHeader =
    (b : BodyKind) (before : Option ℕ) (ps : List Packet) (qs : List ℕ) (p : Packet) (payload ws rest : List ℕ) (e : Ending)
    → Bytes ps qs
    → BeginsABody b before qs
    → headers ps ≤ entry_limit
    → Laid p payload ws
    → ByteString (qs ++ ws)
    → FaultsBehind b before ps qs fault.TooManyEntries (answers b before (qs ++ (ws ++ rest)) e)
    ↔ ((headers ps ≡ entry_limit) × (completes p ≡ true) × BeginsABody b before (qs ++ ws))
