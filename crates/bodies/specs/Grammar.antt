-- The grammar of the three kinds of body, as relations on lists of packets.
--
-- header  any number of $M, then a run of $H whose first and last are marked, all of one Incarnation
-- entry   any number of $D, then $E
-- group   $C, a header and an entry
use Rattle.std.specs.Prelude.{◌≡◌, ℕ, ◌⊎◌, List, [], ◌∷◌, ◌++◌, Some, None, Option}
use Rattle.packet.specs.declared.wire.Kind.{Kind}
use Rattle.packet.specs.declared.wire.Kind.TheVariants as kind
use Rattle.packet.specs.declared.wire.Packet.{Packet}
use Rattle.packet.specs.declared.grammar.BodyKind.{BodyKind}
use Rattle.packet.specs.declared.grammar.BodyKind.TheVariants as body
use Rattle.packet.specs.Judging.{middle, first, last, first_and_last}

-- a packet of a kind
abbrev pub Is : Kind → Packet → Type 0
Is k p = p.kind ≡ k

-- a $M of an Incarnation, and a $H of an Incarnation with these marks
abbrev pub MetadataOf : ℕ → Packet → Type 0
MetadataOf i p = Is kind.Metadata p × (p.fields.incarnation ≡ i)

abbrev pub HeaderOf : ℕ → ℕ → Packet → Type 0
HeaderOf i marks p = Is kind.Header p × (p.fields.incarnation ≡ i) × (p.fields.af_flags ≡ marks)

-- a $E with a Reason
abbrev pub EndOf : ℕ → Packet → Type 0
EndOf r p = Is kind.EndOfStream p × (p.fields.reason ≡ r)

-- a run of $H behind its first, and whole
pub data RunOn (i : ℕ) : List Packet → Type 0 where
  closes : {p : Packet} → HeaderOf i last p → RunOn i (p ∷ [])
  goes_on : {p : Packet} {ps : List Packet} → HeaderOf i middle p → RunOn i ps → RunOn i (p ∷ ps)

pub data Run (i : ℕ) : List Packet → Type 0 where
  alone : {p : Packet} → HeaderOf i first_and_last p → Run i (p ∷ [])
  opens : {p : Packet} {ps : List Packet} → HeaderOf i first p → RunOn i ps → Run i (p ∷ ps)

pub data Header (i : ℕ) : List Packet → Type 0 where
  run : {ps : List Packet} → Run i ps → Header i ps
  with_metadata : {p : Packet} {ps : List Packet} → MetadataOf i p → Header i ps → Header i (p ∷ ps)

-- an entry whose $E has a Reason
pub data Entry (r : ℕ) : List Packet → Type 0 where
  over : {p : Packet} → EndOf r p → Entry r (p ∷ [])
  with_data : {p : Packet} {ps : List Packet} → Is kind.Data p → Entry r ps → Entry r (p ∷ ps)

-- the groups behind an $E with a Reason: any number where it is 1, none behind any other
pub data Groups : ℕ → List Packet → Type 0 where
  none : {r : ℕ} → Groups r []
  group : {r : ℕ} {ps : List Packet} (c : Packet) (i : ℕ) (h : List Packet) (s : ℕ) (e g : List Packet) → r ≡ 1 → ps ≡ c ∷ (h ++ (e ++ g)) → Is kind.StreamChange c → Header i h → Entry s e → Groups s g → Groups r ps

-- an entry and the groups behind it
abbrev pub Entries : List Packet → Type 0
Entries ps = (r : ℕ) × (e g : List Packet) × (ps ≡ e ++ g) × Entry r e × Groups r g

abbrev pub Play : List Packet → Type 0
Play ps = (i : ℕ) × (h es : List Packet) × (ps ≡ h ++ es) × Header i h × Entries es

-- any mix of $P and $M, the $M of one Incarnation, then the run of $H of that Incarnation
pub data Described (i : ℕ) : List Packet → Type 0 where
  run : {ps : List Packet} → Run i ps → Described i ps
  with_metadata : {p : Packet} {ps : List Packet} → MetadataOf i p → Described i ps → Described i (p ∷ ps)
  with_pair : {p : Packet} {ps : List Packet} → Is kind.PacketPair p → Described i ps → Described i (p ∷ ps)

abbrev pub Describe : List Packet → Type 0
Describe ps = (i : ℕ) × Described i ps

-- where an Incarnation from before was given, a Play body may lack its first header
abbrev pub Headless : Option ℕ → List Packet → Type 0
Headless None ps = ⊥
Headless (Some i) ps = Entries ps

-- a body of a kind, with the Incarnation from before
abbrev pub Body : BodyKind → Option ℕ → List Packet → Type 0
Body body.Describe before ps = Describe ps
Body body.Play before ps = Play ps
Body body.PlayNext before ps = Play ps ⊎ (Groups 1 ps ⊎ Headless before ps)
