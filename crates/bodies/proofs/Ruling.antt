-- What the judgement makes of a packet at a position, whatever the number of headers before it:
-- the packet is refused, or it passes, or it completes a header and counts.
use Rattle.std.proofs.Common.{◌≡◌, ℕ, ◌<◌, true, false, cond, eqb, List, [], ◌∷◌, Some, None, Err, Result, sym, refl, ap, ◌∙◌, inl, inr}
use Rattle.std.proofs.lemmas.Bool.{cond_both, cases_eq, eq-eqb, ne_eqb}
use Rattle.packet.specs.declared.wire.Kind.{Kind}
use Rattle.packet.specs.declared.wire.Kind.TheVariants as kind
use Rattle.packet.specs.declared.wire.Packet.{Packet}
use Rattle.packet.specs.declared.grammar.Position.{Position}
use Rattle.packet.specs.declared.grammar.Position.TheVariants as at
use Rattle.packet.specs.declared.grammar.PacketFault.{PacketFault}
use Rattle.packet.specs.declared.grammar.PacketFault.TheVariants as fault
use Rattle.packet.specs.declared.grammar.Letter.{Letter}
use Rattle.packet.specs.declared.grammar.Letter.TheVariants as letter
use Rattle.packet.specs.declared.grammar.Judged.{Judged}
use Rattle.packet.specs.Judging.{in_force_at, placed, told, completed, agreed, begun, first, first_and_last, middle, last}
use Rattle.bodies.specs.Grammar.{Is, HeaderOf, RunOn, Run, Header, Entries, Play, Described}
use Rattle.bodies.specs.Told.{completing, in_force_behind, letter_as, data_letter}
use Rattle.bodies.specs.Laws.{OutOfPlace}
use Rattle.bodies.proofs.Rest.{Rest, ThenEntries, over, more_data, ended, changed, part_closes, part_goes_on, some_header}

-- the Incarnation of a header that has begun and is not complete at a position is a byte
abbrev pub ByteHeld : Position → Type 0
ByteHeld (at.PrefaceOf i) = i < 256
ByteHeld (at.DescribeRun i) = i < 256
ByteHeld (at.MetadataOf i) = i < 256
ByteHeld (at.HeaderRun i) = i < 256
ByteHeld elsewhere = Unit {0}

-- that stays so from a position to the next, where the packet between them has a byte for its Incarnation
abbrev pub HoldsByte : Packet → Position → Position → Type 0
HoldsByte p at next = p.fields.incarnation < 256 → ByteHeld at → ByteHeld next

-- a packet of a kind may come at a position, is told by a letter, and leads to the next position
pub record Follows (p : Packet) (k : Kind) (at : Position) (l : Letter) (next : Position) : Type 0 where
  pub told_as : l ≡ letter_as k (in_force_at at) p.fields.incarnation
  pub in_force : in_force_at next ≡ in_force_behind k p (in_force_at at)
  pub byte_held : HoldsByte p at next
  pub goes_on : (ps : List Packet) → Rest next ps → Rest at (p ∷ ps)

-- a packet of a kind at a position: refused, passed on, or counted as a header, whatever the count
pub data Ruled (p : Packet) (k : Kind) (at : Position) : Type 0 where
  refused : ((n : ℕ) → OutOfPlace (placed k at p.fields n)) → Ruled p k at
  passes : (l : Letter) (next : Position)
      → ((n : ℕ) → placed k at p.fields n ≡ told l next n)
      → completing k p.fields.af_flags ≡ false
      → Follows p k at l next
      → Ruled p k at
  counts : (next : Position)
      → ((n : ℕ) → placed k at p.fields n ≡ completed next n)
      → completing k p.fields.af_flags ≡ true
      → Follows p k at letter.Header next
      → Ruled p k at

-- a packet that passes, and what follows from it
allows : {p : Packet} {k : Kind} {at : Position} (l : Letter) (next : Position)
    → ((n : ℕ) → placed k at p.fields n ≡ told l next n)
    → completing k p.fields.af_flags ≡ false
    → l ≡ letter_as k (in_force_at at) p.fields.incarnation
    → in_force_at next ≡ in_force_behind k p (in_force_at at)
    → HoldsByte p at next
    → ((ps : List Packet) → Rest next ps → Rest at (p ∷ ps))
    → Ruled p k at
allows l next rule uncounted named held small more = Ruled.passes l next rule uncounted (record { told_as = named; in_force = held; byte_held = small; goes_on = more })

-- behind a $E no header is in force, nor has one begun
over_holds_none : (r : ℕ) → (in_force_at (over r) ≡ None) × ByteHeld (over r)
over_holds_none r = cond_both (eqb r 1) at.EntryOver at.BodyOver (λ next. (in_force_at next ≡ None) × ByteHeld next) (λ one. (refl, tt)) (λ other. (refl, tt))

-- A judgement that asks for the Incarnation of a header: where the packet has it, the rest of the judgement decides, and any other is refused.
if_agreed : {p : Packet} {k : Kind} {at : Position} (of : ℕ) (rest : ℕ → Result Judged PacketFault)
    → ((n : ℕ) → placed k at p.fields n ≡ agreed p.fields.incarnation of (rest n))
    → (p.fields.incarnation ≡ of → ((n : ℕ) → placed k at p.fields n ≡ rest n) → Ruled p k at)
    → Ruled p k at
if_agreed {p} of rest rule decides =
    elim (cases_eq p.fields.incarnation of) [
      | inl same ↦ decides same (λ n. rule n ∙ rw (eq-eqb p.fields.incarnation of same))
      | inr other ↦ Ruled.refused (λ n. inr (inr (rule n ∙ rw (ne_eqb p.fields.incarnation of other))))
    ]

-- a $M where a header's Incarnation is settled
metadata_agrees : (p : Packet) (at : Position) (of : ℕ)
    → ((n : ℕ) → placed kind.Metadata at p.fields n ≡ agreed p.fields.incarnation of (told letter.Metadata at n))
    → in_force_at at ≡ None
    → (p.fields.incarnation ≡ of → (ps : List Packet) → Rest at ps → Rest at (p ∷ ps))
    → Ruled p kind.Metadata at
metadata_agrees p at of rule none more =
    if_agreed of (told letter.Metadata at) rule (λ same rest. allows letter.Metadata at rest refl refl none (λ small held. held) (more same))

-- a $M begins a header where a Play body may begin
metadata_opens : (p : Packet) (here : Position) → Is kind.Metadata p
    → ((n : ℕ) → placed kind.Metadata here p.fields n ≡ told letter.Metadata (at.MetadataOf p.fields.incarnation) n)
    → ((ps : List Packet) → Play ps → Rest here ps)
    → Ruled p kind.Metadata here
metadata_opens p here is rule play =
    let i : ℕ = p.fields.incarnation in
    allows letter.Metadata (at.MetadataOf i) rule refl refl refl (λ small held. small)
    (λ ps rest. play (p ∷ ps) (some_header i (p ∷ ps) (part_goes_on p ps (Header i) (Header i) (λ h part. Header.with_metadata (is, refl) part) rest)))

-- a $H where one of two marks may come: one with which the header goes on, and one that completes it
module _ (p : Packet) (is : Is kind.Header p) (at : Position) (on closing of : ℕ) (run done : Position) where
  -- its judgement, by its marks and its Incarnation
  abbrev marked : ℕ → Result Judged PacketFault
  marked n =
      cond (eqb p.fields.af_flags on) (agreed p.fields.incarnation of (told letter.Header run n))
      (cond (eqb p.fields.af_flags closing) (agreed p.fields.incarnation of (completed done n)) (Err fault.HeaderMarks))

  -- so it is refused, passes or counts
  marked_ruled : ((n : ℕ) → placed kind.Header at p.fields n ≡ marked n)
      → completing kind.Header on ≡ false
      → completing kind.Header closing ≡ true
      → in_force_at run ≡ None
      → (p.fields.incarnation ≡ of → in_force_at done ≡ Some p.fields.incarnation)
      → HoldsByte p at run
      → HoldsByte p at done
      → (HeaderOf of on p → (ps : List Packet) → Rest run ps → Rest at (p ∷ ps))
      → (HeaderOf of closing p → (ps : List Packet) → Rest done ps → Rest at (p ∷ ps))
      → Ruled p kind.Header at
  marked_ruled rule opened shut running held small done-small more complete =
      elim (cases_eq p.fields.af_flags on) [
        | inl opens ↦
            if_agreed of (told letter.Header run) (λ n. rule n ∙ rw (eq-eqb p.fields.af_flags on opens))
            (λ same rest. allows letter.Header run rest (rw opens opened) refl (rw (is, opens, opened) running) small (more (is, same, opens)))
        | inr goes_by ↦
            elim (cases_eq p.fields.af_flags closing) [
              | inl closes ↦
                  if_agreed of (completed done) (λ n. rule n ∙ rw (ne_eqb p.fields.af_flags on goes_by, eq-eqb p.fields.af_flags closing closes))
                  (λ same rest. Ruled.counts done rest (rw closes shut) (record { told_as = refl; in_force = rw (is, closes, shut) (held same); byte_held = done-small; goes_on = complete (is, same, closes) }))
              | inr neither ↦ Ruled.refused (λ n. inr (inl (rule n ∙ rw (ne_eqb p.fields.af_flags on goes_by, ne_eqb p.fields.af_flags closing neither))))
            ]
      ]

-- a $H in front of what may follow it
module _ (p : Packet) (ps : List Packet) (i : ℕ) where
  opens_header : HeaderOf i first p → ThenEntries (RunOn p.fields.incarnation) ps → ThenEntries (Header i) (p ∷ ps)
  opens_header of rest =
      part_goes_on p ps (RunOn p.fields.incarnation) (Header i)
      (λ h part. Header.run (Run.opens of (rw of.1 at part))) rest

  whole_header : HeaderOf i first_and_last p → Entries ps → ThenEntries (Header i) (p ∷ ps)
  whole_header of rest = part_closes p ps (Header i) (Header.run (Run.alone of)) rest

  opens_described : HeaderOf i first p → RunOn p.fields.incarnation ps → Described i (p ∷ ps)
  opens_described of rest = Described.run (Run.opens of (rw of.1 at rest))

  whole_described : HeaderOf i first_and_last p → ps ≡ [] → Described i (p ∷ ps)
  whole_described of rest = rw rest (Described.run (Run.alone of))

-- a $H opens a header where a Play body may begin
header_opens : (p : Packet) (here : Position) → Is kind.Header p
    → ((n : ℕ) → placed kind.Header here p.fields n ≡ begun p.fields p.fields.incarnation (at.HeaderRun p.fields.incarnation) (at.InForce p.fields.incarnation) n)
    → ((ps : List Packet) → Play ps → Rest here ps)
    → Ruled p kind.Header here
header_opens p here is rule play =
    let i : ℕ = p.fields.incarnation in
    marked_ruled p is here first first_and_last i (at.HeaderRun i) (at.InForce i) rule refl refl refl (λ same. refl) (λ small held. small) (λ small held. tt)
    (λ of ps rest. play (p ∷ ps) (some_header i (p ∷ ps) (opens_header p ps i of rest))) (λ of ps rest. play (p ∷ ps) (some_header i (p ∷ ps) (whole_header p ps i of rest)))

-- which packet may come where; anywhere else it is not allowed
ruled_as : (p : Packet) (k : Kind) (at : Position) → Is k p → Ruled p k at
ruled_as p kind.StreamChange at.EntryOver is = allows letter.StreamChange at.HeaderDue (λ n. refl) refl refl refl (λ small held. tt) (λ ps rest. changed p ps is rest)
ruled_as p kind.StreamChange at.Resuming is = allows letter.StreamChange at.HeaderDue (λ n. refl) refl refl refl (λ small held. tt) (λ ps rest. inr (inl (changed p ps is rest)))
ruled_as p kind.StreamChange (at.ResumingUnder i) is = allows letter.StreamChange at.HeaderDue (λ n. refl) refl refl refl (λ small held. tt) (λ ps rest. inr (inl (changed p ps is rest)))
ruled_as p kind.Data (at.InForce i) is = allows (data_letter (Some i) p.fields.incarnation) (at.InForce i) (λ n. refl) refl refl refl (λ small held. tt) (λ ps rest. more_data p ps is rest)
ruled_as p kind.Data (at.ResumingUnder i) is = allows (data_letter (Some i) p.fields.incarnation) (at.InForce i) (λ n. refl) refl refl refl (λ small held. tt) (λ ps rest. inr (inr (more_data p ps is rest)))
ruled_as p kind.EndOfStream (at.InForce i) is = allows letter.EndOfStream (over p.fields.reason) (λ n. refl) refl refl (over_holds_none p.fields.reason).0 (λ small held. (over_holds_none p.fields.reason).1) (λ ps rest. ended p ps is rest)
ruled_as p kind.EndOfStream (at.ResumingUnder i) is = allows letter.EndOfStream (over p.fields.reason) (λ n. refl) refl refl (over_holds_none p.fields.reason).0 (λ small held. (over_holds_none p.fields.reason).1) (λ ps rest. inr (inr (ended p ps is rest)))
ruled_as p kind.Header at.Preface is =
    let i : ℕ = p.fields.incarnation in
    marked_ruled p is at.Preface first first_and_last i (at.DescribeRun i) (at.Described i) (λ n. refl) refl refl refl (λ same. refl) (λ small held. small) (λ small held. tt)
    (λ of ps rest. (i, opens_described p ps i of rest)) (λ of ps rest. (i, whole_described p ps i of rest))
ruled_as p kind.Header (at.PrefaceOf i) is =
    marked_ruled p is (at.PrefaceOf i) first first_and_last i (at.DescribeRun p.fields.incarnation) (at.Described p.fields.incarnation) (λ n. refl) refl refl refl (λ same. refl) (λ small held. small) (λ small held. tt)
    (λ of ps rest. opens_described p ps i of rest) (λ of ps rest. whole_described p ps i of rest)
ruled_as p kind.Header (at.DescribeRun i) is =
    marked_ruled p is (at.DescribeRun i) middle last i (at.DescribeRun i) (at.Described i) (λ n. refl) refl refl refl (λ same. ap Some (sym same)) (λ small held. held) (λ small held. tt)
    (λ of ps rest. RunOn.goes_on of rest) (λ of ps rest. rw rest (RunOn.closes of))
ruled_as p kind.Header at.HeaderDue is = header_opens p at.HeaderDue is (λ n. refl) (λ ps play. play)
ruled_as p kind.Header (at.MetadataOf i) is =
    marked_ruled p is (at.MetadataOf i) first first_and_last i (at.HeaderRun p.fields.incarnation) (at.InForce p.fields.incarnation) (λ n. refl) refl refl refl (λ same. refl) (λ small held. small) (λ small held. tt)
    (λ of ps rest. opens_header p ps i of rest) (λ of ps rest. whole_header p ps i of rest)
ruled_as p kind.Header (at.HeaderRun i) is =
    marked_ruled p is (at.HeaderRun i) middle last i (at.HeaderRun i) (at.InForce i) (λ n. refl) refl refl refl (λ same. ap Some (sym same)) (λ small held. held) (λ small held. tt)
    (λ of ps rest. part_goes_on p ps (RunOn i) (RunOn i) (λ h part. RunOn.goes_on of part) rest) (λ of ps rest. part_closes p ps (RunOn i) (RunOn.closes of) rest)
ruled_as p kind.Header at.Resuming is = header_opens p at.Resuming is (λ n. refl) (λ ps play. inl play)
ruled_as p kind.Header (at.ResumingUnder j) is = header_opens p (at.ResumingUnder j) is (λ n. refl) (λ ps play. inl play)
ruled_as p kind.Metadata at.Preface is = allows letter.Metadata (at.PrefaceOf p.fields.incarnation) (λ n. refl) refl refl refl (λ small held. small) (λ ps rest. (p.fields.incarnation, Described.with_metadata (is, refl) rest))
ruled_as p kind.Metadata (at.PrefaceOf i) is = metadata_agrees p (at.PrefaceOf i) i (λ n. refl) refl (λ same ps rest. Described.with_metadata (is, same) rest)
ruled_as p kind.Metadata at.HeaderDue is = metadata_opens p at.HeaderDue is (λ n. refl) (λ ps play. play)
ruled_as p kind.Metadata (at.MetadataOf i) is = metadata_agrees p (at.MetadataOf i) i (λ n. refl) refl (λ same ps rest. part_goes_on p ps (Header i) (Header i) (λ h part. Header.with_metadata (is, same) part) rest)
ruled_as p kind.Metadata at.Resuming is = metadata_opens p at.Resuming is (λ n. refl) (λ ps play. inl play)
ruled_as p kind.Metadata (at.ResumingUnder i) is = metadata_opens p (at.ResumingUnder i) is (λ n. refl) (λ ps play. inl play)
ruled_as p kind.PacketPair at.Preface is = allows letter.PacketPair at.Preface (λ n. refl) refl refl refl (λ small held. held) (λ ps rest. (rest.0, Described.with_pair is rest.1))
ruled_as p kind.PacketPair (at.PrefaceOf i) is = allows letter.PacketPair (at.PrefaceOf i) (λ n. refl) refl refl refl (λ small held. held) (λ ps rest. Described.with_pair is rest)
ruled_as p k elsewhere is = Ruled.refused (λ n. inl refl)

-- each packet is ruled by its kind
pub ruled : (p : Packet) (at : Position) → Ruled p p.kind at
ruled p at = ruled_as p p.kind at refl
