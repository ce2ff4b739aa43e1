-- What may follow at each position to complete a body, in terms of the grammar.
use Rattle.std.proofs.Common.{◌≡◌, ℕ, true, cond, eqb, ◌⊎◌, List, [], ◌∷◌, ◌++◌, Some, None, Option, refl, inl, inr, eqb-true}
use Rattle.std.proofs.lemmas.Bool.{cond_both}
use Rattle.packet.specs.declared.wire.Kind.TheVariants as kind
use Rattle.packet.specs.declared.wire.Packet.{Packet}
use Rattle.packet.specs.declared.grammar.BodyKind.{BodyKind}
use Rattle.packet.specs.declared.grammar.BodyKind.TheVariants as body
use Rattle.packet.specs.declared.grammar.Position.{Position}
use Rattle.packet.specs.declared.grammar.Position.TheVariants as at
use Rattle.packet.specs.Judging.{starts, ends}
use Rattle.bodies.specs.Grammar.{Is, RunOn, Header, Entry, Groups, Entries, Play, Described, Describe, Body}

-- the rest of a header, then an entry and the groups behind it
abbrev pub ThenEntries : (List Packet → Type 0) → List Packet → Type 0
ThenEntries H ps = (h es : List Packet) × (ps ≡ h ++ es) × H h × Entries es

-- what may follow at a position
abbrev pub Rest : Position → List Packet → Type 0
Rest at.Preface ps = Describe ps
Rest (at.PrefaceOf i) ps = Described i ps
Rest (at.DescribeRun i) ps = RunOn i ps
Rest (at.Described i) ps = ps ≡ []
Rest at.HeaderDue ps = Play ps
Rest (at.MetadataOf i) ps = ThenEntries (Header i) ps
Rest (at.HeaderRun i) ps = ThenEntries (RunOn i) ps
Rest (at.InForce i) ps = Entries ps
Rest at.EntryOver ps = Groups 1 ps
Rest at.BodyOver ps = ps ≡ []
Rest at.Resuming ps = Play ps ⊎ (Groups 1 ps ⊎ ⊥)
Rest (at.ResumingUnder i) ps = Play ps ⊎ (Groups 1 ps ⊎ Entries ps)

-- a body is what may follow where it begins
pub body_is_rest : (b : BodyKind) (before : Option ℕ) (ps : List Packet) → Body b before ps ≡ Rest (starts b before) ps
body_is_rest body.Describe before ps = refl
body_is_rest body.Play before ps = refl
body_is_rest body.PlayNext None ps = refl
body_is_rest body.PlayNext (Some i) ps = refl

-- where a body may end, nothing need follow
pub ends_rest : (at : Position) → ends at ≡ true → Rest at []
ends_rest (at.Described i) may = refl
ends_rest at.EntryOver may = Groups.none
ends_rest at.BodyOver may = refl
ends_rest at.Resuming may = inr (inl Groups.none)
ends_rest (at.ResumingUnder i) may = inr (inl Groups.none)
ends_rest not_there may = absurd (cc)

-- behind an $E with a Reason
abbrev pub over : ℕ → Position
over r = cond (eqb r 1) at.EntryOver at.BodyOver

-- what may follow there are its groups
pub over_rest : (r : ℕ) (ps : List Packet) → Rest (over r) ps → Groups r ps
over_rest r ps = cond_both (eqb r 1) at.EntryOver at.BodyOver (λ here. Rest here ps → Groups r ps) (λ one groups. rw (eqb-true r 1 one) groups) (λ other none. rw none Groups.none)

-- one packet more in front of what may follow
module _ (p : Packet) (ps : List Packet) where
  pub more_data : Is kind.Data p → Entries ps → Entries (p ∷ ps)
  more_data k (r, e, g, s, entry, groups) = (r, p ∷ e, g, rw s, Entry.with_data k entry, groups)

  pub ended : Is kind.EndOfStream p → Rest (over p.fields.reason) ps → Entries (p ∷ ps)
  ended k rest = (p.fields.reason, p ∷ [], ps, refl, Entry.over (k, refl), over_rest p.fields.reason ps rest)

  pub changed : Is kind.StreamChange p → Play ps → Groups 1 (p ∷ ps)
  changed k (i, h, es, s, header, (r, e, g, t, entry, groups)) = Groups.group p i h r e g refl (rw (s, t)) k header entry groups

  -- a header, or a part of one, that ends with the packet, and one that goes on behind it
  pub part_closes : (H : List Packet → Type 0) → H (p ∷ []) → Entries ps → ThenEntries H (p ∷ ps)
  part_closes H part entries = (p ∷ [], ps, refl, part, entries)

  pub part_goes_on : (G H : List Packet → Type 0) → ((h : List Packet) → G h → H (p ∷ h)) → ThenEntries G ps → ThenEntries H (p ∷ ps)
  part_goes_on G H more (h, es, s, part, entries) = (p ∷ h, es, rw s, more h part, entries)

-- a header of an Incarnation begins a Play body
pub some_header : (i : ℕ) (ps : List Packet) → ThenEntries (Header i) ps → Play ps
some_header i ps (h, es, s, header, entries) = (i, h, es, s, header, entries)
