-- A body's packets lead from where it begins to where it may end, the number of headers left aside.
use Rattle.std.proofs.Common.{◌≡◌, ℕ, true, eqb, List, [], ◌∷◌, ◌++◌, Some, None, Ok, Err, Option, Result, refl, inl, inr, eq-eqb}
use Rattle.std.proofs.lemmas.Bool.{cond_both}
use Rattle.packet.specs.declared.wire.Kind.TheVariants as kind
use Rattle.packet.specs.declared.wire.Packet.{Packet}
use Rattle.packet.specs.declared.grammar.BodyKind.{BodyKind}
use Rattle.packet.specs.declared.grammar.BodyKind.TheVariants as body
use Rattle.packet.specs.declared.grammar.Position.{Position}
use Rattle.packet.specs.declared.grammar.Position.TheVariants as at
use Rattle.packet.specs.declared.grammar.PacketFault.{PacketFault}
use Rattle.packet.specs.declared.grammar.Judged.{Judged}
use Rattle.packet.specs.Judging.{judged, starts, ends, begun, continued}
use Rattle.bodies.specs.Grammar.{Is, MetadataOf, EndOf, RunOn, Run, Header, Entry, Groups, Entries, Play, Described, Body}
use Rattle.bodies.proofs.Rest.{over}

-- where a judgement leads
abbrev pub next_of : Result Judged PacketFault → Option Position
next_of (Ok j) = Some j.next
next_of (Err x) = None

-- the packet may come at a position, and leads to the next
abbrev pub Leads : Packet → Position → Position → Type 0
Leads p here next = next_of (judged p here 0) ≡ Some next

-- packets lead from a position to another, one after another
abbrev pub Goes : Position → List Packet → Position → Type 0
Goes here [] end = end ≡ here
Goes here (p ∷ ps) end = (next : Position) × Leads p here next × Goes next ps end

-- two ways, one behind the other
pub goes_append : (here mid end : Position) (ps qs : List Packet) → Goes here ps mid → Goes mid qs end → Goes here (ps ++ qs) end
goes_append here mid end [] qs same more = rw same at more
goes_append here mid end (p ∷ ps) qs (next, leads, first) more = (next, leads, goes_append next mid end ps qs first more)

-- a $H of an Incarnation opens its header at a position, by its marks, and goes on with it
abbrev Opens : Position → ℕ → Position → Position → Type 0
Opens here i run done = (p : Packet) → Is kind.Header p → p.fields.incarnation ≡ i → judged p here 0 ≡ begun p.fields i run done 0

abbrev Continues : ℕ → Position → Position → Type 0
Continues i run done = (p : Packet) → Is kind.Header p → p.fields.incarnation ≡ i → judged p run 0 ≡ continued p.fields i run done 0

-- a run of $H leads to where it is done: the rest of one, and a whole one
run_on_goes : {i : ℕ} {h : List Packet} (run done : Position) → Continues i run done → RunOn i h → Goes run h done
run_on_goes run done continues (RunOn.closes {p} (k, same, flags)) = (done, simp (continues p k same, flags, eq-eqb _ _ same), refl)
run_on_goes run done continues (RunOn.goes_on {p} (k, same, flags) more) = (run, simp (continues p k same, flags, eq-eqb _ _ same), run_on_goes run done continues more)

run_goes : {i : ℕ} {h : List Packet} (here run done : Position) → Opens here i run done → Continues i run done → Run i h → Goes here h done
run_goes here run done opens continues (Run.alone {p} (k, same, flags)) = (done, simp (opens p k same, flags, eq-eqb _ _ same), refl)
run_goes here run done opens continues (Run.opens {p} (k, same, flags) more) = (run, simp (opens p k same, flags, eq-eqb _ _ same), run_on_goes run done continues more)

-- a header from where its $M have begun, and from any position where it may begin
header_goes : {i : ℕ} {h : List Packet} → Header i h → Goes (at.MetadataOf i) h (at.InForce i)
header_goes {i} (Header.run r) = run_goes (at.MetadataOf i) (at.HeaderRun i) (at.InForce i) (λ p k same. simp (k, same)) (λ p k same. simp k) r
header_goes {i} (Header.with_metadata {p} (k, same) h) = (at.MetadataOf i, simp (k, eq-eqb _ _ same), header_goes h)

-- a header may begin at a position, with a $H or a $M
abbrev Begins : Position → Type 0
Begins here = (i : ℕ) → Opens here i (at.HeaderRun i) (at.InForce i) × ((p : Packet) → MetadataOf i p → Leads p here (at.MetadataOf i))

header_begins : {i : ℕ} {h : List Packet} (here : Position) → Begins here → Header i h → Goes here h (at.InForce i)
header_begins {i} here begins (Header.run r) = run_goes here (at.HeaderRun i) (at.InForce i) (begins i).0 (λ p k same. simp k) r
header_begins {i} here begins (Header.with_metadata {p} m h) = (at.MetadataOf i, (begins i).1 p m, header_goes h)

-- it may where one is due
due_begins : Begins at.HeaderDue
due_begins i = (λ p k same. simp (k, same), λ p (k, same). simp (k, same))

-- the packets of a Describe body, from where their Incarnation is settled and from the beginning
described_of_goes : {i : ℕ} {h : List Packet} → Described i h → Goes (at.PrefaceOf i) h (at.Described i)
described_of_goes {i} (Described.run r) = run_goes (at.PrefaceOf i) (at.DescribeRun i) (at.Described i) (λ p k same. simp (k, same)) (λ p k same. simp k) r
described_of_goes {i} (Described.with_metadata {p} (k, same) d) = (at.PrefaceOf i, simp (k, eq-eqb _ _ same), described_of_goes d)
described_of_goes {i} (Described.with_pair {p} k d) = (at.PrefaceOf i, simp k, described_of_goes d)

described_goes : {i : ℕ} {h : List Packet} → Described i h → Goes at.Preface h (at.Described i)
described_goes {i} (Described.run r) = run_goes at.Preface (at.DescribeRun i) (at.Described i) (λ p k same. simp (k, same)) (λ p k same. simp k) r
described_goes {i} (Described.with_metadata {p} (k, same) d) = (at.PrefaceOf i, simp (k, same), described_of_goes d)
described_goes {i} (Described.with_pair {p} k d) = (at.Preface, simp k, described_goes d)

-- an entry, from where its header is in force
abbrev Under : ℕ → Position → Type 0
Under i here = (p : Packet) → (Is kind.Data p → Leads p here (at.InForce i)) × ((r : ℕ) → EndOf r p → Leads p here (over r))

-- a header in force, and the entry under it
in_force_under : (i : ℕ) → Under i (at.InForce i)
in_force_under i p = (λ k. simp k, λ r (k, reason). simp (k, reason))

entry_goes : {r : ℕ} {e : List Packet} (i : ℕ) (here : Position) → Under i here → Entry r e → Goes here e (over r)
entry_goes {r} i here under (Entry.over {p} is) = (over r, (under p).1 r is, refl)
entry_goes {r} i here under (Entry.with_data {p} is e) = (at.InForce i, (under p).0 is, entry_goes i (at.InForce i) (in_force_under i) e)

-- the packets lead to a position where a body may end
abbrev pub Ends : Position → List Packet → Type 0
Ends here ps = (end : Position) × Goes here ps end × (ends end ≡ true)

-- a way to a position, and from there to an end
goes_on_to_end : (here mid : Position) (ps qs : List Packet) → Goes here ps mid → Ends mid qs → Ends here (ps ++ qs)
goes_on_to_end here mid ps qs goes (end, more, done) = (end, goes_append here mid end ps qs goes more, done)

-- a body may end behind any $E
over_ends : (r : ℕ) → ends (over r) ≡ true
over_ends r = cond_both (eqb r 1) at.EntryOver at.BodyOver (λ end. ends end ≡ true) (λ one. refl) (λ other. refl)

-- a $C may come at a position; it may behind a $E whose Reason is 1
abbrev Changes : Position → Type 0
Changes here = (p : Packet) → Is kind.StreamChange p → Leads p here at.HeaderDue

over_changes : (r : ℕ) → r ≡ 1 → Changes (over r)
over_changes r one p k = simp (one, k)

-- groups, entries and a Play body lead to an end
groups_end : {r : ℕ} {ps : List Packet} (here : Position) → ends here ≡ true → (r ≡ 1 → Changes here) → Groups r ps → Ends here ps
groups_end here done changes Groups.none = (here, refl, done)
groups_end here done changes (Groups.group c i h s e g one split is header entry groups) =
    rw split
    (goes_on_to_end here at.HeaderDue (c ∷ []) (h ++ (e ++ g)) (at.HeaderDue, changes one c is, refl)
    (goes_on_to_end at.HeaderDue (at.InForce i) h (e ++ g) (header_begins at.HeaderDue due_begins header)
    (goes_on_to_end (at.InForce i) (over s) e g (entry_goes i (at.InForce i) (in_force_under i) entry)
    (groups_end (over s) (over_ends s) (over_changes s) groups))))

entries_end : (i : ℕ) (here : Position) (ps : List Packet) → Under i here → Entries ps → Ends here ps
entries_end i here ps under (r, e, g, split, entry, groups) =
    rw split (goes_on_to_end here (over r) e g (entry_goes i here under entry) (groups_end (over r) (over_ends r) (over_changes r) groups))

play_ends : (here : Position) (ps : List Packet) → Begins here → Play ps → Ends here ps
play_ends here ps begins (i, h, es, split, header, entries) =
    rw split (goes_on_to_end here (at.InForce i) h es (header_begins here begins header) (entries_end i (at.InForce i) es (in_force_under i) entries))

-- a body ends where one may
pub body_ends : (b : BodyKind) (before : Option ℕ) (ps : List Packet) → Body b before ps → Ends (starts b before) ps
body_ends body.Describe before ps (i, described) = (at.Described i, described_goes described, refl)
body_ends body.Play before ps play = play_ends at.HeaderDue ps due_begins play
body_ends body.PlayNext None ps (inl play) = play_ends at.Resuming ps (λ i. (λ p k same. simp (k, same), λ p (k, same). simp (k, same))) play
body_ends body.PlayNext None ps (inr (inl groups)) = groups_end at.Resuming refl (λ one p k. simp k) groups
body_ends body.PlayNext None ps (inr (inr none)) = absurd none
body_ends body.PlayNext (Some i) ps (inl play) = play_ends (at.ResumingUnder i) ps (λ j. (λ p k same. simp (k, same), λ p (k, same). simp (k, same))) play
body_ends body.PlayNext (Some i) ps (inr (inl groups)) = groups_end (at.ResumingUnder i) refl (λ one p k. simp k) groups
body_ends body.PlayNext (Some i) ps (inr (inr entries)) = entries_end i (at.ResumingUnder i) ps (λ p. (λ k. simp k, λ r (k, reason). simp (k, reason))) entries
