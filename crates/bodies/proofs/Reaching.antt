-- Which packets can go on behind those that were allowed.
use Rattle.std.proofs.Common.{◌≡◌, ℕ, true, ◌⊎◌, List, [], ◌∷◌, ◌++◌, Some, None, Err, Option, refl, ◌∙◌, inl, inr, append_assoc, append-nil}
use Rattle.std.proofs.lemmas.Bool.{cases_eq}
use Rattle.packet.specs.declared.wire.Packet.{Packet}
use Rattle.packet.specs.declared.grammar.BodyKind.{BodyKind}
use Rattle.packet.specs.declared.grammar.BodyKind.TheVariants as body
use Rattle.packet.specs.declared.grammar.Position.{Position}
use Rattle.packet.specs.declared.grammar.PacketFault.TheVariants as fault
use Rattle.packet.specs.declared.grammar.Letter.{Letter}
use Rattle.packet.specs.declared.grammar.Letter.TheVariants as letter
use Rattle.packet.specs.Judging.{judged, starts}
use Rattle.bodies.specs.Layout.{LaidOut, AllLaid}
use Rattle.bodies.specs.Grammar.{Body}
use Rattle.bodies.specs.Told.{completes, headers, from_before, Reached}
use Rattle.bodies.specs.Laws.{OutOfPlace, FaultsWhereNoBodyGoesOn, GoesOn, LimitAtThe256thHeader}
use Rattle.bodies.proofs.Rest.{Rest, body_is_rest}
use Rattle.bodies.proofs.Ruling.{ByteHeld, Follows, Ruled, ruled}
use Rattle.bodies.proofs.Leading.{Leads, Goes, body_ends}
use Rattle.bodies.proofs.Judging.{Gives, gives, completed_fits, completed_below, completed_at, out_is_not_ok, out_is_not_limit, out_leads_nowhere}
use Rattle.bodies.proofs.Accepting.{Stands, stands_next, stands_first}
use Rattle.bodies.proofs.Ending.{incarnation_small, completion}

-- what the packets on the way have come to
pub record Arrives (now : Option ℕ) (before : List Packet) (from : Position) (ps : List Packet) (here : Position) (n place : ℕ) : Type 0 where
  pub stands : Stands now (before ++ ps) here n place
  pub goes : Goes from ps here
  pub goes_on : (qs : List Packet) → Rest here qs → Rest from (ps ++ qs)
  pub byte_held : AllLaid ps → ByteHeld from → ByteHeld here

-- packets that are allowed one after another come to this
pub arrives : (ps : List Packet) {now : Option ℕ} {before : List Packet} {from : Position} {entry place : ℕ} (here : Position) (n place' : ℕ)
    → Stands now before from entry place
    → Reached from entry place ps here n place'
    → Arrives now before from ps here n place'
arrives [] {now} {before} {from} {entry} {place} here n place' stands (same, count, reached) =
    rw (same, count, reached) (record { stands = rw append-nil stands; goes = refl; goes_on = λ qs after. after; byte_held = λ laid held. held })
arrives (p ∷ ps) {now} {before} {from} {entry} {place} here n place' stands (j, ok, more) =
    let given : Gives p from entry j = gives p from entry j ok stands.fits in
    let rest : Arrives now (before ++ (p ∷ [])) j.next ps here n place' = arrives ps here n place' (stands_next stands p j ok) more in
    record {
      stands = rw append_assoc at rest.stands;
      goes = (j.next, given.leads, rest.goes);
      goes_on = λ qs after. given.follows.goes_on (ps ++ qs) (rest.goes_on qs after);
      byte_held = λ (laid, all) held. rest.byte_held all (given.follows.byte_held (incarnation_small p laid) held);
    }

-- no header has begun where a body begins
none_held : (b : BodyKind) (before : Option ℕ) → ByteHeld (starts b before)
none_held body.Describe before = tt
none_held body.Play before = tt
none_held body.PlayNext None = tt
none_held body.PlayNext (Some i) = tt

-- the way on is the only one
goes_same : (from here end : Position) (ps qs : List Packet) → Goes from ps here → Goes from (ps ++ qs) end → Goes here qs end
goes_same from here end [] qs same goes = rw same goes
goes_same from here end (p ∷ ps) qs (next, leads, more) (next', leads', more') =
    let way : next' ≡ next = cc in
    goes_same next here end ps qs more (rw way at more')

module _ (b : BodyKind) (before : Option ℕ) (ps : List Packet) (here : Position) (n place : ℕ) (p : Packet) (way : Reached (starts b before) 0 0 ps here n place) where
  -- the same from where the body begins
  there : Arrives (from_before b before) [] (starts b before) ps here n place
  there = arrives ps here n place (stands_first b before) way

  -- a body that goes on with the packet has it lead on here
  leads_here : (qs : List Packet) → Body b before (ps ++ (p ∷ qs)) → (next : Position) × Leads p here next
  leads_here qs whole =
      let (end, goes, done) = body_ends b before (ps ++ (p ∷ qs)) whole in
      let (next, leads, more) = goes_same (starts b before) here end ps (p ∷ qs) there.goes goes in
      (next, leads)

  -- packets that go on with p to a body, laid out where p and those before it are
  abbrev On : Type 0
  On = (qs : List Packet) × Body b before (ps ++ (p ∷ qs)) × (AllLaid ps → LaidOut p → AllLaid qs)

  -- a packet that may come here goes on to a body
  completes_on : (l : Letter) (next : Position) → Follows p p.kind here l next → On
  completes_on l next f =
      let (qs, rest, laid) = completion next in (
        qs,
        rw (body_is_rest b before (ps ++ (p ∷ qs))) (there.goes_on (p ∷ qs) (f.goes_on qs rest)),
        λ all one. laid (f.byte_held (incarnation_small p one) (there.byte_held all (none_held b before))),
      )

  -- the packet is out of place, or goes on
  out_or_on : OutOfPlace (judged p here n) ⊎ On
  out_or_on =
      elim (ruled p here) [
        | Ruled.refused out ↦ inl (out n)
        | Ruled.passes l next rule c f ↦ inr (completes_on l next f)
        | Ruled.counts next rule c f ↦ inr (completes_on letter.Header next f)
      ]

  -- out of place, it goes on to no body
  ends_here : OutOfPlace (judged p here n) → (qs : List Packet) × Body b before (ps ++ (p ∷ qs)) → ⊥
  ends_here fault (qs, whole) =
      elim (ruled p here) [
        | Ruled.refused out ↦ let (next, leads) = leads_here qs whole in out_leads_nowhere _ next (out 0) leads
        | Ruled.passes l next rule c f ↦ out_is_not_ok _ _ fault (rule n)
        | Ruled.counts next rule c f ↦ completed_fits next n (rw (rule n) at fault)
      ]

  -- the limit is met only by the 256th header, and by that one always
  at_limit : judged p here n ≡ Err fault.TooManyEntries → (headers ps ≡ 255) × (completes p ≡ true) × ((qs : List Packet) × Body b before (ps ++ (p ∷ qs)))
  at_limit limit =
      elim (ruled p here) [
        | Ruled.refused out ↦ absurd (out_is_not_limit _ (out n) limit)
        | Ruled.passes l next rule c f ↦ absurd (cc (rule n))
        | Ruled.counts next rule c f ↦
            let on : On = completes_on letter.Header next f in
            let full : n ≡ 255 = elim (cases_eq n 255) [ inl same ↦ same | inr below ↦ absurd (cc (rule n ∙ completed_below next n below)) ] in
            (there.stands.count ∙ full, c, (on.0, on.1))
      ]

  limit_at : headers ps ≡ 255 → completes p ≡ true → (qs : List Packet) → Body b before (ps ++ (p ∷ qs)) → judged p here n ≡ Err fault.TooManyEntries
  limit_at full counts qs whole =
      elim (ruled p here) [
        | Ruled.refused out ↦ let (next, leads) = leads_here qs whole in absurd (out_leads_nowhere _ next (out 0) leads)
        | Ruled.passes l next rule c f ↦ absurd (cc)
        | Ruled.counts next rule c f ↦ rule n ∙ completed_at next n (cc (there.stands.count))
      ]

-- the three laws
pub goes_on : GoesOn
goes_on b before ps here n place p way in_place =
    elim (out_or_on b before ps here n place p way) [ inl out ↦ absurd (in_place out) | inr on ↦ on ]

pub faults_where_no_body_goes_on : FaultsWhereNoBodyGoesOn
faults_where_no_body_goes_on b before ps here n place p way = (
  ends_here b before ps here n place p way,
  λ none. elim (out_or_on b before ps here n place p way) [ inl out ↦ out | inr on ↦ absurd (none (on.0, on.1)) ],
)

pub limit_at_the_256th_header : LimitAtThe256thHeader
limit_at_the_256th_header b before ps here n place p way =
    (at_limit b before ps here n place p way, λ (full, counts, (qs, whole)). limit_at b before ps here n place p way full counts qs whole)
