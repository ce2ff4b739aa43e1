-- The lists of packets that are accepted are the bodies with at most 255 headers, each told as its events.
use Rattle.std.proofs.Common.{◌≡◌, ℕ, ◌+◌, ◌≤◌, List, [], ◌∷◌, ◌++◌, Some, None, Ok, Option, sym, refl, arith}
use Rattle.std.proofs.lemmas.List.Sums.{sum_by-append}
use Rattle.std.proofs.lemmas.List.Recursion.{is_sum_by}
use Rattle.packet.specs.declared.wire.Packet.{Packet}
use Rattle.packet.specs.declared.grammar.BodyKind.{BodyKind}
use Rattle.packet.specs.declared.grammar.BodyKind.TheVariants as body
use Rattle.packet.specs.declared.grammar.Position.{Position}
use Rattle.packet.specs.declared.grammar.Event.{Event}
use Rattle.packet.specs.declared.grammar.Judged.{Judged}
use Rattle.packet.specs.Judging.{judged, starts, in_force_at, stopped, behind, event}
use Rattle.bodies.specs.Told.{headers, in_force, in_force_behind, from_before, bytes_of, told_behind, events_behind, Accepted}
use Rattle.bodies.specs.Laws.{AcceptsExactlyBodies}
use Rattle.bodies.proofs.Rest.{Rest, ends_rest, body_is_rest}
use Rattle.bodies.proofs.Leading.{Ends, body_ends}
use Rattle.bodies.proofs.Judging.{Gives, gives, allowed, counted}

-- the headers of packets one behind the other add up
pub headers_append : (ps qs : List Packet) → headers (ps ++ qs) ≡ headers ps + headers qs
headers_append ps qs = simp (is_sum_by headers counted refl (λ _ _. refl), sum_by-append)

-- so do their bytes
pub bytes_append : (ps qs : List Packet) → bytes_of (ps ++ qs) ≡ bytes_of ps + bytes_of qs
bytes_append ps qs = simp (is_sum_by bytes_of (λ p. 4 + p.length) refl (λ _ _. refl), sum_by-append)

-- a packet more decides what is in force behind it
pub in_force_next : (now : Option ℕ) (ps : List Packet) (p : Packet) → in_force now (ps ++ (p ∷ [])) ≡ in_force_behind p.kind p (in_force now ps)
in_force_next now [] p = refl
in_force_next now (q ∷ ps) p = in_force_next (in_force_behind q.kind q now) ps p

-- what the packets before have come to
pub record Stands (now : Option ℕ) (before : List Packet) (here : Position) (entry place : ℕ) : Type 0 where
  pub header : in_force now before ≡ in_force_at here
  pub count : headers before ≡ entry
  pub fits : entry ≤ 255
  pub reached : stopped (bytes_of before) ≡ place

module _ {now : Option ℕ} {before : List Packet} {here : Position} {entry place : ℕ} (stands : Stands now before here entry place) (p : Packet) (j : Judged) (ok : judged p here entry ≡ Ok j) where
  given : Gives p here entry j
  given = gives p here entry j ok stands.fits

  count_next : headers (before ++ (p ∷ [])) ≡ j.entry
  count_next = omega (arith, headers_append before (p ∷ []), given.entry_is, stands.count)

  -- what the packets come to with the allowed packet
  pub stands_next : Stands now (before ++ (p ∷ [])) j.next j.entry (behind place p.length)
  stands_next =
      record {
        header = cc (in_force_next now before p, given.follows.in_force);
        count = count_next;
        fits = given.entry_fits;
        reached = omega (arith, bytes_append before (p ∷ []), stands.reached);
      }

  -- the event of the allowed packet is what the grammar tells of it
  pub told_next : told_behind now before p ≡ event p place j
  told_next = cc (given.follows.told_as, count_next)

-- what is accepted is a body with few headers, and is told as its events
accepted_body : (ps : List Packet) {now : Option ℕ} {before : List Packet} {here : Position} {entry place : ℕ} (es : List Event)
    → Stands now before here entry place
    → Accepted here entry place ps es
    → Rest here ps × (entry + headers ps ≤ 255) × (es ≡ events_behind now before ps)
accepted_body [] {now} {before} {here} {entry} {place} es stands (may-end, none) = (ends_rest here may-end, omega arith, none)
accepted_body (p ∷ ps) {now} {before} {here} {entry} {place} es stands (j, fs, ok, told, more) =
    let given : Gives p here entry j = gives p here entry j ok stands.fits in
    let rest : Rest j.next ps × (j.entry + headers ps ≤ 255) × (fs ≡ events_behind now (before ++ (p ∷ [])) ps) =
    accepted_body ps fs (stands_next stands p j ok) more in
    (given.follows.goes_on ps rest.0, omega arith, cc (told_next stands p j ok))

-- packets that lead to where a body may end are accepted, where they have few headers
body_accepted : (ps : List Packet) {now : Option ℕ} {before : List Packet} {here : Position} {entry place : ℕ}
    → Stands now before here entry place
    → Ends here ps
    → entry + headers ps ≤ 255
    → Accepted here entry place ps (events_behind now before ps)
body_accepted [] {now} {before} {here} {entry} {place} stands (end, same, done) few = (rw same at done, refl)
body_accepted (p ∷ ps) {now} {before} {here} {entry} {place} stands (end, (next, leads, more), done) few =
    let (j, ok, to) = allowed p here next entry leads (omega arith) in
    let given : Gives p here entry j = gives p here entry j ok stands.fits in (
      j,
      events_behind now (before ++ (p ∷ [])) ps,
      ok,
      cc (told_next stands p j ok),
      body_accepted ps (stands_next stands p j ok) (end, rw (sym to) at more, done) (omega arith),
    )

-- before the first packet
pub stands_first : (b : BodyKind) (before : Option ℕ) → Stands (from_before b before) [] (starts b before) 0 0
stands_first body.Describe before = record { header = refl; count = refl; fits = omega arith; reached = refl }
stands_first body.Play before = record { header = refl; count = refl; fits = omega arith; reached = refl }
stands_first body.PlayNext None = record { header = refl; count = refl; fits = omega arith; reached = refl }
stands_first body.PlayNext (Some i) = record { header = refl; count = refl; fits = omega arith; reached = refl }

-- both ways: an accepted list is a body, and a body is accepted
pub accepts_exactly_bodies : AcceptsExactlyBodies
accepts_exactly_bodies b before ps es = (
  λ accepted.
      let (rest, few, told) = accepted_body ps es (stands_first b before) accepted in
      (rw (body_is_rest b before ps) rest, omega arith, told),
  λ (whole, few, told). rw told (body_accepted ps (stands_first b before) (body_ends b before ps whole) (omega arith)),
)
