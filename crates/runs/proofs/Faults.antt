-- A run faults at a packet exactly where no body goes on with it, and meets the limit exactly at the 256th header.
use Rattle.std.proofs.Common.{◌≡◌, ℕ, suc, ◌+◌, ◌-◌, ◌≤◌, true, ◌⊎◌, ◌↔◌, List, [], ◌∷◌, ◌++◌, map, length, Ok, Err, Option, Result, sym, refl, ap, ◌∙◌, inl, inr, append_assoc, append-nil, arith, length-append}
use Rattle.std.proofs.ByRecursion.{All-append}
use Rattle.std.proofs.Math.Logic.{⊎_map}
use Rattle.std.proofs.lemmas.List.{append_cancel_left}
use Rattle.carrier.specs.declared.endings.Ending.{Ending}
use Rattle.carrier.specs.declared.endings.Ending.TheVariants as ending
use Rattle.packet.specs.declared.wire.Packet.{Packet}
use Rattle.packet.specs.declared.grammar.BodyKind.{BodyKind}
use Rattle.packet.specs.declared.grammar.Position.{Position}
use Rattle.packet.specs.declared.grammar.Judged.{Judged}
use Rattle.packet.specs.declared.grammar.PacketFault.{PacketFault}
use Rattle.packet.specs.declared.grammar.PacketFault.TheVariants as fault
use Rattle.packet.specs.Judging.{judged, starts, behind, stopped, entry_limit}
use Rattle.receiver.specs.declared.answers.Answer.{Answer}
use Rattle.receiver.specs.declared.answers.Answer.TheVariants as answer
use Rattle.receiver.specs.declared.answers.Failure.{Failure}
use Rattle.receiver.specs.declared.answers.StepFault.TheVariants as step_fault
use Rattle.receiver.specs.declared.drawing.NoPacket.{NoPacket}
use Rattle.receiver.specs.Steps.{failure}
use Rattle.bodies.specs.Layout.{ByteString, Laid, AllLaid}
use Rattle.bodies.specs.Grammar.{Body}
use Rattle.bodies.specs.Told.{headers, completes, events, Reached}
use Rattle.bodies.specs.Laws.{OutOfPlace}
use Rattle.bodies.proofs.Leading.{Goes, body_ends}
use Rattle.bodies.proofs.Judging.{Gives, gives, allowed, out_is_not_limit}
use Rattle.bodies.proofs.Reaching.{faults_where_no_body_goes_on, goes_on, limit_at_the_256th_header}
use Rattle.runs.specs.Answers.{run, answers}
use Rattle.runs.specs.Bytes.{Bytes, BeginsABody}
use Rattle.runs.specs.Laws.{FaultsBehind, FaultsOutOfPlace, FaultsExactlyWhereNoBodyGoesOn, LimitExactlyAtThe256thHeader}
use Rattle.runs.proofs.Reading.{laid_read}
use Rattle.runs.proofs.Running.{reading, left_over, run_over, run_fails, answers_behind}

-- packets behind packets
bytes_append : (ps more : List Packet) (qs rs : List ℕ) → Bytes ps qs → Bytes more rs → Bytes (ps ++ more) (qs ++ rs)
bytes_append [] more qs rs none bytes = rw none bytes
bytes_append (p ∷ ps) more qs rs (payload, ws, rest, laid, is, bytes) behind =
    (payload, ws, rest ++ rs, laid, rw (is, append_assoc), bytes_append ps more rest rs bytes behind)

-- bytes that begin with those of packets begin with those packets
same_packet : (p p' : Packet) (payload payload' ws ws' r r' : List ℕ) → Laid p payload ws → Laid p' payload' ws' → ws ++ r ≡ ws' ++ r' → (p' ≡ p) × (r' ≡ r)
same_packet p p' payload payload' ws ws' r r' laid laid' same =
    let first = laid_read p payload ws laid in
    let other = laid_read p' payload' ws' laid' in
    let both : ◌≡◌ {A = Result Packet NoPacket} (Ok p') (Ok p) = cc (other.drawn_whole r' ending.Clean, first.drawn_whole r ending.Clean) in
    (cc, cc (left_over p' payload' ws' laid' r', left_over p payload ws laid r))

first_packets : (ps : List Packet) (qs r : List ℕ) (all : List Packet) → Bytes ps qs → Bytes all (qs ++ r) → (more : List Packet) × (all ≡ ps ++ more)
first_packets [] qs r all none bytes = (all, refl)
first_packets (p ∷ ps) qs r [] (payload, ws, rest, laid, is, bytes) none =
    absurd (omega (arith, (laid_read p payload ws laid).size, ap length is, length-append ws rest, ap length none, length-append qs r))
first_packets (p ∷ ps) qs r (p' ∷ all) (payload, ws, rest, laid, is, bytes) (payload', ws', rest', laid', is', bytes') =
    let (same, left) = same_packet p p' payload payload' ws ws' (rest ++ r) rest' laid laid' (cc (append_assoc ws rest r)) in
    let (more, split) = first_packets ps rest r all bytes (rw left at bytes') in
    (more, cc)

-- packets that each have bytes have them one behind the other, and the other way round
all_bytes : (ps : List Packet) → AllLaid ps → (qs : List ℕ) × ByteString qs × Bytes ps qs
all_bytes [] none = ([], tt, refl)
all_bytes (p ∷ ps) ((payload, ws, laid, small), more) =
    let (rest, all_small, bytes) = all_bytes ps more in
    (ws ++ rest, All-append _ ws rest small all_small, (payload, ws, rest, laid, refl, bytes))

-- bytes one behind the other are bytes each
both_small : (xs ys : List ℕ) → ByteString (xs ++ ys) → ByteString xs × ByteString ys
both_small [] ys small = (tt, small)
both_small (x ∷ xs) ys (low, more) = let (left, right) = both_small xs ys more in ((low, left), right)

bytes_laid : (ps : List Packet) (qs : List ℕ) → Bytes ps qs → ByteString qs → AllLaid ps
bytes_laid [] qs none small = tt
bytes_laid (p ∷ ps) qs (payload, ws, rest, laid, is, bytes) small =
    let (first, behind) = both_small ws rest (rw is at small) in
    ((payload, ws, laid, first), bytes_laid ps rest bytes behind)

-- the first packets of what leads to an end are allowed one after another, where they have few headers
begins_reached : (from : Position) (entry place : ℕ) (ps more : List Packet) (end : Position)
    → entry + headers ps ≤ entry_limit
    → Goes from (ps ++ more) end
    → (here : Position) × (n place' : ℕ) × Reached from entry place ps here n place'
begins_reached from entry place [] more end few goes = (from, entry, place, (refl, refl, refl))
begins_reached from entry place (p ∷ ps) more end few (next, leads, goes) =
    let (j, ok, to) = allowed p from next entry leads (omega arith) in
    let given : Gives p from entry j = gives p from entry j ok (omega arith) in
    let (here, n, place', way) = begins_reached j.next j.entry (behind place p.length) ps more end (omega arith) (rw (sym to) at goes) in
    (here, n, place', (j, ok, way))

-- a judgement is that the packet is out of place, or not
out_or_not : (r : Result Judged PacketFault) → OutOfPlace r ⊎ (OutOfPlace r → ⊥)
out_or_not (Err fault.NotAllowedHere) = inl (inl refl)
out_or_not (Err fault.HeaderMarks) = inl (inr (inl refl))
out_or_not (Err fault.Incarnation) = inl (inr (inr refl))
out_or_not any_other = inr (λ out. elim out [ inl e ↦ cc | inr rest ↦ elim rest [ inl e ↦ cc | inr e ↦ cc ] ])

module _ (b : BodyKind) (before : Option ℕ) (ps : List Packet) (qs : List ℕ) (p : Packet) (payload ws : List ℕ) (bytes : Bytes ps qs) (laid : Laid p payload ws) where
  -- a body that goes on with the packet, in packets and in bytes
  in_packets : BeginsABody b before (qs ++ ws) → (more : List Packet) × Body b before (ps ++ (p ∷ more))
  in_packets (r, _, (all, all_bytes, whole)) =
      let alone : Bytes (p ∷ []) ws = (payload, ws, [], laid, sym (append-nil ws), refl) in
      let (more, split) = first_packets (ps ++ (p ∷ [])) (qs ++ ws) r all (bytes_append ps (p ∷ []) qs ws bytes alone) all_bytes in
      (more, rw (split, append_assoc) at whole)

  in_bytes : (more : List Packet) → Body b before (ps ++ (p ∷ more)) → AllLaid more → BeginsABody b before (qs ++ ws)
  in_bytes more whole all =
      let (rest, all_small, behind) = all_bytes more all in
      (rest, all_small, (ps ++ (p ∷ more), rw append_assoc (bytes_append ps (p ∷ more) qs (ws ++ rest) bytes (payload, ws, rest, laid, refl, behind)), whole))

  module _ (small : ByteString (qs ++ ws)) (rest : List ℕ) (e : Ending) (here : Position) (n place : ℕ) (way : Reached (starts b before) 0 0 ps here n place) where
    abbrev all_answers : List Answer
    all_answers = answers b before (qs ++ (ws ++ rest)) e

    -- a fault is answered behind the packets exactly where it is the judgement of the next
    fault_is : (f : PacketFault) → FaultsBehind b before ps qs f all_answers → judged p here n ≡ Err f
    fault_is f faults =
        let (at_place, told) = answers_behind b before ps qs (ws ++ rest) e here n place way bytes in
        go (append_cancel_left (map answer.Event (events b before ps)) _ _ (sym told ∙ faults)) (judged p here n) refl
      where
        go : run (suc (length (qs ++ (ws ++ rest)) - length ps)) (reading here n place) (ws ++ rest) e ≡ answer.Failed (failure (step_fault.Packet f) (stopped (length qs))) ∷ []
            → (r : Result Judged PacketFault) → judged p here n ≡ r
            → judged p here n ≡ Err f
        go same (Ok j) ok = absurd (cc (run_over p payload ws laid here n place rest e (length (qs ++ (ws ++ rest)) - length ps) j ok))
        go same (Err g) bad =
            let failed : failure (step_fault.Packet g) place ≡ failure (step_fault.Packet f) (stopped (length qs)) = cc (run_fails p payload ws laid here n place rest e (length (qs ++ (ws ++ rest)) - length ps) g bad) in
            let same_fault : step_fault.Packet g ≡ step_fault.Packet f = ap (λ (x : Failure). x.fault) failed in
            bad ∙ cc

    faults_by : (f : PacketFault) → judged p here n ≡ Err f → FaultsBehind b before ps qs f all_answers
    faults_by f bad =
        let (at_place, told) = answers_behind b before ps qs (ws ++ rest) e here n place way bytes in
        cc (run_fails p payload ws laid here n place rest e (length (qs ++ (ws ++ rest)) - length ps) f bad)

    out_faults : OutOfPlace (judged p here n) → FaultsOutOfPlace b before ps qs all_answers
    out_faults = ⊎_map (faults_by fault.NotAllowedHere) (⊎_map (faults_by fault.HeaderMarks) (faults_by fault.Incarnation))

    faults_out : FaultsOutOfPlace b before ps qs all_answers → OutOfPlace (judged p here n)
    faults_out = ⊎_map (fault_is fault.NotAllowedHere) (⊎_map (fault_is fault.HeaderMarks) (fault_is fault.Incarnation))

    -- what is not out of place goes on to a body
    in_place : (OutOfPlace (judged p here n) → ⊥) → BeginsABody b before (qs ++ ws)
    in_place fits =
        let (more, whole, all) = goes_on b before ps here n place p way fits in
        let (before_small, next_small) = both_small qs ws small in
        in_bytes more whole (all (bytes_laid ps qs bytes before_small) (payload, ws, laid, next_small))

    faults_there : FaultsOutOfPlace b before ps qs all_answers ↔ (BeginsABody b before (qs ++ ws) → ⊥)
    faults_there = (
      λ faults begins. (faults_where_no_body_goes_on b before ps here n place p way).0 (faults_out faults) (in_packets begins),
      λ none. elim (out_or_not (judged p here n)) [ inl out ↦ out_faults out | inr fits ↦ absurd (none (in_place fits)) ],
    )

    limit_there : FaultsBehind b before ps qs fault.TooManyEntries all_answers ↔ ((headers ps ≡ entry_limit) × (completes p ≡ true) × BeginsABody b before (qs ++ ws))
    limit_there = (
      λ faults.
          let limit = fault_is fault.TooManyEntries faults in
          let (full, counts, body) = (limit_at_the_256th_header b before ps here n place p way).0 limit in
          (full, counts, in_place (λ out. out_is_not_limit _ out limit)),
      λ (full, counts, begins). faults_by fault.TooManyEntries ((limit_at_the_256th_header b before ps here n place p way).1 (full, counts, in_packets begins)),
    )

-- packets that a body begins with are allowed one after another, where they have few headers
begins_allowed : (b : BodyKind) (before : Option ℕ) (ps : List Packet) (qs : List ℕ)
    → Bytes ps qs
    → BeginsABody b before qs
    → headers ps ≤ entry_limit
    → (here : Position) × (n place : ℕ) × Reached (starts b before) 0 0 ps here n place
begins_allowed b before ps qs bytes (r, _, (all, bytes', whole)) few =
    let (more, split) = first_packets ps qs r all bytes bytes' in
    let (end, goes, done) = body_ends b before (ps ++ more) (rw split at whole) in
    begins_reached (starts b before) 0 0 ps more end (omega arith) goes

-- the two laws, from what a body begins with
pub faults_exactly_where_no_body_goes_on : FaultsExactlyWhereNoBodyGoesOn
faults_exactly_where_no_body_goes_on b before ps qs p payload ws rest e bytes begins few laid small =
    let (here, n, place, way) = begins_allowed b before ps qs bytes begins few in
    faults_there b before ps qs p payload ws bytes laid small rest e here n place way

pub limit_exactly_at_the_256th_header : LimitExactlyAtThe256thHeader
limit_exactly_at_the_256th_header b before ps qs p payload ws rest e bytes begins few laid small =
    let (here, n, place, way) = begins_allowed b before ps qs bytes begins few in
    limit_there b before ps qs p payload ws bytes laid small rest e here n place way
