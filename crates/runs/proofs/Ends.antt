-- A run ends clean exactly for the bodies with at most 255 headers.
use Rattle.std.proofs.Common.{◌≡◌, ℕ, zero, suc, ◌+◌, ◌-◌, Bool, true, false, cond, ◌&&◌, eqb, List, [], ◌∷◌, ◌++◌, map, length, drop, Ok, Err, Result, sym, refl, ap, ◌∙◌, append-nil, arith, length-append, eqb-true}
use Rattle.std.proofs.lemmas.Bool.{and_parts}
use Rattle.std.proofs.lemmas.List.{nil_from_length}
use Rattle.carrier.specs.declared.endings.Ending.{Ending}
use Rattle.carrier.specs.declared.endings.Ending.TheVariants as ending
use Rattle.carrier.specs.declared.filling.Short.{Short}
use Rattle.packet.specs.declared.wire.Packet.{Packet}
use Rattle.packet.specs.declared.grammar.Position.{Position}
use Rattle.packet.specs.declared.grammar.Event.{Event}
use Rattle.packet.specs.declared.grammar.Judged.{Judged}
use Rattle.packet.specs.declared.grammar.PacketFault.{PacketFault}
use Rattle.packet.specs.declared.grammar.PacketFault.TheVariants as fault
use Rattle.packet.specs.Wire.{sized}
use Rattle.packet.specs.Judging.{judged, starts, ends, behind, stopped, event}
use Rattle.receiver.specs.declared.answers.Answer.{Answer}
use Rattle.receiver.specs.declared.answers.Answer.TheVariants as answer
use Rattle.receiver.specs.declared.answers.Failure.{Failure}
use Rattle.receiver.specs.declared.answers.StepFault.TheVariants as step_fault
use Rattle.receiver.specs.declared.drawing.NoPacket.{NoPacket}
use Rattle.receiver.specs.declared.drawing.NoPacket.TheVariants.{BadHead, CutShort}
use Rattle.receiver.specs.Draws.{draws, used}
use Rattle.receiver.specs.Steps.{Settled, settles, settles_packet, settles_end, closes, fails, failure}
use Rattle.bodies.specs.Told.{Accepted, Reached}
use Rattle.bodies.proofs.Accepting.{accepts_exactly_bodies}
use Rattle.runs.specs.Answers.{goes_on, run}
use Rattle.runs.specs.Bytes.{Bytes}
use Rattle.runs.specs.Laws.{EndsCleanExactlyForBodies}
use Rattle.runs.proofs.Reading.{laid_read, drawn_laid, short_is}
use Rattle.runs.proofs.Running.{reading, left_over, run_ends, answers_behind}

-- the answers of a run that ends clean
abbrev clean_answers : List Event → ℕ → List Answer
clean_answers es end = map answer.Event es ++ (answer.End end ∷ [])

-- a run that ends clean has no fault, ends at its place, and goes on with its first event
no_fault : (f : Failure) (es : List Event) (end : ℕ) → answer.Failed f ∷ [] ≡ clean_answers es end → ⊥
no_fault f [] end same = cc
no_fault f (x ∷ es) end same = cc

ends_there : (n : ℕ) (es : List Event) (end : ℕ) → answer.End n ∷ [] ≡ clean_answers es end → (end ≡ n) × (es ≡ [])
ends_there n [] end same = (cc, refl)
ends_there n (x ∷ es) end same = absurd (cc)

goes_on_there : (x : Event) (more : List Answer) (es : List Event) (end : ℕ)
    → answer.Event x ∷ more ≡ clean_answers es end
    → (fs : List Event) × (es ≡ x ∷ fs) × (more ≡ clean_answers fs end)
goes_on_there x more [] end same = absurd (cc)
goes_on_there x more (y ∷ fs) end same = (fs, cc, cc)

-- what a run that ends clean was over
abbrev WasBody : Position → ℕ → ℕ → List ℕ → Ending → List Event → ℕ → Type 0
WasBody here entry place bs e es end = (e ≡ ending.Clean) × (end ≡ stopped (place + length bs)) × ((ps : List Packet) × Bytes ps bs × Accepted here entry place ps es)

-- so many Steps end clean only over such bytes
abbrev OnlyBodies : ℕ → Ending → ℕ → Type 0
OnlyBodies k e end = (here : Position) (entry place : ℕ) (bs : List ℕ) (es : List Event) → run k (reading here entry place) bs e ≡ clean_answers es end → WasBody here entry place bs e es end

-- one Step more
module _ (k : ℕ) (e : Ending) (end : ℕ) (only : OnlyBodies k e end) (here : Position) (entry place : ℕ) (bs : List ℕ) (es : List Event) where
  -- the answers where a Step comes to s
  abbrev told : Settled → List Answer
  told s = goes_on s.answer (run k s.standing (drop (used bs) bs) e)

  -- a packet was drawn: it is allowed, and the rest ends clean
  whole_packet : (p : Packet)
      → draws bs e ≡ Ok p
      → (b : Bool) → sized p ≡ b
      → (r : Result Judged PacketFault) → judged p here entry ≡ r
      → told (settles_packet (reading here entry place) p (cond b r (Err fault.PacketSize))) ≡ clean_answers es end
      → WasBody here entry place bs e es end
  whole_packet p whole true right (Ok j) ok same =
      let (payload, ws, r, laid, is) = drawn_laid bs e p whole right in
      let (fs, es-are, more) = goes_on_there (event p place j) (run k (reading j.next j.entry (behind place p.length)) (drop (used bs) bs) e) es end same in
      let left : drop (used bs) bs ≡ r = ap (λ x. drop (used x) x) is ∙ left_over p payload ws laid r in
      let (clean, end_is, (ps, bytes, accepted)) = only j.next j.entry (behind place p.length) r fs (cc) in
      let long : length bs ≡ length ws + length r = ap length is ∙ length-append ws r in
      (clean, end_is ∙ omega (arith, (laid_read p payload ws laid).size), (p ∷ ps, (payload, ws, r, laid, is, bytes), (j, fs, ok, es-are, accepted)))
  whole_packet p whole true right (Err f) bad same = absurd (no_fault _ es end same)
  whole_packet p whole false wrong r judgement same = absurd (no_fault _ es end same)

  module _ (cut : Short) (short : draws bs e ≡ Err (CutShort cut)) where
    abbrev behind_it : ℕ
    behind_it = stopped (place + cut.came)

    -- too few bytes were drawn: there were none, and the body may end
    at_clean_end : cut.ending ≡ ending.Clean
        → (b : Bool) → (ends here && eqb cut.came 0) ≡ b
        → told (cond b (closes here behind_it entry) (fails behind_it entry (failure step_fault.EndsEarly behind_it))) ≡ clean_answers es end
        → WasBody here entry place bs e es end
    at_clean_end clean true over same =
        let (done, nothing) = and_parts (ends here) (eqb cut.came 0) over in
        let (long, is) = short_is bs e cut short in
        let none = eqb-true cut.came 0 nothing in
        let (end_is, es-are) = ends_there behind_it es end same in
        (cc, cc, ([], nil_from_length bs (sym long ∙ none), (done, es-are)))
    at_clean_end clean false early same = absurd (no_fault _ es end same)

    at_ending : (f : Ending) → cut.ending ≡ f → told (settles_end here behind_it entry cut.came f) ≡ clean_answers es end → WasBody here entry place bs e es end
    at_ending ending.Clean is same = at_clean_end is (ends here && eqb cut.came 0) refl same
    at_ending (ending.Broken f) is same = absurd (no_fault _ es end same)

  -- whatever was drawn
  by_drawn : (d : Result Packet NoPacket) → draws bs e ≡ d → told (settles (reading here entry place) here d) ≡ clean_answers es end → WasBody here entry place bs e es end
  by_drawn (Ok p) whole same = whole_packet p whole (sized p) refl (judged p here entry) refl same
  by_drawn (Err (BadHead f)) bad same = absurd (no_fault _ es end same)
  by_drawn (Err (CutShort cut)) short same = at_ending cut short cut.ending refl same

-- any number of Steps
only_bodies : (k : ℕ) (e : Ending) (end : ℕ) → OnlyBodies k e end
only_bodies zero e end here entry place bs [] same = absurd (cc)
only_bodies zero e end here entry place bs (x ∷ es) same = absurd (cc)
only_bodies (suc k) e end here entry place bs es same = by_drawn k e end (only_bodies k e end) here entry place bs es (draws bs e) refl same

-- accepted packets lead to where a body may end
accepted_reached : (from : Position) (entry place : ℕ) (ps : List Packet) (es : List Event)
    → Accepted from entry place ps es
    → (here : Position) × (n place' : ℕ) × Reached from entry place ps here n place' × (ends here ≡ true)
accepted_reached from entry place [] es (done, none) = (from, entry, place, (refl, refl, refl), done)
accepted_reached from entry place (p ∷ ps) es (j, fs, ok, told, more) =
    let (here, n, place', way, done) = accepted_reached j.next j.entry (behind place p.length) ps fs more in
    (here, n, place', (j, ok, way), done)

-- both ways: a run that ends clean was over a body, and a body ends clean
pub ends_clean_exactly_for_bodies : EndsCleanExactlyForBodies
ends_clean_exactly_for_bodies b before bs e es place = (
  λ same.
      let (clean, place_is, (ps, bytes, accepted)) = only_bodies (suc (length bs)) e place (starts b before) 0 0 bs es same in
      let (whole, few, told) = (accepts_exactly_bodies b before ps es).0 accepted in
      (clean, place_is ∙ omega arith, (ps, bytes, whole, few, told)),
  λ (clean, place_is, (ps, bytes, whole, few, told)).
      let (here, n, place', way, done) = accepted_reached (starts b before) 0 0 ps es ((accepts_exactly_bodies b before ps es).1 (whole, few, told)) in
      let (reached, behind) = answers_behind b before ps bs [] ending.Clean here n place' way bytes in
      let end : stopped (place' + 0) ≡ place = omega arith in
      rw clean (cc (rw append-nil at behind, run_ends (length bs - length ps) here n place' done)),
)
