-- The packets of the bytes, one behind the other, up to the last answer.
use Rattle.std.proofs.Common.{◌≡◌, ℕ, zero, suc, ◌+◌, ◌<◌, Bool, true, false, cond, ◌&&◌, eqb, List, [], ◌∷◌, ◌++◌, map, length, Ok, Err, Option, Result, sym, refl, ap, ◌∙◌, subst, append_assoc, arith, length-append}
use Rattle.carrier.specs.declared.endings.Ending.{Ending}
use Rattle.carrier.specs.declared.endings.Ending.TheVariants as ending
use Rattle.packet.specs.declared.wire.Packet.{Packet}
use Rattle.packet.specs.declared.grammar.Position.{Position}
use Rattle.packet.specs.declared.grammar.Judged.{Judged}
use Rattle.packet.specs.declared.grammar.PacketFault.{PacketFault}
use Rattle.packet.specs.declared.grammar.PacketFault.TheVariants as fault
use Rattle.packet.specs.Wire.{sized}
use Rattle.packet.specs.Judging.{judged, ends, behind, stopped, event}
use Rattle.receiver.specs.declared.answers.Answer.{Answer}
use Rattle.receiver.specs.declared.answers.Answer.TheVariants as answer
use Rattle.receiver.specs.declared.answers.Failure.{Failure}
use Rattle.receiver.specs.declared.answers.StepFault.TheVariants as step_fault
use Rattle.receiver.specs.declared.drawing.NoPacket.{NoPacket}
use Rattle.receiver.specs.declared.drawing.NoPacket.TheVariants.{BadHead, CutShort}
use Rattle.receiver.specs.declared.standings.Standing.{Standing}
use Rattle.receiver.specs.declared.standings.Progress.TheVariants as progress
use Rattle.receiver.specs.Draws.{draws, used, ran_out}
use Rattle.receiver.specs.Steps.{Settled, steps, settles, settles_packet, settles_end, closes, fails, failure}
use Rattle.bodies.specs.Layout.{Laid}
use Rattle.bodies.specs.Told.{events_behind}
use Rattle.bodies.proofs.Accepting.{Stands, stands_next, told_next}
use Rattle.runs.specs.Answers.{goes_on, answers_from}
use Rattle.runs.specs.Bytes.{Bytes}
use Rattle.runs.proofs.Reading.{laid_read, drawn_laid}
use Rattle.runs.proofs.Running.{reading, left_over, steps_over}
use Rattle.runs.proofs.Stepping.{answers_next}
use Rattle.calls.specs.Order.{IsLast}
use Rattle.calls.specs.Law.{shown, tells_ending}
use Rattle.calls.proofs.Showing.{Shows, Uses, announced, drawn_uses, out_shows}

-- where a receiver stands for good: at the end, behind a position, or at a fault
pub data Over (here : Position) : Answer → Standing → Type 0 where
  ended : (place entry : ℕ) → Over here (answer.End place) (record { place = place; entry = entry; progress = progress.Ended here })
  failed : (place entry : ℕ) (f : Failure) → Over here (answer.Failed f) (record { place = place; entry = entry; progress = progress.Failed f })

-- what a Step comes to that ends the run: n bytes used, the ending told or not
pub record Settles (here : Position) (bs : List ℕ) (n : ℕ) (told : Bool) (s : Settled) : Type 0 where
  pub last : IsLast s.answer
  pub uses : n ≡ shown s.answer bs
  pub tells : told ≡ tells_ending s.answer
  pub over : Over here s.answer s.standing

-- the Step over the rest, at a position
pub record Stops (here : Position) (n place : ℕ) (rest : List ℕ) (e : Ending) (last : Answer) : Type 0 where
  pub answers : (steps (reading here n place) rest e).answer ≡ last
  pub settles : Settles here rest (used rest) (ran_out (draws rest e)) (steps (reading here n place) rest e)

-- from a position over packets to the last answer
abbrev pub Course : Ending → List ℕ → Answer → Position → ℕ → ℕ → List Packet → List ℕ → Type 0
Course e rest last here n place [] bs = (bs ≡ rest) × Stops here n place rest e last
Course e rest last here n place (p ∷ ps) bs =
    (payload ws r : List ℕ) × Laid p payload ws × (bs ≡ ws ++ r) × ((j : Judged) × (judged p here n ≡ Ok j) × Course e rest last j.next j.entry (behind place p.length) ps r)

-- where a Step does not come to an event, it ends the run
module _ (here : Position) (n : ℕ) (bs : List ℕ) where
  faults : (f : PacketFault) (at_place place' k : ℕ) → Shows f k bs → Settles here bs k false (fails place' n (failure (step_fault.Packet f) at_place))
  faults f at_place place' k shows = record { last = tt; uses = shows; tells = refl; over = Over.failed place' n (failure (step_fault.Packet f) at_place) }

  ends_run : (k place' : ℕ) (e : Ending) → Settles here bs (length bs) true (settles_end here place' n k e)
  ends_run k place' (ending.Broken f) = record { last = tt; uses = refl; tells = refl; over = Over.failed place' n _ }
  ends_run k place' ending.Clean = go (ends here && eqb k 0)
    where
      go : (b : Bool) → Settles here bs (length bs) true (cond b (closes here place' n) (fails place' n (failure step_fault.EndsEarly place')))
      go true = record { last = tt; uses = refl; tells = refl; over = Over.ended place' n }
      go false = record { last = tt; uses = refl; tells = refl; over = Over.failed place' n _ }

-- some packets and a last answer behind them
abbrev pub Charted : Ending → Position → ℕ → ℕ → List ℕ → Type 0
Charted e here n place bs = (ps : List Packet) × (rest : List ℕ) × (last : Answer) × Course e rest last here n place ps bs

module _ (e : Ending) (here : Position) (n place : ℕ) (bs : List ℕ) where
  stops_here : (d : Result Packet NoPacket) → draws bs e ≡ d → Settles here bs (used bs) (ran_out d) (settles (reading here n place) here d) → Charted e here n place bs
  stops_here d is so = (
    [],
    bs,
    (steps (reading here n place) bs e).answer,
    (refl, record { answers = refl; settles = rw is so }),
  )

  abbrev Shorter : Type 0
  Shorter = (here' : Position) (n' place' : ℕ) (r : List ℕ) → length r < length bs → Charted e here' n' place' r

  goes_over : Shorter → (p : Packet) → draws bs e ≡ Ok p → sized p ≡ true → (j : Judged) → judged p here n ≡ Ok j → Charted e here n place bs
  goes_over more p whole right j ok =
      let (payload, ws, r, laid, is) = drawn_laid bs e p whole right in
      let size = (laid_read p payload ws laid).size in
      let long : length bs ≡ length ws + length r = ap length is ∙ length-append ws r in
      let (ps, rest, last, course) = more j.next j.entry (behind place p.length) r (omega arith) in
      (p ∷ ps, rest, last, (payload, ws, r, laid, is, (j, ok, course)))

  -- a packet that is drawn whole
  whole_packet : Shorter → (p : Packet) → draws bs e ≡ Ok p
      → used bs ≡ announced bs
      → (b : Bool) → sized p ≡ b
      → (r : Result Judged PacketFault) → judged p here n ≡ r
      → Charted e here n place bs
  whole_packet more p whole uses true right (Ok j) ok = goes_over more p whole right j ok
  whole_packet more p whole uses true right (Err f) bad =
      stops_here (Ok p) whole (rw (right, bad) (faults here n bs f place (behind place p.length) (used bs) (uses ∙ out_shows p here n f bs bad)))
  whole_packet more p whole uses false wrong r judgement =
      stops_here (Ok p) whole (rw wrong (faults here n bs fault.PacketSize place (behind place p.length) (used bs) uses))

  by_drawn : Shorter → (d : Result Packet NoPacket) → draws bs e ≡ d → Uses d (used bs) bs → Charted e here n place bs
  by_drawn more (Ok p) is uses = whole_packet more p is uses (sized p) refl (judged p here n) refl
  by_drawn more (Err (BadHead f)) is shows = stops_here (Err (BadHead f)) is (faults here n bs f place (stopped (place + 4)) (used bs) shows)
  by_drawn more (Err (CutShort c)) is uses = stops_here (Err (CutShort c)) is (rw uses (ends_run here n bs c.came (stopped (place + c.came)) c.ending))

charted_within : (k : ℕ) (e : Ending) (here : Position) (n place : ℕ) (bs : List ℕ) → length bs < k → Charted e here n place bs
charted_within zero e here n place bs few = absurd (omega arith)
charted_within (suc k) e here n place bs few =
    by_drawn e here n place bs (λ here' n' place' r less. charted_within k e here' n' place' r (omega arith)) (draws bs e) refl (drawn_uses bs e)

pub charted : (e : Ending) (here : Position) (n place : ℕ) (bs : List ℕ) → Charted e here n place bs
charted e here n place bs = charted_within (suc (length bs)) e here n place bs (omega arith)

-- the Step over a packet
module _ (p : Packet) (payload ws r : List ℕ) (laid : Laid p payload ws) (here : Position) (n place : ℕ) (e : Ending) (j : Judged) (ok : judged p here n ≡ Ok j) where
  pub packet_step : steps (reading here n place) (ws ++ r) e ≡ settles_packet (reading here n place) p (Ok j)
  packet_step = steps_over p payload ws laid here n place r e ∙ ap (settles_packet (reading here n place) p) ok

alone : (a : Answer) (more : List Answer) → IsLast a → goes_on a more ≡ a ∷ []
alone (answer.Event e) more none = absurd none
alone (answer.End place) more last = refl
alone (answer.Failed f) more last = refl

-- the bytes of a course, its answers and its end
module _ (e : Ending) (rest : List ℕ) (last : Answer) where
  pub course_bytes : (ps : List Packet) (here : Position) (n place : ℕ) (bs : List ℕ) → Course e rest last here n place ps bs → (front : List ℕ) × (bs ≡ front ++ rest) × Bytes ps front
  course_bytes [] here n place bs (is, stops) = ([], is, refl)
  course_bytes (p ∷ ps) here n place bs (payload, ws, r, laid, is, (j, ok, course)) =
      let (front, split, bytes) = course_bytes ps j.next j.entry (behind place p.length) r course in
      (ws ++ front, is ∙ ap (λ x. ws ++ x) split ∙ sym (append_assoc ws front rest), (payload, ws, front, laid, refl, bytes))

  stop_ends : (here : Position) (n place : ℕ) → Stops here n place rest e last → IsLast last
  stop_ends here n place stops = subst IsLast stops.answers stops.settles.last

  pub course_ends : (ps : List Packet) (here : Position) (n place : ℕ) (bs : List ℕ) → Course e rest last here n place ps bs → IsLast last
  course_ends [] here n place bs (is, stops) = stop_ends here n place stops
  course_ends (p ∷ ps) here n place bs (payload, ws, r, laid, is, (j, ok, course)) = course_ends ps j.next j.entry (behind place p.length) r course

  pub course_answers : (ps : List Packet) (now : Option ℕ) (done : List Packet) (here : Position) (n place : ℕ) (bs : List ℕ)
      → Stands now done here n place
      → Course e rest last here n place ps bs
      → answers_from (reading here n place) bs e ≡ map answer.Event (events_behind now done ps) ++ (last ∷ [])
  course_answers [] now done here n place bs stands (is, stops) =
      rw is (answers_next (reading here n place) rest e last stops.answers ∙ alone last _ (stop_ends here n place stops))
  course_answers (p ∷ ps) now done here n place bs stands (payload, ws, r, laid, is, (j, ok, course)) =
      let step = packet_step p payload ws r laid here n place e j ok in
      let more = course_answers ps now (done ++ (p ∷ [])) j.next j.entry (behind place p.length) r (stands_next stands p j ok) course in
      rw (is, answers_next (reading here n place) (ws ++ r) e (answer.Event (event p place j)) (ap (λ (x : Settled). x.answer) step), step, left_over p payload ws laid r, told_next stands p j ok, more) refl
