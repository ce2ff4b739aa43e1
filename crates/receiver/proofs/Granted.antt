-- A Step that was granted: what its contract says, by the bytes to come.
use Rattle.std.proofs.Common.{◌≡◌, ℕ, ◌<◌, ◌≤◌, true, leb, List, length, drop, Ok, Result, ◌∙◌, arith, length-drop}
use Rattle.std.proofs.lemmas.Bool.{le-leb}
use Rattle.carrier.specs.declared.Carrier.{Ghosts}
use Rattle.carrier.specs.declared.endings.Ending.{Ending}
use Rattle.carrier.specs.Pulls.{Adds}
use Rattle.packet.specs.declared.grammar.Event.{Event}
use Rattle.receiver.specs.declared.answers.Answer.{Answer}
use Rattle.receiver.specs.declared.answers.Answer.TheVariants as answer
use Rattle.receiver.specs.declared.answers.StepRefusal.{StepRefusal}
use Rattle.receiver.specs.declared.receiving.Receiver.{Receiver}
use Rattle.receiver.specs.declared.standings.Standing.{Standing}
use Rattle.receiver.specs.Draws.{used, laid_over}
use Rattle.receiver.specs.Steps.{work_length, steps, stepped, step_standing, step_front, step_usage, reading_front}
use Rattle.receiver.specs.Views.{view_of, view, Moved}
use Rattle.receiver.proofs.Uses.{event_uses}

-- Step, with the work buffer w, answered a, and made t of the receiver r and x of the buffer: its contract's facts.
pub record SteppedTo {C : Type 0} (m : Ghosts C) (r t : Receiver C) (w x : List ℕ) (a : Answer) : Type 0 where
  pub long : work_length ≤ length w
  pub told :
      record {
        answer : ◌≡◌ {A = Result Answer StepRefusal} (Ok a) (stepped (view m r) (length w));
        buffer : x ≡ laid_over (step_front (view m r) (length w)) w;
        moved : Moved m r (step_standing (view m r) (length w)) (step_usage (view m r) (length w)) t;
      }

module _ {C : Type 0} {m : Ghosts C} (adds : Adds m.coming m.ending m.lacks) {r t : Receiver C} {w x : List ℕ} {a : Answer} (to : SteppedTo m r t w x a) where
  -- the bytes that were to come, the ending behind them, and where the receiver stood
  abbrev bs : List ℕ
  bs = m.coming r.carrier

  abbrev e : Ending
  e = m.ending r.carrier

  abbrev s : Standing
  s = r.standing

  fits : leb work_length (length w) ≡ true
  fits = le-leb work_length (length w) to.long

  pub answers : (steps s bs e).answer ≡ a
  answers = let told = rw fits at to.told.answer in cc

  pub stands : t.standing ≡ (steps s bs e).standing
  stands = to.told.moved.standing ∙ rw fits

  pub lays : x ≡ laid_over (reading_front s.progress bs) w
  lays = to.told.buffer ∙ rw fits

  -- behind an event
  module _ {ev : Event} (event : a ≡ answer.Event ev) where
    left : m.coming t.carrier ≡ drop (used bs) bs
    left = (adds.spends r.carrier t.carrier _ _ to.told.moved.lacks).1 ∙ rw (fits, (event_uses s bs e ev (answers ∙ event)).0.1)

    pub shorter : length (drop (used bs) bs) < length bs
    shorter = let u = event_uses s bs e ev (answers ∙ event) in omega (arith, length-drop (used bs) bs)

    pub fewer : length (m.coming t.carrier) < length bs
    fewer = rw left shorter

    pub behind : view m t ≡ view_of (steps s bs e).standing (drop (used bs) bs) e
    behind = rw (stands, left, adds.ends r.carrier t.carrier _ _ to.told.moved.lacks)
