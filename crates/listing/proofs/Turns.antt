-- One line more of a listing.
use Rattle.std.proofs.Common.{◌≡◌, ℕ, ◌<◌, ◌≤◌, List, ◌++◌, length, drop, Ok, Result, sym, refl, ap, ◌∙◌}
use Rattle.std.specs.List.{flat_map}
use Rattle.carrier.specs.declared.Carrier.{Ghosts}
use Rattle.carrier.specs.Pulls.{Adds}
use Rattle.packet.specs.declared.grammar.Event.{Event}
use Rattle.receiver.specs.declared.answers.Answer.{Answer}
use Rattle.receiver.specs.declared.answers.Answer.TheVariants as answer
use Rattle.receiver.specs.declared.answers.StepRefusal.{StepRefusal}
use Rattle.receiver.specs.declared.receiving.Receiver.{Receiver}
use Rattle.receiver.specs.Draws.{used, laid_over}
use Rattle.receiver.specs.Steps.{steps, stepped, step_standing, step_front, step_usage}
use Rattle.receiver.specs.Views.{view_of, view, Moved}
use Rattle.receiver.proofs.Granted as granted
use Rattle.runs.proofs.Stepping.{answers_next}
use Rattle.listing.specs.Lines.{line_of}
use Rattle.listing.specs.Listings.{lines_from}

-- a Step of the receiver r with a long enough work buffer w told the event ev, and left the receiver t
module _ {C : Type 0} {m : Ghosts C} (adds : Adds m.coming m.ending m.lacks) {r t : Receiver C} (w : List ℕ) {a : Answer} {ev : Event}
    (long : 65535 ≤ length w)
    (told : ◌≡◌ {A = Result Answer StepRefusal} (Ok a) (stepped (view m r) (length w)))
    (moved : Moved m r (step_standing (view m r) (length w)) (step_usage (view m r) (length w)) t)
    (event : a ≡ answer.Event ev) where
  to : granted.SteppedTo m r t w (laid_over (step_front (view m r) (length w)) w) a
  to = record { long = long; told = record { answer = told; moved = moved; buffer = refl } }

  pub fewer : length (m.coming t.carrier) < length (m.coming r.carrier)
  fewer = granted.fewer adds to event

  -- the line of that event, and those behind it
  pub next_lines : line_of a ++ lines_from (view m t) ≡ lines_from (view m r)
  next_lines =
      let s = r.standing in
      let bs = m.coming r.carrier in
      let e = m.ending r.carrier in
      ap (λ y. line_of a ++ lines_from y) (granted.behind adds to event)
      ∙ ap (λ y. line_of y ++ lines_from (view_of (steps s bs e).standing (drop (used bs) bs) e)) event
      ∙ sym (ap (flat_map line_of) (answers_next s bs e (answer.Event ev) (granted.answers adds to ∙ event)))
