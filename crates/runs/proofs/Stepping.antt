-- A run of Steps, one Step at a time.
use Rattle.std.proofs.Common.{◌≡◌, ℕ, zero, suc, ◌<◌, List, ◌∷◌, length, drop, refl, ap, ◌∙◌, arith, length-drop}
use Rattle.carrier.specs.declared.endings.Ending.{Ending}
use Rattle.packet.specs.declared.grammar.Event.{Event}
use Rattle.receiver.specs.declared.answers.Answer.{Answer}
use Rattle.receiver.specs.declared.answers.Answer.TheVariants as answer
use Rattle.receiver.specs.declared.standings.Standing.{Standing}
use Rattle.receiver.specs.Draws.{used}
use Rattle.receiver.specs.Steps.{steps}
use Rattle.receiver.proofs.Uses.{event_uses}
use Rattle.runs.specs.Answers.{goes_on, run, answers_from}

-- what stands behind an answer counts only where it is an event
same_behind : (a : Answer) (xs ys : List Answer) → ((ev : Event) → a ≡ answer.Event ev → xs ≡ ys) → goes_on a xs ≡ goes_on a ys
same_behind (answer.Event ev) xs ys same = ap (λ l. answer.Event ev ∷ l) (same ev refl)
same_behind (answer.End place) xs ys same = refl
same_behind (answer.Failed f) xs ys same = refl

-- with enough Steps allowed, their number does not count
pub run_enough : (k m : ℕ) (s : Standing) (bs : List ℕ) (e : Ending) → length bs < k → length bs < m → run k s bs e ≡ run m s bs e
run_enough zero m s bs e h i = absurd (omega arith)
run_enough (suc k) zero s bs e h i = absurd (omega arith)
run_enough (suc k) (suc m) s bs e h i =
    same_behind (steps s bs e).answer _ _
    (λ ev is.
    let u = event_uses s bs e ev is in
    let rest = length-drop (used bs) bs in
    run_enough k m (steps s bs e).standing (drop (used bs) bs) e (omega arith) (omega arith))

-- the answers from here are the next one, and where it is an event those behind it
pub answers_next : (s : Standing) (bs : List ℕ) (e : Ending) (a : Answer) → (steps s bs e).answer ≡ a → answers_from s bs e ≡ goes_on a (answers_from (steps s bs e).standing (drop (used bs) bs) e)
answers_next s bs e a is =
    ap (λ x. goes_on x (run (length bs) (steps s bs e).standing (drop (used bs) bs) e)) is
    ∙ same_behind a _ _
    (λ ev event.
    let u = event_uses s bs e ev (is ∙ event) in
    let rest = length-drop (used bs) bs in
    run_enough (length bs) (suc (length (drop (used bs) bs))) (steps s bs e).standing (drop (used bs) bs) e (omega arith) (omega arith))
