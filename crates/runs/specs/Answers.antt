-- The answers of a run of Steps, each with a work buffer that is long enough, up to the end or a fault.
use Rattle.std.specs.Prelude.{ℕ, zero, suc, List, [], ◌∷◌, length, drop, Option}
use Rattle.carrier.specs.declared.endings.Ending.{Ending}
use Rattle.packet.specs.declared.grammar.BodyKind.{BodyKind}
use Rattle.receiver.specs.declared.answers.Answer.{Answer}
use Rattle.receiver.specs.declared.answers.Answer.TheVariants as answer
use Rattle.receiver.specs.declared.standings.Standing.{Standing}
use Rattle.receiver.specs.Draws.{used}
use Rattle.receiver.specs.Steps.{steps, opened}

-- an answer, and those behind it where it is an event
abbrev pub goes_on : Answer → List Answer → List Answer
goes_on (answer.Event e) rest = answer.Event e ∷ rest
goes_on (answer.End place) rest = answer.End place ∷ []
goes_on (answer.Failed f) rest = answer.Failed f ∷ []

-- at most so many Steps of a receiver that stands at s, with bs to come and the ending e
abbrev pub run : ℕ → Standing → List ℕ → Ending → List Answer
run zero s bs e = []
run (suc k) s bs e = goes_on (steps s bs e).answer (run k (steps s bs e).standing (drop (used bs) bs) e)

-- Each event uses at least four bytes, so that one Step more than there are bytes always comes to the end or a fault.
abbrev pub answers_from : Standing → List ℕ → Ending → List Answer
answers_from s bs e = run (suc (length bs)) s bs e

-- the answers for a body of a kind
abbrev pub answers : BodyKind → Option ℕ → List ℕ → Ending → List Answer
answers b before bs e = answers_from (opened b before) bs e
