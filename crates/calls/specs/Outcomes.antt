-- What a run of calls on a new receiver gives back.
use Rattle.std.specs.Prelude.{◌≡◌, ℕ, List, vec_items, Ok, Err, Result}
use Rattle.carrier.specs.declared.Carrier.{Ghosts}
use Rattle.receiver.specs.Steps.{opened, ended}
use Rattle.receiver.specs.Views.{view_of}
use Rattle.calls.specs.declared.making.NoMemory.{NoMemory}
use Rattle.calls.specs.declared.making.Ran.{Ran}
use Rattle.calls.specs.declared.making.Script.{Script}
use Rattle.calls.specs.Calling.{CallsRun, calls_run}

-- the replies, the work buffer x, the carrier and whether it is reusable, as the run has them
pub record RanAs {C : Type 0} (m : Ghosts C) (carrier : C) (run : CallsRun) (r : Ran C) (x : List ℕ) : Type 0 where
  pub replies : vec_items r.replies ≡ run.replies
  pub buffer : x ≡ run.buffer
  pub reusable : r.closed.reusable ≡ ended run.standing
  pub lacking : m.lacks carrier run.usage.bytes run.usage.told r.closed.carrier

-- a run of calls on a new receiver over the carrier, with the work buffer w; where there is no memory nothing changes
abbrev pub RunsFrom : {C : Type 0} → Ghosts C → Script → C → List ℕ → Result (Ran C) (NoMemory C) → List ℕ → Type 0
RunsFrom m script carrier w (Ok r) x = RanAs m carrier (calls_run (view_of (opened script.body script.before) (m.coming carrier) (m.ending carrier)) w script.calls.now) r x
RunsFrom m script carrier w (Err n) x = (n.carrier ≡ carrier) × (x ≡ w)

-- two carriers agree in the bytes to come and the ending
pub record Agree {C D : Type 0} (m : Ghosts C) (c : C) (n : Ghosts D) (d : D) : Type 0 where
  pub coming : m.coming c ≡ n.coming d
  pub ending : m.ending c ≡ n.ending d

-- where both ran, the replies are equal one by one, and so are the work buffers x and y
abbrev pub SameAnswers : {C D : Type 0} → Result (Ran C) (NoMemory C) → Result (Ran D) (NoMemory D) → List ℕ → List ℕ → Type 0
SameAnswers (Ok a) (Ok b) x y = (vec_items a.replies ≡ vec_items b.replies) × (x ≡ y) × (a.closed.reusable ≡ b.closed.reusable)
SameAnswers (Ok a) (Err n) x y = Unit {0}
SameAnswers (Err n) s x y = Unit {0}
