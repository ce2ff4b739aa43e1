-- From the runs of calls to the law.
use Rattle.std.proofs.Common.{◌≡◌, ℕ, Bool, List, Ok, Err, Option, Result}
use Rattle.carrier.specs.declared.Carrier.{Ghosts}
use Rattle.carrier.specs.declared.endings.Ending.{Ending}
use Rattle.packet.specs.declared.grammar.BodyKind.{BodyKind}
use Rattle.receiver.specs.Steps.{opened}
use Rattle.receiver.specs.Views.{View, view_of}
use Rattle.calls.specs.declared.replies.Call.{Call}
use Rattle.calls.specs.declared.replies.Reply.{Reply}
use Rattle.calls.specs.declared.making.NoMemory.{NoMemory}
use Rattle.calls.specs.declared.making.Ran.{Ran}
use Rattle.calls.specs.declared.making.Script.{Script}
use Rattle.calls.specs.Calling.{calls_run}
use Rattle.calls.specs.Outcomes.{RunsFrom, Agree, SameAnswers}
use Rattle.calls.specs.Law.{Law, KeepsTheLaw, CallsKeepTheLaw}

-- what is lacked, said of a run, is lacked by its carrier
law_of : {b : BodyKind} {before : Option ℕ} {bs : List ℕ} {e : Ending} {w : List ℕ} {cs : List Call} {rs : List Reply} {x : List ℕ} {P : ℕ → Bool → Type 0} (Q : ℕ → Bool → Type 0) → ((n : ℕ) (told : Bool) → P n told → Q n told) → Law b before bs e w cs rs x P → Law b before bs e w cs rs x Q
law_of Q f law =
    record {
      accepted = law.accepted;
      rest = law.rest;
      last = law.last;
      every_answer_by_the_rules = law.every_answer_by_the_rules;
      read = law.read;
      ended = law.ended;
      each_packet_once_in_order = law.each_packet_once_in_order;
      refused_by_length = law.refused_by_length;
      nothing_more_was_used = f _ _ law.nothing_more_was_used;
    }

-- what a new receiver over the carrier rests on
abbrev newly : {C : Type 0} → Ghosts C → Script → C → View
newly m script carrier = view_of (opened script.body script.before) (m.coming carrier) (m.ending carrier)

pub keeps : CallsKeepTheLaw → {C : Type 0} (m : Ghosts C) (script : Script) (carrier : C) (w : List ℕ) (r : Result (Ran C) (NoMemory C)) (x : List ℕ) → RunsFrom m script carrier w r x → KeepsTheLaw m script carrier w r x
keeps law m script carrier w (Ok r) x runs =
    let so = law script.body script.before (m.coming carrier) (m.ending carrier) w script.calls.now in
    rw (runs.replies, runs.buffer) (law_of _ (λ n told is. rw (← is.0, ← is.1) runs.lacking) so)
keeps law m script carrier w (Err n) x runs = runs

module _ {C D : Type 0} (m : Ghosts C) (n : Ghosts D) (script : Script) (c : C) (d : D) (v w : List ℕ) (x y : List ℕ) where
  -- what is to come, the ending and the work buffer make the run
  pub alike : (r : Result (Ran C) (NoMemory C)) (s : Result (Ran D) (NoMemory D)) → RunsFrom m script c v r x → RunsFrom n script d w s y → Agree m c n d → v ≡ w → SameAnswers r s x y
  alike (Ok r) (Ok s) l k agree work =
      let coming = agree.coming in
      let ending = agree.ending in
      let same : calls_run (newly m script c) v script.calls.now ≡ calls_run (newly n script d) w script.calls.now = (λ z. calls_run (view_of (opened script.body script.before) (coming z) (ending z)) (work z) script.calls.now) in
      (rw (l.replies, k.replies, same), rw (l.buffer, k.buffer, same), rw (l.reusable, k.reusable, same))
  alike (Ok r) (Err s) l k agree work = tt
  alike (Err r) s l k agree work = tt
