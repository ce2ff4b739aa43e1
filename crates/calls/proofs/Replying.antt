-- What one call moves, and what its reply is.
use Rattle.std.proofs.Common.{◌≡◌, ℕ, suc, Bool, true, false, cond, ◌&&◌, leb, List, [], ◌∷◌, ◌++◌, length, take, drop, Ok, Err, Option, sym, refl, zero-add, arith, take-append-drop}
use mathlib.Core.Bool.{or-false}
use Rattle.std.proofs.lemmas.Bool.{leb-true, leb-false}
use Rattle.carrier.specs.declared.endings.Ending.{Ending}
use Rattle.packet.specs.declared.wire.Packet.{Packet}
use Rattle.packet.specs.Judging.{stopped}
use Rattle.receiver.specs.declared.answers.Answer.{Answer}
use Rattle.receiver.specs.declared.answers.Answer.TheVariants as answer
use Rattle.receiver.specs.declared.answers.Passed.{Passed}
use Rattle.receiver.specs.declared.answers.StepRefusal.TheVariants as step_refusal
use Rattle.receiver.specs.declared.answers.PassRefusal.TheVariants as pass_refusal
use Rattle.receiver.specs.declared.standings.Standing.{Standing}
use Rattle.receiver.specs.Draws.{laid_over}
use Rattle.receiver.specs.Steps.{steps, headed, work_length, reading_front, advance_usage}
use Rattle.receiver.specs.Views.{view_of, unused}
use Rattle.receiver.specs.Passes.{PassRun, passes}
use Rattle.bodies.specs.Told.{in_force, told_behind}
use Rattle.calls.specs.declared.replies.Call.{Call}
use Rattle.calls.specs.declared.replies.Call.TheVariants as call
use Rattle.calls.specs.declared.replies.Reply.{Reply}
use Rattle.calls.specs.declared.replies.Reply.TheVariants as reply
use Rattle.calls.specs.Calling.{Called, called}
use Rattle.calls.specs.Order.{IsLast, Told, having, lacking, passable, payload_behind, came, lent, Enough}
use Rattle.calls.proofs.Moving.{State, Moves, Turn, granted, packet_turn, last_turn}
use Rattle.calls.proofs.Passes.{EndsPass, pass_ends}

module _ (now : Option ℕ) (e : Ending) (body rest : List ℕ) (last : Answer) where
  -- a call that is replied to with r leads from one place among the packets to another
  abbrev pub LeadsOn : (done todo : List Packet) (over : Bool) (w : List ℕ) → Call → Reply → (done' todo' : List Packet) (over' : Bool) (v : List ℕ) → Type 0
  LeadsOn done todo over w c r done' todo' over' v =
      (cs : List Call) (rs : List Reply) (read : List Packet) (ended : Bool) (x : List ℕ)
      → Told now last body rest done' todo' over' v cs rs read ended x
      → Told now last body rest done todo over w (c ∷ cs) (r ∷ rs) read ended x

  -- a call that is replied to in its order
  pub record Keeps (bs : List ℕ) (done todo : List Packet) (over : Bool) (w : List ℕ) (c : Call) (r : Called) : Type 0 where
    pub done' : List Packet
    pub todo' : List Packet
    pub over' : Bool
    pub moves : Moves now e body rest last bs done over r.standing r.usage.bytes r.usage.told done' todo' over'
    pub order : LeadsOn done todo over w c r.replied done' todo' over' r.buffer

  module _ (s : Standing) (bs : List ℕ) (done : List Packet) (over : Bool) (w : List ℕ) (n : ℕ) where
    -- a call that is refused moves nothing, and leaves the work buffer as it was
    refused : (todo : List Packet) (c : Call) (r : Reply)
        → State now e body rest last s bs done todo over
        → LeadsOn done todo over w c r done todo over w
        → Keeps bs done todo over w c (record { replied = r; standing = s; buffer = take n w ++ drop n w; usage = unused })
    refused todo c r state order =
        record {
          done' = done;
          todo' = todo;
          over' = over;
          moves = record { state = state; uses = zero-add _; tells = or-false _ };
          order = rw take-append-drop order;
        }

    -- what a Step comes to, with a work buffer that is long enough or not
    abbrev step_called : Bool → Called
    step_called b =
        record {
          replied = reply.Step (cond b (Ok (steps s bs e).answer) (Err step_refusal.ShortWorkBuffer));
          standing = cond b (steps s bs e).standing s;
          buffer = laid_over (cond b (reading_front s.progress bs) []) (take n w) ++ drop n w;
          usage = cond b (advance_usage (view_of s bs e)) unused;
        }

    -- a granted Step, with the answer and the bytes laid that its turn has
    answered : (todo : List Packet) (a : Answer) (laid : List ℕ) (done' todo' : List Packet) (over' : Bool)
        → Turn now e body rest last s bs done over a laid done' todo' over'
        → LeadsOn done todo over w (call.Step n) (reply.Step (Ok a)) done' todo' over' (lent n (laid_over laid) w)
        → Keeps bs done todo over w (call.Step n) (step_called true)
    answered todo a laid done' todo' over' turn order =
        record {
          done' = done';
          todo' = todo';
          over' = over';
          moves = turn.moves;
          order = rw (turn.answers, turn.lays) order;
        }

    step_granted : (todo : List Packet) → Enough n w → State now e body rest last s bs done todo over → Keeps bs done todo over w (call.Step n) (step_called true)
    step_granted [] long state = answered [] last (came over rest) done [] true (last_turn now e body rest last s bs done over state) (λ cs rs read ended x more. Told.last_told long more)
    step_granted (p ∷ todo) long state =
        let (new, turn) = packet_turn now e body rest last s bs done todo over p state in
        answered (p ∷ todo) (answer.Event (told_behind now done p)) (payload_behind body done p) (done ++ (p ∷ [])) todo false turn
        (rw new (λ cs rs read ended x more. Told.packet_told long more))

    pub step_keeps : (todo : List Packet) → State now e body rest last s bs done todo over → Keeps bs done todo over w (call.Step n) (called (view_of s bs e) w (call.Step n))
    step_keeps todo state = go (leb work_length (length (take n w))) refl
      where
        go : (b : Bool) → leb work_length (length (take n w)) ≡ b → Keeps bs done todo over w (call.Step n) (step_called b)
        go true is = step_granted todo (leb-true work_length (length (take n w)) is) state
        go false is = refused todo _ _ state (λ cs rs read ended x more. Told.step_refused (leb-false work_length (length (take n w)) is) more)

    -- what a Pass comes to, with a work buffer that is long enough or not, and a header in force or not
    abbrev runs : PassRun
    runs = passes (view_of s bs e) (take n w)

    abbrev pass_called : Bool → Bool → Called
    pass_called b h =
        record {
          replied = reply.Pass (cond b (cond h (Ok runs.passed) (Err pass_refusal.NoHeaderInForce)) (Err pass_refusal.ShortWorkBuffer));
          standing = cond (b && h) runs.standing s;
          buffer = cond (b && h) runs.buffer (take n w) ++ drop n w;
          usage = cond (b && h) runs.usage unused;
        }

    abbrev passed_over : List Packet → Answer → Passed
    passed_over passed a = record { answer = a; delivered = stopped (having (in_force now done) passed); stale = stopped (lacking (in_force now done) passed) }

    pass_order : (todo passed : List Packet) (a : Answer) (done' todo' : List Packet) (over' : Bool) (v : List ℕ)
        → Enough n w
        → passable now last done over ≡ true
        → EndsPass now last body rest done todo over (take n w) passed a done' todo' over' v
        → LeadsOn done todo over w (call.Pass n) (reply.Pass (Ok (passed_over passed a))) done' todo' over' (v ++ drop n w)
    pass_order todo _ _ _ _ _ _ long grant (EndsPass.at_packet passed left past p v is split all other laid) =
        rw (is, laid) (λ cs rs read ended x more. Told.passed_to_packet passed left p long grant split all other more)
    pass_order todo _ _ _ _ _ _ long grant (EndsPass.at_last past v is all laid) =
        rw (is, laid) (λ cs rs read ended x more. Told.passed_to_last long grant all more)

    pass_granted : (todo : List Packet)
        → IsLast last
        → Enough n w
        → passable now last done over ≡ true
        → State now e body rest last s bs done todo over
        → Keeps bs done todo over w (call.Pass n) (pass_called true true)
    pass_granted todo ends long grant state =
        let run = pass_ends now e body rest last (suc (length bs)) todo (in_force now done) s bs done over (take n w) 0 0 0 (omega arith) (omega arith) refl ends (omega arith) state in
        record {
          done' = run.done';
          todo' = run.todo';
          over' = run.over';
          moves = rw (run.uses, zero-add run.spends) run.moves;
          order = rw (run.tells, zero-add (having (in_force now done) run.passed), zero-add (lacking (in_force now done) run.passed)) (pass_order todo run.passed run.answered run.done' run.todo' run.over' runs.buffer long grant run.ends);
        }

    pub pass_keeps : (todo : List Packet) → IsLast last → State now e body rest last s bs done todo over → Keeps bs done todo over w (call.Pass n) (called (view_of s bs e) w (call.Pass n))
    pass_keeps todo ends state = go (leb work_length (length (take n w))) refl (headed s) (granted now e body rest last s bs done todo over state)
      where
        go : (b : Bool) → leb work_length (length (take n w)) ≡ b → (h : Bool) → h ≡ passable now last done over → Keeps bs done todo over w (call.Pass n) (pass_called b h)
        go true is true grant = pass_granted todo ends (leb-true work_length (length (take n w)) is) (sym grant) state
        go true is false grant = refused todo _ _ state (λ cs rs read ended x more. Told.pass_without_header (leb-true work_length (length (take n w)) is) (sym grant) more)
        go false is h grant = refused todo _ _ state (λ cs rs read ended x more. Told.pass_refused (leb-false work_length (length (take n w)) is) more)
