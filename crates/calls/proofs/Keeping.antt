-- What the calls come to keeps the law.
use Rattle.std.proofs.Common.{◌≡◌, ℕ, ◌+◌, Bool, false, ◌||◌, List, [], ◌∷◌, drop, Option, sym, refl, ◌∙◌, add-zero, zero-add, arith}
use mathlib.Core.Bool.{or-false}
use Rattle.carrier.specs.declared.endings.Ending.{Ending}
use Rattle.packet.specs.declared.wire.Packet.{Packet}
use Rattle.packet.specs.Judging.{starts}
use Rattle.receiver.specs.declared.answers.Answer.{Answer}
use Rattle.receiver.specs.declared.standings.Standing.{Standing}
use Rattle.receiver.specs.Views.{view_of}
use Rattle.bodies.specs.Told.{from_before}
use Rattle.bodies.proofs.Accepting.{stands_first}
use Rattle.calls.specs.declared.replies.Call.{Call}
use Rattle.calls.specs.declared.replies.Call.TheVariants as call
use Rattle.calls.specs.Calling.{Called, called, CallsRun, one_more, calls_run}
use Rattle.calls.specs.Order.{IsLast, Told}
use Rattle.calls.specs.Law.{CallsKeepTheLaw}
use Rattle.calls.proofs.Course.{charted, course_bytes, course_ends, course_answers}
use Rattle.calls.proofs.Moving.{State, spent, has_told}
use Rattle.calls.proofs.Passes.{tells_on}
use Rattle.calls.proofs.Replying.{Keeps, step_keeps, pass_keeps}
use Rattle.calls.proofs.Serving.{short_refused}

module _ (now : Option ℕ) (e : Ending) (body rest : List ℕ) (last : Answer) (ends : IsLast last) where
  -- the calls are replied to in their order
  record Leads (done todo : List Packet) (over : Bool) (w : List ℕ) (cs : List Call) (run : CallsRun) : Type 0 where
    read : List Packet
    ended : Bool
    order : Told now last body rest done todo over w cs run.replies read ended run.buffer
    uses : run.usage.bytes + spent now e body rest last done over ≡ spent now e body rest last read ended
    tells : has_told now e body rest last over || run.usage.told ≡ has_told now e body rest last ended

  call_keeps : (s : Standing) (bs : List ℕ) (done todo : List Packet) (over : Bool) (w : List ℕ) (c : Call)
      → State now e body rest last s bs done todo over
      → Keeps now e body rest last bs done todo over w c (called (view_of s bs e) w c)
  call_keeps s bs done todo over w (call.Step n) state = step_keeps now e body rest last s bs done over w n todo state
  call_keeps s bs done todo over w (call.Pass n) state = pass_keeps now e body rest last s bs done over w n todo ends state

  -- one call in front of others
  leads_on : (bs : List ℕ) (done todo : List Packet) (over : Bool) (w : List ℕ) (c : Call) (cs : List Call) (r : Called) (run : CallsRun) (keeps : Keeps now e body rest last bs done todo over w c r)
      → Leads keeps.done' keeps.todo' keeps.over' r.buffer cs run
      → Leads done todo over w (c ∷ cs) (one_more r run)
  leads_on bs done todo over w c cs r run keeps more =
      let one = keeps.moves.uses in
      let others = more.uses in
      record {
        read = more.read;
        ended = more.ended;
        order = keeps.order cs run.replies more.read more.ended run.buffer more.order;
        uses = omega arith;
        tells = tells_on (has_told now e body rest last over) r.usage.told run.usage.told (has_told now e body rest last keeps.over') (has_told now e body rest last more.ended) keeps.moves.tells more.tells;
      }

  leads : (cs : List Call) (s : Standing) (bs : List ℕ) (done todo : List Packet) (over : Bool) (w : List ℕ)
      → State now e body rest last s bs done todo over
      → Leads done todo over w cs (calls_run (view_of s bs e) w cs)
  leads [] s bs done todo over w state = record { read = done; ended = over; order = Told.nothing_called; uses = zero-add _; tells = or-false _ }
  leads (c ∷ cs) s bs done todo over w state =
      let keeps = call_keeps s bs done todo over w c state in
      leads_on bs done todo over w c cs (called (view_of s bs e) w c) _ keeps
      (leads cs (called (view_of s bs e) w c).standing (drop (called (view_of s bs e) w c).usage.bytes bs) keeps.done' keeps.todo' keeps.over' (called (view_of s bs e) w c).buffer keeps.moves.state)

pub calls_keep_the_law : CallsKeepTheLaw
calls_keep_the_law b before bs e w cs =
    let (accepted, rest, last, course) = charted e (starts b before) 0 0 bs in
    let ends = course_ends e rest last accepted (starts b before) 0 0 bs course in
    let (front, whole, packets) = course_bytes e rest last accepted (starts b before) 0 0 bs course in
    let all = leads (from_before b before) e bs rest last ends cs _ bs [] accepted false w (State.reads (starts b before) 0 0 bs [] accepted (stands_first b before) refl course) in
    record {
      accepted = accepted;
      rest = rest;
      last = last;
      every_answer_by_the_rules = record { front = front; whole = whole; packets = packets; told = course_answers e rest last accepted (from_before b before) [] (starts b before) 0 0 bs (stands_first b before) course; ends = ends };
      read = all.read;
      ended = all.ended;
      each_packet_once_in_order = all.order;
      refused_by_length = short_refused _ _ _ _ _ refl all.order;
      nothing_more_was_used = (sym (add-zero _) ∙ all.uses, all.tells);
    }
