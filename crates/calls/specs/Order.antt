-- Each packet once, in order, with its payload: a list of calls, their replies, the packets of the bytes and the work buffer.
--
-- body      the bytes to come where the receiver is opened
-- accepted  the packets before the first that is cut short or shows a fault
-- last      what is answered behind them: the clean end or the fault
-- rest      the bytes behind the accepted packets
-- done      the accepted packets that Steps told or Passes passed over so far
-- todo      the accepted packets that are still to come
-- over      whether the last answer was given
use Rattle.std.specs.Prelude.{◌≡◌, ℕ, ◌+◌, ◌-◌, ◌<◌, ◌≤◌, min, nat_lt, Bool, true, false, cond, not, ◌&&◌, List, [], ◌∷◌, ◌++◌, map, length, take, drop, is_some, Some, None, Ok, Err, Option, ◌==◌}
use Rattle.carrier.specs.declared.endings.Ending.{Ending}
use Rattle.packet.specs.declared.wire.Kind.TheVariants as kind
use Rattle.packet.specs.declared.wire.Packet.{Packet}
use Rattle.packet.specs.declared.grammar.BodyKind.{BodyKind}
use Rattle.packet.specs.Wire.{fixed}
use Rattle.packet.specs.Judging.{stopped}
use Rattle.bodies.specs.Told.{events, in_force, bytes_of, told_behind}
use Rattle.receiver.specs.declared.answers.Answer.{Answer}
use Rattle.receiver.specs.declared.answers.Answer.TheVariants as answer
use Rattle.receiver.specs.declared.answers.StepRefusal.TheVariants as step_refusal
use Rattle.receiver.specs.declared.answers.PassRefusal.TheVariants as pass_refusal
use Rattle.receiver.specs.Draws.{front, laid_over}
use Rattle.receiver.specs.Steps.{work_length}
use Rattle.runs.specs.Answers.{answers}
use Rattle.runs.specs.Bytes.{Bytes}
use Rattle.calls.specs.declared.replies.Call.{Call}
use Rattle.calls.specs.declared.replies.Call.TheVariants as call
use Rattle.calls.specs.declared.replies.Reply.{Reply}
use Rattle.calls.specs.declared.replies.Reply.TheVariants as reply

-- the end and a fault are last answers
abbrev pub IsLast : Answer → Type 0
IsLast (answer.Event e) = ⊥
IsLast (answer.End place) = Unit {0}
IsLast (answer.Failed f) = Unit {0}

-- The bytes bs, cut into packets: the accepted ones, and the rest, where the last answer is given. Every answer is the one that the rules give for bs and the ending.
pub record Cut (b : BodyKind) (before : Option ℕ) (bs : List ℕ) (e : Ending) (accepted : List Packet) (rest : List ℕ) (last : Answer) : Type 0 where
  pub front : List ℕ
  pub whole : bs ≡ front ++ rest
  pub packets : Bytes accepted front
  pub told : answers b before bs e ≡ map answer.Event (events b before accepted) ++ (last ∷ [])
  pub ends : IsLast last

-- whether the last answer was a fault
abbrev pub faulty : Answer → Bool
faulty (answer.Event e) = false
faulty (answer.End place) = false
faulty (answer.Failed f) = true

-- whether a Pass is granted behind packets: a header is in force, and no fault was answered
abbrev pub passable : Option ℕ → Answer → List Packet → Bool → Bool
passable now last done over = is_some (in_force now done) && not (over && faulty last)

-- a data packet
abbrev pub Data : Packet → Type 0
Data p = p.kind ≡ kind.Data

abbrev pub AllData : List Packet → Type 0
AllData [] = Unit {0}
AllData (p ∷ ps) = Data p × AllData ps

-- how many packets have the Incarnation of the header in force, and how many have not
abbrev pub has : Option ℕ → Packet → Bool
has None p = false
has (Some of) p = p.fields.incarnation == of

abbrev pub having : Option ℕ → List Packet → ℕ
having now [] = 0
having now (p ∷ ps) = cond (has now p) 1 0 + having now ps

abbrev pub lacking : Option ℕ → List Packet → ℕ
lacking now [] = 0
lacking now (p ∷ ps) = cond (has now p) 0 1 + lacking now ps

-- the payload of a packet behind others: what stands in the body behind their bytes, its head and its fixed fields
abbrev pub payload_behind : List ℕ → List Packet → Packet → List ℕ
payload_behind body before p = take (p.length - fixed p.kind) (drop (fixed p.kind) (drop 4 (drop (bytes_of before) body)))

-- a buffer with the payloads of packets behind others laid over its front, one after the other
abbrev pub laid_behind : List ℕ → List Packet → List Packet → List ℕ → List ℕ
laid_behind body before [] w = w
laid_behind body before (p ∷ ps) w = laid_behind body (before ++ (p ∷ [])) ps (laid_over (payload_behind body before p) w)

-- the payload bytes that come with the last answer, and none when it is given again
abbrev pub came : Bool → List ℕ → List ℕ
came over rest = cond over [] (front rest)

-- A call is lent the first n bytes of the work buffer; the others stay.
abbrev pub lent : ℕ → (List ℕ → List ℕ) → List ℕ → List ℕ
lent n alters w = alters (take n w) ++ drop n w

-- whether the bytes that a call is lent are enough
abbrev pub Enough : ℕ → List ℕ → Type 0
Enough n w = work_length ≤ length (take n w)

abbrev pub TooFew : ℕ → List ℕ → Type 0
TooFew n w = length (take n w) < work_length

-- The replies to calls, and what the work buffer w then holds: `now` is the header in force from before the body. The calls lead to all packets told or passed over (read), to whether the last answer was given (ended), and to the work buffer x. A packet that is told has its payload in front of the buffer.
pub data Told (now : Option ℕ) (last : Answer) (body rest : List ℕ) : (done todo : List Packet) (over : Bool) (w : List ℕ) → List Call → List Reply → (read : List Packet) (ended : Bool) (x : List ℕ) → Type 0 where
  nothing_called : {done todo : List Packet} {over : Bool} {w : List ℕ} → Told now last body rest done todo over w [] [] done over w
  step_refused : {done todo read : List Packet} {over ended : Bool} {w x : List ℕ} {cs : List Call} {rs : List Reply} {n : ℕ}
      → TooFew n w
      → Told now last body rest done todo over w cs rs read ended x
      → Told now last body rest done todo over w (call.Step n ∷ cs) (reply.Step (Err step_refusal.ShortWorkBuffer) ∷ rs) read ended x
  packet_told : {done todo read : List Packet} {ended : Bool} {w x : List ℕ} {cs : List Call} {rs : List Reply} {n : ℕ} {p : Packet}
      → Enough n w
      → Told now last body rest (done ++ (p ∷ [])) todo false (lent n (laid_over (payload_behind body done p)) w) cs rs read ended x
      → Told now last body rest done (p ∷ todo) false w (call.Step n ∷ cs) (reply.Step (Ok (answer.Event (told_behind now done p))) ∷ rs) read ended x
  last_told : {done read : List Packet} {over ended : Bool} {w x : List ℕ} {cs : List Call} {rs : List Reply} {n : ℕ}
      → Enough n w
      → Told now last body rest done [] true (lent n (laid_over (came over rest)) w) cs rs read ended x
      → Told now last body rest done [] over w (call.Step n ∷ cs) (reply.Step (Ok last) ∷ rs) read ended x
  pass_refused : {done todo read : List Packet} {over ended : Bool} {w x : List ℕ} {cs : List Call} {rs : List Reply} {n : ℕ}
      → TooFew n w
      → Told now last body rest done todo over w cs rs read ended x
      → Told now last body rest done todo over w (call.Pass n ∷ cs) (reply.Pass (Err pass_refusal.ShortWorkBuffer) ∷ rs) read ended x
  pass_without_header : {done todo read : List Packet} {over ended : Bool} {w x : List ℕ} {cs : List Call} {rs : List Reply} {n : ℕ}
      → Enough n w
      → passable now last done over ≡ false
      → Told now last body rest done todo over w cs rs read ended x
      → Told now last body rest done todo over w (call.Pass n ∷ cs) (reply.Pass (Err pass_refusal.NoHeaderInForce) ∷ rs) read ended x
  passed_to_packet : {done todo read : List Packet} {over ended : Bool} {w x : List ℕ} {cs : List Call} {rs : List Reply} {n : ℕ} (passed left : List Packet) (p : Packet)
      → Enough n w
      → passable now last done over ≡ true
      → todo ≡ passed ++ (p ∷ left)
      → AllData passed
      → (Data p → ⊥)
      → Told now last body rest ((done ++ passed) ++ (p ∷ [])) left false (lent n (laid_behind body done (passed ++ (p ∷ []))) w) cs rs read ended x
      → Told now last body rest done todo over w (call.Pass n ∷ cs) (reply.Pass (Ok (record { answer = answer.Event (told_behind now (done ++ passed) p); delivered = stopped (having (in_force now done) passed); stale = stopped (lacking (in_force now done) passed) })) ∷ rs) read ended x
  passed_to_last : {done todo read : List Packet} {over ended : Bool} {w x : List ℕ} {cs : List Call} {rs : List Reply} {n : ℕ}
      → Enough n w
      → passable now last done over ≡ true
      → AllData todo
      → Told now last body rest (done ++ todo) [] true (lent n (λ v. laid_over (came over rest) (laid_behind body done todo v)) w) cs rs read ended x
      → Told now last body rest done todo over w (call.Pass n ∷ cs) (reply.Pass (Ok (record { answer = last; delivered = stopped (having (in_force now done) todo); stale = stopped (lacking (in_force now done) todo) })) ∷ rs) read ended x

-- whether a reply refuses its call for a short buffer
abbrev pub refuses_short : Reply → Bool
refuses_short (reply.Step (Ok a)) = false
refuses_short (reply.Step (Err step_refusal.ShortWorkBuffer)) = true
refuses_short (reply.Pass (Ok p)) = false
refuses_short (reply.Pass (Err pass_refusal.ShortWorkBuffer)) = true
refuses_short (reply.Pass (Err pass_refusal.NoHeaderInForce)) = false

-- how many bytes of the work buffer a call asks for
abbrev pub asks : Call → ℕ
asks (call.Step n) = n
asks (call.Pass n) = n

-- Of the calls, over a work buffer of size bytes, just those are refused for it that are lent too few of them.
abbrev pub ShortRefused : ℕ → List Call → List Reply → Type 0
ShortRefused size [] rs = rs ≡ []
ShortRefused size (c ∷ cs) [] = ⊥
ShortRefused size (c ∷ cs) (r ∷ rs) = (refuses_short r ≡ nat_lt (min (asks c) size) work_length) × ShortRefused size cs rs
