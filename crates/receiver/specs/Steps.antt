-- What Open, Step and Close answer, and where they leave a receiver.
use Rattle.std.specs.Prelude.{ℕ, ◌+◌, Bool, true, false, cond, ◌&&◌, List, [], is_some, Ok, Err, Option, Result, ◌==◌, nat_le}
use Rattle.carrier.specs.declared.endings.Ending.{Ending}
use Rattle.carrier.specs.declared.endings.Ending.TheVariants as ending
use Rattle.packet.specs.declared.wire.Packet.{Packet}
use Rattle.packet.specs.declared.grammar.BodyKind.{BodyKind}
use Rattle.packet.specs.declared.grammar.Position.{Position}
use Rattle.packet.specs.declared.grammar.PacketFault.{PacketFault}
use Rattle.packet.specs.declared.grammar.PacketFault.TheVariants.{PacketSize}
use Rattle.packet.specs.declared.grammar.Judged.{Judged}
use Rattle.packet.specs.Wire.{sized}
use Rattle.packet.specs.Judging.{fault_number, starts, ends, in_force_at, judged, stopped, behind, event}
use Rattle.receiver.specs.declared.answers.Answer.{Answer}
use Rattle.receiver.specs.declared.answers.Answer.TheVariants as answer
use Rattle.receiver.specs.declared.answers.Failure.{Failure}
use Rattle.receiver.specs.declared.answers.StepFault.{StepFault}
use Rattle.receiver.specs.declared.answers.StepFault.TheVariants as fault
use Rattle.receiver.specs.declared.answers.StepRefusal.{StepRefusal}
use Rattle.receiver.specs.declared.answers.StepRefusal.TheVariants as refusal
use Rattle.receiver.specs.declared.drawing.NoPacket.{NoPacket}
use Rattle.receiver.specs.declared.drawing.NoPacket.TheVariants.{BadHead, CutShort}
use Rattle.receiver.specs.declared.standings.Progress.{Progress}
use Rattle.receiver.specs.declared.standings.Progress.TheVariants as progress
use Rattle.receiver.specs.declared.standings.Standing.{Standing}
use Rattle.receiver.specs.Draws.{draws, used, front, ran_out}
use Rattle.receiver.specs.Views.{View, Usage, unused}

-- what a receiver finds wrong, by its number
abbrev pub step_fault_number : StepFault → ℕ
step_fault_number (fault.Packet f) = fault_number f
step_fault_number fault.EndsEarly = 28
step_fault_number (fault.CarrierBroke f) = 29

-- what a Step answers, and where it leaves the receiver
pub record Settled : Type 0 where
  pub answer : Answer
  pub standing : Standing

-- where a new receiver stands
abbrev pub opened : BodyKind → Option ℕ → Standing
opened b before = record { place = 0; entry = 0; progress = progress.Reading (starts b before) }

-- a fault is answered, with place bytes drawn
abbrev pub fails : ℕ → ℕ → Failure → Settled
fails place entry f = record { answer = answer.Failed f; standing = record { place = place; entry = entry; progress = progress.Failed f } }

abbrev pub failure : StepFault → ℕ → Failure
failure f place = record { fault = f; place = place }

-- the clean end is answered
abbrev pub closes : Position → ℕ → ℕ → Settled
closes at place entry = record { answer = answer.End place; standing = record { place = place; entry = entry; progress = progress.Ended at } }

-- a packet that begins at s's place is allowed, or not
abbrev pub settles_packet : Standing → Packet → Result Judged PacketFault → Settled
settles_packet s p (Err f) = fails (behind s.place p.length) s.entry (failure (fault.Packet f) s.place)
settles_packet s p (Ok j) =
    record {
      answer = answer.Event (event p s.place j);
      standing = record { place = behind s.place p.length; entry = j.entry; progress = progress.Reading j.next };
    }

-- the bytes came to an ending; place bytes were drawn, n of them of a packet that is cut short
abbrev pub settles_end : Position → ℕ → ℕ → ℕ → Ending → Settled
settles_end at place entry n ending.Clean = cond (ends at && n == 0) (closes at place entry) (fails place entry (failure fault.EndsEarly place))
settles_end at place entry n (ending.Broken f) = fails place entry (failure (fault.CarrierBroke f) place)

-- what was drawn, at a position of the grammar
abbrev pub settles : Standing → Position → Result Packet NoPacket → Settled
settles s at (Ok p) = settles_packet s p (cond (sized p) (judged p at s.entry) (Err PacketSize))
settles s at (Err (BadHead f)) = fails (stopped (s.place + 4)) s.entry (failure (fault.Packet f) s.place)
settles s at (Err (CutShort c)) = settles_end at (stopped (s.place + c.came)) s.entry c.came c.ending

-- a Step in which the work buffer is long enough
abbrev pub goes_on : Standing → Progress → List ℕ → Ending → Settled
goes_on s (progress.Reading at) bs e = settles s at (draws bs e)
goes_on s (progress.Ended at) bs e = record { answer = answer.End s.place; standing = s }
goes_on s (progress.Failed f) bs e = record { answer = answer.Failed f; standing = s }

abbrev pub steps : Standing → List ℕ → Ending → Settled
steps s bs e = goes_on s s.progress bs e

-- how many bytes it uses, whether it reaches the ending, and the bytes that it puts in front of the work buffer
abbrev pub reading_used : Progress → List ℕ → ℕ
reading_used (progress.Reading at) bs = used bs
reading_used (progress.Ended at) bs = 0
reading_used (progress.Failed f) bs = 0

abbrev pub reading_told : Progress → List ℕ → Ending → Bool
reading_told (progress.Reading at) bs e = ran_out (draws bs e)
reading_told (progress.Ended at) bs e = false
reading_told (progress.Failed f) bs e = false

abbrev pub reading_front : Progress → List ℕ → List ℕ
reading_front (progress.Reading at) bs = front bs
reading_front (progress.Ended at) bs = []
reading_front (progress.Failed f) bs = []

-- the same, by a receiver's view
abbrev pub advanced : View → Settled
advanced v = steps v.standing v.coming v.ending

abbrev pub advance_front : View → List ℕ
advance_front v = reading_front v.standing.progress v.coming

abbrev pub advance_usage : View → Usage
advance_usage v = record { bytes = reading_used v.standing.progress v.coming; told = reading_told v.standing.progress v.coming v.ending }

-- the least length of a work buffer
abbrev pub work_length : ℕ
work_length = 65535

-- the number of Step's refusal
abbrev pub step_refusal_number : StepRefusal → ℕ
step_refusal_number refusal.ShortWorkBuffer = 11

-- Step's answer with a work buffer of so many bytes, where it leaves the receiver, what it puts in front of the buffer, and what it uses of the carrier
abbrev pub stepped : View → ℕ → Result Answer StepRefusal
stepped v room = cond (nat_le work_length room) (Ok (advanced v).answer) (Err refusal.ShortWorkBuffer)

abbrev pub step_standing : View → ℕ → Standing
step_standing v room = cond (nat_le work_length room) (advanced v).standing v.standing

abbrev pub step_front : View → ℕ → List ℕ
step_front v room = cond (nat_le work_length room) (advance_front v) []

abbrev pub step_usage : View → ℕ → Usage
step_usage v room = cond (nat_le work_length room) (advance_usage v) unused

-- whether the clean end was answered
abbrev ended_in : Progress → Bool
ended_in (progress.Reading at) = false
ended_in (progress.Ended at) = true
ended_in (progress.Failed f) = false

abbrev pub ended : Standing → Bool
ended s = ended_in s.progress

-- whether a header is in force, and no fault was answered
abbrev headed_in : Progress → Bool
headed_in (progress.Reading at) = is_some (in_force_at at)
headed_in (progress.Ended at) = is_some (in_force_at at)
headed_in (progress.Failed f) = false

abbrev pub headed : Standing → Bool
headed s = headed_in s.progress
