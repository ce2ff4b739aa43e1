-- What Pass answers, and where it leaves a receiver.
use Rattle.std.specs.Prelude.{ℕ, zero, suc, ◌+◌, Bool, cond, ◌&&◌, List, length, drop, Some, None, Ok, Err, Option, Result, nat_le}
use Rattle.carrier.specs.declared.endings.Ending.{Ending}
use Rattle.packet.specs.declared.grammar.Letter.{Letter}
use Rattle.packet.specs.declared.grammar.Letter.TheVariants as letter
use Rattle.packet.specs.Judging.{stopped}
use Rattle.receiver.specs.declared.answers.Answer.{Answer}
use Rattle.receiver.specs.declared.answers.Answer.TheVariants as answer
use Rattle.receiver.specs.declared.answers.Passed.{Passed}
use Rattle.receiver.specs.declared.answers.Counted.{Counted}
use Rattle.receiver.specs.declared.answers.Counted.TheVariants as counted
use Rattle.receiver.specs.declared.answers.PassRefusal.{PassRefusal}
use Rattle.receiver.specs.declared.answers.PassRefusal.TheVariants as refusal
use Rattle.receiver.specs.declared.standings.Standing.{Standing}
use Rattle.receiver.specs.Draws.{used, laid_over}
use Rattle.receiver.specs.Views.{View, Usage, unused}
use Rattle.receiver.specs.Steps.{steps, headed, work_length, reading_used, reading_told, reading_front}

-- what a packet counts as by its letter, if it is a data packet
abbrev letter_counts : Letter → Option Counted
letter_counts letter.StreamChange = None
letter_counts letter.Data = Some counted.Delivered
letter_counts letter.EndOfStream = None
letter_counts letter.Header = None
letter_counts letter.Metadata = None
letter_counts letter.PacketPair = None
letter_counts letter.Stale = Some counted.Stale

-- what an answer counts as in a Pass, if it tells a data packet
abbrev pub counts : Answer → Option Counted
counts (answer.Event e) = letter_counts e.letter
counts (answer.End place) = None
counts (answer.Failed f) = None

-- what a Pass answers, where it leaves the receiver and the work buffer, and what it used of the carrier
pub record PassRun : Type 0 where
  pub passed : Passed
  pub standing : Standing
  pub buffer : List ℕ
  pub usage : Usage

-- the Step that ends a Pass
abbrev pub stopping : Standing → List ℕ → Ending → List ℕ → ℕ → ℕ → ℕ → PassRun
stopping s bs e w d t u =
    record {
      passed = record { answer = (steps s bs e).answer; delivered = d; stale = t };
      standing = (steps s bs e).standing;
      buffer = laid_over (reading_front s.progress bs) w;
      usage = record { bytes = u + reading_used s.progress bs; told = reading_told s.progress bs e };
    }

-- a Pass goes on behind a delivered packet or a stale one, and stops at anything else
abbrev pub by_count : Option Counted → PassRun → PassRun → PassRun → PassRun
by_count (Some counted.Delivered) d t o = d
by_count (Some counted.Stale) d t o = t
by_count None d t o = o

-- At most so many Steps, from the standing s, with bs to come and the work buffer w, once d data packets were delivered, t were stale and u bytes used.
abbrev pub passing : ℕ → Standing → List ℕ → Ending → List ℕ → ℕ → ℕ → ℕ → PassRun
passing zero s bs e w d t u = stopping s bs e w d t u
passing (suc k) s bs e w d t u =
    by_count (counts (steps s bs e).answer)
    (passing k (steps s bs e).standing (drop (used bs) bs) e (laid_over (reading_front s.progress bs) w) (stopped (d + 1)) t (u + reading_used s.progress bs))
    (passing k (steps s bs e).standing (drop (used bs) bs) e (laid_over (reading_front s.progress bs) w) d (stopped (t + 1)) (u + reading_used s.progress bs))
    (stopping s bs e w d t u)

-- Each data packet uses at least four bytes, so that one Step more than there are bytes always comes to something else.
abbrev pub passes_from : Standing → List ℕ → Ending → List ℕ → ℕ → ℕ → ℕ → PassRun
passes_from s bs e w d t u = passing (suc (length bs)) s bs e w d t u

abbrev pub passes : View → List ℕ → PassRun
passes v w = passes_from v.standing v.coming v.ending w 0 0 0

-- the numbers of Pass's refusals
abbrev pub pass_refusal_number : PassRefusal → ℕ
pass_refusal_number refusal.ShortWorkBuffer = 11
pass_refusal_number refusal.NoHeaderInForce = 12

-- whether a Pass is granted with a work buffer of so many bytes
abbrev pub grants : Standing → ℕ → Bool
grants s room = nat_le work_length room && headed s

-- Pass's answer with the work buffer w, where it leaves the receiver and the buffer, and what it uses of the carrier
abbrev pub passed : View → List ℕ → Result Passed PassRefusal
passed v w = cond (nat_le work_length (length w)) (cond (headed v.standing) (Ok (passes v w).passed) (Err refusal.NoHeaderInForce)) (Err refusal.ShortWorkBuffer)

abbrev pub pass_standing : View → List ℕ → Standing
pass_standing v w = cond (grants v.standing (length w)) (passes v w).standing v.standing

abbrev pub pass_buffer : View → List ℕ → List ℕ
pass_buffer v w = cond (grants v.standing (length w)) (passes v w).buffer w

abbrev pub pass_usage : View → List ℕ → Usage
pass_usage v w = cond (grants v.standing (length w)) (passes v w).usage unused
