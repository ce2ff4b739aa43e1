-- What reading a Play body to its end or fault comes to.
use Rattle.std.specs.Prelude.{ℕ, zero, suc, Bool, true, false, cond, List, length, drop, None, nat_le}
use Rattle.carrier.specs.declared.endings.Ending.{Ending}
use Rattle.packet.specs.declared.grammar.BodyKind.TheVariants as body
use Rattle.receiver.specs.declared.answers.Answer.{Answer}
use Rattle.receiver.specs.declared.answers.Answer.TheVariants as answer
use Rattle.receiver.specs.declared.standings.Standing.{Standing}
use Rattle.receiver.specs.Draws.{used, laid_over}
use Rattle.receiver.specs.Steps.{steps, opened, ended, reading_front, work_length}
use Rattle.receiver.specs.Views.{View, view_of}
use Rattle.exported.specs.Checksums.{mixed, mixed_answer}

-- the checksum, the work buffer, and where the receiver stands
pub record Read : Type 0 where
  pub sum : ℕ
  pub buffer : List ℕ
  pub standing : Standing

abbrev pub goes_on : Answer → Bool
goes_on (answer.Event e) = true
goes_on (answer.End place) = false
goes_on (answer.Failed f) = false

-- what one Step makes of the checksum and the work buffer
abbrev pub one_step : Standing → List ℕ → Ending → List ℕ → ℕ → Read
one_step s bs e w sum =
    record {
      sum = mixed_answer sum (steps s bs e).answer (laid_over (reading_front s.progress bs) w);
      buffer = laid_over (reading_front s.progress bs) w;
      standing = (steps s bs e).standing;
    }

-- at most so many Steps behind an event
abbrev pub reads : ℕ → Standing → List ℕ → Ending → List ℕ → ℕ → Read
reads zero s bs e w sum = one_step s bs e w sum
reads (suc k) s bs e w sum = cond (goes_on (steps s bs e).answer) (reads k (steps s bs e).standing (drop (used bs) bs) e (laid_over (reading_front s.progress bs) w) (one_step s bs e w sum).sum) (one_step s bs e w sum)

-- Each event uses at least four bytes, so that as many Steps as there are bytes come to the end or a fault behind the last.
abbrev pub reads_from : View → List ℕ → ℕ → Read
reads_from v w sum = reads (length v.coming) v.standing v.coming v.ending w sum

abbrev play_read : List ℕ → Ending → List ℕ → Read
play_read bs e w = reads_from (view_of (opened body.Play None) bs e) w 1

abbrev flag : Bool → ℕ
flag b = cond b 1 0

-- the checksum of a Play body, and whether the carrier can be used again; 0 where the work buffer is too short
abbrev pub play_sum : List ℕ → Ending → List ℕ → ℕ
play_sum bs e w = cond (nat_le work_length (length w)) (mixed (play_read bs e w).sum (flag (ended (play_read bs e w).standing))) 0

-- what the work buffer then holds
abbrev pub play_buffer : List ℕ → Ending → List ℕ → List ℕ
play_buffer bs e w = cond (nat_le work_length (length w)) (play_read bs e w).buffer w
