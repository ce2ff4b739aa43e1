-- What a list of calls comes to, call by call.
use Rattle.std.specs.Prelude.{ℕ, ◌+◌, ◌||◌, List, [], ◌∷◌, ◌++◌, length, take, drop}
use Rattle.receiver.specs.declared.standings.Standing.{Standing}
use Rattle.receiver.specs.Draws.{laid_over}
use Rattle.receiver.specs.Views.{View, Usage, unused, moved}
use Rattle.receiver.specs.Steps.{stepped, step_standing, step_front, step_usage}
use Rattle.receiver.specs.Passes.{passed, pass_standing, pass_buffer, pass_usage}
use Rattle.calls.specs.declared.replies.Call.{Call}
use Rattle.calls.specs.declared.replies.Call.TheVariants as call
use Rattle.calls.specs.declared.replies.Reply.{Reply}
use Rattle.calls.specs.declared.replies.Reply.TheVariants as reply

-- a call's reply, where it leaves the receiver and the work buffer, and what it used of the carrier
pub record Called : Type 0 where
  pub replied : Reply
  pub standing : Standing
  pub buffer : List ℕ
  pub usage : Usage

-- A call is lent the front of the work buffer w, as long as it says or as there is.
abbrev pub called : View → List ℕ → Call → Called
called v w (call.Step n) =
    record {
      replied = reply.Step (stepped v (length (take n w)));
      standing = step_standing v (length (take n w));
      buffer = laid_over (step_front v (length (take n w))) (take n w) ++ drop n w;
      usage = step_usage v (length (take n w));
    }
called v w (call.Pass n) =
    record {
      replied = reply.Pass (passed v (take n w));
      standing = pass_standing v (take n w);
      buffer = pass_buffer v (take n w) ++ drop n w;
      usage = pass_usage v (take n w);
    }

-- what two calls one behind the other use
abbrev pub together : Usage → Usage → Usage
together one more = record { bytes = one.bytes + more.bytes; told = one.told || more.told }

-- all replies, and what the list leaves
pub record CallsRun : Type 0 where
  pub replies : List Reply
  pub standing : Standing
  pub buffer : List ℕ
  pub usage : Usage

abbrev pub one_more : Called → CallsRun → CallsRun
one_more c rest =
    record {
      replies = c.replied ∷ rest.replies;
      standing = rest.standing;
      buffer = rest.buffer;
      usage = together c.usage rest.usage;
    }

abbrev pub calls_run : View → List ℕ → List Call → CallsRun
calls_run v w [] = record { replies = []; standing = v.standing; buffer = w; usage = unused }
calls_run v w (c ∷ cs) = one_more (called v w c) (calls_run (moved v (called v w c).standing (called v w c).usage.bytes) (called v w c).buffer cs)
