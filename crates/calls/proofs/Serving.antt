-- A call is refused for a short buffer by the length that the work buffer had before the first call.
use Rattle.std.proofs.Common.{◌≡◌, ℕ, ◌≤◌, min, nat_lt, Bool, true, false, List, [], ◌∷◌, ◌++◌, length, take, drop, Option, refl, arith, length-append, length-take, length-drop}
use Rattle.packet.specs.declared.wire.Packet.{Packet}
use Rattle.receiver.specs.declared.answers.Answer.{Answer}
use Rattle.receiver.specs.Draws.{laid_over}
use Rattle.receiver.specs.Steps.{work_length}
use Rattle.receiver.proofs.Fronts.{laid_grows}
use Rattle.calls.specs.declared.replies.Call.{Call}
use Rattle.calls.specs.declared.replies.Reply.{Reply}
use Rattle.calls.specs.Order.{Told, Enough, TooFew, ShortRefused, payload_behind, laid_behind, came, lent}

-- the buffer w is as good for every call as one of size bytes
abbrev pub Serves : ℕ → List ℕ → Type 0
Serves size w = min (length w) work_length ≡ min size work_length

module _ (size n : ℕ) (w : List ℕ) (serves : Serves size w) where
  enough : Enough n w → false ≡ nat_lt (min n size) work_length
  enough long = let front = length-take n w in grind arith

  too_few : TooFew n w → true ≡ nat_lt (min n size) work_length
  too_few short = let front = length-take n w in grind arith

  -- and stays so where a call that is lent enough lays bytes over what it is lent
  still_serves : (f : List ℕ → List ℕ) → Enough n w → length (take n w) ≤ length (f (take n w)) → Serves size (lent n f w)
  still_serves f long grows =
      let all = length-append (f (take n w)) (drop n w) in
      let front = length-take n w in
      let behind = length-drop n w in
      omega arith

laid_behind_grows : (body : List ℕ) (before ps : List Packet) (w : List ℕ) → length w ≤ length (laid_behind body before ps w)
laid_behind_grows body before [] w = omega arith
laid_behind_grows body before (p ∷ ps) w =
    let first = laid_grows (payload_behind body before p) w in
    let more = laid_behind_grows body (before ++ (p ∷ [])) ps (laid_over (payload_behind body before p) w) in
    omega arith

module _ (now : Option ℕ) (last : Answer) (body rest : List ℕ) where
  pub short_refused : {done todo read : List Packet} {over ended : Bool} {w x : List ℕ} {cs : List Call} {rs : List Reply} (size : ℕ) → Serves size w → Told now last body rest done todo over w cs rs read ended x → ShortRefused size cs rs
  short_refused size serves Told.nothing_called = refl
  short_refused {w} size serves (Told.step_refused {n} few more) = (too_few size n w serves few, short_refused size serves more)
  short_refused {done} {w} size serves (Told.packet_told {n} {p} long more) =
      let grows = laid_grows (payload_behind body done p) (take n w) in
      (enough size n w serves long, short_refused size (still_serves size n w serves (laid_over (payload_behind body done p)) long grows) more)
  short_refused {over} {w} size serves (Told.last_told {n} long more) =
      let grows = laid_grows (came over rest) (take n w) in
      (enough size n w serves long, short_refused size (still_serves size n w serves (laid_over (came over rest)) long grows) more)
  short_refused {w} size serves (Told.pass_refused {n} few more) = (too_few size n w serves few, short_refused size serves more)
  short_refused {w} size serves (Told.pass_without_header {n} long without more) = (enough size n w serves long, short_refused size serves more)
  short_refused {done} {w} size serves (Told.passed_to_packet {n} passed left p long may split payloads other more) =
      let grows = laid_behind_grows body done (passed ++ (p ∷ [])) (take n w) in
      (enough size n w serves long, short_refused size (still_serves size n w serves (laid_behind body done (passed ++ (p ∷ []))) long grows) more)
  short_refused {done} {todo} {over} {w} size serves (Told.passed_to_last {n} long may payloads more) =
      let first = laid_behind_grows body done todo (take n w) in
      let then = laid_grows (came over rest) (laid_behind body done todo (take n w)) in
      (enough size n w serves long, short_refused size (still_serves size n w serves (λ v. laid_over (came over rest) (laid_behind body done todo v)) long (omega arith)) more)
