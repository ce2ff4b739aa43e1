-- Steps over packets, one by one.
use Rattle.std.proofs.Common.{◌≡◌, ℕ, suc, ◌+◌, ◌-◌, ◌≤◌, true, List, [], ◌∷◌, ◌++◌, map, length, drop, Ok, Err, Option, sym, refl, ap, ◌∙◌, append_assoc, suc-add, zero-add, arith, length-append}
use lib.Seq.{drop-append_seam}
use Rattle.carrier.specs.declared.endings.Ending.{Ending}
use Rattle.carrier.specs.declared.endings.Ending.TheVariants as ending
use Rattle.packet.specs.declared.wire.Packet.{Packet}
use Rattle.packet.specs.declared.grammar.BodyKind.{BodyKind}
use Rattle.packet.specs.declared.grammar.Position.{Position}
use Rattle.packet.specs.declared.grammar.Judged.{Judged}
use Rattle.packet.specs.declared.grammar.PacketFault.{PacketFault}
use Rattle.packet.specs.Judging.{judged, starts, ends, behind, stopped, event}
use Rattle.receiver.specs.declared.answers.Answer.TheVariants as answer
use Rattle.receiver.specs.declared.answers.StepFault.TheVariants as step_fault
use Rattle.receiver.specs.declared.standings.Progress.TheVariants as progress
use Rattle.receiver.specs.declared.standings.Standing.{Standing}
use Rattle.receiver.specs.Draws.{used}
use Rattle.receiver.specs.Steps.{steps, settles_packet, failure}
use Rattle.bodies.specs.Layout.{Laid}
use Rattle.bodies.specs.Told.{bytes_of, events_behind, events, Reached}
use Rattle.bodies.proofs.Accepting.{Stands, stands_first, stands_next, told_next}
use Rattle.bodies.proofs.Reaching.{arrives}
use Rattle.runs.specs.Answers.{run, answers}
use Rattle.runs.specs.Bytes.{Bytes}
use Rattle.runs.proofs.Reading.{laid_read}

-- where a receiver that reads on stands
abbrev pub reading : Position → ℕ → ℕ → Standing
reading here entry place = record { place = place; entry = entry; progress = progress.Reading here }

-- a Step over the bytes of a packet: it answers by the judgement of the packet, and leaves what is behind it
module _ (p : Packet) (payload ws : List ℕ) (laid : Laid p payload ws) where
  -- what is behind the packet is left
  pub left_over : (r : List ℕ) → drop (used (ws ++ r)) (ws ++ r) ≡ r
  left_over r = rw ((laid_read p payload ws laid).used_whole r, drop-append_seam ws r)

  module _ (here : Position) (entry place : ℕ) (r : List ℕ) (e : Ending) where
    -- the Step answers by the judgement
    pub steps_over : steps (reading here entry place) (ws ++ r) e ≡ settles_packet (reading here entry place) p (judged p here entry)
    steps_over = rw ((laid_read p payload ws laid).drawn_whole r e, (laid_read p payload ws laid).right)

    -- a run goes on behind an allowed packet, and ends at any other
    pub run_over : (k : ℕ) (j : Judged)
        → judged p here entry ≡ Ok j
        → run (suc k) (reading here entry place) (ws ++ r) e ≡ answer.Event (event p place j) ∷ run k (reading j.next j.entry (behind place p.length)) r e
    run_over k j ok = rw (steps_over, ok, left_over r)

    pub run_fails : (k : ℕ) (f : PacketFault) → judged p here entry ≡ Err f → run (suc k) (reading here entry place) (ws ++ r) e ≡ answer.Failed (failure (step_fault.Packet f) place) ∷ []
    run_fails k f bad = rw (steps_over, bad)

-- the Step behind the last byte, where a body may end
pub run_ends : (k : ℕ) (here : Position) (entry place : ℕ)
    → ends here ≡ true
    → run (suc k) (reading here entry place) [] ending.Clean ≡ answer.End (stopped (place + 0)) ∷ []
run_ends k here entry place done = rw done

-- how long bytes are, and how many packets at most
bytes_long : (ps : List Packet) (qs : List ℕ) → Bytes ps qs → length qs ≡ bytes_of ps
bytes_long [] qs none = ap length none
bytes_long (p ∷ ps) qs (payload, ws, rest, laid, is, bytes) =
    omega (arith, ap length is, length-append ws rest, (laid_read p payload ws laid).size, bytes_long ps rest bytes)

few_packets : (ps : List Packet) → length ps ≤ bytes_of ps
few_packets [] = omega arith
few_packets (p ∷ ps) = omega (arith, few_packets ps)

-- a run over packets that are allowed one after another answers their events, and goes on behind them
run_reached : (ps : List Packet) {now : Option ℕ} {before : List Packet} {from : Position} {entry place : ℕ} (qs x : List ℕ) (e : Ending) (here : Position) (n place' k : ℕ)
    → Stands now before from entry place
    → Reached from entry place ps here n place'
    → Bytes ps qs
    → run (length ps + k) (reading from entry place) (qs ++ x) e ≡ map answer.Event (events_behind now before ps) ++ run k (reading here n place') x e
run_reached [] qs x e here n place' k stands (same, count, reached) none = rw (zero-add, none, same, count, reached) refl
run_reached (p ∷ ps) {from = from} {entry} {place} qs x e here n place' k stands (j, ok, more) (payload, ws, rest, laid, is, bytes) =
    rw (is, append_assoc, suc-add)
    (cc (run_over p payload ws laid from entry place (rest ++ x) e (length ps + k) j ok, told_next stands p j ok, run_reached ps rest x e here n place' k (stands_next stands p j ok) more bytes))

-- the same from where a body begins: at least one more Step is then left, at the place behind those bytes
pub answers_behind : (b : BodyKind) (before : Option ℕ) (ps : List Packet) (qs x : List ℕ) (e : Ending) (here : Position) (n place : ℕ)
    → Reached (starts b before) 0 0 ps here n place
    → Bytes ps qs
    → (place ≡ stopped (length qs)) × (answers b before (qs ++ x) e ≡ map answer.Event (events b before ps) ++ run (suc (length (qs ++ x) - length ps)) (reading here n place) x e)
answers_behind b before ps qs x e here n place way bytes =
    let long = bytes_long ps qs bytes in
    let few = few_packets ps in
    let fuel : suc (length (qs ++ x)) ≡ length ps + suc (length (qs ++ x) - length ps) = omega (arith, length-append qs x) in (
      sym (arrives ps here n place (stands_first b before) way).stands.reached ∙ ap stopped (sym long),
      ap (λ m. run m (reading (starts b before) 0 0) (qs ++ x) e) fuel
          ∙ run_reached ps qs x e here n place (suc (length (qs ++ x) - length ps)) (stands_first b before) way bytes,
    )
