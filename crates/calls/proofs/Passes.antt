-- What a Pass goes over.
use Rattle.std.proofs.Common.{◌≡◌, ℕ, zero, suc, ◌+◌, ◌<◌, Bool, true, false, cond, ◌||◌, eqb, ◌⊎◌, List, [], ◌∷◌, ◌++◌, length, drop, Some, None, Option, sym, refl, ap, ◌∙◌, inl, inr, append_assoc, append-nil, arith, length-drop, drop-drop}
use mathlib.Core.Bool.{or_assoc}
use Rattle.carrier.specs.declared.endings.Ending.{Ending}
use Rattle.packet.specs.declared.wire.Kind.{Kind}
use Rattle.packet.specs.declared.wire.Kind.TheVariants as kind
use Rattle.packet.specs.declared.wire.Packet.{Packet}
use Rattle.packet.specs.Judging.{stopped}
use Rattle.receiver.specs.declared.answers.Answer.{Answer}
use Rattle.receiver.specs.declared.answers.Answer.TheVariants as answer
use Rattle.receiver.specs.declared.answers.Counted.{Counted}
use Rattle.receiver.specs.declared.answers.Counted.TheVariants as counted
use Rattle.receiver.specs.declared.standings.Standing.{Standing}
use Rattle.receiver.specs.Draws.{used, laid_over}
use Rattle.receiver.specs.Steps.{steps, reading_used, reading_front}
use Rattle.receiver.specs.Passes.{PassRun, counts, passing, by_count, stopping}
use Rattle.receiver.proofs.Uses.{event_uses, event_reads}
use Rattle.bodies.specs.Told.{in_force, in_force_behind, told_behind}
use Rattle.bodies.proofs.Accepting.{in_force_next}
use Rattle.calls.specs.Order.{IsLast, Data, AllData, has, having, lacking, payload_behind, laid_behind, came}
use Rattle.calls.proofs.Moving.{State, Moves, Turn, has_told, packet_turn, last_turn}

-- the last answer ends a Pass
last_counts : (a : Answer) → IsLast a → counts a ≡ None
last_counts (answer.Event e) none = absurd none
last_counts (answer.End place) last = refl
last_counts (answer.Failed f) last = refl

-- a data packet counts by its Incarnation, and any other packet ends a Pass
module _ (now : Option ℕ) (done : List Packet) (p : Packet) where
  abbrev counts_as : Option Counted
  counts_as = counts (answer.Event (told_behind now done p))

  data_counts : (i : Option ℕ) → in_force now done ≡ i → Data p → counts_as ≡ Some (cond (has i p) counted.Delivered counted.Stale)
  data_counts None is so = rw (so, is) refl
  data_counts (Some of) is so = go (eqb p.fields.incarnation of) refl
    where
      go : (b : Bool) → eqb p.fields.incarnation of ≡ b → counts_as ≡ Some (cond (eqb p.fields.incarnation of) counted.Delivered counted.Stale)
      go true same = rw (so, is, same) refl
      go false same = rw (so, is, same) refl

  other_counts : (k : Kind) → p.kind ≡ k → Data p ⊎ ((Data p → ⊥) × (counts_as ≡ None))
  other_counts kind.StreamChange is = inr ((λ so. cc), rw is refl)
  other_counts kind.Data is = inl is
  other_counts kind.EndOfStream is = inr ((λ so. cc), rw is refl)
  other_counts kind.Header is = inr ((λ so. cc), rw is refl)
  other_counts kind.Metadata is = inr ((λ so. cc), rw is refl)
  other_counts kind.PacketPair is = inr ((λ so. cc), rw is refl)

-- where a Pass over the packets todo behind done ends, at a packet or at the last answer, and what it makes of the buffer w
pub data EndsPass (now : Option ℕ) (last : Answer) (body rest : List ℕ) (done todo : List Packet) (over : Bool) (w : List ℕ) : (passed : List Packet) → Answer → (done' todo' : List Packet) (over' : Bool) (x : List ℕ) → Type 0 where
  at_packet : (passed left past : List Packet) (p : Packet) (x : List ℕ)
      → past ≡ done ++ passed
      → todo ≡ passed ++ (p ∷ left)
      → AllData passed
      → (Data p → ⊥)
      → x ≡ laid_behind body done (passed ++ (p ∷ [])) w
      → EndsPass now last body rest done todo over w passed (answer.Event (told_behind now past p)) (past ++ (p ∷ [])) left false x
  at_last : (past : List Packet) (x : List ℕ)
      → past ≡ done ++ todo
      → AllData todo
      → x ≡ laid_over (came over rest) (laid_behind body done todo w)
      → EndsPass now last body rest done todo over w todo last past [] true x

-- a Pass behind a data packet, whose payload was laid over w
past_data : (now : Option ℕ) (last : Answer) (body rest : List ℕ) (done todo passed : List Packet) (p : Packet) (over : Bool) (w v : List ℕ) (a : Answer) (done' todo' : List Packet) (over' : Bool) (x : List ℕ)
    → Data p
    → over ≡ false
    → v ≡ laid_over (payload_behind body done p) w
    → EndsPass now last body rest (done ++ (p ∷ [])) todo false v passed a done' todo' over' x
    → EndsPass now last body rest done (p ∷ todo) over w (p ∷ passed) a done' todo' over' x
past_data now last body rest done todo _ p over w v _ _ _ _ _ so new lies (EndsPass.at_packet passed left past q x is split all other laid) =
    EndsPass.at_packet (p ∷ passed) left past q x (is ∙ append_assoc done (p ∷ []) passed) (rw split) (so, all) other (rw (laid, lies))
past_data now last body rest done todo _ p over w v _ _ _ _ _ so new lies (EndsPass.at_last past x is all laid) =
    EndsPass.at_last past x (is ∙ append_assoc done (p ∷ []) todo) (so, all) (rw (laid, lies, new))

-- whether the ending was told, by one move and the next
pub tells_on : (a b c d f : Bool) → a || b ≡ d → d || c ≡ f → a || (b || c) ≡ f
tells_on a b c d f one two = sym (or_assoc a b c) ∙ ap (λ (x : Bool). x || c) one ∙ two

module _ (now : Option ℕ) (e : Ending) (body rest : List ℕ) (last : Answer) where
  -- one move and the next
  pub moves_on : (bs : List ℕ) (done : List Packet) (over : Bool) (s s' : Standing) (n m : ℕ) (told told' : Bool) (done' todo' : List Packet) (over' : Bool) (done'' todo'' : List Packet) (over'' : Bool)
      → Moves now e body rest last bs done over s n told done' todo' over'
      → Moves now e body rest last (drop n bs) done' over' s' m told' done'' todo'' over''
      → Moves now e body rest last bs done over s' (n + m) (told || told') done'' todo'' over''
  moves_on bs done over s s' n m told told' done' todo' over' done'' todo'' over'' one two =
      let first = one.uses in
      let second = two.uses in
      record {
        state = rw drop-drop at two.state;
        uses = omega arith;
        tells = tells_on (has_told now e body rest last over) told told' (has_told now e body rest last over') (has_told now e body rest last over'') one.tells two.tells;
      }

  -- what a Pass comes to, once d data packets were delivered, t were stale and u bytes used; i is the header in force
  pub record PassEnds (i : Option ℕ) (bs : List ℕ) (done todo : List Packet) (over : Bool) (w : List ℕ) (d t u : ℕ) (run : PassRun) : Type 0 where
    pub passed : List Packet
    pub answered : Answer
    pub done' : List Packet
    pub todo' : List Packet
    pub over' : Bool
    pub spends : ℕ
    pub ends : EndsPass now last body rest done todo over w passed answered done' todo' over' run.buffer
    pub tells : run.passed ≡ record { answer = answered; delivered = stopped (d + having i passed); stale = stopped (t + lacking i passed) }
    pub uses : run.usage.bytes ≡ u + spends
    pub moves : Moves now e body rest last bs done over run.standing spends run.usage.told done' todo' over'

  module _ (i : Option ℕ) (s : Standing) (bs : List ℕ) (done : List Packet) (over : Bool) (w : List ℕ) (d t u : ℕ) (d_stopped : stopped d ≡ d) (t_stopped : stopped t ≡ t) where
    -- a Step that ends the Pass
    stops_pass : (todo : List Packet) (a : Answer) (laid : List ℕ) (done' todo' : List Packet) (over' : Bool)
        → EndsPass now last body rest done todo over w [] a done' todo' over' (laid_over (reading_front s.progress bs) w)
        → Turn now e body rest last s bs done over a laid done' todo' over'
        → PassEnds i bs done todo over w d t u (stopping s bs e w d t u)
    stops_pass todo a laid done' todo' over' ends turn =
        let d_is : d ≡ stopped (d + 0) = omega arith in
        let t_is : t ≡ stopped (t + 0) = omega arith in
        record {
          passed = [];
          answered = a;
          done' = done';
          todo' = todo';
          over' = over';
          spends = reading_used s.progress bs;
          ends = ends;
          tells = λ x. record { answer = turn.answers x; delivered = d_is x; stale = t_is x };
          uses = refl;
          moves = turn.moves;
        }

    abbrev left : List ℕ
    left = drop (used bs) bs

    abbrev goes : ℕ → ℕ → ℕ → PassRun
    goes k d' t' = passing k (steps s bs e).standing left e (laid_over (reading_front s.progress bs) w) d' t' (u + reading_used s.progress bs)

    -- a Step over a data packet
    goes_over : (p : Packet) (todo : List Packet) (run : PassRun) (d' t' : ℕ)
        → Data p
        → over ≡ false
        → stopped (d + cond (has i p) 1 0) ≡ d'
        → stopped (t + cond (has i p) 0 1) ≡ t'
        → Turn now e body rest last s bs done over (answer.Event (told_behind now done p)) (payload_behind body done p) (done ++ (p ∷ [])) todo false
        → PassEnds i left (done ++ (p ∷ [])) todo false (laid_over (reading_front s.progress bs) w) d' t' (u + reading_used s.progress bs) run
        → PassEnds i bs done (p ∷ todo) over w d t u run
    goes_over p todo run d' t' so new d_is t_is turn more =
        let (reads, tells) = event_reads s bs e (told_behind now done p) turn.answers in
        let one : Moves now e body rest last bs done over (steps s bs e).standing (used bs) false (done ++ (p ∷ [])) todo false = rw (reads, tells) at turn.moves in
        let delivered : stopped (d' + having i more.passed) ≡ stopped (d + having i (p ∷ more.passed)) = omega arith in
        let stale : stopped (t' + lacking i more.passed) ≡ stopped (t + lacking i (p ∷ more.passed)) = omega arith in
        let used_up = more.uses in
        record {
          passed = p ∷ more.passed;
          answered = more.answered;
          done' = more.done';
          todo' = more.todo';
          over' = more.over';
          spends = used bs + more.spends;
          ends = past_data now last body rest done todo more.passed p over w (laid_over (reading_front s.progress bs) w) more.answered more.done' more.todo' more.over' run.buffer so new (ap (λ (y : List ℕ). laid_over y w) turn.lays) more.ends;
          tells = more.tells ∙ (λ x. record { answer = more.answered; delivered = delivered x; stale = stale x });
          uses = omega arith;
          moves = moves_on bs done over _ _ (used bs) more.spends false run.usage.told (done ++ (p ∷ [])) todo false more.done' more.todo' more.over' one more.moves;
        }

    -- the count of a Step decides
    by_step : (k : ℕ) (todo : List Packet) (c : Option Counted)
        → counts (steps s bs e).answer ≡ c
        → PassEnds i bs done todo over w d t u (by_count c (goes k (stopped (d + 1)) t) (goes k d (stopped (t + 1))) (stopping s bs e w d t u))
        → PassEnds i bs done todo over w d t u (passing (suc k) s bs e w d t u)
    by_step k todo c is ends = rw is ends

    -- a data packet is delivered or stale
    data_turn : (k : ℕ) (p : Packet) (todo : List Packet)
        → Data p
        → over ≡ false
        → in_force now done ≡ i
        → Turn now e body rest last s bs done over (answer.Event (told_behind now done p)) (payload_behind body done p) (done ++ (p ∷ [])) todo false
        → ((d' t' : ℕ) → stopped d' ≡ d' → stopped t' ≡ t' → PassEnds i left (done ++ (p ∷ [])) todo false (laid_over (reading_front s.progress bs) w) d' t' (u + reading_used s.progress bs) (goes k d' t'))
        → PassEnds i bs done (p ∷ todo) over w d t u (passing (suc k) s bs e w d t u)
    data_turn k p todo so new header turn more = go (has i p) refl
      where
        counted_as : (b : Bool) → has i p ≡ b → counts (steps s bs e).answer ≡ Some (cond b counted.Delivered counted.Stale)
        counted_as b is = ap counts turn.answers ∙ data_counts now done p i header so ∙ ap (λ (x : Bool). Some (cond x counted.Delivered counted.Stale)) is

        go : (b : Bool) → has i p ≡ b → PassEnds i bs done (p ∷ todo) over w d t u (passing (suc k) s bs e w d t u)
        go true is =
            by_step k (p ∷ todo) (Some counted.Delivered) (counted_as true is)
            (goes_over p todo (goes k (stopped (d + 1)) t) (stopped (d + 1)) t so new (rw is refl) (rw is (omega arith)) turn (more (stopped (d + 1)) t (omega arith) t_stopped))
        go false is =
            by_step k (p ∷ todo) (Some counted.Stale) (counted_as false is)
            (goes_over p todo (goes k d (stopped (t + 1))) d (stopped (t + 1)) so new (rw is (omega arith)) (rw is refl) turn (more d (stopped (t + 1)) d_stopped (omega arith)))

  -- a Pass with enough Steps
  pub pass_ends : (k : ℕ) (todo : List Packet) (i : Option ℕ) (s : Standing) (bs : List ℕ) (done : List Packet) (over : Bool) (w : List ℕ) (d t u : ℕ)
      → stopped d ≡ d
      → stopped t ≡ t
      → in_force now done ≡ i
      → IsLast last
      → length bs < k
      → State now e body rest last s bs done todo over
      → PassEnds i bs done todo over w d t u (passing k s bs e w d t u)
  pass_ends zero todo i s bs done over w d t u d_stopped t_stopped header ends few state = absurd (omega arith)
  pass_ends (suc k) [] i s bs done over w d t u d_stopped t_stopped header ends few state =
      let turn = last_turn now e body rest last s bs done over state in
      by_step i s bs done over w d t u d_stopped t_stopped k [] None (ap counts turn.answers ∙ last_counts last ends)
      (stops_pass i s bs done over w d t u d_stopped t_stopped [] last (came over rest) done [] true (EndsPass.at_last done _ (sym (append-nil done)) tt (ap (λ (y : List ℕ). laid_over y w) turn.lays)) turn)
  pass_ends (suc k) (p ∷ todo) i s bs done over w d t u d_stopped t_stopped header ends few state =
      elim (other_counts now done p p.kind refl) [
        | inl so ↦
            let (reads, tells) = event_reads s bs e (told_behind now done p) turn.answers in
            let used_some = event_uses s bs e (told_behind now done p) turn.answers in
            let less = length-drop (used bs) bs in
            let header' : in_force now (done ++ (p ∷ [])) ≡ i = in_force_next now done p ∙ ap (λ (x : Kind). in_force_behind x p (in_force now done)) so ∙ header in
            let state' : State now e body rest last (steps s bs e).standing (drop (used bs) bs) (done ++ (p ∷ [])) todo false = rw reads at turn.moves.state in
            data_turn i s bs done over w d t u d_stopped t_stopped k p todo so both.0 header turn
            (λ d' t' d'-stopped t'-stopped. pass_ends k todo i (steps s bs e).standing (drop (used bs) bs) (done ++ (p ∷ [])) false _ d' t' _ d'-stopped t'-stopped header' ends (omega arith) state')
        | inr (other, counts-none) ↦
            by_step i s bs done over w d t u d_stopped t_stopped k (p ∷ todo) None (ap counts turn.answers ∙ counts-none)
            (stops_pass i s bs done over w d t u d_stopped t_stopped (p ∷ todo) (answer.Event (told_behind now done p)) (payload_behind body done p) (done ++ (p ∷ [])) todo false (EndsPass.at_packet [] todo done p _ (sym (append-nil done)) refl tt other (ap (λ (y : List ℕ). laid_over y w) turn.lays)) turn)
      ]
    where
      both : (over ≡ false) × Turn now e body rest last s bs done over (answer.Event (told_behind now done p)) (payload_behind body done p) (done ++ (p ∷ [])) todo false
      both = packet_turn now e body rest last s bs done todo over p state

      turn : Turn now e body rest last s bs done over (answer.Event (told_behind now done p)) (payload_behind body done p) (done ++ (p ∷ [])) todo false
      turn = both.1
