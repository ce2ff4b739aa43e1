-- Where a run of calls stands among the packets, and what one Step moves.
use Rattle.std.proofs.Common.{◌≡◌, ℕ, ◌+◌, ◌-◌, Bool, true, false, cond, not, ◌&&◌, ◌||◌, List, [], ◌∷◌, ◌++◌, take, drop, is_some, Ok, Option, sym, refl, ap, ◌∙◌, arith, drop-drop}
use mathlib.Core.Bool.{and-true, and-false, or-false}
use Rattle.carrier.specs.declared.endings.Ending.{Ending}
use Rattle.packet.specs.declared.wire.Packet.{Packet}
use Rattle.packet.specs.declared.grammar.Position.{Position}
use Rattle.packet.specs.declared.grammar.Judged.{Judged}
use Rattle.packet.specs.Wire.{fixed}
use Rattle.packet.specs.Judging.{judged, in_force_at, behind}
use Rattle.receiver.specs.declared.answers.Answer.{Answer}
use Rattle.receiver.specs.declared.answers.Answer.TheVariants as answer
use Rattle.receiver.specs.declared.standings.Standing.{Standing}
use Rattle.receiver.specs.Draws.{used, front, ran_out}
use Rattle.receiver.specs.Steps.{Settled, steps, headed, reading_used, reading_told, reading_front}
use Rattle.bodies.specs.Layout.{Laid}
use Rattle.bodies.specs.Told.{bytes_of, in_force, told_behind}
use Rattle.bodies.proofs.Accepting.{Stands, stands_next, told_next, bytes_append}
use Rattle.runs.proofs.Reading.{laid_read}
use Rattle.runs.proofs.Running.{reading, left_over}
use Rattle.calls.specs.Order.{faulty, passable, payload_behind, came}
use Rattle.calls.specs.Law.{shown, tells_ending}
use Rattle.calls.proofs.Course.{Over, Stops, Course, packet_step}

-- a receiver that stands for good
record Stays (here : Position) (a : Answer) (s : Standing) (bs : List ℕ) (e : Ending) : Type 0 where
  answers : (steps s bs e).answer ≡ a
  stands : (steps s bs e).standing ≡ s
  uses : reading_used s.progress bs ≡ 0
  tells : reading_told s.progress bs e ≡ false
  lays : reading_front s.progress bs ≡ []
  header : headed s ≡ is_some (in_force_at here) && not (faulty a)

stays : (here : Position) (a : Answer) (s : Standing) (bs : List ℕ) (e : Ending) → Over here a s → Stays here a s bs e
stays here _ _ bs e (Over.ended place entry) = record { answers = refl; stands = refl; uses = refl; tells = refl; lays = refl; header = sym (and-true _) }
stays here _ _ bs e (Over.failed place entry f) = record { answers = refl; stands = refl; uses = refl; tells = refl; lays = refl; header = sym (and-false _) }

module _ (now : Option ℕ) (e : Ending) (body rest : List ℕ) (last : Answer) where
  -- A receiver at s with bs to come, behind the packets done and before the packets todo; or for good, where the last answer was given.
  pub data State : Standing → List ℕ → List Packet → List Packet → Bool → Type 0 where
    reads : (here : Position) (n place : ℕ) (bs : List ℕ) (done todo : List Packet)
        → Stands now done here n place
        → bs ≡ drop (bytes_of done) body
        → Course e rest last here n place todo bs
        → State (reading here n place) bs done todo false
    stays_over : (here : Position) (s : Standing) (bs : List ℕ) (done : List Packet)
        → in_force now done ≡ in_force_at here
        → Over here last s
        → State s bs done [] true

  -- how many bytes were used behind done
  abbrev pub spent : List Packet → Bool → ℕ
  spent done over = bytes_of done + cond over (shown last rest) 0

  abbrev pub has_told : Bool → Bool
  has_told over = over && tells_ending last

  -- s leads to s' by n bytes
  pub record Moves (bs : List ℕ) (done : List Packet) (over : Bool) (s' : Standing) (n : ℕ) (told : Bool) (done' todo' : List Packet) (over' : Bool) : Type 0 where
    pub state : State s' (drop n bs) done' todo' over'
    pub uses : n + spent done over ≡ spent done' over'
    pub tells : has_told over || told ≡ has_told over'

  -- one Step leads on with an answer, and lays bytes over the work buffer
  pub record Turn (s : Standing) (bs : List ℕ) (done : List Packet) (over : Bool) (a : Answer) (laid : List ℕ) (done' todo' : List Packet) (over' : Bool) : Type 0 where
    pub answers : (steps s bs e).answer ≡ a
    pub lays : reading_front s.progress bs ≡ laid
    pub moves : Moves bs done over (steps s bs e).standing (reading_used s.progress bs) (reading_told s.progress bs e) done' todo' over'

  -- the grant of a Pass
  pub granted : (s : Standing) (bs : List ℕ) (done todo : List Packet) (over : Bool) → State s bs done todo over → headed s ≡ passable now last done over
  granted _ _ _ _ _ (State.reads here n place bs done todo stands left course) = ap is_some (sym stands.header) ∙ sym (and-true _)
  granted _ _ _ _ _ (State.stays_over here s bs done header over) = (stays here last s bs e over).header ∙ ap (λ (x : Option ℕ). is_some x && not (faulty last)) (sym header)

  -- the Step over a packet
  module _ (here : Position) (n place : ℕ) (done todo : List Packet) (p : Packet) (payload ws r : List ℕ) (stands : Stands now done here n place) (left : ws ++ r ≡ drop (bytes_of done) body) (laid : Laid p payload ws) (j : Judged) (ok : judged p here n ≡ Ok j) (course : Course e rest last j.next j.entry (behind place p.length) todo r) where
    -- what is to come behind the packet
    left_behind : r ≡ drop (bytes_of (done ++ (p ∷ []))) body
    left_behind =
        let size = (laid_read p payload ws laid).size in
        let uses = (laid_read p payload ws laid).used_whole r in
        let both = bytes_append done (p ∷ []) in
        sym (left_over p payload ws laid r) ∙ ap (drop (used (ws ++ r))) left ∙ drop-drop (used (ws ++ r)) (bytes_of done) body ∙ ap (λ (x : ℕ). drop x body) (omega arith)

    next : State (steps (reading here n place) (ws ++ r) e).standing (drop (used (ws ++ r)) (ws ++ r)) (done ++ (p ∷ [])) todo false
    next =
        let state : State (reading j.next j.entry (behind place p.length)) r (done ++ (p ∷ [])) todo false = State.reads j.next j.entry (behind place p.length) r (done ++ (p ∷ [])) todo (stands_next stands p j ok) left_behind course in
        rw (packet_step p payload ws r laid here n place e j ok, left_over p payload ws laid r) state

    packet_turn_at : Turn (reading here n place) (ws ++ r) done false (answer.Event (told_behind now done p)) (payload_behind body done p) (done ++ (p ∷ [])) todo false
    packet_turn_at =
        let read = laid_read p payload ws laid in
        let uses = read.used_whole r in
        let size = read.size in
        let both = bytes_append done (p ∷ []) in
        record {
          answers = ap (λ (x : Settled). x.answer) (packet_step p payload ws r laid here n place e j ok) ∙ ap answer.Event (sym (told_next stands p j ok));
          lays = read.front_whole r ∙ ap (λ (x : List ℕ). take (p.length - fixed p.kind) (drop (fixed p.kind) (drop 4 x))) left;
          moves = record { state = next; uses = omega arith; tells = ap ran_out (read.drawn_whole r e) };
        }

  pub packet_turn : (s : Standing) (bs : List ℕ) (done todo : List Packet) (over : Bool) (p : Packet) → State s bs done (p ∷ todo) over → (over ≡ false) × Turn s bs done over (answer.Event (told_behind now done p)) (payload_behind body done p) (done ++ (p ∷ [])) todo false
  packet_turn _ _ _ todo _ p (State.reads here n place bs done _ stands left (payload, ws, r, laid, is, (j, ok, course))) =
      (refl, rw is (packet_turn_at here n place done todo p payload ws r stands (sym is ∙ left) laid j ok course))

  -- the Step behind the packets
  stop_turn : (here : Position) (n place : ℕ) (done : List Packet) → Stands now done here n place → Stops here n place rest e last → Turn (reading here n place) rest done false last (front rest) done [] true
  stop_turn here n place done stands stops =
      let settles = stops.settles in
      let shows : used rest ≡ shown last rest = settles.uses ∙ ap (λ (x : Answer). shown x rest) stops.answers in
      record {
        answers = stops.answers;
        lays = refl;
        moves = record {
          state = State.stays_over here _ _ done stands.header (rw stops.answers at settles.over);
          uses = omega arith;
          tells = settles.tells ∙ ap tells_ending stops.answers;
        };
      }

  pub last_turn : (s : Standing) (bs : List ℕ) (done : List Packet) (over : Bool) → State s bs done [] over → Turn s bs done over last (came over rest) done [] true
  last_turn _ _ _ _ (State.reads here n place bs done _ stands left (is, stops)) =
      rw is (stop_turn here n place done stands stops)
  last_turn _ _ _ _ (State.stays_over here s bs done header over) =
      let keeps = stays here last s bs e over in
      record {
        answers = keeps.answers;
        lays = keeps.lays;
        moves = record {
          state = State.stays_over here _ _ done header (rw keeps.stands over);
          uses = omega (arith, keeps.uses);
          tells = ap (λ (x : Bool). has_told true || x) keeps.tells ∙ or-false _;
        };
      }
