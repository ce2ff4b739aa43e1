-- A Pass, one Step at a time.
use Rattle.std.proofs.Common.{◌≡◌, ◌≢◌, ℕ, zero, suc, ◌+◌, ◌<◌, false, List, length, drop, Some, None, Option, sym, refl, ap, ◌∙◌, arith, length-drop}
use Rattle.carrier.specs.declared.endings.Ending.{Ending}
use Rattle.carrier.specs.declared.Carrier.{Ghosts}
use Rattle.carrier.specs.Pulls.{Adds}
use Rattle.packet.specs.declared.grammar.Event.{Event}
use Rattle.packet.specs.Judging.{stopped}
use Rattle.receiver.specs.declared.answers.Answer.{Answer}
use Rattle.receiver.specs.declared.answers.Answer.TheVariants as answer
use Rattle.receiver.specs.declared.answers.Counted.{Counted}
use Rattle.receiver.specs.declared.receiving.Receiver.{Receiver}
use Rattle.receiver.specs.declared.standings.Standing.{Standing}
use Rattle.receiver.specs.Draws.{used, laid_over}
use Rattle.receiver.specs.Steps.{steps, advanced, reading_used, reading_told, reading_front, advance_usage}
use Rattle.receiver.specs.Views.{view, Moved}
use Rattle.receiver.specs.Passes.{counts, passing, passes_from, by_count, stopping, PassRun}
use Rattle.receiver.proofs.Fronts.{next}
use Rattle.receiver.proofs.Uses.{event_uses, event_reads}

-- what counts as a data packet is an event
event_counts : (a : Answer) → counts a ≢ None → (ev : Event) × (a ≡ answer.Event ev)
event_counts a so = grind arith

-- and uses at least four bytes
pub data_uses : (s : Standing) (bs : List ℕ) (e : Ending) → counts (steps s bs e).answer ≢ None → length (drop (used bs) bs) < length bs
data_uses s bs e so =
    let (ev, is) = event_counts _ so in
    let u = event_uses s bs e ev is in
    omega (arith, length-drop (used bs) bs)

-- runs that are the same behind data packets are the same
same_by : (c : Option Counted) (x y z x' y' : PassRun) → (c ≢ None → x ≡ x') → (c ≢ None → y ≡ y') → by_count c x y z ≡ by_count c x' y' z
same_by c x y z x' y' h i = grind arith

-- with enough Steps allowed, their number does not count
passing_enough : (k m : ℕ) (s : Standing) (bs : List ℕ) (e : Ending) (w : List ℕ) (d t u : ℕ) → length bs < k → length bs < m → passing k s bs e w d t u ≡ passing m s bs e w d t u
passing_enough zero m s bs e w d t u h i = absurd (omega arith)
passing_enough (suc k) zero s bs e w d t u h i = absurd (omega arith)
passing_enough (suc k) (suc m) s bs e w d t u h i =
    let more : (d' t' : ℕ) → counts (steps s bs e).answer ≢ None → next k s bs e w d' t' u ≡ next m s bs e w d' t' u =
    λ d' t' so.
    let less = data_uses s bs e so in
    passing_enough k m (steps s bs e).standing (drop (used bs) bs) e (laid_over (reading_front s.progress bs) w) d' t' (u + reading_used s.progress bs) (omega arith) (omega arith) in
    same_by _ _ _ (stopping s bs e w d t u) _ _ (more (stopped (d + 1)) t) (more d (stopped (t + 1)))

-- t is the receiver r, whose carrier gave u bytes and has not told its ending
abbrev Gave : {C : Type 0} → Ghosts C → Receiver C → ℕ → Receiver C → Type 0
Gave m r u t = Moved m r t.standing (record { bytes = u; told = false }) t

-- A Pass from the receiver r₀, which comes to total, is on its way: it has come to r, with the work buffer w, after it delivered n data packets and passed k stale ones.
abbrev pub OnTheWay : {C : Type 0} → Ghosts C → Receiver C → PassRun → Receiver C → List ℕ → ℕ → ℕ → Type 0
OnTheWay m r₀ total r w n k = (u : ℕ) × Gave m r₀ u r × (passes_from r.standing (m.coming r.carrier) (m.ending r.carrier) w n k u ≡ total)

-- one Step of a Pass leads from the receiver r to t
module _ {C : Type 0} (m : Ghosts C) (adds : Adds m.coming m.ending m.lacks) {r t : Receiver C} (to : Moved m r (advanced (view m r)).standing (advance_usage (view m r)) t) where
  abbrev s : Standing
  s = r.standing

  abbrev bs : List ℕ
  bs = m.coming r.carrier

  abbrev e : Ending
  e = m.ending r.carrier

  -- at a data packet
  module _ {c : Counted} (is : counts (steps s bs e).answer ≡ Some c) where
    is_data : counts (steps s bs e).answer ≢ None
    is_data none = absurd (cc)

    reads : (reading_used s.progress bs ≡ used bs) × (reading_told s.progress bs e ≡ false)
    reads = let (ev, told) = event_counts _ is_data in event_reads s bs e ev told

    left : m.coming t.carrier ≡ drop (used bs) bs
    left = (adds.spends r.carrier t.carrier _ _ to.lacks).1 ∙ rw reads.0

    pub fewer : length (m.coming t.carrier) < length bs
    fewer = rw left (data_uses s bs e is_data)

  -- the Step finds the work buffer w and leaves x
  module _ (r₀ : Receiver C) (total : PassRun) (w x : List ℕ) (n k : ℕ) (so_far : OnTheWay m r₀ total r w n k) (lies : x ≡ laid_over (reading_front s.progress bs) w) where
    abbrev u : ℕ
    u = so_far.0

    -- what comes where the answer counts as c
    abbrev behind : Option Counted → PassRun
    behind c = by_count c (next (length bs) s bs e w (stopped (n + 1)) k u) (next (length bs) s bs e w n (stopped (k + 1)) u) (stopping s bs e w n k u)

    lacked : m.lacks r₀.carrier (u + reading_used s.progress bs) (reading_told s.progress bs e) t.carrier
    lacked = adds.joined r₀.carrier r.carrier t.carrier u _ false _ so_far.1.lacks to.lacks

    -- at a data packet the Pass goes on
    pub goes_on : (c : Counted) → counts (steps s bs e).answer ≡ Some c → (n' k' : ℕ) → next (length bs) s bs e w n' k' u ≡ behind (Some c) → OnTheWay m r₀ total t x n' k'
    goes_on c is n' k' on =
        let less = fewer is in
        let ends = adds.ends r.carrier t.carrier _ _ to.lacks in (
          u + reading_used s.progress bs,
          record { standing = refl; number = to.number ∙ so_far.1.number; lacks = rw (reads is).1 at lacked },
          passing_enough (suc (length (m.coming t.carrier))) (length bs) t.standing _ _ x n' k' _ (omega arith) less ∙ rw (to.standing, left is, ends, lies) (on ∙ sym (ap behind is) ∙ so_far.2),
        )

    -- and at anything else it ends
    pub stops : counts (steps s bs e).answer ≡ None → Moved m r₀ total.standing total.usage t
    stops is =
        let stop : total ≡ stopping s bs e w n k u = sym so_far.2 ∙ ap behind is in
        rw stop (record { standing = to.standing; number = to.number ∙ so_far.1.number; lacks = lacked })
