-- Reading a body, one Step at a time.
use Rattle.std.proofs.Common.{◌≡◌, ℕ, zero, suc, ◌<◌, ◌≤◌, false, cond, ◌⊎◌, List, length, drop, Ok, Result, sym, refl, ap, ◌∙◌, inl, inr, arith, length-drop}
use Rattle.carrier.specs.declared.Carrier.{Ghosts}
use Rattle.carrier.specs.declared.endings.Ending.{Ending}
use Rattle.carrier.specs.Pulls.{Adds}
use Rattle.packet.specs.declared.grammar.Event.{Event}
use Rattle.receiver.specs.declared.answers.Answer.{Answer}
use Rattle.receiver.specs.declared.answers.Answer.TheVariants as answer
use Rattle.receiver.specs.declared.answers.StepRefusal.{StepRefusal}
use Rattle.receiver.specs.declared.receiving.Receiver.{Receiver}
use Rattle.receiver.specs.declared.standings.Standing.{Standing}
use Rattle.receiver.specs.Draws.{used, laid_over}
use Rattle.receiver.specs.Steps.{work_length, steps, stepped, step_standing, step_front, step_usage, reading_front}
use Rattle.receiver.specs.Views.{view, Moved}
use Rattle.receiver.proofs.Uses.{event_uses}
use Rattle.receiver.proofs.Granted.{SteppedTo, answers, stands, lays, shorter, behind}
use Rattle.exported.specs.Checksums.{mixed_answer}
use Rattle.exported.specs.Reading.{Read, goes_on, one_step, reads, reads_from}

-- what is read behind a Step
abbrev next : ℕ → Standing → List ℕ → Ending → List ℕ → ℕ → Read
next k s bs e w sum = reads k (steps s bs e).standing (drop (used bs) bs) e (laid_over (reading_front s.progress bs) w) (one_step s bs e w sum).sum

-- what is read with a Step that answers a
abbrev reads_on : ℕ → Standing → List ℕ → Ending → List ℕ → ℕ → Answer → Read
reads_on k s bs e w sum a = cond (goes_on a) (next k s bs e w sum) (one_step s bs e w sum)

-- a Step ends the reading, or leaves fewer bytes to come
last_or_fewer : (s : Standing) (bs : List ℕ) (e : Ending) → (goes_on (steps s bs e).answer ≡ false) ⊎ (length (drop (used bs) bs) < length bs)
last_or_fewer s bs e = go (steps s bs e).answer refl
  where
    go : (a : Answer) → (steps s bs e).answer ≡ a → (goes_on a ≡ false) ⊎ (length (drop (used bs) bs) < length bs)
    go (answer.Event ev) is = let u = event_uses s bs e ev is in let l = length-drop (used bs) bs in inr (omega arith)
    go (answer.End place) is = inl refl
    go (answer.Failed f) is = inl refl

-- with enough Steps allowed, their number does not count
reads_enough : (k m : ℕ) (s : Standing) (bs : List ℕ) (e : Ending) (w : List ℕ) (sum : ℕ) → length bs ≤ k → length bs ≤ m → reads k s bs e w sum ≡ reads m s bs e w sum
reads_enough zero zero s bs e w sum h i = refl
reads_enough zero (suc m) s bs e w sum h i = elim (last_or_fewer s bs e) [ inl last ↦ rw last | inr fewer ↦ absurd (omega arith) ]
reads_enough (suc k) zero s bs e w sum h i = elim (last_or_fewer s bs e) [ inl last ↦ rw last | inr fewer ↦ absurd (omega arith) ]
reads_enough (suc k) (suc m) s bs e w sum h i =
    let one = one_step s bs e w sum in
    elim (last_or_fewer s bs e) [
      | inl last ↦ rw last
      | inr fewer ↦ ap (λ y. cond (goes_on (steps s bs e).answer) y one) (reads_enough k m one.standing (drop (used bs) bs) e one.buffer one.sum (omega arith) (omega arith))
    ]

-- a Step that a long enough work buffer grants: its contract's facts
pub granted : {C : Type 0} (m : Ghosts C) (r t : Receiver C) (w x : List ℕ) (a : Answer) → work_length ≤ length w
    → record {
      answer : ◌≡◌ {A = Result Answer StepRefusal} (Ok a) (stepped (view m r) (length w));
      buffer : x ≡ laid_over (step_front (view m r) (length w)) w;
      moved : Moved m r (step_standing (view m r) (length w)) (step_usage (view m r) (length w)) t;
    }
    → SteppedTo m r t w x a
granted m r t w x a long told = record { long = long; told = record { answer = told.answer; moved = told.moved; buffer = told.buffer } }

-- a reading comes to this checksum, this work buffer, and this standing
pub record ComesTo (total : Read) (n : ℕ) (x : List ℕ) (s : Standing) : Type 0 where
  pub sum : n ≡ total.sum
  pub buffer : x ≡ total.buffer
  pub standing : s ≡ total.standing

module _ {C : Type 0} {m : Ghosts C} (adds : Adds m.coming m.ending m.lacks) {r t : Receiver C} {w x : List ℕ} {a : Answer} (to : SteppedTo m r t w x a) where
  -- the bytes that were to come, the ending behind them, and where the receiver stood
  abbrev bs : List ℕ
  bs = m.coming r.carrier

  abbrev e : Ending
  e = m.ending r.carrier

  abbrev s : Standing
  s = r.standing

  -- the answer is b: the checksum is that of one Step
  sums : {b : Answer} → a ≡ b → (sum : ℕ) {n : ℕ} → n ≡ mixed_answer sum b x → n ≡ (one_step s bs e w sum).sum
  sums was sum mixes = mixes ∙ ap (λ y. mixed_answer sum y x) (sym (answers adds to ∙ was)) ∙ ap (mixed_answer sum (steps s bs e).answer) (lays adds to)

  -- one Step more than there are bytes changes nothing
  one_more : (sum : ℕ) → reads_on (length bs) s bs e w sum (steps s bs e).answer ≡ reads_from (view m r) w sum
  one_more sum = reads_enough (suc (length bs)) (length bs) s bs e w sum (omega arith) (omega arith)

  -- an event: reading goes on with its checksum
  module _ {ev : Event} (event : a ≡ answer.Event ev) where
    pub next_reads : (sum : ℕ) {n : ℕ} → n ≡ mixed_answer sum (answer.Event ev) x → reads_from (view m t) x n ≡ reads_from (view m r) w sum
    next_reads sum {n} mixes =
        let one = one_step s bs e w sum in
        let rest = drop (used bs) bs in
        let f = shorter adds to event in
        ap (λ y. reads_from y x n) (behind adds to event)
        ∙ ap (λ y. reads (length rest) one.standing rest e y n) (lays adds to)
        ∙ ap (reads (length rest) one.standing rest e one.buffer) (sums event sum mixes)
        ∙ reads_enough (length rest) (length bs) one.standing rest e one.buffer one.sum (omega arith) (omega arith)
        ∙ sym (ap (reads_on (length bs) s bs e w sum) (answers adds to ∙ event))
        ∙ one_more sum

  -- anything else ends the reading
  pub last_read : {b : Answer} → a ≡ b → goes_on b ≡ false → (sum : ℕ) {n : ℕ} → n ≡ mixed_answer sum b x → {total : Read} → reads_from (view m r) w sum ≡ total → ComesTo total n x t.standing
  last_read was ends sum mixes {total} whole =
      let one = one_step s bs e w sum in
      let stops : one ≡ total = sym (ap (λ y. cond y (next (length bs) s bs e w sum) one) (ap goes_on (answers adds to ∙ was) ∙ ends)) ∙ one_more sum ∙ whole in
      record {
        sum = sums was sum mixes ∙ ap (λ y. y.sum) stops;
        buffer = lays adds to ∙ ap (λ y. y.buffer) stops;
        standing = stands adds to ∙ ap (λ y. y.standing) stops;
      }
