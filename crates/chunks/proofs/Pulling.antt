-- The answers of a Pull, once single bytes were drawn up to data or to the ending.
use Rattle.std.proofs.Common.{◌≡◌, ℕ, zero, suc, ◌+◌, ◌-◌, ◌<◌, ◌≤◌, Bool, true, false, not, List, [], ◌∷◌, ◌++◌, length, take, drop, Ok, Err, Result, sym, refl, ap, ◌∙◌, subst, append_assoc, arith, length-append, take-append-drop, length-take, take-add}
use Rattle.std.proofs.lemmas.List.{take_at, length-take-le, drop-append-le}
use Rattle.std.proofs.lemmas.Bool.{false≢true}
use Rattle.carrier.specs.declared.endings.Ending.{Ending}
use Rattle.carrier.specs.Pulls.{Adds, Answers, Spent, given, told}
use Rattle.chunks.specs.declared.machine.State.{State}
use Rattle.chunks.specs.declared.machine.State.TheVariants as state
use Rattle.chunks.specs.declared.Chunks.{Chunks}
use Rattle.chunks.specs.Machine.{over}
use Rattle.chunks.specs.Decoding.{state_after, data_in, drawn_in, drawn_through, ending_at}
use Rattle.carrier.specs.Passing.{counted}
use Rattle.chunks.specs.Splitting.{behind, state_after_append, split_data, split_through, counted_more}
use Rattle.chunks.specs.Layer.{at_end, data_coming, data_ending, data_lacks, data_adds}
use Rattle.chunks.specs.Drawing.{Quiet, Drew, Advanced}
use Rattle.chunks.proofs.Advancing.{runs_dry}

-- n bytes in a chunk that has as many
in_chunk : (n left : ℕ) (cs : List ℕ) → n ≤ left → n ≤ length cs → (data_in (state.Data left) (take n cs) ≡ take n cs) × (behind (state.Data left) n cs ≡ state.Data (left - n)) × (drawn_through (state.Data left) n cs ≡ n)
in_chunk zero left cs h l = (refl, ap state.Data (omega arith), refl)
in_chunk (suc n) zero cs h l = absurd (omega arith)
in_chunk (suc n) (suc left) [] h l = absurd (omega arith)
in_chunk (suc n) (suc left) (c ∷ cs) h l =
    let rest = in_chunk n left cs (omega arith) (omega arith) in
    let one : suc n - 1 ≡ n = omega arith in
    (ap (λ bs. c ∷ bs) rest.0, rest.1 ∙ ap state.Data (omega arith), ap suc (ap (λ m. drawn_through (state.Data left) m cs) one ∙ rest.2))

-- the front part of a stretch was lent; its first n bytes were written, or none
rejoined : (xs ys w : List ℕ) (n j : ℕ) → n ≤ length (take j w) → ys ≡ xs ++ drop n (take j w) → ys ++ drop j w ≡ xs ++ drop n w
rejoined xs ys w n j fits is = rw (is, append_assoc, ← drop-append-le, take-append-drop) refl

-- n data bytes behind k quiet ones
module _ (at to : State) (bs : List ℕ) (k n left : ℕ) (quiet : Quiet at bs k to) (here : to ≡ state.Data left) (some : 0 < n) (fits : n ≤ left) (there : n ≤ length (drop k bs)) where
  chunk : (data_in to (take n (drop k bs)) ≡ take n (drop k bs)) × (behind to n (drop k bs) ≡ state.Data (left - n)) × (drawn_through to n (drop k bs) ≡ n)
  chunk = subst (λ s. (data_in s (take n (drop k bs)) ≡ take n (drop k bs)) × (behind s n (drop k bs) ≡ state.Data (left - n)) × (drawn_through s n (drop k bs) ≡ n)) (sym here) (in_chunk n left (drop k bs) fits there)

  data_there : data_in at bs ≡ take n (drop k bs) ++ data_in (behind to n (drop k bs)) (drop n (drop k bs))
  data_there =
      split_data at k bs
      ∙ ap (λ l. l ++ data_in (behind at k bs) (drop k bs)) quiet.silent
      ∙ ap (λ s. data_in s (drop k bs)) (sym quiet.leads)
      ∙ split_data to n (drop k bs)
      ∙ ap (λ l. l ++ data_in (behind to n (drop k bs)) (drop n (drop k bs))) chunk.0

  used_there : drawn_through at n bs ≡ k + n
  used_there =
      let m : ℕ = n - 1 in
      let more : n ≡ suc m = omega arith in
      let skipped : n ≡ length (data_in at (take k bs)) + suc m = omega (arith, ap length quiet.silent) in
      ap (λ l. drawn_through at l bs) skipped
      ∙ split_through at k m bs quiet.within
      ∙ ap (λ l. k + drawn_through (behind at k bs) l (drop k bs)) (sym more)
      ∙ ap (λ s. k + drawn_through s n (drop k bs)) (sym quiet.leads)
      ∙ ap (λ l. k + l) chunk.2

  state_there : state.Data (left - n) ≡ behind at (k + n) bs
  state_there =
      sym chunk.1
      ∙ ap (λ s. behind s n (drop k bs)) quiet.leads
      ∙ sym (state_after_append at (take k bs) (take n (drop k bs)))
      ∙ ap (state_after at) (sym (take-add k n bs))

module _ {C : Type 0} {coming : C → List ℕ} {ending : C → Ending} {lacks : C → ℕ → Bool → C → Type 0} (adds : Adds coming ending lacks) (s : Chunks C) where
  -- what a Pull of s owes, into the stretch w
  abbrev pub Owed : List ℕ → Result ℕ Ending → Chunks C → List ℕ → Type 0
  Owed w r t w' = Answers (data_coming coming s) (data_ending coming ending s) w r (data_coming coming t) (data_ending coming ending t) w' × data_lacks coming lacks s (given r) (told r) t

  kept : Adds (data_coming coming) (data_ending coming ending) (data_lacks coming lacks)
  kept = data_adds coming ending lacks adds

  -- n bytes of the chunk were drawn into the front part of the stretch
  pub gave : (m t : Chunks C) (left n : ℕ) (w ys : List ℕ) (j : ℕ) → Advanced coming ending lacks s m (Ok left) → 0 < n → n ≤ left → n ≤ length (coming m.beneath) → lacks m.beneath n false t.beneath → t.state ≡ state.Data (left - n) → t.drawn ≡ counted m.drawn n → n ≤ length (take j w) → ys ≡ take n (coming m.beneath) ++ drop n (take j w) → Owed w (Ok n) t (ys ++ drop j w)
  gave m t left n w ys j adv some fits came low led counts room wrote = ((lacking.0.0, omega (arith, length-take j w), λ h. some, spent.1, kept.ends s t n false lacking, rejoined (take n (coming m.beneath)) ys w n j room wrote ∙ ap (λ l. l ++ drop n w) same), lacking)
    where
      k : ℕ
      k = adv.0

      at : State
      at = s.state

      bs : List ℕ
      bs = coming s.beneath

      cs : List ℕ
      cs = drop k bs

      left_there : coming m.beneath ≡ cs
      left_there = (adds.spends s.beneath m.beneath k false adv.1.lacked).1

      there : n ≤ length cs
      there = subst (λ l. n ≤ length l) left_there came

      front : data_in at bs ≡ take n cs ++ data_in (behind m.state n cs) (drop n cs)
      front = data_there at m.state bs k n left adv.1.quiet adv.2 some fits there

      used : drawn_through at n bs ≡ k + n
      used = used_there at m.state bs k n left adv.1.quiet adv.2 some fits there

      size : length (take n cs) ≡ n
      size = length-take-le n cs there

      same : take n (coming m.beneath) ≡ take n (data_in at bs)
      same = ap (take n) left_there ∙ sym (ap (take n) front ∙ take_at (take n cs) (data_in (behind m.state n cs) (drop n cs)) n size)

      lacking : data_lacks coming lacks s n false t
      lacking = (
        (omega (arith, ap length front, length-append (take n cs) (data_in (behind m.state n cs) (drop n cs)), size), λ h. absurd (false≢true h)),
        led ∙ state_there at m.state bs k n left adv.1.quiet adv.2 some fits there ∙ ap (λ l. behind at l bs) (sym used),
        counts ∙ ap (λ d. counted d n) adv.1.counts ∙ counted_more s.drawn k n ∙ ap (counted s.drawn) (sym used),
        subst (λ l. lacks s.beneath l false t.beneath) (sym used) (adds.joined s.beneath m.beneath t.beneath k n false false adv.1.lacked low),
      )

      spent : Spent (data_coming coming s) n false (data_coming coming t)
      spent = kept.spends s t n false lacking

  -- the ending was reached
  module _ (t : Chunks C) (e : Ending) (adv : Advanced coming ending lacks s t (Err e)) where
    none_come : data_coming coming s ≡ []
    none_come =
        let at = s.state in
        let bs = coming s.beneath in
        let k = drawn_in at bs in
        split_data at k bs ∙ ap (λ l. l ++ data_in (behind at k bs) (drop k bs)) adv.0.quiet.silent ∙ (at_end at bs).1

    shown : t.state ≡ state_after s.state (coming s.beneath)
    shown = adv.0.quiet.leads ∙ (at_end s.state (coming s.beneath)).2

    ended : data_lacks coming lacks s 0 true t
    ended = (
      (omega arith, λ _. sym (ap length none_come)),
      adv.0.quiet.leads,
      adv.0.counts,
      subst (λ i. lacks s.beneath (drawn_in s.state (coming s.beneath)) (not (over i)) t.beneath) shown adv.0.lacked,
    )

    ends : data_ending coming ending s ≡ e
    ends = ap (λ i. ending_at i (counted s.drawn (drawn_in s.state (coming s.beneath))) (ending s.beneath)) (sym shown) ∙ ap (λ d. ending_at t.state d (ending s.beneath)) (sym adv.0.counts) ∙ adv.1

    pub tells : (w w' : List ℕ) → 0 < length w → w' ≡ w → Owed w (Err e) t w'
    tells w w' room same = ((room, none_come, ends, (kept.spends s t 0 true ended).2 refl, kept.ends s t 0 true ended, same), ended)

  -- the bytes beneath ended in the chunk; none was written to the front part of the stretch
  pub tells_short : (m t : Chunks C) (left : ℕ) (e : Ending) (w ys : List ℕ) (j : ℕ) → Advanced coming ending lacks s m (Ok left) → Drew coming ending lacks m t (Err e) → 0 < length w → ys ≡ take j w → Owed w (Err e) t (ys ++ drop j w)
  tells_short m t left e w ys j adv drew room same =
      tells t e (runs_dry adds s m adv.0 adv.1 t e (ap over adv.2) drew) w (ys ++ drop j w) room (ap (λ l. l ++ drop j w) same ∙ take-append-drop j w)
