-- The laws of decoding from the start of a body.
use Rattle.std.proofs.Common.{◌≡◌, ℕ, zero, suc, ◌+◌, ◌≤◌, Bool, true, false, List, [], ◌∷◌, ◌++◌, length, take, drop, sym, refl, ap, ◌∙◌, subst, append-nil, add-zero, arith, take-append-drop}
use Rattle.std.proofs.lemmas.List.{length-take-le}
use Rattle.carrier.specs.declared.endings.Fault.{Fault}
use Rattle.carrier.specs.declared.endings.Ending.{Ending}
use Rattle.carrier.specs.declared.endings.Ending.TheVariants.{Clean, Broken}
use Rattle.chunks.specs.declared.machine.State.{State}
use Rattle.chunks.specs.declared.machine.State.TheVariants as state
use Rattle.chunks.specs.Machine.{next_state, over}
use Rattle.chunks.specs.Decoding.{state_after, data_in, drawn_in, cut_short, ending_at, ending_in}
use Rattle.carrier.specs.Passing.{counted}
use Rattle.chunks.specs.Splitting.{over_after, drawn_over, drawn_more, drawn_live, drawn_within, split_data, state_after_append, data_in_append}
use Rattle.chunks.specs.Layer.{at_end}
use Rattle.chunks.specs.Grammar.{Body}
use Rattle.chunks.specs.Laws.{start, CleanExactly, NoneGoesOn}
use Rattle.chunks.proofs.Advancing.{ends_short}
use Rattle.chunks.proofs.Leading.{body_leads, drawn_append}
use Rattle.chunks.proofs.Reading.{reads, body_rest}

-- a clean end stands behind the body's end alone
clean_done : (at : State) (drawn : ℕ) (e : Ending) → ending_at at drawn e ≡ Clean → at ≡ state.Done
clean_done at drawn e h = grind arith

-- bytes that are drawn are drawn without those behind them too
drawn_take : (at : State) (k : ℕ) (bs : List ℕ) → k ≤ drawn_in at bs → drawn_in at (take k bs) ≡ k
drawn_take at zero bs h = refl
drawn_take at (suc k) [] h = absurd (omega arith)
drawn_take at (suc k) (b ∷ bs) h =
    let live = drawn_live at k b bs h in
    drawn_more at b (take k bs) live ∙ ap suc (drawn_take (next_state at b) k bs (omega (arith, drawn_more at b bs live)))

-- the bytes drawn, alone
module _ (bs : List ℕ) where
  drawn_alone : drawn_in start (take (drawn_in start bs) bs) ≡ length (take (drawn_in start bs) bs)
  drawn_alone = drawn_take start (drawn_in start bs) bs (omega arith) ∙ sym (length-take-le (drawn_in start bs) bs (drawn_within start bs))

  data_alone : data_in start (take (drawn_in start bs) bs) ≡ data_in start bs
  data_alone = let k = drawn_in start bs in sym (split_data start k bs ∙ ap (λ l. data_in start (take k bs) ++ l) (at_end start bs).1 ∙ append-nil (data_in start (take k bs)))

  state_alone : state_after start (take (drawn_in start bs) bs) ≡ state_after start bs
  state_alone = (at_end start bs).2

clean_body : (bs : List ℕ) (e : Ending) → ending_in start 0 bs e ≡ Clean → Body (take (drawn_in start bs) bs) (data_in start bs)
clean_body bs e clean =
    let front = take (drawn_in start bs) bs in
    subst (Body front) (data_alone bs) (body_rest front (data_in start front) (reads start front (state_alone bs ∙ clean_done (state_after start bs) _ e clean) (drawn_alone bs)))

-- a body, and any bytes behind it
body_clean : (xs ys d : List ℕ) → Body xs d → (state_after start (xs ++ ys) ≡ state.Done) × (data_in start (xs ++ ys) ≡ d) × (drawn_in start (xs ++ ys) ≡ length xs)
body_clean xs ys d body =
    let lead = body_leads body in
    let rest = over_after state.Done ys refl in (
      state_after_append start xs ys ∙ ap (λ s. state_after s ys) lead.ends ∙ rest.0,
      data_in_append start xs ys ∙ ap (λ l. l ++ data_in (state_after start xs) ys) lead.gives ∙ ap (λ s. d ++ data_in s ys) lead.ends ∙ ap (λ l. d ++ l) rest.1 ∙ append-nil d,
      drawn_append start xs ys lead.draws ∙ ap (λ s. length xs + drawn_in s ys) lead.ends ∙ ap (λ n. length xs + n) (drawn_over state.Done ys refl) ∙ add-zero (length xs),
    )

pub clean_exactly : CleanExactly
clean_exactly bs d e u = (
  λ h.
      let all : drawn_in start bs ≡ u = h.2 in
      (subst (λ n. n ≤ length bs) all (drawn_within start bs), subst (λ n. Body (take n bs) d) all (subst (Body (take (drawn_in start bs) bs)) h.1 (clean_body bs e h.0))),
  λ h.
      let whole = take-append-drop u bs in
      let said = body_clean (take u bs) (drop u bs) d h.1 in
      let state_is : state_after start bs ≡ state.Done = subst (λ l. state_after start l ≡ state.Done) whole said.0 in (
        ap (λ s. ending_at s (counted 0 (drawn_in start bs)) e) state_is,
        subst (λ l. data_in start l ≡ d) whole said.1,
        subst (λ l. drawn_in start l ≡ length (take u bs)) whole said.2 ∙ length-take-le u bs h.0,
      ),
)

-- a cut_short ending is cause 6, or comes from beneath
short_told : (drawn : ℕ) (e : Ending) (f : Fault) → cut_short drawn e ≡ Broken f → f.depth ≡ 0 → f.cause ≤ 5 → ⊥
short_told drawn e f h own few = grind arith

pub none_goes_on : NoneGoesOn
none_goes_on bs e f told own few more d body = by (over (state_after start bs)) refl
  where
    by : (o : Bool) → over (state_after start bs) ≡ o → ⊥
    by false o = short_told (counted 0 (drawn_in start bs)) e f (sym (ends_short (state_after start bs) (counted 0 (drawn_in start bs)) e o) ∙ told) own few
    by true o =
        let front = take (drawn_in start bs) bs in
        let done : state_after start bs ≡ state.Done = sym (over_after (state_after start bs) more o).0 ∙ ap (λ s. state_after s more) (sym (state_alone bs)) ∙ sym (state_after_append start front more) ∙ (body_leads body).ends in
        let clean : Clean ≡ Broken f = ap (λ s. ending_at s (counted 0 (drawn_in start bs)) e) (sym done) ∙ told in
        cc
