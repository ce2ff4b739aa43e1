-- A run of bytes, split after some of them. (These lemmas stand in specs/ since the layer's law `adds` rests on them, and the proof
-- of an impl's law can cite specs/ alone.)
use Rattle.std.specs.Prelude.{◌≡◌, ℕ, zero, suc, ◌+◌, ◌-◌, ◌≤◌, true, false, List, [], ◌∷◌, ◌++◌, length, take, drop, refl}
use Rattle.std.proofs.Common.{sym, ap, ◌∙◌, append_assoc, zero-add, suc-add, arith, length-append, take-append-drop}
use Rattle.std.proofs.lemmas.Bool.{cond-true, cond-false}
use Rattle.chunks.specs.declared.machine.State.{State}
use Rattle.chunks.specs.Machine.{next_state, data_byte, over}
use Rattle.chunks.specs.Decoding.{state_after, data_in, drawn_in, drawn_through}
use Rattle.carrier.specs.Passing.{counted}

-- nothing leads on from where the body is over
over_stays : (at : State) (b : ℕ) → over at ≡ true → (next_state at b ≡ at) × (data_byte at b ≡ [])
over_stays at b h = grind arith

one_at_most : (at : State) (b : ℕ) → length (data_byte at b) ≤ 1
one_at_most at b = grind arith

pub state_after_append : (at : State) (xs ys : List ℕ) → state_after at (xs ++ ys) ≡ state_after (state_after at xs) ys
state_after_append at [] ys = refl
state_after_append at (x ∷ xs) ys = state_after_append (next_state at x) xs ys

pub data_in_append : (at : State) (xs ys : List ℕ) → data_in at (xs ++ ys) ≡ data_in at xs ++ data_in (state_after at xs) ys
data_in_append at [] ys = refl
data_in_append at (x ∷ xs) ys =
    ap (λ l. data_byte at x ++ l) (data_in_append (next_state at x) xs ys) ∙ sym (append_assoc (data_byte at x) (data_in (next_state at x) xs) (data_in (state_after (next_state at x) xs) ys))

pub over_after : (at : State) (bs : List ℕ) → over at ≡ true → (state_after at bs ≡ at) × (data_in at bs ≡ [])
over_after at [] h = (refl, refl)
over_after at (b ∷ bs) h =
    let stays = over_stays at b h in
    let rest = over_after at bs h in
    (ap (λ s. state_after s bs) stays.0 ∙ rest.0, ap (λ l. l ++ data_in (next_state at b) bs) stays.1 ∙ ap (λ s. data_in s bs) stays.0 ∙ rest.1)

pub drawn_over : (at : State) (bs : List ℕ) → over at ≡ true → drawn_in at bs ≡ 0
drawn_over at [] h = refl
drawn_over at (b ∷ bs) h = cond-true _ _ _ h

pub drawn_more : (at : State) (b : ℕ) (bs : List ℕ) → over at ≡ false → drawn_in at (b ∷ bs) ≡ suc (drawn_in (next_state at b) bs)
drawn_more at b bs h = cond-false _ _ _ h

-- where a byte is drawn, or a data byte comes, the body is not over
pub drawn_live : (at : State) (k b : ℕ) (bs : List ℕ) → suc k ≤ drawn_in at (b ∷ bs) → over at ≡ false
drawn_live at k b bs h = grind (arith, drawn_over)

data_live : (at : State) (n : ℕ) (bs : List ℕ) → suc n ≤ length (data_in at bs) → over at ≡ false
data_live at n bs h = grind (arith, over_after at bs)

pub drawn_within : (at : State) (bs : List ℕ) → drawn_in at bs ≤ length bs
drawn_within at [] = omega arith
drawn_within at (b ∷ bs) = grind (arith, drawn_over at (b ∷ bs), drawn_more at b bs, drawn_within (next_state at b) bs)

-- where no byte is drawn, nothing comes
pub still : (at : State) (bs : List ℕ) → drawn_in at bs ≡ 0 → (state_after at bs ≡ at) × (data_in at bs ≡ [])
still at [] h = (refl, refl)
still at (b ∷ bs) h = grind (arith, over_after at (b ∷ bs), drawn_more at b bs)

-- the state behind the first k bytes
abbrev pub behind : State → ℕ → List ℕ → State
behind at k bs = state_after at (take k bs)

pub split_state : (at : State) (k : ℕ) (bs : List ℕ) → state_after at bs ≡ state_after (behind at k bs) (drop k bs)
split_state at k bs = ap (state_after at) (sym (take-append-drop k bs)) ∙ state_after_append at (take k bs) (drop k bs)

pub split_data : (at : State) (k : ℕ) (bs : List ℕ) → data_in at bs ≡ data_in at (take k bs) ++ data_in (behind at k bs) (drop k bs)
split_data at k bs = ap (data_in at) (sym (take-append-drop k bs)) ∙ data_in_append at (take k bs) (drop k bs)

pub split_drawn : (at : State) (k : ℕ) (bs : List ℕ) → k ≤ drawn_in at bs → drawn_in at bs ≡ k + drawn_in (behind at k bs) (drop k bs)
split_drawn at zero bs h = sym (zero-add (drawn_in at bs))
split_drawn at (suc k) [] h = absurd (omega arith)
split_drawn at (suc k) (b ∷ bs) h =
    let more = drawn_more at b bs (drawn_live at k b bs h) in
    let within : k ≤ drawn_in (next_state at b) bs = omega arith in
    omega (arith, split_drawn (next_state at b) k bs within)

pub split_through : (at : State) (k n : ℕ) (bs : List ℕ) → k ≤ drawn_in at bs → drawn_through at (length (data_in at (take k bs)) + suc n) bs ≡ k + drawn_through (behind at k bs) (suc n) (drop k bs)
split_through at zero n bs h = ap (λ m. drawn_through at m bs) (zero-add (suc n)) ∙ sym (zero-add (drawn_through at (suc n) bs))
split_through at (suc k) n [] h = absurd (omega arith)
split_through at (suc k) n (b ∷ bs) h =
    let more = drawn_more at b bs (drawn_live at k b bs h) in
    let within : k ≤ drawn_in (next_state at b) bs = omega arith in
    ap (λ m. drawn_through at m (b ∷ bs)) one_more
    ∙ ap (λ m. suc (drawn_through (next_state at b) m bs)) left
    ∙ ap suc (split_through (next_state at b) k n bs within)
    ∙ sym (suc-add k (drawn_through (behind (next_state at b) k bs) (suc n) (drop k bs)))
  where
    here : List ℕ
    here = data_byte at b

    there : List ℕ
    there = data_in (next_state at b) (take k bs)

    one_more : length (here ++ there) + suc n ≡ suc (length (here ++ there) + n)
    one_more = omega arith

    left : suc (length (here ++ there) + n) - length here ≡ length there + suc n
    left = omega (arith, length-append here there)

-- the bytes through the n-th data byte hold n of them
pub through_gives : (at : State) (n : ℕ) (bs : List ℕ) → n ≤ length (data_in at bs) → length (data_in at (take (drawn_through at n bs) bs)) ≡ n
through_gives at zero bs h = refl
through_gives at (suc n) [] h = absurd (omega arith)
through_gives at (suc n) (b ∷ bs) h =
    let short = one_at_most at b in
    let room : suc n - length (data_byte at b) ≤ length (data_in (next_state at b) bs) = omega (arith, length-append (data_byte at b) (data_in (next_state at b) bs)) in
    omega (arith, length-append (data_byte at b) (data_in (next_state at b) (take (drawn_through (next_state at b) (suc n - length (data_byte at b)) bs) bs)), through_gives (next_state at b) (suc n - length (data_byte at b)) bs room)

-- and the body is not over before it
pub through_within : (at : State) (n : ℕ) (bs : List ℕ) → n ≤ length (data_in at bs) → drawn_through at n bs ≤ drawn_in at bs
through_within at zero bs h = omega arith
through_within at (suc n) [] h = absurd (omega arith)
through_within at (suc n) (b ∷ bs) h =
    let room : suc n - length (data_byte at b) ≤ length (data_in (next_state at b) bs) = omega (arith, length-append (data_byte at b) (data_in (next_state at b) bs)) in
    omega (arith, drawn_more at b bs (data_live at n (b ∷ bs) h), through_within (next_state at b) (suc n - length (data_byte at b)) bs room)

pub counted_more : (drawn m n : ℕ) → counted (counted drawn m) n ≡ counted drawn (m + n)
counted_more drawn m n = omega arith
