-- The bytes of a chunked body lead to its end, and give its data.
use Rattle.std.proofs.Common.{◌≡◌, ℕ, suc, ◌+◌, ◌*◌, ◌%◌, ◌^◌, ◌<◌, ◌≤◌, Bool, true, false, cond, eqb, List, [], ◌∷◌, ◌++◌, length, Some, sym, refl, ap, ◌∙◌, subst, append_assoc, add-zero, add_assoc, mul_assoc, add-mul, pow-suc, zero-add, zero-mul, arith, length-append}
use native.Mathlib.Nat.{pow-succ', pow-le-pow_right}
use Rattle.std.proofs.lemmas.Bool.Decides.{nat_tests}
use Rattle.std.proofs.lemmas.Bool.{cond-true, cond-false, lt-ltb, ne_eqb, eqb-true}
use Rattle.chunks.specs.declared.machine.Line.{Line}
use Rattle.chunks.specs.declared.machine.Line.TheVariants as line
use Rattle.chunks.specs.declared.machine.State.{State}
use Rattle.chunks.specs.declared.machine.State.TheVariants as state
use Rattle.chunks.specs.Machine.{digit_of, after_size, after_size_line, line_after, next_state, data_byte, over}
use Rattle.chunks.specs.Decoding.{state_after, data_in, drawn_in}
use Rattle.chunks.specs.Splitting.{state_after_append, data_in_append, drawn_over, drawn_more}
use Rattle.chunks.specs.Grammar.{CRLF, Hex, Plain, Extension, SizeLine, Unbroken, Lines, Body}

-- all of the bytes are drawn, give the data ds, and lead from one state to another
pub record Leads (at : State) (bs : List ℕ) (to : State) (ds : List ℕ) : Type 0 where
  pub ends : state_after at bs ≡ to
  pub gives : data_in at bs ≡ ds
  pub draws : drawn_in at bs ≡ length bs

pub stays : (at : State) → Leads at [] at []
stays at = record { ends = refl; gives = refl; draws = refl }

-- one byte first
pub first : (at then to : State) (b : ℕ) (bs cs ds : List ℕ) → over at ≡ false → next_state at b ≡ then → data_byte at b ≡ cs → Leads then bs to ds → Leads at (b ∷ bs) to (cs ++ ds)
first at then to b bs cs ds live next byte rest =
    record {
      ends = ap (λ s. state_after s bs) next ∙ rest.ends;
      gives = ap (λ l. l ++ data_in (next_state at b) bs) byte ∙ ap (λ s. cs ++ data_in s bs) next ∙ ap (λ l. cs ++ l) rest.gives;
      draws = drawn_more at b bs live ∙ ap suc (ap (λ s. drawn_in s bs) next ∙ rest.draws);
    }

pub drawn_append : (at : State) (xs ys : List ℕ) → drawn_in at xs ≡ length xs → drawn_in at (xs ++ ys) ≡ length xs + drawn_in (state_after at xs) ys
drawn_append at [] ys h = sym (zero-add (drawn_in at ys))
drawn_append at (x ∷ xs) ys h = grind (arith, drawn_over at (x ∷ xs), drawn_more at x xs, drawn_more at x (xs ++ ys), drawn_append (next_state at x) xs ys)

-- one run of bytes behind another
then_leads : (at to on : State) (xs ys ds es : List ℕ) → Leads at xs to ds → Leads to ys on es → Leads at (xs ++ ys) on (ds ++ es)
then_leads at to on xs ys ds es p q =
    record {
      ends = state_after_append at xs ys ∙ ap (λ s. state_after s ys) p.ends ∙ q.ends;
      gives = data_in_append at xs ys ∙ ap (λ l. l ++ data_in (state_after at xs) ys) p.gives ∙ ap (λ s. ds ++ data_in s ys) p.ends ∙ ap (λ l. ds ++ l) q.gives;
      draws = drawn_append at xs ys p.draws ∙ ap (λ s. length xs + drawn_in s ys) p.ends ∙ ap (λ n. length xs + n) q.draws ∙ sym (length-append xs ys);
    }

-- a digit says less than 16
digit_small : (b d : ℕ) → digit_of b ≡ Some d → d < 16
digit_small b d h = grind (arith, nat_tests)

-- one more digit, of at most 8
pub digit_more : (k v b d : ℕ) → digit_of b ≡ Some d → k < 8 → v < 16 ^ k → (v % 2 ^ 28 * 16 + d ≡ v * 16 + d) × (v * 16 + d < 16 ^ (k + 1))
digit_more k v b d is few small =
    let most : k ≤ 7 = omega arith in
    let fits : v < 2 ^ 28 = omega (arith, pow-le-pow_right {n = 16} (omega arith) most) in
    let next : 16 ^ (k + 1) ≡ 16 ^ k * 16 = ap (λ n. 16 ^ n) (omega arith) ∙ pow-suc 16 k in
    (omega arith, omega (arith, digit_small b d is))

-- the number that digits say, behind others that say v
pub said : (v d w n : ℕ) → (v * 16 + d) * 16 ^ n + w ≡ v * 16 ^ suc n + (d * 16 ^ n + w)
said v d w n =
    ap (λ x. x + w) (add-mul (v * 16) d (16 ^ n) ∙ ap (λ x. x + d * 16 ^ n) (mul_assoc v 16 (16 ^ n) ∙ ap (λ x. v * x) (sym (pow-succ' 16 n))))
    ∙ add_assoc (v * 16 ^ suc n) (d * 16 ^ n) w

digits_lead : {hs : List ℕ} {w : ℕ} (k v : ℕ) → Hex hs w → k + length hs ≤ 8 → v < 16 ^ k → Leads (state.Size k v) hs (state.Size (k + length hs) (v * 16 ^ length hs + w)) []
digits_lead k v Hex.none few small =
    record { ends = ap (λ n. state.Size n v) (sym (add-zero k)) ∙ ap (state.Size (k + 0)) (omega arith); gives = refl; draws = refl }
digits_lead {w} k v (Hex.digit {b} {d} {v = u} {hs} is rest) few small =
    let more = digit_more k v b d is (omega arith) small in
    let next : next_state (state.Size k v) b ≡ state.Size (k + 1) (v * 16 + d) = ap (after_size k v b) is ∙ cond-true _ _ _ (lt-ltb k 8 (omega arith)) ∙ ap (state.Size (k + 1)) more.0 in
    let lead = first (state.Size k v) (state.Size (k + 1) (v * 16 + d)) (state.Size (k + 1 + length hs) ((v * 16 + d) * 16 ^ length hs + u)) b hs [] [] refl next refl (digits_lead (k + 1) (v * 16 + d) rest (omega arith) more.1) in
    subst (λ s. Leads (state.Size k v) (b ∷ hs) s []) (ap (λ n. state.Size n ((v * 16 + d) * 16 ^ length hs + u)) (omega arith) ∙ ap (state.Size (k + suc (length hs))) (said v d u (length hs))) lead

size_cr_leads : (v : ℕ) → Leads (state.SizeCr v) (10 ∷ []) (after_size_line v) []
size_cr_leads v = first (state.SizeCr v) (after_size_line v) (after_size_line v) 10 [] [] [] refl refl refl (stays (after_size_line v))

extension_leads : (cs : List ℕ) (j v : ℕ) → Plain cs → j + length cs ≤ 256 → Leads (state.Extension j v) (cs ++ CRLF) (after_size_line v) []
extension_leads [] j v plain few = first (state.Extension j v) (state.SizeCr v) (after_size_line v) 13 (10 ∷ []) [] [] refl refl refl (size_cr_leads v)
extension_leads (c ∷ cs) j v plain few =
    let next : next_state (state.Extension j v) c ≡ state.Extension (j + 1) v = cond-false _ _ _ (ne_eqb c 13 plain.0) ∙ cond-false _ _ _ (ne_eqb c 10 plain.1) ∙ cond-true _ _ _ (lt-ltb j 256 (omega arith)) in
    first (state.Extension j v) (state.Extension (j + 1) v) (after_size_line v) c (cs ++ CRLF) [] [] refl next refl (extension_leads cs (j + 1) v plain.2 (omega arith))

line_end_leads : {ext : List ℕ} (k v : ℕ) → 0 < k → Extension ext → Leads (state.Size k v) (ext ++ CRLF) (after_size_line v) []
line_end_leads k v some Extension.absent = first (state.Size k v) (state.SizeCr v) (after_size_line v) 13 (10 ∷ []) [] [] refl (cond-false _ _ _ (ne_eqb k 0 (omega arith))) refl (size_cr_leads v)
line_end_leads k v some (Extension.present {cs} plain few) =
    first (state.Size k v) (state.Extension 1 v) (after_size_line v) 59 (cs ++ CRLF) [] [] refl (cond-false _ _ _ (ne_eqb k 0 (omega arith))) refl (extension_leads cs 1 v plain (omega arith))

size_line_leads : (bs : List ℕ) (n : ℕ) → SizeLine bs n → Leads (state.Size 0 0) bs (after_size_line n) []
size_line_leads bs n l =
    let hs = l.digits in
    let same : state.Size (0 + length hs) (0 * 16 ^ length hs + n) ≡ state.Size (length hs) n = ap (λ k. state.Size k (0 * 16 ^ length hs + n)) (zero-add (length hs)) ∙ ap (state.Size (length hs)) (ap (λ x. x + n) (zero-mul (16 ^ length hs)) ∙ zero-add n) in
    let front = subst (λ s. Leads (state.Size 0 0) hs s []) same (digits_lead 0 0 l.says (omega (arith, l.few)) (omega arith)) in
    subst (λ x. Leads (state.Size 0 0) x (after_size_line n) []) (sym l.is) (then_leads (state.Size 0 0) (state.Size (length hs) n) (after_size_line n) hs (l.extension ++ CRLF) [] [] front (line_end_leads (length hs) n l.some l.extends))

data_leads : (d : List ℕ) → Leads (state.Data (length d)) d (state.Data 0) d
data_leads [] = stays (state.Data 0)
data_leads (c ∷ d) = first (state.Data (suc (length d))) (state.Data (length d)) (state.Data 0) c d (c ∷ []) d refl refl refl (data_leads d)

-- what may follow in a line of the trailer before the CR LF that ends it
abbrev Open : Line → List ℕ → Type 0
Open line.Start x = (0 < length x) × Unbroken x
Open line.StartCr x = Unbroken (13 ∷ x)
Open line.Inside x = Unbroken x
Open line.InsideCr x = Unbroken (13 ∷ x)

unbroken_tail : (b : ℕ) (x : List ℕ) → Unbroken (b ∷ x) → Unbroken x
unbroken_tail b x u = grind arith

-- a byte that is not the LF behind a CR stays in the line
stays_open : (at cr : Line) (b : ℕ) (x : List ℕ) → line_after at b ≡ cond (eqb b 13) (Some cr) (Some line.Inside) → (Unbroken (13 ∷ x) → Open cr x) → Unbroken (b ∷ x) → (to : Line) × (line_after at b ≡ Some to) × Open to x
stays_open at cr b x is opens u = by (eqb b 13) refl
  where
    by : (t : Bool) → eqb b 13 ≡ t → (to : Line) × (line_after at b ≡ Some to) × Open to x
    by true t = (cr, is ∙ cond-true _ _ _ t, opens (subst (λ c. Unbroken (c ∷ x)) (eqb-true b 13 t) u))
    by false t = (line.Inside, is ∙ cond-false _ _ _ t, unbroken_tail b x u)

open_more : (at : Line) (b : ℕ) (x : List ℕ) → Open at (b ∷ x) → (to : Line) × (line_after at b ≡ Some to) × Open to x
open_more line.Start b x o = stays_open line.Start line.StartCr b x refl (λ u. u) o.1
open_more line.StartCr b x o = stays_open line.StartCr line.InsideCr b x (cond-false _ _ _ (ne_eqb b 10 (o.0 refl))) (λ u. u) o.1
open_more line.Inside b x o = stays_open line.Inside line.InsideCr b x refl (λ u. u) o
open_more line.InsideCr b x o = stays_open line.InsideCr line.InsideCr b x (cond-false _ _ _ (ne_eqb b 10 (o.0 refl))) (λ u. u) o.1

open_cr : (at : Line) → Open at [] → line_after at 13 ≡ Some line.InsideCr
open_cr at o = grind arith

trailer_more : (at to : Line) (j b : ℕ) → line_after at b ≡ Some to → j < 1023 → next_state (state.Trailer j at) b ≡ state.Trailer (j + 1) to
trailer_more at to j b is few = grind (arith, nat_tests)

line_leads : (x : List ℕ) (at : Line) (j : ℕ) → Open at x → j + length x + 2 ≤ 1023 → Leads (state.Trailer j at) (x ++ CRLF) (state.Trailer (j + length x + 2) line.Start) []
line_leads [] at j o few =
    let same : j + 1 + 1 ≡ j + 0 + 2 = omega arith in
    let lf = first (state.Trailer (j + 1) line.InsideCr) (state.Trailer (j + 1 + 1) line.Start) (state.Trailer (j + 1 + 1) line.Start) 10 [] [] [] refl (trailer_more line.InsideCr line.Start (j + 1) 10 refl (omega arith)) refl (stays (state.Trailer (j + 1 + 1) line.Start)) in
    subst (λ n. Leads (state.Trailer j at) CRLF (state.Trailer n line.Start) []) same (first (state.Trailer j at) (state.Trailer (j + 1) line.InsideCr) (state.Trailer (j + 1 + 1) line.Start) 13 (10 ∷ []) [] [] refl (trailer_more at line.InsideCr j 13 (open_cr at o) (omega arith)) refl lf)
line_leads (b ∷ x) at j o few =
    let more = open_more at b x o in
    let same : j + 1 + length x + 2 ≡ j + suc (length x) + 2 = omega arith in
    let rest = line_leads x more.0 (j + 1) more.2 (omega arith) in
    subst (λ n. Leads (state.Trailer j at) (b ∷ (x ++ CRLF)) (state.Trailer n line.Start) []) same (first (state.Trailer j at) (state.Trailer (j + 1) more.0) (state.Trailer (j + 1 + length x + 2) line.Start) b (x ++ CRLF) [] [] refl (trailer_more at more.0 j b more.1 (omega arith)) refl rest)

some_lines : {t : List ℕ} → Lines t → 2 ≤ length t
some_lines Lines.blank = omega arith
some_lines (Lines.line x {t} some unbroken rest) = omega (arith, length-append x (CRLF ++ t), some_lines rest)

lines_lead : {t : List ℕ} (j : ℕ) → Lines t → j + length t ≤ 1024 → Leads (state.Trailer j line.Start) t state.Done []
lines_lead j Lines.blank few =
    first (state.Trailer j line.Start) (state.Trailer (j + 1) line.StartCr) state.Done 13 (10 ∷ []) [] [] refl (trailer_more line.Start line.StartCr j 13 refl (omega arith)) refl (
    first (state.Trailer (j + 1) line.StartCr) state.Done state.Done 10 [] [] [] refl refl refl (stays state.Done)
    )
lines_lead j (Lines.line x {t} some unbroken rest) few =
    let whole = length-append x (CRLF ++ t) in
    let more = some_lines rest in
    let here = line_leads x line.Start j (some, unbroken) (omega arith) in
    subst (λ l. Leads (state.Trailer j line.Start) l state.Done []) (append_assoc x CRLF t) (then_leads (state.Trailer j line.Start) (state.Trailer (j + length x + 2) line.Start) state.Done (x ++ CRLF) t [] [] here (lines_lead (j + length x + 2) rest (omega arith)))

some_data : (n : ℕ) → 0 < n → after_size_line n ≡ state.Data n
some_data n h = grind arith

pub body_leads : {bs ds : List ℕ} → Body bs ds → Leads (state.Size 0 0) bs state.Done ds
body_leads (Body.last {l} {t} size lines few) = then_leads (state.Size 0 0) (state.Trailer 0 line.Start) state.Done l t [] [] (size_line_leads l 0 size) (lines_lead 0 lines (omega arith))
body_leads (Body.chunk {l} {bs} {ds} d size some rest) =
    let opens = subst (λ s. Leads (state.Size 0 0) l s []) (some_data (length d) some) (size_line_leads l (length d) size) in
    let closes = first (state.Data 0) state.DataCr state.Done 13 (10 ∷ bs) [] ds refl refl refl (first state.DataCr (state.Size 0 0) state.Done 10 bs [] ds refl refl refl (body_leads rest)) in
    then_leads (state.Size 0 0) (state.Data (length d)) state.Done l (d ++ (CRLF ++ bs)) [] (d ++ ds) opens (then_leads (state.Data (length d)) (state.Data 0) state.Done d (CRLF ++ bs) d ds (data_leads d) closes)
