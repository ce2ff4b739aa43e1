-- What leads to a clean end is a chunked body: each state says what of one is still to come.
use Rattle.std.proofs.Common.{◌≡◌, ℕ, zero, suc, ◌+◌, ◌*◌, ◌%◌, ◌^◌, ◌<◌, ◌≤◌, Bool, true, false, cond, eqb, ltb, ◌≢◌, List, [], ◌∷◌, ◌++◌, length, Some, None, Option, sym, refl, ap, ◌∙◌, subst, append_assoc, zero-add, zero-mul, arith}
use Rattle.std.proofs.lemmas.Bool.Decides.{nat_tests}
use Rattle.std.proofs.lemmas.Bool.{true≢false, eqb-true, eqb-false, ltb-true}
use Rattle.chunks.specs.declared.machine.Line.{Line}
use Rattle.chunks.specs.declared.machine.Line.TheVariants as line
use Rattle.chunks.specs.declared.machine.State.{State}
use Rattle.chunks.specs.declared.machine.State.TheVariants as state
use Rattle.chunks.specs.Machine.{digit_of, after_size, after_size_line, line_after, after_trailer, next_state, data_byte, over}
use Rattle.chunks.specs.Decoding.{state_after, data_in, drawn_in}
use Rattle.chunks.specs.Splitting.{drawn_over, drawn_more}
use Rattle.chunks.specs.Grammar.{CRLF, Hex, Plain, Extension, SizeLine, Unbroken, Lines, Body}
use Rattle.chunks.proofs.Leading.{digit_more, said}

-- the rest of a line of the trailer, the lines behind it, and whether the rest has a byte
abbrev InLine : List ℕ → Type 0
InLine bs = (x t : List ℕ) × (bs ≡ x ++ (CRLF ++ t)) × Unbroken x × Lines t

abbrev LongLine : List ℕ → Type 0
LongLine bs = (x t : List ℕ) × (bs ≡ x ++ (CRLF ++ t)) × Unbroken x × Lines t × (0 < length x)

abbrev LinesFrom : Line → List ℕ → Type 0
LinesFrom line.Start bs = Lines bs
LinesFrom line.StartCr bs = Lines (13 ∷ bs)
LinesFrom line.Inside bs = InLine bs
LinesFrom line.InsideCr bs = InLine (13 ∷ bs)

-- the rest of a chunk, n bytes of data and more chunks
abbrev InChunk : ℕ → List ℕ → List ℕ → Type 0
InChunk n bs ds = (d rest es : List ℕ) × (bs ≡ d ++ (CRLF ++ rest)) × (length d ≡ n) × (ds ≡ d ++ es) × Body rest es

-- behind a size line that says n
abbrev Tail : ℕ → List ℕ → List ℕ → Type 0
Tail zero bs ds = Lines bs × (length bs ≤ 1024) × (ds ≡ [])
Tail (suc n) bs ds = InChunk (suc n) bs ds

abbrev InSize : ℕ → ℕ → List ℕ → List ℕ → Type 0
InSize k v bs ds =
    (hs ext rest : List ℕ)
    × (w : ℕ)
    × (bs ≡ hs ++ (ext ++ (CRLF ++ rest)))
    × Hex hs w
    × (0 < k + length hs)
    × (k + length hs ≤ 8)
    × Extension ext
    × Tail (v * 16 ^ length hs + w) rest ds

-- from a state on, bs is the rest of a chunked body, and ds its data
abbrev Rest : State → List ℕ → List ℕ → Type 0
Rest (state.Size k v) bs ds = v < 16 ^ k → k ≤ 8 → InSize k v bs ds
Rest (state.Extension j v) bs ds = j ≤ 256 → (cs rest : List ℕ) × (bs ≡ cs ++ (CRLF ++ rest)) × Plain cs × (j + length cs ≤ 256) × Tail v rest ds
Rest (state.SizeCr v) bs ds = (rest : List ℕ) × (bs ≡ 10 ∷ rest) × Tail v rest ds
Rest (state.Data n) bs ds = InChunk n bs ds
Rest state.DataCr bs ds = (rest : List ℕ) × (bs ≡ 10 ∷ rest) × Body rest ds
Rest (state.Trailer j at) bs ds = j ≤ 1023 → LinesFrom at bs × (j + length bs ≤ 1024) × (ds ≡ [])
Rest state.Done bs ds = (bs ≡ []) × (ds ≡ [])
Rest (state.Failed c) bs ds = ⊥

-- by a test that chose what a fact is about
chosen : {X : Type 0} (P : X → Type 0) (t : Bool) (x y : X) {G : Type 0} → P (cond t x y) → (t ≡ true → P x → G) → (t ≡ false → P y → G) → G
chosen P true x y r f g = f refl r
chosen P false x y r f g = g refl r

-- the same byte, by the test that told it
same_first : (b c : ℕ) (bs cs : List ℕ) → eqb b c ≡ true → bs ≡ cs → b ∷ bs ≡ c ∷ cs
same_first b c bs cs t e = grind (arith, nat_tests)

module _ (bs ds : List ℕ) (b : ℕ) where
  from_digits : (k v : ℕ) (d : Option ℕ) → digit_of b ≡ d → Rest (after_size k v b d) bs ds → Rest (state.Size k v) (b ∷ bs) ds
  from_digits k v (Some d) is r small few =
      chosen (λ x. Rest x bs ds) (ltb k 8) (state.Size (k + 1) (v % 2 ^ 28 * 16 + d)) _ r (λ t rest.
      let less : k < 8 = ltb-true k 8 t in
      let more = digit_more k v b d is less small in
      let in_rest = rest (subst (λ n. n < 16 ^ (k + 1)) (sym more.0) more.1) (omega arith) in
      let hs = in_rest.0 in
      let value = ap (λ n. n * 16 ^ length hs + in_rest.3) more.0 ∙ said v d in_rest.3 (length hs) in (
        b ∷ hs,
        in_rest.1,
        in_rest.2,
        d * 16 ^ length hs + in_rest.3,
        ap (λ l. b ∷ l) in_rest.4,
        Hex.digit is in_rest.5,
        omega arith,
        omega (arith, in_rest.7),
        in_rest.8,
        subst (λ n. Tail n in_rest.2 ds) value in_rest.9,
      )) (λ t rest. absurd rest)
  from_digits k v None is r small few =
      chosen (λ x. Rest x bs ds) (eqb k 0) _ _ r (λ t rest. absurd rest) (λ t r.
      let some : 0 < k = let not_None = eqb-false k 0 t in omega arith in
      let same : v ≡ v * 16 ^ 0 + 0 = omega arith in
      chosen (λ x. Rest x bs ds) (eqb b 13) (state.SizeCr v) _ r (λ t rest. ([], [], rest.0, 0, same_first b 13 bs (10 ∷ rest.0) t rest.1, Hex.none, omega arith, omega arith, Extension.absent, subst (λ n. Tail n rest.0 ds) same rest.2)) (λ t r.
      chosen (λ x. Rest x bs ds) (eqb b 59) (state.Extension 1 v) _ r (λ t rest.
      let in_rest = rest (omega arith) in
      ([], 59 ∷ in_rest.0, in_rest.1, 0, same_first b 59 bs _ t in_rest.2, Hex.none, omega arith, omega arith, Extension.present in_rest.3 (omega (arith, in_rest.4)), subst (λ n. Tail n in_rest.1 ds) same in_rest.5)) (λ t rest. absurd rest)))

  from_extension : (j v : ℕ) → Rest (next_state (state.Extension j v) b) bs ds → Rest (state.Extension j v) (b ∷ bs) ds
  from_extension j v r few =
      chosen (λ x. Rest x bs ds) (eqb b 13) (state.SizeCr v) _ r (λ t rest. ([], rest.0, same_first b 13 bs (10 ∷ rest.0) t rest.1, tt, omega arith, rest.2)) (λ no-cr r.
      chosen (λ x. Rest x bs ds) (eqb b 10) _ _ r (λ t rest. absurd rest) (λ no-lf r.
      chosen (λ x. Rest x bs ds) (ltb j 256) (state.Extension (j + 1) v) _ r (λ t rest.
      let less : j < 256 = ltb-true j 256 t in
      let in_rest = rest (omega arith) in
      (b ∷ in_rest.0, in_rest.1, ap (λ l. b ∷ l) in_rest.2, (eqb-false b 13 no-cr, eqb-false b 10 no-lf, in_rest.3), omega (arith, in_rest.4), in_rest.5)) (λ t rest. absurd rest)))

  from_size_line : (v : ℕ) → Rest (after_size_line v) bs ds → Tail v bs ds
  from_size_line zero r = let lines = r (omega arith) in (lines.0, omega (arith, lines.1), lines.2)
  from_size_line (suc n) r = r

  from_size_cr : (v : ℕ) → Rest (next_state (state.SizeCr v) b) bs ds → Rest (state.SizeCr v) (b ∷ bs) ds
  from_size_cr v r = chosen (λ x. Rest x bs ds) (eqb b 10) (after_size_line v) _ r (λ t rest. (bs, same_first b 10 bs bs t refl, from_size_line v rest)) (λ t rest. absurd rest)

  from_data : (n : ℕ) → Rest (next_state (state.Data n) b) bs ds → Rest (state.Data n) (b ∷ bs) (data_byte (state.Data n) b ++ ds)
  from_data zero r = chosen (λ x. Rest x bs ds) (eqb b 13) state.DataCr _ r (λ t rest. ([], rest.0, ds, same_first b 13 bs (10 ∷ rest.0) t rest.1, refl, refl, rest.2)) (λ t rest. absurd rest)
  from_data (suc n) r = (b ∷ r.0, r.1, r.2, ap (λ l. b ∷ l) r.3, ap suc r.4, ap (λ l. b ∷ l) r.5, r.6)

apart : (hs ext l : List ℕ) → (hs ++ (ext ++ CRLF)) ++ l ≡ hs ++ (ext ++ (CRLF ++ l))
apart hs ext l = simp append_assoc

-- a size line, and what it announces
whole_body : (hs ext rest ds : List ℕ) (w : ℕ) → Hex hs w → 0 < length hs → length hs ≤ 8 → Extension ext → Tail w rest ds → Body (hs ++ (ext ++ (CRLF ++ rest))) ds
whole_body hs ext rest ds zero hex some few extends tail =
    subst (Body (hs ++ (ext ++ (CRLF ++ rest)))) (sym tail.2) (subst (λ l. Body l []) (apart hs ext rest) (Body.last (record { digits = hs; extension = ext; says = hex; some = some; few = few; extends = extends; is = refl }) tail.0 tail.1))
whole_body hs ext rest ds (suc n) hex some few extends tail =
    let d = tail.0 in
    let line : SizeLine (hs ++ (ext ++ CRLF)) (length d) = record { digits = hs; extension = ext; says = subst (Hex hs) (sym tail.4) hex; some = some; few = few; extends = extends; is = refl } in
    let body = Body.chunk d line (omega (arith, tail.4)) tail.6 in
    subst (Body (hs ++ (ext ++ (CRLF ++ rest)))) (sym tail.5) (subst (λ l. Body l (d ++ tail.2)) (apart hs ext (d ++ (CRLF ++ tail.1)) ∙ ap (λ l. hs ++ (ext ++ (CRLF ++ l))) (sym tail.3)) body)

pub body_rest : (bs ds : List ℕ) → Rest (state.Size 0 0) bs ds → Body bs ds
body_rest bs ds r =
    let in_rest = r (omega arith) (omega arith) in
    let hs = in_rest.0 in
    let value : 0 * 16 ^ length hs + in_rest.3 ≡ in_rest.3 = ap (λ n. n + in_rest.3) (zero-mul (16 ^ length hs)) ∙ zero-add in_rest.3 in
    subst (λ l. Body l ds) (sym in_rest.4) (whole_body hs in_rest.1 in_rest.2 ds in_rest.3 in_rest.5 (omega (arith, in_rest.6)) (omega (arith, in_rest.7)) in_rest.8 (subst (λ n. Tail n in_rest.2 ds) value in_rest.9))

from_data_cr : (bs ds : List ℕ) (b : ℕ) → Rest (next_state state.DataCr b) bs ds → Rest state.DataCr (b ∷ bs) ds
from_data_cr bs ds b r = chosen (λ x. Rest x bs ds) (eqb b 10) (state.Size 0 0) _ r (λ t rest. (bs, same_first b 10 bs bs t refl, body_rest bs ds rest)) (λ t rest. absurd rest)

unbroken_more : (b : ℕ) (x : List ℕ) → b ≢ 13 → Unbroken x → Unbroken (b ∷ x)
unbroken_more b x other u = grind arith

-- a line that begins with CR, and another CR before it
cr_more : (x t bs : List ℕ) → 13 ∷ bs ≡ x ++ (CRLF ++ t) → Unbroken x → Unbroken (13 ∷ x)
cr_more [] t bs is u = tt
cr_more (c ∷ x) t bs is u = (λ cr lf. let z : 13 ≡ c = cc in omega arith, u)

module _ (b : ℕ) (bs : List ℕ) where
  long_other : b ≢ 13 → InLine bs → LongLine (b ∷ bs)
  long_other other l = (b ∷ l.0, l.1, ap (λ x. b ∷ x) l.2, unbroken_more b l.0 other l.3, l.4, omega arith)

  long_cr_other : b ≢ 13 → b ≢ 10 → InLine bs → LongLine (13 ∷ (b ∷ bs))
  long_cr_other no-cr no-lf l = (13 ∷ (b ∷ l.0), l.1, ap (λ x. 13 ∷ (b ∷ x)) l.2, (λ cr. no-lf, unbroken_more b l.0 no-cr l.3), l.4, omega arith)

  long_cr : b ≡ 13 → InLine (13 ∷ bs) → LongLine (13 ∷ (b ∷ bs))
  long_cr is l = (13 ∷ l.0, l.1, ap (λ c. 13 ∷ (c ∷ bs)) is ∙ ap (λ x. 13 ∷ x) l.2, cr_more l.0 l.1 bs l.2 l.3, l.4, omega arith)

long_lines : (bs : List ℕ) → LongLine bs → Lines bs
long_lines bs l = subst Lines (sym l.2) (Lines.line l.0 l.5 l.3 l.4)

long_in_line : (bs : List ℕ) → LongLine bs → InLine bs
long_in_line bs l = (l.0, l.1, l.2, l.3, l.4)

-- where a byte led in a line; none where it ended the trailer
abbrev Led : Option Line → List ℕ → Type 0
Led (Some at) bs = LinesFrom at bs
Led None bs = bs ≡ []

from_line : (at : Line) (b : ℕ) (bs : List ℕ) → Led (line_after at b) bs → LinesFrom at (b ∷ bs)
from_line line.Start b bs r =
    chosen (λ x. Led x bs) (eqb b 13) (Some line.StartCr) (Some line.Inside) r (λ t l. subst Lines (sym (same_first b 13 bs bs t refl)) l) (λ t l. long_lines (b ∷ bs) (long_other b bs (eqb-false b 13 t) l))
from_line line.StartCr b bs r =
    chosen (λ x. Led x bs) (eqb b 10) None _ r (λ t none. subst Lines (ap (λ l. 13 ∷ l) (sym (same_first b 10 bs [] t none))) Lines.blank) (λ no-lf r.
    chosen (λ x. Led x bs) (eqb b 13) (Some line.InsideCr) (Some line.Inside) r (λ t l. long_lines (13 ∷ (b ∷ bs)) (long_cr b bs (eqb-true b 13 t) l)) (λ t l. long_lines (13 ∷ (b ∷ bs)) (long_cr_other b bs (eqb-false b 13 t) (eqb-false b 10 no-lf) l)))
from_line line.Inside b bs r =
    chosen (λ x. Led x bs) (eqb b 13) (Some line.InsideCr) (Some line.Inside) r (λ t l. subst InLine (sym (same_first b 13 bs bs t refl)) l) (λ t l. long_in_line (b ∷ bs) (long_other b bs (eqb-false b 13 t) l))
from_line line.InsideCr b bs r =
    chosen (λ x. Led x bs) (eqb b 10) (Some line.Start) _ r (λ t l. ([], bs, ap (λ l. 13 ∷ l) (same_first b 10 bs bs t refl), tt, l)) (λ no-lf r.
    chosen (λ x. Led x bs) (eqb b 13) (Some line.InsideCr) (Some line.Inside) r (λ t l. long_in_line (13 ∷ (b ∷ bs)) (long_cr b bs (eqb-true b 13 t) l)) (λ t l. long_in_line (13 ∷ (b ∷ bs)) (long_cr_other b bs (eqb-false b 13 t) (eqb-false b 10 no-lf) l)))

from_trailer : (bs ds : List ℕ) (b j : ℕ) (at : Line) → Rest (next_state (state.Trailer j at) b) bs ds → Rest (state.Trailer j at) (b ∷ bs) ds
from_trailer bs ds b j at r few = let l = by (line_after at b) r in (from_line at b bs l.0, l.1, l.2)
  where
    by : (o : Option Line) → Rest (after_trailer j o) bs ds → Led o bs × (j + suc (length bs) ≤ 1024) × (ds ≡ [])
    by (Some to) r =
        chosen (λ x. Rest x bs ds) (ltb j 1023) (state.Trailer (j + 1) to) _ r (λ t rest.
        let less : j < 1023 = ltb-true j 1023 t in
        let lines = rest (omega arith) in
        (lines.0, omega (arith, lines.1), lines.2)) (λ t rest. absurd rest)
    by None rest = (rest.0, omega (arith, ap length rest.0), rest.1)

-- one byte before the rest
before : (at : State) (bs ds : List ℕ) (b : ℕ) → over at ≡ false → Rest (next_state at b) bs ds → Rest at (b ∷ bs) (data_byte at b ++ ds)
before (state.Size k v) bs ds b live r = from_digits bs ds b k v (digit_of b) refl r
before (state.Extension j v) bs ds b live r = from_extension bs ds b j v r
before (state.SizeCr v) bs ds b live r = from_size_cr bs ds b v r
before (state.Data zero) bs ds b live r = from_data bs ds b zero r
before (state.Data (suc n)) bs ds b live r = from_data bs ds b (suc n) r
before state.DataCr bs ds b live r = from_data_cr bs ds b r
before (state.Trailer j at) bs ds b live r = from_trailer bs ds b j at r
before state.Done bs ds b live r = absurd (true≢false live)
before (state.Failed c) bs ds b live r = absurd (true≢false live)

drawn_first : (at : State) (b : ℕ) (bs : List ℕ) → drawn_in at (b ∷ bs) ≡ suc (length bs) → (over at ≡ false) × (drawn_in (next_state at b) bs ≡ length bs)
drawn_first at b bs all = grind (arith, drawn_over, drawn_more)

pub reads : (at : State) (bs : List ℕ) → state_after at bs ≡ state.Done → drawn_in at bs ≡ length bs → Rest at bs (data_in at bs)
reads at [] ends all = subst (λ s. Rest s [] []) (sym ends) (refl, refl)
reads at (b ∷ bs) ends all =
    let here = drawn_first at b bs all in
    before at bs (data_in (next_state at b) bs) b here.0 (reads (next_state at b) bs ends here.1)
