-- The check accepts exactly what records a connection: what it accepts is laid out so.
use Rattle.std.proofs.Common.{◌≡◌, ℕ, zero, suc, ◌*◌, ◌≤◌, Bool, true, false, cond, eqb, ltb, leb, List, [], ◌∷◌, ◌++◌, length, take, drop, Ok, Err, Result, sym, refl, ap, ◌∙◌, subst, arith}
use Rattle.std.proofs.lemmas.List.{append_assoc, append-nil, take-append-drop, length-take-le, nil_from_length}
use Rattle.std.proofs.lemmas.Bool.{leb-true, ltb-false, eqb-true, and_parts}
use Rattle.carrier.specs.declared.endings.Ending.{Ending}
use Rattle.carrier.specs.declared.endings.Ending.TheVariants.{Clean, Broken}
use Rattle.capture.specs.declared.sections.CaptureRefusal.{CaptureRefusal}
use Rattle.capture.specs.declared.sections.CaptureRefusal.TheVariants.{TooManyPieces, CutShort, PiecesDisagree}
use Rattle.capture.specs.Pieces.{number, numbers, total, none_empty}
use Rattle.capture.specs.Sections.{◌>>=◌, counted, parted, section, sections}
use Rattle.capture.specs.Captures.{pieced, fault_at, ended, checked}
use Rattle.capture.specs.Recordings.{Writes, WritesAll, Section, Marks, Recorded}
use Rattle.capture.proofs.Sums.{none_empty_decides}

same : {A : Type 0} (a b : A) → ◌≡◌ {A = Result A CaptureRefusal} (Ok a) (Ok b) → a ≡ b
same a b h = cc

-- what was accepted went through each step
bind_ok : {A B : Type 0} (r : Result A CaptureRefusal) (f : A → Result B CaptureRefusal) (b : B) → (r >>= f) ≡ Ok b → (a : A) × (r ≡ Ok a) × (f a ≡ Ok b)
bind_ok (Ok a) f b h = (a, refl, h)
bind_ok (Err e) f b h = absurd (cc)

unless_ok : {A : Type 0} (t : Bool) (e : CaptureRefusal) (r : Result A CaptureRefusal) (a : A) → cond t (Err e) r ≡ Ok a → (t ≡ false) × (r ≡ Ok a)
unless_ok true e r a h = absurd (cc)
unless_ok false e r a h = (refl, h)

if_ok : {A : Type 0} (t : Bool) (r : Result A CaptureRefusal) (e : CaptureRefusal) (a : A) → cond t r (Err e) ≡ Ok a → (t ≡ true) × (r ≡ Ok a)
if_ok true r e a h = (refl, h)
if_ok false r e a h = absurd (cc)

counted_ok : (bs : List ℕ) (c : ℕ × List ℕ) → counted bs ≡ Ok c → (count : List ℕ) × (bs ≡ count ++ c.1) × Writes c.0 count
counted_ok [] c h = absurd (cc)
counted_ok (x ∷ []) c h = absurd (cc)
counted_ok (x ∷ y ∷ []) c h = absurd (cc)
counted_ok (x ∷ y ∷ z ∷ []) c h = absurd (cc)
counted_ok (x ∷ y ∷ z ∷ w ∷ bs) c h =
    let e = same (number x y z w, bs) c h in
    (x ∷ y ∷ z ∷ w ∷ [], ap (λ (d : ℕ × List ℕ). x ∷ y ∷ z ∷ w ∷ d.1) e, (x, y, z, w, refl, sym (ap (λ (d : ℕ × List ℕ). d.0) e)))

parted_ok : (n : ℕ) (bs : List ℕ) (p : List ℕ × List ℕ) → parted n bs ≡ Ok p → (bs ≡ p.0 ++ p.1) × (length p.0 ≡ n)
parted_ok n bs p h =
    let i = if_ok (leb n (length bs)) (Ok (take n bs, drop n bs)) CutShort p h in
    let e = same (take n bs, drop n bs) p i.1 in
    (sym (take-append-drop n bs) ∙ ap (λ (q : List ℕ × List ℕ). q.0 ++ q.1) e, sym (ap (λ (q : List ℕ × List ℕ). length q.0) e) ∙ length-take-le n bs (leb-true n (length bs) i.0))

-- a count and so many bytes make a section
joined : (bs rest items after : List ℕ) (n : ℕ) → (count : List ℕ) × (bs ≡ count ++ rest) × Writes n count → rest ≡ items ++ after → (front : List ℕ) × (bs ≡ front ++ after) × Section n items front
joined bs rest items after n c e = (c.0 ++ items, c.1 ∙ ap (λ (r : List ℕ). c.0 ++ r) e ∙ sym (append_assoc c.0 items after), (c.0, refl, c.2))

section_ok : (bs : List ℕ) (p : List ℕ × List ℕ) → section bs ≡ Ok p → (front : List ℕ) × (bs ≡ front ++ p.1) × Section (length p.0) p.0 front
section_ok bs p h =
    let b = bind_ok (counted bs) (λ c. parted c.0 c.1) p h in
    let q = parted_ok b.0.0 b.0.1 p b.2 in
    let j = joined bs b.0.1 p.0 p.1 b.0.0 (counted_ok bs b.0 b.1) q.0 in
    subst (λ (n : ℕ). (front : List ℕ) × (bs ≡ front ++ p.1) × Section n p.0 front) (sym q.1) j

-- the three sections, one behind the other
record Laid (s : List ℕ × List ℕ × List ℕ) (input : List ℕ) : Type 0 where
  pub count : ℕ
  pub first : List ℕ
  pub second : List ℕ
  pub third : List ℕ
  pub laid : input ≡ first ++ (second ++ third)
  pub first_section : Section count s.0 first
  pub second_section : Section (length s.1) s.1 second
  pub third_section : Section (length s.2) s.2 third
  pub few : count ≤ 4096
  pub fours : length s.0 ≡ 4 * count

sections_ok : (input : List ℕ) (s : List ℕ × List ℕ × List ℕ) → sections input ≡ Ok s → Laid s input
sections_ok input s h =
    let pieces = bind_ok (counted input) _ s h in
    let lengths = bind_ok (cond (ltb 4096 pieces.0.0) (Err TooManyPieces) (parted (4 * pieces.0.0) pieces.0.1)) _ s pieces.2 in
    let bytes = bind_ok (section lengths.0.1) _ s lengths.2 in
    let endings = bind_ok (section bytes.0.1) _ s bytes.2 in
    let most = unless_ok (ltb 4096 pieces.0.0) TooManyPieces (parted (4 * pieces.0.0) pieces.0.1) lengths.0 lengths.1 in
    let end = if_ok (eqb (length endings.0.1) 0) (Ok (lengths.0.0, bytes.0.0, endings.0.0)) CutShort s endings.2 in
    let items = parted_ok (4 * pieces.0.0) pieces.0.1 lengths.0 most.1 in
    let one = joined input pieces.0.1 lengths.0.0 lengths.0.1 pieces.0.0 (counted_ok input pieces.0 pieces.1) items.0 in
    let two = section_ok lengths.0.1 bytes.0 bytes.1 in
    let three = section_ok bytes.0.1 endings.0 endings.1 in
    let none = nil_from_length endings.0.1 (eqb-true (length endings.0.1) 0 end.0) in
    let last = three.1 ∙ ap (λ (r : List ℕ). three.0 ++ r) none ∙ append-nil three.0 in
    subst (λ t. Laid t input) (same (lengths.0.0, bytes.0.0, endings.0.0) s end.1) (record {
      count = pieces.0.0;
      first = one.0;
      second = two.0;
      third = three.0;
      laid = one.1 ∙ ap (λ (r : List ℕ). one.0 ++ r) (two.1 ∙ ap (λ (r : List ℕ). two.0 ++ r) last);
      first_section = one.2;
      second_section = two.2;
      third_section = three.2;
      few = ltb-false 4096 pieces.0.0 most.0;
      fours = items.1;
    })

-- so many times four bytes write so many numbers
numbers_ok : (n : ℕ) (bs : List ℕ) → length bs ≡ 4 * n → WritesAll (numbers bs) bs × (length (numbers bs) ≡ n)
numbers_ok zero [] h = (refl, refl)
numbers_ok zero (x ∷ bs) h = absurd (omega arith)
numbers_ok (suc n) [] h = absurd (omega arith)
numbers_ok (suc n) (x ∷ []) h = absurd (omega arith)
numbers_ok (suc n) (x ∷ y ∷ []) h = absurd (omega arith)
numbers_ok (suc n) (x ∷ y ∷ z ∷ []) h = absurd (omega arith)
numbers_ok (suc n) (x ∷ y ∷ z ∷ w ∷ bs) h =
    let more = numbers_ok n bs (omega arith) in
    ((x ∷ y ∷ z ∷ w ∷ [], bs, refl, (x, y, z, w, refl, refl), more.0), ap suc more.1)

ended_ok : (es : List ℕ) (n : ℕ) (e : Ending) → ended es n ≡ Ok e → (mark : ℕ) × (es ≡ mark ∷ []) × Marks mark n e
ended_ok [] n e h = absurd (cc)
ended_ok (zero ∷ []) n e h = (0, refl, subst (Marks 0 n) (same Clean e h) refl)
ended_ok (suc zero ∷ []) n e h = (1, refl, subst (Marks 1 n) (same (Broken (fault_at n)) e h) (refl, refl))
ended_ok (suc (suc x) ∷ []) n e h = absurd (cc)
ended_ok (x ∷ y ∷ es) n e h = absurd (cc)

pub sections_few : (input : List ℕ) (s : List ℕ × List ℕ × List ℕ) → sections input ≡ Ok s → length (numbers s.0) ≤ 4096
sections_few input s h = let l = sections_ok input s h in let n = numbers_ok l.count s.0 l.fours in omega arith

recorded : (s : List ℕ × List ℕ × List ℕ) (ending : Ending) (input : List ℕ) → Laid s input → pieced (numbers s.0) (length s.1) ≡ true → ended s.2 (length s.1) ≡ Ok ending → Recorded (numbers s.0) s.1 ending input
recorded s ending input l p e =
    let n = numbers_ok l.count s.0 l.fours in
    let m = ended_ok s.2 (length s.1) ending e in
    let sums = and_parts (none_empty (numbers s.0)) (eqb (total (numbers s.0)) (length s.1)) p in
    record {
      lengths = s.0;
      mark = m.0;
      first = l.first;
      second = l.second;
      third = l.third;
      laid = l.laid;
      first_section = subst (λ (k : ℕ). Section k s.0 l.first) (sym n.1) l.first_section;
      second_section = l.second_section;
      third_section = subst (λ (es : List ℕ). Section (length es) es l.third) m.1 l.third_section;
      writes = n.0;
      few = omega arith;
      full = (none_empty_decides (numbers s.0)).0 sums.0;
      adds = eqb-true (total (numbers s.0)) (length s.1) sums.1;
      marks = m.2;
    }

pub accepted : (pieces bytes : List ℕ) (ending : Ending) (input : List ℕ) → checked input ≡ Ok (pieces, bytes, ending) → Recorded pieces bytes ending input
accepted pieces bytes ending input h =
    let held = bind_ok (sections input) _ (pieces, bytes, ending) h in
    let end = bind_ok (cond (pieced (numbers held.0.0) (length held.0.1)) (ended held.0.2 (length held.0.1)) (Err PiecesDisagree)) _ (pieces, bytes, ending) held.2 in
    let test = if_ok (pieced (numbers held.0.0) (length held.0.1)) (ended held.0.2 (length held.0.1)) PiecesDisagree end.0 end.1 in
    subst (λ (t : List ℕ × List ℕ × Ending). Recorded t.0 t.1 t.2 input) (same (numbers held.0.0, held.0.1, end.0) (pieces, bytes, ending) end.2) (recorded held.0 end.0 input (sections_ok input held.0 held.1) test.0 test.1)
