-- The check accepts exactly what records a connection: what is laid out so it accepts.
use Rattle.std.proofs.Common.{◌≡◌, ℕ, ◌*◌, true, eqb, List, [], ◌∷◌, ◌++◌, length, Ok, sym, refl, ap, ◌∙◌, arith}
use Rattle.std.proofs.lemmas.List.{append_assoc, append-nil, take_at, drop_at, length-append}
use Rattle.std.proofs.lemmas.Bool.{le-leb, le-ltb, eq-eqb, and_from}
use Rattle.carrier.specs.declared.endings.Ending.{Ending}
use Rattle.carrier.specs.declared.endings.Ending.TheVariants.{Clean, Broken}
use Rattle.capture.specs.Pieces.{numbers, total, none_empty}
use Rattle.capture.specs.Sections.{counted, parted, section, sections}
use Rattle.capture.specs.Captures.{pieced, ended, checked}
use Rattle.capture.specs.Recordings.{Writes, WritesAll, Section, Marks, Recorded, AcceptsExactlyCaptures}
use Rattle.capture.proofs.Sums.{none_empty_decides}
use Rattle.capture.proofs.Accepted.{accepted}

counted_of : (n : ℕ) (count rest : List ℕ) → Writes n count → counted (count ++ rest) ≡ Ok (n, rest)
counted_of n count rest w = ap (λ (bs : List ℕ). counted (bs ++ rest)) w.4 ∙ ap (λ (m : ℕ). Ok (m, rest)) (sym w.5)

parted_of : (n : ℕ) (xs rest : List ℕ) → length xs ≡ n → parted n (xs ++ rest) ≡ Ok (xs, rest)
parted_of n xs rest h =
    let l = length-append xs rest in
    rw (le-leb n (length (xs ++ rest)) (omega arith), take_at xs rest n h, drop_at xs rest n h)

headed_of : (n : ℕ) (items bs rest : List ℕ) → Section n items bs → counted (bs ++ rest) ≡ Ok (n, items ++ rest)
headed_of n items bs rest s = ap counted (ap (λ (xs : List ℕ). xs ++ rest) s.1 ∙ append_assoc s.0 items rest) ∙ counted_of n s.0 (items ++ rest) s.2

section_of : (items bs rest : List ℕ) → Section (length items) items bs → section (bs ++ rest) ≡ Ok (items, rest)
section_of items bs rest s = rw (headed_of (length items) items bs rest s) (parted_of (length items) items rest refl)

numbers_of : (ps bs : List ℕ) → WritesAll ps bs → (numbers bs ≡ ps) × (length bs ≡ 4 * length ps)
numbers_of [] bs w = (ap numbers w, ap length w)
numbers_of (p ∷ ps) bs w =
    let q = w.2 ∙ ap (λ (front : List ℕ). front ++ w.1) w.3.4 in
    let more = numbers_of ps w.1 w.4 in
    let len = ap length q in
    (ap numbers q ∙ ap (λ (m : ℕ). m ∷ numbers w.1) (sym w.3.5) ∙ ap (λ (ms : List ℕ). p ∷ ms) more.0, omega arith)

ended_of : (mark n : ℕ) (e : Ending) → Marks mark n e → ended (mark ∷ []) n ≡ Ok e
ended_of mark n Clean m = ap (λ (x : ℕ). ended (x ∷ []) n) m
ended_of mark n (Broken f) m = ap (λ (x : ℕ). ended (x ∷ []) n) m.0 ∙ ap (λ g. Ok (Broken g)) (sym m.1)

module _ {pieces bytes : List ℕ} {ending : Ending} {input : List ℕ} (r : Recorded pieces bytes ending input) where
  sections_of : sections (r.first ++ (r.second ++ r.third)) ≡ Ok (r.lengths, bytes, r.mark ∷ [])
  sections_of =
      let last : section r.third ≡ Ok (r.mark ∷ [], []) = ap section (sym (append-nil r.third)) ∙ section_of (r.mark ∷ []) r.third [] r.third_section in
      rw (headed_of (length pieces) r.lengths r.first (r.second ++ r.third) r.first_section, le-ltb 4096 (length pieces) r.few, parted_of (4 * length pieces) r.lengths (r.second ++ r.third) (numbers_of pieces r.lengths r.writes).1, section_of bytes r.second r.third r.second_section, last)

  pieced_of : pieced pieces (length bytes) ≡ true
  pieced_of = and_from (none_empty pieces) (eqb (total pieces) (length bytes)) ((none_empty_decides pieces).1 r.full) (eq-eqb (total pieces) (length bytes) r.adds)

  checked_of : checked input ≡ Ok (pieces, bytes, ending)
  checked_of = ap checked r.laid ∙ rw (sections_of, (numbers_of pieces r.lengths r.writes).0, pieced_of, ended_of r.mark (length bytes) ending r.marks)

pub accepts_exactly_captures : AcceptsExactlyCaptures
accepts_exactly_captures pieces bytes ending input = (accepted pieces bytes ending input, checked_of)
