use Rattle.std.proofs.Common.{length-drop, ◌≡◌, ℕ, ◌-◌, ◌<◌, true, List, [], ◌∷◌, ◌++◌, length, take, drop, Err, sym, refl, ap, ◌∙◌, arith}
use Rattle.std.proofs.lemmas.List.{nil_from_length, length-take-le, take-take, take_all}
use Rattle.carrier.specs.declared.endings.Ending.{Ending}
use Rattle.capture.specs.declared.Capture.{Capture}
use Rattle.capture.specs.Pieces.{numbers}
use Rattle.capture.specs.Captures.{pieced}
use Rattle.capture.specs.Replays.{held, pieces, less}
use Rattle.capture.proofs.Coming.{to_come_some, few_to_come, made_up_parts, made_up_handed, answer_told, answer_taken}
use Rattle.capture.proofs.replaying.CaptureCarrier.pull.Goals as goal

-- where no piece is to come, no byte is
no_bytes : (s : Capture) → pieces s ≡ [] → s.bytes.now ≡ []
no_bytes s p = let m : pieced [] (length s.bytes.now) ≡ true = rw p at s.made_up in nil_from_length s.bytes.now (grind arith)

-- what a capture and one that holds the same have in common, as a piece is told or handed out
module _ (s t : Capture) (same : held t ≡ held s) where
  bytes : t.bytes.now ≡ s.bytes.now
  bytes = ap (λ (h : List ℕ × List ℕ × Ending). h.1) same

  ending : t.ending ≡ s.ending
  ending = ap (λ (h : List ℕ × List ℕ × Ending). h.2) same

  none : pieces t ≡ [] → pieces s ≡ []
  none p = sym (ap (λ (h : List ℕ × List ℕ × Ending). h.0) same) ∙ p

  first : 0 < t.left → pieces s ≡ t.left ∷ numbers t.lengths.now
  first h = sym (ap (λ (h : List ℕ × List ℕ × Ending). h.0) same) ∙ to_come_some t.left (numbers t.lengths.now) h

pub returns-then-self-eq0 : goal.returns-then-self-eq0
returns-then-self-eq0 c =
    let s : Capture = c.args.self.now in
    let t : Capture = c.begin.new.self in
    let p : pieces t ≡ [] = c.begin.ensures.begun c.if-self-eq0.true in
    let q = none s t c.begin.ensures.same p in
    let e = ending s t c.begin.ensures.same in
    let room : 0 < length c.args.out.now = grind arith in
    record {
      answers = (room, no_bytes s q, sym e, no_bytes t p, e, refl);
      lacks = ((omega arith, bytes s t c.begin.ensures.same, λ h. no_bytes t p), e);
      one_piece = ap Err e ∙ sym (answer_told (pieces s) s.ending (length c.args.out.now) q room);
      left = p ∙ sym (ap (less 0) q);
    }

pub invariant_of-self : goal.invariant_of-self
invariant_of-self c =
    let t = c.begin.new.self in
    let n = c.hand_out-n.result in
    let fits = made_up_parts t.left (numbers t.lengths.now) (length t.bytes.now) t.made_up in
    let piece = length-take-le t.left t.bytes.now (omega arith) in
    let count = c.hand_out-n.ensures.count in
    record {
      few = let few = few_to_come (t.left - n) t.left (numbers t.lengths.now) (omega arith) in omega (arith, t.few);
      made_up = made_up_handed t.left n (numbers t.lengths.now) (length t.bytes.now) _ (omega (arith, piece, count)) (omega (arith, piece, count, length-drop n t.bytes.now)) t.made_up;
    }

pub returns : goal.returns
returns c =
    let s : Capture = c.args.self.now in
    let t : Capture = c.begin.new.self in
    let w = c.args.out.now in
    let n = c.hand_out-n.result in
    let handed = c.hand_out-n.ensures in
    let b = bytes s t c.begin.ensures.same in
    let e = ending s t c.begin.ensures.same in
    let q = first s t c.begin.ensures.same (omega arith) in
    let len = ap length b in
    let fits = made_up_parts t.left (numbers t.lengths.now) (length t.bytes.now) t.made_up in
    let piece = length-take-le t.left t.bytes.now (omega arith) in
    let count = handed.count in
    let room : 0 < length w = grind arith in
    let rest = take_all (length t.bytes.now - n) (drop n t.bytes.now) (omega (arith, length-drop n t.bytes.now)) ∙ ap (drop n) b in
    record {
      answers = (
        omega (arith, piece, count),
        omega (arith, piece, count),
        λ h. omega (arith, piece, count),
        rest,
        e,
        handed.out ∙ ap (λ bs. bs ++ drop n w) (take-take n t.left t.bytes.now (omega (arith, piece, count)) ∙ ap (take n) b),
      );
      lacks = ((omega (arith, piece, count), rest, λ h. cc), e);
      one_piece = rw q (sym (answer_taken t.left (numbers t.lengths.now) s.ending (length w) n room (omega (arith, piece, count))));
      left = rw q refl;
    }
