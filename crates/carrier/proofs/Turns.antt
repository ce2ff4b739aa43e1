-- One turn of filling a stretch by Pulls, and its two ends, for any carrier.
use Rattle.std.proofs.Common.{◌≡◌, ℕ, ◌+◌, ◌-◌, ◌<◌, ◌≤◌, Bool, true, false, List, ◌++◌, length, take, drop, Ok, Err, Result, sym, ap, ◌∙◌, arith, append_assoc, append-nil, length-drop, take-add}
use borrow.Rule.Slice.PartMut.{put_mid}
use Rattle.std.proofs.lemmas.Grind.{common_steps}
use Rattle.std.proofs.lemmas.List.{take_all, take_at, take_rest, drop-drop, drop_all, drop_at, length-take-le}
use Rattle.carrier.specs.declared.endings.Ending.{Ending}
use Rattle.carrier.specs.declared.filling.Short.{Short}
use Rattle.carrier.specs.Pulls.{Adds, Answers}
use Rattle.carrier.specs.Fills.{fills, stretched, used, ran_out}

-- s gave its first a bytes and is now t; they stand in front of the stretch, which had w and now has out
pub record Filled {S : Type 0} (coming : S → List ℕ) (lacks : S → ℕ → Bool → S → Type 0) (s : S) (w : List ℕ) (a : ℕ) (t : S) (out : List ℕ) : Type 0 where
  pub fits : a ≤ length w
  pub is : out ≡ take a (coming s) ++ drop a w
  pub gave : lacks s a false t

module _ {S : Type 0} {coming : S → List ℕ} {ending : S → Ending} {lacks : S → ℕ → Bool → S → Type 0} (adds : Adds coming ending lacks) {s t : S} {w out : List ℕ} {a : ℕ} (so_far : Filled coming lacks s w a t out) where
  came : a ≤ length (coming s)
  came = (adds.spends s t a false so_far.gave).0

  left : coming t ≡ drop a (coming s)
  left = (adds.spends s t a false so_far.gave).1

  -- a Pull is lent what stands behind the front
  abbrev lent : List ℕ
  lent = take (length w - a) (drop a out)

  is_lent : lent ≡ drop a w
  is_lent = let long = length-take-le a (coming s) came in rw (so_far.is, drop_at, take_rest)

  -- and makes ys of it
  put : (ys : List ℕ) → put_mid a (length w - a) out ys ≡ take a (coming s) ++ ys
  put ys =
      let long = length-take-le a (coming s) came in
      rw (so_far.is, take_at, drop_at, drop_all (length w - a) (drop a w) (simp length-drop (omega arith)), append-nil)

  -- it gives n bytes more
  pub turn : (u : S) (ys : List ℕ) (n : ℕ) → Answers (coming t) (ending t) lent (Ok n) (coming u) (ending u) ys → lacks t n false u → Filled coming lacks s w (a + n) u (put_mid a (length w - a) out ys)
  turn u ys n told more =
      record {
        fits = omega (arith, so_far.fits, rw (is_lent, length-drop) at told.1);
        is = rw (put ys, told.5, is_lent, left, drop-drop, ← append_assoc, take-add);
        gave = adds.joined s t u a n false false so_far.gave more;
      }

  -- what `fill` promises where it answers r, with u the carrier then and ys the stretch
  abbrev pub Ends : Result (Unit {0}) Short → S → List ℕ → Type 0
  Ends r u ys =
      record {
        answer : r ≡ fills (coming s) (ending s) (length w);
        bytes : ys ≡ stretched (coming s) w;
        lacks : lacks s (used (coming s) (length w)) (ran_out r) u;
      }

  -- the stretch is full
  pub full : length w ≤ a → Ends (Ok tt) t out
  full whole =
      let c = came in
      let all : a ≡ length w = omega (arith, so_far.fits) in
      let uses : used (coming s) (length w) ≡ a = omega arith in
      record {
        answer = grind (arith, common_steps);
        bytes = so_far.is ∙ rw (drop_all a w whole, drop_all (length (coming s)) w (omega arith), all);
        lacks = rw uses so_far.gave;
      }

  -- or a Pull tells the ending
  pub ran_out_here : (u : S) (ys : List ℕ) (e : Ending) → a < length w → Answers (coming t) (ending t) lent (Err e) (coming u) (ending u) ys → lacks t 0 true u → Ends (Err (record { came = a; ending = e })) u (put_mid a (length w - a) out ys)
  ran_out_here u ys e room told more =
      let c = came in
      let none : length (drop a (coming s)) ≡ 0 = ap length (sym left ∙ told.1) in
      let all : a ≡ length (coming s) = omega (arith, length-drop a (coming s)) in
      let uses : used (coming s) (length w) ≡ a + 0 = omega arith in
      record {
        answer = grind (arith, common_steps, told.2, adds.ends s t a false so_far.gave);
        bytes = rw (put ys, told.5, is_lent, take_all (length w) (coming s) (omega arith), all, take_all (length (coming s)) (coming s) (omega arith));
        lacks = rw uses (adds.joined s t u a 0 false true so_far.gave more);
      }
