-- A call is lent the first bytes of a work buffer: what it lays over them lies over the buffer, whose other bytes stay.
use Rattle.std.proofs.Common.{◌≡◌, ℕ, zero, suc, ◌+◌, ◌≤◌, List, ◌++◌, length, take, drop, Option, sym, ap, ◌∙◌, append_assoc, take-append-drop, arith, length-append, length-drop, length-take}
use Rattle.std.proofs.lemmas.Grind.{common_steps}
use Rattle.std.proofs.lemmas.List.{drop-append-le}
use Rattle.carrier.specs.declared.endings.Ending.{Ending}
use Rattle.packet.specs.Judging.{stopped}
use Rattle.receiver.specs.declared.answers.Counted.{Counted}
use Rattle.receiver.specs.declared.standings.Standing.{Standing}
use Rattle.receiver.specs.Draws.{used, laid_over}
use Rattle.receiver.specs.Steps.{steps, reading_used, reading_front}
use Rattle.receiver.specs.Passes.{passing, passes, by_count, stopping, PassRun}
use Rattle.receiver.specs.Views.{View}

-- a buffer does not get shorter, and keeps its length only where all fits
pub laid_grows : (f w : List ℕ) → length w ≤ length (laid_over f w)
laid_grows f w = omega (arith, length-append {A = ℕ}, length-drop {A = ℕ})

laid_fits : (f w : List ℕ) → length (laid_over f w) ≤ length w → length f ≤ length w
laid_fits f w h = omega (arith, length-append {A = ℕ}, length-drop {A = ℕ})

-- what fits into the front lies over the whole
laid_beside : (f a b : List ℕ) → length f ≤ length a → laid_over f (a ++ b) ≡ laid_over f a ++ b
laid_beside f a b fits = rw (drop-append-le, append_assoc)

-- and where it was laid over the first n bytes of w, which stay n, it lies over w
pub lent_lies : (f w x : List ℕ) (n : ℕ) → n ≤ length w → x ≡ laid_over f (take n w) → length x ≡ n → x ++ drop n w ≡ laid_over f w
lent_lies f w x n enough is kept =
    let long : length (take n w) ≡ n = simp length-take (omega arith) in
    let lies = laid_beside f (take n w) (drop n w) (laid_fits f (take n w) (omega (arith, ap length is))) in
    rw is (sym (rw take-append-drop at lies))

-- what is passed behind the packet that a Step reads
abbrev pub next : ℕ → Standing → List ℕ → Ending → List ℕ → ℕ → ℕ → ℕ → PassRun
next k s bs e w d t u = passing k (steps s bs e).standing (drop (used bs) bs) e (laid_over (reading_front s.progress bs) w) d t (u + reading_used s.progress bs)

-- the run with bytes behind its work buffer
abbrev pub beside : List ℕ → PassRun → PassRun
beside b run = record { passed = run.passed; standing = run.standing; buffer = run.buffer ++ b; usage = run.usage }

-- what holds of each of three runs holds of the one that a count chooses
grows_by : (c : Option Counted) (n : ℕ) (x y z : PassRun) → n ≤ length x.buffer → n ≤ length y.buffer → n ≤ length z.buffer → n ≤ length (by_count c x y z).buffer
grows_by c n x y z h i j = grind (arith, common_steps)

beside_by : (c : Option Counted) (n : ℕ) (b : List ℕ) (x y z x' y' z' : PassRun) → (length x.buffer ≤ n → x' ≡ beside b x) → (length y.buffer ≤ n → y' ≡ beside b y) → (length z.buffer ≤ n → z' ≡ beside b z) → length (by_count c x y z).buffer ≤ n → by_count c x' y' z' ≡ beside b (by_count c x y z)
beside_by c n b x y z x' y' z' h i j short = grind (arith, common_steps)

pass_grows : (k : ℕ) (s : Standing) (bs : List ℕ) (e : Ending) (w : List ℕ) (d t u : ℕ) → length w ≤ length (passing k s bs e w d t u).buffer
pass_grows zero s bs e w d t u = laid_grows (reading_front s.progress bs) w
pass_grows (suc k) s bs e w d t u =
    let lays = laid_grows (reading_front s.progress bs) w in
    let grows = λ (d' t' : ℕ). pass_grows k (steps s bs e).standing (drop (used bs) bs) e (laid_over (reading_front s.progress bs) w) d' t' (u + reading_used s.progress bs) in
    grows_by _ _ (next k s bs e w (stopped (d + 1)) t u) (next k s bs e w d (stopped (t + 1)) u) (stopping s bs e w d t u) (omega (arith, lays, grows (stopped (d + 1)) t)) (omega (arith, lays, grows d (stopped (t + 1)))) lays

-- a Pass that keeps the length of its work buffer does the same with bytes behind it
pass_beside : (k : ℕ) (s : Standing) (bs : List ℕ) (e : Ending) (a b : List ℕ) (d t u : ℕ) → length (passing k s bs e a d t u).buffer ≤ length a → passing k s bs e (a ++ b) d t u ≡ beside b (passing k s bs e a d t u)
pass_beside zero s bs e a b d t u short = let f = reading_front s.progress bs in rw (laid_beside f a b (laid_fits f a short))
pass_beside (suc k) s bs e a b d t u short =
    let f = reading_front s.progress bs in
    let stops : length (laid_over f a) ≤ length a → stopping s bs e (a ++ b) d t u ≡ beside b (stopping s bs e a d t u) = λ less. rw (laid_beside f a b (laid_fits f a less)) in
    let goes_on : (d' t' : ℕ) → length (next k s bs e a d' t' u).buffer ≤ length a → next k s bs e (a ++ b) d' t' u ≡ beside b (next k s bs e a d' t' u) =
    λ d' t' less.
    let grows = pass_grows k (steps s bs e).standing (drop (used bs) bs) e (laid_over f a) d' t' (u + reading_used s.progress bs) in
    rw (laid_beside f a b (laid_fits f a (omega (arith, grows, less))))
    (pass_beside k (steps s bs e).standing (drop (used bs) bs) e (laid_over f a) b d' t' (u + reading_used s.progress bs) (omega (arith, less, laid_grows f a))) in
    beside_by _ _ b _ _ _ (next k s bs e (a ++ b) (stopped (d + 1)) t u) (next k s bs e (a ++ b) d (stopped (t + 1)) u) (stopping s bs e (a ++ b) d t u) (goes_on (stopped (d + 1)) t) (goes_on d (stopped (t + 1))) stops short

-- a Pass that was lent the first n bytes of w, and keeps their number
pub pass_lent : (v : View) (w x : List ℕ) (n : ℕ) → n ≤ length w → x ≡ (passes v (take n w)).buffer → length x ≡ n → passes v w ≡ beside (drop n w) (passes v (take n w))
pass_lent v w x n enough is kept =
    let long : length (take n w) ≡ n = simp length-take (omega arith) in
    let apart : passes v (take n w ++ drop n w) ≡ beside (drop n w) (passes v (take n w)) = pass_beside (suc (length v.coming)) v.standing v.coming v.ending (take n w) (drop n w) 0 0 0 (omega (arith, ap length is)) in
    ap (passes v) (sym (take-append-drop n w)) ∙ apart
