-- The parts of drawing one packet: its head, its fixed fields and its payload.
use Rattle.std.proofs.Common.{◌≡◌, ℕ, ◌+◌, ◌-◌, ◌≤◌, Bool, true, false, leb, List, [], ◌∷◌, ◌++◌, length, take, drop, Ok, Result, sym, ap, ◌∙◌, append_assoc, arith, rules, length-drop, length-take}
use Rattle.std.proofs.lemmas.Bool.{le-leb}
use Rattle.std.proofs.lemmas.Grind.{common_steps}
use Rattle.std.proofs.lemmas.List.{places, same_lists}
use Rattle.carrier.specs.declared.endings.Ending.{Ending}
use Rattle.carrier.specs.Fills.{fills, stretched, used}
use Rattle.carrier.specs.Pulls.{Adds}
use Rattle.carrier.proofs.Fillings.{full_fill}
use Rattle.packet.specs.declared.wire.Kind.{Kind}
use Rattle.packet.specs.declared.wire.Head.{Head}
use Rattle.packet.specs.declared.wire.Fields.{Fields}
use Rattle.packet.specs.declared.grammar.PacketFault.{PacketFault}
use Rattle.packet.specs.Wire.{fixed, lawful, fields_of, head_of}
use Rattle.receiver.specs.Draws.{rest_drawn, rest_used, rest_front, laid_over}

-- four bytes came, which are the head r or what is wrong with it
pub head_came : (bs : List ℕ) (e : Ending) (r : Result Head PacketFault) (out : List ℕ) → Ok tt ≡ fills bs e 4 → out ≡ stretched bs (0 ∷ 0 ∷ 0 ∷ 0 ∷ []) → r ≡ head_of out → (leb 4 (length bs) ≡ true) × (head_of (take 4 bs) ≡ r) × (used bs 4 ≡ 4)
head_came bs e r out whole is reads =
    let four = full_fill bs e 4 whole in
    let first : out ≡ take 4 bs = grind (arith, common_steps) in
    (le-leb 4 (length bs) four, sym (reads ∙ ap head_of first), omega arith)

-- a lawful packet has room for its fixed fields, which are at most eight bytes
pub fixed_fits : (k : Kind) (n : ℕ) → lawful k n ≡ true → fixed k ≤ n
fixed_fits k n h = grind (arith, common_steps)

pub fixed_small : (k : Kind) → fixed k ≤ 8
fixed_small k = grind arith

-- the fields are read from the fixed bytes alone
pub fields_front : (k : Kind) (bs zs : List ℕ) → fixed k ≤ length bs → fields_of k (take (fixed k) bs ++ zs) ≡ fields_of k bs
fields_front k bs zs h = grind (arith, common_steps)

-- both fills were full, the first of n bytes for the fixed fields, the second of size bytes: a packet is drawn
packet_drawn : (h : Head) (bs cs : List ℕ) (e : Ending) (n size : ℕ) → fixed h.kind ≤ h.length → n ≡ fixed h.kind → size ≡ h.length - fixed h.kind → cs ≡ drop (used bs n) bs → Ok tt ≡ fills bs e n → Ok tt ≡ fills cs e size → (zs ys out : List ℕ) → out ≡ take n bs ++ zs → (fs : Fields) → fs ≡ fields_of h.kind (out ++ ys) → Ok (record { kind = h.kind; length = h.length; fields = fs }) ≡ rest_drawn h bs e
packet_drawn h bs cs e n size room fields payload left whole full zs ys out is fs same =
    grind (arith, common_steps, fields_front, append_assoc, length-drop)

-- bytes filled into the first p bytes of a buffer lie over its front
lies_over : (bs w out : List ℕ) (p : ℕ) → p ≤ length w → out ≡ stretched bs (take p w) → out ++ drop p w ≡ laid_over (take p bs) w
lies_over bs w out p fits is = rw is (same_lists _ _ (search (rules, places)) (λ k d h. grind (arith, places)))

-- Behind the head h, the carrier s gave the n bytes of the fixed fields and is now t; the first p bytes of the work buffer w are lent for the payload.
-- What the second fill then comes to: where the payload lies, what both fills used, and the packet if all came.
pub record BehindFields {C : Type 0} (coming : C → List ℕ) (ending : C → Ending) (lacks : C → ℕ → Bool → C → Type 0) (h : Head) (s t : C) (n : ℕ) (w : List ℕ) (p : ℕ) : Type 0 where
  pub lies : (out : List ℕ) → out ≡ stretched (coming t) (take p w) → out ++ drop p w ≡ laid_over (rest_front h (coming s)) w
  pub lack : (u : C) (told : Bool) → lacks t (used (coming t) (length (take p w))) told u → lacks s (rest_used h (coming s)) told u
  pub whole : Ok tt ≡ fills (coming t) (ending t) (length (take p w)) → (zs ys out : List ℕ) → out ≡ take n (coming s) ++ zs → (fs : Fields) → fs ≡ fields_of h.kind (out ++ ys) → Ok (record { kind = h.kind; length = h.length; fields = fs }) ≡ rest_drawn h (coming s) (ending s)

pub behind_fields : {C : Type 0} {coming : C → List ℕ} {ending : C → Ending} {lacks : C → ℕ → Bool → C → Type 0} → Adds coming ending lacks → (h : Head) → lawful h.kind h.length ≡ true → {s t : C} {n : ℕ} → n ≡ fixed h.kind → Ok tt ≡ fills (coming s) (ending s) n → lacks s (used (coming s) n) false t → (w : List ℕ) (p : ℕ) → p ≡ h.length - fixed h.kind → p ≤ length w → BehindFields coming ending lacks h s t n w p
behind_fields {coming = coming} {ending = ending} adds h is_lawful {s = s} {t = t} {n = n} fields whole gave w p payload fits =
    let room = fixed_fits h.kind h.length is_lawful in
    let enough = full_fill (coming s) (ending s) n whole in
    let long : length (take p w) ≡ p = simp length-take (omega arith) in
    let left = (adds.spends s t _ false gave).1 in
    let fixed_used : used (coming s) n ≡ fixed h.kind = omega arith in
    let both : rest_used h (coming s) ≡ used (coming s) n + used (coming t) (length (take p w)) = rw left (omega (arith, length-drop (used (coming s) n) (coming s))) in
    record {
      lies = λ out is. lies_over (coming t) w out p fits is ∙ rw (left, fixed_used, payload);
      lack = λ u told more. rw both (adds.joined s t u _ _ false told gave more);
      whole = λ full. packet_drawn h (coming s) (coming t) (ending s) n _ room fields (long ∙ payload) left whole (full ∙ rw (adds.ends s t _ false gave));
    }
