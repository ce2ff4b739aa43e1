-- How many bytes show what is drawn.
use Rattle.std.proofs.Common.{◌≡◌, ℕ, ◌+◌, Bool, true, false, cond, eqb, leb, List, [], ◌∷◌, length, get_or, Some, None, Ok, Err, Option, Result, refl, ◌∙◌, inl, inr, arith}
use Rattle.std.proofs.lemmas.Bool.{le-leb, leb-true, leb-false, cases_eq}
use Rattle.carrier.specs.declared.endings.Ending.{Ending}
use Rattle.packet.specs.declared.wire.Head.{Head}
use Rattle.packet.specs.declared.wire.Kind.{Kind}
use Rattle.packet.specs.declared.wire.Packet.{Packet}
use Rattle.packet.specs.declared.grammar.Position.{Position}
use Rattle.packet.specs.declared.grammar.PacketFault.{PacketFault}
use Rattle.packet.specs.declared.grammar.PacketFault.TheVariants as fault
use Rattle.packet.specs.Wire.{mark, kind_of, lawful, of_kind, head_of, le2}
use Rattle.packet.specs.Judging.{judged, entry_limit}
use Rattle.receiver.specs.declared.answers.StepFault.TheVariants as step_fault
use Rattle.receiver.specs.declared.drawing.NoPacket.{NoPacket}
use Rattle.receiver.specs.declared.drawing.NoPacket.TheVariants.{BadHead, CutShort}
use Rattle.receiver.specs.Draws.{packet_of, cut_short, draws, used, headed, headed_used}
use Rattle.bodies.specs.Laws.{OutOfPlace}
use Rattle.bodies.proofs.Ruling.{Ruled, ruled}
use Rattle.bodies.proofs.Judging.{completed_below, completed_at}
use Rattle.calls.specs.Law.{shown_by}

-- so many bytes show the fault f
abbrev pub Shows : PacketFault → ℕ → List ℕ → Type 0
Shows f n bs = n ≡ shown_by (step_fault.Packet f) bs

-- how many bytes a packet has by its head
abbrev pub announced : List ℕ → ℕ
announced bs = 4 + le2 (get_or bs 2 0) (get_or bs 3 0)

abbrev pub Uses : Result Packet NoPacket → ℕ → List ℕ → Type 0
Uses (Ok p) n bs = n ≡ announced bs
Uses (Err (BadHead f)) n bs = Shows f n bs
Uses (Err (CutShort c)) n bs = n ≡ length bs

-- behind a head
module _ (x y l m : ℕ) (bs : List ℕ) (e : Ending) where
  abbrev all : List ℕ
  all = x ∷ y ∷ l ∷ m ∷ bs

  abbrev HeadedUses : Result Head PacketFault → Type 0
  HeadedUses r = Uses (headed r bs e) (headed_used r bs) all

  rest_uses : (h : Head) → h.length ≡ le2 l m → HeadedUses (Ok h)
  rest_uses h is = go (leb h.length (length bs)) refl
    where
      go : (b : Bool) → leb h.length (length bs) ≡ b → Uses (cond b (Ok (packet_of h bs)) (Err (cut_short (4 + length bs) e))) (headed_used (Ok h) bs) all
      go true long = let enough = leb-true h.length (length bs) long in omega arith
      go false few = let short = leb-false h.length (length bs) few in omega arith

  head_uses : HeadedUses (head_of (x ∷ y ∷ l ∷ m ∷ []))
  head_uses = go (eqb x mark) (kind_of y)
    where
      go : (b : Bool) (o : Option Kind) → HeadedUses (cond b (of_kind o (le2 l m)) (Err fault.Mark))
      go false o = refl
      go true None = refl
      go true (Some k) = lawfully (lawful k (le2 l m))
        where
          lawfully : (b : Bool) → HeadedUses (cond b (Ok (record { kind = k; length = le2 l m })) (Err fault.PacketLength))
          lawfully false = refl
          lawfully true = rest_uses (record { kind = k; length = le2 l m }) refl

  four : leb 4 (length all) ≡ true
  four = le-leb 4 (length all) (omega arith)

  four-use : Uses (draws all e) (used all) all
  four-use = rw four head_uses

-- what is drawn uses so many bytes
pub drawn_uses : (bs : List ℕ) (e : Ending) → Uses (draws bs e) (used bs) bs
drawn_uses [] e = refl
drawn_uses (x ∷ []) e = refl
drawn_uses (x ∷ y ∷ []) e = refl
drawn_uses (x ∷ y ∷ l ∷ []) e = refl
drawn_uses (x ∷ y ∷ l ∷ m ∷ bs) e = four-use x y l m bs e

-- the faults of a packet in its place show at the packet's end
pub out_shows : (p : Packet) (here : Position) (n : ℕ) (f : PacketFault) (bs : List ℕ) → judged p here n ≡ Err f → Shows f (announced bs) bs
out_shows p here n f bs bad = go (ruled p here)
  where
    by : (g : PacketFault) → judged p here n ≡ Err g → Shows g (announced bs) bs → Shows f (announced bs) bs
    by g is shows = let same : f ≡ g = cc in rw same shows

    out : OutOfPlace (judged p here n) → Shows f (announced bs) bs
    out (inl is) = by fault.NotAllowedHere is refl
    out (inr (inl is)) = by fault.HeaderMarks is refl
    out (inr (inr is)) = by fault.Incarnation is refl

    go : Ruled p p.kind here → Shows f (announced bs) bs
    go (Ruled.refused o) = out (o n)
    go (Ruled.passes l next rule c f') = let r = rule n in absurd (cc)
    go (Ruled.counts next rule c f') =
        elim (cases_eq n entry_limit) [
          | inl limit ↦ by fault.TooManyEntries (rule n ∙ completed_at next n limit) refl
          | inr below ↦ let r = rule n ∙ completed_below next n below in absurd (cc)
        ]
