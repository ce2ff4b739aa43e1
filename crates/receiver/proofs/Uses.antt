-- What an event asks of the bytes: a packet's head came, and the ending is not told.
use Rattle.std.proofs.Common.{◌≡◌, ℕ, ◌≤◌, false, cond, leb, List, length, take, drop, Err, Result, refl, arith}
use Rattle.std.proofs.lemmas.Grind.{common_steps}
use Rattle.carrier.specs.declared.endings.Ending.{Ending}
use Rattle.packet.specs.declared.wire.Head.{Head}
use Rattle.packet.specs.declared.wire.Packet.{Packet}
use Rattle.packet.specs.declared.grammar.Event.{Event}
use Rattle.packet.specs.declared.grammar.Position.{Position}
use Rattle.packet.specs.declared.grammar.PacketFault.{PacketFault}
use Rattle.packet.specs.Wire.{head_of}
use Rattle.receiver.specs.declared.answers.Answer.TheVariants as answer
use Rattle.receiver.specs.declared.drawing.NoPacket.{NoPacket}
use Rattle.receiver.specs.declared.standings.Progress.{Progress}
use Rattle.receiver.specs.declared.standings.Progress.TheVariants as progress
use Rattle.receiver.specs.declared.standings.Standing.{Standing}
use Rattle.receiver.specs.Draws.{draws, cut_short, used, headed, headed_used, ran_out}
use Rattle.receiver.specs.Steps.{steps, goes_on, settles, reading_used, reading_told}

-- what is drawn without an ending uses at least a head, and no more than there was; r is the head, or what is wrong with it
drawing_uses : (bs : List ℕ) (e : Ending) (r : Result Head PacketFault) → ran_out (cond (leb 4 (length bs)) (headed r (drop 4 bs) e) (Err (cut_short (length bs) e))) ≡ false → (4 ≤ cond (leb 4 (length bs)) (headed_used r (drop 4 bs)) (length bs)) × (cond (leb 4 (length bs)) (headed_used r (drop 4 bs)) (length bs) ≤ length bs)
drawing_uses bs e r h = grind (arith, common_steps)

settled_not_out : (s : Standing) (at : Position) (d : Result Packet NoPacket) (ev : Event) → (settles s at d).answer ≡ answer.Event ev → ran_out d ≡ false
settled_not_out s at d ev h = grind (arith, common_steps)

-- an event is told while reading, of what is drawn without an ending
event_drawn : (s : Standing) (p : Progress) (bs : List ℕ) (e : Ending) (ev : Event) → (goes_on s p bs e).answer ≡ answer.Event ev → (at : Position) × (p ≡ progress.Reading at) × (ran_out (draws bs e) ≡ false)
event_drawn s (progress.Reading at) bs e ev h = (at, refl, settled_not_out s at (draws bs e) ev h)
event_drawn s (progress.Ended at) bs e ev h = absurd (cc)
event_drawn s (progress.Failed f) bs e ev h = absurd (cc)

pub event_uses : (s : Standing) (bs : List ℕ) (e : Ending) (ev : Event) → (steps s bs e).answer ≡ answer.Event ev → ((at : Position) × (s.progress ≡ progress.Reading at)) × (4 ≤ used bs) × (used bs ≤ length bs)
event_uses s bs e ev h =
    let (at, is, not_out) = event_drawn s s.progress bs e ev h in
    let u = drawing_uses bs e (head_of (take 4 bs)) not_out in
    ((at, is), u.0, u.1)

pub event_reads : (s : Standing) (bs : List ℕ) (e : Ending) (ev : Event) → (steps s bs e).answer ≡ answer.Event ev → (reading_used s.progress bs ≡ used bs) × (reading_told s.progress bs e ≡ false)
event_reads s bs e ev h = let (at, is, not_out) = event_drawn s s.progress bs e ev h in rw is (refl, not_out)
