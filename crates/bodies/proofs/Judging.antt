-- What an allowed packet gives, and when a packet that may come is allowed.
use Rattle.std.proofs.Common.{◌≡◌, ℕ, ◌+◌, ◌≤◌, cond, Some, Ok, Err, Result, refl, ◌∙◌, arith, ne_eqb}
use Rattle.packet.specs.declared.wire.Packet.{Packet}
use Rattle.packet.specs.declared.grammar.Position.{Position}
use Rattle.packet.specs.declared.grammar.PacketFault.{PacketFault}
use Rattle.packet.specs.declared.grammar.PacketFault.TheVariants as fault
use Rattle.packet.specs.declared.grammar.Letter.TheVariants as letter
use Rattle.packet.specs.declared.grammar.Judged.{Judged}
use Rattle.packet.specs.Judging.{judged, told, completed}
use Rattle.bodies.specs.Told.{completes}
use Rattle.bodies.specs.Laws.{OutOfPlace}
use Rattle.bodies.proofs.Ruling.{Ruled, Follows, ruled}
use Rattle.bodies.proofs.Leading.{Leads, next_of}

-- being out of place is none of the other judgements
pub out_is_not_ok : (r : Result Judged PacketFault) (j : Judged) → OutOfPlace r → r ≡ Ok j → ⊥
out_is_not_ok r j out ok = grind arith

pub out_is_not_limit : (r : Result Judged PacketFault) → OutOfPlace r → r ≡ Err fault.TooManyEntries → ⊥
out_is_not_limit r out limit = grind arith

-- nor does it lead on
pub out_leads_nowhere : (r : Result Judged PacketFault) (next : Position) → OutOfPlace r → next_of r ≡ Some next → ⊥
out_leads_nowhere (Ok j) next out leads = out_is_not_ok (Ok j) j out refl
out_leads_nowhere (Err f) next out leads = cc

-- one more where the packet completes a header
abbrev pub counted : Packet → ℕ
counted p = cond (completes p) 1 0

-- what an allowed packet gives
pub record Gives (p : Packet) (here : Position) (n : ℕ) (j : Judged) : Type 0 where
  pub entry_is : j.entry ≡ counted p + n
  pub entry_fits : j.entry ≤ 255
  pub follows : Follows p p.kind here j.letter j.next
  pub leads : Leads p here j.next

-- a header may be completed below the limit, and not at it
pub completed_below : (next : Position) (n : ℕ) → (n ≡ 255 → ⊥) → completed next n ≡ told letter.Header next (n + 1)
completed_below next n below = rw (ne_eqb n 255 below)

pub completed_at : (next : Position) (n : ℕ) → n ≡ 255 → completed next n ≡ Err fault.TooManyEntries
completed_at next n limit = rw limit

-- a packet that completes a header is in its place, whatever the count
pub completed_fits : (next : Position) (n : ℕ) → OutOfPlace (completed next n) → ⊥
completed_fits next n out = grind arith

-- each allowed packet gives it
pub gives : (p : Packet) (here : Position) (n : ℕ) (j : Judged) → judged p here n ≡ Ok j → n ≤ 255 → Gives p here n j
gives p here n j ok fits =
    elim (ruled p here) [
      | Ruled.refused out ↦ absurd (out_is_not_ok _ j (out n) ok)
      | Ruled.passes l next rule c f ↦
          let same : record { letter = l; next = next; entry = n } ≡ j = cc (rule n) in
          rw (← same) (record { entry_is = rw c (omega arith); entry_fits = fits; follows = f; leads = rw (rule 0) refl })
      | Ruled.counts next rule c f ↦
          let below : n ≡ 255 → ⊥ = λ limit. cc (rule n ∙ completed_at next n limit) in
          let same : record { letter = letter.Header; next = next; entry = n + 1 } ≡ j = cc (rule n ∙ completed_below next n below) in
          rw (← same) (record { entry_is = rw c (omega arith); entry_fits = omega arith; follows = f; leads = rw (rule 0) refl })
    ]

-- a packet that may come is allowed where the count stays within the limit
pub allowed : (p : Packet) (here next : Position) (n : ℕ)
    → Leads p here next
    → counted p + n ≤ 255
    → (j : Judged) × (judged p here n ≡ Ok j) × (j.next ≡ next)
allowed p here next n leads fits =
    elim (ruled p here) [
      | Ruled.refused out ↦ absurd (out_leads_nowhere _ next (out 0) leads)
      | Ruled.passes l to rule c f ↦
          let way : Some to ≡ Some next = rw (rule 0) at leads in
          (record { letter = l; next = to; entry = n }, rule n, cc)
      | Ruled.counts to rule c f ↦
          let way : Some to ≡ Some next = rw (rule 0) at leads in
          let room : 1 + n ≤ 255 = rw c at fits in
          (record { letter = letter.Header; next = to; entry = n + 1 }, rule n ∙ completed_below to n (omega arith), cc)
    ]
