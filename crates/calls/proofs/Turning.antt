-- A list of calls, one call at a time.
use Rattle.std.proofs.Common.{◌≡◌, ℕ, List, [], ◌∷◌, ◌++◌, refl, ap, ◌∙◌, append_assoc, append-nil, add-zero, add_assoc, zero-add}
use mathlib.Core.Bool.{or_assoc, or-false}
use Rattle.carrier.specs.declared.Carrier.{Ghosts}
use Rattle.carrier.specs.Pulls.{Adds}
use Rattle.receiver.specs.declared.receiving.Receiver.{Receiver}
use Rattle.receiver.specs.Views.{View, Usage, Moved, unused, view, view_of, moved}
use Rattle.calls.specs.declared.replies.Call.{Call}
use Rattle.calls.specs.declared.replies.Reply.{Reply}
use Rattle.calls.specs.Calling.{CallsRun, Called, together, called, calls_run, one_more}

-- replies and what was used so far, and then a run
abbrev pub and_then : List Reply → Usage → CallsRun → CallsRun
and_then rs u rest = record { replies = rs ++ rest.replies; standing = rest.standing; buffer = rest.buffer; usage = together u rest.usage }

-- before the first call
pub first_call : (rs : List Reply) (run : CallsRun) → rs ≡ [] → and_then rs unused run ≡ run
first_call rs run none = rw (none, zero-add) refl

regroup : (rs : List Reply) (u : Usage) (c : Called) (rest : CallsRun) → and_then (rs ++ (c.replied ∷ [])) (together u c.usage) rest ≡ and_then rs u (one_more c rest)
regroup rs u c rest = rw (append_assoc, add_assoc, or_assoc) refl

module _ {C : Type 0} (m : Ghosts C) (adds : Adds m.coming m.ending m.lacks) (r₀ : Receiver C) (total : CallsRun) where
  -- r is the receiver r₀, whose carrier gave what u says; a call replied a, and left the receiver t and the work buffer x
  pub next_call : (r t : Receiver C) (w x : List ℕ) (rs qs : List Reply) (u : Usage) (one : Call) (more : List Call) (a : Reply)
      → Moved m r₀ r.standing u r
      → a ≡ (called (view m r) w one).replied
      → x ≡ (called (view m r) w one).buffer
      → Moved m r (called (view m r) w one).standing (called (view m r) w one).usage t
      → qs ≡ rs ++ (a ∷ [])
      → and_then rs u (calls_run (view m r) w (one ∷ more)) ≡ total
      → (v : Usage) × Moved m r₀ t.standing v t × (and_then qs v (calls_run (view m t) x more) ≡ total)
  next_call r t w x rs qs u one more a gave replied buffer to pushed is = (
    together u did.usage,
    record { standing = refl; number = to.number ∙ gave.number; lacks = adds.joined r₀.carrier r.carrier t.carrier u.bytes did.usage.bytes u.told did.usage.told gave.lacks to.lacks },
    rw (pushed, replied, buffer, moves) (regroup rs u did (calls_run next did.buffer more) ∙ is),
  )
    where
      did : Called
      did = called (view m r) w one

      next : View
      next = moved (view m r) did.standing did.usage.bytes

      moves : view m t ≡ next
      moves =
          let standing = to.standing in
          let coming = (adds.spends r.carrier t.carrier _ _ to.lacks).1 in
          let ending = adds.ends r.carrier t.carrier _ _ to.lacks in (λ y. view_of (standing y) (coming y) (ending y))

  -- behind the last call
  pub last_call : (r : Receiver C) (w : List ℕ) (rs : List Reply) (u : Usage)
      → Moved m r₀ r.standing u r
      → and_then rs u (calls_run (view m r) w []) ≡ total
      → (rs ≡ total.replies) × (w ≡ total.buffer) × Moved m r₀ total.standing total.usage r
  last_call r w rs u gave is =
      let ends = rw (append-nil, add-zero, or-false) at is in
      (ap (λ y. y.replies) ends, ap (λ y. y.buffer) ends, rw (← ends) gave)
