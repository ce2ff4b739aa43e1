-- Drawing single bytes up to the next data byte, or to the ending.
use Rattle.std.specs.Prelude.{◌≡◌, ℕ, ◌<◌, ◌≤◌, Bool, true, false, not, List, [], ◌∷◌, take, Ok, Err, Result}
use Rattle.carrier.specs.declared.endings.Ending.{Ending}
use Rattle.chunks.specs.declared.machine.State.{State}
use Rattle.chunks.specs.declared.machine.State.TheVariants as state
use Rattle.chunks.specs.declared.Chunks.{Chunks}
use Rattle.chunks.specs.Machine.{over}
use Rattle.chunks.specs.Decoding.{data_in, drawn_in, cut_short, ending_at}
use Rattle.carrier.specs.Passing.{counted}
use Rattle.chunks.specs.Splitting.{behind}

-- the first k bytes lead from one state to another, and none of them is data
pub record Quiet (at : State) (bs : List ℕ) (k : ℕ) (to : State) : Type 0 where
  pub within : k ≤ drawn_in at bs
  pub silent : data_in at (take k bs) ≡ []
  pub leads : to ≡ behind at k bs

-- t is s after k quiet bytes more were drawn, with the ending beneath told or not
pub record Came {C : Type 0} (coming : C → List ℕ) (lacks : C → ℕ → Bool → C → Type 0) (s : Chunks C) (k : ℕ) (told : Bool) (t : Chunks C) : Type 0 where
  pub quiet : Quiet s.state (coming s.beneath) k t.state
  pub counts : t.drawn ≡ counted s.drawn k
  pub lacked : lacks s.beneath k told t.beneath

module _ {C : Type 0} (coming : C → List ℕ) (ending : C → Ending) (lacks : C → ℕ → Bool → C → Type 0) (s t : Chunks C) where
  -- one byte from beneath, or the ending of a body that is not over there
  abbrev pub Drew : Result ℕ Ending → Type 0
  Drew (Ok b) = (coming s.beneath ≡ b ∷ coming t.beneath) × lacks s.beneath 1 false t.beneath × (t.state ≡ s.state) × (t.drawn ≡ counted s.drawn 1)
  Drew (Err e) = (coming s.beneath ≡ []) × (cut_short s.drawn (ending s.beneath) ≡ e) × lacks s.beneath 0 true t.beneath × (t.state ≡ s.state) × (t.drawn ≡ s.drawn)

  -- single bytes until data is next, or until the ending is known
  abbrev pub Advanced : Result ℕ Ending → Type 0
  Advanced (Ok left) = (k : ℕ) × Came coming lacks s k false t × (t.state ≡ state.Data left) × (0 < left)
  Advanced (Err e) = Came coming lacks s (drawn_in s.state (coming s.beneath)) (not (over t.state)) t × (ending_at t.state t.drawn (ending s.beneath) ≡ e)
