-- What a receiver's answers rest on, and what a call uses of its carrier.
use Rattle.std.specs.Prelude.{◌≡◌, ℕ, Bool, false, List, drop}
use Rattle.carrier.specs.declared.Carrier.{Ghosts}
use Rattle.carrier.specs.declared.endings.Ending.{Ending}
use Rattle.receiver.specs.declared.receiving.Receiver.{Receiver}
use Rattle.receiver.specs.declared.standings.Standing.{Standing}

-- where the receiver stands, the bytes to come from its carrier, and the ending behind them
pub record View : Type 0 where
  pub standing : Standing
  pub coming : List ℕ
  pub ending : Ending

abbrev pub view_of : Standing → List ℕ → Ending → View
view_of s bs e = record { standing = s; coming = bs; ending = e }

-- the view of a receiver over a carrier of which m tells the meaning
abbrev pub view : {C : Type 0} → Ghosts C → Receiver C → View
view m r = view_of r.standing (m.coming r.carrier) (m.ending r.carrier)

-- how many bytes a call used of the carrier, and whether it was told the ending
pub record Usage : Type 0 where
  pub bytes : ℕ
  pub told : Bool

abbrev pub unused : Usage
unused = record { bytes = 0; told = false }

-- t is the receiver r, which now stands at s, its carrier lacking just what was used
pub record Moved {C : Type 0} (m : Ghosts C) (r : Receiver C) (s : Standing) (u : Usage) (t : Receiver C) : Type 0 where
  pub standing : t.standing ≡ s
  pub number : t.number ≡ r.number
  pub lacks : m.lacks r.carrier u.bytes u.told t.carrier

-- the view with s for the standing, and n bytes less to come
abbrev pub moved : View → Standing → ℕ → View
moved v s n = view_of s (drop n v.coming) v.ending
