-- What a carrier with nothing beneath lacks, and that it adds up.
use Rattle.std.specs.Prelude.{◌≡◌, ℕ, ◌+◌, Bool, ◌||◌, List, refl}
use Rattle.std.proofs.Common.{◌∙◌, length-drop, arith}
use Rattle.std.proofs.lemmas.List.{drop-drop, drop_all}
use Rattle.carrier.specs.declared.endings.Ending.{Ending}
use Rattle.carrier.specs.Pulls.{Adds, Spent}

spent_joined : (bs cs ds : List ℕ) (m n : ℕ) (a b : Bool) → Spent bs m a cs → Spent cs n b ds → Spent bs (m + n) (a || b) ds
spent_joined bs cs ds m n a b p q = grind (arith, drop-drop, drop_all, length-drop)

-- a carrier with nothing beneath, whose ending never changes, lacks just the bytes that it gave
abbrev pub Alone : {S : Type 0} (coming : S → List ℕ) (ending : S → Ending) → S → ℕ → Bool → S → Type 0
Alone coming ending s n b t = Spent (coming s) n b (coming t) × (ending t ≡ ending s)

pub alone_adds : {S : Type 0} (coming : S → List ℕ) (ending : S → Ending) → Adds coming ending (Alone coming ending)
alone_adds coming ending =
    record {
      spends = λ s t n b h. h.0;
      ends = λ s t n b h. h.1;
      same = λ s. ((omega arith, refl, λ h. cc), refl);
      joined = λ s t u m n a b p q. (spent_joined _ _ _ m n a b p.0 q.0, q.1 ∙ p.1);
    }
