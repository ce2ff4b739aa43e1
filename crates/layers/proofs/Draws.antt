-- What a Pull of the length layer comes to where it took bytes from beneath.
use Rattle.std.proofs.Common.{◌≡◌, ℕ, ◌-◌, ◌<◌, ◌≤◌, min, List, ◌++◌, length, take, drop, Ok, append_assoc, arith, take-append-drop, length-take}
use Rattle.std.proofs.lemmas.List.{drop-append-le, take-take}
use Rattle.std.proofs.lemmas.Grind.{common_steps}
use Rattle.carrier.specs.declared.endings.Ending.{Ending}
use Rattle.carrier.specs.Passing.{counted}
use Rattle.carrier.specs.Pulls.{Answers}
use Rattle.layers.specs.Lengths.{gives, ends, gives_rest, ends_kept}

-- the stretch was w, of which the first k bytes were lent, and then held ys
pub drew : (bs bs' w ys : List ℕ) (e e' : Ending) (left drawn drawn' k n : ℕ) → 0 < left → drawn' ≡ counted drawn n → k ≡ min (length w) left → Answers bs e (take k w) (Ok n) bs' e' ys → Answers (gives left bs) (ends left drawn bs e) w (Ok n) (gives (left - n) bs') (ends (left - n) drawn' bs' e') (ys ++ drop k w)
drew bs bs' w ys e e' left drawn drawn' k n wants count lent told =
    let fits : n ≤ k = omega (arith, simp length-take at told.1) in (
      grind (arith, common_steps),
      omega arith,
      grind (arith, common_steps),
      let rest = gives_rest bs left n (omega arith) in cc,
      let kept = ends_kept bs left drawn n e told.0 (omega arith) in cc,
      let whole = take-append-drop k w in
          let cut = drop-append-le n (take k w) (drop k w) told.1 in grind (arith, append_assoc, take-take),
    )
