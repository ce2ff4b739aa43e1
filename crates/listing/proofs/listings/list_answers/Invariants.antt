use Rattle.std.proofs.Common.{◌≡◌, ◌++◌, length, string_bytes}
use Rattle.receiver.specs.Views.{view}
use Rattle.listing.specs.Listings.{lines_from}
use Rattle.listing.proofs.listings.list_answers.Given as goal

-- The lines so far, and those of the answers to come.
abbrev pub invariant-loop-answer : goal.invariant-loop-answer
invariant-loop-answer g l =
    let m = g.C.Carrier in
    string_bytes l.text ++ lines_from (view m l.receiver) ≡ lines_from (view m l.initial.receiver)

abbrev pub decreases-loop-answer : goal.decreases-loop-answer
decreases-loop-answer g l = length (g.C.Carrier.coming l.receiver.carrier)
