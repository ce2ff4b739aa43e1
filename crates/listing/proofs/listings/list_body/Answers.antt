use Rattle.std.proofs.Common.{◌≡◌, ℕ, Option, refl, ◌∙◌}
use Rattle.std.proofs.lemmas.Result.{IfOk-weaker}
use Rattle.carrier.specs.declared.Carrier.{Ghosts}
use Rattle.packet.specs.declared.grammar.BodyKind.{BodyKind}
use Rattle.receiver.specs.declared.receiving.Receiver.{Receiver}
use Rattle.receiver.specs.Steps.{opened}
use Rattle.receiver.specs.Views.{view}
use Rattle.listing.specs.Listings.{lines, lines_from}
use Rattle.listing.proofs.listings.list_body.Goals as goal

-- a receiver that was opened over the carrier x has the lines of the whole body to come
all_lines : {C : Type 0} (m : Ghosts C) (r : Receiver C) (x : C) (b : BodyKind) (before : Option ℕ)
    → r.carrier ≡ x
    → r.standing ≡ opened b before
    → lines_from (view m r) ≡ lines b before (m.coming x) (m.ending x)
all_lines m r x b before carrier standing = rw (carrier, standing) refl

pub returns : goal.returns
returns g c =
    let opened_as = c.open-receiver.ensures in
    IfOk-weaker c.list_answers-text.result _ _ (λ t told. told ∙ all_lines g.C.Carrier c.open-receiver.result.0 _ _ _ opened_as.carrier opened_as.standing) c.list_answers-text.ensures
