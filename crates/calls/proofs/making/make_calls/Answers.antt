use Rattle.std.proofs.Common.{vec_items, refl, rules}
use Rattle.calls.specs.declared.replies.Call.TheVariants as call
use Rattle.std.proofs.lemmas.List.{nil_from_length, drop_more, drop_all}
use Rattle.receiver.specs.Views.{unused, view}
use Rattle.calls.specs.Calling.{calls_run}
use Rattle.calls.proofs.Turning.{first_call, next_call, last_call}
use Rattle.calls.proofs.making.make_calls.Goals as goal

pub loop-call-init : goal.loop-call-init
loop-call-init g c =
    let none = nil_from_length (vec_items c.args.replies.now) (search rules) in
    record {
      many = c.requires.empty;
      room = refl;
      on = (unused, record { standing = refl; number = refl; lacks = g.met.C.Carrier.adds.same c.args.receiver.now.carrier }, first_call _ _ none);
    }

pub loop-call-preserved : goal.loop-call-preserved
loop-call-preserved g c =
    let m = g.C.Carrier in
    let before = c.loop-call in
    let made = c.make_call.ensures in
    let (u, gave, whole) = before.invariant.on in
    let split = drop_more c.args.calls.now before.call-index (call.Step 0) c.loop-call-test.true in
    record {
      many = search rules;
      room = search rules;
      on = next_call m g.met.C.Carrier.adds c.args.receiver.now _ before.receiver _ before.work _ _ _ u _ _ _ gave made.replied made.buffer made.moved c.push_reserved.ensures.items (rw split at whole);
    }

pub returns : goal.returns
returns g c =
    let m = g.C.Carrier in
    let before = c.loop-call in
    let (u, gave, whole) = before.invariant.on in
    let none = drop_all before.call-index c.args.calls.now c.loop-call-test.false in
    let (replied, buffer, moved) = last_call m g.met.C.Carrier.adds c.args.receiver.now (calls_run (view m c.args.receiver.now) c.args.work.now c.args.calls.now) before.receiver before.work (vec_items before.replies) u gave (rw none at whole) in
    record { replied = replied; buffer = buffer; moved = moved }
