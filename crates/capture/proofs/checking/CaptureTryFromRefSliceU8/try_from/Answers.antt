use Rattle.capture.proofs.Accepted.{sections_few}
use Rattle.capture.proofs.Recording.{accepts_exactly_captures}
use Rattle.capture.proofs.checking.CaptureTryFromRefSliceU8.try_from.Goals as goal

pub invariant_of-result-clause-few : goal.invariant_of-result-clause-few
invariant_of-result-clause-few c = sections_few c.args.input.now _ c.in_ok-lengths.ensures

pub returns-in_err-lengths-clause-accepts_exactly_captures : goal.returns-in_err-lengths-clause-accepts_exactly_captures
returns-in_err-lengths-clause-accepts_exactly_captures c = accepts_exactly_captures

pub returns-then-not-make_up-clause-accepts_exactly_captures : goal.returns-then-not-make_up-clause-accepts_exactly_captures
returns-then-not-make_up-clause-accepts_exactly_captures c = accepts_exactly_captures

pub returns-in_err-ending-clause-accepts_exactly_captures : goal.returns-in_err-ending-clause-accepts_exactly_captures
returns-in_err-ending-clause-accepts_exactly_captures c = accepts_exactly_captures

pub returns-clause-accepts_exactly_captures : goal.returns-clause-accepts_exactly_captures
returns-clause-accepts_exactly_captures c = accepts_exactly_captures
