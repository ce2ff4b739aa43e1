-- The two laws that the check does not find from the lemmas that the function names.
use Rattle.bodies.proofs.Reaching as reaching
use Rattle.bodies.proofs.bodies_are_judged_right.Goals as goal

pub returns-clause-goes_on : goal.returns-clause-goes_on
returns-clause-goes_on c = reaching.goes_on

pub returns-clause-limit_at_the_256th_header : goal.returns-clause-limit_at_the_256th_header
returns-clause-limit_at_the_256th_header c = reaching.limit_at_the_256th_header
