-- Each law is the lemma of its name.
use Rattle.runs.proofs.Ends as ends
use Rattle.runs.proofs.Faults as faults
use Rattle.runs.proofs.runs_follow_the_grammar.Goals as goal

pub returns-clause-ends_clean_exactly_for_bodies : goal.returns-clause-ends_clean_exactly_for_bodies
returns-clause-ends_clean_exactly_for_bodies c = ends.ends_clean_exactly_for_bodies

pub returns-clause-faults_exactly_where_no_body_goes_on : goal.returns-clause-faults_exactly_where_no_body_goes_on
returns-clause-faults_exactly_where_no_body_goes_on c = faults.faults_exactly_where_no_body_goes_on

pub returns-clause-limit_exactly_at_the_256th_header : goal.returns-clause-limit_exactly_at_the_256th_header
returns-clause-limit_exactly_at_the_256th_header c = faults.limit_exactly_at_the_256th_header
