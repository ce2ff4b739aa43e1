use Rattle.runs.proofs.Ends.{ends_clean_exactly_for_bodies}
use Rattle.runs.proofs.Faults.{faults_exactly_where_no_body_goes_on, limit_exactly_at_the_256th_header}
use Rattle.listing.proofs.Examples.{example_listings}
use Rattle.listing.proofs.listings.list_capture.Goals as goal

pub returns-clause-ends_clean_exactly_for_bodies : goal.returns-clause-ends_clean_exactly_for_bodies
returns-clause-ends_clean_exactly_for_bodies c = ends_clean_exactly_for_bodies

pub returns-clause-faults_exactly_where_no_body_goes_on : goal.returns-clause-faults_exactly_where_no_body_goes_on
returns-clause-faults_exactly_where_no_body_goes_on c = faults_exactly_where_no_body_goes_on

pub returns-clause-limit_exactly_at_the_256th_header : goal.returns-clause-limit_exactly_at_the_256th_header
returns-clause-limit_exactly_at_the_256th_header c = limit_exactly_at_the_256th_header

pub returns-clause-example_listings : goal.returns-clause-example_listings
returns-clause-example_listings c = example_listings
