use Rattle.chunks.proofs.Deciding.{clean_exactly, none_goes_on}
use Rattle.chunks.proofs.Chunks.new.Goals as goal

pub returns-clause-ends_clean_exactly_for_chunked_bodies : goal.returns-clause-ends_clean_exactly_for_chunked_bodies
returns-clause-ends_clean_exactly_for_chunked_bodies g c = clean_exactly

pub returns-clause-no_chunked_body_goes_on_at_a_fault : goal.returns-clause-no_chunked_body_goes_on_at_a_fault
returns-clause-no_chunked_body_goes_on_at_a_fault g c = none_goes_on
