use Rattle.listing.proofs.Samples.{sample_lines}
use Rattle.listing.proofs.lines.line.Goals as goal

pub returns-clause-sample_lines : goal.returns-clause-sample_lines
returns-clause-sample_lines c = sample_lines
