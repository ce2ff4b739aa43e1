-- The samples are computed.
use Rattle.std.proofs.Common.{refl}
use Rattle.std.specs.Fmt.{digits}
use Rattle.listing.specs.Samples.{SampleLines}

pub sample_lines : SampleLines
unfolding digits
sample_lines = (refl, (refl, (refl, (refl, (refl, (refl, (refl, tt)))))))
