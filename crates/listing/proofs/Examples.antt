-- The whole listings compute.
use Rattle.std.proofs.Common.{refl}
use Rattle.std.specs.Fmt.{digits}
use Rattle.listing.specs.Examples.{ExampleListings}

pub example_listings : ExampleListings
unfolding digits
example_listings = (refl, (refl, (refl, (refl, (refl, (refl, (refl, (refl, tt))))))))
