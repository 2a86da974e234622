use Rattle.mig_listing.specs.Tests.{Precedes}
use Rattle.mig_listing.proofs.Found.{finds-offered}
use Rattle.mig_listing.proofs.first_of_offered.Goals as goal

pub returns : goal.returns
returns g c = record { least = λ before gives keys o l. finds-offered {R = Precedes before} gives keys o l }
