use Rattle.mig_listing.specs.Tests.{Passes, Precedes}
use Rattle.mig_listing.proofs.Fronts.{next_is_next}
use Rattle.mig_listing.proofs.next_of_listing.Goals as goal

pub returns : goal.returns
returns g c = record { next = λ test before all xs m o l f n. next_is_next {P = Passes test} {R = Precedes before} o xs all m f n l }
