use Rattle.mig_listing.specs.Tests.{Passes, Precedes}
use Rattle.mig_listing.proofs.Unique as unique
use Rattle.mig_listing.proofs.one_listing.Goals as goal

pub returns : goal.returns
returns g c = record { one = λ test before xs ys o. unique.one_listing {P = Passes test} {R = Precedes before} o xs ys }
