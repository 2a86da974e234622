use Rattle.mig_failing.proofs.Listed.{tests_listed}
use Rattle.mig_failing.proofs.laws.listing_of_tests.Goals as goal

pub returns : goal.returns
returns c = tests_listed
