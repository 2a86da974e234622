use Rattle.mig_listing.proofs.Choices.{choices_listed}
use Rattle.mig_listing.proofs.listing_of_choices.Goals as goal

pub returns : goal.returns
returns c = record { all = choices_listed }
