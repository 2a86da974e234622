use Rattle.mig_listing.proofs.ChosenAll.{chosen-rises, chosen-has}
use Rattle.mig_listing.proofs.chosen_lists_are_all.Goals as goal

pub returns : goal.returns
returns c = record { rises = chosen-rises; has = chosen-has }
