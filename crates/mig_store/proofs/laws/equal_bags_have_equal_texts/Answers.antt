use Rattle.mig_store.proofs.EqualBags.{same-texts}
use Rattle.mig_store.proofs.laws.equal_bags_have_equal_texts.Goals as goal

pub returns : goal.returns
returns c = record { by = same-texts }
