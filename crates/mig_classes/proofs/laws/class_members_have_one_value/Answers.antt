use Rattle.mig_classes.proofs.Classed.{one_class-value}
use Rattle.mig_classes.proofs.laws.class_members_have_one_value.Goals as goal

pub returns : goal.returns
returns c = record { by = one_class-value }
