use Rattle.mig_maxsat.proofs.Unique as unique
use Rattle.mig_maxsat.proofs.laws.one_heaviest.Goals as goal

pub returns : goal.returns
returns c = record { one = unique.one_heaviest }
