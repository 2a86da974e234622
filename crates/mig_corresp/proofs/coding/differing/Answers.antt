use Rattle.std.proofs.Common.{ℕ, Bool, false, not, arith}
use Rattle.std.proofs.lemmas.Grind.{common_steps}
use Rattle.mig_sat.specs.declared.clauses.SatLit.{SatLit}
use Rattle.mig_invariant.proofs.Tables.{numbered_more}
use Rattle.mig_corresp.proofs.coding.differing.Goals as goal

abbrev other : ℕ → Bool → SatLit
other v b = record { var = v; positive = not b }

pub loop-n-preserved : goal.loop-n-preserved
loop-n-preserved c = grind (arith, common_steps, numbered_more other c.args.values.now c.loop-n.n false (omega arith))
