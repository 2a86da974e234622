use Rattle.std.proofs.Common.{◌≡◌, ℕ, ◌<◌, ◌⊎◌, Some, None, get_or}
use Rattle.std.specs.Prelude.{IfSome}
use Rattle.mig_sat.specs.declared.clauses.SatLit.{SatLit}
use Rattle.mig_sat.specs.Steps.{IsFalse, value_at}
use Rattle.mig_sat.proofs.judging.judge.Given as goal

abbrev pub invariant-loop-lit : goal.invariant-loop-lit
invariant-loop-lit l = record {
  passed : (k : ℕ) (d : SatLit) → k < l.lit-index → IsFalse l.trail.steps (get_or l.clause k d) ⊎ (l.free ≡ Some (get_or l.clause k d));
  free : IfSome l.free (λ f. (f.var < l.trail.size) × (value_at f.var l.trail.steps ≡ None) × ((p : ℕ) × (p < l.lit-index) × ((d : SatLit) → get_or l.clause p d ≡ f)));
}
