-- A law on which a search that takes step after step rests.
use Rattle.std.specs.Prelude.{ℕ, List, ◌++◌, length, take, drop}
use Rattle.mig_meaning.specs.declared.relating.Invariant.{Invariant}
use Rattle.mig_algebra.specs.declared.terms.Term.{Term}
use Rattle.mig_algebra.specs.Proper.{Sides}
use Rattle.mig_rules.specs.Quiet.{AreQuiet, after_step}

-- after a step at a term the numbers of the terms before it serve on, and those of the terms behind that stayed
pub record QuietLaw : Type 0 where
  pub after : (p : Sides) (invs : List Invariant) (qs : List ℕ) (ts us : List Term) (n k : ℕ) → AreQuiet p invs qs ts → AreQuiet p invs (after_step n (length us) k qs) (take n ts ++ (us ++ drop k ts))
