use Rattle.std.proofs.Common.{◌≡◌, List, map, take}
use Rattle.mig_grammar.specs.declared.tree.CmpTree.{CmpTree}
use Rattle.mig_syntax.specs.Naming as spec
use Rattle.mig_syntax.proofs.naming.conditions.cases_of.Given as goal

abbrev pub invariant-loop-case : goal.invariant-loop-case
invariant-loop-case l = l.all.items ≡ map (λ (case : List CmpTree). map (spec.cmp_of l.tables l.params) case) (take l.case-index l.cases)
