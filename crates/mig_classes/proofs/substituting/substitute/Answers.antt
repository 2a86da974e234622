use Rattle.std.proofs.Common.{◌+◌, ◌++◌, ◌∙◌, List, map, take, drop, ap, ap₂, sym, subst}
use Rattle.mig_algebra.specs.declared.atoms.Atom.{Atom}
use Rattle.mig_algebra.specs.declared.atoms.Var.{Var}
use Rattle.mig_algebra.specs.declared.literals.Lit.{Lit}
use Rattle.mig_algebra.specs.declared.terms.Term.{Term}
use Rattle.mig_algebra.specs.Proper.{IsProperTerm}
use Rattle.mig_algebra.specs.Rename.{lit_with, below}
use Rattle.mig_classes.specs.Substituted.{written, MeansAsBefore}
use Rattle.mig_classes.proofs.Written.{substituted-means, term-made}
use Rattle.mig_classes.proofs.WrittenProper.{substituted-proper}
use Rattle.mig_classes.proofs.substituting.substitute.Goals as goal

pub returns-clause-substituted : goal.returns-clause-substituted
returns-clause-substituted c =
    let v = c.args.var in
    let vars = c.in_ok-vars.ensures ∙ ap (λ (vs : List Var). take v vs ++ drop (v + 1) vs) c.as_slice-2.ensures in
    let lits = c.from_vec-lits.ensures ∙ c.in_ok-renamed_lits.ensures ∙ ap₂ (λ (atoms : List Atom) (ls : List Lit). map (lit_with (written v atoms) (below v)) ls) c.as_slice.ensures c.as_slice-3.ensures in
    let head = c.from_vec-head.ensures ∙ c.in_ok-renamed_atoms.ensures ∙ ap₂ (λ (atoms : List Atom) (xs : List Atom). map (written v atoms) xs) c.as_slice.ensures c.as_slice-4.ensures in
    term-made _ _ _ _ _ _ vars lits head

pub returns-clause-means : goal.returns-clause-means
returns-clause-means c =
    subst (λ (u : Term). MeansAsBefore c.args.var c.args.atoms.now c.args.term.now u) (sym (returns-clause-substituted c)) (substituted-means c.args.var c.args.atoms.now c.args.term.now c.requires)

pub returns-clause-proper : goal.returns-clause-proper
returns-clause-proper c = λ p ks h f.
    subst (λ (u : Term). IsProperTerm p ks u) (sym (returns-clause-substituted c)) (substituted-proper c.args.var c.args.atoms.now c.args.term.now c.requires p ks h f)
