use Rattle.std.proofs.Common.{◌∙◌, ap, ap₂, map, List}
use Rattle.mig_meaning.specs.Lists.{place}
use Rattle.mig_algebra.specs.declared.atoms.Atom.{Atom}
use Rattle.mig_algebra.specs.declared.atoms.Var.{Var}
use Rattle.mig_algebra.specs.declared.literals.Lit.{Lit}
use Rattle.mig_algebra.specs.Orders.{lit_order}
use Rattle.mig_algebra.specs.Rename.{renumbered}
use Rattle.mig_algebra.specs.Sorted.{sorted_once}
use Rattle.mig_algebra.specs.Tidied.{slots_in_order, numbers_of, vars_of, lit_sorted, lit_arranged}
use Rattle.mig_algebra.proofs.TidiedBodies.{term_tidied}
use Rattle.mig_algebra.proofs.tidying.tidy_term.Goals as goal

pub returns : goal.returns
returns c =
    let term = c.args.term.now in
    let vars = c.in_ok-scope.ensures.vars ∙ ap (λ (vs : List Var). vars_of (slots_in_order 0 vs)) c.as_slice.ensures in
    let old = c.in_ok-scope.ensures.old ∙ ap (λ (vs : List Var). numbers_of (slots_in_order 0 vs)) c.as_slice.ensures in
    let each = c.in_ok-lits.ensures ∙ ap₂ (λ o (ls : List Lit). map (λ l. lit_sorted (lit_arranged o l)) ls) (c.as_slice-2.ensures.value ∙ old) c.as_slice-3.ensures in
    let lits = c.from_vec-lits.ensures ∙ c.sorted_once.ensures ∙ ap (sorted_once lit_order) each in
    let head = c.from_vec-head.ensures ∙ c.in_ok-head.ensures ∙ ap₂ (λ o (xs : List Atom). map (renumbered (place o)) xs) (c.as_slice-4.ensures.value ∙ old) c.as_slice-5.ensures in
    term_tidied term _ _ _ vars lits head
