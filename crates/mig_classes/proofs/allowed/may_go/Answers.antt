use Rattle.std.proofs.Common.{◌∙◌, ap, ap₂, List}
use Rattle.std.specs.Prelude.{nat_lt}
use Rattle.std.specs.List.{list_all}
use Rattle.mig_algebra.specs.declared.atoms.Atom.{Atom}
use Rattle.mig_algebra.specs.declared.literals.Lit.{Lit}
use Rattle.mig_algebra.specs.Rename.{lit_all, is_not}
use Rattle.mig_classes.specs.Substituted.{column_within, is_of_others}
use Rattle.mig_classes.proofs.Passing.{may-go}
use Rattle.mig_classes.proofs.allowed.may_go.Goals as goal

pub returns : goal.returns
returns c =
    let v = c.args.var in
    may-go v c.args.atoms.now c.args.term.now (nat_lt v c.len.result) c.lits_pass-lits.result c.columns_within-head.result c.are_of_others-others.result c.all_four.result
    (ap (nat_lt v) c.len.ensures)
    (c.lits_pass-lits.ensures ∙ ap₂ (λ n (ls : List Lit). list_all (lit_all (column_within v n) (is_not v)) ls) c.len-2.ensures c.as_slice.ensures)
    (c.columns_within-head.ensures ∙ ap₂ (λ n (xs : List Atom). list_all (column_within v n) xs) c.len-3.ensures c.as_slice-2.ensures)
    (c.are_of_others-others.ensures ∙ ap₂ (λ n (xs : List Atom). list_all (is_of_others v n) xs) c.len-4.ensures c.as_slice-3.ensures)
    c.all_four.ensures
