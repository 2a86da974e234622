use Rattle.std.proofs.Common.{◌≡◌, sym, subst}
use Rattle.mig_sat.specs.Models.{IsFirstModel, HasNoModel}
use Rattle.mig_complete.specs.Coding.{Codes}
use Rattle.mig_complete.specs.ChooserInside.{choices_of}
use Rattle.mig_complete.specs.Covering.{Choices, IsFirstChoice, HasNoChoice}
use Rattle.mig_complete.proofs.Finding.{first_choice, no_choice, in_range}
use Rattle.mig_complete.proofs.chooser.Chooser.next.Goals as goal

pub solve-requires : goal.solve-requires
solve-requires c = in_range c.self.inside.cnf c.self.inside.sizes (choices_of c.self.inside).blocks c.self.invariant.vars c.self.invariant.clauses c.self.invariant.picks

pub returns-in-None-clause-none : goal.returns-in-None-clause-none
returns-in-None-clause-none c =
    let i = c.self.inside in
    let none : HasNoModel i.cnf = rw c.in-None.is at c.in_ok-solve.ensures.none in
    let h : HasNoChoice i.sizes (choices_of i).blocks = no_choice i.cnf i.sizes (choices_of i).blocks c.self.invariant.vars c.self.invariant.clauses c.self.invariant.picks none in
    subst (λ (v : Choices). HasNoChoice v.sizes v.blocks) c.self.view_is h

pub returns-in_ok-picks-in-Some-clause-first : goal.returns-in_ok-picks-in-Some-clause-first
returns-in_ok-picks-in-Some-clause-first c =
    let i = c.self.inside in
    let m = c.in-Some.model.values in
    let first : IsFirstModel i.cnf m = rw c.in-Some.is at c.in_ok-solve.ensures.first in
    let found = first_choice i.cnf i.sizes (choices_of i).blocks c.self.invariant.vars c.self.invariant.clauses c.self.invariant.picks m first in
    let codes : Codes c.as_slice-in-Some.result.now 0 c.as_slice.result.now found.0 = subst (λ s. Codes c.as_slice-in-Some.result.now 0 s found.0) (sym c.as_slice.ensures) (subst (λ v. Codes v 0 i.sizes found.0) (sym c.as_slice-in-Some.ensures) found.1) in
    let same : c.in_ok-picks-in-Some.picks ≡ found.0 = c.in_ok-picks-in-Some.ensures found.0 codes in
    let h : IsFirstChoice i.sizes (choices_of i).blocks c.in_ok-picks-in-Some.picks = subst (IsFirstChoice i.sizes (choices_of i).blocks) (sym same) found.2 in
    subst (λ (v : Choices). IsFirstChoice v.sizes v.blocks c.in_ok-picks-in-Some.picks) c.self.view_is h
