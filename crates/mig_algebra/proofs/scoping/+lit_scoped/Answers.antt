use Rattle.std.proofs.Common.{◌≡◌, ◌+◌, ◌∙◌, sym, ap, ap₂, length, List, arith}
use Rattle.std.specs.List.{list_all}
use Rattle.mig_algebra.specs.declared.literals.Lit.{Lit}
use Rattle.mig_algebra.specs.Scope.{lit_scoped}
use Rattle.mig_algebra.proofs.TidiedBodies.{scoped_inside}
use Rattle.mig_algebra.proofs.scoping.+lit_scoped.Goals as goal

pub lit_scoped-returns-then-all-lt-MANY : goal.lit_scoped-returns-then-all-lt-MANY
lit_scoped-returns-then-all-lt-MANY t c =
    let n = c.args.count in
    let count : c.in-Some.all ≡ n + length c.in-Any.inner.vars = c.in-Some.ensures.1 ∙ ap (λ k. n + k) c.len.ensures in
    let few = c.if-all-lt-MANY.true in
    c.lits_scoped.ensures
    ∙ ap₂ (λ k (ls : List Lit). list_all (lit_scoped k) ls) count c.as_slice.ensures
    ∙ sym (scoped_inside n c.args.lit.now c.in-Any.held c.in-Any.inner c.in-Any.is (omega (arith, count, few)))
