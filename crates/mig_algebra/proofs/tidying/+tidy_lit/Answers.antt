use Rattle.std.proofs.Common.{◌≡◌, ◌+◌, ◌++◌, ◌∙◌, sym, ap, ap₂, map, length, List, rules, arith}
use Rattle.std.specs.List.{list_all}
use Rattle.mig_algebra.specs.declared.atoms.Var.{Var}
use Rattle.mig_algebra.specs.declared.literals.Lit.{Lit, the_lemmas}
use Rattle.mig_algebra.specs.declared.literals.Lit.TheVariants.{Any}
use Rattle.mig_algebra.specs.Orders.{lit_order}
use Rattle.mig_algebra.specs.Scope.{lit_scoped}
use Rattle.mig_algebra.specs.Sorted.{sorted_once}
use Rattle.mig_algebra.specs.Tidied.{slots_in_order, numbers_of, vars_of, lit_sorted, lit_arranged}
use Rattle.mig_algebra.proofs.TidiedBodies.{any_tidied, inside_few, inside_scoped}
use Rattle.mig_algebra.proofs.tidying.+tidy_lit.Goals as goal

pub tidy_lit-tidy_lits-requires : goal.tidy_lit-tidy_lits-requires
tidy_lit-tidy_lits-requires t c =
    let n = length c.args.old.now in
    let few = inside_few n c.args.lit.now c.in-Any.held c.in-Any.inner c.in-Any.is c.requires.scope in
    let all = inside_scoped n c.args.lit.now c.in-Any.held c.in-Any.inner c.in-Any.is c.requires.scope in
    let count : length c.as_slice-in-Any.result.now ≡ n + length c.in-Any.inner.vars = ap length c.as_slice-in-Any.ensures.value ∙ c.in_ok-scope-in-Any.ensures.count ∙ ap (λ (vs : List Var). n + length vs) c.as_slice.ensures in
    (search (rules, the_lemmas), (omega (arith, few, count), ap₂ (λ k (ls : List Lit). list_all (lit_scoped k) ls) count c.as_slice-in-Any-2.ensures ∙ all))

pub tidy_lit-returns-in_ok-lits-in-Any : goal.tidy_lit-returns-in_ok-lits-in-Any
tidy_lit-returns-in_ok-lits-in-Any t c =
    let old = c.args.old.now in
    let vars = c.in_ok-scope-in-Any.ensures.vars ∙ ap (λ (vs : List Var). vars_of (slots_in_order (length old) vs)) c.as_slice.ensures in
    let more = c.as_slice-in-Any.ensures.value ∙ c.in_ok-scope-in-Any.ensures.old ∙ ap (λ (vs : List Var). old ++ numbers_of (slots_in_order (length old) vs)) c.as_slice.ensures in
    let each = c.in_ok-lits-in-Any.ensures ∙ ap₂ (λ o (ls : List Lit). map (λ l. lit_sorted (lit_arranged o l)) ls) more c.as_slice-in-Any-2.ensures in
    let lits = c.from_vec-lits.ensures ∙ c.sorted_once.ensures ∙ ap (sorted_once lit_order) each in
    ap₂ (λ (vs : List Var) (ls : List Lit). Any c.in-Any.held (record { vars = vs; lits = ls })) vars lits
    ∙ sym (any_tidied old c.in-Any.held c.in-Any.inner)
    ∙ sym (ap (λ l. lit_sorted (lit_arranged old l)) c.in-Any.is)
