-- What limits say of bodies, by the lists of their literals.
use Rattle.std.proofs.Common.{arith, ◌≡◌, ℕ, ◌+◌, ◌-◌, ◌^◌, ◌≤◌, ◌<◌, nat_lt, Bool, true, false, ◌&&◌, List, [], ◌∷◌, length, refl, sym, ap, ◌∙◌, Option, None}
use Rattle.std.specs.List.{list_all}
use denote.Hole.Carrier.{hidden}
use Rattle.mig_meaning.specs.Lists.{total}
use Rattle.mig_algebra.specs.declared.atoms.Var.{Var}
use Rattle.mig_algebra.specs.declared.literals.Inner.{Inner}
use Rattle.mig_algebra.specs.declared.literals.Lit.{Lit, Cmp, Other, Any'}
use Rattle.mig_algebra.specs.declared.literals.Lit.TheVariants.{Any}
use Rattle.mig_algebra.specs.declared.literals.Lit.TheBlock.{hidden-the_row-Lit-0}
use Rattle.std.proofs.lemmas.Bool.Decides.{nat_tests}
use Rattle.mig_steps.specs.Limits.{lit_count, row_count, lit_bounded, row_bounded, left}

row_counted : (xs : List Lit) → row_count (hidden-the_row-Lit-0 xs) ≡ total lit_count xs
unfolding hidden-the_row-Lit-0 hidden
row_counted [] = refl
row_counted (x ∷ xs) = ap (λ n. lit_count x + n) (row_counted xs)

-- a body counts as one besides its literals
pub any_counted : (held : Bool) (vars : List Var) (xs : List Lit) → lit_count (Any held (record { vars = vars; lits = xs })) ≡ 1 + total lit_count xs
any_counted held vars xs = ap (λ n. 1 + n) (row_counted xs)

row_all_bounded : (d n : ℕ) (xs : List Lit) → row_bounded d n (hidden-the_row-Lit-0 xs) ≡ list_all (lit_bounded d n) xs
unfolding hidden-the_row-Lit-0 hidden
row_all_bounded d n [] = refl
row_all_bounded d n (x ∷ xs) = ap (λ b. lit_bounded d n x && b) (row_all_bounded d n xs)

-- a body is bounded where its literals are, one level deeper
pub any_bounded : (d n : ℕ) (held : Bool) (vars : List Var) (xs : List Lit) → lit_bounded d n (Any held (record { vars = vars; lits = xs })) ≡ (nat_lt 0 d && (nat_lt (n + length vars) (2 ^ 31) && list_all (lit_bounded (d - 1) (n + length vars)) xs))
any_bounded d n held vars xs = ap (λ b. nat_lt 0 d && (nat_lt (n + length vars) (2 ^ 31) && b)) (row_all_bounded (d - 1) (n + length vars) xs)

left-none : (n : ℕ) → left 0 (1 + n) ≡ None
left-none n = grind (arith, nat_tests)

-- nothing can be taken from an empty budget
pub left-empty : (b : ℕ) (l : Lit) → b ≡ 0 → left b (lit_count l) ≡ None
left-empty b (Cmp op x y) e = ap (λ c. left c 1) e
left-empty b (Other x y) e = ap (λ c. left c 1) e
left-empty b (Any' held vars n lits) e = ap (λ c. left c (1 + row_count lits)) e ∙ left-none (row_count lits)

-- one is taken first
pub left-first : (b n : ℕ) → 1 ≤ b → left (b - 1) n ≡ left b (1 + n)
left-first b n h = grind (arith, nat_tests)

-- a body is taken from a budget where its literals are taken from one less
pub spent-any : (b rest : ℕ) (l : Lit) (held : Bool) (inner : Inner) (lits : List Lit) (r : Option ℕ) → 1 ≤ b → rest ≡ b - 1 → l ≡ Any held inner → lits ≡ inner.lits → r ≡ left rest (total lit_count lits) → r ≡ left b (lit_count l)
spent-any b rest l held inner lits r h e is x s =
    s ∙ ap (λ n. left n (total lit_count lits)) e ∙ left-first b (total lit_count lits) h ∙ ap (λ xs. left b (1 + total lit_count xs)) x ∙ ap (left b) (sym (any_counted held inner.vars inner.lits)) ∙ ap (λ m. left b (lit_count m)) (sym is)

-- a body is bounded where its literals are
pub bounded-any : (d n m k : ℕ) (l : Lit) (held : Bool) (inner : Inner) (lits : List Lit) (r : Bool) → 0 < d → n + length inner.vars < 2 ^ 31 → k ≡ d - 1 → m ≡ n + length inner.vars → l ≡ Any held inner → lits ≡ inner.lits → r ≡ list_all (lit_bounded k m) lits → r ≡ lit_bounded d n l
bounded-any d n m k l held inner lits r h h' e e' is x s =
    s ∙ ap (λ i. list_all (lit_bounded i m) lits) e ∙ ap (λ i. list_all (lit_bounded (d - 1) i) lits) e' ∙ ap (list_all (lit_bounded (d - 1) (n + length inner.vars))) x ∙ both (nat_lt 0 d) (nat_lt (n + length inner.vars) (2 ^ 31)) (list_all (lit_bounded (d - 1) (n + length inner.vars)) inner.lits) (is-less 0 d h) (is-less (n + length inner.vars) (2 ^ 31) h') ∙ sym (any_bounded d n held inner.vars inner.lits) ∙ ap (lit_bounded d n) (sym is)
  where
    both : (a b c : Bool) → a ≡ true → b ≡ true → c ≡ (a && (b && c))
    both true true c p q = refl
    both true false c p q = absurd cc
    both false b c p q = absurd cc

    is-less : (i j : ℕ) → i < j → nat_lt i j ≡ true
    is-less i j q = grind (arith, nat_tests)
