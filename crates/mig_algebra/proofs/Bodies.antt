-- Bodies hold their literals in rows; here a body's literals are a list.
use Rattle.std.proofs.Common.{◌≡◌, ℕ, Bool, ◌&&◌, List, [], ◌∷◌, ◌++◌, map, refl, sym, ap, ap₂, ◌∙◌, subst}
use Rattle.std.specs.List.{list_any}
use denote.Hole.Carrier.{hidden}
use mathlib.Core.Former.{list_count, this}
use Rattle.mig_meaning.specs.Lists.{Each}
use Rattle.mig_algebra.specs.declared.atoms.Var.{Var}
use Rattle.mig_algebra.specs.declared.atoms.Atom.{Atom}
use Rattle.mig_schema.specs.declared.programs.Op.{Op}
use Rattle.mig_algebra.specs.declared.literals.Inner.{Inner}
use Rattle.mig_algebra.specs.declared.literals.Lit.{Lit, Cmp, Other, Any', Row_of-Lit, end_of-Lit, more_of-Lit, items-the_row-Lit, roll-Lit, roll-out-Lit}
use Rattle.mig_algebra.specs.declared.literals.Lit.TheVariants.{Any}
use Rattle.mig_algebra.specs.declared.literals.Lit.TheViews.{rolls-Any, outs-Any'}
use Rattle.mig_algebra.specs.declared.literals.Lit.TheBlock.{items_shown-the_row-Lit-0, shown-the_row-Lit-0, shape-the_row-Lit-0, hidden-the_row-Lit-0}
use Rattle.mig_algebra.specs.Meaning.{Setting, Env, comes_out, choices, lit_true, row_true, lits_true}
use Rattle.mig_algebra.specs.Rename.{lit_with, row_with}
use Rattle.mig_algebra.proofs.Some.{any-same}

-- a body's row is true where the list of its literals is
pub row_as_list : (s : Setting) (e : Env) {m : _} (lits : Row_of-Lit m) → row_true s e lits ≡ lits_true s e (items-the_row-Lit m lits)
row_as_list s e end_of-Lit = refl
row_as_list s e (more_of-Lit l rest) = ap (λ b. lit_true s e l && b) (row_as_list s e rest)

row_of_list : (s : Setting) (e : Env) (xs : List Lit) → row_true s e (hidden-the_row-Lit-0 xs) ≡ lits_true s e xs
unfolding hidden-the_row-Lit-0 hidden
row_of_list s e [] = refl
row_of_list s e (x ∷ xs) = ap (λ b. lit_true s e x && b) (row_of_list s e xs)

-- the truth of a body by its list
pub any_true : (s : Setting) (e : Env) (held : Bool) (vars : List Var) (xs : List Lit) → lit_true s e (Any held (record { vars = vars; lits = xs })) ≡ comes_out held (list_any (λ c. lits_true s (e ++ c) xs) (choices s vars))
any_true s e held vars xs = ap (comes_out held) (any-same _ _ (λ c. row_of_list s (e ++ c) xs) (choices s vars))

-- induction over literals in which bodies are lists
module _ (P : Lit → Type 0) (cmp : (op : Op) (l r : Atom) → P (Cmp op l r)) (other : (l r : ℕ) → P (Other l r)) (any : (held : Bool) (vars : List Var) (xs : List Lit) → Each P xs → P (Any held (record { vars = vars; lits = xs }))) where
  mutual
    pub by_literal : (l : Lit) → P l
    by_literal (Cmp op l r) = cmp op l r
    by_literal (Other l r) = other l r
    by_literal (Any' held vars n lits) =
        let inner = λ (xs : List Lit). Any held (record { vars = vars; lits = xs }) in
        let whole : inner (shown-the_row-Lit-0 n lits) ≡ Any' held vars n lits =
        sym (rolls-Any held (record { vars = vars; lits = shown-the_row-Lit-0 n lits })) ∙ ap roll-Lit (sym (outs-Any' held vars n lits)) ∙ roll-out-Lit (Any' held vars n lits) in
        subst P (ap inner (sym (items_shown-the_row-Lit-0 n lits)) ∙ whole) (any held vars (items-the_row-Lit _ lits) (by_row lits))

    pub by_row : {m : _} (lits : Row_of-Lit m) → Each P (items-the_row-Lit m lits)
    by_row end_of-Lit = tt
    by_row (more_of-Lit l rest) = (by_literal l, by_row rest)

row_with_list : {X : Type 0} (f : Atom → Atom) (g : ℕ → ℕ) (xs : List Lit) (k : (n : List (Unit {0})) → Row_of-Lit (list_count this n 0) → X) → k (shape-the_row-Lit-0 xs) (row_with f g (hidden-the_row-Lit-0 xs)) ≡ k (shape-the_row-Lit-0 (map (lit_with f g) xs)) (hidden-the_row-Lit-0 (map (lit_with f g) xs))
unfolding shape-the_row-Lit-0 hidden-the_row-Lit-0 hidden
row_with_list f g [] k = refl
row_with_list f g (x ∷ xs) k = row_with_list f g xs (λ n r. k (tt ∷ n) (more_of-Lit (lit_with f g x) r))

-- to rename a body is to rename each literal of its list
pub any_with : (f : Atom → Atom) (g : ℕ → ℕ) (held : Bool) (vars : List Var) (xs : List Lit) → lit_with f g (Any held (record { vars = vars; lits = xs })) ≡ Any held (record { vars = vars; lits = map (lit_with f g) xs })
any_with f g held vars xs = row_with_list f g xs (λ n r. Any' held vars n r)

-- a body that was made from another's parts
pub any_made : (f : Atom → Atom) (g : ℕ → ℕ) (l : Lit) (held : Bool) (inner : Inner) (vars vars0 : List Var) (lits lits0 : List Lit) → l ≡ Any held inner → vars ≡ vars0 → vars0 ≡ inner.vars → lits ≡ map (lit_with f g) lits0 → lits0 ≡ inner.lits → Any held (record { vars = vars; lits = lits }) ≡ lit_with f g l
any_made f g l held inner vars vars0 lits lits0 is v v0 x x0 =
    ap₂ (λ (vs : List Var) (ls : List Lit). Any held (record { vars = vs; lits = ls })) (v ∙ v0) (x ∙ ap (map (lit_with f g)) x0)
    ∙ sym (any_with f g held inner.vars inner.lits) ∙ ap (lit_with f g) (sym is)
