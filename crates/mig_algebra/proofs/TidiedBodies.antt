-- Bodies, tidied and in scope, by the lists of their literals.
use Rattle.std.proofs.Common.{◌≡◌, ℕ, ◌+◌, ◌^◌, ◌<◌, Bool, true, ◌&&◌, List, [], ◌∷◌, ◌++◌, length, map, refl, ap, ap₂, sym, ◌∙◌}
use Rattle.std.proofs.lemmas.Bool.{and_parts, ltb-true, lt-ltb}
use Rattle.std.proofs.Common.{length-append}
use Rattle.std.specs.Prelude.{nat_lt}
use Rattle.std.specs.List.{list_all}
use denote.Hole.Carrier.{hidden}
use Rattle.mig_algebra.specs.declared.literals.Inner.{Inner}
use Rattle.mig_algebra.specs.declared.literals.Lit.{Lit}
use Rattle.mig_algebra.specs.declared.literals.Lit.TheBlock.{hidden-the_row-Lit-0}
use Rattle.mig_algebra.specs.declared.literals.Lit.TheVariants.{Any}
use Rattle.mig_meaning.specs.Lists.{place}
use Rattle.mig_algebra.specs.declared.atoms.Var.{Var}
use Rattle.mig_algebra.specs.declared.atoms.Atom.{Atom}
use Rattle.mig_algebra.specs.declared.terms.Term.{Term}
use Rattle.mig_algebra.specs.Rename.{renumbered}
use Rattle.mig_algebra.specs.Orders.{lit_order}
use Rattle.mig_algebra.specs.Scope.{lit_scoped, row_scoped}
use Rattle.mig_algebra.specs.Sorted.{sorted_once}
use Rattle.mig_algebra.specs.Tidied.{slot_order, slots_in_order, numbers_of, vars_of, lit_arranged, row_arranged, lit_sorted, row_sorted, term_arranged, term_sorted}
use Rattle.mig_algebra.proofs.SlotOrders.{count-sorted}

-- how many variables are in scope inside a body
pub inside_count : (old : List ℕ) (vars : List Var) → length (old ++ numbers_of (slots_in_order (length old) vars)) ≡ length old + length vars
inside_count old vars = length-append old (numbers_of (slots_in_order (length old) vars)) ∙ ap (λ n. length old + n) (count-sorted slot_order (length old) vars)

map-map : {A B C : Type 0} (g : B → C) (f : A → B) (xs : List A) → map g (map f xs) ≡ map (λ x. g (f x)) xs
map-map g f [] = refl
map-map g f (x ∷ xs) = ap (λ ys. g (f x) ∷ ys) (map-map g f xs)

row-tidied : (old : List ℕ) (xs : List Lit) → row_sorted (row_arranged old (hidden-the_row-Lit-0 xs)) ≡ map (λ l. lit_sorted (lit_arranged old l)) xs
unfolding hidden-the_row-Lit-0 hidden
row-tidied old [] = refl
row-tidied old (x ∷ xs) = ap (λ ls. lit_sorted (lit_arranged old x) ∷ ls) (row-tidied old xs)

-- a tidied body has its variables in order, and its tidied literals in order
pub any_tidied : (old : List ℕ) (held : Bool) (inner : Inner) → lit_sorted (lit_arranged old (Any held inner)) ≡ Any held (record { vars = vars_of (slots_in_order (length old) inner.vars); lits = sorted_once lit_order (map (λ l. lit_sorted (lit_arranged (old ++ numbers_of (slots_in_order (length old) inner.vars)) l)) inner.lits) })
any_tidied old held inner =
    ap (λ (ls : List Lit). Any held (record { vars = vars_of (slots_in_order (length old) inner.vars); lits = sorted_once lit_order ls })) (row-tidied (old ++ numbers_of (slots_in_order (length old) inner.vars)) inner.lits)

row-scoped : (n : ℕ) (xs : List Lit) → row_scoped n (hidden-the_row-Lit-0 xs) ≡ list_all (lit_scoped n) xs
unfolding hidden-the_row-Lit-0 hidden
row-scoped n [] = refl
row-scoped n (x ∷ xs) = ap (λ b. lit_scoped n x && b) (row-scoped n xs)

-- a body is in scope where its variables are few, and its literals are in scope with them
pub any_scoped : (n : ℕ) (held : Bool) (inner : Inner) → lit_scoped n (Any held inner) ≡ (nat_lt (n + length inner.vars) (2 ^ 31) && list_all (lit_scoped (n + length inner.vars)) inner.lits)
any_scoped n held inner = ap (λ b. nat_lt (n + length inner.vars) (2 ^ 31) && b) (row-scoped (n + length inner.vars) inner.lits)

-- the few variables of a body in scope
pub inside_few : (n : ℕ) (l : Lit) (held : Bool) (inner : Inner) → l ≡ Any held inner → lit_scoped n l ≡ true → n + length inner.vars < 2 ^ 31
inside_few n l held inner is h =
    ltb-true _ _ (and_parts _ _ (sym (any_scoped n held inner) ∙ ap (lit_scoped n) (sym is) ∙ h)).0

-- its literals are in scope with them
pub inside_scoped : (n : ℕ) (l : Lit) (held : Bool) (inner : Inner) → l ≡ Any held inner → lit_scoped n l ≡ true → list_all (lit_scoped (n + length inner.vars)) inner.lits ≡ true
inside_scoped n l held inner is h = (and_parts _ _ (sym (any_scoped n held inner) ∙ ap (lit_scoped n) (sym is) ∙ h)).1

-- a term that is made of what its parts become
pub term_tidied : (t : Term) (vars : List Var) (lits : List Lit) (head : List Atom) → vars ≡ vars_of (slots_in_order 0 t.vars) → lits ≡ sorted_once lit_order (map (λ l. lit_sorted (lit_arranged (numbers_of (slots_in_order 0 t.vars)) l)) t.lits) → head ≡ map (renumbered (place (numbers_of (slots_in_order 0 t.vars)))) t.head → record { vars = vars; lits = lits; head = head } ≡ term_sorted (term_arranged t)
term_tidied t vars lits head v l h =
    let old = numbers_of (slots_in_order 0 t.vars) in
    let both = ap (sorted_once lit_order) (sym (map-map lit_sorted (lit_arranged old) t.lits)) in
    ap₂ (λ (vs : List Var) (ls : List Lit). record { vars = vs; lits = ls; head = head }) v (l ∙ both)
    ∙ ap (λ (hs : List Atom). record { vars = vars_of (slots_in_order 0 t.vars); lits = sorted_once lit_order (map lit_sorted (map (lit_arranged old) t.lits)); head = hs }) h

-- a body with few variables in scope is in scope where its literals are
pub scoped_inside : (n : ℕ) (l : Lit) (held : Bool) (inner : Inner) → l ≡ Any held inner → n + length inner.vars < 2 ^ 31 → lit_scoped n l ≡ list_all (lit_scoped (n + length inner.vars)) inner.lits
scoped_inside n l held inner is few =
    ap (lit_scoped n) is ∙ any_scoped n held inner ∙ ap (λ b. b && list_all (lit_scoped (n + length inner.vars)) inner.lits) (lt-ltb _ _ few)
