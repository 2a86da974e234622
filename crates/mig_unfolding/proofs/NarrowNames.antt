-- No `Other` names the variable in what is narrowed.
use Rattle.std.proofs.Common.{◌≡◌, ℕ, ◌+◌, Bool, true, false, cond, not, ◌&&◌, List, [], ◌∷◌, length, refl, ap, ◌∙◌, inl, inr, ◌⊎◌}
use Rattle.std.specs.Prelude.{◌==◌}
use Rattle.std.specs.List.{list_all}
use Rattle.std.proofs.lemmas.Bool.{cases_Bool, and_from, or_parts}
use denote.Hole.Carrier.{hidden}
use Rattle.mig_algebra.specs.declared.atoms.Var.{Var}
use Rattle.mig_algebra.specs.declared.atoms.Atom.{Atom}
use Rattle.mig_algebra.specs.declared.literals.Lit.{Lit, Cmp, Other, Any', Row_of-Lit, end_of-Lit, more_of-Lit, items-the_row-Lit}
use Rattle.mig_algebra.specs.declared.literals.Lit.TheBlock.{hidden-the_row-Lit-0}
use Rattle.mig_algebra.specs.declared.literals.Lit.TheVariants.{Any}
use Rattle.mig_algebra.specs.Rename.{lit_all, row_all, is_not}
use Rattle.mig_algebra.proofs.Without.{any_atom}
use Rattle.mig_unfolding.specs.Narrowed.{parts, narrowed, narrow_lit, narrow_row, narrow_list}

row_all-list : (a : Atom → Bool) (n : ℕ → Bool) (xs : List Lit) → row_all a n (hidden-the_row-Lit-0 xs) ≡ list_all (lit_all a n) xs
unfolding hidden-the_row-Lit-0 hidden
row_all-list a n [] = refl
row_all-list a n (x ∷ xs) = ap (λ b. lit_all a n x && b) (row_all-list a n xs)

-- a test of a body's literals, by its list
pub any_all : (a : Atom → Bool) (n : ℕ → Bool) (held : Bool) (vars : List Var) (xs : List Lit) → lit_all a n (Any held (record { vars = vars; lits = xs })) ≡ list_all (lit_all a n) xs
any_all a n held vars xs = row_all-list a n xs

skip : (u : Var) (v n : ℕ) (l : Lit) (ls : List Lit) → (parts v l ≡ false → lit_all any_atom (is_not v) (narrow_lit u v n l) ≡ true) → list_all (lit_all any_atom (is_not v)) ls ≡ true → list_all (lit_all any_atom (is_not v)) (cond (parts v l) ls (narrow_lit u v n l ∷ ls)) ≡ true
skip u v n l ls one h = go (cases_Bool (parts v l))
  where
    go : (parts v l ≡ true) ⊎ (parts v l ≡ false) → list_all (lit_all any_atom (is_not v)) (cond (parts v l) ls (narrow_lit u v n l ∷ ls)) ≡ true
    go (inl t) = ap (λ b. list_all (lit_all any_atom (is_not v)) (cond b ls (narrow_lit u v n l ∷ ls))) t ∙ h
    go (inr t) = ap (λ b. list_all (lit_all any_atom (is_not v)) (cond b ls (narrow_lit u v n l ∷ ls))) t ∙ and_from (lit_all any_atom (is_not v) (narrow_lit u v n l)) (list_all (lit_all any_atom (is_not v)) ls) (one t) h

mutual
  pub narrow-unnamed : (u : Var) (v n : ℕ) (l : Lit) → parts v l ≡ false → lit_all any_atom (is_not v) (narrow_lit u v n l) ≡ true
  narrow-unnamed u v n (Cmp op a b) h = refl
  narrow-unnamed u v n (Other a b) h =
      let k = or_parts (a == v) (b == v) h in and_from (is_not v a) (is_not v b) (ap not k.0) (ap not k.1)
  narrow-unnamed u v n (Any' held vars m row) h =
      any_all any_atom (is_not v) held (narrowed u v n (items-the_row-Lit _ row) vars) (narrow_row u v (n + length vars) row) ∙ narrow-row-unnamed u v (n + length vars) row

  pub narrow-row-unnamed : (u : Var) (v n : ℕ) {m : _} (row : Row_of-Lit m) → list_all (lit_all any_atom (is_not v)) (narrow_row u v n row) ≡ true
  narrow-row-unnamed u v n end_of-Lit = refl
  narrow-row-unnamed u v n (more_of-Lit l rest) = skip u v n l (narrow_row u v n rest) (narrow-unnamed u v n l) (narrow-row-unnamed u v n rest)

pub narrow-list-unnamed : (u : Var) (v n : ℕ) (ls : List Lit) → list_all (lit_all any_atom (is_not v)) (narrow_list u v n ls) ≡ true
narrow-list-unnamed u v n [] = refl
narrow-list-unnamed u v n (l ∷ ls) = skip u v n l (narrow_list u v n ls) (narrow-unnamed u v n l) (narrow-list-unnamed u v n ls)
