-- What a body names, by the list of its literals.
use Rattle.std.proofs.Common.{◌≡◌, ℕ, Bool, ◌&&◌, List, [], ◌∷◌, refl, sym, ap, ◌∙◌}
use Rattle.std.specs.List.{list_all}
use denote.Hole.Carrier.{hidden}
use Rattle.mig_algebra.specs.declared.atoms.Atom.{Atom}
use Rattle.mig_algebra.specs.declared.literals.Inner.{Inner}
use Rattle.mig_algebra.specs.declared.literals.Lit.{Lit}
use Rattle.mig_algebra.specs.declared.literals.Lit.TheVariants.{Any}
use Rattle.mig_algebra.specs.declared.literals.Lit.TheBlock.{hidden-the_row-Lit-0}
use Rattle.mig_algebra.specs.Rename.{lit_all, row_all}

row_named : (a : Atom → Bool) (n : ℕ → Bool) (xs : List Lit) → row_all a n (hidden-the_row-Lit-0 xs) ≡ list_all (lit_all a n) xs
unfolding hidden-the_row-Lit-0 hidden
row_named a n [] = refl
row_named a n (x ∷ xs) = ap (λ b. lit_all a n x && b) (row_named a n xs)

-- a body passes where each of its literals does
pub all-any : (a : Atom → Bool) (n : ℕ → Bool) (l : Lit) (held : Bool) (inner : Inner) (lits : List Lit) (r : Bool) → l ≡ Any held inner → lits ≡ inner.lits → r ≡ list_all (lit_all a n) lits → r ≡ lit_all a n l
all-any a n l held inner lits r is x s = s ∙ ap (list_all (lit_all a n)) x ∙ sym (row_named a n inner.lits) ∙ ap (lit_all a n) (sym is)
