-- What fits in a body still does without a variable and the one literal that names it.
use Rattle.std.proofs.Common.{◌≡◌, ℕ, ◌+◌, Bool, true, ◌&&◌, List, [], ◌∷◌, ◌++◌, take, drop, length, Some, sym, ap, ap₂, ◌∙◌, subst, append_assoc, length-append}
use Rattle.std.specs.Prelude.{slice_get}
use Rattle.std.specs.List.{list_all}
use Rattle.std.proofs.lemmas.Bool.{and_parts}
use Rattle.mig_meaning.specs.Lists.{Each}
use Rattle.mig_algebra.specs.declared.atoms.Var.{Var}
use Rattle.mig_algebra.specs.declared.literals.Inner.{Inner}
use Rattle.mig_algebra.specs.declared.literals.Lit.TheVariants.{Any}
use Rattle.mig_algebra.specs.Proper.{Sides, var_fits, lit_fits}
use Rattle.mig_algebra.specs.Rename.{renumbered, is_not}
use Rattle.mig_algebra.proofs.Lists.{each-drop_middle, each-all, all-each}
use Rattle.mig_algebra.proofs.RenamedFits.{lits_with-fit, lits_with-oriented}
use Rattle.mig_algebra.proofs.SortedFits.{any_fits, any_oriented}
use Rattle.mig_classes.proofs.WrittenProper.{parts-at}
use Rattle.mig_replacing.specs.Places.{others}
use Rattle.mig_replacing.specs.Replaced.{spread, FitIn}
use Rattle.mig_rows.specs.Writing.{into, avoids, leaves, lits_left}
use Rattle.mig_rows.specs.Inside.{body_left}
use Rattle.mig_rows.specs.Naming.{first_naming}
use Rattle.mig_rows.proofs.IntoFits.{one-spread}
use Rattle.mig_rows.proofs.LeftFits.{fits-left, rest-pass}

pub inside-fits : (p : Sides) (scope : List Var) (held : Bool) (body : Inner) → lit_fits p scope (Any held body) ≡ true → (i j : ℕ) (v : Var) → length scope + j ≡ i → slice_get body.vars j ≡ Some v → v.stage ≡ 0 → list_all (leaves i) (others body.lits (first_naming i body.lits)) ≡ true → Each (FitIn p scope) (spread held (body_left i j body ∷ []))
inside-fits p scope held body h i j v at own first left =
    let front = take j body.vars in
    let rest = drop (j + 1) body.vars in
    let more = others body.lits (first_naming i body.lits) in
    let k = parts-at body.vars j v own in
    let b = and_parts (list_all (var_fits p) body.vars) (list_all (lit_fits p (scope ++ body.vars)) body.lits) (sym (any_fits p scope held body.vars body.lits) ∙ h) in
    let vars : list_all (var_fits p) (front ++ rest) ≡ true = all-each (var_fits p) (front ++ rest) (each-drop_middle (λ x. var_fits p x ≡ true) front v rest (subst (Each (λ x. var_fits p x ≡ true)) k.0 (each-all (var_fits p) body.vars b.0))) in
    let whole : scope ++ body.vars ≡ (scope ++ front) ++ (v ∷ rest) = ap (λ l. scope ++ l) k.0 ∙ sym (append_assoc scope front (v ∷ rest)) in
    let fits = fits-left p (scope ++ front) v rest i (length-append scope front ∙ ap (λ n. length scope + n) k.1 ∙ at) first in
    let lits = lits_with-fit p (avoids i) (is_not i) (renumbered (into i i)) (into i i) ((scope ++ front) ++ (v ∷ rest)) ((scope ++ front) ++ rest) fits more left (ap (λ l. list_all (lit_fits p l) more) (sym whole) ∙ rest-pass (lit_fits p (scope ++ body.vars)) body.lits (first_naming i body.lits) b.1) in
    let fit : FitIn p scope (Any held (body_left i j body) ∷ []) = record {
      fits = ap (λ z. z && true) (any_fits p scope held (front ++ rest) (lits_left i more) ∙ ap₂ (λ y z. y && z) vars (ap (λ l. list_all (lit_fits p l) (lits_left i more)) (sym (append_assoc scope front rest)) ∙ lits));
      oriented = ap (λ z. z && true) (any_oriented held (front ++ rest) (lits_left i more) ∙ lits_with-oriented (renumbered (into i i)) (into i i) more);
    } in
    one-spread p scope held (body_left i j body) fit
