-- What fits in a body still does where a variable outside it, of the same side, table and stage 0, is written for one of its own.
use Rattle.std.proofs.Common.{◌≡◌, ℕ, ◌+◌, Bool, true, ◌&&◌, List, [], ◌∷◌, ◌++◌, take, drop, length, Some, sym, ap, ap₂, ◌∙◌, arith, subst, append_assoc, length-append}
use Rattle.std.specs.Prelude.{slice_get}
use Rattle.std.specs.List.{list_all}
use Rattle.std.proofs.lemmas.Bool.{and_parts}
use Rattle.mig_meaning.specs.Lists.{Each}
use Rattle.mig_algebra.specs.declared.atoms.Var.{Var}
use Rattle.mig_algebra.specs.declared.literals.Inner.{Inner}
use Rattle.mig_algebra.specs.declared.literals.Lit.TheVariants.{Any}
use Rattle.mig_algebra.specs.Proper.{Sides, var_fits, lit_fits}
use Rattle.mig_algebra.specs.Rename.{renumbered}
use Rattle.mig_algebra.proofs.Lists.{each-drop_middle, each-all, all-each}
use Rattle.mig_algebra.proofs.Without.{any_atom}
use Rattle.mig_algebra.proofs.Moved.{any_id, all-lits}
use Rattle.mig_algebra.proofs.RenamedFits.{lits_with-fit, lits_with-oriented}
use Rattle.mig_algebra.proofs.SortedFits.{any_fits, any_oriented}
use Rattle.mig_classes.proofs.WrittenProper.{parts-at}
use Rattle.mig_replacing.specs.Replaced.{spread, FitIn}
use Rattle.mig_steps.proofs.Options.{get-within}
use Rattle.mig_rows.specs.Writing.{into, lits_into, body_into}
use Rattle.mig_rows.proofs.IntoFits.{fits-into, one-spread}
use Rattle.mig_rows.proofs.Numbered.{get-front}

pub alone-fits : (p : Sides) (scope : List Var) (held : Bool) (body : Inner) → lit_fits p scope (Any held body) ≡ true → (i j x : ℕ) (v : Var) → length scope + j ≡ i → slice_get body.vars j ≡ Some v → slice_get scope x ≡ Some v → v.stage ≡ 0 → Each (FitIn p scope) (spread held (body_into i j x body ∷ []))
alone-fits p scope held body h i j x v at own there first =
    let front = take j body.vars in
    let rest = drop (j + 1) body.vars in
    let k = parts-at body.vars j v own in
    let inside = get-within scope x v there in
    let b = and_parts (list_all (var_fits p) body.vars) (list_all (lit_fits p (scope ++ body.vars)) body.lits) (sym (any_fits p scope held body.vars body.lits) ∙ h) in
    let vars : list_all (var_fits p) (front ++ rest) ≡ true = all-each (var_fits p) (front ++ rest) (each-drop_middle (λ x. var_fits p x ≡ true) front v rest (subst (Each (λ x. var_fits p x ≡ true)) k.0 (each-all (var_fits p) body.vars b.0))) in
    let whole : scope ++ body.vars ≡ (scope ++ front) ++ (v ∷ rest) = ap (λ l. scope ++ l) k.0 ∙ sym (append_assoc scope front (v ∷ rest)) in
    let fits = fits-into p (scope ++ front) v rest i x (length-append scope front ∙ ap (λ n. length scope + n) k.1 ∙ at) (λ q. absurd (omega (arith, q, inside, at)))
    (ap (λ l. slice_get l x) (sym whole) ∙ get-front scope body.vars x inside ∙ there) first in
    let lits = lits_with-fit p any_atom any_id (renumbered (into i x)) (into i x) ((scope ++ front) ++ (v ∷ rest)) ((scope ++ front) ++ rest) fits body.lits (all-lits body.lits) (ap (λ l. list_all (lit_fits p l) body.lits) (sym whole) ∙ b.1) in
    one-spread p scope held (body_into i j x body) (record {
      fits = ap (λ z. z && true) (any_fits p scope held (front ++ rest) (lits_into i x body.lits) ∙ ap₂ (λ y z. y && z) vars (ap (λ l. list_all (lit_fits p l) (lits_into i x body.lits)) (sym (append_assoc scope front rest)) ∙ lits));
      oriented = ap (λ z. z && true) (any_oriented held (front ++ rest) (lits_into i x body.lits) ∙ lits_with-oriented (renumbered (into i x)) (into i x) body.lits);
    })
