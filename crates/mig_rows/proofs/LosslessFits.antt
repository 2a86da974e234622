-- A proper term stays proper without a variable and the one literal that names it.
use Rattle.std.proofs.Common.{◌≡◌, ℕ, ◌+◌, true, List, ◌++◌, take, drop, Some, sym, subst}
use Rattle.std.specs.Prelude.{slice_get}
use Rattle.std.specs.List.{list_all}
use Rattle.mig_schema.specs.declared.tables.Kind.{Kind}
use Rattle.mig_meaning.specs.Lists.{Each}
use Rattle.mig_algebra.specs.declared.atoms.Var.{Var}
use Rattle.mig_algebra.specs.declared.terms.Term.{Term}
use Rattle.mig_algebra.specs.Proper.{Sides, var_fits, lit_fits, IsProperTerm}
use Rattle.mig_algebra.specs.Rename.{renumbered, is_not}
use Rattle.mig_algebra.proofs.Lists.{each-drop_middle, each-all, all-each}
use Rattle.mig_algebra.proofs.RenamedFits.{Fits, lits_with-fit, lits_with-oriented, head_with-kinds}
use Rattle.mig_classes.proofs.WrittenProper.{parts-at}
use Rattle.mig_replacing.specs.Places.{others}
use Rattle.mig_rows.specs.Writing.{into, avoids, leaves}
use Rattle.mig_rows.specs.Lossless.{term_left}
use Rattle.mig_rows.specs.Naming.{first_naming}
use Rattle.mig_rows.proofs.LeftFits.{fits-left, rest-pass}

pub lossless-proper : (p : Sides) (ks : List Kind) (t : Term) (i : ℕ) (v : Var) → slice_get t.vars i ≡ Some v → v.stage ≡ 0 → list_all (leaves i) (others t.lits (first_naming i t.lits)) ≡ true → list_all (avoids i) t.head ≡ true → IsProperTerm p ks t → IsProperTerm p ks (term_left i t)
lossless-proper p ks t i v own first left head h =
    let front = take i t.vars in
    let rest = drop (i + 1) t.vars in
    let j = first_naming i t.lits in
    let k = parts-at t.vars i v own in
    let fits = subst (λ l. Fits p l (front ++ rest) (avoids i) (is_not i) (renumbered (into i i)) (into i i)) (sym k.0) (fits-left p front v rest i k.1 first) in
    record {
      vars = all-each (var_fits p) (front ++ rest) (each-drop_middle (λ x. var_fits p x ≡ true) front v rest (subst (Each (λ x. var_fits p x ≡ true)) k.0 (each-all (var_fits p) t.vars h.vars)));
      fits = lits_with-fit p (avoids i) (is_not i) (renumbered (into i i)) (into i i) t.vars (front ++ rest) fits (others t.lits j) left (rest-pass (lit_fits p t.vars) t.lits j h.fits);
      oriented = lits_with-oriented (renumbered (into i i)) (into i i) (others t.lits j);
      head = head_with-kinds p (avoids i) (is_not i) (renumbered (into i i)) (into i i) t.vars (front ++ rest) fits t.head ks head h.head;
    }
