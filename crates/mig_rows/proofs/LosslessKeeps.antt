-- A variable of a term that one equality alone names goes with it, where exactly one row meets it: the bag stays.
use Rattle.std.proofs.Common.{◌≡◌, ◌≢◌, ℕ, ◌+◌, true, List, [], ◌∷◌, map, take, drop, Some, refl, sym, ap, ◌∙◌, arith, inl}
use Rattle.std.specs.Prelude.{slice_get}
use Rattle.std.specs.List.{list_all}
use Rattle.mig_schema.specs.declared.values.Value.{Value}
use Rattle.mig_algebra.specs.declared.atoms.Var.{Var}
use Rattle.mig_algebra.specs.declared.atoms.Atom.TheVariants.{Col}
use Rattle.mig_algebra.specs.declared.terms.Term.{Term}
use Rattle.mig_algebra.specs.Meaning.{Setting, head_of}
use Rattle.mig_algebra.specs.Rename.{renumbered, is_not}
use Rattle.mig_algebra.proofs.Truth.{head-reads}
use Rattle.mig_algebra.proofs.Weights.{weight}
use Rattle.mig_algebra.proofs.Hosts.{host_sum}
use Rattle.mig_classes.proofs.Classed.{one_class-value}
use Rattle.mig_classes.proofs.WrittenProper.{parts-at}
use Rattle.mig_replacing.specs.Places.{others}
use Rattle.mig_replacing.specs.Replaced.{SameAmong}
use Rattle.mig_replacing.specs.Given.{plain}
use Rattle.mig_replacing.proofs.Around.{plain-true}
use Rattle.mig_replacing.proofs.Replacing.{same-among}
use Rattle.mig_rows.specs.Writing.{into, avoids}
use Rattle.mig_rows.specs.Lossless.{term_left}
use Rattle.mig_rows.specs.Naming.{first_naming}
use Rattle.mig_rows.proofs.Distinct.{Distinct}
use Rattle.mig_rows.proofs.NamedOnce.{Once, HasPartners}
use Rattle.mig_rows.proofs.Partner.{host-partner}

module _ (s : Setting) (t : Term) (i m y n : ℕ) (v u : Var) (own : slice_get t.vars i ≡ Some v) (there : slice_get t.vars y ≡ Some u) (ne : y ≢ i) (once : Once [] i m y n t.lits) (head : list_all (avoids i) t.head ≡ true) (partners : HasPartners s u v n m) (distinct : Distinct m (s.rows v)) where
  lossless-weight : (w : List Value → ℕ) → weight s w (term_left i t) ≡ weight s w t
  lossless-weight w =
      let k = parts-at t.vars i v own in
      sym (ap (λ vars. host_sum s [] (λ c. w (head_of s t.head c)) vars t.lits) k.0
      ∙ host-partner s [] [] (inl refl) (take i t.vars) v (drop (i + 1) t.vars) t.lits i (first_naming i t.lits) y m n u once.pair.atom (omega (arith, k.1)) once.in' once.left once.pair.free (once.pair.says s) ne (ap (λ l. slice_get l y) (sym k.0) ∙ there) partners
      (λ c h r. one_class-value s c (plain (others t.lits (first_naming i t.lits))) once.pair.atom (Col y n) (plain-true s c (others t.lits (first_naming i t.lits)) r) once.pair.class)
      distinct
      (λ c. w (head_of s t.head c)) (λ c. w (head_of s (map (renumbered (into i i)) t.head) c))
      (λ a b r. ap w (head-reads s (avoids i) (is_not i) (renumbered (into i i)) (into i i) a b r t.head head)))

  pub lossless-keeps : SameAmong s (t ∷ []) (term_left i t ∷ [])
  lossless-keeps = same-among s (t ∷ []) (term_left i t ∷ []) (λ w. ap (λ n. n + 0) (lossless-weight w))
