-- Two variables of a term whose column is equal, in a table where that column tells rows apart, are made one: the bag stays.
use Rattle.std.proofs.Common.{◌≡◌, ◌≢◌, ℕ, ◌+◌, true, List, [], ◌∷◌, map, take, drop, Some, refl, sym, ap, ◌∙◌, arith, inl}
use Rattle.std.specs.Prelude.{slice_get}
use Rattle.mig_schema.specs.declared.values.Value.{Value}
use Rattle.mig_algebra.specs.declared.atoms.Var.{Var}
use Rattle.mig_algebra.specs.declared.atoms.Atom.TheVariants.{Col}
use Rattle.mig_algebra.specs.declared.terms.Term.{Term}
use Rattle.mig_algebra.specs.Meaning.{Setting, head_of}
use Rattle.mig_algebra.specs.Rename.{renumbered}
use Rattle.mig_algebra.proofs.Truth.{head-reads}
use Rattle.mig_algebra.proofs.Without.{any_atom, all-any_atom}
use Rattle.mig_algebra.proofs.Moved.{any_id}
use Rattle.mig_algebra.proofs.Weights.{weight}
use Rattle.mig_algebra.proofs.Hosts.{host_sum}
use Rattle.mig_classes.specs.Classes.{one_class}
use Rattle.mig_classes.proofs.Classed.{one_class-value}
use Rattle.mig_classes.proofs.WrittenProper.{parts-at}
use Rattle.mig_replacing.specs.Replaced.{SameAmong}
use Rattle.mig_replacing.proofs.Replacing.{same-among}
use Rattle.mig_rows.specs.Writing.{into, term_into}
use Rattle.mig_rows.proofs.Distinct.{Distinct}
use Rattle.mig_rows.proofs.OneRow.{host-into}

module _ (s : Setting) (t : Term) (i x col : ℕ) (v : Var) (own : slice_get t.vars i ≡ Some v) (there : slice_get t.vars x ≡ Some v) (ne : x ≢ i) (distinct : Distinct col (s.rows v)) (class : one_class t.lits (Col x col) (Col i col) ≡ true) where
  -- each sum of weights
  merge-weight : (w : List Value → ℕ) → weight s w (term_into i x t) ≡ weight s w t
  merge-weight w =
      let k = parts-at t.vars i v own in
      sym (ap (λ vars. host_sum s [] (λ c. w (head_of s t.head c)) vars t.lits) k.0
      ∙ host-into s [] [] (inl refl) (take i t.vars) v (drop (i + 1) t.vars) t.lits i x col (omega (arith, k.1)) ne (ap (λ l. slice_get l x) (sym k.0) ∙ there) distinct
      (λ c h u. sym (one_class-value s c t.lits (Col x col) (Col i col) u class))
      (λ c. w (head_of s t.head c)) (λ c. w (head_of s (map (renumbered (into i x)) t.head) c))
      (λ a b r. ap w (head-reads s any_atom any_id (renumbered (into i x)) (into i x) a b r t.head (all-any_atom t.head))))

  -- the bag
  pub merge-keeps : SameAmong s (t ∷ []) (term_into i x t ∷ [])
  merge-keeps = same-among s (t ∷ []) (term_into i x t ∷ []) (λ w. ap (λ n. n + 0) (merge-weight w))
