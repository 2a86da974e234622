-- A host over a table with the row p more, whatever `Other`s name the variable: the host over the table before, and the host with p's values, narrowed.
use Rattle.std.proofs.Common.{◌≡◌, ◌≢◌, ℕ, suc, ◌+◌, true, List, [], ◌∷◌, ◌++◌, map, length, sym, ap, ap₂, ◌∙◌, add-zero}
use Rattle.mig_meaning.specs.declared.states.Placed.{Placed}
use Rattle.mig_meaning.specs.Lists.{total, Each}
use Rattle.mig_meaning.specs.Rows.{value_at}
use Rattle.mig_meaning.proofs.Bags.{total-append}
use Rattle.mig_algebra.specs.declared.atoms.Var.{Var}
use Rattle.mig_algebra.specs.declared.atoms.Atom.{Atom}
use Rattle.mig_algebra.specs.declared.literals.Lit.{Lit}
use Rattle.mig_algebra.specs.Meaning.{Setting, Env, value_of}
use Rattle.mig_algebra.specs.Rename.{lit_with, without, below, is_not}
use Rattle.std.specs.Prelude.{Some}
use Rattle.mig_algebra.proofs.Truth.{Reads}
use Rattle.mig_algebra.proofs.Without.{any_atom}
use Rattle.mig_algebra.proofs.Hosts.{host_sum}
use Rattle.mig_algebra.proofs.Inserted.{row_sum, host-pull, host-at_row}
use Rattle.mig_unfolding.specs.Hosts.{var_before}
use Rattle.mig_unfolding.specs.Narrowed.{is_same, is_older, narrowed, narrow_list, list_narrows}
use Rattle.mig_unfolding.proofs.NarrowTruth.{Apart, narrowed-long, row-narrowed}
use Rattle.mig_unfolding.proofs.NarrowNames.{narrow-list-unnamed}

module _ (s : Setting) (u : Var) (p : Placed) (v : ℕ) (rows : (x : Var) → is_same u x ≡ true → s.rows x ≡ s.rows (var_before x) ++ (p ∷ [])) (old : (x : Var) → is_older u (Some x) ≡ true → Each (λ (q : Placed). q.id ≢ p.id) (s.rows x)) where
  pub host-insert_named : (sc : List Var) (e : Env) (k k' : Env → ℕ) (vs ws : List Var) (lits : List Lit) (to : ℕ → Atom) → length e ≡ length sc → length e + length vs ≡ v → Apart s u p v rows old sc e → s.rows u ≡ s.rows (var_before u) ++ (p ∷ [])
      → list_narrows u v (sc ++ (vs ++ (u ∷ ws))) (sc ++ narrowed u v (length sc) lits (vs ++ (u ∷ ws))) lits ≡ true
      → ((f : Env) (col : ℕ) → value_at p col ≡ value_of s f (to col))
      → ((c d : Env) → Reads s (e ++ (c ++ (p ∷ d))) (e ++ (c ++ d)) any_atom (is_not v) (without v to) (below v) → k (e ++ (c ++ (p ∷ d))) ≡ k' (e ++ (c ++ d)))
      → host_sum s e k (vs ++ (u ∷ ws)) lits
      ≡ host_sum s e k (vs ++ (var_before u ∷ ws)) lits
      + host_sum s e k' (narrowed u v (length e) lits vs ++ narrowed u v (v + 1) lits ws) (map (lit_with (without v to) (below v)) (narrow_list u v (length e + (length vs + suc (length ws))) lits))
  host-insert_named sc e k k' vs ws lits to long at apart own ok cols ks =
      host-pull s e k vs u ws lits
      ∙ ap (total (row_sum s e k vs ws lits)) own
      ∙ total-append (row_sum s e k vs ws lits) (s.rows (var_before u)) (p ∷ [])
      ∙ ap₂ (λ m n. m + n) (sym (host-pull s e k vs (var_before u) ws lits))
      (add-zero (row_sum s e k vs ws lits p)
      ∙ row-narrowed s u p v rows old sc e k vs ws lits long at apart own ok
      ∙ host-at_row s e k k' (narrowed u v (length e) lits vs) (narrowed u v (v + 1) lits ws) (narrow_list u v (length e + (length vs + suc (length ws))) lits) v to p (ap (λ n. length e + n) (narrowed-long s u p v rows old (length e) lits vs) ∙ at) (narrow-list-unnamed u v (length e + (length vs + suc (length ws))) lits) cols ks)
