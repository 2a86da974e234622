-- The join that is written, step by step.
use Rattle.std.proofs.Common.{◌≡◌, ℕ, List, [], ◌∷◌, ◌++◌, length, Some, None, append_assoc, refl, ap, sym, ◌∙◌, suc, zero}
use Rattle.std.specs.Prelude.{slice_index_or}
use Rattle.std.proofs.lemmas.List.{append-nil}
use Rattle.mig_schema.specs.declared.tables.Schema.{Schema}
use Rattle.mig_schema.specs.declared.programs.Join.{Join}
use Rattle.mig_schema.specs.declared.programs.Joined.{Joined}
use Rattle.mig_trees.specs.Joining.{next_joined, more_joined, written}
use Rattle.mig_trees.specs.Making.{tree_of}

-- where no link joins a table, nothing more is joined
pub more-none : (n : ℕ) (schema : Schema) (links taken : List ℕ) → next_joined schema taken links ≡ None → more_joined n schema links taken ≡ []
unfolding more_joined
more-none zero schema links taken e = refl
more-none (suc n) schema links taken e = rw (more_joined, e) refl

-- in no round nothing is joined
pub more-zero : (schema : Schema) (links taken : List ℕ) → more_joined 0 schema links taken ≡ []
unfolding more_joined
more-zero schema links taken = refl

-- where a link joins a table, it is joined first
pub more-some : (n : ℕ) (schema : Schema) (links taken : List ℕ) (j : Joined) → next_joined schema taken links ≡ Some j → more_joined (suc n) schema links taken ≡ j ∷ more_joined n schema links (taken ++ j.table ∷ [])
unfolding more_joined
more-some n schema links taken j e = rw (more_joined, e) refl

-- the loop ends where no link joins a table, or after as many rounds as there are links; else it goes on
pub ends_none : (schema : Schema) (links taken : List ℕ) (n : ℕ) (xs all : List Joined) → next_joined schema taken links ≡ None → xs ++ more_joined n schema links taken ≡ all → xs ≡ all
ends_none schema links taken n xs all e h = sym (append-nil xs) ∙ (ap (λ ys. xs ++ ys) (sym (more-none n schema links taken e)) ∙ h)

-- after the last round nothing is left to be joined
pub ends_out : (schema : Schema) (links taken : List ℕ) (n : ℕ) (xs all : List Joined) → n ≡ 0 → xs ++ more_joined n schema links taken ≡ all → xs ≡ all
ends_out schema links taken n xs all e h = sym (append-nil xs) ∙ (ap (λ ys. xs ++ ys) (sym (ap (λ m. more_joined m schema links taken) e ∙ more-zero schema links taken)) ∙ h)

-- each other round joins one table
pub goes_on : (schema : Schema) (links taken : List ℕ) (n k : ℕ) (j : Joined) (xs all : List Joined) → n ≡ suc k → next_joined schema taken links ≡ Some j → xs ++ more_joined n schema links taken ≡ all → (xs ++ j ∷ []) ++ more_joined k schema links (taken ++ j.table ∷ []) ≡ all
goes_on schema links taken n k j xs all size e h =
    append_assoc xs (j ∷ []) (more_joined k schema links (taken ++ j.table ∷ []))
    ∙ (ap (λ ys. xs ++ ys) (sym (ap (λ m. more_joined m schema links taken) size ∙ more-some k schema links taken j e)) ∙ h)

-- what the loop joins is what is written
pub written_is : (schema : Schema) (tables links : List ℕ) (first : ℕ) (more : List Joined) → first ≡ slice_index_or tables 0 0 → more ≡ more_joined (length links) schema links (first ∷ []) → ◌≡◌ {A = Join} (record { first = first; more = more }) (written schema (tree_of tables links))
written_is schema tables links first more e h = rw (h, e) refl
