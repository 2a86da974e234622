-- The columns of a class are of one kind.
use Rattle.std.proofs.Common.{◌≡◌, ◌⊎◌, ℕ, true, false, cond, List, [], ◌∷◌, ◌++◌, refl, sym, ap, ◌∙◌, inl, inr}
use Rattle.std.specs.Prelude.{◌&&◌, ◌==◌}
use Rattle.std.proofs.lemmas.Bool.{cases_Bool, and_parts}
use Rattle.mig_schema.specs.Columns.{kind_of, same_col, same_kind}
use Rattle.mig_schema.specs.Joins.{leader, in_one_class, is_among, joins_on, all_join_on}
use Rattle.mig_schema.specs.declared.programs.Join.{Join}
use Rattle.mig_schema.specs.declared.programs.Joined.{Joined}
use Rattle.mig_schema.specs.declared.tables.ColId.{ColId}
use Rattle.mig_schema.specs.declared.tables.Schema.{Schema}
use Rattle.mig_sketch.proofs.Agreeing.{same-column}
use Rattle.mig_sketch.proofs.Placed.{one_kind}

module _ (s : Schema) where
  -- a column leads columns of its kind
  leader-kind : (earlier : List ℕ) (more : List Joined) (c : ColId) → all_join_on s earlier more ≡ true → kind_of s (leader more c) ≡ kind_of s c
  leader-kind earlier [] c e = refl
  leader-kind earlier (m ∷ more) c e =
      let both = and_parts (joins_on s earlier m) (all_join_on s (earlier ++ m.table ∷ []) more) e in
      let ends = and_parts (is_among m.left.table earlier) (m.right.table == m.table && same_kind (kind_of s m.left) (kind_of s m.right)) both.0 in
      let one = one_kind (kind_of s m.left) (kind_of s m.right) (and_parts (m.right.table == m.table) (same_kind (kind_of s m.left) (kind_of s m.right)) ends.1).1 in
      go (cases_Bool (same_col (leader more c) (leader more m.right))) one (λ d. leader-kind (earlier ++ m.table ∷ []) more d both.1)
    where
      go : (same_col (leader more c) (leader more m.right) ≡ true) ⊎ (same_col (leader more c) (leader more m.right) ≡ false) → kind_of s m.left ≡ kind_of s m.right → ((d : ColId) → kind_of s (leader more d) ≡ kind_of s d) → kind_of s (leader (m ∷ more) c) ≡ kind_of s c
      go (inl t) one ih =
          ap (λ b. kind_of s (cond b (leader more m.left) (leader more c))) t
          ∙ ih m.left
          ∙ one
          ∙ sym (ih m.right)
          ∙ ap (kind_of s) (sym (same-column (leader more c) (leader more m.right) t))
          ∙ ih c
      go (inr f) one ih = ap (λ b. kind_of s (cond b (leader more m.left) (leader more c))) f ∙ ih c

  -- so columns of one class are of one kind
  pub class-kind : (j : Join) (a b : ColId) → all_join_on s (j.first ∷ []) j.more ≡ true → in_one_class j a b ≡ true → kind_of s a ≡ kind_of s b
  class-kind j a b e one =
      sym (leader-kind (j.first ∷ []) j.more a e)
      ∙ ap (kind_of s) (same-column (leader j.more a) (leader j.more b) one)
      ∙ leader-kind (j.first ∷ []) j.more b e
