-- Columns in one class of a join are equal where its equalities are met.
use Rattle.std.proofs.Common.{◌≡◌, true, false, cond, List, [], ◌∷◌, refl, sym, ap, ◌∙◌, inl, inr, ◌⊎◌}
use Rattle.std.specs.Prelude.{◌==◌}
use Rattle.std.proofs.lemmas.Bool.{cases_Bool, and_parts, eqb-true}
use Rattle.mig_schema.specs.declared.tables.ColId.{ColId}
use Rattle.mig_schema.specs.declared.programs.Join.{Join}
use Rattle.mig_schema.specs.declared.programs.Joined.{Joined}
use Rattle.mig_schema.specs.Columns.{same_col}
use Rattle.mig_schema.specs.Joins.{leader, in_one_class}
use Rattle.mig_meaning.specs.Values.{value_eq}
use Rattle.mig_meaning.specs.Rows.{column_in, meets}
use Rattle.mig_meaning.proofs.Bags.{value_eq-true}
use Rattle.mig_algebra.specs.Meaning.{Env}

pub same_col-true : (a b : ColId) → same_col a b ≡ true → a ≡ b
same_col-true a b h =
    let k = and_parts (a.table == b.table) (a.column == b.column) h in
    ap (λ t. record { table = t; column = a.column }) (eqb-true a.table b.table k.0) ∙ ap (λ c. record { table = b.table; column = c }) (eqb-true a.column b.column k.1)

module _ (ts : List _) (x : Env) where
  -- a column has the value of its leader where the equalities are met
  leader-value : (ms : List Joined) → meets ts ms x ≡ true → (c : ColId) → column_in ts x (leader ms c) ≡ column_in ts x c
  leader-value [] h c = refl
  leader-value (m ∷ ms) h c =
      let k = and_parts (value_eq (column_in ts x m.left) (column_in ts x m.right)) (meets ts ms x) h in
      go (leader-value ms k.1) (value_eq-true (column_in ts x m.left) (column_in ts x m.right) k.0) (cases_Bool (same_col (leader ms c) (leader ms m.right)))
    where
      go : ((d : ColId) → column_in ts x (leader ms d) ≡ column_in ts x d) → column_in ts x m.left ≡ column_in ts x m.right → (same_col (leader ms c) (leader ms m.right) ≡ true) ⊎ (same_col (leader ms c) (leader ms m.right) ≡ false) → column_in ts x (cond (same_col (leader ms c) (leader ms m.right)) (leader ms m.left) (leader ms c)) ≡ column_in ts x c
      go ih q (inl t) =
          ap (λ b. column_in ts x (cond b (leader ms m.left) (leader ms c))) t
          ∙ ih m.left ∙ q ∙ sym (ih m.right) ∙ ap (column_in ts x) (sym (same_col-true (leader ms c) (leader ms m.right) t)) ∙ ih c
      go ih q (inr n) = ap (λ b. column_in ts x (cond b (leader ms m.left) (leader ms c))) n ∙ ih c

  -- columns of one class are equal there
  pub class-equal : (j : Join) (a b : ColId) → meets ts j.more x ≡ true → in_one_class j a b ≡ true → column_in ts x a ≡ column_in ts x b
  class-equal j a b h k =
      sym (leader-value j.more h a) ∙ ap (column_in ts x) (same_col-true (leader j.more a) (leader j.more b) k) ∙ leader-value j.more h b
