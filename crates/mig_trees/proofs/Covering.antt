-- Links connect tables exactly where the join that is written takes all of the tables.
use Rattle.std.proofs.Common.{◌≡◌, ℕ, Bool, true, eqb, List, [], ◌∷◌, length, map, refl, ap, sym, ◌∙◌, inl, inr}
use Rattle.std.specs.Prelude.{slice_index_or, ◌||◌}
use Rattle.std.proofs.lemmas.Bool.{eqb-true, or_cases}
use Rattle.mig_listing.specs.Listing.{IsIn}
use Rattle.mig_schema.specs.Joins.{is_among}
use Rattle.mig_schema.specs.declared.tables.Schema.{Schema}
use Rattle.mig_schema.specs.declared.programs.Join.{Join}
use Rattle.mig_schema.specs.declared.programs.Joined.{Joined}
use Rattle.mig_trees.specs.Trees.{Connects, IsClosed}
use Rattle.mig_trees.specs.Joining.{more_joined, written}
use Rattle.mig_trees.specs.Making.{tree_of, is_taken, has_joined, is_tree}
use Rattle.mig_trees.proofs.Within.{all_to, all_from, any_to}
use Rattle.mig_trees.proofs.Reach.{among_from, joined_alike, closed_end, undone_within}

-- the tables of a join, as a list
pub taken_is : (n : ℕ) (more : List Joined) → is_taken n more ≡ is_among n (map (λ (j : Joined). j.table) more)
taken_is n [] = refl
taken_is n (j ∷ more) = ap (λ b. eqb j.table n || b) (taken_is n more)

-- a join has a table where that is its first one or a joined one
pub joined_is : (n : ℕ) (join : Join) → has_joined n join ≡ is_among n (join.first ∷ map (λ (j : Joined). j.table) join.more)
joined_is n join = ap (λ b. eqb join.first n || b) (taken_is n join.more)

-- a part that no link leads out of has all tables of a join, or none
pub alike : (schema : Schema) (tables links : List ℕ) → is_tree schema tables links ≡ true → (part : ℕ → Bool) → IsClosed schema links part → (a : ℕ) → IsIn a tables → part a ≡ part (slice_index_or tables 0 0)
alike schema tables links e part closed a i =
    let first = slice_index_or tables 0 0 in
    elim (or_cases _ _ (all_to (λ n. has_joined n (written schema (tree_of tables links))) tables a e i)) [
      | inl h ↦ ap part (sym (eqb-true (slice_index_or tables 0 0) a h))
      | inr h ↦
          let one = any_to (λ (j : Joined). eqb j.table a) (more_joined (length links) schema links (slice_index_or tables 0 0 ∷ [])) h in
          ap part (sym (eqb-true (one.0).table a one.2)) ∙ joined_alike schema links part (part (slice_index_or tables 0 0)) closed (length links) (slice_index_or tables 0 0 ∷ []) (λ x j. elim j [ inl same ↦ ap part same | inr z ↦ absurd z ]) one.0 one.1
    ]

-- so a join that takes all tables shows that the links connect them
pub connects_to : (schema : Schema) (tables links : List ℕ) → is_tree schema tables links ≡ true → Connects schema tables links
connects_to schema tables links e = λ part closed a b i j. alike schema tables links e part closed a i ∙ sym (alike schema tables links e part closed b j)

-- the first of some tables is one of them
pub first_in : (tables : List ℕ) (a : ℕ) → IsIn a tables → IsIn (slice_index_or tables 0 0) tables
first_in [] a i = absurd i
first_in (x ∷ tables) a i = inl refl

-- and where they connect them, the join takes all, since no link leads out of what it takes
pub connects_from : (schema : Schema) (tables links : List ℕ) → Connects schema tables links → is_tree schema tables links ≡ true
connects_from schema tables links c =
    let first = slice_index_or tables 0 0 in
    let end = slice_index_or tables 0 0 ∷ map (λ (j : Joined). j.table) (more_joined (length links) schema links (slice_index_or tables 0 0 ∷ [])) in
    let same = c (λ n. is_among n (slice_index_or tables 0 0 ∷ map (λ (j : Joined). j.table) (more_joined (length links) schema links (slice_index_or tables 0 0 ∷ []))))
    (λ n l i is. closed_end schema links (length links) (slice_index_or tables 0 0 ∷ []) (undone_within schema (slice_index_or tables 0 0 ∷ []) links) n l i is) in
    all_from (λ n. has_joined n (written schema (tree_of tables links))) tables (λ a i.
    joined_is a (written schema (tree_of tables links)) ∙ (same a (slice_index_or tables 0 0) i (first_in tables a i) ∙ among_from (slice_index_or tables 0 0) (slice_index_or tables 0 0 ∷ map (λ (j : Joined). j.table) (more_joined (length links) schema links (slice_index_or tables 0 0 ∷ []))) (inl refl)))
