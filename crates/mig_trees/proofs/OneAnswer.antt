-- A tree is written as one join, and there is one list of trees.
use Rattle.std.proofs.Common.{◌≡◌, ℕ, List, [], ◌∷◌, ◌++◌, length, ap, sym, refl, ◌∙◌, subst, inl, inr}
use Rattle.std.specs.Prelude.{slice_index_or, slice_get}
use Rattle.std.proofs.lemmas.Option.{same_Some}
use Rattle.std.proofs.lemmas.Bool.{cases_order}
use Rattle.mig_listing.specs.Orders.{IsOrder, Less, Lex, FirstBy}
use Rattle.mig_listing.proofs.Unique.{one_listing}
use Rattle.mig_listing.proofs.Orders.{less_order, Lex-order, FirstBy-order}
use Rattle.mig_schema.specs.declared.tables.ColId.{ColId}
use Rattle.mig_schema.specs.declared.tables.Schema.{Schema}
use Rattle.mig_schema.specs.declared.programs.Join.{Join}
use Rattle.mig_schema.specs.declared.programs.Joined.{Joined}
use Rattle.mig_trees.specs.Trees.{Tree, TreeBefore}
use Rattle.mig_trees.specs.Written.{IsNextJoined, AreJoined, IsWritten}
use Rattle.mig_trees.specs.Answer.{AreWritten, IsServing, AreTrees}
use Rattle.mig_trees.specs.Joining.{joining_at}
use Rattle.mig_trees.proofs.Takes.{by_number}

-- the least link that joins a table is one, and it joins one
pub next_once : (schema : Schema) (links taken : List ℕ) (j k : Joined) → IsNextJoined schema links taken j → IsNextJoined schema links taken k → j ≡ k
next_once schema links taken j k a b = elim (cases_order a.0 b.0) [
  | inl same ↦ same_Some j k (sym (by_number schema links taken j a.0 a.1) ∙ (ap (λ n. joining_at taken (slice_get schema.links n)) same ∙ by_number schema links taken k b.0 b.1))
  | inr order ↦ elim order [
    | inl small ↦ absurd (b.2 a.0 j a.1 small)
    | inr great ↦ absurd (a.2 b.0 k b.1 great)
  ]
]

-- one list of tables is joined
pub joined_once : (schema : Schema) (links taken : List ℕ) (xs ys : List Joined) → AreJoined schema links taken xs → AreJoined schema links taken ys → xs ≡ ys
joined_once schema links taken [] [] a b = refl
joined_once schema links taken [] (k ∷ ys) a b = absurd (a b.0.0 k b.0.1)
joined_once schema links taken (j ∷ xs) [] a b = absurd (b a.0.0 j a.0.1)
joined_once schema links taken (j ∷ xs) (k ∷ ys) a b =
    let same : j ≡ k = next_once schema links taken j k a.0 b.0 in
    let rest : xs ≡ ys = joined_once schema links (taken ++ k.table ∷ []) xs ys (subst (λ (h : Joined). AreJoined schema links (taken ++ h.table ∷ []) xs) same a.1) b.1 in
    ap (λ h. h ∷ xs) same ∙ ap (λ t. k ∷ t) rest

-- a tree is written as one join
pub written_once : (schema : Schema) (t : Tree) (a b : Join) → IsWritten schema t a → IsWritten schema t b → a ≡ b
written_once schema t a b p q =
    let first : a.first ≡ b.first = ap (λ xs. slice_index_or xs 0 0) (sym p.least.1 ∙ q.least.1) in
    let more : a.more ≡ b.more = joined_once schema t.links (b.first ∷ []) a.more b.more (subst (λ n. AreJoined schema t.links (n ∷ []) a.more) first p.joined) q.joined in
    ap (λ n. record { first = n; more = a.more }) first ∙ ap (λ m. record { first = b.first; more = m }) more

-- trees are written as one list of joins
pub lists_once : (schema : Schema) (trees : List Tree) (xs ys : List Join) → AreWritten schema trees xs → AreWritten schema trees ys → xs ≡ ys
lists_once schema [] [] [] a b = refl
lists_once schema [] [] (y ∷ ys) a b = absurd b
lists_once schema [] (x ∷ xs) ys a b = absurd a
lists_once schema (t ∷ ts) [] ys a b = absurd a
lists_once schema (t ∷ ts) (x ∷ xs) [] a b = absurd b
lists_once schema (t ∷ ts) (x ∷ xs) (y ∷ ys) a b = ap (λ h. h ∷ xs) (written_once schema t x y a.0 b.0) ∙ ap (λ l. y ∷ l) (lists_once schema ts xs ys a.1 b.1)

-- to stand first by links is an order
pub by_links : IsOrder (λ (s t : Tree). Lex Less s.links t.links)
by_links = record { never = λ x h. (Lex-order {R = Less} less_order).never x.links h; on = λ x y z h k. (Lex-order {R = Less} less_order).on x.links y.links z.links h k }

-- and so is the order of link trees
pub tree_order : IsOrder TreeBefore
tree_order = FirstBy-order (λ (t : Tree). length t.tables) {R = Less} {S = FirstBy (λ (t : Tree). t.tables) (Lex Less) (λ s t. Lex Less s.links t.links)} less_order (FirstBy-order (λ (t : Tree). t.tables) {R = Lex Less} {S = λ s t. Lex Less s.links t.links} (Lex-order {R = Less} less_order) by_links)

-- one list of joins answers a need
pub one_answer : (schema : Schema) (need : List (List ColId)) (xs ys : List Join) → AreTrees schema need xs → AreTrees schema need ys → xs ≡ ys
one_answer schema need xs ys a b =
    let same : a.trees ≡ b.trees = one_listing {P = IsServing schema need} {R = TreeBefore} tree_order a.trees b.trees a.listed b.listed in
    lists_once schema b.trees xs ys (subst (λ ts. AreWritten schema ts xs) same a.written) b.written
