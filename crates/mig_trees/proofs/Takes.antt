-- The join that is written takes the least link that joins a table, again and again until none does.
use Rattle.std.proofs.Common.{◌≡◌, ℕ, ◌+◌, ◌<◌, ◌≤◌, false, List, [], ◌∷◌, ◌++◌, length, map, Some, refl, ap, sym, ◌∙◌, subst, inl, inr, arith, suc, zero}
use Rattle.std.specs.Prelude.{slice_index_or, slice_get}
use Rattle.std.proofs.lemmas.Option.{same_Some, none-some}
use Rattle.std.proofs.lemmas.Bool.{cases_Bool, false≢true}
use Rattle.mig_listing.specs.Listing.{IsIn, Rises}
use Rattle.mig_listing.specs.Orders.{Less}
use Rattle.mig_schema.specs.Joins.{is_among}
use Rattle.mig_schema.specs.declared.tables.Link.{Link}
use Rattle.mig_schema.specs.declared.tables.Schema.{Schema}
use Rattle.mig_schema.specs.declared.programs.Joined.{Joined}
use Rattle.mig_trees.specs.Trees.{Tree, IsLinkTree}
use Rattle.mig_trees.specs.Written.{Joins, JoinsBy, IsNextJoined, AreJoined, IsWritten}
use Rattle.mig_trees.specs.Answer.{AreWritten}
use Rattle.mig_trees.specs.Joining.{joining, joining_at, or_first, next_joined, more_joined, written}
use Rattle.mig_trees.proofs.Steps.{more-none, more-zero, more-some}
use Rattle.mig_trees.proofs.Reach.{cases_option, among_to, among_from, next_by, stuck, none_undone, undone, undone_less, undone_within}

-- what is not among these is none of them, both ways
pub not_in : (n : ℕ) (ns : List ℕ) → is_among n ns ≡ false → IsIn n ns → ⊥
not_in n ns f i = false≢true (sym f ∙ among_from n ns i)

-- what is none of these is not found among them
pub not_among : (n : ℕ) (ns : List ℕ) → (IsIn n ns → ⊥) → is_among n ns ≡ false
not_among n ns out = elim (cases_Bool (is_among n ns)) [
  | inl t ↦ absurd (out (among_to n ns t))
  | inr f ↦ f
]

-- `joining` is right, both ways
pub joins_to : (taken : List ℕ) (l : Link) (j : Joined) → joining taken l ≡ Some j → Joins l taken j
joins_to taken l j e = elim (cases_Bool (is_among l.left.table taken)) [
  | inl a ↦ elim (cases_Bool (is_among l.right.table taken)) [
    | inl b ↦ absurd (none-some j (rw (a, b) at e))
    | inr b ↦ inl (among_to l.left.table taken a, not_in l.right.table taken b, sym (same_Some _ j (rw (a, b) at e)))
  ]
  | inr a ↦ elim (cases_Bool (is_among l.right.table taken)) [
    | inl b ↦ inr (among_to l.right.table taken b, not_in l.left.table taken a, sym (same_Some _ j (rw (a, b) at e)))
    | inr b ↦ absurd (none-some j (rw (a, b) at e))
  ]
]

-- what joins by definition is what is computed
pub joins_back : (taken : List ℕ) (l : Link) (j : Joined) → Joins l taken j → joining taken l ≡ Some j
joins_back taken l j h = elim h [
  | inl a ↦
      let t = among_from l.left.table taken a.0 in
      let f = not_among l.right.table taken a.1 in
      rw (t, f, a.2) refl
  | inr a ↦
      let t = among_from l.right.table taken a.0 in
      let f = not_among l.left.table taken a.1 in
      rw (f, t, a.2) refl
]

-- the same of a link by its number
pub by_number : (schema : Schema) (links taken : List ℕ) (j : Joined) (n : ℕ) → JoinsBy schema links taken j n → joining_at taken (slice_get schema.links n) ≡ Some j
by_number schema links taken j n h = ap (joining_at taken) h.2 ∙ joins_back taken h.1 j h.3

-- a link of these for which a joined table is computed joins it
pub of_number : (schema : Schema) (links taken : List ℕ) (j : Joined) (n : ℕ) → IsIn n links → joining_at taken (slice_get schema.links n) ≡ Some j → JoinsBy schema links taken j n
of_number schema links taken j n i e = elim (cases_option (slice_get schema.links n)) [
  | inl none ↦ absurd (none-some j (sym (ap (joining_at taken) none) ∙ e))
  | inr some ↦ (i, some.0, some.1, joins_to taken some.0 j (sym (ap (joining_at taken) some.1) ∙ e))
]

-- of rising links the first that joins a table is the least
abbrev pub IsFirstJoined : Schema → List ℕ → List ℕ → Joined → Type 0
IsFirstJoined schema links taken j = (n : ℕ) × (IsIn n links × (joining_at taken (slice_get schema.links n) ≡ Some j)) × ((m : ℕ) (k : Joined) → IsIn m links → joining_at taken (slice_get schema.links m) ≡ Some k → m < n → ⊥)

-- so the first of rising links that joins a table is found
pub first_joined : (schema : Schema) (taken links : List ℕ) (j : Joined) → Rises Less links → next_joined schema taken links ≡ Some j → IsFirstJoined schema links taken j
first_joined schema taken [] j r e = absurd (none-some j e)
first_joined schema taken (n ∷ ns) j r e = elim (cases_option (joining_at taken (slice_get schema.links n))) [
  | inl none ↦
      let rest = first_joined schema taken ns j r.1 (subst (λ o. or_first o (next_joined schema taken ns) ≡ Some j) none e) in (
        rest.0,
        (inr rest.1.0, rest.1.1),
        (λ m k i by small. elim i [
          | inl same ↦ absurd (none-some k (sym none ∙ (ap (λ x. joining_at taken (slice_get schema.links x)) (sym same) ∙ by)))
          | inr later ↦ rest.2 m k later by small
        ]),
      )
  | inr some ↦
      let is = subst (λ o. or_first o (next_joined schema taken ns) ≡ Some j) some.1 e in (
        n,
        (inl refl, some.1 ∙ is),
        (λ m k i by small. elim i [
          | inl same ↦ absurd (omega (arith, same, small))
          | inr later ↦ let above = r.0 m later in absurd (omega (arith, above, small))
        ]),
      )
]

-- so the least link is taken
pub next_is_least : (schema : Schema) (taken links : List ℕ) (j : Joined) → Rises Less links → next_joined schema taken links ≡ Some j → IsNextJoined schema links taken j
next_is_least schema taken links j r e =
    let first = first_joined schema taken links j r e in
    (first.0, of_number schema links taken j first.0 first.1.0 first.1.1, (λ m k by small. first.2 m k by.0 (by_number schema links taken k m by) small))

-- a link with both ends taken, or neither, joins nothing
pub joins_nothing : (taken : List ℕ) (l : Link) (j : Joined) → is_among l.left.table taken ≡ is_among l.right.table taken → Joins l taken j → ⊥
joins_nothing taken l j e h = elim h [
  | inl a ↦ a.1 (among_to l.right.table taken (sym e ∙ among_from l.left.table taken a.0))
  | inr a ↦ a.1 (among_to l.left.table taken (e ∙ among_from l.right.table taken a.0))
]

-- as many rounds as there are links with an end outside are enough
pub all_joined : (schema : Schema) (links : List ℕ) → Rises Less links → (n : ℕ) (taken : List ℕ) → undone schema taken links ≤ n → AreJoined schema links taken (more_joined n schema links taken)
all_joined schema links r zero taken le = subst (AreJoined schema links taken) (sym (more-zero schema links taken)) (λ m j by. joins_nothing taken by.1 j (none_undone schema taken links le m by.1 by.0 by.2) by.3)
all_joined schema links r (suc n) taken le = elim (cases_option (next_joined schema taken links)) [
  | inl none ↦ subst (AreJoined schema links taken) (sym (more-none (suc n) schema links taken none)) (λ m j by. joins_nothing taken by.1 j (stuck schema taken links none m by.1 by.0 by.2) by.3)
  | inr some ↦
      let by = next_by schema taken links some.0 some.1 in
      let less = undone_less schema taken links by.0 by.1 some.0 by.2 by.3 by.4 in
      let rest = all_joined schema links r n (taken ++ (some.0).table ∷ []) (omega (arith, less, le)) in
      subst (AreJoined schema links taken) (sym (more-some n schema links taken some.0 some.1)) (next_is_least schema taken links some.0 r some.1, rest)
]

-- tables of which there is one have a first one
pub first_and_rest : (tables : List ℕ) (n : ℕ) → n + 1 ≡ length tables → (rest : List ℕ) × (tables ≡ slice_index_or tables 0 0 ∷ rest)
first_and_rest [] n e = absurd (omega (arith, e))
first_and_rest (x ∷ rest) n e = (rest, refl)

-- so a link tree is written as the definition says
pub tree_written : (schema : Schema) (t : Tree) → IsLinkTree schema t → IsWritten schema t (written schema t)
tree_written schema t is = record {
  least = first_and_rest t.tables (length t.links) is.one_less;
  joined = all_joined schema t.links is.rising_links (length t.links) (slice_index_or t.tables 0 0 ∷ []) (undone_within schema (slice_index_or t.tables 0 0 ∷ []) t.links);
}

-- and so is each of a list of them
pub trees_written : (schema : Schema) (trees : List Tree) → ((t : Tree) → IsIn t trees → IsLinkTree schema t) → AreWritten schema trees (map (written schema) trees)
trees_written schema [] h = tt
trees_written schema (t ∷ ts) h = (tree_written schema t (h t (inl refl)), trees_written schema ts (λ s i. h s (inr i)))
