-- Which tables a join takes: all that the links connect to its first one.
use Rattle.std.proofs.Common.{◌≡◌, ℕ, ◌+◌, ◌≤◌, ◌⊎◌, Bool, true, false, cond, eqb, List, [], ◌∷◌, ◌++◌, length, map, Option, Some, None, append_assoc, refl, ap, sym, ◌∙◌, subst, inl, inr, arith, suc, zero}
use Rattle.std.specs.Prelude.{slice_get, ◌&&◌}
use Rattle.std.proofs.lemmas.List.{append-nil}
use Rattle.std.proofs.lemmas.Option.{same_Some, none-some}
use Rattle.std.proofs.lemmas.Bool.{cases_Bool, eq-eqb, eqb-true, or_cases, or_left, or_right, and_parts, and_from, false≢true}
use Rattle.mig_listing.specs.Listing.{IsIn}
use Rattle.mig_listing.proofs.Members.{in_append_left, in_append_right, in_append}
use Rattle.mig_schema.specs.Joins.{is_among}
use Rattle.mig_schema.specs.declared.tables.Link.{Link}
use Rattle.mig_schema.specs.declared.tables.Schema.{Schema}
use Rattle.mig_schema.specs.declared.programs.Joined.{Joined}
use Rattle.mig_trees.specs.Joining.{joining, joining_at, or_first, next_joined, more_joined}
use Rattle.mig_trees.proofs.Steps.{more-none, more-zero, more-some}

-- there is none, or there is one
pub cases_option : {A : Type 0} (o : Option A) → (o ≡ None) ⊎ ((x : A) × (o ≡ Some x))
cases_option None = inl refl
cases_option (Some x) = inr (x, refl)

-- what is found among numbers is one of them
pub among_to : (n : ℕ) (ns : List ℕ) → is_among n ns ≡ true → IsIn n ns
among_to n [] e = absurd (false≢true e)
among_to n (m ∷ ns) e = elim (or_cases _ _ e) [ inl h ↦ inl (sym (eqb-true m n h)) | inr h ↦ inr (among_to n ns h) ]

-- one of the numbers is found among them
pub among_from : (n : ℕ) (ns : List ℕ) → IsIn n ns → is_among n ns ≡ true
among_from n [] i = absurd i
among_from n (m ∷ ns) i = elim i [
  | inl e ↦ or_left (eqb m n) (is_among n ns) (eq-eqb m n (sym e))
  | inr j ↦ or_right (eqb m n) (is_among n ns) (among_from n ns j)
]

-- and among more of them
pub among_more : (n : ℕ) (ns more : List ℕ) → is_among n ns ≡ true → is_among n (ns ++ more) ≡ true
among_more n ns more e = among_from n (ns ++ more) (in_append_left ns more n (among_to n ns e))

-- what joining gives
pub joins_from : (taken : List ℕ) (l : Link) (j : Joined) → joining taken l ≡ Some j → ((is_among l.left.table taken ≡ true) × (is_among l.right.table taken ≡ false) × (j.table ≡ l.right.table)) ⊎ ((is_among l.left.table taken ≡ false) × (is_among l.right.table taken ≡ true) × (j.table ≡ l.left.table))
joins_from taken l j e = elim (cases_Bool (is_among l.left.table taken)) [
  | inl a ↦ elim (cases_Bool (is_among l.right.table taken)) [
    | inl b ↦ absurd (none-some j (rw (a, b) at e))
    | inr b ↦ inl (a, b, sym (ap (λ (x : Joined). x.table) (same_Some _ j (rw (a, b) at e))))
  ]
  | inr a ↦ elim (cases_Bool (is_among l.right.table taken)) [
    | inl b ↦ inr (a, b, sym (ap (λ (x : Joined). x.table) (same_Some _ j (rw (a, b) at e))))
    | inr b ↦ absurd (none-some j (rw (a, b) at e))
  ]
]

pub joins_none : (taken : List ℕ) (l : Link) → joining taken l ≡ None → is_among l.left.table taken ≡ is_among l.right.table taken
joins_none taken l e = elim (cases_Bool (is_among l.left.table taken)) [
  | inl a ↦ elim (cases_Bool (is_among l.right.table taken)) [
    | inl b ↦ a ∙ sym b
    | inr b ↦ absurd (none-some _ (sym (rw (a, b) at e)))
  ]
  | inr a ↦ elim (cases_Bool (is_among l.right.table taken)) [
    | inl b ↦ absurd (none-some _ (sym (rw (a, b) at e)))
    | inr b ↦ a ∙ sym b
  ]
]

-- the next one is by one of the links
pub next_by : (schema : Schema) (taken ns : List ℕ) (j : Joined) → next_joined schema taken ns ≡ Some j → (n : ℕ) × (l : Link) × IsIn n ns × (slice_get schema.links n ≡ Some l) × (joining taken l ≡ Some j)
next_by schema taken [] j e = absurd (none-some j e)
next_by schema taken (n ∷ ns) j e = elim (cases_option (slice_get schema.links n)) [
  | inl none ↦ let rest = next_by schema taken ns j (rw none at e) in (rest.0, rest.1, inr rest.2, rest.3, rest.4)
  | inr some ↦ elim (cases_option (joining taken some.0)) [
    | inl none ↦
        let e' : or_first (joining taken some.0) (next_joined schema taken ns) ≡ Some j = subst (λ o. or_first (joining_at taken o) (next_joined schema taken ns) ≡ Some j) some.1 e in
        let rest = next_by schema taken ns j (subst (λ o. or_first o (next_joined schema taken ns) ≡ Some j) none e') in (rest.0, rest.1, inr rest.2, rest.3, rest.4)
    | inr joined ↦
        let e' : or_first (joining taken some.0) (next_joined schema taken ns) ≡ Some j = subst (λ o. or_first (joining_at taken o) (next_joined schema taken ns) ≡ Some j) some.1 e in
        let is : Some joined.0 ≡ Some j = subst (λ o. or_first o (next_joined schema taken ns) ≡ Some j) joined.1 e' in
        (n, some.0, inl refl, some.1, joined.1 ∙ is)
  ]
]

-- where there is no next one, no link leaves the tables taken
pub stuck : (schema : Schema) (taken ns : List ℕ) → next_joined schema taken ns ≡ None → (n : ℕ) (l : Link) → IsIn n ns → slice_get schema.links n ≡ Some l → is_among l.left.table taken ≡ is_among l.right.table taken
stuck schema taken [] e n l i is = absurd i
stuck schema taken (m ∷ ns) e n l i is = elim i [
  | inl same ↦
      let e' : or_first (joining taken l) (next_joined schema taken ns) ≡ None = subst (λ o. or_first (joining_at taken o) (next_joined schema taken ns) ≡ None) (ap (slice_get schema.links) (sym same) ∙ is) e in
      elim (cases_option (joining taken l)) [
        | inl none ↦ joins_none taken l none
        | inr some ↦ absurd (none-some some.0 (sym (subst (λ o. or_first o (next_joined schema taken ns) ≡ None) some.1 e')))
      ]
  | inr j ↦ elim (cases_option (joining_at taken (slice_get schema.links m))) [
    | inl none ↦ stuck schema taken ns (subst (λ o. or_first o (next_joined schema taken ns) ≡ None) none e) n l j is
    | inr some ↦ absurd (none-some some.0 (sym (subst (λ o. or_first o (next_joined schema taken ns) ≡ None) some.1 e)))
  ]
]

-- A part that no link leaves and that has all tables taken, or none, is the same at all that are joined later.
pub joined_alike : (schema : Schema) (links : List ℕ) (part : ℕ → Bool) (v : Bool) → ((n : ℕ) (l : Link) → IsIn n links → slice_get schema.links n ≡ Some l → part l.left.table ≡ part l.right.table) → (n : ℕ) (taken : List ℕ) → ((x : ℕ) → IsIn x taken → part x ≡ v) → (j : Joined) → IsIn j (more_joined n schema links taken) → part j.table ≡ v
joined_alike schema links part v closed zero taken h j i = absurd (subst (IsIn j) (more-zero schema links taken) i)
joined_alike schema links part v closed (suc n) taken h j i = elim (cases_option (next_joined schema taken links)) [
  | inl none ↦ absurd (subst (IsIn j) (more-none (suc n) schema links taken none) i)
  | inr some ↦
      let k = some.0 in
      let by = next_by schema taken links some.0 some.1 in
      let here : part (some.0).table ≡ v = elim (joins_from taken by.1 some.0 by.4) [
        | inl a ↦ ap part a.2 ∙ (sym (closed by.0 by.1 by.2 by.3) ∙ h (by.1).left.table (among_to (by.1).left.table taken a.0))
        | inr a ↦ ap part a.2 ∙ (closed by.0 by.1 by.2 by.3 ∙ h (by.1).right.table (among_to (by.1).right.table taken a.1))
      ] in
      elim (subst (IsIn j) (more-some n schema links taken some.0 some.1) i) [
        | inl e ↦ ap (λ (x : Joined). part x.table) e ∙ here
        | inr r ↦ joined_alike schema links part v closed n (taken ++ (some.0).table ∷ []) (λ x p. elim (in_append taken ((some.0).table ∷ []) x p) [
          | inl q ↦ h x q
          | inr q ↦ elim q [ inl e ↦ ap part e ∙ here | inr z ↦ absurd z ]
        ]) j r
      ]
]

-- both ends of the link are taken; nothing is left of a link that is not there
abbrev pub is_done : List ℕ → Option Link → Bool
is_done taken None = true
is_done taken (Some l) = is_among l.left.table taken && is_among l.right.table taken

-- how many links have an end outside the tables taken
abbrev pub undone : Schema → List ℕ → List ℕ → ℕ
undone schema taken [] = 0
undone schema taken (n ∷ ns) = cond (is_done taken (slice_get schema.links n)) 0 1 + undone schema taken ns

-- they are no more than the links
pub undone_within : (schema : Schema) (taken ns : List ℕ) → undone schema taken ns ≤ length ns
undone_within schema taken [] = omega arith
undone_within schema taken (n ∷ ns) = let h = undone_within schema taken ns in elim (cases_Bool (is_done taken (slice_get schema.links n))) [
  | inl e ↦ rw e (omega (arith, h))
  | inr e ↦ rw e (omega (arith, h))
]

-- both ends of a link stay taken where more is
pub done_more : (taken more : List ℕ) (o : Option Link) → is_done taken o ≡ true → is_done (taken ++ more) o ≡ true
done_more taken more None e = refl
done_more taken more (Some l) e = let parts = and_parts _ _ e in and_from _ _ (among_more l.left.table taken more parts.0) (among_more l.right.table taken more parts.1)

-- what counts for the smaller number counts for the greater too
pub one_less : (a b : Bool) (m n : ℕ) → (a ≡ true → b ≡ true) → m ≤ n → cond b 0 1 + m ≤ cond a 0 1 + n
one_less true true m n h le = omega (arith, le)
one_less true false m n h le = absurd (false≢true (h refl))
one_less false true m n h le = omega (arith, le)
one_less false false m n h le = omega (arith, le)

-- where more is taken, no more links have an end outside
pub undone_more : (schema : Schema) (taken more ns : List ℕ) → undone schema (taken ++ more) ns ≤ undone schema taken ns
undone_more schema taken more [] = omega arith
undone_more schema taken more (n ∷ ns) = one_less (is_done taken (slice_get schema.links n)) (is_done (taken ++ more) (slice_get schema.links n)) _ _ (done_more taken more (slice_get schema.links n)) (undone_more schema taken more ns)

-- the link by which a table is joined had an end outside, and has none then
pub was_undone : (taken : List ℕ) (l : Link) (j : Joined) → joining taken l ≡ Some j → (is_done taken (Some l) ≡ false) × (is_done (taken ++ j.table ∷ []) (Some l) ≡ true)
was_undone taken l j e = elim (joins_from taken l j e) [
  | inl a ↦ (rw (a.0, a.1) refl, and_from _ _ (among_more l.left.table taken (j.table ∷ []) a.0) (among_from l.right.table (taken ++ j.table ∷ []) (in_append_right taken (j.table ∷ []) l.right.table (inl (sym a.2)))))
  | inr a ↦ (rw a.0 refl, and_from _ _ (among_from l.left.table (taken ++ j.table ∷ []) (in_append_right taken (j.table ∷ []) l.left.table (inl (sym a.2)))) (among_more l.right.table taken (j.table ∷ []) a.1))
]

-- where a link joins a table, one link fewer has
pub undone_less : (schema : Schema) (taken ns : List ℕ) (n : ℕ) (l : Link) (j : Joined) → IsIn n ns → slice_get schema.links n ≡ Some l → joining taken l ≡ Some j → undone schema (taken ++ j.table ∷ []) ns + 1 ≤ undone schema taken ns
undone_less schema taken [] n l j i is e = absurd i
undone_less schema taken (m ∷ ns) n l j i is e = elim i [
  | inl same ↦
      let at : slice_get schema.links m ≡ Some l = ap (slice_get schema.links) (sym same) ∙ is in
      let was = was_undone taken l j e in
      let le = undone_more schema taken (j.table ∷ []) ns in
      let before : is_done taken (slice_get schema.links m) ≡ false = ap (is_done taken) at ∙ was.0 in
      let after : is_done (taken ++ j.table ∷ []) (slice_get schema.links m) ≡ true = ap (is_done (taken ++ j.table ∷ [])) at ∙ was.1 in
      rw (before, after) (omega (arith, le))
  | inr k ↦
      let le = undone_less schema taken ns n l j k is e in
      let head = one_less (is_done taken (slice_get schema.links m)) (is_done (taken ++ j.table ∷ []) (slice_get schema.links m)) (undone schema (taken ++ j.table ∷ []) ns + 1) (undone schema taken ns) (done_more taken (j.table ∷ []) (slice_get schema.links m)) le in
      omega (arith, head)
]

-- where none has, no link leaves the tables taken
pub none_undone : (schema : Schema) (taken ns : List ℕ) → undone schema taken ns ≤ 0 → (n : ℕ) (l : Link) → IsIn n ns → slice_get schema.links n ≡ Some l → is_among l.left.table taken ≡ is_among l.right.table taken
none_undone schema taken [] le n l i is = absurd i
none_undone schema taken (m ∷ ns) le n l i is = elim (cases_Bool (is_done taken (slice_get schema.links m))) [
  | inl done ↦ elim i [
    | inl same ↦
        let both : (is_among l.left.table taken && is_among l.right.table taken) ≡ true = ap (is_done taken) (sym (ap (slice_get schema.links) (sym same) ∙ is)) ∙ done in
        let parts = and_parts _ _ both in parts.0 ∙ sym parts.1
    | inr j ↦ none_undone schema taken ns (let h = rw done at le in omega (arith, h)) n l j is
  ]
  | inr not_done ↦ absurd (let h = rw not_done at le in omega (arith, h))
]

-- no link leaves the tables that are taken in the end
pub closed_end : (schema : Schema) (links : List ℕ) (n : ℕ) (taken : List ℕ) → undone schema taken links ≤ n → (m : ℕ) (l : Link) → IsIn m links → slice_get schema.links m ≡ Some l → is_among l.left.table (taken ++ map (λ (j : Joined). j.table) (more_joined n schema links taken)) ≡ is_among l.right.table (taken ++ map (λ (j : Joined). j.table) (more_joined n schema links taken))
closed_end schema links zero taken le m l i is = rw (more-zero schema links taken, append-nil taken) (none_undone schema taken links le m l i is)
closed_end schema links (suc n) taken le m l i is = elim (cases_option (next_joined schema taken links)) [
  | inl none ↦ rw (more-none (suc n) schema links taken none, append-nil taken) (stuck schema taken links none m l i is)
  | inr some ↦
      let by = next_by schema taken links some.0 some.1 in
      let less = undone_less schema taken links by.0 by.1 some.0 by.2 by.3 by.4 in
      let later = closed_end schema links n (taken ++ (some.0).table ∷ []) (omega (arith, less, le)) m l i is in
      rw (more-some n schema links taken some.0 some.1, ← append_assoc taken ((some.0).table ∷ []) (map (λ (j : Joined). j.table) (more_joined n schema links (taken ++ (some.0).table ∷ [])))) later
]
