-- Joins that are listed over a typed schema have the shape that the typing rules ask for.
use Rattle.std.proofs.Common.{◌≡◌, ◌⊎◌, ℕ, ◌≤◌, suc, zero, Bool, true, false, not, List, [], ◌∷◌, ◌++◌, length, map, Some, refl, sym, ◌∙◌, subst, inl, inr, arith}
use Rattle.std.specs.Prelude.{slice_get, slice_index_or, ◌&&◌, ◌||◌, ◌==◌}
use Rattle.std.specs.List.{list_any}
use Rattle.std.proofs.lemmas.Option.{same_Some}
use Rattle.std.proofs.lemmas.Map.Keys.{any_passes_from_place}
use Rattle.std.proofs.lemmas.Bool.{cases_Bool, and_parts, and_from, eq-eqb, lt-ltb, false≢true}
use Rattle.mig_listing.specs.Listing.{IsIn}
use Rattle.mig_listing.proofs.Members.{in_append_left, in_append_right}
use Rattle.mig_schema.specs.Columns.{has_column, kind_of, same_kind}
use Rattle.mig_schema.specs.Joins.{tables_of, is_among, joins_on, all_join_on}
use Rattle.mig_schema.specs.Typed.{IsTypedSchema, link_end, link_kinds, stands_twice}
use Rattle.mig_schema.specs.declared.tables.ColId.{ColId}
use Rattle.mig_schema.specs.declared.tables.Kind.{Kind}
use Rattle.mig_schema.specs.declared.tables.Kind.TheVariants as kind
use Rattle.mig_schema.specs.declared.tables.Link.{Link}
use Rattle.mig_schema.specs.declared.tables.Schema.{Schema}
use Rattle.mig_schema.specs.declared.programs.Join.{Join}
use Rattle.mig_schema.specs.declared.programs.Joined.{Joined}
use Rattle.mig_trees.specs.Trees.{Tree, IsLinkTree, Serves}
use Rattle.mig_trees.specs.Written.{Joins, AreJoined, IsWritten}
use Rattle.mig_trees.specs.Answer.{AreWritten, AreTrees}
use Rattle.mig_trees.specs.Joining.{next_joined, more_joined, written}
use Rattle.mig_trees.specs.Listed.{IsListedJoin}
use Rattle.mig_trees.specs.Making.{has_joined}
use Rattle.mig_trees.proofs.Covering.{connects_from, joined_is}
use Rattle.mig_trees.proofs.OneAnswer.{written_once}
use Rattle.mig_trees.proofs.Reach.{cases_option, among_to, among_from}
use Rattle.mig_trees.proofs.Steps.{more-none, more-zero, more-some}
use Rattle.mig_trees.proofs.Takes.{not_among, tree_written}
use Rattle.mig_trees.proofs.Within.{all_to}

-- a test that a rule forbids fails at each item
passed : {A : Type 0} (broken : A → Bool) (xs : List A) (n : ℕ) (x : A) → list_any broken xs ≡ false → slice_get xs n ≡ Some x → broken x ≡ false
passed broken xs n x none at = go (cases_Bool (broken x))
  where
    go : (broken x ≡ true) ⊎ (broken x ≡ false) → broken x ≡ false
    go (inl t) = absurd (false≢true (sym none ∙ any_passes_from_place broken xs n x at t))
    go (inr f) = f

-- what is not false is true
kept : (b : Bool) → not b ≡ false → b ≡ true
kept true e = refl
kept false e = sym e

-- kinds are one either way round
kinds_turned : (a b : Kind) → same_kind a b ≡ true → same_kind b a ≡ true
kinds_turned kind.Int kind.Int e = refl
kinds_turned kind.Text kind.Text e = refl
kinds_turned kind.Key kind.Key e = refl
kinds_turned kind.Int kind.Text e = e
kinds_turned kind.Int kind.Key e = e
kinds_turned kind.Text kind.Int e = e
kinds_turned kind.Text kind.Key e = e
kinds_turned kind.Key kind.Int e = e
kinds_turned kind.Key kind.Text e = e

-- at most one table is joined a round
more-length : (n : ℕ) (schema : Schema) (links taken : List ℕ) → length (more_joined n schema links taken) ≤ n
more-length zero schema links taken = rw (more-zero schema links taken) (omega arith)
more-length (suc n) schema links taken = elim (cases_option (next_joined schema taken links)) [
  | inl none ↦ rw (more-none (suc n) schema links taken none) (omega arith)
  | inr some ↦ let rest = more-length n schema links (taken ++ (some.0).table ∷ []) in rw (more-some n schema links taken some.0 some.1) (omega (arith, rest))
]

-- the tables of joined ones
abbrev tables : List Joined → List ℕ
tables more = map (λ (m : Joined). m.table) more

module _ (schema : Schema) (typed : IsTypedSchema schema) (t : Tree) (is : IsLinkTree schema t) where
  -- an equality has a taken table's column left, and its own table, which was not taken, right
  record IsStep (taken : List ℕ) (m : Joined) : Type 0 where
    new : IsIn m.table taken → ⊥
    own : IsIn m.table t.tables
    shaped : joins_on schema taken m ≡ true
    ends : (has_column schema m.left ≡ true) × (has_column schema m.right ≡ true)

  step : (taken : List ℕ) (m : Joined) (n : ℕ) (l : Link) → IsIn n t.links → slice_get schema.links n ≡ Some l → Joins l taken m → IsStep taken m
  step taken m n l i at joins =
      let within = is.within n i in
      let same : within.0 ≡ l = same_Some within.0 l (sym within.1 ∙ at) in
      let columns = and_parts (has_column schema l.left) (has_column schema l.right) (kept (has_column schema l.left && has_column schema l.right) (passed (link_end schema) schema.links n l typed.ends at)) in
      let one = kept (same_kind (kind_of schema l.left) (kind_of schema l.right)) (passed (link_kinds schema) schema.links n l typed.kinds at) in
      elim joins [
        | inl h ↦ subst (IsStep taken) (sym h.2) (record {
          new = h.1;
          own = subst (λ (k : Link). IsIn k.right.table t.tables) same within.3;
          shaped = and_from (is_among l.left.table taken) (l.right.table == l.right.table && same_kind (kind_of schema l.left) (kind_of schema l.right)) (among_from l.left.table taken h.0) (and_from (l.right.table == l.right.table) (same_kind (kind_of schema l.left) (kind_of schema l.right)) (eq-eqb l.right.table l.right.table refl) one);
          ends = (columns.0, columns.1);
        })
        | inr h ↦ subst (IsStep taken) (sym h.2) (record {
          new = h.1;
          own = subst (λ (k : Link). IsIn k.left.table t.tables) same within.2;
          shaped = and_from (is_among l.right.table taken) (l.left.table == l.left.table && same_kind (kind_of schema l.right) (kind_of schema l.left)) (among_from l.right.table taken h.0) (and_from (l.left.table == l.left.table) (same_kind (kind_of schema l.right) (kind_of schema l.left)) (eq-eqb l.left.table l.left.table refl) (kinds_turned (kind_of schema l.left) (kind_of schema l.right) one));
          ends = (columns.1, columns.0);
        })
      ]

  -- each of the joined tables is joined by a step
  first_step : (taken : List ℕ) (m : Joined) (more : List Joined) → AreJoined schema t.links taken (m ∷ more) → IsStep taken m
  first_step taken m more a = step taken m a.0.0 a.0.1.1 a.0.1.0 a.0.1.2 a.0.1.3

  shaped_more : (taken : List ℕ) (more : List Joined) → AreJoined schema t.links taken more → all_join_on schema taken more ≡ true
  shaped_more taken [] a = refl
  shaped_more taken (m ∷ more) a = and_from (joins_on schema taken m) (all_join_on schema (taken ++ m.table ∷ []) more) (first_step taken m more a).shaped (shaped_more (taken ++ m.table ∷ []) more a.1)

  ends_more : (taken : List ℕ) (more : List Joined) → AreJoined schema t.links taken more → (m : Joined) → IsIn m more → (has_column schema m.left ≡ true) × (has_column schema m.right ≡ true)
  ends_more taken [] a m i = absurd i
  ends_more taken (k ∷ more) a m i = elim i [
    | inl e ↦ subst (λ (x : Joined). (has_column schema x.left ≡ true) × (has_column schema x.right ≡ true)) (sym e) (first_step taken k more a).ends
    | inr j ↦ ends_more (taken ++ k.table ∷ []) more a.1 m j
  ]

  own_more : (taken : List ℕ) (more : List Joined) → AreJoined schema t.links taken more → (x : ℕ) → IsIn x (tables more) → IsIn x t.tables
  own_more taken [] a x i = absurd i
  own_more taken (m ∷ more) a x i = elim i [
    | inl e ↦ subst (λ n. IsIn n t.tables) (sym e) (first_step taken m more a).own
    | inr j ↦ own_more (taken ++ m.table ∷ []) more a.1 x j
  ]

  -- no table that was taken is joined
  new_more : (taken : List ℕ) (more : List Joined) → AreJoined schema t.links taken more → (x : ℕ) → IsIn x taken → IsIn x (tables more) → ⊥
  new_more taken [] a x i j = j
  new_more taken (m ∷ more) a x i j = elim j [
    | inl e ↦ (first_step taken m more a).new (subst (λ n. IsIn n taken) e i)
    | inr k ↦ new_more (taken ++ m.table ∷ []) more a.1 x (in_append_left taken (m.table ∷ []) x i) k
  ]

  none-or : (a b : Bool) → a ≡ false → b ≡ false → (a || b) ≡ false
  none-or a b e f = rw (e, f) refl

  -- so none is joined twice
  once_more : (taken : List ℕ) (more : List Joined) → AreJoined schema t.links taken more → stands_twice (tables more) ≡ false
  once_more taken [] a = refl
  once_more taken (m ∷ more) a = none-or (is_among m.table (tables more)) (stands_twice (tables more))
      (not_among m.table (tables more) (λ i. new_more (taken ++ m.table ∷ []) more a.1 m.table (in_append_right taken (m.table ∷ []) m.table (inl refl)) i))
      (once_more (taken ++ m.table ∷ []) more a.1)

  -- a join that is written for the tree
  module _ (need : List (List ColId)) (serves : Serves need t.tables) (join : Join) (w : IsWritten schema t join) where
    same_join : join ≡ written schema t
    same_join = written_once schema t join (written schema t) w (tree_written schema t is)

    few : length (tables_of join) ≤ 4
    few =
        let size = more-length (length t.links) schema t.links (slice_index_or t.tables 0 0 ∷ []) in
        let all = is.few in
        let less = is.one_less in
        subst (λ (j : Join). length (tables_of j) ≤ 4) (sym same_join) (omega (arith, size, all, less, lengths (more_joined (length t.links) schema t.links (slice_index_or t.tables 0 0 ∷ []))))
      where
        lengths : (more : List Joined) → length (tables more) ≡ length more
        lengths [] = refl
        lengths (m ∷ more) = let e = lengths more in omega (arith, e)

    own : (x : ℕ) → IsIn x (tables_of join) → IsIn x t.tables
    own x i = elim i [
      | inl e ↦ subst (λ xs. IsIn x xs) (sym w.least.1) (inl e)
      | inr j ↦ own_more (join.first ∷ []) join.more w.joined x j
    ]

    -- the join takes all tables of the tree
    covered : (x : ℕ) → IsIn x t.tables → IsIn x (tables_of join)
    covered x i = subst (λ (j : Join). IsIn x (tables_of j)) (sym same_join)
        (among_to x (tables_of (written schema t)) (sym (joined_is x (written schema t)) ∙ all_to (λ n. has_joined n (written schema t)) t.tables x (connects_from schema t.tables t.links is.connects) i))

    pub listed_tree : IsListedJoin schema need join
    listed_tree = record {
      few = few;
      known = λ x i. lt-ltb x (length schema.tables) (is.known x (own x i));
      once = none-or (is_among join.first (tables join.more)) (stands_twice (tables join.more))
          (not_among join.first (tables join.more) (λ i. new_more (join.first ∷ []) join.more w.joined join.first (inl refl) i))
          (once_more (join.first ∷ []) join.more w.joined);
      shaped = shaped_more (join.first ∷ []) join.more w.joined;
      ends = ends_more (join.first ∷ []) join.more w.joined;
      serves = λ set i. let c = serves set i in (c.0, c.1, covered (c.0).table c.2);
    }

-- each join of a list is written for a tree of the list
tree_of_join : (schema : Schema) (trees : List Tree) (joins : List Join) (join : Join) → AreWritten schema trees joins → IsIn join joins → (t : Tree) × IsIn t trees × IsWritten schema t join
tree_of_join schema [] [] join a i = absurd i
tree_of_join schema [] (j ∷ js) join a i = absurd a
tree_of_join schema (t ∷ ts) [] join a i = absurd i
tree_of_join schema (t ∷ ts) (j ∷ js) join a i = elim i [
  | inl e ↦ (t, inl refl, subst (IsWritten schema t) (sym e) a.0)
  | inr k ↦ let rest = tree_of_join schema ts js join a.1 k in (rest.0, inr rest.1, rest.2)
]

-- so each listed join has that shape
pub listed_join : (schema : Schema) (need : List (List ColId)) (joins : List Join) → IsTypedSchema schema → AreTrees schema need joins → (join : Join) → IsIn join joins → IsListedJoin schema need join
listed_join schema need joins typed a join i =
    let of = tree_of_join schema a.trees joins join a.written i in
    let is = a.listed.holds of.0 of.1 in
    listed_tree schema typed of.0 is.0 need is.1 join of.2
