-- The candidates of typed programs are shaped.
use Rattle.std.proofs.Common.{◌≡◌, ℕ, zero, suc, ◌<◌, Bool, true, false, List, [], ◌∷◌, map, take, refl, sym, ap, ◌∙◌, subst, inl, inr, arith}
use Rattle.std.specs.Prelude.{◌==◌, ◌&&◌, ◌||◌, filter}
use Rattle.std.specs.List.{zip}
use Rattle.std.proofs.lemmas.Bool.{and_from, and_parts, both_ways, ltb-true, eqb-true, eq-eqb}
use Rattle.mig_schema.specs.declared.faults.Side.{Side}
use Rattle.mig_schema.specs.declared.faults.Side.TheVariants.{Old, New}
use Rattle.mig_schema.specs.declared.tables.ColId.{ColId}
use Rattle.mig_schema.specs.declared.tables.Kind.{Kind}
use Rattle.mig_schema.specs.declared.tables.Kind.TheVariants as kind
use Rattle.mig_schema.specs.declared.tables.Schema.{Schema}
use Rattle.mig_schema.specs.declared.programs.Join.{Join}
use Rattle.mig_schema.specs.declared.programs.Joined.{Joined}
use Rattle.mig_schema.specs.declared.programs.Program.{Program}
use Rattle.mig_schema.specs.declared.jobs.Job.{Job}
use Rattle.mig_schema.specs.Columns.{has_column, kind_of, same_col, same_kind}
use Rattle.mig_schema.specs.Joins.{tables_of, is_among}
use Rattle.mig_schema.specs.Typed.{IsTypedProgram}
use Rattle.mig_meaning.specs.declared.relating.Invariant.{Invariant}
use Rattle.mig_meaning.specs.declared.relating.Invariant.TheVariants.{Unique, Apart, Within}
use Rattle.mig_obligations.specs.Shaped.{join_shaped, same_kinds, columns_shaped, schema_at, is_shaped}
use Rattle.mig_listing.specs.Listing.{IsIn}
use Rattle.mig_listing.proofs.Members.{in_append, in_flat_map, in_map, in_filter}
use Rattle.mig_invariant.specs.declared.corresp.ColPair.{ColPair}
use Rattle.mig_invariant.specs.declared.corresp.Corr.{Corr}
use Rattle.mig_invariant.specs.Columns.{all_columns, is_key}
use Rattle.mig_invariant.specs.Images.{is_pair, images_among}
use Rattle.mig_invariant.specs.Candidates as cands
use Rattle.mig_invariant.proofs.Alike.{col_same}
use Rattle.mig_prover.specs.Proving.{KeepsKinds}
use Rattle.mig_prover.proofs.Sound.{all-true}
use Rattle.mig_prover.proofs.JoinsShaped.{one-passes, not-false, column-of-all, joins-shaped, join-paired, ArePaired}

-- ---- kinds

one-kind : (a b : Kind) → same_kind a b ≡ true → a ≡ b
one-kind kind.Int kind.Int e = refl
one-kind kind.Text kind.Text e = refl
one-kind kind.Key kind.Key e = refl
one-kind kind.Int kind.Text e = absurd (both_ways false refl e)
one-kind kind.Int kind.Key e = absurd (both_ways false refl e)
one-kind kind.Text kind.Int e = absurd (both_ways false refl e)
one-kind kind.Text kind.Key e = absurd (both_ways false refl e)
one-kind kind.Key kind.Int e = absurd (both_ways false refl e)
one-kind kind.Key kind.Text e = absurd (both_ways false refl e)

kind-itself : (a : Kind) → same_kind a a ≡ true
kind-itself kind.Int = refl
kind-itself kind.Text = refl
kind-itself kind.Key = refl

alike : (a b : Kind) → a ≡ b → same_kind a b ≡ true
alike a b e = ap (same_kind a) (sym e) ∙ kind-itself a

turned : (a b : ℕ) → (a == b) ≡ false → (b == a) ≡ false
turned a b h = by (b == a) refl
  where
    by : (t : Bool) → (b == a) ≡ t → (b == a) ≡ false
    by false e = e
    by true e = absurd (both_ways (a == b) h (eq-eqb a b (sym (eqb-true b a e))))

paired-turned : (s : Schema) (c d : ColId) → ArePaired s c d → ArePaired s d c
paired-turned s c d h = record { kinds = alike (kind_of s d) (kind_of s c) (sym (one-kind (kind_of s c) (kind_of s d) h.kinds)); tables = turned c.table d.table h.tables }

paired-shaped : (s : Schema) (c d : ColId) → has_column s c ≡ true → has_column s d ≡ true → ArePaired s c d → columns_shaped s c d ≡ true
paired-shaped s c d a b h = and_from (has_column s c) _ a (and_from (has_column s d) _ b (and_from (same_kind (kind_of s c) (kind_of s d)) _ h.kinds (not-false (c.table == d.table) h.tables)))

-- ---- the facts of one side

module _ (s s' : Schema) (side : Side) (columns : List ColId) (known : (c : ColId) → IsIn c columns → has_column (schema_at side s s') c ≡ true) where
  unique-shaped : (t : ColId → Bool) (i : Invariant) → IsIn i (map (λ (c : ColId). Unique side c) (filter t columns)) → is_shaped s s' i ≡ true
  unique-shaped t i h =
      let k = in_map (λ (c : ColId). Unique side c) (filter t columns) i h in
      ap (is_shaped s s') k.2 ∙ known k.0 (in_filter t columns k.0 k.1).0

  apart-shaped : (i : Invariant) → IsIn i (cands.aparts side (schema_at side s s') columns) → is_shaped s s' i ≡ true
  apart-shaped i h =
      let schema = schema_at side s s' in
      let keys = filter (is_key schema) columns in
      let k = in_flat_map (cands.aparts_from side keys) keys i h in
      let l = in_map (λ (d : ColId). Apart side k.0 d) (filter (cands.is_of_earlier k.0) keys) i k.2 in
      let m = in_filter (cands.is_of_earlier k.0) keys l.0 l.1 in
      let left = in_filter (is_key schema) columns k.0 k.1 in
      let right = in_filter (is_key schema) columns l.0 m.0 in
      let one : kind_of schema k.0 ≡ kind_of schema l.0 = one-kind (kind_of schema k.0) kind.Key left.1 ∙ sym (one-kind (kind_of schema l.0) kind.Key right.1) in
      ap (is_shaped s s') l.2 ∙ paired-shaped schema k.0 l.0 (known k.0 left.0) (known l.0 right.0) (record {
        kinds = alike (kind_of schema k.0) (kind_of schema l.0) one;
        tables = apart (k.0.table == l.0.table) refl (ltb-true k.0.table l.0.table m.1);
      })
    where
      apart : {a b : ℕ} (t : Bool) → (a == b) ≡ t → a < b → (a == b) ≡ false
      apart false e lt = e
      apart {a} {b} true e lt = let q = eqb-true a b e in absurd (omega (arith, q, lt))

  within-shaped : (ms : List Joined) → ((m : Joined) → IsIn m ms → ArePaired (schema_at side s s') m.left m.right) → (i : Invariant) → IsIn i (cands.withins side ms columns) → is_shaped s s' i ≡ true
  within-shaped ms paired i h =
      let schema = schema_at side s s' in
      let k = in_flat_map (cands.withins_from side ms columns) columns i h in
      let l = in_map (λ (d : ColId). Within side k.0 d) (filter (cands.are_equated ms k.0) columns) i k.2 in
      let m = in_filter (cands.are_equated ms k.0) columns l.0 l.1 in
      let n = one-passes (λ (m : Joined). (same_col m.left k.0 && same_col m.right l.0) || (same_col m.left l.0 && same_col m.right k.0)) ms m.1 in
      ap (is_shaped s s') l.2 ∙ paired-shaped schema k.0 l.0 (known k.0 k.1) (known l.0 m.0) (either schema n.0 k.0 l.0 (paired n.0 n.1) (same_col n.0.left k.0 && same_col n.0.right l.0) refl n.2)
    where
      moved : (schema : Schema) (m : Joined) (c d : ColId) → ArePaired schema m.left m.right → (same_col m.left c && same_col m.right d) ≡ true → ArePaired schema c d
      moved schema m c d h e =
          let k = and_parts (same_col m.left c) (same_col m.right d) e in
          subst (λ x. ArePaired schema x d) (col_same m.left c k.0) (subst (λ y. ArePaired schema m.left y) (col_same m.right d k.1) h)

      either : (schema : Schema) (m : Joined) (c d : ColId) → ArePaired schema m.left m.right → (b : Bool) → (same_col m.left c && same_col m.right d) ≡ b → ((same_col m.left c && same_col m.right d) || (same_col m.left d && same_col m.right c)) ≡ true → ArePaired schema c d
      either schema m c d h true e t = moved schema m c d h e
      either schema m c d h false e t = paired-turned schema d c (moved schema m d c h (sym (ap (λ x. x || (same_col m.left d && same_col m.right c)) e) ∙ t))

-- ---- views

-- whether the columns of a pair have one kind
abbrev IsKept : Schema → Schema → ColPair → Type 0
IsKept s s' q = same_kind (kind_of s q.source) (kind_of s' q.target) ≡ true

kinds-kept : (s s' : Schema) (ps : List ColPair) → ((q : ColPair) → IsIn q ps → IsKept s s' q) → same_kinds s s' (map (λ (q : ColPair). q.source) ps) (map (λ (q : ColPair). q.target) ps) ≡ true
kinds-kept s s' [] h = refl
kinds-kept s s' (q ∷ ps) h = and_from _ _ (h q (inl refl)) (kinds-kept s s' ps (λ r i. h r (inr i)))

-- an output's columns are columns of both joins, of one kind
record IsOutput (s s' : Schema) (old new : Join) (q : ColPair) : Type 0 where
  pub source : (has_column s q.source && is_among q.source.table (tables_of old)) ≡ true
  pub target : (has_column s' q.target && is_among q.target.table (tables_of new)) ≡ true
  pub kinds : IsKept s s' q

view-is-shaped : (s s' : Schema) (old new : Join) (ps : List ColPair) → join_shaped s old ≡ true → join_shaped s' new ≡ true → ((q : ColPair) → IsIn q ps → IsOutput s s' old new q) → is_shaped s s' (cands.view_of old new ps) ≡ true
view-is-shaped s s' old new ps a b h =
    and_from _ _ (and_from (join_shaped s old) _ a (all-true (λ (c : ColId). has_column s c && is_among c.table (tables_of old)) (map (λ (q : ColPair). q.source) ps) olds))
    (and_from _ _ (and_from (join_shaped s' new) _ b (all-true (λ (c : ColId). has_column s' c && is_among c.table (tables_of new)) (map (λ (q : ColPair). q.target) ps) news))
    (kinds-kept s s' ps (λ q i. (h q i).kinds)))
  where
    olds : (c : ColId) → IsIn c (map (λ (q : ColPair). q.source) ps) → (has_column s c && is_among c.table (tables_of old)) ≡ true
    olds c i = let k = in_map (λ (q : ColPair). q.source) ps c i in ap (λ (d : ColId). has_column s d && is_among d.table (tables_of old)) k.2 ∙ (h k.0 k.1).source

    news : (c : ColId) → IsIn c (map (λ (q : ColPair). q.target) ps) → (has_column s' c && is_among c.table (tables_of new)) ≡ true
    news c i = let k = in_map (λ (q : ColPair). q.target) ps c i in ap (λ (d : ColId). has_column s' d && is_among d.table (tables_of new)) k.2 ∙ (h k.0 k.1).target

in-zip : {A B : Type 0} (xs : List A) (ys : List B) (j : A × B) → IsIn j (zip xs ys) → IsIn j.0 xs × IsIn j.1 ys
in-zip [] ys j i = absurd i
in-zip (x ∷ xs) [] j i = absurd i
in-zip (x ∷ xs) (y ∷ ys) j i = elim i [
  | inl e ↦ (inl (ap (λ q. q.0) e), inl (ap (λ q. q.1) e))
  | inr k ↦ let r = in-zip xs ys j k in (inr r.0, inr r.1)
]

module _ (job : Job) (corr : Corr) (kinds : KeepsKinds job corr) where
  output-is : (old new : Join) (q : ColPair) → IsIn q (cands.outputs (all_columns job.source) (all_columns job.target) corr old new) → IsOutput job.source job.target old new q
  output-is old new q i =
      let olds = cands.joined_columns (all_columns job.source) old in
      let news = cands.joined_columns (all_columns job.target) new in
      let k = in_flat_map (cands.outputs_from news corr) olds q i in
      let l = in_map (λ (d : ColId). record { source = k.0; target = d }) (images_among news corr k.0) q k.2 in
      let a = in_filter (λ (c : ColId). is_among c.table (tables_of old)) (all_columns job.source) k.0 k.1 in
      let m = in_filter (is_pair corr k.0) news l.0 l.1 in
      let b = in_filter (λ (c : ColId). is_among c.table (tables_of new)) (all_columns job.target) l.0 m.0 in
      let n = one-passes (λ (p : ColPair). same_col p.source k.0 && same_col p.target l.0) corr.pairs m.1 in
      let e = and_parts (same_col n.0.source k.0) (same_col n.0.target l.0) n.2 in
      subst (IsOutput job.source job.target old new) (sym l.2) (record {
        source = and_from (has_column job.source k.0) _ (column-of-all job.source k.0 a.0) a.1;
        target = and_from (has_column job.target l.0) _ (column-of-all job.target l.0 b.0) b.1;
        kinds = subst (λ x. same_kind (kind_of job.source x) (kind_of job.target l.0) ≡ true) (col_same n.0.source k.0 e.0)
            (subst (λ y. same_kind (kind_of job.source n.0.source) (kind_of job.target y) ≡ true) (col_same n.0.target l.0 e.1) (kinds.each n.0 n.1));
      })

  with-outputs : (old new : Join) (ps : List ColPair) (i : Invariant) → IsIn i (cands.views_with old new ps) → i ≡ cands.view_of old new ps
  with-outputs old new [] i h = absurd h
  with-outputs old new (p ∷ ps) i h = elim h [ inl e ↦ e | inr none ↦ absurd none ]

  views-shaped : (olds news : List Join) → ((j : Join) → IsIn j olds → join_shaped job.source j ≡ true) → ((j : Join) → IsIn j news → join_shaped job.target j ≡ true) → (i : Invariant) → IsIn i (cands.views (all_columns job.source) (all_columns job.target) corr olds news) → is_shaped job.source job.target i ≡ true
  views-shaped olds news a b i h =
      let k = in_flat_map (λ (j : Join × Join). cands.views_with j.0 j.1 (cands.outputs (all_columns job.source) (all_columns job.target) corr j.0 j.1)) (zip olds news) i h in
      let z = in-zip olds news k.0 k.1 in
      let ps = cands.outputs (all_columns job.source) (all_columns job.target) corr k.0.0 k.0.1 in
      ap (is_shaped job.source job.target) (with-outputs k.0.0 k.0.1 ps i k.2) ∙ view-is-shaped job.source job.target k.0.0 k.0.1 ps (a k.0.0 z.0) (b k.0.1 z.1) (output-is k.0.0 k.0.1)

  -- ---- all of them

  equalities-paired : (s : Schema) (joins : List Join) → ((j : Join) → IsIn j joins → join_shaped s j ≡ true) → (m : Joined) → IsIn m (cands.equalities_of joins) → ArePaired s m.left m.right
  equalities-paired s joins h m i = let k = in_flat_map (λ (j : Join). j.more) joins m i in join-paired s k.0 (h k.0 k.1) m k.2

  facts-shaped : (olds news : List Join) → ((j : Join) → IsIn j olds → join_shaped job.source j ≡ true) → ((j : Join) → IsIn j news → join_shaped job.target j ≡ true) → (i : Invariant) → IsIn i (cands.facts job (all_columns job.source) (all_columns job.target) (cands.equalities_of olds) (cands.equalities_of news)) → is_shaped job.source job.target i ≡ true
  facts-shaped olds news a b i h =
      let s = job.source in
      let s' = job.target in
      let left = column-of-all s in
      let right = column-of-all s' in
      let sources = all_columns s in
      let targets = all_columns s' in
      elim (in_append _ _ i h) [
        | inr u ↦ within-shaped s s' New targets right (cands.equalities_of news) (equalities-paired s' news b) i u
        | inl h ↦ elim (in_append _ _ i h) [
          | inr u ↦ within-shaped s s' Old sources left (cands.equalities_of olds) (equalities-paired s olds a) i u
          | inl h ↦ elim (in_append _ _ i h) [
            | inr u ↦ apart-shaped s s' New targets right i u
            | inl h ↦ elim (in_append _ _ i h) [
              | inr u ↦ apart-shaped s s' Old sources left i u
              | inl h ↦ elim (in_append _ _ i h) [
                | inr u ↦ unique-shaped s s' New targets right (cands.is_key_or_equated s' (cands.equalities_of news)) i u
                | inl u ↦ unique-shaped s s' Old sources left (cands.is_key_or_equated s (cands.equalities_of olds)) i u
              ]
            ]
          ]
        ]
      ]

  from-once : (xs : List Invariant) (i : Invariant) → IsIn i (cands.once xs) → IsIn i xs
  from-once [] i h = absurd h
  from-once (x ∷ xs) i h = elim h [ inl e ↦ inl e | inr k ↦ inr (from-once xs i (in_filter (cands.differs x) (cands.once xs) i k).0) ]

  from-take : (n : ℕ) (xs : List Invariant) (i : Invariant) → IsIn i (take n xs) → IsIn i xs
  from-take zero xs i h = absurd h
  from-take (suc n) [] i h = absurd h
  from-take (suc n) (x ∷ xs) i h = elim h [ inl e ↦ inl e | inr k ↦ inr (from-take n xs i k) ]

  -- each candidate is shaped
  pub candidates-shaped : (program : Program) → IsTypedProgram job.source job.program → IsTypedProgram job.target program → (i : Invariant) → IsIn i (cands.candidates job corr program) → is_shaped job.source job.target i ≡ true
  candidates-shaped program old new i h =
      let olds = cands.joins_of job.program in
      let news = cands.joins_of program in
      let all = cands.listed job corr (all_columns job.source) (all_columns job.target) olds news in
      let k = from-once all i (from-take 4096 (cands.once all) i h) in
      let a = joins-shaped job.source job.program old in
      let b = joins-shaped job.target program new in
      elim (in_append (cands.views (all_columns job.source) (all_columns job.target) corr olds news) _ i k) [
        | inl v ↦ views-shaped olds news a b i v
        | inr f ↦ facts-shaped olds news a b i f
      ]
