-- No pair of columns stands twice.
use Rattle.std.proofs.Common.{◌≡◌, ℕ, ◌+◌, ◌<◌, ◌≤◌, Bool, true, List, [], ◌∷◌, map, refl, ap, sym, ◌∙◌, inl, inr, arith, suc, zero}
use Rattle.std.specs.Prelude.{filter, length, ◌&&◌, ◌==◌}
use Rattle.std.specs.List.{flat_map, range_with_len}
use Rattle.std.proofs.lemmas.Bool.{and_parts, and_from, eqb-true, eq-eqb}
use Rattle.mig_base.specs.Lists.{numbered}
use Rattle.mig_schema.specs.declared.tables.ColId.{ColId}
use Rattle.mig_schema.specs.declared.tables.Column.{Column}
use Rattle.mig_schema.specs.declared.tables.Schema.{Schema}
use Rattle.mig_schema.specs.declared.jobs.Job.{Job}
use Rattle.mig_schema.specs.Columns.{columns_in, columns_of, same_col, same_kind, kind_of}
use Rattle.mig_listing.specs.Listing.{IsIn, Rises}
use Rattle.mig_listing.specs.Orders.{Less}
use Rattle.mig_listing.proofs.Members.{in_map}
use Rattle.mig_listing.proofs.Rising.{rises_flat_map, rises_map, rises_filter}
use Rattle.mig_invariant.specs.declared.corresp.ColPair.{ColPair}
use Rattle.mig_invariant.specs.Columns.{all_columns}
use Rattle.mig_corresp.specs.Pairs.{pairs, pairs_among}

-- the two are not the same
abbrev pub Differ : {A : Type 0} → A → A → Type 0
Differ a b = a ≡ b → ⊥

-- no item stands twice
abbrev pub AreDistinct : {A : Type 0} → List A → Type 0
AreDistinct {A} xs = Rises (Differ {A = A}) xs

-- two columns of the same numbers are one
pub same_column : (a b : ColId) → same_col a b ≡ true → a ≡ b
same_column a b e =
    let parts = and_parts (a.table == b.table) (a.column == b.column) e in
    let tables : a.table ≡ b.table = eqb-true a.table b.table parts.0 in
    let numbers : a.column ≡ b.column = eqb-true a.column b.column parts.1 in
    let P : ℕ → ColId = λ t. record { table = t; column = a.column } in
    let Q : ℕ → ColId = λ k. record { table = b.table; column = k } in
    ap P tables ∙ ap Q numbers

pub same_itself : (a : ColId) → same_col a a ≡ true
same_itself a = and_from (a.table == a.table) (a.column == a.column) (eq-eqb a.table a.table refl) (eq-eqb a.column a.column refl)

-- numbers from a on rise
in_range : (a n x : ℕ) → IsIn x (range_with_len a n) → a ≤ x
in_range a zero x i = absurd i
in_range a (suc n) x i = elim i [ inl e ↦ omega (arith, e) | inr j ↦ let rest = in_range (a + 1) n x j in omega (arith, rest) ]

range_rises : (a n : ℕ) → Rises Less (range_with_len a n)
range_rises a zero = tt
range_rises a (suc n) = ((λ y i. let le = in_range (a + 1) n y i in omega (arith, le)), range_rises (a + 1) n)

-- the columns of a table have its number, and numbers from n on
abbrev at : ℕ → ℕ → Column → ColId
at t n c = record { table = t; column = n }

in_table : (t n : ℕ) (cs : List Column) (c : ColId) → IsIn c (numbered (at t) n cs) → (c.table ≡ t) × (n ≤ c.column)
in_table t n [] c i = absurd i
in_table t n (x ∷ cs) c i = elim i [
  | inl e ↦ (ap (λ (d : ColId). d.table) e, let k : c.column ≡ n = ap (λ (d : ColId). d.column) e in omega (arith, k))
  | inr j ↦ let rest = in_table t (n + 1) cs c j in let le = rest.1 in (rest.0, omega (arith, le))
]

table_distinct : (t n : ℕ) (cs : List Column) → AreDistinct (numbered (at t) n cs)
table_distinct t n [] = tt
table_distinct t n (x ∷ cs) = (
  (λ c i e. let le = (in_table t (n + 1) cs c i).1 in let k : n ≡ c.column = ap (λ (d : ColId). d.column) e in omega (arith, le, k)),
  table_distinct t (n + 1) cs,
)

-- no column stands twice in a schema
pub columns_distinct : (s : Schema) → AreDistinct (all_columns s)
columns_distinct s = rises_flat_map {R = Less} {S = Differ {A = ColId}} (columns_in s) (range_with_len 0 (length s.tables)) (range_rises 0 (length s.tables))
    (λ t i. table_distinct t 0 (columns_of s t))
    (λ a b u v i j lt iu iv e.
    let ua : u.table ≡ a = (in_table a 0 (columns_of s a) u iu).0 in
    let vb : v.table ≡ b = (in_table b 0 (columns_of s b) v iv).0 in
    let same : u.table ≡ v.table = ap (λ (d : ColId). d.table) e in
    omega (arith, ua, vb, same, lt))

abbrev paired : ColId → ColId → ColPair
paired c d = record { source = c; target = d }

-- no pair stands twice
pub pairs_distinct : (job : Job) → AreDistinct (pairs job)
pairs_distinct job = rises_flat_map {R = Differ {A = ColId}} {S = Differ {A = ColPair}} (pairs_among job (all_columns job.target)) (all_columns job.source) (columns_distinct job.source)
    (λ c i. rises_map (Differ {A = ColId}) (Differ {A = ColPair}) (paired c) (filter (λ (d : ColId). same_kind (kind_of job.source c) (kind_of job.target d)) (all_columns job.target))
    (rises_filter (Differ {A = ColId}) (λ (d : ColId). same_kind (kind_of job.source c) (kind_of job.target d)) (all_columns job.target) (columns_distinct job.target))
    (λ a b r e. r (ap (λ (p : ColPair). p.target) e)))
    (λ a b u v i j r iu iv e.
    let ua = in_map (paired a) (filter (λ (d : ColId). same_kind (kind_of job.source a) (kind_of job.target d)) (all_columns job.target)) u iu in
    let vb = in_map (paired b) (filter (λ (d : ColId). same_kind (kind_of job.source b) (kind_of job.target d)) (all_columns job.target)) v iv in
    r (sym (ap (λ (p : ColPair). p.source) ua.2) ∙ ap (λ (p : ColPair). p.source) e ∙ ap (λ (p : ColPair). p.source) vb.2))
