-- Pairs of columns counted by kind.
use Rattle.std.proofs.Common.{◌≡◌, ℕ, ◌+◌, ◌*◌, ◌≤◌, ◌<◌, min, Bool, cond, List, [], ◌∷◌, map, inl, inr, refl, sym, ap, ap₂, ◌∙◌, arith, add-mul, mul-zero, mul_comm}
use Rattle.std.specs.List.{count_by, flat_map}
use Rattle.std.proofs.lemmas.Bool.{cases_lt}
use Rattle.std.proofs.lemmas.List.Sums.{sum_by-cons, sum_by-append}
use Rattle.std.proofs.lemmas.Nat.{mul-le}
use Rattle.mig_schema.specs.Columns.{same_kind}
use Rattle.mig_schema.specs.declared.jobs.Job.{Job}
use Rattle.mig_schema.specs.declared.tables.Column.{Column}
use Rattle.mig_schema.specs.declared.tables.Kind.{Kind}
use Rattle.mig_schema.specs.declared.tables.Kind.TheVariants as kind
use Rattle.mig_syntax.specs.Pairs.{all_columns, of_kind, pairs_of}

-- ---- products of capped numbers

-- a factor above the cap takes the product there, unless the other is 0
above : (a b m : ℕ) → m ≤ a → 0 < b → m ≤ a * b
above a b m la lb = omega (arith, mul-le m 1 a b la (omega arith))

no_factor : (a b m : ℕ) → b ≡ 0 → min (min a m * min b m) m ≡ min (a * b) m
no_factor a b m e =
    let z : min b m ≡ 0 = omega arith in
    let p = mul-zero (min a m) in
    let q = mul-zero a in
    cc

high_factor : (a b m : ℕ) → 0 < m → m < a → 0 < b → min (min a m * min b m) m ≡ min (a * b) m
high_factor a b m pos la lb =
    let p : m ≤ a * b = above a b m (omega arith) lb in
    let q : m ≤ min a m * min b m = above (min a m) (min b m) m (omega arith) (omega arith) in
    omega arith

low_factors : (a b m : ℕ) → a ≤ m → b ≤ m → min (min a m * min b m) m ≡ min (a * b) m
low_factors a b m la lb =
    let p : min a m ≡ a = omega arith in
    let q : min b m ≡ b = omega arith in
    cc

turned_product : (a b m : ℕ) → min (min b m * min a m) m ≡ min (b * a) m → min (min a m * min b m) m ≡ min (a * b) m
turned_product a b m e =
    let p = mul_comm (min a m) (min b m) in
    let q = mul_comm a b in
    cc

-- products of capped numbers, capped
pub capped : (a b m : ℕ) → 0 < m → min (min a m * min b m) m ≡ min (a * b) m
capped a b m pos =
    elim (cases_lt m a) [
      | inl la ↦ elim (cases_lt 0 b) [ inl lb ↦ high_factor a b m pos la lb | inr lb ↦ no_factor a b m (omega arith) ]
      | inr la ↦ elim (cases_lt m b) [
        | inl lb ↦ elim (cases_lt 0 a) [ inl pa ↦ turned_product a b m (high_factor b a m pos lb pa) | inr pa ↦ turned_product a b m (no_factor b a m (omega arith)) ]
        | inr lb ↦ low_factors a b m la lb
      ]
    ]

-- ---- columns beside one column

turned : (a b : Kind) → same_kind a b ≡ same_kind b a
turned kind.Int kind.Int = refl
turned kind.Int kind.Text = refl
turned kind.Int kind.Key = refl
turned kind.Text kind.Int = refl
turned kind.Text kind.Text = refl
turned kind.Text kind.Key = refl
turned kind.Key kind.Int = refl
turned kind.Key kind.Text = refl
turned kind.Key kind.Key = refl

abbrev one : Bool → ℕ
one b = cond b 1 0

abbrev alike : Column × Column → Bool
alike p = same_kind p.0.kind p.1.kind

abbrev with_each : List Column → Column → List (Column × Column)
with_each ds c = map (λ (d : Column). (c, d)) ds

beside : (c : Column) (ds : List Column) → count_by alike (with_each ds c) ≡ of_kind c.kind ds
beside c [] = refl
beside c (d ∷ ds) =
    sum_by-cons (λ (p : Column × Column). one (alike p)) (c, d) (with_each ds c)
    ∙ ap₂ (λ (m n : ℕ). m + n) (ap one (turned c.kind d.kind)) (beside c ds)
    ∙ sym (sum_by-cons (λ (x : Column). one (same_kind x.kind c.kind)) d ds)

-- ---- all

abbrev products : (i t y di dt dy : ℕ) → ℕ
products i t y di dt dy = i * di + t * dt + y * dy

-- what a column of a kind adds
adds : (k : Kind) (ds : List Column) (i t y : ℕ) → of_kind k ds + products i t y (of_kind kind.Int ds) (of_kind kind.Text ds) (of_kind kind.Key ds)
    ≡ products (one (same_kind k kind.Int) + i) (one (same_kind k kind.Text) + t) (one (same_kind k kind.Key) + y) (of_kind kind.Int ds) (of_kind kind.Text ds) (of_kind kind.Key ds)
adds kind.Int ds i t y = omega (arith, add-mul 1 i (of_kind kind.Int ds), add-mul 0 t (of_kind kind.Text ds), add-mul 0 y (of_kind kind.Key ds))
adds kind.Text ds i t y = omega (arith, add-mul 0 i (of_kind kind.Int ds), add-mul 1 t (of_kind kind.Text ds), add-mul 0 y (of_kind kind.Key ds))
adds kind.Key ds i t y = omega (arith, add-mul 0 i (of_kind kind.Int ds), add-mul 0 t (of_kind kind.Text ds), add-mul 1 y (of_kind kind.Key ds))

one_more : (k : Kind) (c : Column) (cs : List Column) → of_kind k (c ∷ cs) ≡ one (same_kind c.kind k) + of_kind k cs
one_more k c cs = sum_by-cons (λ (x : Column). one (same_kind x.kind k)) c cs

all_pairs : (cs ds : List Column) → count_by alike (flat_map (with_each ds) cs) ≡ products (of_kind kind.Int cs) (of_kind kind.Text cs) (of_kind kind.Key cs) (of_kind kind.Int ds) (of_kind kind.Text ds) (of_kind kind.Key ds)
all_pairs [] ds = omega arith
all_pairs (c ∷ cs) ds =
    sum_by-append (λ (p : Column × Column). one (alike p)) (with_each ds c) (flat_map (with_each ds) cs)
    ∙ ap₂ (λ (m n : ℕ). m + n) (beside c ds) (all_pairs cs ds)
    ∙ adds c.kind ds (of_kind kind.Int cs) (of_kind kind.Text cs) (of_kind kind.Key cs)
    ∙ sym (ap₂ (λ (m n : ℕ). m + n) (ap₂ (λ (m n : ℕ). m + n) (ap (λ n. n * of_kind kind.Int ds) (one_more kind.Int c cs)) (ap (λ n. n * of_kind kind.Text ds) (one_more kind.Text c cs))) (ap (λ n. n * of_kind kind.Key ds) (one_more kind.Key c cs)))

pub by_kinds : (j : Job) → pairs_of j ≡ of_kind kind.Int (all_columns j.source) * of_kind kind.Int (all_columns j.target) + of_kind kind.Text (all_columns j.source) * of_kind kind.Text (all_columns j.target) + of_kind kind.Key (all_columns j.source) * of_kind kind.Key (all_columns j.target)
by_kinds j = all_pairs (all_columns j.source) (all_columns j.target)
