-- Rows that are found for several values, brought into order, are the rows that have one of them.
use Rattle.std.proofs.Common.{◌≡◌, ◌≢◌, ℕ, zero, suc, ◌<◌, ◌≤◌, ◌⊎◌, inl, inr, Bool, true, false, cond, List, [], ◌∷◌, ◌++◌, map, refl, sym, ap, ap₂, ◌∙◌, subst, arith}
use Rattle.std.specs.Prelude.{filter, ◌==◌, ◌||◌}
use Rattle.std.specs.List.{flat_map, dedup, dedup_from}
use Rattle.std.specs.List.Sorted.{IsNonDecreasingBy}
use Rattle.std.proofs.lemmas.Bool.{cases_eq, eqb-true, eq-eqb, ne_eqb, or_cases, or_left, or_right}
use Rattle.mig_schema.specs.declared.tables.Column.{Column}
use Rattle.mig_schema.specs.declared.tables.Kind.{Kind}
use Rattle.mig_schema.specs.declared.tables.Schema.{Schema}
use Rattle.mig_schema.specs.declared.tables.Table.{Table}
use Rattle.mig_schema.specs.declared.values.Value.{Value}
use Rattle.mig_meaning.specs.declared.states.Placed.{Placed}
use Rattle.mig_meaning.specs.declared.states.State.{State}
use Rattle.mig_meaning.specs.Lists.{Each, In}
use Rattle.mig_meaning.specs.Rows.{rows_of, value_at}
use Rattle.mig_meaning.specs.States.{Rising}
use Rattle.mig_meaning.specs.Values.{value_eq}
use Rattle.mig_meaning.proofs.StateLaw.{each-in}
use Rattle.mig_meaning.proofs.Within.{each-weaker, each-filter}
use Rattle.mig_storage.specs.Changes.{has_id}
use Rattle.mig_storage.specs.Layout.{Layout, layout_of}
use Rattle.mig_storage.specs.Meaning.{FitsLayout}
use Rattle.mig_calls.specs.Leading.{has_one_of}
use Rattle.mig_calls.proofs.EffectLemmas.{in-has}
use Rattle.mig_meaning.proofs.Lists.{all-each, from-passing, in-behind, in-either, in-front, in-passing}

-- ---- rows in order
abbrev pub same_id : Placed → Placed → Bool
same_id p q = p.id == q.id

abbrev NotFalling : List Placed → Type 0
NotFalling [] = Unit {0}
NotFalling (p ∷ ps) = Each (λ (q : Placed). p.id ≤ q.id) ps × NotFalling ps

not-falling : (rows : List Placed) → IsNonDecreasingBy (λ (p : Placed). p.id) rows → NotFalling rows
not-falling [] h = tt
not-falling (p ∷ ps) h = (
  all-each (λ (q : Placed). p.id ≤ q.id) ps (λ k d l. h zero (suc k) d (omega arith) (omega (arith, l))),
  not-falling ps (λ i j d l m. h (suc i) (suc j) d (omega (arith, l)) (omega (arith, m))),
)

rising-from : (k : Placed) (rows : List Placed) → Each (λ (q : Placed). k.id ≤ q.id) rows → NotFalling rows → Rising (dedup_from same_id k rows) × Each (λ (q : Placed). k.id ≤ q.id) (dedup_from same_id k rows)
rising-from k [] a n = ((tt, tt), (omega arith, tt))
rising-from k (p ∷ ps) a n = go (cases_eq p.id k.id) (rising-from k ps a.1 n.1) (rising-from p ps n.0 n.1)
  where
    go : (p.id ≡ k.id) ⊎ (p.id ≢ k.id) → Rising (dedup_from same_id k ps) × Each (λ (q : Placed). k.id ≤ q.id) (dedup_from same_id k ps) → Rising (dedup_from same_id p ps) × Each (λ (q : Placed). p.id ≤ q.id) (dedup_from same_id p ps) → Rising (cond (p.id == k.id) (dedup_from same_id k ps) (k ∷ dedup_from same_id p ps)) × Each (λ (q : Placed). k.id ≤ q.id) (cond (p.id == k.id) (dedup_from same_id k ps) (k ∷ dedup_from same_id p ps))
    go (inl e) ik ip = rw (eq-eqb p.id k.id e) ik
    go (inr d) ik ip =
        let low : k.id ≤ p.id = a.0 in
        let below : k.id < p.id = omega (arith, low, d) in
        rw (ne_eqb p.id k.id d) (
          (each-weaker _ _ (λ (q : Placed) h. omega (arith, below, h)) (dedup_from same_id p ps) ip.1, ip.0),
          (omega arith, each-weaker _ _ (λ (q : Placed) h. omega (arith, below, h)) (dedup_from same_id p ps) ip.1),
        )

pub rising-dedup : (rows : List Placed) → IsNonDecreasingBy (λ (p : Placed). p.id) rows → Rising (dedup same_id rows)
rising-dedup [] h = tt
rising-dedup (p ∷ ps) h = let n = not-falling (p ∷ ps) h in (rising-from p ps n.0 n.1).0

has-in : (id : ℕ) (rows : List Placed) → has_id id rows ≡ true → (q : Placed) × In q rows × (q.id ≡ id)
has-in id [] h = cc
has-in id (p ∷ ps) h = go (or_cases (p.id == id) (has_id id ps) h) (λ k. has-in id ps k)
  where
    go : ((p.id == id) ≡ true) ⊎ (has_id id ps ≡ true) → (has_id id ps ≡ true → (q : Placed) × In q ps × (q.id ≡ id)) → (q : Placed) × In q (p ∷ ps) × (q.id ≡ id)
    go (inl e) ih = (p, inl refl, eqb-true p.id id e)
    go (inr k) ih = let r = ih k in (r.0, inr r.1, r.2)

-- two lists of rising ids with the same rows are one
same-rows : (xs ys : List Placed) → Rising xs → Rising ys → ((p : Placed) → In p xs → In p ys) → ((p : Placed) → In p ys → In p xs) → xs ≡ ys
same-rows [] [] a b f h = refl
same-rows [] (y ∷ ys) a b f h = absurd (h y (inl refl))
same-rows (x ∷ xs) [] a b f h = absurd (f x (inl refl))
same-rows (x ∷ xs) (y ∷ ys) a b f h = ap₂ (λ p ps. p ∷ ps) first (same-rows xs ys a.1 b.1 (λ p k. onward p k (f p (inr k))) (λ p k. back p k (h p (inr k))))
  where
    meet : (x ≡ y) ⊎ In x ys → (y ≡ x) ⊎ In y xs → x ≡ y
    meet (inl e) k = e
    meet (inr i) (inl e) = sym e
    meet (inr i) (inr k) =
        let below : y.id < x.id = each-in (λ (q : Placed). y.id < q.id) x ys b.0 i in
        let above : x.id < y.id = each-in (λ (q : Placed). x.id < q.id) y xs a.0 k in
        absurd (omega (arith, below, above))

    first : x ≡ y
    first = meet (f x (inl refl)) (h y (inl refl))

    ids : x.id ≡ y.id
    ids = ap (λ (p : Placed). p.id) first

    onward : (p : Placed) → In p xs → (p ≡ y) ⊎ In p ys → In p ys
    onward p k (inl e) =
        let above : x.id < p.id = each-in (λ (q : Placed). x.id < q.id) p xs a.0 k in
        let same : p.id ≡ y.id = ap (λ (q : Placed). q.id) e in
        absurd (omega (arith, above, same, ids))
    onward p k (inr i) = i

    back : (p : Placed) → In p ys → (p ≡ x) ⊎ In p xs → In p xs
    back p k (inl e) =
        let above : y.id < p.id = each-in (λ (q : Placed). y.id < q.id) p ys b.0 k in
        let same : p.id ≡ x.id = ap (λ (q : Placed). q.id) e in
        absurd (omega (arith, above, same, ids))
    back p k (inr i) = i

one-of-id : (rows : List Placed) (p q : Placed) → Rising rows → In p rows → In q rows → p.id ≡ q.id → p ≡ q
one-of-id [] p q r i j e = absurd i
one-of-id (x ∷ xs) p q r (inl a) (inl b) e = a ∙ sym b
one-of-id (x ∷ xs) p q r (inl a) (inr j) e =
    let above : x.id < q.id = each-in (λ (y : Placed). x.id < y.id) q xs r.0 j in
    let same : p.id ≡ x.id = ap (λ (y : Placed). y.id) a in
    absurd (omega (arith, above, same, e))
one-of-id (x ∷ xs) p q r (inr i) (inl b) e =
    let above : x.id < p.id = each-in (λ (y : Placed). x.id < y.id) p xs r.0 i in
    let same : q.id ≡ x.id = ap (λ (y : Placed). y.id) b in
    absurd (omega (arith, above, same, e))
one-of-id (x ∷ xs) p q r (inr i) (inr j) e = one-of-id xs p q r.1 i j e

rising-passing : (test : Placed → Bool) (rows : List Placed) → Rising rows → Rising (filter test rows)
rising-passing test [] r = tt
rising-passing test (x ∷ xs) r = go (test x) (rising-passing test xs r.1)
  where
    go : (b : Bool) → Rising (filter test xs) → Rising (cond b (x ∷ filter test xs) (filter test xs))
    go true ih = (each-filter (λ (q : Placed). x.id < q.id) test xs r.0, ih)
    go false ih = ih

-- ---- rows asked for value after value
abbrev pub asked : ℕ → List Placed → Value → List Placed
asked n rows v = filter (λ (p : Placed). value_eq (value_at p n) v) rows

asked-has : (n : ℕ) (rows : List Placed) (vs : List Value) (p : Placed) → In p (flat_map (asked n rows) vs) → In p rows × (has_one_of vs n p ≡ true)
asked-has n rows [] p h = absurd h
asked-has n rows (v ∷ vs) p h = go (in-either p (asked n rows v) (flat_map (asked n rows) vs) h) (λ k. asked-has n rows vs p k)
  where
    go : In p (asked n rows v) ⊎ In p (flat_map (asked n rows) vs) → (In p (flat_map (asked n rows) vs) → In p rows × (has_one_of vs n p ≡ true)) → In p rows × ((value_eq (value_at p n) v || has_one_of vs n p) ≡ true)
    go (inl k) ih = let r = from-passing (λ (q : Placed). value_eq (value_at q n) v) p rows k in (r.0, or_left (value_eq (value_at p n) v) (has_one_of vs n p) r.1)
    go (inr k) ih = let r = ih k in (r.0, or_right (value_eq (value_at p n) v) (has_one_of vs n p) r.1)

has-asked : (n : ℕ) (rows : List Placed) (vs : List Value) (p : Placed) → In p rows → has_one_of vs n p ≡ true → In p (flat_map (asked n rows) vs)
has-asked n rows [] p i h = cc
has-asked n rows (v ∷ vs) p i h = go (or_cases (value_eq (value_at p n) v) (has_one_of vs n p) h) (λ k. has-asked n rows vs p i k)
  where
    go : (value_eq (value_at p n) v ≡ true) ⊎ (has_one_of vs n p ≡ true) → (has_one_of vs n p ≡ true → In p (flat_map (asked n rows) vs)) → In p (asked n rows v ++ flat_map (asked n rows) vs)
    go (inl e) ih = in-front p (asked n rows v) (flat_map (asked n rows) vs) (in-passing (λ (q : Placed). value_eq (value_at q n) v) p rows i e)
    go (inr k) ih = in-behind p (asked n rows v) (flat_map (asked n rows) vs) (ih k)

pub asked-in-order : (n : ℕ) (rows : List Placed) (vs : List Value) (found : List Placed) → Rising rows → Rising found → Each (λ (p : Placed). In p (flat_map (asked n rows) vs)) found → ((id : ℕ) → has_id id found ≡ has_id id (flat_map (asked n rows) vs)) → found ≡ filter (has_one_of vs n) rows
asked-in-order n rows vs found r f each ids = same-rows found (filter (has_one_of vs n) rows) f (rising-passing (has_one_of vs n) rows r) onward back
  where
    onward : (p : Placed) → In p found → In p (filter (has_one_of vs n) rows)
    onward p k = let a = asked-has n rows vs p (each-in (λ (q : Placed). In q (flat_map (asked n rows) vs)) p found each k) in in-passing (has_one_of vs n) p rows a.0 a.1

    back : (p : Placed) → In p (filter (has_one_of vs n) rows) → In p found
    back p k =
        let a = from-passing (has_one_of vs n) p rows k in
        let q = has-in p.id found (ids p.id ∙ in-has p (flat_map (asked n rows) vs) (has-asked n rows vs p a.0 a.1)) in
        let b = asked-has n rows vs q.0 (each-in (λ (y : Placed). In y (flat_map (asked n rows) vs)) q.0 found each q.1) in
        subst (λ (y : Placed). In y found) (one-of-id rows q.0 p r b.0 a.0 q.2) q.1

-- ---- the rows of a told state rise
schema_of : Layout → Schema
schema_of layout = record { tables = map (λ (ks : List Kind). record { name = []; columns = map (λ (k : Kind). record { name = []; kind = k }) ks }) layout; links = [] }

schema-layout : (layout : Layout) → layout_of (schema_of layout) ≡ layout
unfolding schema_of
schema-layout layout = go layout
  where
    kinds : (ks : List Kind) → map (λ (c : Column). c.kind) (map (λ (k : Kind). record { name = []; kind = k }) ks) ≡ ks
    kinds [] = refl
    kinds (k ∷ ks) = ap (λ rest. k ∷ rest) (kinds ks)

    go : (l : Layout) → map (λ (t : Table). map (λ (c : Column). c.kind) t.columns) (map (λ (ks : List Kind). record { name = []; columns = map (λ (k : Kind). record { name = []; kind = k }) ks }) l) ≡ l
    go [] = refl
    go (ks ∷ l) = ap₂ (λ first rest. first ∷ rest) (kinds ks) (go l)

pub rows-rise : (layout : Layout) (s : State) (t : ℕ) → FitsLayout layout s → Rising (rows_of s t)
rows-rise layout s t fits = ((fits (schema_of layout) (schema-layout layout)).each t).rising
