-- Ids that stand once, and rows that are changed one after the other.
use Rattle.std.proofs.Common.{◌≡◌, ◌≢◌, ℕ, suc, ◌<◌, ◌≤◌, ◌⊎◌, inl, inr, Bool, true, false, cond, not, List, [], ◌∷◌, map, set, get_or, length, Option, Some, None, option_map, refl, sym, ap, ◌∙◌, subst, arith}
use Rattle.std.specs.Prelude.{filter, ◌==◌, ◌||◌}
use Rattle.std.specs.List.{Contains, AllPairs}
use Rattle.std.specs.List.Sorted.{IsStrictlyIncreasing}
use Rattle.std.proofs.lemmas.Bool.{eqb-true, eq-eqb, ne_eqb, or_parts, or_from, cases_eq, cases_lt}
use Rattle.std.proofs.lemmas.List.{get_or_default, get_or-set_same, get_or_past, set_past}
use Rattle.std.proofs.lemmas.List.Folds.{Any-from_list_any, list_any-from_Any}
use Rattle.std.proofs.lemmas.List.Kept.{AllPairs-from_increasing}
use Rattle.mig_schema.specs.declared.values.Value.{Value}
use Rattle.mig_meaning.specs.declared.states.Placed.{Placed}
use Rattle.mig_meaning.specs.declared.states.State.{State}
use Rattle.mig_meaning.specs.Effect.{with_value}
use Rattle.mig_meaning.specs.Lists.{AllDifferent, Each, has}
use Rattle.mig_meaning.specs.Rows.{rows_of}
use Rattle.mig_meaning.proofs.Maps.{any-map}
use Rattle.mig_meaning.proofs.Within.{each-weaker}
use Rattle.mig_storage.specs.Changes.{changed_at, removed, written, has_id}
use Rattle.mig_storage.proofs.Numbered.{changed-set}

-- ---- ids that stand once
pub same-bool : (b e : Bool) → (b ≡ true → e ≡ true) → (e ≡ true → b ≡ true) → b ≡ e
same-bool true e f g = sym (f refl)
same-bool false true f g = g refl
same-bool false false f g = refl

pub has-contains : (xs : List ℕ) (k : ℕ) → has xs k ≡ true → Contains xs k
has-contains xs k h =
    let a = Any-from_list_any (λ l. l == k) xs h in
    let is : a.1 ≡ k = eqb-true a.1 k a.4 in
    (a.0, a.2, get_or_default xs a.0 k a.1 a.2 ∙ a.3 ∙ is)

pub contains-has : (xs : List ℕ) (k : ℕ) → Contains xs k → has xs k ≡ true
contains-has xs k c = list_any-from_Any (λ l. l == k) xs (c.0, k, c.1, c.2, eq-eqb k k refl)

none-above : (x : ℕ) (xs : List ℕ) → ((j d : ℕ) → j < length xs → x < get_or xs j d) → has xs x ≡ false
none-above x [] h = refl
none-above x (y ∷ xs) h =
    let lt : x < y = h 0 0 (omega arith) in
    or_from (y == x) (has xs x) (ne_eqb y x (λ e. omega (arith, lt, e))) (none-above x xs (λ j d l. h (suc j) d (omega (arith, l))))

all-different : (xs : List ℕ) → AllPairs (λ x y. x < y) xs → AllDifferent xs
all-different [] h = tt
all-different (x ∷ xs) h =
    (none-above x xs (λ j d l. h 0 (suc j) d (omega arith) (omega (arith, l))), all-different xs (λ i j d l m. h (suc i) (suc j) d (omega (arith, l)) (omega (arith, m))))

pub increasing-different : (xs : List ℕ) → IsStrictlyIncreasing xs → AllDifferent xs
increasing-different xs h = all-different xs (AllPairs-from_increasing xs h)

-- ---- the rows of a table that is changed
pub rows-changed : (t : ℕ) (change : List Placed → List Placed) (s : State) → change [] ≡ [] → rows_of (changed_at t change s) t ≡ change (rows_of s t)
rows-changed t change s none = ap (λ (ts : List (List Placed)). get_or ts t []) (changed-set change t s.tables (change (rows_of s t)) [] refl) ∙ go (cases_lt t (length s.tables))
  where
    go : (t < length s.tables) ⊎ (length s.tables ≤ t) → get_or (set s.tables t (change (rows_of s t))) t [] ≡ change (rows_of s t)
    go (inl h) = get_or-set_same s.tables t (change (rows_of s t)) [] h
    go (inr h) =
        ap (λ (ts : List (List Placed)). get_or ts t []) (set_past s.tables t (change (rows_of s t)) h)
        ∙ (get_or_past s.tables t [] h ∙ (sym none ∙ ap change (sym (get_or_past s.tables t [] h))))

has_id-filter : (id j : ℕ) → id ≢ j → (rows : List Placed) → has_id id (filter (λ (p : Placed). not (p.id == j)) rows) ≡ has_id id rows
has_id-filter id j n [] = refl
has_id-filter id j n (p ∷ rows) = go (cases_eq p.id j) (has_id-filter id j n rows)
  where
    go : (p.id ≡ j) ⊎ (p.id ≢ j) → has_id id (filter (λ (q : Placed). not (q.id == j)) rows) ≡ has_id id rows → has_id id (filter (λ (q : Placed). not (q.id == j)) (p ∷ rows)) ≡ has_id id (p ∷ rows)
    go (inl e) ih = rw (eq-eqb p.id j e, ne_eqb p.id id (λ q. n (sym q ∙ e))) ih
    go (inr m) ih = rw (ne_eqb p.id j m) (ap (λ b. (p.id == id) || b) ih)

has_id-written : (id j c : ℕ) (v : Value) (rows : List Placed) → has_id id (map (λ (p : Placed). cond (p.id == j) (with_value c v p) p) rows) ≡ has_id id rows
has_id-written id j c v rows = any-map (λ (p : Placed). p.id == id) (λ (p : Placed). cond (p.id == j) (with_value c v p) p) (λ (p : Placed). p.id == id) (λ p. go p (p.id == j)) rows
  where
    go : (p : Placed) (b : Bool) → ((cond b (with_value c v p) p).id == id) ≡ (p.id == id)
    go p true = refl
    go p false = refl

-- the other ids stay
pub there-removed : (told : Option State) (t j : ℕ) (ids : List ℕ) → has ids j ≡ false → ((s : State) → told ≡ Some s → Each (λ id. has_id id (rows_of s t) ≡ true) ids) → (s : State) → option_map (removed t j) told ≡ Some s → Each (λ id. has_id id (rows_of s t) ≡ true) ids
there-removed None t j ids new h s e = absurd (none e)
  where
    none : ◌≡◌ {A = Option State} None (Some s) → ⊥
    none q = cc
there-removed (Some r) t j ids new h s e =
    let same : removed t j r ≡ s = cc in
    subst (λ (u : State). Each (λ id. has_id id (rows_of u t) ≡ true) ids) same (go ids new (h r refl))
  where
    go : (js : List ℕ) → has js j ≡ false → Each (λ id. has_id id (rows_of r t) ≡ true) js → Each (λ id. has_id id (rows_of (removed t j r) t) ≡ true) js
    go [] m a = tt
    go (i ∷ js) m a =
        let k = or_parts (i == j) (has js j) m in
        let other : i ≢ j = λ q. absurd (both (eq-eqb i j q) k.0) in
        (ap (has_id i) (rows-changed t (filter (λ (p : Placed). not (p.id == j))) r refl) ∙ (has_id-filter i j other (rows_of r t) ∙ a.0), go js k.1 a.1)
      where
        both : {b : Bool} → b ≡ true → b ≡ false → ⊥
        both x y = cc

pub there-written : (told : Option State) (t j c : ℕ) (v : Value) (ids : List ℕ) → ((s : State) → told ≡ Some s → Each (λ id. has_id id (rows_of s t) ≡ true) ids) → (s : State) → option_map (written t j c v) told ≡ Some s → Each (λ id. has_id id (rows_of s t) ≡ true) ids
there-written None t j c v ids h s e = absurd (none e)
  where
    none : ◌≡◌ {A = Option State} None (Some s) → ⊥
    none q = cc
there-written (Some r) t j c v ids h s e =
    let same : written t j c v r ≡ s = cc in
    subst (λ (u : State). Each (λ id. has_id id (rows_of u t) ≡ true) ids) same
    (each-weaker _ _ (λ id k. ap (has_id id) (rows-changed t (map (λ (p : Placed). cond (p.id == j) (with_value c v p) p)) r refl) ∙ (has_id-written id j c v (rows_of r t) ∙ k)) ids (h r refl))

pub option_map-after : (f g : State → State) (o : Option State) → option_map f (option_map g o) ≡ option_map (λ s. f (g s)) o
option_map-after f g None = refl
option_map-after f g (Some s) = refl
