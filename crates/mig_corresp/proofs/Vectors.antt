-- Correspondences and their vectors: what is taken by a vector has that vector, and a correspondence is what its vector takes.
use Rattle.std.proofs.Common.{◌≡◌, ℕ, Bool, true, false, ◌||◌, List, [], ◌∷◌, map, length, refl, ap, sym, ◌∙◌, inl, inr, arith}
use Rattle.std.specs.Prelude.{filter, ◌&&◌}
use Rattle.std.specs.List.{list_any}
use Rattle.std.proofs.lemmas.Bool.{cases_Bool, false≢true, and_parts, and_from, or_cases, or_left, or_right}
use Rattle.mig_schema.specs.declared.jobs.Job.{Job}
use Rattle.mig_schema.specs.declared.tables.ColId.{ColId}
use Rattle.mig_schema.specs.Columns.{same_col}
use Rattle.mig_listing.specs.Listing.{IsIn}
use Rattle.mig_invariant.specs.declared.corresp.ColPair.{ColPair}
use Rattle.mig_invariant.specs.declared.corresp.Corr.{Corr}
use Rattle.mig_corresp.specs.Pairs.{pairs}
use Rattle.mig_corresp.specs.Correspondences.{has, HasSome, IsCorr, vector_of}
use Rattle.mig_corresp.specs.Coding.{picked}
use Rattle.mig_corresp.proofs.Distinct.{Differ, AreDistinct, same_column, same_itself, pairs_distinct}
use Rattle.mig_corresp.proofs.Picking.{filter_picked, in_picked}

-- whether it is this pair, and whether it is one of these
abbrev is_pair : ColPair → ColPair → Bool
is_pair p q = same_col q.source p.source && same_col q.target p.target

abbrev stands : List ColPair → ColPair → Bool
stands ps p = list_any (is_pair p) ps

pair_same : (p q : ColPair) → is_pair p q ≡ true → q ≡ p
pair_same p q e =
    let parts = and_parts (same_col q.source p.source) (same_col q.target p.target) e in
    let P : ColId → ColPair = λ c. record { source = c; target = q.target } in
    let Q : ColId → ColPair = λ d. record { source = p.source; target = d } in
    ap P (same_column q.source p.source parts.0) ∙ ap Q (same_column q.target p.target parts.1)

pair_itself : (p : ColPair) → is_pair p p ≡ true
pair_itself p = and_from (same_col p.source p.source) (same_col p.target p.target) (same_itself p.source) (same_itself p.target)

other_pair : (p q : ColPair) → (q ≡ p → ⊥) → is_pair p q ≡ false
other_pair p q ne = elim (cases_Bool (is_pair p q)) [ inl t ↦ absurd (ne (pair_same p q t)) | inr f ↦ f ]

not_there : (p : ColPair) (ps : List ColPair) → (IsIn p ps → ⊥) → stands ps p ≡ false
not_there p [] n = refl
not_there p (q ∷ ps) n =
    let here = other_pair p q (λ e. n (inl (sym e))) in
    rw here (not_there p ps (λ i. n (inr i)))

there : (p : ColPair) (ps : List ColPair) → stands ps p ≡ true → IsIn p ps
there p [] e = absurd (false≢true e)
there p (q ∷ ps) e = elim (or_cases (is_pair p q) (stands ps p) e) [ inl h ↦ inl (sym (pair_same p q h)) | inr h ↦ inr (there p ps h) ]

map_same : {A B : Type 0} (f g : A → B) (xs : List A) → ((x : A) → IsIn x xs → f x ≡ g x) → map f xs ≡ map g xs
map_same f g [] h = refl
map_same f g (x ∷ xs) h = ap (λ y. y ∷ map f xs) (h x (inl refl)) ∙ ap (λ ys. g x ∷ ys) (map_same f g xs (λ y i. h y (inr i)))

-- what is taken by values stands exactly where they are true
picked_stands : (ps : List ColPair) (m : List Bool) → AreDistinct ps → length m ≡ length ps → map (stands (picked ps m)) ps ≡ m
picked_stands [] [] d e = refl
picked_stands [] (b ∷ m) d e = absurd (omega (arith, e))
picked_stands (p ∷ ps) [] d e = absurd (omega (arith, e))
picked_stands (p ∷ ps) (true ∷ m) d e =
    ap (λ b. b ∷ map (stands (p ∷ picked ps m)) ps) (or_left (is_pair p p) (stands (picked ps m) p) (pair_itself p))
    ∙ ap (λ bs. true ∷ bs) (map_same (stands (p ∷ picked ps m)) (stands (picked ps m)) ps (λ q i. let other = other_pair q p (d.0 q i) in ap (λ b. b || stands (picked ps m) q) other) ∙ picked_stands ps m d.1 (omega (arith, e)))
picked_stands (p ∷ ps) (false ∷ m) d e =
    ap (λ b. b ∷ map (stands (picked ps m)) ps) (not_there p (picked ps m) (λ i. d.0 p (in_picked ps m p i) refl))
    ∙ ap (λ bs. false ∷ bs) (picked_stands ps m d.1 (omega (arith, e)))

-- what the values take, as a correspondence
abbrev pub taken : Job → List Bool → Corr
taken job m = record { pairs = picked (pairs job) m }

pub taken_vector : (job : Job) (m : List Bool) → length m ≡ length (pairs job) → vector_of job (taken job m) ≡ m
taken_vector job m e = picked_stands (pairs job) m (pairs_distinct job) e

pub taken_ordered : (job : Job) (m : List Bool) → length m ≡ length (pairs job) → picked (pairs job) m ≡ filter (has (taken job m)) (pairs job)
taken_ordered job m e = sym (filter_picked (has (taken job m)) (pairs job) ∙ ap (picked (pairs job)) (taken_vector job m e))

-- a correspondence has the pairs that its vector takes
pub vector_takes : (job : Job) (corr : Corr) → IsCorr job corr → picked (pairs job) (vector_of job corr) ≡ corr.pairs
vector_takes job corr is = sym (is.ordered ∙ filter_picked (has corr) (pairs job))

-- so two of one vector are one
pub one_vector : (job : Job) (a b : Corr) → IsCorr job a → IsCorr job b → vector_of job a ≡ vector_of job b → a ≡ b
one_vector job a b is js e =
    let P : List ColPair → Corr = λ ps. record { pairs = ps } in
    ap P (sym (vector_takes job a is) ∙ ap (picked (pairs job)) e ∙ vector_takes job b js)

-- some pair passes a test, and the test that finds one
pub has_some : (test : ColPair → Bool) (ps : List ColPair) → list_any test ps ≡ true → HasSome ps test
has_some test [] e = absurd (false≢true e)
has_some test (p ∷ ps) e = elim (or_cases (test p) (list_any test ps) e) [
  | inl h ↦ (p, inl refl, h)
  | inr h ↦ let rest = has_some test ps h in (rest.0, inr rest.1, rest.2)
]

pub some_has : (test : ColPair → Bool) (ps : List ColPair) → HasSome ps test → list_any test ps ≡ true
some_has test [] h = absurd h.1
some_has test (p ∷ ps) h = elim h.1 [
  | inl e ↦ or_left (test p) (list_any test ps) (ap test (sym e) ∙ h.2)
  | inr i ↦ or_right (test p) (list_any test ps) (some_has test ps (h.0, i, h.2))
]
