-- The rows that an insert adds stand in its tables.
use Rattle.std.proofs.Common.{◌≡◌, ◌≢◌, ℕ, ◌<◌, ◌⊎◌, inl, inr, List, [], ◌∷◌, ◌++◌, set, get_or, length, refl, sym, ap, ◌∙◌, subst, arith}
use Rattle.std.proofs.lemmas.Bool.{cases_eq}
use Rattle.std.proofs.lemmas.List.{get_or-set_same, get_or-set_other, length-set}
use Rattle.mig_schema.specs.declared.tables.Schema.{Schema}
use Rattle.mig_schema.specs.declared.programs.Joined.{Joined}
use Rattle.mig_schema.specs.declared.programs.Assign.{Assign}
use Rattle.mig_schema.specs.declared.values.Value.{Value}
use Rattle.mig_meaning.specs.declared.states.Placed.{Placed}
use Rattle.mig_meaning.specs.declared.states.State.{State}
use Rattle.mig_meaning.specs.Conditions.{Given}
use Rattle.mig_meaning.specs.Effect.{new_values, with_row, with_rows}
use Rattle.mig_meaning.specs.Lists.{Each, In}
use Rattle.mig_meaning.specs.Rows.{rows_of}
use Rattle.mig_meaning.proofs.Within.{each-weaker}
use Rattle.mig_storage.proofs.Numbered.{changed-set}
use Rattle.mig_meaning.proofs.Lists.{in-front}

-- ---- rows that an insert adds
abbrev new_row : State → List Value → Placed
new_row s vs = record { id = s.next; row = record { values = vs } }

pub in-last : (p : Placed) (xs : List Placed) → In p (xs ++ p ∷ [])
in-last p [] = inl refl
in-last p (x ∷ xs) = inr (in-last p xs)

pub row-tables : (s : State) (t : ℕ) (vs : List Value) → (with_row s t vs).tables ≡ set s.tables t (rows_of s t ++ new_row s vs ∷ [])
row-tables s t vs = changed-set (λ rows. rows ++ new_row s vs ∷ []) t s.tables (rows_of s t ++ new_row s vs ∷ []) [] refl

pub row-count : (s : State) (t : ℕ) (vs : List Value) → length (with_row s t vs).tables ≡ length s.tables
row-count s t vs = ap length (row-tables s t vs) ∙ length-set s.tables t (rows_of s t ++ new_row s vs ∷ [])

pub row-here : (s : State) (t : ℕ) (vs : List Value) → t < length s.tables → In (new_row s vs) (rows_of (with_row s t vs) t)
row-here s t vs h = subst (In (new_row s vs)) (sym (ap (λ (ts : List (List Placed)). get_or ts t []) (row-tables s t vs) ∙ get_or-set_same s.tables t (rows_of s t ++ new_row s vs ∷ []) [] h)) (in-last (new_row s vs) (rows_of s t))

pub row-stays : (s : State) (t : ℕ) (vs : List Value) (u : ℕ) (p : Placed) → t < length s.tables → In p (rows_of s u) → In p (rows_of (with_row s t vs) u)
row-stays s t vs u p h k = subst (In p) (sym (ap (λ (ts : List (List Placed)). get_or ts u []) (row-tables s t vs))) (go (cases_eq u t))
  where
    go : (u ≡ t) ⊎ (u ≢ t) → In p (get_or (set s.tables t (rows_of s t ++ new_row s vs ∷ [])) u [])
    go (inl e) = subst (λ m. In p (get_or (set s.tables t (rows_of s t ++ new_row s vs ∷ [])) m [])) (sym e) (subst (In p) (sym (get_or-set_same s.tables t (rows_of s t ++ new_row s vs ∷ []) [] h)) (in-front p (rows_of s t) (new_row s vs ∷ []) (subst (λ m. In p (rows_of s m)) e k)))
    go (inr n) = subst (In p) (sym (get_or-set_other s.tables t u (rows_of s t ++ new_row s vs ∷ []) [] n)) k

pub rows-stay : (schema : Schema) (g : Given) (ms : List Joined) (vs : List Assign) (ts : List ℕ) (s : State) (u : ℕ) (p : Placed) → Each (λ t. t < length s.tables) ts → In p (rows_of s u) → In p (rows_of (with_rows schema g ms vs ts s) u)
rows-stay schema g ms vs [] s u p a k = k
rows-stay schema g ms vs (t ∷ ts) s u p a k =
    let new = new_values schema g ms vs t in
    rows-stay schema g ms vs ts (with_row s t new) u p (each-weaker _ _ (λ n h. omega (arith, h, row-count s t new)) ts a.1) (row-stays s t new u p a.0 k)

pub row-in : (schema : Schema) (g : Given) (ms : List Joined) (vs : List Assign) (ts : List ℕ) (s : State) (t : ℕ) → Each (λ u. u < length s.tables) ts → In t ts → (p : Placed) × In p (rows_of (with_rows schema g ms vs ts s) t) × (p.row.values ≡ new_values schema g ms vs t)
row-in schema g ms vs [] s t a h = absurd h
row-in schema g ms vs (u ∷ ts) s t a (inl e) =
    let new = new_values schema g ms vs u in
    let within : u < length s.tables = a.0 in
    let here : In (new_row s new) (rows_of (with_row s u new) t) = subst (λ m. In (new_row s new) (rows_of (with_row s u new) m)) (sym e) (row-here s u new within) in
    (new_row s new, rows-stay schema g ms vs ts (with_row s u new) t (new_row s new) (each-weaker _ _ (λ n h. omega (arith, h, row-count s u new)) ts a.1) here, ap (new_values schema g ms vs) (sym e))
row-in schema g ms vs (u ∷ ts) s t a (inr h) =
    let new = new_values schema g ms vs u in
    row-in schema g ms vs ts (with_row s u new) t (each-weaker _ _ (λ n k. omega (arith, k, row-count s u new)) ts a.1) h

pub each-by-in : (P : ℕ → Type 0) (ts us : List ℕ) → ((t : ℕ) → In t us → In t ts) → ((t : ℕ) → In t ts → P t) → Each P us
each-by-in P ts [] sub h = tt
each-by-in P ts (u ∷ us) sub h = (h u (sub u (inl refl)), each-by-in P ts us (λ t k. sub t (inr k)) h)
