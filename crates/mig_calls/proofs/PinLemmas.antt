-- What a column that is pinned to a value says of rows and kinds.
use Rattle.std.proofs.Common.{◌≡◌, ℕ, ◌<◌, ◌≤◌, ◌⊎◌, inl, inr, true, false, Bool, List, [], ◌∷◌, get_or, length, Option, Some, None, IfNone, refl, sym, ap, ap₂, ◌∙◌, subst}
use Rattle.std.specs.Prelude.{filter, ◌||◌}
use Rattle.std.proofs.lemmas.Bool.{and_parts}
use Rattle.mig_schema.specs.declared.tables.ColId.{ColId}
use Rattle.mig_schema.specs.declared.programs.Item.{Item}
use Rattle.mig_schema.specs.declared.programs.Item.TheVariants as item
use Rattle.mig_schema.specs.declared.programs.Cmp.{Cmp}
use Rattle.mig_schema.specs.declared.programs.Join.{Join}
use Rattle.mig_schema.specs.declared.values.Value.{Value}
use Rattle.mig_schema.specs.Joins.{tables_of}
use Rattle.mig_meaning.specs.declared.states.Placed.{Placed}
use Rattle.mig_meaning.specs.declared.states.State.{State}
use Rattle.mig_meaning.specs.Conditions.{Given, scalar_value, item_value, cmp_true, case_true, cases_true}
use Rattle.mig_meaning.specs.Lists.{Each}
use Rattle.mig_meaning.specs.Rows.{JoinRow, column_in, row_in, rows_of, value_at}
use Rattle.mig_meaning.specs.Values.{value_eq, compares, of_kind}
use Rattle.mig_storage.specs.Layout.{Layout, kinds_at, kind_at}
use Rattle.mig_calls.specs.Fits.{SidesFit, CasesFit, ValueFits}
use Rattle.mig_calls.specs.Joining.{IsCover}
use Rattle.mig_calls.specs.Leading.{IsCoverAt}
use Rattle.mig_calls.specs.Pins.{SidesPin, IsPin, CasePins, CasesPin}
use Rattle.mig_calls.proofs.JoinLemmas.{value_eq-sym}

-- ---- a pinned value is of its column's kind
abbrev pub PinFits : Layout → (t n : ℕ) → Value → Type 0
PinFits layout t n v = (n < length (kinds_at layout t)) × (of_kind (kind_at layout t n) v ≡ true)

value-fits : (layout : Layout) (ts : List ℕ) (c : ColId) (x v : Value) (t n : ℕ) → ValueFits layout ts c x → c.table ≡ t → c.column ≡ n → v ≡ x → PinFits layout t n v
value-fits layout ts c x v t n f a b e =
    let P : ℕ → ℕ → Value → Type 0 = PinFits layout in
    subst (λ u. P u n v) a (subst (λ m. P c.table m v) b (subst (λ y. P c.table c.column y) (sym e) (f.column.within, f.kind)))

sides-fit : (layout : Layout) (g : Given) (ts : List ℕ) (t n : ℕ) (v : Value) (a b : Item) → SidesFit layout g ts a b → SidesPin g t n v a b → PinFits layout t n v
sides-fit layout g ts t n v (item.Col c) (item.Scalar x) f p = value-fits layout ts c (scalar_value g x) v t n f p.0 p.1 p.2
sides-fit layout g ts t n v (item.Scalar x) (item.Col c) f p = value-fits layout ts c (scalar_value g x) v t n f p.0 p.1 p.2
sides-fit layout g ts t n v (item.Col c) (item.Col d) f p = absurd p
sides-fit layout g ts t n v (item.Scalar x) (item.Scalar y) f p = absurd p

case-fits : (layout : Layout) (g : Given) (ts : List ℕ) (t n : ℕ) (v : Value) (case : List Cmp) → Each (λ (c : Cmp). SidesFit layout g ts c.left c.right) case → CasePins g t n v case → PinFits layout t n v
case-fits layout g ts t n v [] f p = absurd p
case-fits layout g ts t n v (c ∷ cs) f (inl p) = sides-fit layout g ts t n v c.left c.right f.0 p.sides
case-fits layout g ts t n v (c ∷ cs) f (inr p) = case-fits layout g ts t n v cs f.1 p

pub pin-fits : (layout : Layout) (g : Given) (ts : List ℕ) (t n : ℕ) (v : Value) (cases : List (List Cmp)) → CasesFit layout g ts cases → CasesPin g t n v cases → PinFits layout t n v
pin-fits layout g ts t n v [] f p = absurd p
pin-fits layout g ts t n v (case ∷ []) f p = case-fits layout g ts t n v case f.0 p
pin-fits layout g ts t n v (case ∷ other ∷ more) f p = absurd p

-- ---- the row of its table in a join row that meets the condition has the pinned value
column-pinned : (ts : List ℕ) (e : JoinRow) (t n : ℕ) (c : ColId) → c.table ≡ t → c.column ≡ n → column_in ts e c ≡ value_at (row_in ts e t) n
column-pinned ts e t n c a b = ap₂ (λ u m. value_at (row_in ts e u) m) a b

sides-equal : (g : Given) (ts : List ℕ) (e : JoinRow) (t n : ℕ) (v : Value) (a b : Item) → SidesPin g t n v a b → value_eq (item_value g ts e a) (item_value g ts e b) ≡ true → value_eq (value_at (row_in ts e t) n) v ≡ true
sides-equal g ts e t n v (item.Col c) (item.Scalar x) s h =
    ap (value_eq (value_at (row_in ts e t) n)) s.2 ∙ (ap (λ y. value_eq y (scalar_value g x)) (sym (column-pinned ts e t n c s.0 s.1)) ∙ h)
sides-equal g ts e t n v (item.Scalar x) (item.Col c) s h =
    value_eq-sym (value_at (row_in ts e t) n) v ∙ (ap (λ y. value_eq y (value_at (row_in ts e t) n)) s.2 ∙ (ap (value_eq (scalar_value g x)) (sym (column-pinned ts e t n c s.0 s.1)) ∙ h))
sides-equal g ts e t n v (item.Col c) (item.Col d) s h = absurd s
sides-equal g ts e t n v (item.Scalar x) (item.Scalar y) s h = absurd s

case-equal : (g : Given) (ts : List ℕ) (e : JoinRow) (t n : ℕ) (v : Value) (case : List Cmp) → CasePins g t n v case → case_true g ts e case ≡ true → value_eq (value_at (row_in ts e t) n) v ≡ true
case-equal g ts e t n v [] s h = absurd s
case-equal g ts e t n v (c ∷ cs) (inl s) h =
    let first = (and_parts (cmp_true g ts e c) (case_true g ts e cs) h).0 in
    sides-equal g ts e t n v c.left c.right s.sides (ap (λ o. compares o (item_value g ts e c.left) (item_value g ts e c.right)) (sym s.equal) ∙ first)
case-equal g ts e t n v (c ∷ cs) (inr s) h = case-equal g ts e t n v cs s (and_parts (cmp_true g ts e c) (case_true g ts e cs) h).1

one-case : (b : Bool) → (b || false) ≡ true → b ≡ true
one-case true h = refl
one-case false h = h

pin-equal : (g : Given) (ts : List ℕ) (e : JoinRow) (t n : ℕ) (v : Value) (cases : List (List Cmp)) → CasesPin g t n v cases → cases_true g ts e cases ≡ true → value_eq (value_at (row_in ts e t) n) v ≡ true
pin-equal g ts e t n v [] s h = absurd s
pin-equal g ts e t n v (case ∷ []) s h = case-equal g ts e t n v case s (one-case (case_true g ts e case) h)
pin-equal g ts e t n v (case ∷ other ∷ rest) s h = absurd s

-- ---- rows that cover
filter-true : (rows : List Placed) → filter (λ (p : Placed). true) rows ≡ rows
filter-true [] = refl
filter-true (p ∷ rows) = ap (λ ps. p ∷ ps) (filter-true rows)

pub all-cover : (g : Given) (s : State) (join : Join) (cases : List (List Cmp)) (rows : List Placed) → rows ≡ rows_of s join.first → IsCover g s join cases rows
all-cover g s join cases rows e = record { test = λ p. true; part = e ∙ sym (filter-true (rows_of s join.first)); covers = λ p d k m h. refl }

pub matching-covers : (g : Given) (s : State) (join : Join) (cases : List (List Cmp)) (t n : ℕ) (v : Value) (rows : List Placed) → CasesPin g t n v cases → rows ≡ filter (λ (p : Placed). value_eq (value_at p n) v) (rows_of s t) → IsCoverAt g s join cases t rows
matching-covers g s join cases t n v rows pin e = record {
  test = λ (p : Placed). value_eq (value_at p n) v;
  part = e;
  covers = λ d k m h. pin-equal g (tables_of join) d t n v cases pin h;
}

-- ---- no pin
pub no-case-pins : (g : Given) (t n : ℕ) (v : Value) (c : Cmp) (cs case : List Cmp) → c ∷ cs ≡ case → (IsPin g t n v c → ⊥) → (CasePins g t n v cs → ⊥) → CasePins g t n v case → ⊥
no-case-pins g t n v c cs case e a b p = go (subst (CasePins g t n v) (sym e) p)
  where
    go : IsPin g t n v c ⊎ CasePins g t n v cs → ⊥
    go (inl q) = a q
    go (inr q) = b q

pub no-cases-pin : (g : Given) (t n : ℕ) (v : Value) (case : List Cmp) (cases : List (List Cmp)) → 1 ≤ length cases → length cases < 2 → case ≡ get_or cases 0 case → (CasePins g t n v case → ⊥) → CasesPin g t n v cases → ⊥
no-cases-pin g t n v case [] le lt is a p = p
no-cases-pin g t n v case (c ∷ []) le lt is a p = a (subst (CasePins g t n v) (sym is) p)
no-cases-pin g t n v case (c ∷ other ∷ more) le lt is a p = p

pub if-none : {X : Type 0} (o : Option X) (P Q : Type 0) → (P → Q) → IfNone o P → IfNone o Q
if-none None P Q f h = f h
if-none (Some x) P Q f h = tt
