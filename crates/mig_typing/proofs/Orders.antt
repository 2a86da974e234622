-- The order of places: of two different ones, one is before the other.
use Rattle.std.proofs.Common.{◌≡◌, ℕ, ◌<◌, zero, suc, true, false, Bool, List, [], ◌∷◌, length, get_or, refl, sym, ap, ◌∙◌, ◌⊎◌, ⊎_elim, inl, inr, arith}
use Rattle.std.proofs.lemmas.Bool.{cases_order, both_ways, false≢true, and_parts}
use Rattle.mig_schema.specs.declared.faults.Side.{Side}
use Rattle.mig_schema.specs.declared.faults.Side.TheVariants.{Old, New}
use Rattle.mig_schema.specs.declared.faults.SchemaRule.{SchemaRule}
use Rattle.mig_schema.specs.declared.faults.SchemaRule.TheVariants.{TableTwice, ColumnTwice, LinkEnd, LinkTables, LinkKinds}
use Rattle.mig_schema.specs.declared.faults.ProgramRule.{ProgramRule}
use Rattle.mig_schema.specs.declared.faults.ProgramRule.TheVariants.{FunctionTwice, ParameterTwice, UnknownTable, UnknownColumn, JoinedTwice, OnShape, UnknownParameter, NotJoined, KindDiffers, OrderKind, InsertCover}
use Rattle.mig_schema.specs.declared.faults.HintRule.{HintRule}
use Rattle.mig_schema.specs.declared.faults.HintRule.TheVariants.{HintEnd, HintKinds, HintTwice}
use Rattle.mig_schema.specs.declared.faults.TypeFault.{TypeFault}
use Rattle.mig_schema.specs.declared.faults.TypeFault.TheVariants as fault
use Rattle.mig_schema.specs.declared.tables.Schema.{Schema}
use Rattle.mig_schema.specs.declared.programs.Program.{Program}
use Rattle.mig_schema.specs.declared.jobs.Job.{Job}
use Rattle.mig_typing.specs.First.{Before, IsFirstBroken}
use Rattle.mig_typing.specs.Broken.{schema_rank, program_rank, hint_rank, numbers, same_side, schema_broken, schema_breaks, program_breaks, hints_break}

ordered : (xs ys : List ℕ) → length xs ≡ length ys → Before xs ys ⊎ ((xs ≡ ys) ⊎ Before ys xs)
ordered [] [] e = inr (inl refl)
ordered [] (y ∷ ys) e = absurd (omega arith)
ordered (x ∷ xs) [] e = absurd (omega arith)
ordered (x ∷ xs) (y ∷ ys) e =
    ⊎_elim
    (λ (same : x ≡ y).
    ⊎_elim
    (λ (b : Before xs ys). inl (inr (same, b)))
    (λ (h : (xs ≡ ys) ⊎ Before ys xs). ⊎_elim (λ (k : xs ≡ ys). inr (inl (ap (λ z. z ∷ xs) same ∙ ap (λ zs. y ∷ zs) k))) (λ (b : Before ys xs). inr (inr (inr (sym same, b)))) h)
    (ordered xs ys (omega arith)))
    (λ (h : (x < y) ⊎ (y < x)). ⊎_elim (λ (l : x < y). inl (inl l)) (λ (l : y < x). inr (inr (inl l))) h)
    (cases_order x y)

-- places are known by their numbers, and have equally many
abbrev pub AreKnown : (TypeFault → Bool) → Type 0
AreKnown broken = (p q : TypeFault) → broken p ≡ true → broken q ≡ true → (length (numbers p) ≡ length (numbers q)) × (numbers p ≡ numbers q → p ≡ q)

-- there is one first broken place
pub one_first : (broken : TypeFault → Bool) → AreKnown broken → (p q : TypeFault) → IsFirstBroken numbers broken p → IsFirstBroken numbers broken q → p ≡ q
one_first broken known p q fp fq =
    ⊎_elim
    (λ (b : Before (numbers p) (numbers q)). absurd (both_ways (broken p) (fq.before p b) fp.here))
    (λ (k : (numbers p ≡ numbers q) ⊎ Before (numbers q) (numbers p)).
    ⊎_elim (λ (e : numbers p ≡ numbers q). (known p q fp.here fq.here).1 e) (λ (b : Before (numbers q) (numbers p)). absurd (both_ways (broken q) (fp.before q b) fq.here)) k)
    (ordered (numbers p) (numbers q) (known p q fp.here fq.here).0)

-- ---- rules are known by their ranks

-- the rule of a rank
abbrev pub schema_rule : ℕ → SchemaRule
schema_rule n = get_or (TableTwice ∷ ColumnTwice ∷ LinkEnd ∷ LinkTables ∷ LinkKinds ∷ []) n TableTwice

-- a rule for schemas is that of its rank
pub ranked_schema : (r : SchemaRule) → r ≡ schema_rule (schema_rank r)
ranked_schema TableTwice = refl
ranked_schema ColumnTwice = refl
ranked_schema LinkEnd = refl
ranked_schema LinkTables = refl
ranked_schema LinkKinds = refl

-- rules for schemas of one rank are one
pub one_schema_rule : (r q : SchemaRule) → schema_rank r ≡ schema_rank q → r ≡ q
one_schema_rule r q e = ranked_schema r ∙ ap schema_rule e ∙ sym (ranked_schema q)

-- the rank of the rule of a rank is that rank
pub rank_of : (i : ℕ) → i < 5 → schema_rank (schema_rule i) ≡ i
rank_of zero lt = refl
rank_of (suc zero) lt = refl
rank_of (suc (suc zero)) lt = refl
rank_of (suc (suc (suc zero))) lt = refl
rank_of (suc (suc (suc (suc zero)))) lt = refl
rank_of (suc (suc (suc (suc (suc n))))) lt = absurd (omega arith)

abbrev program_rule : ℕ → ProgramRule
program_rule n = get_or (FunctionTwice ∷ ParameterTwice ∷ UnknownTable ∷ UnknownColumn ∷ JoinedTwice ∷ OnShape ∷ UnknownParameter ∷ NotJoined ∷ KindDiffers ∷ OrderKind ∷ InsertCover ∷ []) n FunctionTwice

ranked_program : (r : ProgramRule) → r ≡ program_rule (program_rank r)
ranked_program FunctionTwice = refl
ranked_program ParameterTwice = refl
ranked_program UnknownTable = refl
ranked_program UnknownColumn = refl
ranked_program JoinedTwice = refl
ranked_program OnShape = refl
ranked_program UnknownParameter = refl
ranked_program NotJoined = refl
ranked_program KindDiffers = refl
ranked_program OrderKind = refl
ranked_program InsertCover = refl

one_program_rule : (r q : ProgramRule) → program_rank r ≡ program_rank q → r ≡ q
one_program_rule r q e = ranked_program r ∙ ap program_rule e ∙ sym (ranked_program q)

abbrev hint_rule : ℕ → HintRule
hint_rule n = get_or (HintEnd ∷ HintKinds ∷ HintTwice ∷ []) n HintEnd

ranked_hint : (r : HintRule) → r ≡ hint_rule (hint_rank r)
ranked_hint HintEnd = refl
ranked_hint HintKinds = refl
ranked_hint HintTwice = refl

one_hint_rule : (r q : HintRule) → hint_rank r ≡ hint_rank q → r ≡ q
one_hint_rule r q e = ranked_hint r ∙ ap hint_rule e ∙ sym (ranked_hint q)

-- ---- places are known by their numbers

one_side : (a b : Side) → same_side a b ≡ true → a ≡ b
one_side Old Old e = refl
one_side New New e = refl
one_side Old New e = absurd (false≢true e)
one_side New Old e = absurd (false≢true e)

-- a side is the same as itself
pub own_side : (a : Side) → same_side a a ≡ true
own_side Old = refl
own_side New = refl

-- the places of a schema are known by their numbers
pub known_schema : (s : Schema) (side : Side) → AreKnown (schema_breaks s side)
known_schema s side fault.Memory q bp bq = absurd (false≢true bp)
known_schema s side (fault.Program r f k) q bp bq = absurd (false≢true bp)
known_schema s side (fault.Hint r k) q bp bq = absurd (false≢true bp)
known_schema s side (fault.Schema on r a b) fault.Memory bp bq = absurd (false≢true bq)
known_schema s side (fault.Schema on r a b) (fault.Program r' f k) bp bq = absurd (false≢true bq)
known_schema s side (fault.Schema on r a b) (fault.Hint r' k) bp bq = absurd (false≢true bq)
known_schema s side (fault.Schema on r a b) (fault.Schema on' r' a' b') bp bq = (
  refl,
  λ e.
      ap (λ x. fault.Schema x r a b) (one_side on side (and_parts (same_side on side) (schema_broken s r a b) bp).0 ∙ sym (one_side on' side (and_parts (same_side on' side) (schema_broken s r' a' b') bq).0))
      ∙ ap (λ x. fault.Schema on' x a b) (one_schema_rule r r' (ap (λ xs. get_or xs 0 0) e))
      ∙ ap (λ x. fault.Schema on' r' x b) (ap (λ xs. get_or xs 1 0) e)
      ∙ ap (λ x. fault.Schema on' r' a' x) (ap (λ xs. get_or xs 2 0) e),
)

-- those of a program
pub known_program : (s : Schema) (p : Program) → AreKnown (program_breaks s p)
known_program s p fault.Memory q bp bq = absurd (false≢true bp)
known_program s p (fault.Schema on r a b) q bp bq = absurd (false≢true bp)
known_program s p (fault.Hint r k) q bp bq = absurd (false≢true bp)
known_program s p (fault.Program r f k) fault.Memory bp bq = absurd (false≢true bq)
known_program s p (fault.Program r f k) (fault.Schema on r' a b) bp bq = absurd (false≢true bq)
known_program s p (fault.Program r f k) (fault.Hint r' k') bp bq = absurd (false≢true bq)
known_program s p (fault.Program r f k) (fault.Program r' f' k') bp bq = (
  refl,
  λ e.
      ap (λ x. fault.Program x f k) (one_program_rule r r' (ap (λ xs. get_or xs 2 0) e))
      ∙ ap (λ x. fault.Program r' x k) (ap (λ xs. get_or xs 0 0) e)
      ∙ ap (λ x. fault.Program r' f' x) (ap (λ xs. get_or xs 1 0) e),
)

-- those of hints
pub known_hints : (j : Job) → AreKnown (hints_break j)
known_hints j fault.Memory q bp bq = absurd (false≢true bp)
known_hints j (fault.Schema on r a b) q bp bq = absurd (false≢true bp)
known_hints j (fault.Program r f k) q bp bq = absurd (false≢true bp)
known_hints j (fault.Hint r k) fault.Memory bp bq = absurd (false≢true bq)
known_hints j (fault.Hint r k) (fault.Schema on r' a b) bp bq = absurd (false≢true bq)
known_hints j (fault.Hint r k) (fault.Program r' f k') bp bq = absurd (false≢true bq)
known_hints j (fault.Hint r k) (fault.Hint r' k') bp bq = (
  refl,
  λ e. ap (λ x. fault.Hint x k) (one_hint_rule r r' (ap (λ xs. get_or xs 1 0) e)) ∙ ap (λ x. fault.Hint r' x) (ap (λ xs. get_or xs 0 0) e),
)
