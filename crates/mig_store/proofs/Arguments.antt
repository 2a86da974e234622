-- The arguments of a record, one after the other.
use Rattle.std.proofs.Common.{◌≡◌, ◌∙◌, ℕ, zero, suc, ◌+◌, ◌<◌, ◌≤◌, List, [], ◌∷◌, ◌++◌, length, get_or, drop, Option, Some, None, refl, sym, ap, subst, arith}
use Rattle.std.specs.Prelude.{Result, Ok, Err}
use Rattle.std.proofs.lemmas.List.{drop_more, drop_all}
use Rattle.csv.specs.Records.{field_at}
use Rattle.mig_schema.specs.declared.programs.Param.{Param}
use Rattle.mig_schema.specs.declared.values.Value.{Value}
use Rattle.mig_store.specs.declared.faults.CallsFault.{CallsFault}
use Rattle.mig_store.specs.declared.faults.CallsFault.TheVariants as fault
use Rattle.mig_store.specs.Fields.{value_spelled}
use Rattle.mig_store.specs.Reading.{Record, all_or_first, argument, arguments, fields_in}
use Rattle.mig_store.proofs.Collect.{with_front, front-more, front-all}

-- an argument is the field one place further on
pub field-in : (r : Record) (i : ℕ) → get_or r (i + 1) [] ≡ get_or (fields_in r) i []
field-in [] i = refl
field-in (name ∷ fields) i = let e : i + 1 ≡ suc i = omega arith in rw e refl

-- what is left of the arguments from one on
abbrev pub left_at : (at : ℕ) → List Param → Record → (i : ℕ) → List (Result Value CallsFault)
left_at at ps r i = arguments at (i + 1) (drop i ps) (drop i (fields_in r))

-- an argument, and those behind it
pub left-more : (at : ℕ) (ps : List Param) (r : Record) (i : ℕ) (p : Param) → length (fields_in r) ≡ length ps → i < length ps → p ≡ get_or ps i p
    → left_at at ps r i ≡ argument at (i + 1) (value_spelled p.kind (get_or r (i + 1) [])) ∷ left_at at ps r (i + 1)
left-more at ps r i p same l is =
    let there : i < length (fields_in r) = omega (arith, l, same) in
    ap (λ (xs : List Param). arguments at (i + 1) xs (drop i (fields_in r))) (drop_more ps i p l)
    ∙ ap (λ (ws : List (List ℕ)). arguments at (i + 1) (get_or ps i p ∷ drop (i + 1) ps) ws) (drop_more (fields_in r) i [] there)
    ∙ ap (λ (q : Param). argument at (i + 1) (value_spelled q.kind (get_or (fields_in r) i [])) ∷ left_at at ps r (i + 1)) (sym is)
    ∙ ap (λ (w : List ℕ). argument at (i + 1) (value_spelled p.kind w) ∷ left_at at ps r (i + 1)) (sym (field-in r i))

-- one more is a value
pub goes_on : (at : ℕ) (ps : List Param) (r : Record) (i : ℕ) (p : Param) (vs now : List Value) (v : Value) (all : Result (List Value) CallsFault)
    → now ≡ vs ++ v ∷ []
    → length (fields_in r) ≡ length ps → i < length ps → p ≡ get_or ps i p → Some v ≡ value_spelled p.kind (get_or r (i + 1) [])
    → with_front vs (all_or_first (left_at at ps r i)) ≡ all → with_front now (all_or_first (left_at at ps r (i + 1))) ≡ all
goes_on at ps r i p vs now v all pushed same l is e inv =
    ap (λ (xs : List Value). with_front xs (all_or_first (left_at at ps r (i + 1)))) pushed
    ∙ front-more vs v (all_or_first (left_at at ps r (i + 1)))
    ∙ ap (λ (o : Option Value). with_front vs (all_or_first (argument at (i + 1) o ∷ left_at at ps r (i + 1)))) e
    ∙ ap (λ (rs : List (Result Value CallsFault)). with_front vs (all_or_first rs)) (sym (left-more at ps r i p same l is)) ∙ inv

-- one is no value
pub stops : (at : ℕ) (ps : List Param) (r : Record) (i n : ℕ) (p : Param) (vs : List Value) (all : Result (List Value) CallsFault)
    → n ≡ i + 1
    → length (fields_in r) ≡ length ps → i < length ps → p ≡ get_or ps i p → None ≡ value_spelled p.kind (get_or r (i + 1) [])
    → with_front vs (all_or_first (left_at at ps r i)) ≡ all → Err (fault.Value at n) ≡ all
stops at ps r i n p vs all number same l is e inv = subst (λ m. Err (fault.Value at m) ≡ all) (sym number) (
    ap (λ (o : Option Value). with_front vs (all_or_first (argument at (i + 1) o ∷ left_at at ps r (i + 1)))) e
    ∙ ap (λ (rs : List (Result Value CallsFault)). with_front vs (all_or_first rs)) (sym (left-more at ps r i p same l is)) ∙ inv)

-- none is left
pub ends : (at : ℕ) (ps : List Param) (r : Record) (i : ℕ) (vs : List Value) (all : Result (List Value) CallsFault)
    → length ps ≤ i → with_front vs (all_or_first (left_at at ps r i)) ≡ all → Ok vs ≡ all
ends at ps r i vs all l inv =
    sym (front-all vs (all_or_first (left_at at ps r i)) (ap (λ (xs : List Param). all_or_first (arguments at (i + 1) xs (drop i (fields_in r)))) (drop_all i ps l))) ∙ inv

-- past the end there is no field
pub field-past : (r : Record) (i : ℕ) → field_at r i ≡ None → get_or r i [] ≡ []
unfolding field_at
field-past [] i e = refl
field-past (w ∷ ws) zero e = cc e
field-past (w ∷ ws) (suc i) e = field-past ws i e
