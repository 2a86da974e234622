-- Typed programs whose pairs of functions meet what is asked of them are equivalent.
use Rattle.std.proofs.Common.{◌≡◌, ℕ, zero, suc, ◌*◌, true, List, [], ◌∷◌, length, take, refl, sym, ap, ◌∙◌, get_or}
use Rattle.std.specs.List.{list_all, AllByRecursion}
use Rattle.std.proofs.lemmas.Bool.{and_parts}
use Rattle.mig_schema.specs.declared.tables.Kind.{Kind}
use Rattle.mig_schema.specs.declared.tables.Kind.TheVariants as kind
use Rattle.mig_schema.specs.declared.tables.Schema.{Schema}
use Rattle.mig_schema.specs.declared.programs.Param.{Param}
use Rattle.mig_schema.specs.declared.programs.Program.{Program}
use Rattle.mig_schema.specs.declared.values.Value.{Value}
use Rattle.mig_schema.specs.declared.values.Value.TheVariants as value
use Rattle.mig_schema.specs.Typed.{IsTypedFunction, IsTypedProgram}
use Rattle.mig_meaning.specs.declared.calling.Invocation.{Invocation}
use Rattle.mig_meaning.specs.declared.relating.Invariant.{Invariant}
use Rattle.mig_meaning.specs.Lists.{Each}
use Rattle.mig_meaning.specs.Values.{of_kind}
use Rattle.mig_meaning.specs.Run.{no_function, function_at}
use Rattle.mig_meaning.specs.Calls.{fit, IsCall, AreCalls}
use Rattle.mig_meaning.specs.Keys.{EachArgument, IsNoKey, IsOfKeys}
use Rattle.mig_meaning.specs.States.{labels_fit}
use Rattle.mig_meaning.specs.Equivalent.{AnswersAlike, IsEquivalent}
use Rattle.mig_meaning.specs.Meeting.{PairsMeet, is_no_key, takes_no_keys, AreTyped}
use Rattle.mig_meaning.proofs.Within.{each-weaker}
use Rattle.mig_meaning.proofs.TypedWrites.{state-law}
use Rattle.mig_meaning.proofs.Induction.{Leads, alike}
use Rattle.mig_meaning.proofs.Supplies.{free-argument, first-supply, alike-by-two}

-- ---- functions by their numbers

all-at : {X : Type 0} (P : X → Type 0) (xs : List X) (n : ℕ) (d : X) → AllByRecursion P xs → P d → P (get_or xs n d)
all-at P [] n d a b = b
all-at P (x ∷ xs) zero d a b = a.0
all-at P (x ∷ xs) (suc n) d a b = all-at P xs n d a.1 b

true-at : {X : Type 0} (q : X → _) (xs : List X) (n : ℕ) (d : X) → list_all q xs ≡ true → q d ≡ true → q (get_or xs n d) ≡ true
true-at q [] n d a b = b
true-at q (x ∷ xs) zero d a b = (and_parts (q x) (list_all q xs) a).0
true-at q (x ∷ xs) (suc n) d a b = true-at q xs n d (and_parts (q x) (list_all q xs) a).1 b

nothing-typed : (schema : Schema) → IsTypedFunction schema no_function
nothing-typed schema = record { params = λ k. refl; pieces = tt }

-- the calls of a typed program lead from states to states
leads-states : (schema : Schema) (p q : Program) → IsTypedProgram schema p → list_all labels_fit p.functions ≡ true → ((i : Invocation) → IsCall q i → (function_at p i.function).params ≡ (function_at q i.function).params) → Leads schema p q
leads-states schema p q typed labels params = λ i keys s call sixteen different st.
    state-law schema (function_at p i.function) (record { args = i.args.values; keys = keys }) s
    (all-at (IsTypedFunction schema) p.functions i.function no_function typed.functions (nothing-typed schema))
    (true-at labels_fit p.functions i.function no_function labels refl)
    (record { sixteen = sixteen; different = different; args = ap (λ ps. fit ps i.args.values) (params i call) ∙ call.args }) st

-- ---- arguments

kind-free : (k : Kind) (x : Value) → is_no_key k ≡ true → of_kind k x ≡ true → IsOfKeys [] x
kind-free k (value.Int i) n h = tt
kind-free k (value.Text t) n h = tt
kind-free kind.Int (value.Key x) n h = cc
kind-free kind.Text (value.Key x) n h = cc
kind-free kind.Key (value.Key x) n h = cc

fit-free : (ps : List Param) (vs : List Value) → list_all (λ (p : Param). is_no_key p.kind) ps ≡ true → fit ps vs ≡ true → Each (IsOfKeys []) vs
fit-free [] [] n h = tt
fit-free [] (v ∷ vs) n h = cc
fit-free (p ∷ ps) [] n h = cc
fit-free (p ∷ ps) (v ∷ vs) n h =
    let k = and_parts (is_no_key p.kind) (list_all (λ (p : Param). is_no_key p.kind) ps) n in
    let f = and_parts (of_kind p.kind v) (fit ps vs) h in
    (kind-free p.kind v k.0 f.0, fit-free ps vs k.1 f.1)

-- well-formed calls of a program that takes no keys hand none in
pub calls-free : (p : Program) → list_all takes_no_keys p.functions ≡ true → (is : List Invocation) → AreCalls p is → EachArgument (IsOfKeys []) is
calls-free p n [] c = tt
calls-free p n (i ∷ is) c = (fit-free (function_at p i.function).params i.args.values (true-at takes_no_keys p.functions i.function no_function n refl) c.0.args, calls-free p n is c.1)

-- ---- the two laws

module _ (schema schema' : Schema) (p p' : Program) (invs : List Invariant) (t : AreTyped schema schema' p p') (m : PairsMeet schema schema' p p' invs) where
  leads : Leads schema p p
  leads = leads-states schema p p t.source t.source_labels (λ i c. refl)

  leads' : Leads schema' p' p
  leads' = leads-states schema' p' p t.target t.target_labels (λ i c. sym (t.functions.each i.function c.named).params)

  no-keys : (is : List Invocation) (ks : List ℕ) → AreCalls p is → EachArgument (IsNoKey ks) is
  no-keys is ks calls = each-weaker _ _ (λ (i : Invocation) a. each-weaker _ _ (free-argument ks) i.args.values a) is (calls-free p t.no_keys is calls)

  -- by one supply
  pub answers-alike : AnswersAlike schema schema' p p' invs
  answers-alike = record { by = λ is ks calls supply. alike schema schema' p p' invs m leads leads' is ks calls supply (no-keys is ks calls) }

  -- by any two
  pub equivalent : IsEquivalent schema schema' p p' invs
  equivalent = record {
    by = λ is ks ls calls supply supply'.
        alike-by-two schema schema' p p' invs is ks ls supply supply' (calls-free p t.no_keys is calls)
        (answers-alike.by is (take (16 * length is) ks) calls (first-supply (length is) ks ls supply supply'));
  }
