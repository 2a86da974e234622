-- From one supply to any two: the second run is the first supply's, renamed.
use Rattle.std.proofs.Common.{◌≡◌, ℕ, ◌*◌, Bool, true, false, ◌||◌, List, [], ◌∷◌, map, take, length, refl, sym, ap, ap₂, ◌∙◌, arith, subst}
use Rattle.std.specs.Prelude.{◌==◌}
use Rattle.std.proofs.lemmas.List.{length-take-le}
use Rattle.std.proofs.lemmas.Bool.{eq-eqb}
use Rattle.mig_schema.specs.declared.values.Value.{Value}
use Rattle.mig_schema.specs.declared.values.Value.TheVariants as value
use Rattle.mig_schema.specs.declared.tables.Table.{Table}
use Rattle.mig_schema.specs.declared.tables.Schema.{Schema}
use Rattle.mig_schema.specs.declared.programs.Program.{Program}
use Rattle.mig_meaning.specs.declared.calling.Invocation.{Invocation}
use Rattle.mig_meaning.specs.declared.relating.Invariant.{Invariant}
use Rattle.mig_meaning.specs.Lists.{Each, has, AllDifferent}
use Rattle.mig_meaning.specs.Rows.{empty_state}
use Rattle.mig_meaning.specs.Run.{run}
use Rattle.mig_meaning.specs.Calls.{IsSupply}
use Rattle.mig_meaning.specs.Keys.{EachArgument, IsNoKey, IsOfKeys}
use Rattle.mig_meaning.specs.Renaming.{renaming, same, renamed, renamed_row, renamed_state}
use Rattle.mig_meaning.specs.Law.{InjectiveOn, renamed_call, renamed_outcome}
use Rattle.mig_meaning.specs.Equivalent.{AllAlike}
use Rattle.mig_meaning.proofs.Maps.{map-split}
use Rattle.mig_meaning.proofs.Renamed.{run-renamed}
use Rattle.mig_meaning.proofs.Within.{each-weaker, empty-keeps}
use Rattle.mig_meaning.proofs.Supply.{different-take}
use Rattle.mig_meaning.proofs.Injections.{widened, widened-in, widened-injective, injective-on, renaming-takes}
use Rattle.mig_meaning.proofs.Law.{each-take, map-agrees, OutcomeIn, run-keeps, of_keys-plain, run-take}
use Rattle.mig_meaning.proofs.Renamings.{alike-renamed}

-- ---- arguments without keys

-- a value that is no key is none of these
pub free-argument : (ks : List ℕ) (v : Value) → IsOfKeys [] v → IsNoKey ks v
free-argument ks (value.Int i) h = tt
free-argument ks (value.Text t) h = tt
free-argument ks (value.Key k) h = cc

of-argument : (ks : List ℕ) (v : Value) → IsOfKeys [] v → IsOfKeys ks v
of-argument ks (value.Int i) h = tt
of-argument ks (value.Text t) h = tt
of-argument ks (value.Key k) h = cc

argument-stays : (g : ℕ → ℕ) (v : Value) → IsOfKeys [] v → renamed g v ≡ v
argument-stays g (value.Int i) h = refl
argument-stays g (value.Text t) h = refl
argument-stays g (value.Key k) h = cc

values-stay : (g : ℕ → ℕ) (vs : List Value) → Each (IsOfKeys []) vs → map (renamed g) vs ≡ vs
values-stay g [] h = refl
values-stay g (v ∷ vs) h = ap₂ (λ x xs. x ∷ xs) (argument-stays g v h.0) (values-stay g vs h.1)

calls-stay : (g : ℕ → ℕ) (is : List Invocation) → EachArgument (IsOfKeys []) is → map (renamed_call g) is ≡ is
calls-stay g [] a = refl
calls-stay g (i ∷ is) a = ap₂ (λ vs js. record { function = i.function; args = record { values = vs } } ∷ js) (values-stay g i.args.values a.0) (calls-stay g is a.1)

empty-stays : (g : ℕ → ℕ) (schema : Schema) → renamed_state g (empty_state schema) ≡ empty_state schema
empty-stays g schema = ap (λ ts. record { tables = ts; next = 0 }) (sym (map-split (λ (t : Table). []) (map (renamed_row g)) (λ (t : Table). []) (λ t. refl) schema.tables))

has-itself : (ks : List ℕ) → Each (λ k. has ks k ≡ true) ks
has-itself [] = tt
has-itself (k ∷ ks) = (ap (λ b. b || has ks k) (eq-eqb k k refl), each-weaker _ _ (λ l h. or_right (k == l) (has ks l) h) ks (has-itself ks))
  where
    or_right : (b c : Bool) → c ≡ true → (b || c) ≡ true
    or_right true c e = refl
    or_right false c e = e

-- all keys in the states and answers of a run from empty tables are among the first 16 for each call
pub keys-below : (schema : Schema) (p : Program) (is : List Invocation) (ks : List ℕ) → EachArgument (IsOfKeys []) is → Each (OutcomeIn (IsOfKeys (take (16 * length is) ks))) (run schema p (empty_state schema) is ks)
keys-below schema p is ks args =
    subst (Each (OutcomeIn (IsOfKeys (take (16 * length is) ks)))) (run-take schema p is ks (empty_state schema))
    (run-keeps (IsOfKeys (take (16 * length is) ks)) (of_keys-plain (take (16 * length is) ks)) schema p is (take (16 * length is) ks) (empty_state schema) (empty-keeps _ schema)
    (each-weaker _ _ (λ (i : Invocation) a. each-weaker _ _ (of-argument (take (16 * length is) ks)) i.args.values a) is args) (has-itself (take (16 * length is) ks)))

-- ---- two supplies

module _ (m : ℕ) (ks ls : List ℕ) (s : IsSupply m ks) (s' : IsSupply m ls) where
  -- the first keys are a supply
  pub first-supply : IsSupply m (take (16 * m) ks)
  first-supply = record {
    enough = let e : length (take (16 * m) ks) ≡ 16 * m = length-take-le (16 * m) ks s.enough in omega (arith, e);
    different = different-take (16 * m) ks s.different;
    small = each-take _ (16 * m) ks s.small;
  }

  taken : map (renaming ks ls) (take (16 * m) ks) ≡ take (16 * m) ls
  taken = renaming-takes ks ls (16 * m) s.different s.enough s'.enough

  -- they stay different in the other supply
  first-injective : InjectiveOn (take (16 * m) ks) (renaming ks ls)
  first-injective = injective-on (renaming ks ls) (take (16 * m) ks) (subst AllDifferent (sym taken) (different-take (16 * m) ls s'.different))

  widened-taken : map (widened (take (16 * m) ks) (renaming ks ls)) (take (16 * m) ks) ≡ take (16 * m) ls
  widened-taken = map-agrees (λ k. has (take (16 * m) ks) k ≡ true) (widened (take (16 * m) ks) (renaming ks ls)) (renaming ks ls) (widened-in (take (16 * m) ks) (renaming ks ls)) (take (16 * m) ks) (has-itself (take (16 * m) ks)) ∙ taken

-- a run with the second supply is the run with the first one, renamed
run-with : (schema : Schema) (p : Program) (is : List Invocation) (ks ls : List ℕ) → IsSupply (length is) ks → IsSupply (length is) ls → EachArgument (IsOfKeys []) is → run schema p (empty_state schema) is ls ≡ map (renamed_outcome (widened (take (16 * length is) ks) (renaming ks ls))) (run schema p (empty_state schema) is (take (16 * length is) ks))
run-with schema p is ks ls s s' args =
    sym (run-take schema p is ls (empty_state schema))
    ∙ ap (run schema p (empty_state schema) is) (sym (widened-taken (length is) ks ls s s'))
    ∙ ap₂ (λ t js. run schema p t js (map g (take (16 * length is) ks))) (sym (empty-stays g schema)) (sym (calls-stay g is args))
    ∙ run-renamed schema p g (widened-injective (take (16 * length is) ks) (renaming ks ls) (first-injective (length is) ks ls s s')) is (take (16 * length is) ks) (empty_state schema)
  where
    g : ℕ → ℕ
    g = widened (take (16 * length is) ks) (renaming ks ls)

-- what is alike by the first keys of one supply is so for both supplies, renamed
pub alike-by-two : (schema schema' : Schema) (p p' : Program) (invs : List Invariant) (is : List Invocation) (ks ls : List ℕ) → IsSupply (length is) ks → IsSupply (length is) ls → EachArgument (IsOfKeys []) is → AllAlike same invs (run schema p (empty_state schema) is (take (16 * length is) ks)) (run schema' p' (empty_state schema') is (take (16 * length is) ks)) → AllAlike (renaming ks ls) invs (run schema p (empty_state schema) is ks) (run schema' p' (empty_state schema') is ls)
alike-by-two schema schema' p p' invs is ks ls s s' args one =
    subst (λ os. AllAlike (renaming ks ls) invs os (run schema' p' (empty_state schema') is ls)) (run-take schema p is ks (empty_state schema))
    (subst (AllAlike (renaming ks ls) invs (run schema p (empty_state schema) is (take (16 * length is) ks))) (sym (run-with schema' p' is ks ls s s' args))
    (alike-renamed (take (16 * length is) ks) (renaming ks ls) (first-injective (length is) ks ls s s') invs (run schema p (empty_state schema) is (take (16 * length is) ks)) (run schema' p' (empty_state schema') is (take (16 * length is) ks))
    (subst (Each (OutcomeIn (IsOfKeys (take (16 * length is) ks)))) (sym (run-take schema p is ks (empty_state schema))) (keys-below schema p is ks args))
    one))
