-- Values that a call is given have the kinds that its function names, and short texts.
use Rattle.std.proofs.Common.{◌≡◌, ℕ, zero, suc, ◌+◌, ◌<◌, Bool, true, false, cond, List, [], ◌∷◌, map, get_or, length, refl, arith}
use Rattle.std.specs.Prelude.{nat_lt}
use Rattle.std.proofs.lemmas.Bool.{and_parts, not-false, ltb-true}
use Rattle.mig_base.specs.Lists.{numbered}
use Rattle.mig_schema.specs.declared.tables.ColId.{ColId}
use Rattle.mig_schema.specs.declared.tables.Column.{Column}
use Rattle.mig_schema.specs.declared.tables.Kind.{Kind}
use Rattle.mig_schema.specs.declared.tables.Kind.TheVariants as kind
use Rattle.mig_schema.specs.declared.tables.Schema.{Schema}
use Rattle.mig_schema.specs.declared.programs.Param.{Param}
use Rattle.mig_schema.specs.declared.programs.Joined.{Joined}
use Rattle.mig_schema.specs.declared.programs.Assign.{Assign}
use Rattle.mig_schema.specs.declared.programs.Scalar.{Scalar}
use Rattle.mig_schema.specs.declared.programs.Scalar.TheVariants as scalar
use Rattle.mig_schema.specs.declared.programs.Function.{Function}
use Rattle.mig_schema.specs.declared.values.Value.{Value}
use Rattle.mig_schema.specs.declared.values.Value.TheVariants as value
use Rattle.mig_schema.specs.Columns.{columns_of, has_column, has_table, kind_of, no_column, same_kind}
use Rattle.mig_schema.specs.Joins.{tables_of, is_among, joins_on, all_join_on}
use Rattle.mig_schema.specs.Typed.{scalar_kind, names_no_param}
use Rattle.mig_meaning.specs.Calls.{fit, IsGivenTo}
use Rattle.mig_meaning.specs.Conditions.{Given, scalar_value}
use Rattle.mig_meaning.specs.Effect.{class_value, new_values}
use Rattle.mig_meaning.specs.Lists.{Each}
use Rattle.mig_meaning.specs.States.{label_fits}
use Rattle.mig_meaning.specs.Values.{no_value, of_kind}
use Rattle.mig_storage.specs.Layout.{IsShort}
use Rattle.mig_calls.specs.Calling.{IsShortScalar}

-- ---- kinds
pub same-kinds : (a b : Kind) → same_kind a b ≡ true → a ≡ b
same-kinds kind.Int kind.Int h = refl
same-kinds kind.Text kind.Text h = refl
same-kinds kind.Key kind.Key h = refl
same-kinds _ _ h = cc

pub fit-at : (ps : List Param) (vs : List Value) (n : ℕ) (d : Param) → fit ps vs ≡ true → n < length ps → of_kind (get_or ps n d).kind (get_or vs n no_value) ≡ true
fit-at [] vs n d h l = absurd (omega (arith, l))
fit-at (p ∷ ps) [] n d h l = cc
fit-at (p ∷ ps) (v ∷ vs) zero d h l = (and_parts (of_kind p.kind v) (fit ps vs) h).0
fit-at (p ∷ ps) (v ∷ vs) (suc n) d h l = fit-at ps vs n d (and_parts (of_kind p.kind v) (fit ps vs) h).1 (omega (arith, l))

pub key-at : (ks : List ℕ) (n : ℕ) → n < length ks → of_kind kind.Key (get_or (map value.Key ks) n no_value) ≡ true
key-at [] n l = absurd (omega (arith, l))
key-at (k ∷ ks) zero l = refl
key-at (k ∷ ks) (suc n) l = key-at ks n (omega (arith, l))

pub scalar-fits : (f : Function) (g : Given) → IsGivenTo f g → (x : Scalar) → names_no_param f x ≡ false → label_fits x ≡ true → of_kind (scalar_kind f x) (scalar_value g x) ≡ true
scalar-fits f g gi (scalar.Param p) named fits = fit-at f.params g.args p (record { name = []; kind = kind.Int }) gi.args (ltb-true p (length f.params) (not-false (nat_lt p (length f.params)) named))
scalar-fits f g gi (scalar.Int i) named fits = refl
scalar-fits f g gi (scalar.Text t) named fits = refl
scalar-fits f g gi (scalar.Fresh n) named fits = let l : n < 16 = ltb-true n 16 fits in key-at g.keys n (omega (arith, l, gi.sixteen))

-- ---- short texts
pub short-at : (vs : List Value) (n : ℕ) → Each IsShort vs → IsShort (get_or vs n no_value)
short-at [] n a = tt
short-at (v ∷ vs) zero a = a.0
short-at (v ∷ vs) (suc n) a = short-at vs n a.1

pub short-key : (ks : List ℕ) (n : ℕ) → IsShort (get_or (map value.Key ks) n no_value)
short-key [] n = tt
short-key (k ∷ ks) zero = tt
short-key (k ∷ ks) (suc n) = short-key ks n

pub short-scalar : (g : Given) → Each IsShort g.args → (x : Scalar) → IsShortScalar x → IsShort (scalar_value g x)
short-scalar g a (scalar.Param p) h = short-at g.args p a
short-scalar g a (scalar.Int i) h = tt
short-scalar g a (scalar.Text t) h = h
short-scalar g a (scalar.Fresh n) h = short-key g.keys n

pub short-class : (g : Given) (ms : List Joined) (vs : List Assign) (c : ColId) → Each IsShort g.args → Each (λ (x : Assign). IsShortScalar x.value) vs → IsShort (class_value g ms vs c)
short-class g ms [] c a h = tt
short-class g ms (x ∷ vs) c a h = go (Rattle.mig_schema.specs.Columns.same_col (Rattle.mig_schema.specs.Joins.leader ms x.column) (Rattle.mig_schema.specs.Joins.leader ms c)) (short-class g ms vs c a h.1)
  where
    go : (b : Bool) → IsShort (class_value g ms vs c) → IsShort (cond b (scalar_value g x.value) (class_value g ms vs c))
    go true ih = short-scalar g a x.value h.0
    go false ih = ih

pub short-values : (schema : Schema) (g : Given) (ms : List Joined) (vs : List Assign) (t : ℕ) → Each IsShort g.args → Each (λ (x : Assign). IsShortScalar x.value) vs → Each IsShort (new_values schema g ms vs t)
short-values schema g ms vs t a h = go 0 (columns_of schema t)
  where
    go : (n : ℕ) (cs : List Column) → Each IsShort (numbered (λ m (c : Column). class_value g ms vs (record { table = t; column = m })) n cs)
    go n [] = tt
    go n (c ∷ cs) = (short-class g ms vs (record { table = t; column = n }) a h, go (n + 1) cs)
