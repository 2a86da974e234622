-- Keys that differ: those of two labels, and a label's and what a row from before the call holds.
use Rattle.std.proofs.Common.{◌≡◌, ◌≢◌, ℕ, zero, suc, ◌<◌, Bool, true, false, ◌||◌, List, [], ◌∷◌, map, length, Option, Some, None, refl, sym, ap, ◌∙◌, arith, subst}
use Rattle.std.specs.Prelude.{◌==◌, slice_index_or, slice_get}
use Rattle.std.proofs.lemmas.Bool.{eqb-true, eqb-false, eq-eqb, not-true, both_ways, ltb-true}
use Rattle.mig_schema.specs.declared.values.Value.{Value}
use Rattle.mig_schema.specs.declared.values.Value.TheVariants as value
use Rattle.mig_meaning.specs.Lists.{has, AllDifferent, In}
use Rattle.mig_meaning.specs.Keys.{EachIn, IsNoKey}
use Rattle.mig_meaning.specs.Values.{no_value}
use Rattle.mig_meaning.specs.Rows.{value_at}
use Rattle.mig_meaning.proofs.StateLaw.{each-in}
use Rattle.mig_meaning.proofs.Within.{each-get}
use Rattle.mig_algebra.specs.declared.atoms.Var.{Var}
use Rattle.mig_algebra.specs.declared.atoms.Atom.{Atom}
use Rattle.mig_algebra.specs.declared.atoms.Atom.TheVariants.{Fresh, Col}
use Rattle.mig_algebra.specs.Meaning.{Setting, Env, choices, value_of, row_at}
use Rattle.mig_algebra.proofs.Members.{product-in}
use Rattle.mig_classes.specs.Given.{is_first_stage, is_from_before, keys_differ}
use Rattle.mig_classes.specs.Keys.{KeysAreFresh, label_within}

-- ---- rows

-- the row of a variable in scope is one of those that it ranges over
pub choice-row : (s : Setting) (scope : List Var) (e : Env) (v : ℕ) (w : Var) → In e (choices s scope) → slice_get scope v ≡ Some w → In (row_at e v) (s.rows w)
choice-row s [] e v w h g = cc
choice-row s (u ∷ us) e zero w h g =
    let k = product-in e (s.rows u) (map s.rows us) h in
    let same : u ≡ w = cc in
    subst (λ f. In (row_at f 0) (s.rows w)) (sym k.2) (subst (λ x. In k.0 (s.rows x)) same k.3)
choice-row s (u ∷ us) e (suc v) w h g =
    let k = product-in e (s.rows u) (map s.rows us) h in
    subst (λ f. In (row_at f (suc v)) (s.rows w)) (sym k.2) (choice-row s us k.1 v w k.4 g)

-- ---- labels

-- a label's key is one of the call's
key-at : (ks : List ℕ) (n : ℕ) → n < length ks → (k : ℕ) × (slice_index_or (map value.Key ks) n no_value ≡ value.Key k) × (has ks k ≡ true)
key-at [] n h = absurd (omega (arith, h))
key-at (k ∷ ks) zero h = (k, refl, ap (λ b. b || has ks k) (eq-eqb k k refl))
key-at (k ∷ ks) (suc n) h =
    let r = key-at ks n (omega (arith, h)) in
    (r.0, r.1, or-right (k == r.0) (has ks r.0) r.2)
  where
    or-right : (a b : Bool) → b ≡ true → (a || b) ≡ true
    or-right true b e = refl
    or-right false b e = e

-- a key that is not among some is not the key of a label among them
key-elsewhere : (ks : List ℕ) (k n : ℕ) → n < length ks → has ks k ≡ false → value.Key k ≢ slice_index_or (map value.Key ks) n no_value
key-elsewhere ks k n h out e =
    let r = key-at ks n h in
    let same : value.Key k ≡ value.Key r.0 = e ∙ r.1 in
    let is : k ≡ r.0 = cc in
    both_ways (has ks k) out (ap (has ks) is ∙ r.2)

-- different labels have different keys
labels-differ : (ks : List ℕ) (m n : ℕ) → AllDifferent ks → m < length ks → n < length ks → m ≢ n → slice_index_or (map value.Key ks) m no_value ≢ slice_index_or (map value.Key ks) n no_value
labels-differ [] m n d h k ne e = absurd (omega (arith, h))
labels-differ (x ∷ ks) zero zero d h k ne e = ne refl
labels-differ (x ∷ ks) zero (suc n) d h k ne e = key-elsewhere ks x n (omega (arith, k)) d.0 e
labels-differ (x ∷ ks) (suc m) zero d h k ne e = key-elsewhere ks x m (omega (arith, h)) d.0 (sym e)
labels-differ (x ∷ ks) (suc m) (suc n) d h k ne e = labels-differ ks m n d.1 (omega (arith, h)) (omega (arith, k)) (λ q. ne (ap suc q)) e

-- a value that is none of the keys is not that of a label
no-key-differs : (ks : List ℕ) (v : Value) (n : ℕ) → IsNoKey ks v → n < length ks → slice_index_or (map value.Key ks) n no_value ≢ v
no-key-differs ks (value.Int i) n h l e = let r = key-at ks n l in let bad : value.Key r.0 ≡ value.Int i = sym r.1 ∙ e in cc
no-key-differs ks (value.Text t) n h l e = let r = key-at ks n l in let bad : value.Key r.0 ≡ value.Text t = sym r.1 ∙ e in cc
no-key-differs ks (value.Key k) n h l e = key-elsewhere ks k n l h (sym e)

-- ---- atoms

module _ (s : Setting) (scope : List Var) (e : Env) (f : KeysAreFresh s) (c : In e (choices s scope)) where
  -- what a row from before the call holds is none of the keys
  old-value : (v col : ℕ) → is_from_before scope v ≡ true → IsNoKey s.given.keys (value_at (row_at e v) col)
  old-value v col h = go (slice_get scope v) refl h
    where
      go : (o : Option Var) → slice_get scope v ≡ o → is_first_stage o ≡ true → IsNoKey s.given.keys (value_at (row_at e v) col)
      go None g t = cc
      go (Some w) g t =
          each-get (IsNoKey s.given.keys) (row_at e v).row.values col no_value
          (each-in (EachIn (IsNoKey s.given.keys)) (row_at e v) (s.rows w) (f.before w (eqb-true w.stage 0 t)) (choice-row s scope e v w c g)) tt

  -- keys that differ are different values
  pub keys_differ-values : (a b : Atom) → label_within (length s.given.keys) a ≡ true → label_within (length s.given.keys) b ≡ true → keys_differ scope a b ≡ true → value_of s e a ≢ value_of s e b
  keys_differ-values (Fresh m) (Fresh n) p q h =
      labels-differ s.given.keys m n f.different (ltb-true m (length s.given.keys) p) (ltb-true n (length s.given.keys) q) (eqb-false m n (not-true (m == n) h))
  keys_differ-values (Fresh m) (Col v col) p q h = no-key-differs s.given.keys (value_at (row_at e v) col) m (old-value v col h) (ltb-true m (length s.given.keys) p)
  keys_differ-values (Col v col) (Fresh n) p q h = λ k. no-key-differs s.given.keys (value_at (row_at e v) col) n (old-value v col h) (ltb-true n (length s.given.keys) q) (sym k)
  keys_differ-values a b p q h = cc
