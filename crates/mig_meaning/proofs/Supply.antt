-- The keys of a supply.
use Rattle.std.proofs.Common.{◌≡◌, ℕ, zero, suc, ◌-◌, ◌*◌, ◌≤◌, Bool, true, false, ◌||◌, List, [], ◌∷◌, map, take, drop, length, refl, arith}
use Rattle.std.specs.Prelude.{◌==◌}
use Rattle.std.proofs.lemmas.List.{length-take-le, length-drop}
use Rattle.mig_schema.specs.declared.values.Value.{Value}
use Rattle.mig_schema.specs.declared.values.Value.TheVariants as value
use Rattle.mig_meaning.specs.declared.states.State.{State}
use Rattle.mig_meaning.specs.Lists.{Each, has, AllDifferent}
use Rattle.mig_meaning.specs.Calls.{IsSupply}
use Rattle.mig_meaning.specs.Keys.{EachIn, EachValue, IsNoKey}
use Rattle.mig_meaning.proofs.Within.{each-weaker, IsPlain}

pub or_false : (a b : Bool) → (a || b) ≡ false → (a ≡ false) × (b ≡ false)
or_false true b h = cc
or_false false b h = (refl, h)

both_false : (a b : Bool) → a ≡ false → b ≡ false → (a || b) ≡ false
both_false true b h k = cc
both_false false b h k = k

pub has-drop : (n : ℕ) (ks : List ℕ) (k : ℕ) → has ks k ≡ false → has (drop n ks) k ≡ false
has-drop zero ks k h = h
has-drop (suc n) [] k h = h
has-drop (suc n) (l ∷ ks) k h = has-drop n ks k (or_false (l == k) (has ks k) h).1

pub has-take : (n : ℕ) (ks : List ℕ) (k : ℕ) → has ks k ≡ false → has (take n ks) k ≡ false
has-take zero ks k h = refl
has-take (suc n) [] k h = h
has-take (suc n) (l ∷ ks) k h = let e = or_false (l == k) (has ks k) h in both_false (l == k) (has (take n ks) k) e.0 (has-take n ks k e.1)

pub different-drop : (n : ℕ) (ks : List ℕ) → AllDifferent ks → AllDifferent (drop n ks)
different-drop zero ks h = h
different-drop (suc n) [] h = h
different-drop (suc n) (l ∷ ks) h = different-drop n ks h.1

pub different-take : (n : ℕ) (ks : List ℕ) → AllDifferent ks → AllDifferent (take n ks)
different-take zero ks h = tt
different-take (suc n) [] h = h
different-take (suc n) (l ∷ ks) h = (has-take n ks l h.0, different-take n ks h.1)

-- the first n keys are none of the others
pub parts-differ : (n : ℕ) (ks : List ℕ) → AllDifferent ks → Each (λ k. has (drop n ks) k ≡ false) (take n ks)
parts-differ zero ks h = tt
parts-differ (suc n) [] h = tt
parts-differ (suc n) (l ∷ ks) h = (has-drop n ks l h.0, parts-differ n ks h.1)

pub each-drop : {X : Type 0} (P : X → Type 0) (n : ℕ) (xs : List X) → Each P xs → Each P (drop n xs)
each-drop P zero xs h = h
each-drop P (suc n) [] h = h
each-drop P (suc n) (x ∷ xs) h = each-drop P n xs h.1

pub no_keys-plain : (ks : List ℕ) → IsPlain (IsNoKey ks)
no_keys-plain ks = record { ints = λ i. tt; texts = λ t. tt }

pub no_key-drop : (n : ℕ) (ks : List ℕ) (v : Value) → IsNoKey ks v → IsNoKey (drop n ks) v
no_key-drop n ks (value.Int i) h = tt
no_key-drop n ks (value.Text t) h = tt
no_key-drop n ks (value.Key k) h = has-drop n ks k h

pub no_key-take : (n : ℕ) (ks : List ℕ) (v : Value) → IsNoKey ks v → IsNoKey (take n ks) v
no_key-take n ks (value.Int i) h = tt
no_key-take n ks (value.Text t) h = tt
no_key-take n ks (value.Key k) h = has-take n ks k h

-- what holds of each value, weaker
pub state-weaker : (P Q : Value → Type 0) → ((v : Value) → P v → Q v) → (s : State) → EachValue P s → EachValue Q s
state-weaker P Q h s a =
    each-weaker (Each (EachIn P)) (Each (EachIn Q)) (λ rows b. each-weaker (EachIn P) (EachIn Q) (λ p c. each-weaker P Q h p.row.values c) rows b) s.tables a

-- the keys of the first call are none of those of the later ones
pub keys-drop : (n : ℕ) (ks : List ℕ) → AllDifferent ks → Each (IsNoKey (drop n ks)) (map value.Key (take n ks))
keys-drop n ks h = go (take n ks) (parts-differ n ks h)
  where
    go : (ls : List ℕ) → Each (λ k. has (drop n ks) k ≡ false) ls → Each (IsNoKey (drop n ks)) (map value.Key ls)
    go [] a = tt
    go (l ∷ ls) a = (a.0, go ls a.1)

pub supply-next : (m : ℕ) (ks : List ℕ) → IsSupply (suc m) ks → IsSupply m (drop 16 ks)
supply-next m ks s = record {
  enough = let e : 16 * m ≤ length ks - 16 = omega (arith, s.enough) in rw (length-drop 16 ks) e;
  different = different-drop 16 ks s.different;
  small = each-drop _ 16 ks s.small;
}

pub supply-sixteen : (m : ℕ) (ks : List ℕ) → IsSupply (suc m) ks → length (take 16 ks) ≡ 16
supply-sixteen m ks s = let e : 16 ≤ length ks = omega (arith, s.enough) in length-take-le 16 ks e
