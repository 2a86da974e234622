-- Two programs that are not equivalent: one loses a row, one writes another key of its call.
use Rattle.std.proofs.Common.{◌≡◌, ℕ, ◌<◌, Bool, true, not, ◌&&◌, List, [], ◌∷◌, refl, arith}
use Rattle.std.specs.Prelude.{◌^◌, nat_lt}
use Rattle.std.specs.List.{list_all}
use Rattle.std.proofs.lemmas.Bool.{and_parts, ltb-true, not-true}
use Rattle.mig_schema.specs.declared.values.Value.TheVariants as value
use Rattle.mig_meaning.specs.declared.calling.Invocation.{Invocation}
use Rattle.mig_meaning.specs.Lists.{Each, has, AllDifferent}
use Rattle.mig_meaning.specs.Calls.{IsSupply, AreCalls}
use Rattle.mig_meaning.specs.Losing.{program, adds, LostRow, OtherKey}

-- ---- a supply for two calls

abbrev are_different : List ℕ → Bool
are_different [] = true
are_different (k ∷ ks) = not (has ks k) && are_different ks

all-different : (ks : List ℕ) → are_different ks ≡ true → AllDifferent ks
all-different [] h = tt
all-different (k ∷ ks) h = let p = and_parts (not (has ks k)) (are_different ks) h in (not-true (has ks k) p.0, all-different ks p.1)

all-small : (ks : List ℕ) → list_all (λ k. nat_lt k (2 ^ 64)) ks ≡ true → Each (λ k. k < 2 ^ 64) ks
all-small [] h = tt
all-small (k ∷ ks) h = let p = and_parts (nat_lt k (2 ^ 64)) (list_all (λ k. nat_lt k (2 ^ 64)) ks) h in (ltb-true k (2 ^ 64) p.0, all-small ks p.1)

abbrev supply : List ℕ
supply = 0 ∷ 1 ∷ 2 ∷ 3 ∷ 4 ∷ 5 ∷ 6 ∷ 7 ∷ 8 ∷ 9 ∷ 10 ∷ 11 ∷ 12 ∷ 13 ∷ 14 ∷ 15 ∷ 16 ∷ 17 ∷ 18 ∷ 19 ∷ 20 ∷ 21 ∷ 22 ∷ 23 ∷ 24 ∷ 25 ∷ 26 ∷ 27 ∷ 28 ∷ 29 ∷ 30 ∷ 31 ∷ []

is-supply : IsSupply 2 supply
is-supply = record { enough = omega arith; different = all-different supply refl; small = all-small supply refl }

abbrev call : ℕ → Invocation
call n = record { function = n; args = record { values = [] } }

calls : AreCalls (program (adds 0)) (call 0 ∷ call 1 ∷ [])
calls = (record { named = omega arith; args = refl }, (record { named = omega arith; args = refl }, tt))

-- a program that adds no row is not equivalent to one that adds a row
pub lost-row : LostRow
lost-row e = let s = (e.by (call 0 ∷ call 1 ∷ []) supply supply calls is-supply is-supply).2.1.by (value.Key 0 ∷ []) in cc

-- nor is one that writes another key of the call
pub other-key : OtherKey
other-key e = let s = (e.by (call 0 ∷ call 1 ∷ []) supply supply calls is-supply is-supply).2.1.by (value.Key 0 ∷ []) in cc
