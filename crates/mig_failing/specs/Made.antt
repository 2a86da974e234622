-- The test lists as they are gone through.
use Rattle.std.specs.Prelude.{ℕ, zero, suc, ◌+◌, Bool, true, false, cond, not, List, [], ◌∷◌, ◌++◌, map}
use Rattle.std.specs.List.{flat_map}
use Rattle.mig_schema.specs.declared.programs.Function.{Function}
use Rattle.mig_schema.specs.declared.programs.Program.{Program}
use Rattle.mig_listing.specs.Choices.{numbers}
use Rattle.mig_meaning.specs.declared.calling.Invocation.{Invocation}
use Rattle.mig_store.specs.Runs.{is_query}
use Rattle.mig_failing.specs.Tests.{TestCall, call_of, arguments}

-- whether both are true, or none is
abbrev pub alike : Bool → Bool → Bool
alike true b = b
alike false b = not b

-- a call of a function in a variant
abbrev pub test_call : (f v : ℕ) → TestCall
test_call f v = record { function = f; variant = v }

-- the three calls of a function
abbrev pub calls_by : ℕ → List TestCall
calls_by f = map (test_call f) (numbers 3)

-- those of the queries, or of the updates, among these functions, which are numbered from n on
abbrev pub calls_from : (query : Bool) → (n : ℕ) → List Function → List TestCall
calls_from query n [] = []
calls_from query n (f ∷ fs) = cond (alike (is_query f.body) query) (calls_by n) [] ++ calls_from query (n + 1) fs

-- those of a program
abbrev pub test_calls : Program → Bool → List TestCall
test_calls p query = calls_from query 0 p.functions

-- the same as calls of the program
abbrev pub invocations : Program → Bool → List Invocation
invocations p query = map (call_of p) (test_calls p query)

-- a call of a function in a variant, as it is made
abbrev pub made_call : (number : ℕ) → Function → (variant : ℕ) → Invocation
made_call number f v = record { function = number; args = record { values = arguments v true 1 f.params } }

-- its calls in the variants below n
abbrev pub made_calls : (number : ℕ) → Function → (n : ℕ) → List Invocation
made_calls number f n = map (made_call number f) (numbers n)

-- the lists that begin so, with n further updates and then a query
abbrev pub below : {C : Type 0} → (updates queries : List C) → ℕ → List C → List (List C)
below us qs zero before = map (λ q. before ++ q ∷ []) qs
below us qs (suc n) before = flat_map (λ u. below us qs n (before ++ u ∷ [])) us

-- those with 0, 1, 2 and 3 updates
abbrev pub all_lists : {C : Type 0} → (updates queries : List C) → List (List C)
all_lists us qs = flat_map (λ n. below us qs n []) (numbers 4)
