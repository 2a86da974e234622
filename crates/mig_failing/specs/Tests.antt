-- Test lists: 0 to 3 calls of updates and then one call of a query, with arguments of three variants.
use Rattle.std.specs.Prelude.{◌≡◌, ℕ, zero, suc, ◌+◌, ◌<◌, Bool, true, false, cond, ◌&&◌, List, [], ◌∷◌, ◌++◌, length, map, pos}
use Rattle.std.specs.Fmt.{decimal}
use Rattle.mig_schema.specs.declared.programs.Param.{Param}
use Rattle.mig_schema.specs.declared.programs.Program.{Program}
use Rattle.mig_schema.specs.declared.tables.Kind.{Kind}
use Rattle.mig_schema.specs.declared.tables.Kind.TheVariants as kind
use Rattle.mig_schema.specs.declared.values.Value.{Value}
use Rattle.mig_schema.specs.declared.values.Value.TheVariants as value
use Rattle.mig_listing.specs.Listing.{IsIn}
use Rattle.mig_listing.specs.Orders.{Less, Lex, FirstBy}
use Rattle.mig_meaning.specs.declared.calling.Invocation.{Invocation}
use Rattle.mig_meaning.specs.Run.{function_at}
use Rattle.mig_store.specs.Runs.{is_query}

-- a test call: a function, and which of three variants of arguments
pub record TestCall : Type 0 where
  pub function : ℕ
  pub variant : ℕ

-- Variant 0 gives 0 and `a`, variant 1 gives 1 and `b`. Variant 2 gives the first int 0, and to every other parameter at position j the int j or the text `t` followed by j.
abbrev pub argument : (variant : ℕ) → (no_int : Bool) → (j : ℕ) → Kind → Value
argument zero no_int j kind.Int = value.Int (pos 0)
argument zero no_int j kind.Text = value.Text (97 ∷ [])
argument zero no_int j kind.Key = value.Key 0
argument (suc zero) no_int j kind.Int = value.Int (pos 1)
argument (suc zero) no_int j kind.Text = value.Text (98 ∷ [])
argument (suc zero) no_int j kind.Key = value.Key 0
argument (suc (suc n)) no_int j kind.Int = value.Int (pos (cond no_int 0 j))
argument (suc (suc n)) no_int j kind.Text = value.Text (116 ∷ decimal j)
argument (suc (suc n)) no_int j kind.Key = value.Key 0

-- whether a kind is not that of ints
abbrev pub is_no_int : Kind → Bool
is_no_int kind.Int = false
is_no_int kind.Text = true
is_no_int kind.Key = true

-- the arguments for these parameters, the first of which stands at position j; no_int says whether none before it takes an int
abbrev pub arguments : (variant : ℕ) → (no_int : Bool) → (j : ℕ) → List Param → List Value
arguments v no_int j [] = []
arguments v no_int j (p ∷ ps) = argument v no_int j p.kind ∷ arguments v (no_int && is_no_int p.kind) (j + 1) ps

-- a test call as a call of a program
abbrev pub call_of : Program → TestCall → Invocation
call_of p c = record { function = c.function; args = record { values = arguments c.variant true 1 (function_at p c.function).params } }

-- a test list as calls of a program
abbrev pub calls_of : Program → List TestCall → List Invocation
calls_of p l = map (call_of p) l

-- a call of a function of the program, a query or an update, in a variant from 0 to 2
pub record IsTestCall (p : Program) (query : Bool) (c : TestCall) : Type 0 where
  pub function : c.function < length p.functions
  pub sort : is_query (function_at p c.function).body ≡ query
  pub variant : c.variant < 3

-- 0 to 3 updates and then one query
pub record IsTestList (p : Program) (calls : List TestCall) : Type 0 where
  pub updates : List TestCall
  pub query : TestCall
  pub are : calls ≡ updates ++ query ∷ []
  pub few : length updates < 4
  pub each : (c : TestCall) → IsIn c updates → IsTestCall p false c
  pub last : IsTestCall p true query

-- by function, then by variant
abbrev pub CallBefore : TestCall → TestCall → Type 0
CallBefore = FirstBy (λ (c : TestCall). c.function) Less (λ c d. c.variant < d.variant)

-- by number of updates, then by calls
abbrev pub TestBefore : List TestCall → List TestCall → Type 0
TestBefore = FirstBy (λ (l : List TestCall). length l) Less (Lex CallBefore)
