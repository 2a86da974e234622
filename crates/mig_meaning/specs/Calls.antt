-- Supplies of keys, and calls that are well-formed.
use Rattle.std.specs.Prelude.{ℕ, ◌*◌, ◌≤◌, ◌<◌, ◌^◌, Bool, true, false, ◌&&◌, List, [], ◌∷◌, length, ◌≡◌}
use Rattle.mig_schema.specs.declared.programs.Param.{Param}
use Rattle.mig_schema.specs.declared.programs.Function.{Function}
use Rattle.mig_schema.specs.declared.programs.Program.{Program}
use Rattle.mig_schema.specs.declared.values.Value.{Value}
use Rattle.mig_meaning.specs.declared.calling.Invocation.{Invocation}
use Rattle.mig_meaning.specs.Lists.{AllDifferent, Each}
use Rattle.mig_meaning.specs.Values.{of_kind}
use Rattle.mig_meaning.specs.Conditions.{Given}
use Rattle.mig_meaning.specs.Run.{function_at}

-- a supply for m calls: 16 keys for each, and no key twice
pub record IsSupply (m : ℕ) (ks : List ℕ) : Type 0 where
  pub enough : 16 * m ≤ length ks
  pub different : AllDifferent ks
  pub small : Each (λ k. k < 2 ^ 64) ks

-- whether the arguments have the number and the kinds of the parameters
abbrev pub fit : List Param → List Value → Bool
fit [] [] = true
fit (p ∷ ps) (v ∷ vs) = of_kind p.kind v && fit ps vs
fit _ _ = false

-- a call of a function of the program, with arguments that fit
pub record IsCall (p : Program) (i : Invocation) : Type 0 where
  pub named : i.function < length p.functions
  pub args : fit (function_at p i.function).params i.args.values ≡ true

-- each call is well-formed
abbrev pub AreCalls : Program → List Invocation → Type 0
AreCalls p [] = Unit {0}
AreCalls p (i ∷ is) = IsCall p i × AreCalls p is

-- what a call of a function is given: 16 pairwise different keys, and arguments that fit
pub record IsGivenTo (f : Function) (g : Given) : Type 0 where
  pub sixteen : length g.keys ≡ 16
  pub different : AllDifferent g.keys
  pub args : fit f.params g.args ≡ true
