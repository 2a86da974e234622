-- The calls of test lists can be asked of both programs.
use Rattle.std.proofs.Common.{◌≡◌, ℕ, zero, suc, ◌+◌, ◌<◌, ◌≤◌, Bool, true, ◌&&◌, List, [], ◌∷◌, map, length, refl, ap, sym, ◌∙◌, subst, arith, inl, inr}
use Rattle.std.specs.Fmt.{decimal}
use Rattle.std.proofs.lemmas.Bool.{and_from}
use Rattle.mig_schema.specs.declared.jobs.Job.{Job}
use Rattle.mig_schema.specs.declared.programs.Body.{Body}
use Rattle.mig_schema.specs.declared.programs.Body.TheVariants as body
use Rattle.mig_schema.specs.declared.programs.Function.{Function}
use Rattle.mig_schema.specs.declared.programs.Param.{Param}
use Rattle.mig_schema.specs.declared.programs.Program.{Program}
use Rattle.mig_schema.specs.declared.tables.Kind.{Kind}
use Rattle.mig_schema.specs.declared.tables.Kind.TheVariants as kind
use Rattle.mig_schema.specs.declared.tables.Schema.{Schema}
use Rattle.mig_schema.specs.Within.{IsProgramWithin, IsWithin}
use Rattle.mig_listing.specs.Listing.{IsIn}
use Rattle.mig_meaning.specs.Calls.{fit}
use Rattle.mig_meaning.specs.Functions.{SameSort}
use Rattle.mig_meaning.specs.Lists.{Each}
use Rattle.mig_meaning.specs.Run.{function_at, no_function}
use Rattle.mig_meaning.specs.Values.{of_kind}
use Rattle.mig_meaning.proofs.Within.{each-get}
use Rattle.mig_storage.specs.Layout.{IsShort}
use Rattle.mig_store.specs.Runs.{is_query}
use Rattle.mig_store.proofs.Callable.{each-weakly}
use Rattle.mig_failing.specs.Made.{invocations, test_calls}
use Rattle.mig_failing.specs.Playing.{CanBeAsked, IsAsked}
use Rattle.mig_failing.specs.Tests.{TestCall, IsTestCall, argument, arguments, call_of, is_no_int}
use Rattle.mig_failing.proofs.Listed.{listed_calls}
use Rattle.mig_failing.proofs.Made.{one_digit}

-- ---- arguments
argument_fits : (v : ℕ) (no_int : Bool) (j : ℕ) (k : Kind) → of_kind k (argument v no_int j k) ≡ true
argument_fits zero no_int j kind.Int = refl
argument_fits zero no_int j kind.Text = refl
argument_fits zero no_int j kind.Key = refl
argument_fits (suc zero) no_int j kind.Int = refl
argument_fits (suc zero) no_int j kind.Text = refl
argument_fits (suc zero) no_int j kind.Key = refl
argument_fits (suc (suc n)) no_int j kind.Int = refl
argument_fits (suc (suc n)) no_int j kind.Text = refl
argument_fits (suc (suc n)) no_int j kind.Key = refl

arguments_fit : (v : ℕ) (no_int : Bool) (j : ℕ) (ps : List Param) → fit ps (arguments v no_int j ps) ≡ true
arguments_fit v no_int j [] = refl
arguments_fit v no_int j (p ∷ ps) = and_from (of_kind p.kind (argument v no_int j p.kind)) (fit ps (arguments v (no_int && is_no_int p.kind) (j + 1) ps)) (argument_fits v no_int j p.kind) (arguments_fit v (no_int && is_no_int p.kind) (j + 1) ps)

argument_short : (v : ℕ) (no_int : Bool) (j : ℕ) (k : Kind) → j < 10 → IsShort (argument v no_int j k)
argument_short zero no_int j kind.Int h = tt
argument_short zero no_int j kind.Text h = omega arith
argument_short zero no_int j kind.Key h = tt
argument_short (suc zero) no_int j kind.Int h = tt
argument_short (suc zero) no_int j kind.Text h = omega arith
argument_short (suc zero) no_int j kind.Key h = tt
argument_short (suc (suc n)) no_int j kind.Int h = tt
argument_short (suc (suc n)) no_int j kind.Text h = let e : length (decimal j) ≡ 1 = ap length (one_digit j h) in omega (arith, e)
argument_short (suc (suc n)) no_int j kind.Key h = tt

arguments_short : (v : ℕ) (no_int : Bool) (j : ℕ) (ps : List Param) → j + length ps < 10 → Each IsShort (arguments v no_int j ps)
arguments_short v no_int j [] h = tt
arguments_short v no_int j (p ∷ ps) h = (argument_short v no_int j p.kind (omega (arith, h)), arguments_short v (no_int && is_no_int p.kind) (j + 1) ps (omega (arith, h)))

-- ---- calls
few_params : (p : Program) (n : ℕ) → IsProgramWithin p → length (function_at p n).params ≤ 8
few_params p n w = each-get (λ (f : Function). length f.params ≤ 8) p.functions n no_function (each-weakly IsWithin (λ (f : Function). length f.params ≤ 8) (λ f h. h.params) p.functions w.each) (omega arith)

sort_as : (schema schema' : Schema) (a b : Body) → SameSort schema schema' a b → is_query a ≡ is_query b
sort_as schema schema' (body.Update a) (body.Update b) h = refl
sort_as schema schema' (body.Query a) (body.Query b) h = refl
sort_as schema schema' (body.Update a) (body.Query b) h = absurd h
sort_as schema schema' (body.Query a) (body.Update b) h = absurd h

asked_call : (job : Job) (p : Program) (query : Bool) (c : TestCall) → CanBeAsked job p → IsTestCall job.program query c → IsAsked query job p (call_of job.program c)
asked_call job p query c can h =
    let f = function_at job.program c.function in
    let same = can.functions.each c.function h.function in
    let few = few_params job.program c.function can.within in
    record {
      old = record { named = h.function; args = arguments_fit c.variant true 1 f.params };
      new = record {
        named = subst (λ n. c.function < n) can.functions.count h.function;
        args = subst (λ ps. fit ps (arguments c.variant true 1 f.params) ≡ true) same.params (arguments_fit c.variant true 1 f.params);
      };
      short = arguments_short c.variant true 1 f.params (omega (arith, few));
      sort = h.sort;
      sort_new = sym (sort_as job.source job.target f.body (function_at p c.function).body same.sort) ∙ h.sort;
    }

each_mapped : {X Y : Type 0} (P : Y → Type 0) (f : X → Y) (xs : List X) → ((x : X) → IsIn x xs → P (f x)) → Each P (map f xs)
each_mapped P f [] h = tt
each_mapped P f (x ∷ xs) h = (h x (inl refl), each_mapped P f xs (λ y i. h y (inr i)))

pub all_asked : (job : Job) (p : Program) (query : Bool) → CanBeAsked job p → Each (IsAsked query job p) (invocations job.program query)
all_asked job p query can = each_mapped (IsAsked query job p) (call_of job.program) (test_calls job.program query) (λ c i. asked_call job p query c can ((listed_calls job.program query).holds c i))

-- a function's parameters are few
pub few_each : (p : Program) → IsProgramWithin p → Each (λ (f : Function). length f.params ≤ 8) p.functions
few_each p w = each-weakly IsWithin (λ (f : Function). length f.params ≤ 8) (λ f h. h.params) p.functions w.each
