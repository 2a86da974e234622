-- A program with a failing list is not equivalent to the job's.
use Rattle.std.proofs.Common.{◌≡◌, ℕ, ◌+◌, ◌≤◌, Bool, true, false, ◌&&◌, List, [], ◌∷◌, ◌++◌, map, take, length, refl, ap, sym, subst, inl, inr, arith, suc, zero, length-append}
use Rattle.std.specs.Prelude.{Some}
use Rattle.std.proofs.lemmas.Bool.{and_from}
use Rattle.std.proofs.lemmas.List.{length-map}
use Rattle.mig_schema.specs.declared.jobs.Job.{Job}
use Rattle.mig_schema.specs.declared.programs.Param.{Param}
use Rattle.mig_schema.specs.declared.programs.Program.{Program}
use Rattle.mig_schema.specs.declared.tables.Kind.{Kind}
use Rattle.mig_schema.specs.declared.tables.Kind.TheVariants as kind
use Rattle.mig_listing.specs.Listing.{IsIn}
use Rattle.mig_listing.proofs.Members.{in_append, in_append_right, in_map}
use Rattle.mig_meaning.specs.declared.calling.Calls.{Calls}
use Rattle.mig_meaning.specs.declared.calling.Invocation.{Invocation}
use Rattle.mig_meaning.specs.declared.relating.Invariant.{Invariant}
use Rattle.mig_meaning.specs.Calls.{AreCalls, IsCall, fit}
use Rattle.mig_meaning.specs.Equivalent.{AnswersAlike}
use Rattle.mig_meaning.specs.Run.{function_at}
use Rattle.mig_meaning.specs.Values.{of_kind}
use Rattle.mig_failing.specs.Failing.{IsFailing}
use Rattle.mig_failing.specs.Tests.{TestCall, IsTestCall, IsTestList, argument, arguments, call_of, calls_of, is_no_int}
use Rattle.mig_failing.proofs.Equivalent.{alike_agree}

-- ---- test calls are calls

argument_fits : (v : ℕ) (no_int : Bool) (j : ℕ) (k : Kind) → of_kind k (argument v no_int j k) ≡ true
argument_fits zero no_int j kind.Int = refl
argument_fits zero no_int j kind.Text = refl
argument_fits zero no_int j kind.Key = refl
argument_fits (suc zero) no_int j kind.Int = refl
argument_fits (suc zero) no_int j kind.Text = refl
argument_fits (suc zero) no_int j kind.Key = refl
argument_fits (suc (suc n)) no_int j kind.Int = refl
argument_fits (suc (suc n)) no_int j kind.Text = refl
argument_fits (suc (suc n)) no_int j kind.Key = refl

arguments_fit : (v : ℕ) (no_int : Bool) (j : ℕ) (ps : List Param) → fit ps (arguments v no_int j ps) ≡ true
arguments_fit v no_int j [] = refl
arguments_fit v no_int j (p ∷ ps) = and_from (of_kind p.kind (argument v no_int j p.kind)) (fit ps (arguments v (no_int && is_no_int p.kind) (j + 1) ps)) (argument_fits v no_int j p.kind) (arguments_fit v (no_int && is_no_int p.kind) (j + 1) ps)

test_call : (p : Program) (query : Bool) (c : TestCall) → IsTestCall p query c → IsCall p (call_of p c)
test_call p query c h = record { named = h.function; args = arguments_fit c.variant true 1 (function_at p c.function).params }

each_call : (p : Program) (l : List TestCall) → ((c : TestCall) → IsIn c l → IsCall p (call_of p c)) → AreCalls p (calls_of p l)
each_call p [] h = tt
each_call p (c ∷ l) h = (h c (inl refl), each_call p l (λ d i. h d (inr i)))

in_list : (p : Program) (l : List TestCall) (t : IsTestList p l) (c : TestCall) → IsIn c (t.updates ++ t.query ∷ []) → IsCall p (call_of p c)
in_list p l t c i = elim (in_append t.updates (t.query ∷ []) c i) [
  | inl j ↦ test_call p false c (t.each c j)
  | inr j ↦ elim j [
    | inl e ↦ subst (λ d. IsCall p (call_of p d)) (sym e) (test_call p true t.query t.last)
    | inr none ↦ absurd none
  ]
]

list_calls : (p : Program) (l : List TestCall) → IsTestList p l → AreCalls p (calls_of p l)
list_calls p l t = each_call p l (λ c i. in_list p l t c (subst (IsIn c) t.are i))

list_few : (p : Program) (l : List TestCall) → IsTestList p l → length (calls_of p l) ≤ 100000
list_few p l t =
    let e : length l ≡ length (t.updates ++ t.query ∷ []) = ap length t.are in
    omega (arith, e, t.few, length-append t.updates (t.query ∷ []), length-map l (call_of p))

-- ---- lists

from_take : {A : Type 0} (n : ℕ) (xs : List A) (x : A) → IsIn x (take n xs) → IsIn x xs
from_take zero xs x i = absurd i
from_take (suc n) [] x i = absurd i
from_take (suc n) (y ∷ xs) x i = elim i [ inl e ↦ inl e | inr j ↦ inr (from_take n xs x j) ]

pub refuted_differs : (job : Job) (p : Program) (tests : ℕ) (calls : Calls) (invs : List Invariant) → IsFailing job p tests (Some calls) → AnswersAlike job.source job.target job.program p invs → ⊥
refuted_differs job p tests calls invs f alike =
    let lists : List (List Invocation) = map (calls_of job.program) f.lists in
    let there : IsIn calls.calls (take tests lists) = subst (IsIn calls.calls) (sym f.first.are) (in_append_right f.first.before (calls.calls ∷ f.first.after) calls.calls (inl refl)) in
    let by = in_map (calls_of job.program) f.lists calls.calls (from_take tests lists calls.calls there) in
    let is : IsTestList job.program by.0 = f.all.holds by.0 by.1 in
    f.first.fails (alike_agree job p invs calls.calls alike (subst (AreCalls job.program) (sym by.2) (list_calls job.program by.0 is)) (subst (λ l. length l ≤ 100000) (sym by.2) (list_few job.program by.0 is)))
