-- What one more call of a run makes of the told state and of the answers.
use Rattle.std.proofs.Common.{◌≡◌, ℕ, suc, ◌+◌, ◌*◌, ◌<◌, Bool, true, false, cond, List, [], ◌∷◌, ◌++◌, get_or, length, map, take, drop, Option, Some, None, option_map, Result, Ok, Err, IfOk, OnErr, refl, sym, ap, ap₂, ◌∙◌, subst, arith}
use Rattle.std.proofs.lemmas.List.{append_assoc, drop_more, get_or_read_under, map-append}
use Rattle.mig_schema.specs.declared.tables.Schema.{Schema}
use Rattle.mig_schema.specs.declared.programs.Body.{Body}
use Rattle.mig_schema.specs.declared.programs.Body.TheVariants as body
use Rattle.mig_schema.specs.declared.programs.Function.{Function}
use Rattle.mig_schema.specs.declared.programs.Program.{Program}
use Rattle.mig_schema.specs.declared.values.Value.{Value}
use Rattle.mig_meaning.specs.declared.states.State.{State}
use Rattle.mig_meaning.specs.declared.calling.Invocation.{Invocation}
use Rattle.mig_meaning.specs.declared.calling.Reply.{Reply}
use Rattle.mig_meaning.specs.declared.calling.Reply.TheVariants.{Done, Rows}
use Rattle.mig_meaning.specs.Run.{Outcome, function_at, no_function}
use Rattle.mig_meaning.specs.Told.{reply_told}
use Rattle.mig_calls.specs.Calling.{IsReplyOf}
use Rattle.mig_store.specs.declared.answers.Answered.{Answered}
use Rattle.mig_store.specs.Runs.{Told, answered_by, answers_of, is_query, query_calls, state_after}
use Rattle.mig_store.specs.Told.{answered_told, place_told}
use Rattle.mig_store.proofs.RunLemmas.{call_at, run_from, run-more, state-more}

pub err-holds : {T E : Type 0} (r : Result T E) (P : Type 0) → P → OnErr r P
err-holds (Ok x) P h = tt
err-holds (Err e) P h = h

pub function-is : (p : Program) (n : ℕ) (f : Function) → n < length p.functions → f ≡ get_or p.functions n f → f ≡ function_at p n
function-is p n f l e = get_or_read_under p.functions n (length p.functions) f no_function e l refl

map-const : (f : State → State) (a : State) (o : Option State) → option_map f (option_map (λ s. a) o) ≡ option_map (λ s. f a) o
map-const f a None = refl
map-const f a (Some s) = refl

-- the told state after one more call
pub told-more : (schema : Schema) (p : Program) (calls : List Invocation) (k n : ℕ) (i : Invocation) (old now next : Option State) → k < length calls → i ≡ get_or calls k i → n ≡ k → now ≡ option_map (λ s. state_after schema p (take k calls)) old → next ≡ option_map (λ s. (call_at schema p s n i).state) now → next ≡ option_map (λ s. state_after schema p (take (k + 1) calls)) old
told-more schema p calls k n i old now next l is same at step =
    let s = state_after schema p (take k calls) in
    let one : state_after schema p (take (k + 1) calls) ≡ (call_at schema p s n i).state =
    state-more schema p calls k i l ∙ ap₂ (λ m j. (call_at schema p s m j).state) (sym same) (sym is) in
    step ∙ (ap (option_map (λ s. (call_at schema p s n i).state)) at ∙ (map-const (λ s. (call_at schema p s n i).state) s old ∙ ap (λ t. option_map (λ (r : State). t) old) (sym one)))

-- ---- which calls are queries
abbrev place_in : Told → ℕ × ℕ
place_in t = (t.call, t.function)

places-told : (xs : List Answered) → map place_told xs ≡ map place_in (map answered_told xs)
places-told [] = refl
places-told (x ∷ xs) = ap (λ ys. place_told x ∷ ys) (places-told xs)

place-of : (b : Body) (r : Reply) (n f : ℕ) → IsReplyOf b r → map place_in (answered_by n f (reply_told r)) ≡ cond (is_query b) ((n, f) ∷ []) []
place-of (body.Update stmts) Done n f h = refl
place-of (body.Update stmts) (Rows a) n f h = absurd h
place-of (body.Query q) Done n f h = absurd h
place-of (body.Query q) (Rows a) n f h = refl

pub queries-more : (p : Program) (calls : List Invocation) (k n : ℕ) (i : Invocation) (r : Reply) (xs ys : List Answered) → k < length calls → i ≡ get_or calls k i → n ≡ k → IsReplyOf (function_at p i.function).body r → map answered_told ys ≡ map answered_told xs ++ answered_by n i.function (reply_told r) → map place_told xs ++ query_calls p k (drop k calls) ≡ query_calls p 0 calls → map place_told ys ++ query_calls p (k + 1) (drop (k + 1) calls) ≡ query_calls p 0 calls
queries-more p calls k n i r xs ys l is same kind pushed sofar =
    let b = (function_at p i.function).body in
    let rest = query_calls p (k + 1) (drop (k + 1) calls) in
    let split : drop k calls ≡ i ∷ drop (k + 1) calls = drop_more calls k i l ∙ ap (λ x. x ∷ drop (k + 1) calls) (sym is) in
    let more : map place_told ys ≡ map place_told xs ++ cond (is_query b) ((k, i.function) ∷ []) [] =
    places-told ys
    ∙ (ap (map place_in) pushed
    ∙ (map-append place_in (map answered_told xs) (answered_by n i.function (reply_told r))
    ∙ (ap₂ (λ a c. a ++ c) (sym (places-told xs)) (place-of b r n i.function kind)
    ∙ ap (λ m. map place_told xs ++ cond (is_query b) ((m, i.function) ∷ []) []) same))) in
    ap (λ zs. zs ++ rest) more
    ∙ (append_assoc (map place_told xs) (cond (is_query b) ((k, i.function) ∷ []) []) rest
    ∙ (ap (λ zs. map place_told xs ++ query_calls p k zs) (sym split) ∙ sofar))

-- ---- what they answer
pub answers-more : (schema : Schema) (p : Program) (calls : List Invocation) (k n : ℕ) (i : Invocation) (r : Reply) (xs ys : List Answered) (all : List Told) → k < length calls → i ≡ get_or calls k i → n ≡ k → reply_told r ≡ (call_at schema p (state_after schema p (take k calls)) n i).reply → map answered_told ys ≡ map answered_told xs ++ answered_by n i.function (reply_told r) → map answered_told xs ++ answers_of k (drop k calls) (run_from schema p (state_after schema p (take k calls)) k (drop k calls)) ≡ all → map answered_told ys ++ answers_of (k + 1) (drop (k + 1) calls) (run_from schema p (state_after schema p (take (k + 1) calls)) (k + 1) (drop (k + 1) calls)) ≡ all
answers-more schema p calls k n i r xs ys all l is same told pushed sofar =
    let s = state_after schema p (take k calls) in
    let rest = drop (k + 1) calls in
    let split : drop k calls ≡ i ∷ rest = drop_more calls k i l ∙ ap (λ x. x ∷ rest) (sym is) in
    let next : state_after schema p (take (k + 1) calls) ≡ (call_at schema p s k i).state = state-more schema p calls k i l ∙ ap (λ j. (call_at schema p s k j).state) (sym is) in
    let later = answers_of (k + 1) rest (run_from schema p (call_at schema p s k i).state (k + 1) rest) in
    let one : answers_of k (drop k calls) (run_from schema p s k (drop k calls)) ≡ answered_by k i.function (call_at schema p s k i).reply ++ later =
    ap (λ zs. answers_of k zs (run_from schema p s k zs)) split ∙ ap (answers_of k (i ∷ rest)) (run-more schema p s k i rest) in
    let reply : answered_by n i.function (reply_told r) ≡ answered_by k i.function (call_at schema p s k i).reply =
    ap (answered_by n i.function) told ∙ ap (λ m. answered_by m i.function (call_at schema p s m i).reply) same in
    ap₂ (λ zs t. zs ++ answers_of (k + 1) rest (run_from schema p t (k + 1) rest)) (pushed ∙ ap (λ b. map answered_told xs ++ b) reply) next
    ∙ (append_assoc (map answered_told xs) (answered_by k i.function (call_at schema p s k i).reply) later
    ∙ (ap (λ zs. map answered_told xs ++ zs) (sym one) ∙ sofar))

-- what is told where something was told at entry
pub told-is : (a : State) (old now : Option State) (s : State) → now ≡ option_map (λ r. a) old → old ≡ Some s → now ≡ Some a
told-is a old now s e o = e ∙ ap (option_map (λ (r : State). a)) o
