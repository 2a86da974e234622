-- Calls and lists as they are made, function by function and list by list.
use Rattle.std.proofs.Common.{◌≡◌, ℕ, zero, suc, ◌+◌, ◌<◌, Bool, true, false, cond, List, [], ◌∷◌, ◌++◌, map, length, get_or, refl, ap, ap₂, sym, ◌∙◌, subst, arith}
use Rattle.std.specs.Fmt.{decimal, digits}
use Rattle.std.specs.List.{flat_map}
use Rattle.std.proofs.lemmas.List.{append_assoc, append-nil, length-append, map-append}
use Rattle.mig_schema.specs.declared.programs.Function.{Function}
use Rattle.mig_schema.specs.declared.programs.Program.{Program}
use Rattle.mig_listing.specs.Choices.{numbers}
use Rattle.mig_meaning.specs.declared.calling.Invocation.{Invocation}
use Rattle.mig_meaning.specs.Run.{function_at, no_function}
use Rattle.mig_store.specs.Runs.{is_query}
use Rattle.mig_failing.specs.Made.{alike, calls_by, calls_from, invocations, made_calls, below, all_lists}
use Rattle.mig_failing.specs.Tests.{call_of}

-- below 10 a number is written by one digit
pub one_digit : (j : ℕ) → j < 10 → decimal j ≡ (48 + j) ∷ []
unfolding digits
one_digit zero h = refl
one_digit (suc zero) h = refl
one_digit (suc (suc zero)) h = refl
one_digit (suc (suc (suc zero))) h = refl
one_digit (suc (suc (suc (suc zero)))) h = refl
one_digit (suc (suc (suc (suc (suc zero))))) h = refl
one_digit (suc (suc (suc (suc (suc (suc zero)))))) h = refl
one_digit (suc (suc (suc (suc (suc (suc (suc zero))))))) h = refl
one_digit (suc (suc (suc (suc (suc (suc (suc (suc zero)))))))) h = refl
one_digit (suc (suc (suc (suc (suc (suc (suc (suc (suc zero))))))))) h = refl
one_digit (suc (suc (suc (suc (suc (suc (suc (suc (suc (suc j)))))))))) h = absurd (omega (arith, h))

-- ---- calls

-- the calls of the queries, or of the updates, among these functions, as they are made
abbrev pub made_from : (query : Bool) → (n : ℕ) → List Function → List Invocation
made_from query n [] = []
made_from query n (f ∷ fs) = cond (alike (is_query f.body) query) (made_calls n f 3) [] ++ made_from query (n + 1) fs

-- one more function
pub made_more : (query : Bool) (n : ℕ) (fs : List Function) (f : Function) → made_from query n (fs ++ f ∷ []) ≡ made_from query n fs ++ cond (alike (is_query f.body) query) (made_calls (n + length fs) f 3) []
made_more query n [] f = let e : n ≡ n + 0 = omega arith in append-nil (cond (alike (is_query f.body) query) (made_calls n f 3) []) ∙ ap (λ m. cond (alike (is_query f.body) query) (made_calls m f 3) []) e
made_more query n (g ∷ fs) f =
    let e : n + 1 + length fs ≡ n + suc (length fs) = omega arith in
    let here = cond (alike (is_query g.body) query) (made_calls n g 3) [] in
    ap (λ xs. here ++ xs) (made_more query (n + 1) fs f)
    ∙ (sym (append_assoc here (made_from query (n + 1) fs) (cond (alike (is_query f.body) query) (made_calls (n + 1 + length fs) f 3) []))
    ∙ ap (λ m. (here ++ made_from query (n + 1) fs) ++ cond (alike (is_query f.body) query) (made_calls m f 3) []) e)

-- the calls of function f of a program
three_made : (p : Program) (n : ℕ) (f : Function) → function_at p n ≡ f → map (call_of p) (calls_by n) ≡ made_calls n f 3
three_made p n f e = ap (λ g. made_calls n g 3) e

cond_made : (p : Program) (b : Bool) (n : ℕ) (f : Function) → function_at p n ≡ f → map (call_of p) (cond b (calls_by n) []) ≡ cond b (made_calls n f 3) []
cond_made p true n f e = three_made p n f e
cond_made p false n f e = refl

at_front : (before : List Function) (f : Function) (fs : List Function) → get_or (before ++ f ∷ fs) (length before) no_function ≡ f
at_front [] f fs = refl
at_front (g ∷ before) f fs = at_front before f fs

made_are : (p : Program) (query : Bool) (before fs : List Function) → p.functions ≡ before ++ fs → map (call_of p) (calls_from query (length before) fs) ≡ made_from query (length before) fs
made_are p query before [] e = refl
made_are p query before (f ∷ fs) e =
    let b = alike (is_query f.body) query in
    let n = length before in
    let here : function_at p n ≡ f = ap (λ (xs : List Function). get_or xs n no_function) e ∙ at_front before f fs in
    let next : length (before ++ f ∷ []) ≡ n + 1 = count_more before f in
    let rest : map (call_of p) (calls_from query (n + 1) fs) ≡ made_from query (n + 1) fs = subst (λ m. map (call_of p) (calls_from query m fs) ≡ made_from query m fs) next (made_are p query (before ++ f ∷ []) fs (e ∙ sym (append_assoc before (f ∷ []) fs))) in
    map-append (call_of p) (cond b (calls_by n) []) (calls_from query (n + 1) fs) ∙ ap₂ (λ xs ys. xs ++ ys) (cond_made p b n f here) rest
  where
    count_more : (xs : List Function) (x : Function) → length (xs ++ x ∷ []) ≡ length xs + 1
    count_more xs x = omega (arith, length-append xs (x ∷ []))

-- all of a program
pub invocations_made : (p : Program) (query : Bool) → made_from query 0 p.functions ≡ invocations p query
invocations_made p query = sym (made_are p query [] p.functions refl)

-- ---- lists

map_front : {C D : Type 0} (f : C → D) (before : List C) (qs : List C) → map (map f) (map (λ q. before ++ q ∷ []) qs) ≡ map (λ q. map f before ++ q ∷ []) (map f qs)
map_front f before [] = refl
map_front f before (q ∷ qs) = ap₂ (λ x xs. x ∷ xs) (map-append f before (q ∷ [])) (map_front f before qs)

mapped_each : {C D : Type 0} (f : C → D) (g : C → List (List C)) (h : D → List (List D)) → ((u : C) → map (map f) (g u) ≡ h (f u)) → (vs : List C) → map (map f) (flat_map g vs) ≡ flat_map h (map f vs)
mapped_each f g h e [] = refl
mapped_each f g h e (v ∷ vs) = map-append (map f) (g v) (flat_map g vs) ∙ ap₂ (λ xs ys. xs ++ ys) (e v) (mapped_each f g h e vs)

-- the lists of mapped calls are the mapped lists
pub below_mapped : {C D : Type 0} (f : C → D) (us qs : List C) (n : ℕ) (before : List C) → map (map f) (below us qs n before) ≡ below (map f us) (map f qs) n (map f before)
below_mapped f us qs zero before = map_front f before qs
below_mapped f us qs (suc n) before = mapped_each f (λ u. below us qs n (before ++ u ∷ [])) (λ u. below (map f us) (map f qs) n (map f before ++ u ∷ []))
    (λ u. below_mapped f us qs n (before ++ u ∷ []) ∙ ap (below (map f us) (map f qs) n) (map-append f before (u ∷ []))) us

mapped_parts : {C D : Type 0} (f : C → D) (us qs : List C) (ns : List ℕ) → map (map f) (flat_map (λ n. below us qs n []) ns) ≡ flat_map (λ n. below (map f us) (map f qs) n []) ns
mapped_parts f us qs [] = refl
mapped_parts f us qs (n ∷ ns) = map-append (map f) (below us qs n []) (flat_map (λ n. below us qs n []) ns) ∙ ap₂ (λ xs ys. xs ++ ys) (below_mapped f us qs n []) (mapped_parts f us qs ns)

pub all_mapped : {C D : Type 0} (f : C → D) (us qs : List C) → map (map f) (all_lists us qs) ≡ all_lists (map f us) (map f qs)
all_mapped f us qs = mapped_parts f us qs (numbers 4)
