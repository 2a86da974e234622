-- The calls of the first records of a file, and what the others still say.
use Rattle.std.proofs.Common.{◌≡◌, ◌≢◌, ◌∙◌, ◌⊎◌, inl, inr, ℕ, zero, suc, ◌+◌, ◌-◌, ◌<◌, ◌≤◌, if◌then◌else◌, List, [], ◌∷◌, ◌++◌, length, take, refl, sym, ap, subst, arith}
use Rattle.std.specs.Prelude.{Result, Ok, Err}
use Rattle.std.proofs.lemmas.Bool.{cases_lt, le-leb, lt-leb}
use Rattle.mig_schema.specs.declared.programs.Program.{Program}
use Rattle.mig_base.specs.Lists.{numbered}
use Rattle.mig_meaning.specs.declared.calling.Calls.{Calls}
use Rattle.mig_meaning.specs.declared.calling.Invocation.{Invocation}
use Rattle.mig_store.specs.declared.faults.CallsFault.{CallsFault}
use Rattle.mig_store.specs.declared.faults.CallsFault.TheVariants as fault
use Rattle.mig_store.specs.Reading.{Record, all_or_first, calls_said, said, within_limit}
use Rattle.mig_store.proofs.Collect.{with_front, front-all, front-more, front-none}

-- what a file says, where its first records, so many, say these calls, and these records are left
abbrev pub so_far : Program → List Invocation → (count : ℕ) → List Record → Result Calls CallsFault
so_far p calls count rs = within_limit (count + length rs) (with_front calls (all_or_first (numbered (said p) (count + 1) (take (100000 - count) rs))))

-- at the start
pub at_start : (p : Program) (rs : List Record) → so_far p [] 0 rs ≡ calls_said p rs
at_start p rs =
    let none : 0 + length rs ≡ length rs = omega arith in
    ap (λ n. within_limit n (with_front [] (all_or_first (numbered (said p) 1 (take 100000 rs))))) none
    ∙ ap (within_limit (length rs)) (front-none (all_or_first (numbered (said p) 1 (take 100000 rs))))

take-none : {X : Type 0} (n : ℕ) → ◌≡◌ {A = List X} (take n []) []
take-none zero = refl
take-none (suc n) = refl

limit-kept : (n : ℕ) (calls : List Invocation) → n ≤ 100000 → within_limit n (Ok calls) ≡ Ok (record { calls = calls })
limit-kept n calls l = ap (λ b. if b then Ok (record { calls = calls }) else Err fault.Limit) (le-leb n 100000 l)

limit-passed : (n : ℕ) (calls : List Invocation) → 100000 < n → within_limit n (Ok calls) ≡ Err fault.Limit
limit-passed n calls l = ap (λ b. if b then Ok (record { calls = calls }) else Err fault.Limit) (lt-leb n 100000 l)

-- at the end
pub at_end : (p : Program) (calls : List Invocation) (count : ℕ) → count ≤ 100000 → so_far p calls count [] ≡ Ok (record { calls = calls })
at_end p calls count l =
    let n : count + 0 ≤ 100000 = omega (arith, l) in
    ap (λ (r : Result (List Invocation) CallsFault). within_limit (count + 0) r)
    (front-all calls _ (ap (λ (rs : List Record). all_or_first (numbered (said p) (count + 1) rs)) (take-none (100000 - count))))
    ∙ limit-kept (count + 0) calls n

-- one record too many
pub too_many : (p : Program) (calls : List Invocation) (count : ℕ) (r : Record) (rs : List Record) → count ≡ 100000 → so_far p calls count (r ∷ rs) ≡ Err fault.Limit
too_many p calls count r rs is =
    let none : 100000 - count ≡ 0 = omega (arith, is) in
    let n : 100000 < count + suc (length rs) = omega (arith, is) in
    ap (λ (x : Result (List Invocation) CallsFault). within_limit (count + suc (length rs)) x)
    (front-all calls _ (ap (λ k. all_or_first (numbered (said p) (count + 1) (take k (r ∷ rs)))) none))
    ∙ limit-passed (count + suc (length rs)) calls n

-- one record before the others
split : (p : Program) (count : ℕ) (r : Record) (rs : List Record) → count < 100000
    → all_or_first (numbered (said p) (count + 1) (take (100000 - count) (r ∷ rs))) ≡ all_or_first (said p (count + 1) r ∷ numbered (said p) (count + 1 + 1) (take (100000 - (count + 1)) rs))
split p count r rs l =
    let one : 100000 - count ≡ suc (100000 - (count + 1)) = omega (arith, l) in
    ap (λ k. all_or_first (numbered (said p) (count + 1) (take k (r ∷ rs)))) one

-- a record that says no call
pub broken : (p : Program) (calls : List Invocation) (count : ℕ) (r : Record) (rs : List Record) (f : CallsFault) → count < 100000 → Err f ≡ said p (count + 1) r
    → so_far p calls count (r ∷ rs) ≡ Err f
broken p calls count r rs f l e =
    ap (λ (x : Result (List Invocation) CallsFault). within_limit (count + suc (length rs)) (with_front calls x))
    (split p count r rs l ∙ ap (λ (x : Result Invocation CallsFault). all_or_first (x ∷ numbered (said p) (count + 1 + 1) (take (100000 - (count + 1)) rs))) (sym e))

-- a record that says a call
pub one_more : (p : Program) (calls : List Invocation) (count : ℕ) (r : Record) (rs : List Record) (i : Invocation) → count < 100000 → Ok i ≡ said p (count + 1) r
    → so_far p (calls ++ i ∷ []) (count + 1) rs ≡ so_far p calls count (r ∷ rs)
one_more p calls count r rs i l e =
    let behind = all_or_first (numbered (said p) (count + 1 + 1) (take (100000 - (count + 1)) rs)) in
    let n : count + 1 + length rs ≡ count + suc (length rs) = omega arith in
    ap (λ k. within_limit k (with_front (calls ++ i ∷ []) behind)) n
    ∙ ap (within_limit (count + suc (length rs))) (front-more calls i behind)
    ∙ ap (λ (x : Result Invocation CallsFault). within_limit (count + suc (length rs)) (with_front calls (all_or_first (x ∷ numbered (said p) (count + 1 + 1) (take (100000 - (count + 1)) rs))))) e
    ∙ ap (λ (x : Result (List Invocation) CallsFault). within_limit (count + suc (length rs)) (with_front calls x)) (sym (split p count r rs l))

-- ---- in the words of the loop

pub below : (n m : ℕ) → n ≤ m → n ≢ m → n < m
below n m l ne = go (cases_lt n m)
  where
    go : (n < m) ⊎ (m ≤ n) → n < m
    go (inl k) = k
    go (inr k) = absurd (ne (omega (arith, l, k)))

-- the records that are left, and the first of them
pub parted : (p : Program) (calls : List Invocation) (count : ℕ) (left : List Record) (r : Record) (rs : List Record) (all : Result Calls CallsFault) → left ≡ r ∷ rs → so_far p calls count left ≡ all → so_far p calls count (r ∷ rs) ≡ all
parted p calls count left r rs all e h = subst (λ xs. so_far p calls count xs ≡ all) e h

-- a record said no call, or memory ran out
pub fault_told : (p : Program) (calls : List Invocation) (count : ℕ) (r : Record) (rs : List Record) (all : Result Calls CallsFault) (f : CallsFault) → count < 100000 → so_far p calls count (r ∷ rs) ≡ all
    → (◌≡◌ {A = Result Invocation CallsFault} (Err f) (Err fault.Memory)) ⊎ (Err f ≡ said p (count + 1) r) → (◌≡◌ {A = Result Calls CallsFault} (Err f) (Err fault.Memory)) ⊎ (Err f ≡ all)
fault_told p calls count r rs all f l h (inl e) = let is : f ≡ fault.Memory = cc e in inl (ap Err is)
fault_told p calls count r rs all f l h (inr e) = inr (sym (broken p calls count r rs f l e) ∙ h)

-- a record said a call
pub call_told : (p : Program) (calls now : List Invocation) (count : ℕ) (r : Record) (rs : List Record) (all : Result Calls CallsFault) (i : Invocation) → now ≡ calls ++ i ∷ [] → count < 100000 → so_far p calls count (r ∷ rs) ≡ all
    → (◌≡◌ {A = Result Invocation CallsFault} (Ok i) (Err fault.Memory)) ⊎ (Ok i ≡ said p (count + 1) r) → so_far p now (count + 1) rs ≡ all
call_told p calls now count r rs all i pushed l h (inl e) = cc e
call_told p calls now count r rs all i pushed l h (inr e) =
    ap (λ (is : List Invocation). so_far p is (count + 1) rs) pushed ∙ one_more p calls count r rs i l e ∙ h
