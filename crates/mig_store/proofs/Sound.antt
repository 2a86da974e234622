-- Calls that are read are well-formed.
use Rattle.std.proofs.Common.{◌≡◌, ℕ, suc, ◌+◌, ◌<◌, ◌≤◌, ◌==◌, ◌&&◌, nat_le, if◌then◌else◌, Bool, true, false, List, [], ◌∷◌, length, take, Option, Some, None, option_map, refl, ap, subst, arith}
use Rattle.std.specs.Prelude.{Result, Ok, Err}
use Rattle.std.specs.Str.{bytes_eq, is_utf8}
use Rattle.std.proofs.lemmas.Bool.{leb-true, eqb-true}
use Rattle.std.proofs.lemmas.List.{take_all}
use Rattle.std.proofs.lemmas.List.Quantifiers.{position-Some}
use Rattle.mig_schema.specs.declared.programs.Function.{Function}
use Rattle.mig_schema.specs.declared.programs.Param.{Param}
use Rattle.mig_schema.specs.declared.programs.Program.{Program}
use Rattle.mig_schema.specs.declared.tables.Kind.{Kind}
use Rattle.mig_schema.specs.declared.tables.Kind.TheVariants as kind
use Rattle.mig_schema.specs.declared.values.Value.{Value}
use Rattle.mig_schema.specs.declared.values.Value.TheVariants as value
use Rattle.mig_base.specs.Lists.{numbered}
use Rattle.mig_meaning.specs.declared.calling.Calls.{Calls}
use Rattle.mig_meaning.specs.declared.calling.Invocation.{Invocation}
use Rattle.mig_meaning.specs.Calls.{AreCalls, IsCall, fit}
use Rattle.mig_meaning.specs.Lists.{Each}
use Rattle.mig_meaning.specs.Run.{function_at, no_function}
use Rattle.mig_meaning.specs.Values.{of_kind}
use Rattle.mig_storage.specs.Layout.{IsShort}
use Rattle.mig_base.specs.Digits.{is_numeral}
use Rattle.mig_tokens.specs.Numbers.{int_of, magnitude, most_of}
use Rattle.mig_store.specs.declared.faults.CallsFault.{CallsFault}
use Rattle.mig_store.specs.declared.faults.CallsFault.TheVariants as fault
use Rattle.mig_store.specs.Fields.{are_digits, number_below, unsigned, value_spelled}
use Rattle.mig_store.specs.Reading.{Record, all_or_first, argument, arguments, calls_said, fields_in, function_named, name_in, said, said_of, with_arguments, with_first, within_limit}

-- ---- fields

-- what was chosen
given : {X : Type 0} (b : Bool) (o : Option X) (v : X) → (if b then o else None) ≡ Some v → (b ≡ true) × (o ≡ Some v)
given true o v e = (refl, e)
given false o v e = cc e

left_true : (a b : Bool) → (a && b) ≡ true → a ≡ true
left_true true b e = refl
left_true false b e = cc e

-- a value of the kind, whose text is not too long
abbrev IsOfKind : Kind → Value → Type 0
IsOfKind k v = (of_kind k v ≡ true) × IsShort v

key-kind : (o : Option ℕ) (v : Value) → option_map value.Key o ≡ Some v → IsOfKind kind.Key v
key-kind None v e = cc e
key-kind (Some n) v e = let is : value.Key n ≡ v = cc e in subst (IsOfKind kind.Key) is (refl, tt)

value-kind : (k : Kind) (w : List ℕ) (v : Value) → value_spelled k w ≡ Some v → IsOfKind k v
value-kind kind.Int w v e =
    let g = given (are_digits (unsigned w) && nat_le (magnitude w) (most_of w)) (Some (value.Int (int_of w))) v e in
    let is : value.Int (int_of w) ≡ v = cc g.1 in
    subst (IsOfKind kind.Int) is (refl, tt)
value-kind kind.Text w v e =
    let g = given (nat_le (length w) 1024 && is_utf8 w) (Some (value.Text w)) v e in
    let l : length w ≤ 1024 = leb-true (length w) 1024 (left_true _ _ g.0) in
    let short : length w ≤ 65535 = omega (arith, l) in
    let is : value.Text w ≡ v = cc g.1 in
    subst (IsOfKind kind.Text) is (refl, short)
value-kind kind.Key [] v e = cc e
value-kind kind.Key (b ∷ ds) v e = key-kind (number_below ds) v (given ((b == 35) && is_numeral ds) (option_map value.Key (number_below ds)) v e).1

-- ---- arguments

-- values that fit the parameters, and whose texts are not too long
abbrev AreGiven : List Param → List Value → Type 0
AreGiven ps vs = (fit ps vs ≡ true) × Each IsShort vs

first-fits : (p : Param) (ps : List Param) (v : Value) (us vs : List Value) → IsOfKind p.kind v → AreGiven ps us → v ∷ us ≡ vs → AreGiven (p ∷ ps) vs
first-fits p ps v us vs one more is = subst (AreGiven (p ∷ ps)) is (rw (one.0, more.0) refl, (one.1, more.1))

behind-fits : (p : Param) (ps : List Param) (v : Value) (a : Result (List Value) CallsFault) (vs : List Value) → IsOfKind p.kind v → ((us : List Value) → a ≡ Ok us → AreGiven ps us) → with_first v a ≡ Ok vs → AreGiven (p ∷ ps) vs
behind-fits p ps v (Ok us) vs one more e = first-fits p ps v us vs one (more us refl) (cc e)
behind-fits p ps v (Err f) vs one more e = cc e

argument-fits : (at k : ℕ) (p : Param) (ps : List Param) (o : Option Value) (rs : List (Result Value CallsFault)) (vs : List Value) → ((v : Value) → o ≡ Some v → IsOfKind p.kind v) → ((us : List Value) → all_or_first rs ≡ Ok us → AreGiven ps us)
    → all_or_first (argument at k o ∷ rs) ≡ Ok vs → AreGiven (p ∷ ps) vs
argument-fits at k p ps None rs vs one more e = cc e
argument-fits at k p ps (Some v) rs vs one more e = behind-fits p ps v (all_or_first rs) vs (one v refl) more e

arguments-fit : (at k : ℕ) (ps : List Param) (ws : List (List ℕ)) (vs : List Value) → length ws ≡ length ps → all_or_first (arguments at k ps ws) ≡ Ok vs → AreGiven ps vs
arguments-fit at k [] ws [] l e = (refl, tt)
arguments-fit at k [] ws (v ∷ vs) l e = cc e
arguments-fit at k (p ∷ ps) [] vs l e = absurd (omega (arith, l))
arguments-fit at k (p ∷ ps) (w ∷ ws) vs l e =
    argument-fits at k p ps (value_spelled p.kind w) (arguments at (k + 1) ps ws) vs (value-kind p.kind w)
    (λ us. arguments-fit at (k + 1) ps ws us (omega (arith, l))) e

-- ---- records

-- a well-formed call, whose texts are not too long
abbrev pub IsSound : Program → Invocation → Type 0
IsSound p i = IsCall p i × Each IsShort i.args.values

call-sound : (p : Program) (n : ℕ) (a : Result (List Value) CallsFault) (i : Invocation) → n < length p.functions → ((vs : List Value) → a ≡ Ok vs → AreGiven (function_at p n).params vs) → with_arguments n a ≡ Ok i → IsSound p i
call-sound p n (Err f) i l fits e = cc e
call-sound p n (Ok vs) i l fits e =
    let is : ◌≡◌ {A = Invocation} (record { function = n; args = record { values = vs } }) i = cc e in
    let given_ = fits vs refl in
    subst (IsSound p) is (record { named = l; args = given_.0 }, given_.1)

counted-sound : (p : Program) (at n : ℕ) (b : Bool) (fields : List (List ℕ)) (i : Invocation) → n < length p.functions → (length fields == length (function_at p n).params) ≡ b
    → (if b then with_arguments n (all_or_first (arguments at 1 (function_at p n).params fields)) else Err (fault.Arity at)) ≡ Ok i → IsSound p i
counted-sound p at n false fields i l same e = cc e
counted-sound p at n true fields i l same e = call-sound p n (all_or_first (arguments at 1 (function_at p n).params fields)) i l (λ vs. arguments-fit at 1 (function_at p n).params fields vs (eqb-true _ _ same)) e

named-sound : (p : Program) (at : ℕ) (name : List ℕ) (o : Option ℕ) (fields : List (List ℕ)) (i : Invocation) → function_named p name ≡ o → said_of p at o fields ≡ Ok i → IsSound p i
named-sound p at name None fields i is e = cc e
named-sound p at name (Some n) fields i is e = counted-sound p at n _ fields i (position-Some (λ (f : Function). bytes_eq f.name name) p.functions n no_function is).0 refl e

said-sound : (p : Program) (at : ℕ) (r : Record) (i : Invocation) → said p at r ≡ Ok i → IsSound p i
said-sound p at r i e = named-sound p at (name_in r) (function_named p (name_in r)) (fields_in r) i refl e

-- ---- files

-- well-formed calls, as many as the records
abbrev AreSound : Program → ℕ → List Invocation → Type 0
AreSound p count calls = AreCalls p calls × Each (λ (i : Invocation). Each IsShort i.args.values) calls × (length calls ≡ count)

behind-sound : (p : Program) (count : ℕ) (i : Invocation) (a : Result (List Invocation) CallsFault) (calls : List Invocation) → IsSound p i → ((is : List Invocation) → a ≡ Ok is → AreSound p count is) → with_first i a ≡ Ok calls → AreSound p (suc count) calls
behind-sound p count i (Err f) calls one more e = cc e
behind-sound p count i (Ok is) calls one more e =
    let rest = more is refl in
    let same : i ∷ is ≡ calls = cc e in
    subst (AreSound p (suc count)) same ((one.0, rest.0), (one.1, rest.1), ap suc rest.2)

first-sound : (p : Program) (count : ℕ) (o : Result Invocation CallsFault) (os : List (Result Invocation CallsFault)) (calls : List Invocation) → ((i : Invocation) → o ≡ Ok i → IsSound p i) → ((is : List Invocation) → all_or_first os ≡ Ok is → AreSound p count is)
    → all_or_first (o ∷ os) ≡ Ok calls → AreSound p (suc count) calls
first-sound p count (Err f) os calls one more e = cc e
first-sound p count (Ok i) os calls one more e = behind-sound p count i (all_or_first os) calls (one i refl) more e

records-sound : (p : Program) (n : ℕ) (rs : List Record) (calls : List Invocation) → all_or_first (numbered (said p) n rs) ≡ Ok calls → AreSound p (length rs) calls
records-sound p n [] [] e = (tt, tt, refl)
records-sound p n [] (i ∷ is) e = cc e
records-sound p n (r ∷ rs) calls e = first-sound p (length rs) (said p n r) (numbered (said p) (n + 1) rs) calls (said-sound p n r) (records-sound p (n + 1) rs) e

-- what is read
abbrev pub IsRead : Program → Calls → Type 0
IsRead p c = AreCalls p c.calls × Each (λ (i : Invocation). Each IsShort i.args.values) c.calls × (length c.calls ≤ 100000)

few-read : (p : Program) (rs : List Record) (b : Bool) (calls : List Invocation) (c : Calls) → nat_le (length rs) 100000 ≡ b → AreSound p (length (take 100000 rs)) calls
    → (if b then Ok (record { calls = calls }) else Err fault.Limit) ≡ Ok c → IsRead p c
few-read p rs false calls c l sound e = cc e
few-read p rs true calls c l sound e =
    let within : length rs ≤ 100000 = leb-true (length rs) 100000 l in
    let all = ap (λ (xs : List Record). length xs) (take_all 100000 rs within) in
    let few : length calls ≤ 100000 = omega (arith, sound.2, all, within) in
    let is : ◌≡◌ {A = Calls} (record { calls = calls }) c = cc e in
    subst (IsRead p) is (sound.0, sound.1, few)

limited-read : (p : Program) (rs : List Record) (a : Result (List Invocation) CallsFault) (c : Calls) → ((calls : List Invocation) → a ≡ Ok calls → AreSound p (length (take 100000 rs)) calls) → within_limit (length rs) a ≡ Ok c → IsRead p c
limited-read p rs (Err f) c sound e = cc e
limited-read p rs (Ok calls) c sound e = few-read p rs (nat_le (length rs) 100000) calls c refl (sound calls refl) e

-- calls that are said are well-formed
pub calls-read : (p : Program) (rs : List Record) (c : Calls) → calls_said p rs ≡ Ok c → IsRead p c
calls-read p rs c e = limited-read p rs (all_or_first (numbered (said p) 1 (take 100000 rs))) c (records-sound p 1 (take 100000 rs)) e
