-- A reader takes all tokens of a whole text.
use Rattle.std.proofs.Common.{◌≡◌, ℕ, zero, suc, ◌+◌, ◌<◌, ◌^◌, Bool, true, false, not, ◌&&◌, ◌||◌, ◌==◌, nat_le, nat_lt, List, [], ◌∷◌, ◌++◌, length, map, Option, Some, None, is_some, refl, sym, ap, ◌∙◌, subst, append_assoc, length-append, arith}
use Rattle.std.specs.List.{list_all, flat_map}
use Rattle.std.specs.Cmp.Derive.{both_true}
use Rattle.std.proofs.lemmas.Bool.{lt-ltb, ltb-true, leb-true, eq-eqb, eqb-true}
use Rattle.std.proofs.lemmas.List.{append-nil}
use Rattle.std.proofs.Math.Dec.{eqb-suc-zero}
use Rattle.std.proofs.lemmas.List.Folds.{list_all-append}
use Rattle.mig_dimacs.specs.declared.token.Number.{Number as Signed}
use Rattle.mig_dimacs.specs.declared.token.Token.{Token}
use Rattle.mig_dimacs.specs.declared.token.Token.TheVariants.{Number, End}
use Rattle.mig_dimacs.specs.declared.text.Head.{Head}
use Rattle.mig_dimacs.specs.declared.text.Text.{Text}
use Rattle.mig_dimacs.specs.declared.place.Place.TheVariants as at
use Rattle.mig_dimacs.specs.declared.reader.Reader.{Reader}
use Rattle.mig_dimacs.specs.Texts.{plain, top_tokens, clause_tokens, text_tokens, is_lit, is_weight, is_clause, is_clause_of, clause_weight, soft_sum, is_top, IsWhole}
use Rattle.mig_dimacs.specs.Reading.{next, next_in_clause, next_at_end, may_come, more_soft, next_soft, with_number, fresh, among}
use Rattle.mig_dimacs.proofs.Softs.{weight_on, weight_front, sum_on, sum_next, softer}

-- one more token; none stays none
abbrev pub next_of : Option Reader → Token → Option Reader
next_of None t = None
next_of (Some r) t = next r t

-- all tokens, one after the other
abbrev pub run : List Token → Option Reader → Option Reader
run [] o = o
run (t ∷ ts) o = run ts (next_of o t)

pub run-none : (ts : List Token) → run ts None ≡ None
run-none [] = refl
run-none (t ∷ ts) = run-none ts

pub run-append : (xs ys : List Token) (o : Option Reader) → run (xs ++ ys) o ≡ run ys (run xs o)
run-append [] ys o = refl
run-append (x ∷ xs) ys o = run-append xs ys (next_of o x)

-- ---- truth values

pub left_true : (a b : Bool) → (a && b) ≡ true → a ≡ true
left_true true b h = refl
left_true false b h = h

pub right_true : (a b : Bool) → (a && b) ≡ true → b ≡ true
right_true true b h = h
right_true false b h = cc

or_true : (a : Bool) → (a || true) ≡ true
or_true true = refl
or_true false = refl

and_false : (a : Bool) → (a && false) ≡ false
and_false true = refl
and_false false = refl

-- ---- a number of a clause

not_zero : (n : ℕ) → 0 < n → (n == 0) ≡ false
not_zero zero h = absurd (omega arith)
not_zero (suc n) h = eqb-suc-zero n

-- it is not the 0 at the end
no_end : (n : Signed) → nat_lt 0 n.size ≡ true → (not n.negative && (n.size == 0)) ≡ false
no_end n h = ap (λ b. not n.negative && b) (not_zero n.size (ltb-true 0 n.size h)) ∙ and_false (not n.negative)

lit_no_end : (vars : ℕ) (n : Signed) → is_lit vars n ≡ true → (not n.negative && (n.size == 0)) ≡ false
lit_no_end vars n h = no_end n (left_true (nat_lt 0 n.size) (nat_le n.size vars) h)

weight_no_end : (top : ℕ) (n : Signed) → is_weight top n ≡ true → (not n.negative && (n.size == 0)) ≡ false
weight_no_end top n h = no_end n (left_true (nat_lt 0 n.size) (nat_le n.size top) (right_true (not n.negative) (nat_lt 0 n.size && nat_le n.size top) h))

-- the number in the middle is a literal
lit_within : (vars : ℕ) (before : List Signed) (n : Signed) (more : List Signed) → list_all (is_lit vars) (before ++ n ∷ more) ≡ true → is_lit vars n ≡ true
lit_within vars before n more h =
    left_true (is_lit vars n) (list_all (is_lit vars) more) (right_true (list_all (is_lit vars) before) (is_lit vars n && list_all (is_lit vars) more) (sym (list_all-append (is_lit vars) before (n ∷ more)) ∙ h))

-- a clause with a literal has a variable
has_variable : (vars : ℕ) (b : Bool) (more : List Signed) → list_all (is_lit vars) more ≡ true → (b || (length more == 1)) ≡ true → (b || nat_lt 0 vars) ≡ true
has_variable vars true more l e = refl
has_variable vars false [] l e = cc
has_variable vars false (m ∷ ms) l e =
    let lit = left_true (is_lit vars m) (list_all (is_lit vars) ms) l in
    let least = ltb-true 0 m.size (left_true (nat_lt 0 m.size) (nat_le m.size vars) lit) in
    let greatest = leb-true m.size vars (right_true (nat_lt 0 m.size) (nat_le m.size vars) lit) in
    lt-ltb 0 vars (omega (arith, least, greatest))

-- one literal has none before it
is_only : (b : Bool) (ls : List Signed) (n : Signed) (more : List Signed) → (b || (length (ls ++ n ∷ more) == 1)) ≡ true → (b || (length ls == 0)) ≡ true
is_only true ls n more e = refl
is_only false [] n more e = refl
is_only false (l ∷ ls) n more e = absurd (omega (arith, eqb-true (length (l ∷ (ls ++ n ∷ more))) 1 e, length-append ls (n ∷ more)))

-- what a number within a clause must be
pub no_end_within : (top : Option ℕ) (vars : ℕ) (before : List Signed) (n : Signed) (more : List Signed) → is_clause_of top vars (before ++ n ∷ more) ≡ true → (not n.negative && (n.size == 0)) ≡ false
no_end_within None vars before n more h = lit_no_end vars n (lit_within vars before n more h)
no_end_within (Some t) vars [] n more h = weight_no_end t n (left_true (is_weight t n) _ h)
no_end_within (Some t) vars (w ∷ ls) n more h = lit_no_end vars n (lit_within vars ls n more (left_true (list_all (is_lit vars) (ls ++ n ∷ more)) _ (right_true (is_weight t w) _ h)))

pub comes_within : (top : Option ℕ) (vars : ℕ) (before : List Signed) (n : Signed) (more : List Signed) → is_clause_of top vars (before ++ n ∷ more) ≡ true → may_come top vars before n ≡ true
comes_within None vars before n more h = lit_within vars before n more h
comes_within (Some t) vars [] n more h =
    let rest = right_true (is_weight t n) _ h in
    both_true (left_true (is_weight t n) _ h) (has_variable vars (n.size == t) more (left_true (list_all (is_lit vars) more) _ rest) (right_true (list_all (is_lit vars) more) _ rest))
comes_within (Some t) vars (w ∷ ls) n more h =
    let rest = right_true (is_weight t w) _ h in
    both_true (lit_within vars ls n more (left_true (list_all (is_lit vars) (ls ++ n ∷ more)) _ rest)) (is_only (w.size == t) ls n more (right_true (list_all (is_lit vars) (ls ++ n ∷ more)) _ rest))

-- ---- a clause, and all clauses

-- what soft clauses cost before a clause and in its beginning
abbrev cost_before : Head → List (List Signed) → List Signed → ℕ
cost_before h cs c = soft_sum h.top cs + clause_weight h.top c

cost_on : (h : Head) (cs : List (List Signed)) (c : List Signed) (n : Signed) → cost_before h cs c + more_soft h.top c n ≡ cost_before h cs (c ++ n ∷ [])
cost_on h cs c n = let e = weight_on h.top c n in omega (arith, e)

with_that : (h : Head) (cs : List (List Signed)) (c : List Signed) (n : Signed) → cost_before h cs (c ++ n ∷ []) < 2 ^ 62 → with_number h cs c n (next_soft h.top (cost_before h cs c) c n) ≡ Some (among h cs (c ++ n ∷ []))
with_that h cs c n lt =
    let e = cost_on h cs c n in
    ap (with_number h cs c n) (softer h.top (cost_before h cs c) c n (omega (arith, e, lt)))
    ∙ ap (λ (s : ℕ). with_number h cs c n (Some s)) e

step_number : (h : Head) (cs : List (List Signed)) (c : List Signed) (n : Signed) → nat_lt (length cs) h.count ≡ true → (not n.negative && (n.size == 0)) ≡ false → may_come h.top h.vars c n ≡ true → cost_before h cs (c ++ n ∷ []) < 2 ^ 62
    → next_in_clause h cs c (cost_before h cs c) n ≡ Some (among h cs (c ++ n ∷ []))
step_number h cs c n p q r lt = rw (p, q, r) (with_that h cs c n lt)

-- what soft clauses cost behind a clause
cost_behind : (h : Head) (cs : List (List Signed)) (c : List Signed) → cost_before h cs c ≡ cost_before h (cs ++ c ∷ []) []
cost_behind h cs c = let e = sum_on h.top cs c in omega (arith, e)

step_zero : (h : Head) (cs : List (List Signed)) (c : List Signed) → nat_lt (length cs) h.count ≡ true → is_clause h c ≡ true → next_in_clause h cs c (cost_before h cs c) (record { negative = false; size = 0 }) ≡ Some (among h (cs ++ c ∷ []) [])
step_zero h cs c p q = rw (p, q) (ap (λ (s : ℕ). Some (record { place = at.Clauses h; clauses = cs ++ c ∷ []; current = []; soft = s })) (cost_behind h cs c))

run_clause : (h : Head) (cs : List (List Signed)) (before c : List Signed) (rest : List Token) → length cs < h.count → is_clause h (before ++ c) ≡ true → cost_before h cs (before ++ c) < 2 ^ 62
    → run (map Number c ++ plain 0 ∷ rest) (Some (among h cs before)) ≡ run rest (Some (among h (cs ++ (before ++ c) ∷ []) []))
run_clause h cs before [] rest lt is light =
    ap (run rest) (step_zero h cs before (lt-ltb (length cs) h.count lt) (ap (is_clause h) (sym (append-nil before)) ∙ is)
    ∙ ap (λ (c : List Signed). Some (among h (cs ++ c ∷ []) [])) (sym (append-nil before)))
run_clause h cs before (n ∷ ns) rest lt is light =
    let front = weight_front h.top before n ns in
    let whole : (before ++ n ∷ []) ++ ns ≡ before ++ n ∷ ns = append_assoc before (n ∷ []) ns in
    ap (run (map Number ns ++ plain 0 ∷ rest)) (step_number h cs before n (lt-ltb (length cs) h.count lt) (no_end_within h.top h.vars before n ns is) (comes_within h.top h.vars before n ns is) (omega (arith, front, light)))
    ∙ run_clause h cs (before ++ n ∷ []) ns rest lt (ap (is_clause h) whole ∙ is) (subst (λ (c : List Signed). cost_before h cs c < 2 ^ 62) (sym whole) light)
    ∙ ap (λ (c : List Signed). run rest (Some (among h (cs ++ c ∷ []) []))) whole

run_clauses : (h : Head) (cs ds : List (List Signed)) (rest : List Token) → length cs + length ds ≡ h.count → list_all (is_clause h) ds ≡ true → soft_sum h.top cs + soft_sum h.top ds < 2 ^ 62
    → run (flat_map clause_tokens ds ++ rest) (Some (among h cs [])) ≡ run rest (Some (among h (cs ++ ds) []))
run_clauses h cs [] rest count is light = ap (λ (c : List (List Signed)). run rest (Some (among h c []))) (sym (append-nil cs))
run_clauses h cs (d ∷ ds) rest count is light =
    let here = sum_next h.top d ds in
    let behind = sum_on h.top cs d in
    let first : (clause_tokens d ++ flat_map clause_tokens ds) ++ rest ≡ map Number d ++ plain 0 ∷ (flat_map clause_tokens ds ++ rest) =
    append_assoc (clause_tokens d) (flat_map clause_tokens ds) rest ∙ append_assoc (map Number d) (plain 0 ∷ []) (flat_map clause_tokens ds ++ rest) in
    ap (λ (ts : List Token). run ts (Some (among h cs []))) first
    ∙ run_clause h cs [] d (flat_map clause_tokens ds ++ rest) (omega (arith, count)) (left_true (is_clause h d) _ is) (omega (arith, here, light))
    ∙ run_clauses h (cs ++ d ∷ []) ds rest (omega (arith, count, length-append cs (d ∷ []))) (right_true (is_clause h d) _ is) (omega (arith, here, behind, light))
    ∙ ap (λ (c : List (List Signed)). run rest (Some (among h c []))) (append_assoc cs (d ∷ []) ds)

-- ---- the header, and a whole text

run_header : (top : Option ℕ) (v c : ℕ) (rest : List Token) → v < 2 ^ 32 → is_top top ≡ true
    → run (top_tokens top v c ++ rest) (Some (fresh (is_some top))) ≡ run rest (Some (among (record { vars = v; top = top; count = c }) [] []))
run_header None v c rest small is = rw (lt-ltb v 4294967296 small) refl
run_header (Some t) v c rest small is = rw (lt-ltb v 4294967296 small, is) refl

step_end : (h : Head) (cs : List (List Signed)) (s : ℕ) → length cs ≡ h.count → next_at_end h cs [] s ≡ Some (record { place = at.Ended h; clauses = cs; current = []; soft = s })
step_end h cs s e = rw (eq-eqb (length cs) h.count e) refl

-- all tokens of a text are taken
pub takes : (w : Bool) (t : Text) → IsWhole w t → run (text_tokens t) (Some (fresh w)) ≡ Some (record { place = at.Ended t.head; clauses = t.clauses; current = []; soft = cost_before t.head t.clauses [] })
takes w t is =
    ap (λ (k : Bool). run (text_tokens t) (Some (fresh k))) (sym is.kind)
    ∙ run_header t.head.top t.head.vars t.head.count _ is.vars is.top
    ∙ run_clauses t.head [] t.clauses (End ∷ []) (omega (arith, is.count)) is.clauses (let light = is.soft in omega (arith, light))
    ∙ step_end t.head t.clauses _ is.count
