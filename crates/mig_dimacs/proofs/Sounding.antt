-- What a reader has read is the beginning of a text.
use Rattle.std.proofs.Common.{◌≡◌, ℕ, ◌+◌, ◌<◌, ◌≤◌, ◌^◌, Bool, true, false, not, ◌&&◌, ◌==◌, nat_lt, cond, List, [], ◌∷◌, ◌++◌, length, map, Option, Some, None, is_some, refl, sym, ap, ◌∙◌, subst, append_assoc, length-append, arith, ◌⊎◌, inl, inr}
use Rattle.std.specs.List.{list_all, flat_map}
use Rattle.std.specs.Cmp.Derive.{both_true}
use Rattle.std.proofs.lemmas.Bool.{ltb-true, eqb-true}
use Rattle.std.proofs.lemmas.List.{append-nil, map-append}
use Rattle.std.proofs.lemmas.Grind.{flat_map-append}
use Rattle.std.proofs.lemmas.List.Folds.{list_all-append}
use Rattle.mig_dimacs.specs.declared.token.Number.{Number as Signed}
use Rattle.mig_dimacs.specs.declared.token.Token.{Token}
use Rattle.mig_dimacs.specs.declared.token.Token.TheVariants.{Problem, Plain, Weighted, Number, End}
use Rattle.mig_dimacs.specs.declared.text.Head.{Head}
use Rattle.mig_dimacs.specs.declared.place.Place.{Place}
use Rattle.mig_dimacs.specs.declared.place.Place.TheVariants as at
use Rattle.mig_dimacs.specs.declared.reader.Reader.{Reader}
use Rattle.mig_dimacs.specs.Texts.{plain, top_tokens, clause_tokens, is_clause, is_top, clause_weight, soft_sum, IsWhole}
use Rattle.mig_dimacs.specs.Reading.{next, next_from, behind_count, next_in_clause, next_at_end, moved, may_come, limit, more_soft, next_soft, with_number}
use Rattle.mig_dimacs.proofs.Ending.{CanEnd, ends_after}
use Rattle.mig_dimacs.proofs.Running.{left_true, right_true, run, run-none}
use Rattle.mig_dimacs.proofs.Softs.{weight_on, sum_on}

-- the word that says whether clauses have weights
abbrev pub kind_word : Bool → Token
kind_word false = Plain
kind_word true = Weighted

-- the tokens that were read
abbrev pub spelled : Place → List (List Signed) → List Signed → List Token
spelled (at.Start w) cs c = []
spelled (at.Problem w) cs c = Problem ∷ []
spelled (at.Kind w) cs c = Problem ∷ kind_word w ∷ []
spelled (at.Vars w v) cs c = Problem ∷ kind_word w ∷ plain v ∷ []
spelled (at.Count v k) cs c = Problem ∷ Weighted ∷ plain v ∷ plain k ∷ []
spelled (at.Clauses h) cs c = top_tokens h.top h.vars h.count ++ (flat_map clause_tokens cs ++ map Number c)
spelled (at.Ended h) cs c = top_tokens h.top h.vars h.count ++ (flat_map clause_tokens cs ++ End ∷ [])

-- nothing was read but the header
pub record IsEarly (w v : Bool) (cs : List (List Signed)) (c : List Signed) (s : ℕ) : Type 0 where
  pub kind : v ≡ w
  pub none : cs ≡ []
  pub nothing : c ≡ []
  pub free : s ≡ 0

-- header and clauses so far are those of a text, and a clause that has begun can be ended
pub record IsBegun (w : Bool) (h : Head) (cs : List (List Signed)) (c : List Signed) (s : ℕ) : Type 0 where
  pub vars : h.vars < 2 ^ 32
  pub top : is_top h.top ≡ true
  pub kind : is_some h.top ≡ w
  pub count : length cs ≤ h.count
  pub clauses : list_all (is_clause h) cs ≡ true
  pub part : CanEnd h.top h.vars c
  pub room : (c ≡ []) ⊎ (length cs < h.count)
  pub soft : s ≡ soft_sum h.top cs + clause_weight h.top c
  pub light : s < 2 ^ 62

-- what a reader keeps
abbrev pub IsGood : Bool → Place → List (List Signed) → List Signed → ℕ → Type 0
IsGood w (at.Start v) cs c s = IsEarly w v cs c s
IsGood w (at.Problem v) cs c s = IsEarly w v cs c s
IsGood w (at.Kind v) cs c s = IsEarly w v cs c s
IsGood w (at.Vars v n) cs c s = IsEarly w v cs c s × (n < 2 ^ 32)
IsGood w (at.Count n k) cs c s = IsEarly w true cs c s × (n < 2 ^ 32)
IsGood w (at.Clauses h) cs c s = IsBegun w h cs c s
IsGood w (at.Ended h) cs c s = IsWhole w (record { head = h; clauses = cs })

-- one more token was read, and all is kept
abbrev pub IsNext : Bool → List Token → Token → Reader → Type 0
IsNext w old t s = IsGood w s.place s.clauses s.current s.soft × (spelled s.place s.clauses s.current ≡ old ++ t ∷ [])

pub none_some : {X : Type 0} {A : Type 0} (s : X) → None ≡ Some s → A
none_some s e = absurd (clash e)
  where
    clash : None ≡ Some s → ⊥
    clash f = cc

is_that : (r s : Reader) → Some r ≡ Some s → r ≡ s
is_that r s e = cc

chosen : (b : Bool) (x : Option Reader) (s : Reader) → cond b x None ≡ Some s → (b ≡ true) × (x ≡ Some s)
chosen true x s e = (refl, e)
chosen false x s e = none_some s e

moved_to : (cs : List (List Signed)) (c : List Signed) (k : ℕ) (b : Bool) (p : Place) (s : Reader) → moved cs c k (cond b (Some p) None) ≡ Some s → (b ≡ true) × (record { place = p; clauses = cs; current = c; soft = k } ≡ s)
moved_to cs c k true p s e = (refl, is_that (record { place = p; clauses = cs; current = c; soft = k }) s e)
moved_to cs c k false p s e = none_some s e

plain_of : (b : Bool) (k : ℕ) → not b ≡ true → plain k ≡ Number (record { negative = b; size = k })
plain_of false k h = refl
plain_of true k h = cc

-- a number that is not negative
plain_is : (n : Signed) → not n.negative ≡ true → plain n.size ≡ Number n
plain_is n h = plain_of n.negative n.size h

-- ---- one token of the header

at_count : (w v : Bool) (m k : ℕ) (cs : List (List Signed)) (c : List Signed) (s : ℕ) → IsEarly w v cs c s → m < 2 ^ 32
    → IsNext w (Problem ∷ kind_word v ∷ plain m ∷ []) (plain k) (record { place = behind_count v m k; clauses = cs; current = c; soft = s })
at_count w true m k cs c s g lt = ((record { kind = g.kind; none = g.none; nothing = g.nothing; free = g.free }, lt), refl)
at_count w false m k cs c s g lt = rw (g.none, g.nothing, g.free) (record { vars = lt; top = refl; kind = g.kind; count = omega arith; clauses = refl; part = inl refl; room = inl refl; soft = refl; light = omega arith }, refl)

at_top : (w : Bool) (m k t : ℕ) (cs : List (List Signed)) (c : List Signed) (s : ℕ) → IsEarly w true cs c s → m < 2 ^ 32 → nat_lt 0 t ≡ true
    → IsNext w (Problem ∷ Weighted ∷ plain m ∷ plain k ∷ []) (plain t) (record { place = at.Clauses (record { vars = m; top = Some t; count = k }); clauses = cs; current = c; soft = s })
at_top w m k t cs c s g lt is = rw (g.none, g.nothing, g.free) (record { vars = lt; top = is; kind = g.kind; count = omega arith; clauses = refl; part = inl refl; room = inl refl; soft = refl; light = omega arith }, refl)

-- ---- one token behind it

in_front : (w : Bool) (front tail : List Token) (t : Token) (s : Reader) → tail ≡ front → IsNext w front t s → IsNext w tail t s
in_front w front tail t s e h = subst (λ (f : List Token). IsNext w f t s) (sym e) h

more_number : (h : Head) (cs : List (List Signed)) (c : List Signed) (n : Signed)
    → top_tokens h.top h.vars h.count ++ (flat_map clause_tokens cs ++ map Number (c ++ n ∷ [])) ≡ (top_tokens h.top h.vars h.count ++ (flat_map clause_tokens cs ++ map Number c)) ++ Number n ∷ []
more_number h cs c n =
    ap (λ (f : List Token). top_tokens h.top h.vars h.count ++ (flat_map clause_tokens cs ++ f)) (map-append Number c (n ∷ []))
    ∙ ap (λ (f : List Token). top_tokens h.top h.vars h.count ++ f) (sym (append_assoc (flat_map clause_tokens cs) (map Number c) (Number n ∷ [])))
    ∙ sym (append_assoc (top_tokens h.top h.vars h.count) (flat_map clause_tokens cs ++ map Number c) (Number n ∷ []))

more_clause : (h : Head) (cs : List (List Signed)) (c : List Signed)
    → top_tokens h.top h.vars h.count ++ (flat_map clause_tokens (cs ++ c ∷ []) ++ []) ≡ (top_tokens h.top h.vars h.count ++ (flat_map clause_tokens cs ++ map Number c)) ++ plain 0 ∷ []
more_clause h cs c =
    ap (λ (f : List Token). top_tokens h.top h.vars h.count ++ f) (append-nil (flat_map clause_tokens (cs ++ c ∷ [])) ∙ flat_map-append clause_tokens cs (c ∷ []) ∙ ap (λ (f : List Token). flat_map clause_tokens cs ++ f) (append-nil (clause_tokens c)) ∙ sym (append_assoc (flat_map clause_tokens cs) (map Number c) (plain 0 ∷ [])))
    ∙ sym (append_assoc (top_tokens h.top h.vars h.count) (flat_map clause_tokens cs ++ map Number c) (plain 0 ∷ []))

begun_more : (w : Bool) (h : Head) (cs : List (List Signed)) (c : List Signed) (s : ℕ) → IsBegun w h cs c s → length cs < h.count → is_clause h c ≡ true → IsBegun w h (cs ++ c ∷ []) [] s
begun_more w h cs c s g lt is = record {
  vars = g.vars;
  top = g.top;
  kind = g.kind;
  count = omega (arith, lt, length-append cs (c ∷ []));
  clauses = list_all-append (is_clause h) cs (c ∷ []) ∙ both_true g.clauses (both_true is refl);
  part = inl refl;
  room = inl refl;
  soft = let e = sum_on h.top cs c in let was = g.soft in omega (arith, e, was);
  light = g.light;
}

begun_number : (w : Bool) (h : Head) (cs : List (List Signed)) (c : List Signed) (s : ℕ) (n : Signed) → IsBegun w h cs c s → length cs < h.count → may_come h.top h.vars c n ≡ true → s + more_soft h.top c n < 2 ^ 62 → IsBegun w h cs (c ++ n ∷ []) (s + more_soft h.top c n)
begun_number w h cs c s n g lt is light = record {
  vars = g.vars;
  top = g.top;
  kind = g.kind;
  count = g.count;
  clauses = g.clauses;
  part = inr (ends_after h.top h.vars c n is g.part);
  room = inr lt;
  soft = let e = weight_on h.top c n in let was = g.soft in omega (arith, e, was);
  light = light;
}

zero_is : (n : Signed) → (not n.negative && (n.size == 0)) ≡ true → plain 0 ≡ Number n
zero_is n h = ap plain (sym (eqb-true n.size 0 (right_true (not n.negative) (n.size == 0) h))) ∙ plain_is n (left_true (not n.negative) (n.size == 0) h)

-- what soft clauses cost behind a number, where the reader takes it
taken_soft : (h : Head) (cs : List (List Signed)) (c : List Signed) (k : ℕ) (n : Signed) (s : Reader) (o : Option ℕ) → next_soft h.top k c n ≡ o → with_number h cs c n o ≡ Some s
    → (k + more_soft h.top c n < 2 ^ 62) × (record { place = at.Clauses h; clauses = cs; current = c ++ n ∷ []; soft = k + more_soft h.top c n } ≡ s)
taken_soft h cs c k n s None is e = none_some s e
taken_soft h cs c k n s (Some m) is e =
    let p = within (nat_lt (k + more_soft h.top c n) limit) (k + more_soft h.top c n) m is in
    (ltb-true (k + more_soft h.top c n) limit p.0, ap (λ (x : ℕ). record { place = at.Clauses h; clauses = cs; current = c ++ n ∷ []; soft = x }) p.1 ∙ is_that (record { place = at.Clauses h; clauses = cs; current = c ++ n ∷ []; soft = m }) s e)
  where
    within : (b : Bool) (x y : ℕ) → cond b (Some x) None ≡ Some y → (b ≡ true) × (x ≡ y)
    within true x y f = (refl, cc)
    within false x y f = none_some y f

-- a number of a clause, or the 0 at its end
in_clause : (w : Bool) (h : Head) (cs : List (List Signed)) (c : List Signed) (k : ℕ) (n : Signed) (s : Reader) → IsBegun w h cs c k → length cs < h.count → (zero : Bool) → (not n.negative && (n.size == 0)) ≡ zero
    → cond zero (cond (is_clause h c) (Some (record { place = at.Clauses h; clauses = cs ++ c ∷ []; current = []; soft = k })) None) (cond (may_come h.top h.vars c n) (with_number h cs c n (next_soft h.top k c n)) None) ≡ Some s
    → IsNext w (spelled (at.Clauses h) cs c) (Number n) s
in_clause w h cs c k n s g lt true z e =
    let p = chosen (is_clause h c) (Some (record { place = at.Clauses h; clauses = cs ++ c ∷ []; current = []; soft = k })) s e in
    subst (λ (r : Reader). IsNext w (spelled (at.Clauses h) cs c) (Number n) r) (is_that (record { place = at.Clauses h; clauses = cs ++ c ∷ []; current = []; soft = k }) s p.1)
    (begun_more w h cs c k g lt p.0, more_clause h cs c ∙ ap (λ (t : Token). spelled (at.Clauses h) cs c ++ t ∷ []) (zero_is n z))
in_clause w h cs c k n s g lt false z e =
    let p = chosen (may_come h.top h.vars c n) (with_number h cs c n (next_soft h.top k c n)) s e in
    let q = taken_soft h cs c k n s (next_soft h.top k c n) refl p.1 in
    subst (λ (r : Reader). IsNext w (spelled (at.Clauses h) cs c) (Number n) r) q.1
    (begun_number w h cs c k n g lt p.0 q.0, more_number h cs c n)

nothing_left : (c : List Signed) → (length c == 0) ≡ true → c ≡ []
nothing_left [] h = refl
nothing_left (n ∷ ns) h = absurd (omega (arith, eqb-true (length (n ∷ ns)) 0 h))

at_end : (w : Bool) (h : Head) (cs : List (List Signed)) (c : List Signed) (k : ℕ) (s : Reader) → IsBegun w h cs c k → next_at_end h cs c k ≡ Some s → IsNext w (spelled (at.Clauses h) cs c) End s
at_end w h cs c k s g e =
    let p = chosen ((length c == 0) && (length cs == h.count)) (Some (record { place = at.Ended h; clauses = cs; current = []; soft = k })) s e in
    let nil = nothing_left c (left_true (length c == 0) (length cs == h.count) p.0) in
    let was = g.soft in
    let light = g.light in
    subst (λ (r : Reader). IsNext w (spelled (at.Clauses h) cs c) End r) (is_that (record { place = at.Ended h; clauses = cs; current = []; soft = k }) s p.1) (
      record { vars = g.vars; top = g.top; kind = g.kind; count = eqb-true (length cs) h.count (right_true (length c == 0) (length cs == h.count) p.0); clauses = g.clauses; soft = omega (arith, was, light) },
      ap (λ (f : List Token). top_tokens h.top h.vars h.count ++ (f ++ End ∷ [])) (sym (append-nil (flat_map clause_tokens cs)) ∙ ap (λ (k : List Signed). flat_map clause_tokens cs ++ map Number k) (sym nil))
          ∙ sym (append_assoc (top_tokens h.top h.vars h.count) (flat_map clause_tokens cs ++ map Number c) (End ∷ [])),
    )

in_clauses : (w : Bool) (h : Head) (cs : List (List Signed)) (c : List Signed) (k : ℕ) (n : Signed) (s : Reader) → IsBegun w h cs c k → next_in_clause h cs c k n ≡ Some s → IsNext w (spelled (at.Clauses h) cs c) (Number n) s
in_clauses w h cs c k n s g e =
    let p = chosen (nat_lt (length cs) h.count) _ s e in
    in_clause w h cs c k n s g (ltb-true (length cs) h.count p.0) (not n.negative && (n.size == 0)) refl p.1

-- ---- any token, and all tokens

pub step : (w : Bool) (p : Place) (cs : List (List Signed)) (c : List Signed) (q : ℕ) (t : Token) (s : Reader) → IsGood w p cs c q → next_from p cs c q t ≡ Some s → IsNext w (spelled p cs c) t s
step w (at.Start v) cs c q Problem s g e = subst (λ (r : Reader). IsNext w [] Problem r) (is_that (record { place = at.Problem v; clauses = cs; current = c; soft = q }) s e) (g, refl)
step w (at.Start v) cs c q t s g e = none_some s e
step w (at.Problem false) cs c q Plain s g e = subst (λ (r : Reader). IsNext w (Problem ∷ []) Plain r) (is_that (record { place = at.Kind false; clauses = cs; current = c; soft = q }) s e) (g, refl)
step w (at.Problem true) cs c q Weighted s g e = subst (λ (r : Reader). IsNext w (Problem ∷ []) Weighted r) (is_that (record { place = at.Kind true; clauses = cs; current = c; soft = q }) s e) (g, refl)
step w (at.Problem v) cs c q t s g e = none_some s e
step w (at.Kind v) cs c q (Number n) s g e =
    let p = moved_to cs c q (not n.negative && nat_lt n.size 4294967296) (at.Vars v n.size) s e in
    subst (λ (r : Reader). IsNext w (Problem ∷ kind_word v ∷ []) (Number n) r) p.1
    ((g, ltb-true n.size 4294967296 (right_true (not n.negative) _ p.0)), ap (λ (k : Token). Problem ∷ kind_word v ∷ k ∷ []) (plain_is n (left_true (not n.negative) _ p.0)))
step w (at.Kind v) cs c q t s g e = none_some s e
step w (at.Vars v m) cs c q (Number n) s g e =
    let p = moved_to cs c q (not n.negative) (behind_count v m n.size) s e in
    subst (λ (r : Reader). IsNext w (Problem ∷ kind_word v ∷ plain m ∷ []) (Number n) r) p.1
    (subst (λ (k : Token). IsNext w (Problem ∷ kind_word v ∷ plain m ∷ []) k (record { place = behind_count v m n.size; clauses = cs; current = c; soft = q })) (plain_is n p.0) (at_count w v m n.size cs c q g.0 g.1))
step w (at.Vars v m) cs c q t s g e = none_some s e
step w (at.Count m k) cs c q (Number n) s g e =
    let place = at.Clauses (record { vars = m; top = Some n.size; count = k }) in
    let p = moved_to cs c q (not n.negative && nat_lt 0 n.size) (at.Clauses (record { vars = m; top = Some n.size; count = k })) s e in
    subst (λ (r : Reader). IsNext w (Problem ∷ Weighted ∷ plain m ∷ plain k ∷ []) (Number n) r) p.1
    (subst (λ (x : Token). IsNext w (Problem ∷ Weighted ∷ plain m ∷ plain k ∷ []) x (record { place = at.Clauses (record { vars = m; top = Some n.size; count = k }); clauses = cs; current = c; soft = q })) (plain_is n (left_true (not n.negative) _ p.0)) (at_top w m k n.size cs c q g.0 g.1 (right_true (not n.negative) _ p.0)))
step w (at.Count m k) cs c q t s g e = none_some s e
step w (at.Clauses h) cs c q (Number n) s g e = in_clauses w h cs c q n s g e
step w (at.Clauses h) cs c q End s g e = at_end w h cs c q s g e
step w (at.Clauses h) cs c q t s g e = none_some s e
step w (at.Ended h) cs c q (Number n) s g e = none_some s e
step w (at.Ended h) cs c q t s g e = none_some s e

-- what a reader that took these tokens keeps, and has read
abbrev pub IsBehind : Bool → Reader → List Token → Reader → Type 0
IsBehind w r ts s = IsGood w s.place s.clauses s.current s.soft × (spelled s.place s.clauses s.current ≡ spelled r.place r.clauses r.current ++ ts)

after_one : (w : Bool) (t : Token) (ts : List Token) (r s : Reader) (o : Option Reader) → next r t ≡ o → run ts o ≡ Some s → IsGood w r.place r.clauses r.current r.soft
    → ((q : Reader) → IsGood w q.place q.clauses q.current q.soft → run ts (Some q) ≡ Some s → IsBehind w q ts s) → IsBehind w r (t ∷ ts) s
after_one w t ts r s None is f g go = none_some s (sym (run-none ts) ∙ f)
after_one w t ts r s (Some q) is f g go =
    let one = step w r.place r.clauses r.current r.soft t q g is in
    let all = go q one.0 f in
    (all.0, all.1 ∙ ap (λ (k : List Token). k ++ ts) one.1 ∙ append_assoc (spelled r.place r.clauses r.current) (t ∷ []) ts)

-- a reader that took these tokens is good, and has read just these more
pub steps : (w : Bool) (ts : List Token) (r s : Reader) → IsGood w r.place r.clauses r.current r.soft → run ts (Some r) ≡ Some s → IsBehind w r ts s
steps w [] r s g e =
    subst (λ (x : Reader). IsGood w x.place x.clauses x.current x.soft × (spelled x.place x.clauses x.current ≡ spelled r.place r.clauses r.current ++ [])) (is_that r s e)
    (g, sym (append-nil (spelled r.place r.clauses r.current)))
steps w (t ∷ ts) r s g e = after_one w t ts r s (next r t) refl e g (λ q good more. steps w ts q s good more)
