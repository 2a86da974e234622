-- A clause that has begun can be ended.
use Rattle.std.proofs.Common.{◌≡◌, ◌⊎◌, inl, inr, ℕ, Bool, true, false, ◌||◌, ◌==◌, nat_lt, List, [], ◌∷◌, ◌++◌, length, Option, Some, None, refl, sym, ap, ◌∙◌, arith}
use Rattle.std.specs.List.{list_all}
use Rattle.std.specs.Cmp.Derive.{both_true}
use Rattle.std.proofs.lemmas.Bool.{ltb-true, eqb-true, le-leb}
use Rattle.std.proofs.lemmas.List.{append-nil}
use Rattle.std.proofs.lemmas.List.Folds.{list_all-append}
use Rattle.mig_dimacs.specs.declared.token.Number.{Number as Signed}
use Rattle.mig_dimacs.specs.Texts.{is_lit, is_weight, is_clause_of}
use Rattle.mig_dimacs.specs.Reading.{may_come}
use Rattle.mig_dimacs.proofs.Running.{left_true, right_true}

-- some numbers make it a clause
abbrev pub Ends : Option ℕ → ℕ → List Signed → Type 0
Ends top vars c = (rest : List Signed) × (is_clause_of top vars (c ++ rest) ≡ true)

-- it has not begun, or some numbers make it a clause
abbrev pub CanEnd : Option ℕ → ℕ → List Signed → Type 0
CanEnd top vars c = (c ≡ []) ⊎ Ends top vars c

-- all before are literals
lits_before : (vars : ℕ) (before rest : List Signed) → list_all (is_lit vars) (before ++ rest) ≡ true → list_all (is_lit vars) before ≡ true
lits_before vars before rest h = left_true (list_all (is_lit vars) before) (list_all (is_lit vars) rest) (sym (list_all-append (is_lit vars) before rest) ∙ h)

one_more : (vars : ℕ) (c : List Signed) (n : Signed) → list_all (is_lit vars) c ≡ true → is_lit vars n ≡ true → list_all (is_lit vars) (c ++ n ∷ []) ≡ true
one_more vars c n h is = list_all-append (is_lit vars) c (n ∷ []) ∙ both_true h (both_true is refl)

is_one : (b : Bool) (ls : List Signed) (n : Signed) → (b || (length ls == 0)) ≡ true → (b || (length (ls ++ n ∷ []) == 1)) ≡ true
is_one true ls n h = refl
is_one false [] n h = refl
is_one false (l ∷ ls) n h = absurd (omega (arith, eqb-true (length (l ∷ ls)) 0 h))

has_one : (vars : ℕ) → nat_lt 0 vars ≡ true → is_lit vars (record { negative = false; size = 1 }) ≡ true
has_one vars h = le-leb 1 vars (omega (arith, ltb-true 0 vars h))

first_ends : (t vars : ℕ) (n : Signed) (b : Bool) → (n.size == t) ≡ b → is_weight t n ≡ true → (b || nat_lt 0 vars) ≡ true → Ends (Some t) vars (n ∷ [])
first_ends t vars n true e w h = ([], both_true w (ap (λ b. b || false) e))
first_ends t vars n false e w h = (record { negative = false; size = 1 } ∷ [], both_true w (both_true (both_true (has_one vars h) refl) (ap (λ b. b || true) e)))

pub ends_after : (top : Option ℕ) (vars : ℕ) (c : List Signed) (n : Signed) → may_come top vars c n ≡ true → CanEnd top vars c → Ends top vars (c ++ n ∷ [])
ends_after None vars c n m p = ([], ap (list_all (is_lit vars)) (append-nil (c ++ n ∷ [])) ∙ one_more vars c n (before p) m)
  where
    before : CanEnd None vars c → list_all (is_lit vars) c ≡ true
    before (inl nil) = ap (list_all (is_lit vars)) nil
    before (inr e) = lits_before vars c e.0 e.1
ends_after (Some t) vars [] n m p =
    first_ends t vars n (n.size == t) refl (left_true (is_weight t n) ((n.size == t) || nat_lt 0 vars) m) (right_true (is_weight t n) ((n.size == t) || nat_lt 0 vars) m)
ends_after (Some t) vars (w ∷ ls) n m (inl nil) = absurd (clash nil)
  where
    clash : w ∷ ls ≡ [] → ⊥
    clash e = cc
ends_after (Some t) vars (w ∷ ls) n m (inr e) =
    let weight = left_true (is_weight t w) _ e.1 in
    let lits = lits_before vars ls e.0 (left_true (list_all (is_lit vars) (ls ++ e.0)) _ (right_true (is_weight t w) _ e.1)) in
    ([], ap (is_clause_of (Some t) vars) (append-nil (w ∷ (ls ++ n ∷ []))) ∙ both_true weight (both_true (one_more vars ls n lits (left_true (is_lit vars n) _ m)) (is_one (w.size == t) ls n (right_true (is_lit vars n) _ m))))
