-- The literals of a text are in range.
use Rattle.std.proofs.Common.{◌≡◌, ℕ, ◌<◌, true, nat_le, nat_lt, List, [], ◌∷◌, map, Option, Some, None, is_some, All, false, arith}
use Rattle.std.specs.List.{list_all}
use Rattle.std.proofs.lemmas.Bool.{ltb-true, leb-true}
use Rattle.std.proofs.lemmas.List.Elements.{All-nil, All-cons}
use Rattle.mig_sat.specs.declared.clauses.SatLit.{SatLit}
use Rattle.mig_sat.specs.Models.{IsInRange}
use Rattle.mig_dimacs.specs.declared.token.Number.{Number as Signed}
use Rattle.mig_dimacs.specs.declared.text.Text.{Text}
use Rattle.mig_dimacs.specs.Texts.{is_lit, is_clause_of, IsWhole}
use Rattle.mig_dimacs.specs.Formulas.{lit_of, lits_of, cnf_of}
use Rattle.mig_dimacs.proofs.Running.{left_true, right_true}

pub below : (vars : ℕ) (n : Signed) → is_lit vars n ≡ true → (lit_of n).var < vars
below vars n h = omega (arith, ltb-true 0 n.size (left_true (nat_lt 0 n.size) (nat_le n.size vars) h), leb-true n.size vars (right_true (nat_lt 0 n.size) (nat_le n.size vars) h))

pub all_below : (vars : ℕ) (c : List Signed) → list_all (is_lit vars) c ≡ true → All (λ (l : SatLit). l.var < vars) (lits_of c)
all_below vars [] h = All-nil (λ (l : SatLit). l.var < vars)
all_below vars (n ∷ ns) h = All-cons (λ (l : SatLit). l.var < vars) (lit_of n) (lits_of ns) (below vars n (left_true (is_lit vars n) _ h)) (all_below vars ns (right_true (is_lit vars n) _ h))

clauses_below : (top : Option ℕ) (vars : ℕ) (cs : List (List Signed)) → is_some top ≡ false → list_all (is_clause_of top vars) cs ≡ true → All (All (λ (l : SatLit). l.var < vars)) (map lits_of cs)
clauses_below (Some t) vars cs e h = cc
clauses_below None vars [] e h = All-nil (All (λ (l : SatLit). l.var < vars))
clauses_below None vars (c ∷ cs) e h = All-cons (All (λ (l : SatLit). l.var < vars)) (lits_of c) (map lits_of cs) (all_below vars c (left_true (list_all (is_lit vars) c) _ h)) (clauses_below None vars cs e (right_true (list_all (is_lit vars) c) _ h))

pub cnf_in_range : (t : Text) → IsWhole false t → IsInRange (cnf_of t)
cnf_in_range t is = clauses_below t.head.top t.head.vars t.clauses is.kind is.clauses
