-- The orders of atoms, variables, literals and terms are total, and tie equal values alone.
use Rattle.std.proofs.Common.{◌≡◌, ℕ, ℤ, Bool, true, false, List, [], ◌∷◌, pos, refl, sym, ap, ap₂, ◌∙◌}
use Rattle.std.specs.Cmp.{IsTotalOrder}
use Rattle.std.specs.Cmp.Lexicographic.{slice_cmp}
use Rattle.std.specs.declared.cmp.Ordering.{Ordering}
use Rattle.std.specs.declared.cmp.Ordering.TheVariants.{Less, Equal, Greater}
use Rattle.std.specs.Ordering.{nat_cmp, int_cmp, bool_cmp, ordering_then}
use Rattle.std.proofs.lemmas.Cmp.{ranked, int_ranked}
use Rattle.mig_schema.specs.declared.faults.Side.{Side}
use Rattle.mig_schema.specs.declared.faults.Side.TheVariants.{Old, New}
use Rattle.mig_schema.specs.declared.programs.Op.{Op}
use Rattle.mig_schema.specs.declared.programs.Op.TheVariants.{Eq, Ne, Lt, Le, Gt, Ge}
use Rattle.mig_meaning.specs.Lists.{bit}
use Rattle.mig_algebra.specs.declared.atoms.Var.{Var}
use Rattle.mig_algebra.specs.declared.atoms.Atom.{Atom}
use Rattle.mig_algebra.specs.declared.atoms.Atom.TheVariants.{Int, Text, Param, Fresh, Col}
use Rattle.mig_algebra.specs.declared.literals.Lit.{Lit, Cmp, Other, Any', Row_of-Lit, end_of-Lit, more_of-Lit, items-the_row-Lit, roll-Lit, roll-out-Lit}
use Rattle.mig_algebra.specs.declared.literals.Lit.TheVariants.{Any}
use Rattle.mig_algebra.specs.declared.literals.Lit.TheViews.{rolls-Any, outs-Any'}
use Rattle.mig_algebra.specs.declared.literals.Lit.TheBlock.{items_shown-the_row-Lit-0, shown-the_row-Lit-0}
use mathlib.Core.Former.{list_count, this}
use Rattle.mig_algebra.specs.declared.terms.Term.{Term}
use Rattle.mig_algebra.specs.Atoms.{atom_order}
use Rattle.mig_algebra.specs.Orders.{side_rank, var_order, op_rank, lit_order, row_order, term_order}
use Rattle.mig_algebra.specs.Tidied.{Slot, slot_order}
use Rattle.mig_algebra.proofs.Totals.{Spells, then-assoc, total-spelled, code_order, list_code, list-spelled, nat_code, nat-spelled}

-- ---- what spells an atom, a variable, a literal, a term

nat_spells : Spells nat_cmp nat_code
nat_spells = record { by = nat-spelled }

-- three orders in turn
three : (a b c d : Ordering) → ordering_then a (ordering_then b (ordering_then c d)) ≡ ordering_then (ordering_then a (ordering_then b c)) d
three a b c d = ap (ordering_then a) (sym (then-assoc b c d)) ∙ sym (then-assoc a (ordering_then b c) d)

abbrev atom_code : Atom → List ℤ → List ℤ
atom_code (Int i) u = pos 0 ∷ (i ∷ u)
atom_code (Text t) u = pos 1 ∷ list_code nat_code t u
atom_code (Param p) u = pos 2 ∷ nat_code p u
atom_code (Fresh n) u = pos 3 ∷ nat_code n u
atom_code (Col v c) u = pos 4 ∷ nat_code v (nat_code c u)

atom-spelled : (a b : Atom) (u v : List ℤ) → code_order (atom_code a u) (atom_code b v) ≡ ordering_then (atom_order a b) (code_order u v)
atom-spelled (Int i) (Int j) u v = refl
atom-spelled (Text s) (Text t) u v = list-spelled nat_cmp nat_code nat_spells s t u v
atom-spelled (Param p) (Param q) u v = nat-spelled p q u v
atom-spelled (Fresh m) (Fresh n) u v = nat-spelled m n u v
atom-spelled (Col x c) (Col y d) u v =
    nat-spelled x y (nat_code c u) (nat_code d v)
    ∙ ap (ordering_then (nat_cmp x y)) (nat-spelled c d u v)
    ∙ sym (then-assoc (nat_cmp x y) (nat_cmp c d) (code_order u v))
atom-spelled a b u v = refl

atom_spells : Spells atom_order atom_code
atom_spells = record { by = atom-spelled }

abbrev var_code : Var → List ℤ → List ℤ
var_code v u = nat_code (side_rank v.side) (nat_code v.table (nat_code v.stage u))

var-spelled : (x y : Var) (u v : List ℤ) → code_order (var_code x u) (var_code y v) ≡ ordering_then (var_order x y) (code_order u v)
var-spelled x y u v =
    nat-spelled (side_rank x.side) (side_rank y.side) (nat_code x.table (nat_code x.stage u)) (nat_code y.table (nat_code y.stage v))
    ∙ ap (ordering_then (nat_cmp (side_rank x.side) (side_rank y.side))) (nat-spelled x.table y.table (nat_code x.stage u) (nat_code y.stage v) ∙ ap (ordering_then (nat_cmp x.table y.table)) (nat-spelled x.stage y.stage u v))
    ∙ three (nat_cmp (side_rank x.side) (side_rank y.side)) (nat_cmp x.table y.table) (nat_cmp x.stage y.stage) (code_order u v)

var_spells : Spells var_order var_code
var_spells = record { by = var-spelled }

bool-spelled : (a b : Bool) (u v : List ℤ) → code_order (nat_code (bit a) u) (nat_code (bit b) v) ≡ ordering_then (bool_cmp a b) (code_order u v)
bool-spelled false false u v = refl
bool-spelled false true u v = refl
bool-spelled true false u v = refl
bool-spelled true true u v = refl

abbrev mutual
  lit_code : Lit → List ℤ → List ℤ
  lit_code (Cmp op a b) u = pos 0 ∷ nat_code (op_rank op) (atom_code a (atom_code b u))
  lit_code (Other a b) u = pos 1 ∷ nat_code a (nat_code b u)
  lit_code (Any' held vars n lits) u = pos 2 ∷ nat_code (bit held) (list_code var_code vars (row_code lits u))

  row_code : {m : _} → Row_of-Lit m → List ℤ → List ℤ
  row_code end_of-Lit u = pos 0 ∷ u
  row_code (more_of-Lit l rest) u = pos 1 ∷ lit_code l (row_code rest u)

mutual
  lit-spelled : (l l' : Lit) (u v : List ℤ) → code_order (lit_code l u) (lit_code l' v) ≡ ordering_then (lit_order l l') (code_order u v)
  lit-spelled (Cmp op a b) (Cmp op' a' b') u v =
      nat-spelled (op_rank op) (op_rank op') (atom_code a (atom_code b u)) (atom_code a' (atom_code b' v))
      ∙ ap (ordering_then (nat_cmp (op_rank op) (op_rank op'))) (atom-spelled a a' (atom_code b u) (atom_code b' v) ∙ ap (ordering_then (atom_order a a')) (atom-spelled b b' u v))
      ∙ three (nat_cmp (op_rank op) (op_rank op')) (atom_order a a') (atom_order b b') (code_order u v)
  lit-spelled (Other a b) (Other a' b') u v =
      nat-spelled a a' (nat_code b u) (nat_code b' v)
      ∙ ap (ordering_then (nat_cmp a a')) (nat-spelled b b' u v)
      ∙ sym (then-assoc (nat_cmp a a') (nat_cmp b b') (code_order u v))
  lit-spelled (Any' held vars n lits) (Any' held' vars' n' lits') u v =
      bool-spelled held held' (list_code var_code vars (row_code lits u)) (list_code var_code vars' (row_code lits' v))
      ∙ ap (ordering_then (bool_cmp held held')) (list-spelled var_order var_code var_spells vars vars' (row_code lits u) (row_code lits' v) ∙ ap (ordering_then (slice_cmp var_order vars vars')) (row-spelled lits lits' u v))
      ∙ three (bool_cmp held held') (slice_cmp var_order vars vars') (row_order lits lits') (code_order u v)
  lit-spelled l l' u v = refl

  row-spelled : {m : _} (r : Row_of-Lit m) {m' : _} (r' : Row_of-Lit m') (u v : List ℤ) → code_order (row_code r u) (row_code r' v) ≡ ordering_then (row_order r r') (code_order u v)
  row-spelled end_of-Lit end_of-Lit u v = refl
  row-spelled end_of-Lit (more_of-Lit l' rest') u v = refl
  row-spelled (more_of-Lit l rest) end_of-Lit u v = refl
  row-spelled (more_of-Lit l rest) (more_of-Lit l' rest') u v =
      lit-spelled l l' (row_code rest u) (row_code rest' v)
      ∙ ap (ordering_then (lit_order l l')) (row-spelled rest rest' u v)
      ∙ sym (then-assoc (lit_order l l') (row_order rest rest') (code_order u v))

lit_spells : Spells lit_order lit_code
lit_spells = record { by = lit-spelled }

abbrev term_code : Term → List ℤ → List ℤ
term_code t u = list_code var_code t.vars (list_code lit_code t.lits (list_code atom_code t.head u))

term-spelled : (t t' : Term) (u v : List ℤ) → code_order (term_code t u) (term_code t' v) ≡ ordering_then (term_order t t') (code_order u v)
term-spelled t t' u v =
    list-spelled var_order var_code var_spells t.vars t'.vars (list_code lit_code t.lits (list_code atom_code t.head u)) (list_code lit_code t'.lits (list_code atom_code t'.head v))
    ∙ ap (ordering_then (slice_cmp var_order t.vars t'.vars)) (list-spelled lit_order lit_code lit_spells t.lits t'.lits (list_code atom_code t.head u) (list_code atom_code t'.head v) ∙ ap (ordering_then (slice_cmp lit_order t.lits t'.lits)) (list-spelled atom_order atom_code atom_spells t.head t'.head u v))
    ∙ three (slice_cmp var_order t.vars t'.vars) (slice_cmp lit_order t.lits t'.lits) (slice_cmp atom_order t.head t'.head) (code_order u v)

slot_code : Slot → List ℤ → List ℤ
slot_code p u = var_code p.var (nat_code p.number u)

slot-spelled : (p q : Slot) (u v : List ℤ) → code_order (slot_code p u) (slot_code q v) ≡ ordering_then (slot_order p q) (code_order u v)
unfolding slot_code
slot-spelled p q u v =
    var-spelled p.var q.var (nat_code p.number u) (nat_code q.number v)
    ∙ ap (ordering_then (var_order p.var q.var)) (nat-spelled p.number q.number u v)
    ∙ sym (then-assoc (var_order p.var q.var) (nat_cmp p.number q.number) (code_order u v))

-- ---- the orders are total

pub atom_total : IsTotalOrder atom_order
atom_total = total-spelled atom_order atom_code atom_spells

pub var_total : IsTotalOrder var_order
var_total = total-spelled var_order var_code var_spells

pub lit_total : IsTotalOrder lit_order
lit_total = total-spelled lit_order lit_code lit_spells

pub term_total : IsTotalOrder term_order
term_total = total-spelled term_order term_code (record { by = term-spelled })

pub slot_total : IsTotalOrder slot_order
slot_total = total-spelled slot_order slot_code (record { by = slot-spelled })

-- ---- what ties is equal

-- both orders tie
pub then-tie : (a b : Ordering) → ordering_then a b ≡ Equal → (a ≡ Equal) × (b ≡ Equal)
then-tie Less b h = cc
then-tie Equal b h = (refl, h)
then-tie Greater b h = cc

nat-tie : (m n : ℕ) → nat_cmp m n ≡ Equal → m ≡ n
nat-tie m n h = ranked m n Equal (sym h)

int-tie : (i j : ℤ) → int_cmp i j ≡ Equal → i ≡ j
int-tie i j h = int_ranked i j Equal (sym h)

-- of lists too
pub list-tie : {A : Type 0} (R : A → A → Ordering) → ((x y : A) → R x y ≡ Equal → x ≡ y) → (xs ys : List A) → slice_cmp R xs ys ≡ Equal → xs ≡ ys
list-tie R tie [] [] h = refl
list-tie R tie [] (y ∷ ys) h = cc
list-tie R tie (x ∷ xs) [] h = cc
list-tie R tie (x ∷ xs) (y ∷ ys) h =
    let both = then-tie (R x y) (slice_cmp R xs ys) h in
    ap₂ (λ a as'. a ∷ as') (tie x y both.0) (list-tie R tie xs ys both.1)

pub atom_tie : (a b : Atom) → atom_order a b ≡ Equal → a ≡ b
atom_tie (Int i) (Int j) h = ap Int (int-tie i j h)
atom_tie (Text s) (Text t) h = ap Text (list-tie nat_cmp nat-tie s t h)
atom_tie (Param p) (Param q) h = ap Param (nat-tie p q h)
atom_tie (Fresh m) (Fresh n) h = ap Fresh (nat-tie m n h)
atom_tie (Col v c) (Col w d) h = let both = then-tie (nat_cmp v w) (nat_cmp c d) h in ap₂ Col (nat-tie v w both.0) (nat-tie c d both.1)
atom_tie a b h = cc

side-tie : (a b : Side) → nat_cmp (side_rank a) (side_rank b) ≡ Equal → a ≡ b
side-tie Old Old h = refl
side-tie New New h = refl
side-tie a b h = cc

made : Side → ℕ → ℕ → Var
made side table stage = record { side = side; table = table; stage = stage }

pub var_tie : (v w : Var) → var_order v w ≡ Equal → v ≡ w
unfolding made
var_tie v w h =
    let first = then-tie (nat_cmp (side_rank v.side) (side_rank w.side)) (ordering_then (nat_cmp v.table w.table) (nat_cmp v.stage w.stage)) h in
    let more = then-tie (nat_cmp v.table w.table) (nat_cmp v.stage w.stage) first.1 in
    ap₂ (λ (side : Side) (table : ℕ). made side table v.stage) (side-tie v.side w.side first.0) (nat-tie v.table w.table more.0)
    ∙ ap (made w.side w.table) (nat-tie v.stage w.stage more.1)

op-tie : (a b : Op) → nat_cmp (op_rank a) (op_rank b) ≡ Equal → a ≡ b
op-tie Eq Eq h = refl
op-tie Ne Ne h = refl
op-tie Lt Lt h = refl
op-tie Le Le h = refl
op-tie Gt Gt h = refl
op-tie Ge Ge h = refl
op-tie a b h = cc

bool-tie : (a b : Bool) → bool_cmp a b ≡ Equal → a ≡ b
bool-tie false false h = refl
bool-tie false true h = cc
bool-tie true false h = cc
bool-tie true true h = refl

-- a body by the list of its literals is the body by their row
pub by_list : (held : Bool) (vars : List Var) (n : List (Unit {0})) (lits : Row_of-Lit (list_count this n 0)) → Any held (record { vars = vars; lits = items-the_row-Lit _ lits }) ≡ Any' held vars n lits
by_list held vars n lits =
    let inner = λ (xs : List Lit). Any held (record { vars = vars; lits = xs }) in
    ap inner (sym (items_shown-the_row-Lit-0 n lits))
    ∙ sym (rolls-Any held (record { vars = vars; lits = shown-the_row-Lit-0 n lits }))
    ∙ ap roll-Lit (sym (outs-Any' held vars n lits))
    ∙ roll-out-Lit (Any' held vars n lits)

mutual
  pub lit_tie : (l l' : Lit) → lit_order l l' ≡ Equal → l ≡ l'
  lit_tie (Cmp op a b) (Cmp op' a' b') h =
      let first = then-tie (nat_cmp (op_rank op) (op_rank op')) (ordering_then (atom_order a a') (atom_order b b')) h in
      let more = then-tie (atom_order a a') (atom_order b b') first.1 in
      ap (λ o. Cmp o a b) (op-tie op op' first.0) ∙ ap₂ (Cmp op') (atom_tie a a' more.0) (atom_tie b b' more.1)
  lit_tie (Other a b) (Other a' b') h = let both = then-tie (nat_cmp a a') (nat_cmp b b') h in ap₂ Other (nat-tie a a' both.0) (nat-tie b b' both.1)
  lit_tie (Any' held vars n lits) (Any' held' vars' n' lits') h =
      let first = then-tie (bool_cmp held held') (ordering_then (slice_cmp var_order vars vars') (row_order lits lits')) h in
      let more = then-tie (slice_cmp var_order vars vars') (row_order lits lits') first.1 in
      sym (by_list held vars n lits)
      ∙ ap (λ (b : Bool). Any b (record { vars = vars; lits = items-the_row-Lit _ lits })) (bool-tie held held' first.0)
      ∙ ap₂ (λ (vs : List Var) (ls : List Lit). Any held' (record { vars = vs; lits = ls })) (list-tie var_order var_tie vars vars' more.0) (row_tie lits lits' more.1)
      ∙ by_list held' vars' n' lits'
  lit_tie l l' h = cc

  row_tie : {m : _} (r : Row_of-Lit m) {m' : _} (r' : Row_of-Lit m') → row_order r r' ≡ Equal → items-the_row-Lit m r ≡ items-the_row-Lit m' r'
  row_tie end_of-Lit end_of-Lit h = refl
  row_tie end_of-Lit (more_of-Lit l' rest') h = cc
  row_tie (more_of-Lit l rest) end_of-Lit h = cc
  row_tie (more_of-Lit l rest) (more_of-Lit l' rest') h =
      let both = then-tie (lit_order l l') (row_order rest rest') h in
      ap₂ (λ x xs. x ∷ xs) (lit_tie l l' both.0) (row_tie rest rest' both.1)

pub term_tie : (t t' : Term) → term_order t t' ≡ Equal → t ≡ t'
term_tie t t' h =
    let first = then-tie (slice_cmp var_order t.vars t'.vars) (ordering_then (slice_cmp lit_order t.lits t'.lits) (slice_cmp atom_order t.head t'.head)) h in
    let more = then-tie (slice_cmp lit_order t.lits t'.lits) (slice_cmp atom_order t.head t'.head) first.1 in
    ap₂ (λ (vs : List Var) (ls : List Lit). record { vars = vs; lits = ls; head = t.head }) (list-tie var_order var_tie t.vars t'.vars first.0) (list-tie lit_order lit_tie t.lits t'.lits more.0)
    ∙ ap (λ (hs : List Atom). record { vars = t'.vars; lits = t'.lits; head = hs }) (list-tie atom_order atom_tie t.head t'.head more.1)

pub slot_tie : (p q : Slot) → slot_order p q ≡ Equal → p ≡ q
slot_tie p q h =
    let both = then-tie (var_order p.var q.var) (nat_cmp p.number q.number) h in
    ap₂ (λ (n : ℕ) (v : Var). record { number = n; var = v }) (nat-tie p.number q.number both.1) (var_tie p.var q.var both.0)
