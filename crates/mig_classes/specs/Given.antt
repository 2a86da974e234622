-- Which comparisons a list of literals gives, and which lists contradict themselves.
use Rattle.std.specs.Prelude.{ℕ, ◌==◌, Bool, true, false, not, ◌&&◌, ◌||◌, List, ◌∷◌, filter, slice_get, Option, Some, None}
use Rattle.std.specs.List.{list_any}
use Rattle.mig_schema.specs.declared.values.Value.{Value}
use Rattle.mig_schema.specs.declared.values.Value.TheVariants as value
use Rattle.mig_schema.specs.declared.programs.Op.{Op}
use Rattle.mig_schema.specs.declared.programs.Op.TheVariants.{Eq, Ne, Lt, Le, Gt, Ge}
use Rattle.mig_meaning.specs.Values.{compares}
use Rattle.mig_algebra.specs.declared.atoms.Var.{Var}
use Rattle.mig_algebra.specs.declared.atoms.Atom.{Atom}
use Rattle.mig_algebra.specs.declared.atoms.Atom.TheVariants.{Int, Text, Param, Fresh, Col}
use Rattle.mig_algebra.specs.declared.literals.Lit.{Lit, Cmp, Other, Any'}
use Rattle.mig_algebra.specs.Atoms.{oriented}
use Rattle.mig_algebra.specs.Orders.{op_rank}
use Rattle.mig_classes.specs.Classes.{one_class, equated}

-- ---- pairs of atoms

-- the value of a constant
abbrev pub constant : Atom → Option Value
constant (Int i) = Some (value.Int i)
constant (Text t) = Some (value.Text t)
constant (Param p) = None
constant (Fresh n) = None
constant (Col v c) = None

-- whether both are constants that compare so
abbrev pub both_compare : Op → Option Value → Option Value → Bool
both_compare op (Some a) (Some b) = compares op a b
both_compare op None b = false
both_compare op (Some a) None = false

-- the comparison of two constants
abbrev pub constants_compare : Op → Atom → Atom → Bool
constants_compare op a b = both_compare op (constant a) (constant b)

-- whether a variable is there and of stage 0
abbrev pub is_first_stage : Option Var → Bool
is_first_stage None = false
is_first_stage (Some w) = w.stage == 0

-- whether a variable ranges over the rows from before the call
abbrev pub is_from_before : List Var → ℕ → Bool
is_from_before scope v = is_first_stage (slice_get scope v)

-- two keys that differ: of two labels, or of a label and a column of a row from before the call
abbrev pub keys_differ : List Var → Atom → Atom → Bool
keys_differ scope (Fresh m) (Fresh n) = not (m == n)
keys_differ scope (Fresh m) (Col v c) = is_from_before scope v
keys_differ scope (Col v c) (Fresh n) = is_from_before scope v
keys_differ scope a b = false

-- the atoms of an atom's class, itself among them
abbrev pub class_of : List Lit → Atom → List Atom
class_of ls a = filter (one_class ls a) (a ∷ equated ls)

-- whether an atom of a's class and one of b's class pass a test
abbrev pub some_of_classes : List Lit → (Atom → Atom → Bool) → Atom → Atom → Bool
some_of_classes ls test a b = list_any (λ x. list_any (test x) (class_of ls b)) (class_of ls a)

-- ---- what a list gives

-- Whether an operator is equality or at-most, which are true of each value and itself. (At-least is so too, but is kept as at-most.)
abbrev pub is_reflexive : Op → Bool
is_reflexive Eq = true
is_reflexive Ne = false
is_reflexive Lt = false
is_reflexive Le = true
is_reflexive Gt = false
is_reflexive Ge = false

-- whether the sides of an operator may be exchanged
abbrev pub is_symmetric : Op → Bool
is_symmetric Eq = true
is_symmetric Ne = true
is_symmetric Lt = false
is_symmetric Le = false
is_symmetric Gt = false
is_symmetric Ge = false

-- whether an operator is the inequality
abbrev pub is_unequal : Op → Bool
is_unequal Eq = false
is_unequal Ne = true
is_unequal Lt = false
is_unequal Le = false
is_unequal Gt = false
is_unequal Ge = false

-- whether a literal compares the classes of a and b by this operator, either way round where the operator allows it
abbrev pub says : List Lit → Op → Atom → Atom → Lit → Bool
says ls op a b (Cmp op' x y) =
    (op_rank op == op_rank op')
    && (one_class ls a x && one_class ls b y || is_symmetric op && (one_class ls a y && one_class ls b x))
says ls op a b (Other x y) = false
says ls op a b (Any' held vars n row) = false

-- Whether a list gives a comparison, these variables being in scope:
-- both sides are in one class, and the operator is true of a value and itself;
abbrev pub by_class : List Lit → Op → Atom → Atom → Bool
by_class ls op a b = is_reflexive op && one_class ls a b

-- or the comparison of a constant of the one class and a constant of the other is true;
abbrev pub by_constants : List Lit → Op → Atom → Atom → Bool
by_constants ls op a b = some_of_classes ls (constants_compare op) a b

-- or it is an inequality, of two keys that differ;
abbrev pub by_keys : List Var → List Lit → Op → Atom → Atom → Bool
by_keys scope ls op a b = is_unequal op && some_of_classes ls (keys_differ scope) a b

-- or a literal of the list says so.
abbrev pub given : List Var → List Lit → Op → Atom → Atom → Bool
given scope ls op a b = by_class ls op a b || (by_constants ls op a b || (by_keys scope ls op a b || list_any (says ls op a b) ls))

-- whether a literal is a comparison that the list gives
abbrev pub is_given : List Var → List Lit → Lit → Bool
is_given scope ls (Cmp op a b) = given scope ls op a b
is_given scope ls (Other x y) = false
is_given scope ls (Any' held vars n row) = false

-- ---- contradictory lists

-- the operator that is true where this one is not
abbrev pub negated : Op → Op
negated Eq = Ne
negated Ne = Eq
negated Lt = Ge
negated Le = Gt
negated Gt = Le
negated Ge = Lt

-- whether a literal has a complement: a comparison or a body
abbrev pub has_complement : Lit → Bool
has_complement (Cmp op a b) = true
has_complement (Other x y) = false
has_complement (Any' held vars n row) = true

-- The literal that is true where this comparison or body is not. An `Other` has none, and stays.
abbrev pub complement : Lit → Lit
complement (Cmp op a b) = oriented (negated op) a b
complement (Other x y) = Other x y
complement (Any' held vars n row) = Any' (not held) vars n row

-- whether a literal is a comparison whose complement the list gives
abbrev pub is_denied : List Var → List Lit → Lit → Bool
is_denied scope ls (Cmp op a b) = is_given scope ls (complement (Cmp op a b))
is_denied scope ls (Other x y) = false
is_denied scope ls (Any' held vars n row) = false

-- whether a literal parts a row from itself
abbrev pub parts_itself : Lit → Bool
parts_itself (Other x y) = x == y
parts_itself (Cmp op a b) = false
parts_itself (Any' held vars n row) = false

-- two values that are never equal: different constants, or keys that differ
abbrev pub never_equal : List Var → Atom → Atom → Bool
never_equal scope a b = constants_compare Ne a b || keys_differ scope a b

-- Whether a list contradicts itself, these variables being in scope: a class holds two values that are never equal, or the complement of one of its comparisons is given, or a row is parted from itself.
abbrev pub contradictory : List Var → List Lit → Bool
contradictory scope ls =
    list_any (λ a. some_of_classes ls (never_equal scope) a a) (equated ls)
    || (list_any (is_denied scope ls) ls || list_any parts_itself ls)
