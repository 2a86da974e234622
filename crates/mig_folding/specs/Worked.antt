-- Worked: what small terms and bodies become by a fold, and where they become nothing.
use Rattle.std.specs.Prelude.{◌≡◌, ℕ, true, [], ◌∷◌, Some, None, refl}
use Rattle.mig_schema.specs.declared.faults.Side.TheVariants.{Old, New}
use Rattle.mig_schema.specs.declared.tables.ColId.{ColId}
use Rattle.mig_schema.specs.declared.programs.Op.TheVariants.{Eq, Ne}
use Rattle.mig_meaning.specs.declared.relating.View.{View}
use Rattle.mig_meaning.specs.declared.relating.Invariant.TheVariants.{Views}
use Rattle.mig_algebra.specs.declared.atoms.Atom.TheVariants.{Param, Col}
use Rattle.mig_algebra.specs.declared.literals.Lit.{Cmp, Other}
use Rattle.mig_algebra.specs.declared.literals.Lit.TheVariants.{Any}
use Rattle.mig_algebra.specs.Obligations.{var_of}
use Rattle.mig_folding.specs.Folding.{fold_of, foldin_of}
use Rattle.mig_folding.specs.Foldins.{foldin_args}
use Rattle.mig_folding.specs.Folds.{fold, fold_args}

abbrev at : ℕ → ℕ → ColId
at t c = record { table = t; column = c }

-- tables 0 and 1, joined on 0.1 = 1.0
abbrev pair : View
pair = record { join = record { first = 0; more = record { table = 1; left = at 0 1; right = at 1 0 } ∷ [] }; outs = at 0 0 ∷ (at 1 1 ∷ (at 1 0 ∷ [])) }

-- table 0 alone
abbrev single : View
single = record { join = record { first = 0; more = [] }; outs = at 0 0 ∷ (at 0 1 ∷ (at 0 2 ∷ [])) }

-- two named variables, in another order and behind another, become one; their equality goes, and a column that is no output is written by its class
both-to-one : fold_of pair single (2 ∷ (1 ∷ [])) (record {
  vars = var_of New 0 3 ∷ (var_of Old 0 1 ∷ (var_of Old 0 0 ∷ []));
  lits = Cmp Eq (Col 1 0) (Col 2 1) ∷ (Cmp Eq (Col 0 0) (Col 2 1) ∷ (Cmp Ne (Param 0) (Col 1 1) ∷ []));
  head = Col 2 0 ∷ (Col 1 1 ∷ (Col 0 5 ∷ []));
}) ≡ Some (record {
  vars = var_of New 0 3 ∷ (var_of New 0 0 ∷ []);
  lits = Cmp Eq (Col 0 0) (Col 1 2) ∷ (Cmp Ne (Param 0) (Col 1 1) ∷ []);
  head = Col 1 0 ∷ (Col 1 1 ∷ (Col 0 5 ∷ []));
})
both-to-one = refl

-- one becomes two, between others, with the new equality behind
one-to-both : fold_of single pair (1 ∷ []) (record {
  vars = var_of New 0 3 ∷ (var_of Old 0 0 ∷ (var_of New 0 4 ∷ []));
  lits = Other 0 2 ∷ (Cmp Eq (Col 1 1) (Col 2 0) ∷ []);
  head = Col 1 2 ∷ [];
}) ≡ Some (record {
  vars = var_of New 0 3 ∷ (var_of New 0 4 ∷ (var_of New 0 0 ∷ (var_of New 0 1 ∷ [])));
  lits = Other 0 1 ∷ (Cmp Eq (Col 1 0) (Col 3 1) ∷ (Cmp Eq (Col 2 1) (Col 3 0) ∷ []));
  head = Col 3 0 ∷ [];
})
one-to-both = refl

-- the join's equality is not given
not-joined : fold_of pair single (0 ∷ (1 ∷ [])) (record { vars = var_of Old 0 0 ∷ (var_of Old 0 1 ∷ []); lits = []; head = Col 0 0 ∷ [] }) ≡ None
not-joined = refl

-- it is given through others
given-through : fold_of pair single (0 ∷ (1 ∷ [])) (record { vars = var_of Old 0 0 ∷ (var_of Old 0 1 ∷ []); lits = Cmp Eq (Param 0) (Col 0 1) ∷ (Cmp Eq (Param 0) (Col 1 0) ∷ []); head = Col 0 0 ∷ [] })
    ≡ Some (record { vars = var_of New 0 0 ∷ []; lits = Cmp Eq (Param 0) (Col 0 2) ∷ (Cmp Eq (Param 0) (Col 0 2) ∷ []); head = Col 0 0 ∷ [] })
given-through = refl

-- a column whose class holds no output stands in the head
no-output : fold_of pair single (0 ∷ (1 ∷ [])) (record { vars = var_of Old 0 0 ∷ (var_of Old 0 1 ∷ []); lits = Cmp Eq (Col 0 1) (Col 1 0) ∷ []; head = Col 0 7 ∷ [] }) ≡ None
no-output = refl

-- a named variable stands in an `Other`; one is named twice; one of a later stage
in-other : fold_of single single (0 ∷ []) (record { vars = var_of Old 0 0 ∷ (var_of Old 0 0 ∷ []); lits = Other 0 1 ∷ []; head = [] }) ≡ None
in-other = refl

twice : fold_of pair pair (0 ∷ (0 ∷ [])) (record { vars = var_of Old 0 0 ∷ []; lits = []; head = [] }) ≡ None
twice = refl

later : fold_of single single (0 ∷ []) (record { vars = var_of Old 1 0 ∷ []; lits = []; head = [] }) ≡ None
later = refl

-- a body under two variables, whose equality is given around it
in-body : foldin_of pair single (3 ∷ (2 ∷ [])) (var_of New 0 5 ∷ (var_of New 0 6 ∷ [])) (Cmp Eq (Col 0 0) (Col 1 0) ∷ []) (record {
  vars = var_of Old 0 1 ∷ (var_of Old 0 0 ∷ []);
  lits = Cmp Eq (Col 0 0) (Col 3 1) ∷ (Cmp Eq (Col 1 0) (Col 2 0) ∷ []);
}) ≡ Some (record { vars = var_of New 0 0 ∷ []; lits = Cmp Eq (Col 0 0) (Col 2 2) ∷ (Cmp Eq (Col 1 0) (Col 2 2) ∷ []) })
in-body = refl

-- ---- the rules

-- one table of two columns by another
abbrev rows : View
rows = record { join = record { first = 0; more = [] }; outs = at 0 0 ∷ (at 0 1 ∷ []) }

-- the old table's rows are the new one's
renamed : fold (Views rows rows ∷ []) (0 ∷ (0 ∷ [])) (record { vars = var_of Old 0 0 ∷ []; lits = []; head = Col 0 0 ∷ (Col 0 1 ∷ []) })
    ≡ Some (record { vars = var_of New 0 0 ∷ []; lits = []; head = Col 0 0 ∷ (Col 0 1 ∷ []) } ∷ [])
renamed = refl

-- a variable too many, and an invariant that is not there
one-too-many : fold (Views rows rows ∷ []) (0 ∷ (0 ∷ (1 ∷ []))) (record { vars = var_of Old 0 0 ∷ (var_of Old 0 0 ∷ []); lits = []; head = [] }) ≡ None
one-too-many = refl

no-view : fold (Views rows rows ∷ []) (1 ∷ (0 ∷ [])) (record { vars = var_of Old 0 0 ∷ []; lits = []; head = [] }) ≡ None
no-view = refl

-- two views are tried: of one table, with each of its variables; of two, with those alone that are joined
tried : fold_args (Views single pair ∷ (Views pair single ∷ [])) (record {
  vars = var_of Old 0 0 ∷ (var_of Old 0 1 ∷ (var_of Old 0 0 ∷ []));
  lits = Cmp Eq (Col 1 0) (Col 2 1) ∷ [];
  head = [];
}) ≡ (0 ∷ (0 ∷ [])) ∷ ((0 ∷ (2 ∷ [])) ∷ ((1 ∷ (2 ∷ (1 ∷ []))) ∷ []))
tried = refl

-- in a body its own variables alone
tried-in : foldin_args (Views single pair ∷ []) (0 ∷ []) (record { vars = var_of Old 0 0 ∷ []; lits = Any true (record { vars = var_of Old 0 0 ∷ []; lits = [] }) ∷ []; head = [] })
    ≡ (0 ∷ (1 ∷ [])) ∷ []
tried-in = refl
