-- Hosts that are proper among the variables around them, and statements that are typed for both sides.
use Rattle.std.proofs.Common.{◌≡◌, true, List, ◌++◌, map, Some}
use Rattle.std.specs.List.{list_all}
use Rattle.mig_schema.specs.declared.faults.Side.{Side}
use Rattle.mig_schema.specs.declared.tables.Kind.{Kind}
use Rattle.mig_schema.specs.declared.programs.Function.{Function}
use Rattle.mig_schema.specs.declared.programs.Stmt.{Stmt}
use Rattle.mig_schema.specs.Typed.{piece_of, scalars_of, IsTypedPiece}
use Rattle.mig_meaning.specs.States.{label_fits}
use Rattle.mig_algebra.specs.declared.atoms.Var.{Var}
use Rattle.mig_algebra.specs.declared.terms.Term.{Term}
use Rattle.mig_algebra.specs.Proper.{Sides, schema_of, var_fits, atom_kind, lit_fits, lit_oriented}

-- a host that is proper among the variables around it, with a head of these kinds
pub record IsProperHost (p : Sides) (scope : List Var) (kinds : List Kind) (t : Term) : Type 0 where
  pub vars : list_all (var_fits p) t.vars ≡ true
  pub fits : list_all (lit_fits p (scope ++ t.vars)) t.lits ≡ true
  pub oriented : list_all lit_oriented t.lits ≡ true
  pub head : map (atom_kind p (scope ++ t.vars)) t.head ≡ map Some kinds

-- a typed statement of a side, of a function that has the parameters of both
pub record TypedFor (p : Sides) (f : Function) (side : Side) (stmt : Stmt) : Type 0 where
  pub source : f.params ≡ p.source_fn.params
  pub target : f.params ≡ p.target_fn.params
  pub typed : IsTypedPiece (schema_of p side) f (piece_of stmt)
  pub labels : list_all label_fits (scalars_of (piece_of stmt)) ≡ true
