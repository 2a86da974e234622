-- The expressions of an invariant and of a query are proper.
use Rattle.std.proofs.Common.{◌≡◌, ℕ, ◌+◌, Bool, true, false, List, [], ◌∷◌, ◌++◌, map, refl, sym, ap, ap₂, ◌∙◌, arith}
use Rattle.std.specs.Prelude.{nat_lt}
use Rattle.std.specs.List.{list_all}
use Rattle.std.proofs.lemmas.Bool.{and_parts, and_from, eq-eqb, lt-ltb}
use Rattle.std.proofs.lemmas.List.Folds.{list_all-append}
use Rattle.mig_schema.specs.declared.tables.ColId.{ColId}
use Rattle.mig_schema.specs.declared.faults.Side.{Side}
use Rattle.mig_schema.specs.declared.faults.Side.TheVariants.{Old, New}
use Rattle.mig_schema.specs.declared.programs.Op.TheVariants.{Eq}
use Rattle.mig_schema.specs.declared.programs.Cmp.{Cmp}
use Rattle.mig_schema.specs.declared.programs.Query.{Query}
use Rattle.mig_schema.specs.declared.programs.Function.{Function}
use Rattle.mig_schema.specs.Columns.{has_table, has_column, kind_of, same_kind}
use Rattle.mig_schema.specs.Joins.{tables_of}
use Rattle.mig_meaning.specs.declared.relating.View.{View}
use Rattle.mig_meaning.specs.Lists.{Each}
use Rattle.mig_meaning.proofs.Within.{each-append}
use Rattle.mig_algebra.specs.declared.atoms.Atom.TheVariants as atom
use Rattle.mig_algebra.specs.Atoms.{oriented}
use Rattle.mig_algebra.specs.Obligations.{var_of, join_lits, case_lits, not_case, view_term, unique_term, apart_term, within_term, answer_from, answer_terms}
use Rattle.mig_algebra.specs.Proper.{Sides, schema_of, last_stage, var_fits, cmp_fits, lit_fits, lit_oriented, same_side, IsProperTerm}
use Rattle.mig_algebra.proofs.OrientedFits.{oriented-fits, oriented-oriented}
use Rattle.mig_algebra.proofs.SortedFits.{any_fits, any_oriented}
use Rattle.mig_algebra.proofs.Ranges.{IsJoined, JoinFits, CmpFits}
use Rattle.mig_algebra.proofs.ObligedFits.{kinds-same, column-kind, vars-in-range, head-kinds, join-lits-fit, join-lits-oriented, case-lits-fit, case-lits-oriented, not-cases-fit, not-cases-oriented}

-- a test of two lists end to end
all-both : {X : Type 0} (t : X → Bool) (xs ys : List X) → list_all t xs ≡ true → list_all t ys ≡ true → list_all t (xs ++ ys) ≡ true
all-both t xs ys h k = list_all-append t xs ys ∙ and_from (list_all t xs) (list_all t ys) h k

same-side : (a : Side) → same_side a a ≡ true
same-side Old = refl
same-side New = refl

module _ (p : Sides) (side : Side) where
  -- the last stage is a stage
  pub last-fits : nat_lt (last_stage p side) (last_stage p side + 1) ≡ true
  last-fits = lt-ltb (last_stage p side) (last_stage p side + 1) (omega arith)

  -- stage 0 is one
  pub first-fits : nat_lt 0 (last_stage p side + 1) ≡ true
  first-fits = lt-ltb 0 (last_stage p side + 1) (omega arith)

  -- ---- one or two variables

  module _ (n : ℕ) (l : nat_lt n (last_stage p side + 1) ≡ true) where
    -- a view's term
    pub view-proper : (v : View) → Each (λ t. has_table (schema_of p side) t ≡ true) (tables_of v.join) → Each (JoinFits (schema_of p side) (tables_of v.join)) v.join.more → Each (IsJoined (schema_of p side) (tables_of v.join)) v.outs → IsProperTerm p (map (kind_of (schema_of p side)) v.outs) (view_term side n v)
    view-proper v tables equal outs = record {
      vars = vars-in-range p side n l (tables_of v.join) tables;
      fits = join-lits-fit p side n (tables_of v.join) v.join.more equal;
      oriented = join-lits-oriented (tables_of v.join) v.join.more;
      head = head-kinds p side n (tables_of v.join) v.outs outs;
    }

    var-in-range : (c : ColId) → has_column (schema_of p side) c ≡ true → var_fits p (var_of side n c.table) ≡ true
    var-in-range c h = and_from _ _ (and_parts (has_table (schema_of p side) c.table) _ h).0 l

    -- a row's column against another's
    pair-fits : (c d : ColId) → has_column (schema_of p side) c ≡ true → has_column (schema_of p side) d ≡ true → kind_of (schema_of p side) c ≡ kind_of (schema_of p side) d → lit_fits p (var_of side n c.table ∷ (var_of side n d.table ∷ [])) (oriented Eq (atom.Col 0 c.column) (atom.Col 1 d.column)) ≡ true
    pair-fits c d h k e =
        oriented-fits p (var_of side n c.table ∷ (var_of side n d.table ∷ [])) Eq (atom.Col 0 c.column) (atom.Col 1 d.column)
        ∙ ap₂ (cmp_fits Eq) (column-kind p side n c h) (column-kind p side n d k)
        ∙ and_from _ true (ap (same_kind (kind_of (schema_of p side) c)) (sym e) ∙ kinds-same (kind_of (schema_of p side) c)) refl

    -- the term of `unique`
    pub unique-proper : (c : ColId) → has_column (schema_of p side) c ≡ true → IsProperTerm p [] (unique_term side n c)
    unique-proper c h = record {
      vars = and_from _ _ (var-in-range c h) (and_from _ true (var-in-range c h) refl);
      fits = and_from _ _ (and_from _ _ (same-side side) (and_from _ true (eq-eqb c.table c.table refl) refl)) (and_from _ true (pair-fits c c h h refl) refl);
      oriented = and_from _ true (oriented-oriented Eq (atom.Col 0 c.column) (atom.Col 1 c.column)) refl;
      head = refl;
    }

    -- the term of `apart`
    pub apart-proper : (c d : ColId) → has_column (schema_of p side) c ≡ true → has_column (schema_of p side) d ≡ true → kind_of (schema_of p side) c ≡ kind_of (schema_of p side) d → IsProperTerm p [] (apart_term side n c d)
    apart-proper c d h k e = record {
      vars = and_from _ _ (var-in-range c h) (and_from _ true (var-in-range d k) refl);
      fits = and_from _ true (pair-fits c d h k e) refl;
      oriented = and_from _ true (oriented-oriented Eq (atom.Col 0 c.column) (atom.Col 1 d.column)) refl;
      head = refl;
    }

    -- the term of `within`
    pub within-proper : (c d : ColId) → has_column (schema_of p side) c ≡ true → has_column (schema_of p side) d ≡ true → kind_of (schema_of p side) c ≡ kind_of (schema_of p side) d → IsProperTerm p [] (within_term side n c d)
    within-proper c d h k e = record {
      vars = and_from _ true (var-in-range c h) refl;
      fits = and_from _ true
          (any_fits p (var_of side n c.table ∷ []) false (var_of side n d.table ∷ []) (oriented Eq (atom.Col 0 c.column) (atom.Col 1 d.column) ∷ [])
          ∙ and_from _ _ (and_from _ true (var-in-range d k) refl) (and_from _ true (pair-fits c d h k e) refl)) refl;
      oriented = and_from _ true
          (any_oriented false (var_of side n d.table ∷ []) (oriented Eq (atom.Col 0 c.column) (atom.Col 1 d.column) ∷ [])
          ∙ and_from _ true (oriented-oriented Eq (atom.Col 0 c.column) (atom.Col 1 d.column)) refl) refl;
      head = refl;
    }

  -- ---- answers

  module _ (f : Function) (source : f.params ≡ p.source_fn.params) (target : f.params ≡ p.target_fn.params) (q : Query) (tables : Each (λ t. has_table (schema_of p side) t ≡ true) (tables_of q.join)) (equal : Each (JoinFits (schema_of p side) (tables_of q.join)) q.join.more) (selected : Each (IsJoined (schema_of p side) (tables_of q.join)) q.columns) where
    from-proper : (before cs : List (List Cmp)) → Each (Each (CmpFits (schema_of p side) (tables_of q.join) f)) before → Each (Each (CmpFits (schema_of p side) (tables_of q.join) f)) cs → Each (IsProperTerm p (map (kind_of (schema_of p side)) q.columns)) (answer_from side q before cs)
    from-proper before [] a b = tt
    from-proper before (c ∷ cs) a b = (
      record {
        vars = vars-in-range p side 0 first-fits (tables_of q.join) tables;
        fits = all-both (lit_fits p (map (var_of side 0) (tables_of q.join))) (join_lits (tables_of q.join) q.join.more) (case_lits (tables_of q.join) c ++ map (not_case (tables_of q.join)) before) (join-lits-fit p side 0 (tables_of q.join) q.join.more equal)
            (all-both (lit_fits p (map (var_of side 0) (tables_of q.join))) (case_lits (tables_of q.join) c) (map (not_case (tables_of q.join)) before) (case-lits-fit p side 0 f source target (tables_of q.join) c b.0) (not-cases-fit p side 0 f source target (tables_of q.join) before a));
        oriented = all-both lit_oriented (join_lits (tables_of q.join) q.join.more) (case_lits (tables_of q.join) c ++ map (not_case (tables_of q.join)) before) (join-lits-oriented (tables_of q.join) q.join.more)
            (all-both lit_oriented (case_lits (tables_of q.join) c) (map (not_case (tables_of q.join)) before) (case-lits-oriented (tables_of q.join) c) (not-cases-oriented (tables_of q.join) before));
        head = head-kinds p side 0 (tables_of q.join) q.columns selected;
      },
      from-proper (before ++ (c ∷ [])) cs (each-append (Each (CmpFits (schema_of p side) (tables_of q.join) f)) before (c ∷ []) a (b.0, tt)) b.1,
    )

    -- a query's terms
    pub answer-proper : Each (Each (CmpFits (schema_of p side) (tables_of q.join) f)) q.cond.cases → Each (IsProperTerm p (map (kind_of (schema_of p side)) q.columns)) (answer_terms side q)
    answer-proper b = from-proper [] q.cond.cases tt b
