-- The obligations of two typed functions with the same parameters are proper, for invariants that fit the schemas.
use Rattle.std.proofs.Common.{◌≡◌, ℕ, zero, suc, ◌+◌, ◌<◌, get_or, true, not, ◌&&◌, List, [], ◌∷◌, map, length, refl, sym, subst}
use Rattle.std.specs.Prelude.{nat_lt}
use Rattle.std.specs.List.{list_all, AllByRecursion}
use Rattle.std.proofs.lemmas.Bool.{and_parts}
use Rattle.mig_schema.specs.declared.tables.Schema.{Schema}
use Rattle.mig_schema.specs.declared.faults.Side.{Side}
use Rattle.mig_schema.specs.declared.faults.Side.TheVariants.{Old, New}
use Rattle.mig_schema.specs.declared.tables.ColId.{ColId}
use Rattle.mig_schema.specs.declared.tables.Kind.{Kind}
use Rattle.mig_schema.specs.declared.tables.Kind.TheVariants as kind
use Rattle.mig_schema.specs.declared.programs.Joined.{Joined}
use Rattle.mig_schema.specs.declared.programs.Cmp.{Cmp}
use Rattle.mig_schema.specs.declared.programs.Query.{Query}
use Rattle.mig_schema.specs.declared.programs.Body.{Body}
use Rattle.mig_schema.specs.declared.programs.Body.TheVariants as body
use Rattle.mig_schema.specs.declared.programs.Function.{Function}
use Rattle.mig_schema.specs.declared.programs.Program.{Program}
use Rattle.mig_schema.specs.Columns.{has_table, has_column, kind_of, same_kind}
use Rattle.mig_schema.specs.Joins.{tables_of, is_among, all_join_on}
use Rattle.mig_schema.specs.Typed.{stands_twice, Piece, query_piece, pieces_of, scalars_of, IsTypedPiece, IsTypedFunction}
use Rattle.mig_meaning.specs.declared.relating.View.{View}
use Rattle.mig_meaning.specs.declared.relating.Invariant.{Invariant}
use Rattle.mig_meaning.specs.declared.relating.Invariant.TheVariants.{Views, Unique, Apart, Within}
use Rattle.mig_meaning.specs.Lists.{Each}
use Rattle.mig_meaning.specs.Run.{no_function, function_at}
use Rattle.mig_meaning.specs.States.{label_fits, labels_fit}
use Rattle.mig_meaning.specs.Meeting.{AreTyped}
use Rattle.mig_meaning.proofs.Within.{each-weaker, each-get}
use Rattle.mig_algebra.specs.Obligations.{view_term, apart_term, within_term, holds_terms, answer_terms}
use Rattle.mig_algebra.proofs.Lists.{each-all}
use Rattle.mig_algebra.specs.Proper.{Sides, schema_of, statement_count, last_stage, IsProperTerm, IsProper}
use Rattle.mig_algebra.proofs.Ranges.{each-list, IsJoined, CmpFits, equalities-fit, join-tables, join-fits, selected-joined, compared-joined, cmps-fit}
use Rattle.mig_algebra.proofs.ObligedProper.{last-fits, view-proper, unique-proper, apart-proper, within-proper, answer-proper}
use Rattle.mig_obligations.specs.Obligations.{holds_obligation, obligations, AreProper, pair_at}
use Rattle.mig_obligations.specs.Fitting.{IsFit}
use Rattle.mig_obligations.specs.Shaped.{join_shaped, view_shaped, columns_shaped, is_shaped}

-- ---- invariants

same-kinds : (j k : Kind) → same_kind j k ≡ true → j ≡ k
same-kinds kind.Int kind.Int h = refl
same-kinds kind.Text kind.Text h = refl
same-kinds kind.Key kind.Key h = refl
same-kinds _ _ h = cc

module _ (p : Sides) (side : Side) (n : ℕ) (l : nat_lt n (last_stage p side + 1) ≡ true) where
  -- a view that is shaped
  shaped-proper : (v : View) → view_shaped (schema_of p side) v ≡ true → IsProperTerm p (map (kind_of (schema_of p side)) v.outs) (view_term side n v)
  shaped-proper v h =
      let k = and_parts (join_shaped (schema_of p side) v.join) (list_all (λ (c : ColId). has_column (schema_of p side) c && is_among c.table (tables_of v.join)) v.outs) h in
      let t = and_parts (list_all (has_table (schema_of p side)) (tables_of v.join)) _ k.0 in
      let c = and_parts (list_all (λ (m : Joined). has_column (schema_of p side) m.left && has_column (schema_of p side) m.right) v.join.more) _ t.1 in
      let o = and_parts (not (stands_twice (tables_of v.join))) (all_join_on (schema_of p side) (v.join.first ∷ []) v.join.more) c.1 in
      view-proper p side n l v (each-all (has_table (schema_of p side)) (tables_of v.join) t.0)
      (equalities-fit (schema_of p side) (v.join.first ∷ []) v.join.more (tables_of v.join) refl o.1 (each-weaker _ _ (λ (m : Joined) e. let b = and_parts (has_column (schema_of p side) m.left) (has_column (schema_of p side) m.right) e in (b.0, (b.1, tt))) v.join.more (each-all _ v.join.more c.0)))
      (each-weaker _ (IsJoined (schema_of p side) (tables_of v.join)) (λ (c : ColId) e. let b = and_parts (has_column (schema_of p side) c) (is_among c.table (tables_of v.join)) e in (b.1, b.0)) v.outs (each-all _ v.outs k.1))

  -- the terms of two columns of different tables
  pair-proper : (c d : ColId) → columns_shaped (schema_of p side) c d ≡ true → IsProperTerm p [] (apart_term side n c d) × IsProperTerm p [] (within_term side n c d)
  pair-proper c d h =
      let k = and_parts (has_column (schema_of p side) c) _ h in
      let m = and_parts (has_column (schema_of p side) d) _ k.1 in
      let e = same-kinds (kind_of (schema_of p side) c) (kind_of (schema_of p side) d) (and_parts (same_kind (kind_of (schema_of p side) c) (kind_of (schema_of p side) d)) _ m.1).0 in
      (apart-proper p side n l c d k.0 m.0 e, within-proper p side n l c d k.0 m.0 e)

-- what stands on a side for an invariant
pub holds-proper : (p : Sides) (at : Side) (n : ℕ) → nat_lt n (last_stage p at + 1) ≡ true → (i : Invariant) → is_shaped p.source p.target i ≡ true → IsProper p (record { terms = holds_terms at n i })
holds-proper p Old n l (Views source target) h = record { kinds = map (kind_of p.source) source.outs; terms = (shaped-proper p Old n l source (and_parts (view_shaped p.source source) _ h).0, tt) }
holds-proper p New n l (Views source target) h = record { kinds = map (kind_of p.target) target.outs; terms = (shaped-proper p New n l target (and_parts (view_shaped p.target target) _ (and_parts (view_shaped p.source source) _ h).1).0, tt) }
holds-proper p Old n l (Unique Old c) h = record { kinds = []; terms = (unique-proper p Old n l c h, tt) }
holds-proper p New n l (Unique New c) h = record { kinds = []; terms = (unique-proper p New n l c h, tt) }
holds-proper p Old n l (Unique New c) h = record { kinds = []; terms = tt }
holds-proper p New n l (Unique Old c) h = record { kinds = []; terms = tt }
holds-proper p Old n l (Apart Old c d) h = record { kinds = []; terms = ((pair-proper p Old n l c d h).0, tt) }
holds-proper p New n l (Apart New c d) h = record { kinds = []; terms = ((pair-proper p New n l c d h).0, tt) }
holds-proper p Old n l (Apart New c d) h = record { kinds = []; terms = tt }
holds-proper p New n l (Apart Old c d) h = record { kinds = []; terms = tt }
holds-proper p Old n l (Within Old c d) h = record { kinds = []; terms = ((pair-proper p Old n l c d h).1, tt) }
holds-proper p New n l (Within New c d) h = record { kinds = []; terms = ((pair-proper p New n l c d h).1, tt) }
holds-proper p Old n l (Within New c d) h = record { kinds = []; terms = tt }
holds-proper p New n l (Within Old c d) h = record { kinds = []; terms = tt }

-- ---- queries

-- what stands on a side for a typed query
pub query-proper : (p : Sides) (at : Side) (f : Function) → f.params ≡ p.source_fn.params → f.params ≡ p.target_fn.params → (q : Query) → IsTypedPiece (schema_of p at) f (query_piece q) → list_all label_fits (scalars_of (query_piece q)) ≡ true → IsProper p (record { terms = answer_terms at q })
query-proper p at f e e' q t labels = record {
  kinds = map (kind_of (schema_of p at)) q.columns;
  terms =
      answer-proper p at f e e' q (join-tables (schema_of p at) (query_piece q) t.tables t.columns t.shape t.joined) (join-fits (schema_of p at) (query_piece q) t.tables t.columns t.shape t.joined)
      (selected-joined (schema_of p at) (query_piece q) t.tables t.columns t.shape t.joined)
      (each-list (CmpFits (schema_of p at) (tables_of q.join) f) (λ (c : List Cmp). c) q.cond.cases
      (cmps-fit (schema_of p at) f (query_piece q) (compared-joined (schema_of p at) (query_piece q) t.tables t.columns t.shape t.joined) t.params labels t.kinds t.orders));
}

-- ---- all obligations of a pair

module _ (p : Sides) (params : p.source_fn.params ≡ p.target_fn.params) (source : IsTypedFunction p.source p.source_fn) (target : IsTypedFunction p.target p.target_fn) (labels : labels_fit p.source_fn ≡ true) (labels' : labels_fit p.target_fn ≡ true) where
  each-holds : (n n' : ℕ) → nat_lt n (last_stage p Old + 1) ≡ true → nat_lt n' (last_stage p New + 1) ≡ true → (invs : List Invariant) → list_all (is_shaped p.source p.target) invs ≡ true → Each (AreProper p) (map (holds_obligation n n') invs)
  each-holds n n' l l' [] h = tt
  each-holds n n' l l' (i ∷ is) h =
      let k = and_parts (is_shaped p.source p.target i) (list_all (is_shaped p.source p.target) is) h in
      (record { source = holds-proper p Old n l i k.0; target = holds-proper p New n' l' i k.0 }, each-holds n n' l l' is k.1)

  of-bodies : (b b' : Body) → p.source_fn.body ≡ b → p.target_fn.body ≡ b' → (invs : List Invariant) → list_all (is_shaped p.source p.target) invs ≡ true → Each (AreProper p) (obligations invs b b')
  of-bodies (body.Update x) (body.Update y) e e' invs h =
      each-holds (length x) (length y) (subst (λ c. nat_lt (statement_count c) (last_stage p Old + 1) ≡ true) e (last-fits p Old)) (subst (λ c. nat_lt (statement_count c) (last_stage p New + 1) ≡ true) e' (last-fits p New)) invs h
  of-bodies (body.Query q) (body.Query r) e e' invs h = (
    record {
      source = query-proper p Old p.source_fn refl params q (subst (λ c. AllByRecursion (IsTypedPiece p.source p.source_fn) (pieces_of c)) e source.pieces).0 (and_parts _ true (subst (λ c. list_all (λ (x : Piece). list_all label_fits (scalars_of x)) (pieces_of c) ≡ true) e labels)).0;
      target = query-proper p New p.target_fn (sym params) refl r (subst (λ c. AllByRecursion (IsTypedPiece p.target p.target_fn) (pieces_of c)) e' target.pieces).0 (and_parts _ true (subst (λ c. list_all (λ (x : Piece). list_all label_fits (scalars_of x)) (pieces_of c) ≡ true) e' labels')).0;
    },
    tt,
  )
  of-bodies (body.Update x) (body.Query r) e e' invs h = tt
  of-bodies (body.Query q) (body.Update y) e e' invs h = tt

  -- each obligation of the pair
  pub obligations-proper : (invs : List Invariant) → list_all (is_shaped p.source p.target) invs ≡ true → Each (AreProper p) (obligations invs p.source_fn.body p.target_fn.body)
  obligations-proper invs h = of-bodies p.source_fn.body p.target_fn.body refl refl invs h

-- ---- all pairs of two programs

-- a typed program's function of a number is typed
pub typed-at : (s : Schema) (fs : List Function) (n : ℕ) → AllByRecursion (IsTypedFunction s) fs → IsTypedFunction s (get_or fs n no_function)
typed-at s [] n a = record { params = λ k. refl; pieces = tt }
typed-at s (f ∷ fs) zero a = a.0
typed-at s (f ∷ fs) (suc n) a = typed-at s fs n a.1

-- and its labels fit
pub labels-at : (fs : List Function) (n : ℕ) → list_all labels_fit fs ≡ true → labels_fit (get_or fs n no_function) ≡ true
labels-at fs n a = each-get (λ f. labels_fit f ≡ true) fs n no_function (each-all labels_fit fs a) refl

module _ (schema schema' : Schema) (p p' : Program) (invs : List Invariant) (t : AreTyped schema schema' p p') (h : list_all (is_shaped schema schema') invs ≡ true) where
  -- each pair is fit
  pub fit-at : (n : ℕ) → n < length p.functions → IsFit (pair_at schema schema' p p' n) invs
  fit-at n l = record {
    source = typed-at schema p.functions n t.source.functions;
    target = typed-at schema' p'.functions n t.target.functions;
    source_labels = labels-at p.functions n t.source_labels;
    target_labels = labels-at p'.functions n t.target_labels;
    same = t.functions.each n l;
    shaped = h;
  }

  -- each obligation of two typed programs with the same functions
  pub all-proper : (n : ℕ) → n < length p.functions → Each (AreProper (pair_at schema schema' p p' n)) (obligations invs (function_at p n).body (function_at p' n).body)
  all-proper n l = let f = fit-at n l in obligations-proper (pair_at schema schema' p p' n) f.same.params f.source f.target f.source_labels f.target_labels invs h

-- the obligations of a fit pair
pub fit-proper : (p : Sides) (invs : List Invariant) → IsFit p invs → Each (AreProper p) (obligations invs p.source_fn.body p.target_fn.body)
fit-proper p invs f = obligations-proper p f.same.params f.source f.target f.source_labels f.target_labels invs f.shaped
