-- Each option of a typed part is typed over the new schema, within the limits, and keeps what does not depend on the schema.
use Rattle.std.proofs.Common.{◌≡◌, ℕ, ◌≤◌, true, false, not, List, [], ◌∷◌, ◌++◌, map, length, refl, sym, ap, ap₂, ◌∙◌, subst, inl, inr, arith}
use Rattle.std.specs.Prelude.{Option, Some, None}
use Rattle.std.specs.List.{list_any, flat_map, range_with_len}
use Rattle.std.proofs.lemmas.Option.{same_Some, none-some}
use Rattle.mig_listing.specs.Choices.{choices}
use Rattle.mig_listing.specs.Listing.{IsIn}
use Rattle.mig_listing.specs.Orders.{Less}
use Rattle.mig_listing.proofs.Choices.{choices_listed}
use Rattle.mig_listing.proofs.Members.{in_append_left, in_filter, in_flat_map, in_map, from_map}
use Rattle.mig_listing.proofs.Rising.{rises_filter}
use Rattle.mig_schema.specs.Columns.{has_column, kind_of, same_kind}
use Rattle.mig_schema.specs.Joins.{tables_of, is_among}
use Rattle.mig_schema.specs.Typed.{Piece, IsTypedPiece, piece_of, query_piece, all_cmps, scalar_kind, item_kind}
use Rattle.mig_schema.specs.Within.{IsPieceWithin}
use Rattle.mig_schema.specs.declared.jobs.Job.{Job}
use Rattle.mig_schema.specs.declared.programs.Assign.{Assign}
use Rattle.mig_schema.specs.declared.programs.Cmp.{Cmp}
use Rattle.mig_schema.specs.declared.programs.Cond.{Cond}
use Rattle.mig_schema.specs.declared.programs.Function.{Function}
use Rattle.mig_schema.specs.declared.programs.Join.{Join}
use Rattle.mig_schema.specs.declared.programs.Query.{Query}
use Rattle.mig_schema.specs.declared.programs.Scalar.{Scalar}
use Rattle.mig_schema.specs.declared.programs.Stmt.TheVariants.{Insert, Delete, Set}
use Rattle.mig_schema.specs.declared.tables.ColId.{ColId}
use Rattle.mig_schema.specs.declared.tables.Schema.{Schema}
use Rattle.mig_trees.specs.Listed.{IsListedJoin}
use Rattle.mig_trees.proofs.Listed.{listed_join}
use Rattle.mig_trees.proofs.Reach.{among_from}
use Rattle.mig_invariant.specs.declared.corresp.Corr.{Corr}
use Rattle.mig_invariant.specs.Images.{images}
use Rattle.mig_sketch.specs.declared.plans.Part.{Part}
use Rattle.mig_sketch.specs.declared.plans.Part.TheVariants as part
use Rattle.mig_sketch.specs.Completed.{IsSound, KeepsStmt, KeepsQuery}
use Rattle.mig_sketch.specs.Moved.{image, condition_by}
use Rattle.mig_sketch.specs.Needs.{condition_columns, query_needs, stmt_needs}
use Rattle.mig_sketch.specs.Options.{AreOptions, part_over, rising_tables, table_sets, delete_from, only_image, set_over, insert_over}
use Rattle.mig_sketch.specs.Values.{carried, insert_values}
use Rattle.mig_sketch.proofs.Inserting.{insert_typed, insert_kept, insert_within, insert_some}
use Rattle.mig_sketch.proofs.Moving.{cmps-by, cmp_columns, condition-columns, moved_typed, moved_within}
use Rattle.mig_sketch.proofs.Placed.{image_is, image_at}
use Rattle.mig_sketch.proofs.Tests.{none_to, true_again, or_left_false, in_range, range_rises, rising_once}

-- what the rules look at in a part
abbrev pub piece_of_part : Part → Piece
piece_of_part (part.Stmt s) = piece_of s
piece_of_part (part.Query q) = query_piece q

abbrev pub KeepsPart : (source target : Schema) → (old new : Part) → Type 0
KeepsPart source target (part.Stmt s) (part.Stmt t) = KeepsStmt s t
KeepsPart source target (part.Query q) (part.Query r) = KeepsQuery source target q r
KeepsPart source target _ _ = ⊥

pub record IsGood (job : Job) (f : Function) (old new : Part) : Type 0 where
  pub typed : IsTypedPiece job.target f (piece_of_part new)
  pub within : IsPieceWithin (piece_of_part new)
  pub keeps : KeepsPart job.source job.target old new

-- the only image of a column is its one image
only_is : (ds : List ColId) (d : ColId) → only_image ds ≡ Some d → ds ≡ d ∷ []
only_is [] d e = absurd (none-some d e)
only_is (c ∷ []) d e = ap (λ (x : ColId). x ∷ []) (same_Some c d e)
only_is (c ∷ b ∷ ds) d e = absurd (none-some d e)

kinds-kept : (source target : Schema) (to : ColId → ColId) (cs : List ColId) → ((c : ColId) → IsIn c cs → kind_of target (to c) ≡ kind_of source c) → map (kind_of target) (map to cs) ≡ map (kind_of source) cs
kinds-kept source target to [] h = refl
kinds-kept source target to (c ∷ cs) h = ap₂ (λ k ks. k ∷ ks) (h c (inl refl)) (kinds-kept source target to cs (λ d i. h d (inr i)))

module _ (job : Job) (corr : Corr) (sound : IsSound job corr) (f : Function) (free : List ℕ) (low : (n : ℕ) → IsIn n free → n ≤ 15) (s : ℕ) where
  -- ---- queries

  module _ (q : Query) (typed : IsTypedPiece job.source f (query_piece q)) (within : IsPieceWithin (query_piece q)) where
    query_over_good : (tree : Join) → IsListedJoin job.target (query_needs job corr q) tree → IsGood job f (part.Query q) (part.Query (record { columns = map (image job.target corr tree) q.columns; join = tree; cond = condition_by (image job.target corr tree) q.cond }))
    query_over_good tree l =
        let to = image job.target corr tree in
        let at = λ (c : ColId) (i : IsIn c (q.columns ++ flat_map cmp_columns (all_cmps q.cond))). image_at job corr sound.kinds tree (query_needs job corr q) c l.serves (from_map (images job.target corr) (q.columns ++ condition_columns q.cond) c (subst (λ cs. IsIn c (q.columns ++ cs)) (condition-columns q.cond) i)) in
        record {
          typed = subst (λ (cs : List Cmp). IsTypedPiece job.target f (record { join = tree; listed = []; selected = map (image job.target corr tree) q.columns; written = []; compared = cs; inserts = false })) (sym (cmps-by to q.cond)) (moved_typed job f (query_needs job corr q) tree l (query_piece q) typed to at [] [] refl (λ a z. absurd z) (λ t z. absurd z) refl);
          within = subst (λ (cs : List Cmp). IsPieceWithin (record { join = tree; listed = []; selected = map (image job.target corr tree) q.columns; written = []; compared = cs; inserts = false })) (sym (cmps-by to q.cond)) (moved_within job f (query_needs job corr q) tree l (query_piece q) typed to at [] [] refl (λ a z. absurd z) (λ t z. absurd z) refl within);
          keeps = record {
            kinds = kinds-kept job.source job.target to q.columns (λ c i. (at c (in_append_left q.columns (flat_map cmp_columns (all_cmps q.cond)) c i)).kind);
            test = record { by = to; moved = refl };
          };
        }

    query_good : (options : List Part) → AreOptions job corr free s (part.Query q) options → (new : Part) → IsIn new options → IsGood job f (part.Query q) new
    query_good options a new i =
        let of = in_flat_map (part_over job corr free s (part.Query q)) a.trees new (subst (λ os. IsIn new os) a.are i) in
        let l = listed_join job.target (query_needs job corr q) a.trees sound.typed.target a.serving of.0 of.1 in
        elim of.2 [ inl e ↦ subst (IsGood job f (part.Query q)) (sym e) (query_over_good of.0 l) | inr z ↦ absurd z ]

  -- ---- deletes

  module _ (tables : List ℕ) (join : Join) (test : Cond) (typed : IsTypedPiece job.source f (piece_of (Delete tables join test))) (within : IsPieceWithin (piece_of (Delete tables join test))) where
    abbrev delete_needs : List (List ColId)
    delete_needs = stmt_needs job corr (Delete tables join test)

    delete_over_good : (tree : Join) → IsListedJoin job.target delete_needs tree → (set : List ℕ) → IsIn set (table_sets job.target tree) → IsGood job f (part.Stmt (Delete tables join test)) (part.Stmt (Delete set tree (condition_by (image job.target corr tree) test)))
    delete_over_good tree l set i =
        let to = image job.target corr tree in
        let at = λ (c : ColId) (i : IsIn c ([] ++ flat_map cmp_columns (all_cmps test))). image_at job corr sound.kinds tree delete_needs c l.serves (in_append_left (map (images job.target corr) (condition_columns test)) _ (images job.target corr c) (from_map (images job.target corr) (condition_columns test) c (subst (λ cs. IsIn c cs) (condition-columns test) i))) in
        let rising = rises_filter Less (λ t. is_among t (tables_of tree)) (range_with_len 0 (length job.target.tables)) (range_rises 0 (length job.target.tables)) in
        let of = in_flat_map (λ n. choices n (rising_tables job.target tree)) (range_with_len 1 4) set i in
        let some = (in_range 1 4 of.0 of.1).0 in
        let is = (choices_listed of.0 (rising_tables job.target tree) rising).holds set of.2 in
        let size = is.sized in
        let lists = λ (t : ℕ) (j : IsIn t set). (in_filter (λ u. is_among u (tables_of tree)) (range_with_len 0 (length job.target.tables)) t (is.from t j)).1 in
        let once = rising_once set is.rising in
        record {
          typed = subst (λ (cs : List Cmp). IsTypedPiece job.target f (record { join = tree; listed = set; selected = []; written = []; compared = cs; inserts = false })) (sym (cmps-by to test)) (moved_typed job f delete_needs tree l (piece_of (Delete tables join test)) typed to at set [] refl (λ a z. absurd z) lists once);
          within = subst (λ (cs : List Cmp). IsPieceWithin (record { join = tree; listed = set; selected = []; written = []; compared = cs; inserts = false })) (sym (cmps-by to test)) (moved_within job f delete_needs tree l (piece_of (Delete tables join test)) typed to at set [] refl (λ a z. absurd z) lists once within);
          keeps = (omega (arith, some, size), record { by = to; moved = refl });
        }

    delete_good : (options : List Part) → AreOptions job corr free s (part.Stmt (Delete tables join test)) options → (new : Part) → IsIn new options → IsGood job f (part.Stmt (Delete tables join test)) new
    delete_good options a new i =
        let of = in_flat_map (part_over job corr free s (part.Stmt (Delete tables join test))) a.trees new (subst (λ os. IsIn new os) a.are i) in
        let l = listed_join job.target delete_needs a.trees sound.typed.target a.serving of.0 of.1 in
        let set = in_map (delete_from of.0 (condition_by (image job.target corr of.0) test)) (table_sets job.target of.0) new of.2 in
        subst (IsGood job f (part.Stmt (Delete tables join test))) (sym set.2) (delete_over_good of.0 l set.0 set.1)

  -- ---- sets

  module _ (column : ColId) (x : Scalar) (join : Join) (test : Cond) (typed : IsTypedPiece job.source f (piece_of (Set column x join test))) (within : IsPieceWithin (piece_of (Set column x join test))) where
    abbrev set_needs : List (List ColId)
    set_needs = stmt_needs job corr (Set column x join test)

    set_over_good : (tree : Join) → IsListedJoin job.target set_needs tree → (d : ColId) → images job.target corr column ≡ d ∷ [] → IsGood job f (part.Stmt (Set column x join test)) (part.Stmt (Set d x tree (condition_by (image job.target corr tree) test)))
    set_over_good tree l d only =
        let to = image job.target corr tree in
        let at = λ (c : ColId) (i : IsIn c ([] ++ flat_map cmp_columns (all_cmps test))). image_at job corr sound.kinds tree set_needs c l.serves (inr (from_map (images job.target corr) (condition_columns test) c (subst (λ cs. IsIn c cs) (condition-columns test) i))) in
        let image_of = image_is job corr sound.kinds column d (subst (λ ds. IsIn d ds) (sym only) (inl refl)) in
        let held = l.serves (images job.target corr column) (inl refl) in
        let among : is_among d.table (tables_of tree) ≡ true = elim (subst (λ ds. IsIn held.0 ds) only held.1) [
          | inl e ↦ among_from d.table (tables_of tree) (subst (λ (c : ColId). IsIn c.table (tables_of tree)) e held.2)
          | inr z ↦ absurd z
        ] in
        let one = true_again (same_kind (kind_of job.source column) (scalar_kind f x)) (none_to (λ (a : Assign). not (same_kind (kind_of job.source a.column) (scalar_kind f a.value))) (record { column = column; value = x } ∷ []) (record { column = column; value = x })
        (or_left_false (list_any (λ (a : Assign). not (same_kind (kind_of job.source a.column) (scalar_kind f a.value))) (record { column = column; value = x } ∷ [])) (list_any (λ (c : Cmp). not (same_kind (item_kind job.source f c.left) (item_kind job.source f c.right))) (all_cmps test)) typed.kinds) (inl refl)) in
        let writes = λ (a : Assign) (i : IsIn a (record { column = d; value = x } ∷ [])). elim i as (λ _. ((has_column job.target a.column ≡ true) × (is_among a.column.table (tables_of tree) ≡ true)) × (same_kind (kind_of job.target a.column) (scalar_kind f a.value) ≡ true)) [
          | inl e ↦ subst (λ (b : Assign). ((has_column job.target b.column ≡ true) × (is_among b.column.table (tables_of tree) ≡ true)) × (same_kind (kind_of job.target b.column) (scalar_kind f b.value) ≡ true)) (sym e) ((image_of.0, among), ap (λ k. same_kind k (scalar_kind f x)) image_of.1 ∙ one)
          | inr z ↦ absurd z
        ] in
        record {
          typed = subst (λ (cs : List Cmp). IsTypedPiece job.target f (record { join = tree; listed = []; selected = []; written = record { column = d; value = x } ∷ []; compared = cs; inserts = false })) (sym (cmps-by to test)) (moved_typed job f set_needs tree l (piece_of (Set column x join test)) typed to at [] (record { column = d; value = x } ∷ []) refl writes (λ t z. absurd z) refl);
          within = subst (λ (cs : List Cmp). IsPieceWithin (record { join = tree; listed = []; selected = []; written = record { column = d; value = x } ∷ []; compared = cs; inserts = false })) (sym (cmps-by to test)) (moved_within job f set_needs tree l (piece_of (Set column x join test)) typed to at [] (record { column = d; value = x } ∷ []) refl writes (λ t z. absurd z) refl within);
          keeps = (refl, record { by = to; moved = refl });
        }

    set_good : (options : List Part) → AreOptions job corr free s (part.Stmt (Set column x join test)) options → (new : Part) → IsIn new options → IsGood job f (part.Stmt (Set column x join test)) new
    set_good options a new i =
        let of = in_flat_map (part_over job corr free s (part.Stmt (Set column x join test))) a.trees new (subst (λ os. IsIn new os) a.are i) in
        let l = listed_join job.target set_needs a.trees sound.typed.target a.serving of.0 of.1 in
        go of.0 l (only_image (images job.target corr column)) refl of.2
      where
        go : (tree : Join) → IsListedJoin job.target set_needs tree → (o : Option ColId) → only_image (images job.target corr column) ≡ o → IsIn new (set_over (image job.target corr tree) o x test tree) → IsGood job f (part.Stmt (Set column x join test)) new
        go tree l None e h = absurd h
        go tree l (Some d) e h = elim h [ inl same ↦ subst (IsGood job f (part.Stmt (Set column x join test))) (sym same) (set_over_good tree l d (only_is (images job.target corr column) d e)) | inr z ↦ absurd z ]

  -- ---- inserts

  insert_good : (join : Join) (values : List Assign) → IsTypedPiece job.source f (piece_of (Insert join values)) → IsPieceWithin (piece_of (Insert join values)) → (options : List Part) → AreOptions job corr free s (part.Stmt (Insert join values)) options → (new : Part) → IsIn new options → IsGood job f (part.Stmt (Insert join values)) new
  insert_good join values typed within options a new i =
      let of = in_flat_map (part_over job corr free s (part.Stmt (Insert join values))) a.trees new (subst (λ os. IsIn new os) a.are i) in
      let l = listed_join job.target (stmt_needs job corr (Insert join values)) a.trees sound.typed.target a.serving of.0 of.1 in
      go of.0 l (insert_values job.target (carried job corr join values) free s of.0) refl of.2
    where
      go : (tree : Join) → IsListedJoin job.target (stmt_needs job corr (Insert join values)) tree → (o : Option (List Assign)) → insert_values job.target (carried job corr join values) free s tree ≡ o → IsIn new (insert_over tree o) → IsGood job f (part.Stmt (Insert join values)) new
      go tree l None e h = absurd h
      go tree l (Some given) e h = elim h [
        | inl same ↦ subst (IsGood job f (part.Stmt (Insert join values))) (sym same) (record {
          typed = insert_typed job corr sound.kinds f join values typed (stmt_needs job corr (Insert join values)) tree l free low s given e;
          within = insert_within job corr sound.kinds f join values typed (stmt_needs job corr (Insert join values)) tree l free low s given e within;
          keeps = (insert_some job corr sound.kinds f join values typed (stmt_needs job corr (Insert join values)) tree l free low s given e sound.columns, insert_kept job corr sound.kinds f join values typed (stmt_needs job corr (Insert join values)) tree l free low s given e);
        })
        | inr z ↦ absurd z
      ]

  -- ---- all parts

  pub option_good : (p : Part) → IsTypedPiece job.source f (piece_of_part p) → IsPieceWithin (piece_of_part p) → (options : List Part) → AreOptions job corr free s p options → (new : Part) → IsIn new options → IsGood job f p new
  option_good (part.Query q) typed within = query_good q typed within
  option_good (part.Stmt (Insert join values)) typed within = insert_good join values typed within
  option_good (part.Stmt (Delete tables join test)) typed within = delete_good tables join test typed within
  option_good (part.Stmt (Set column x join test)) typed within = set_good column x join test typed within
