-- The candidate invariants of a job, a correspondence and a new program: those that are worth trying.
use Rattle.std.specs.Prelude.{nat_lt, Bool, not, ◌&&◌, ◌||◌, List, [], ◌∷◌, ◌++◌, map, filter, take}
use Rattle.std.specs.List.{list_any, flat_map, zip}
use Rattle.mig_schema.specs.declared.faults.Side.{Side}
use Rattle.mig_schema.specs.declared.faults.Side.TheVariants.{Old, New}
use Rattle.mig_schema.specs.declared.tables.ColId.{ColId}
use Rattle.mig_schema.specs.declared.tables.Schema.{Schema}
use Rattle.mig_schema.specs.declared.programs.Join.{Join}
use Rattle.mig_schema.specs.declared.programs.Joined.{Joined}
use Rattle.mig_schema.specs.declared.programs.Stmt.{Stmt}
use Rattle.mig_schema.specs.declared.programs.Stmt.TheVariants.{Insert, Delete, Set}
use Rattle.mig_schema.specs.declared.programs.Body.{Body}
use Rattle.mig_schema.specs.declared.programs.Body.TheVariants as body
use Rattle.mig_schema.specs.declared.programs.Function.{Function}
use Rattle.mig_schema.specs.declared.programs.Program.{Program}
use Rattle.mig_schema.specs.declared.jobs.Job.{Job}
use Rattle.mig_schema.specs.Columns.{same_col}
use Rattle.mig_schema.specs.Joins.{tables_of}
use Rattle.mig_meaning.specs.declared.relating.Invariant.{Invariant}
use Rattle.mig_meaning.specs.declared.relating.Invariant.TheVariants.{Views, Unique, Apart, Within}
use Rattle.mig_invariant.specs.declared.corresp.ColPair.{ColPair}
use Rattle.mig_invariant.specs.declared.corresp.Corr.{Corr}
use Rattle.mig_invariant.specs.Columns.{all_columns, columns_within, is_key}
use Rattle.mig_invariant.specs.Images.{images_among}
use Rattle.mig_invariant.specs.Same.{same_invariant}

-- ---- the joins of a program, and their equalities

-- the join of a statement
abbrev pub join_of : Stmt → Join
join_of (Insert join values) = join
join_of (Delete tables join test) = join
join_of (Set column value join test) = join

-- the joins of a function's statements, or that of its query
abbrev pub joins_in : Body → List Join
joins_in (body.Update stmts) = map join_of stmts
joins_in (body.Query q) = q.join ∷ []

-- the joins of all functions, in order: one for each statement and each query
abbrev pub joins_of : Program → List Join
joins_of p = flat_map (λ (f : Function). joins_in f.body) p.functions

-- the equalities of these joins
abbrev pub equalities_of : List Join → List Joined
equalities_of joins = flat_map (λ (j : Join). j.more) joins

-- whether a column stands in one of these equalities
abbrev pub is_equated : List Joined → ColId → Bool
is_equated ms c = list_any (λ (m : Joined). same_col m.left c || same_col m.right c) ms

-- whether two columns are those of one of them, either way round
abbrev pub are_equated : List Joined → ColId → ColId → Bool
are_equated ms c d = list_any (λ (m : Joined). (same_col m.left c && same_col m.right d) || (same_col m.left d && same_col m.right c)) ms

-- ---- 1. views: the old join and the new one in its place, with all pairs of an old column and an image of it

-- a column with each of its images among these new ones
abbrev pub outputs_from : (targets : List ColId) → Corr → ColId → List ColPair
outputs_from targets corr c = map (λ (d : ColId). record { source = c; target = d }) (images_among targets corr c)

-- those of these columns whose table the join has
abbrev pub joined_columns : List ColId → Join → List ColId
joined_columns columns join = columns_within columns (tables_of join)

-- the pairs of a column of the old join's tables and an image of it in the new join's, out of these columns
abbrev pub outputs : (sources targets : List ColId) → Corr → (old new : Join) → List ColPair
outputs sources targets corr old new = flat_map (outputs_from (joined_columns targets new) corr) (joined_columns sources old)

-- the views of two joins with these outputs
abbrev pub view_of : (old new : Join) → List ColPair → Invariant
view_of old new ps = Views (record { join = old; outs = map (λ (q : ColPair). q.source) ps }) (record { join = new; outs = map (λ (q : ColPair). q.target) ps })

-- the same where there are outputs; else nothing
abbrev pub views_with : (old new : Join) → List ColPair → List Invariant
views_with old new [] = []
views_with old new (p ∷ ps) = view_of old new (p ∷ ps) ∷ []

-- the views of each old join and the new one in its place
abbrev pub views : (sources targets : List ColId) → Corr → (olds news : List Join) → List Invariant
views sources targets corr olds news = flat_map (λ (j : Join × Join). views_with j.0 j.1 (outputs sources targets corr j.0 j.1)) (zip olds news)

-- ---- 2. unique columns

-- whether a column is a key, or stands in an equality
abbrev pub is_key_or_equated : Schema → List Joined → ColId → Bool
is_key_or_equated s ms c = is_key s c || is_equated ms c

-- each such column is unique
abbrev pub uniques : Side → Schema → List ColId → List Joined → List Invariant
uniques side s columns ms = map (λ (c : ColId). Unique side c) (filter (is_key_or_equated s ms) columns)

-- ---- 3. columns that are apart

-- whether a column's table comes before another's
abbrev pub is_of_earlier : ColId → ColId → Bool
is_of_earlier c d = nat_lt c.table d.table

-- a column is apart from each of these that stands in a later table
abbrev pub aparts_from : Side → List ColId → ColId → List Invariant
aparts_from side columns c = map (λ (d : ColId). Apart side c d) (filter (is_of_earlier c) columns)

-- each two of these columns in different tables are apart, the earlier left
abbrev pub aparts_among : Side → List ColId → List Invariant
aparts_among side columns = flat_map (aparts_from side columns) columns

-- so are the key columns among these
abbrev pub aparts : Side → Schema → List ColId → List Invariant
aparts side s columns = aparts_among side (filter (is_key s) columns)

-- ---- 4. columns that are within others

-- a column is within each of these with which it is equated
abbrev pub withins_from : Side → List Joined → List ColId → ColId → List Invariant
withins_from side ms columns c = map (λ (d : ColId). Within side c d) (filter (are_equated ms c) columns)

-- each two of these columns that are equated are within one another
abbrev pub withins : Side → List Joined → List ColId → List Invariant
withins side ms columns = flat_map (withins_from side ms columns) columns

-- ---- all of them

-- unique columns, then columns that are apart, then columns that are within others, of each kind the old side first
abbrev pub facts : Job → (sources targets : List ColId) → (olds news : List Joined) → List Invariant
facts job sources targets olds news =
    uniques Old job.source sources olds ++ uniques New job.target targets news
    ++ aparts Old job.source sources ++ aparts New job.target targets
    ++ withins Old olds sources ++ withins New news targets

-- whether two invariants differ
abbrev pub differs : Invariant → Invariant → Bool
differs x y = not (same_invariant x y)

-- the invariants, each only where it stands first
abbrev pub once : List Invariant → List Invariant
once [] = []
once (x ∷ xs) = x ∷ filter (differs x) (once xs)

-- the views of these joins, then the facts of these columns
abbrev pub listed : Job → Corr → (sources targets : List ColId) → (olds news : List Join) → List Invariant
listed job corr sources targets olds news = views sources targets corr olds news ++ facts job sources targets (equalities_of olds) (equalities_of news)

-- for all joins of both programs, over all columns: each once, the first 4,096
abbrev pub candidates : Job → Corr → Program → List Invariant
candidates job corr p = take 4096 (once (listed job corr (all_columns job.source) (all_columns job.target) (joins_of job.program) (joins_of p)))
