-- The program of a completion: each hole has what is picked there.
use Rattle.std.specs.Prelude.{ℕ, ◌==◌, cond, List, [], ◌∷◌, slice_index_or}
use Rattle.mig_base.specs.Lists.{numbered}
use Rattle.mig_schema.specs.declared.programs.Body.{Body}
use Rattle.mig_schema.specs.declared.programs.Body.TheVariants as body
use Rattle.mig_schema.specs.declared.programs.Function.{Function}
use Rattle.mig_schema.specs.declared.programs.Program.{Program}
use Rattle.mig_schema.specs.declared.programs.Query.{Query}
use Rattle.mig_schema.specs.declared.programs.Stmt.{Stmt}
use Rattle.mig_sketch.specs.declared.plans.Hole.{Hole}
use Rattle.mig_sketch.specs.declared.plans.Part.{Part}
use Rattle.mig_sketch.specs.declared.plans.Part.TheVariants as part
use Rattle.mig_sketch.specs.declared.plans.Plan.{Plan}

-- what stands where an option's number is out of range
abbrev pub no_part : Part
no_part = part.Query (record { columns = []; join = record { first = 0; more = [] }; cond = record { cases = [] } })

-- the options that are picked at the holes of function f, in order
abbrev pub picked_parts : ℕ → List Hole → (picks : List ℕ) → List Part
picked_parts f [] ps = []
picked_parts f (h ∷ hs) [] = []
picked_parts f (h ∷ hs) (p ∷ ps) = cond (h.function == f) (slice_index_or h.options p no_part ∷ picked_parts f hs ps) (picked_parts f hs ps)

-- the statements among parts
abbrev pub stmts_of : List Part → List Stmt
stmts_of [] = []
stmts_of (part.Stmt s ∷ ps) = s ∷ stmts_of ps
stmts_of (part.Query q ∷ ps) = stmts_of ps

-- the first query among parts; the other where there is none
abbrev pub query_of : Query → List Part → Query
query_of other [] = other
query_of other (part.Stmt s ∷ ps) = query_of other ps
query_of other (part.Query q ∷ ps) = q

abbrev pub body_with : Body → List Part → Body
body_with (body.Update stmts) ps = body.Update (stmts_of ps)
body_with (body.Query q) ps = body.Query (query_of q ps)

-- function f with what is picked at its holes
abbrev pub filled_function : List Hole → (picks : List ℕ) → ℕ → Function → Function
filled_function holes picks f x = record { name = x.name; params = x.params; body = body_with x.body (picked_parts f holes picks) }

abbrev pub filled : Plan → (picks : List ℕ) → Program
filled plan picks = record { functions = numbered (filled_function plan.holes picks) 0 plan.functions }
