use Rattle.std.proofs.Common.{ℕ, List, [], ◌∷◌, map, subst, sym, ap, ◌∙◌}
use Rattle.std.specs.Prelude.{Option, IfOk}
use Rattle.std.proofs.lemmas.Result.{IfOk-weaker}
use Rattle.mig_base.specs.Lists.{numbered}
use Rattle.mig_schema.specs.declared.programs.Body.{Body}
use Rattle.mig_schema.specs.declared.programs.Stmt.{Stmt}
use Rattle.mig_sketch.specs.declared.plans.Made.{Made}
use Rattle.mig_sketch.specs.declared.plans.Part.TheVariants as part
use Rattle.mig_sketch.specs.Labels.{free_labels}
use Rattle.mig_sketch.specs.Made.{Place, parts_of, place_at, places_in}
use Rattle.mig_sketch.specs.Making.{Goes}
use Rattle.mig_sketch.proofs.sketching.add_function.Goals as goal

pub returns-in_ok-free-in-Update-clause-goes : goal.returns-in_ok-free-in-Update-clause-goes
returns-in_ok-free-in-Update-clause-goes c =
    let places =
    ap (λ (free : List ℕ). numbered (place_at c.args.function free) 0 (map (λ s. part.Stmt s) c.as_slice-stmts.result.now)) (c.as_slice.ensures.value ∙ c.in_ok-free-in-Update.ensures)
    ∙ ap (λ (stmts : List Stmt). numbered (place_at c.args.function (free_labels c.args.body.now)) 0 (map (λ s. part.Stmt s) stmts)) c.as_slice-stmts.ensures
    ∙ ap (λ (b : Body). numbered (place_at c.args.function (free_labels c.args.body.now)) 0 (parts_of b)) (sym c.in-Update.is) in
    subst (λ (ps : List Place). IfOk c.add_stmts.result (λ (o : Option Made). Goes c.args.job.now c.args.corr.now ps c.args.holes.now c.add_stmts.new.holes o)) places c.add_stmts.ensures.goes

pub returns-in-Query-clause-goes : goal.returns-in-Query-clause-goes
returns-in-Query-clause-goes c =
    let places = ap (λ (b : Body). numbered (place_at c.args.function (free_labels c.args.body.now)) 0 (parts_of b)) (sym c.in-Query.is) in
    IfOk-weaker c.add_query.result
    (λ (o : Option Made). (free : List ℕ) → Goes c.args.job.now c.args.corr.now (place_at c.args.function free 0 (part.Query c.in-Query.query) ∷ []) c.args.holes.now c.add_query.new.holes o)
    (λ (o : Option Made). Goes c.args.job.now c.args.corr.now (places_in c.args.function c.args.body.now) c.args.holes.now c.add_query.new.holes o)
    (λ o goes. subst (λ (ps : List Place). Goes c.args.job.now c.args.corr.now ps c.args.holes.now c.add_query.new.holes o) places (goes (free_labels c.args.body.now)))
    c.add_query.ensures.goes
