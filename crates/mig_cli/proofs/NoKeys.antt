-- A job that a text spells has no parameter of kind key.
use Rattle.std.proofs.Common.{◌≡◌, ℕ, true, List, [], ◌∷◌, map, refl, subst}
use Rattle.std.specs.List.{list_all, AllByRecursion}
use Rattle.std.proofs.lemmas.Bool.{and_from}
use Rattle.mig_schema.specs.declared.tables.Kind.{Kind}
use Rattle.mig_schema.specs.declared.tables.Kind.TheVariants as kind
use Rattle.mig_schema.specs.declared.tables.Table.{Table}
use Rattle.mig_schema.specs.declared.programs.Param.{Param}
use Rattle.mig_schema.specs.declared.jobs.Job.{Job}
use Rattle.mig_grammar.specs.declared.tree.FunctionTree.{FunctionTree}
use Rattle.mig_grammar.specs.Shapes.{is_param_kind, IsParam, IsFunction}
use Rattle.mig_syntax.specs.Naming.{function_of}
use Rattle.mig_syntax.specs.Job.{IsJobText}
use Rattle.mig_meaning.specs.Meeting.{is_no_key, takes_no_keys}

-- a kind that a parameter may have is not that of keys
no-key : (k : Kind) → is_param_kind k ≡ true → is_no_key k ≡ true
no-key kind.Int h = refl
no-key kind.Text h = refl
no-key kind.Key h = absurd cc

params-no_keys : (ps : List Param) → AllByRecursion IsParam ps → list_all (λ (p : Param). is_no_key p.kind) ps ≡ true
params-no_keys [] h = refl
params-no_keys (p ∷ ps) h = and_from (is_no_key p.kind) (list_all (λ (p : Param). is_no_key p.kind) ps) (no-key p.kind h.0.kind) (params-no_keys ps h.1)

functions-no_keys : (tables : List Table) (fs : List FunctionTree) → AllByRecursion IsFunction fs → list_all takes_no_keys (map (function_of tables) fs) ≡ true
functions-no_keys tables [] h = refl
functions-no_keys tables (f ∷ fs) h = and_from (takes_no_keys (function_of tables f)) (list_all takes_no_keys (map (function_of tables) fs)) (params-no_keys f.params h.0.params) (functions-no_keys tables fs h.1)

pub text-no_keys : (bytes : List ℕ) (job : Job) → IsJobText bytes job → list_all takes_no_keys job.program.functions ≡ true
text-no_keys bytes job t =
    subst (λ (j : Job). list_all takes_no_keys j.program.functions ≡ true) t.named (functions-no_keys t.tree.source.tables t.tree.functions t.text.text.fits.functions)
