-- Jobs and programs that texts spell are within the limits.
use Rattle.std.proofs.Common.{ℕ, List, [], ◌∷◌, ◌++◌, None, subst, codes}
use Rattle.mig_schema.specs.declared.jobs.Job.{Job}
use Rattle.mig_schema.specs.declared.programs.Program.{Program}
use Rattle.mig_schema.specs.declared.tables.Schema.{Schema}
use Rattle.mig_tokens.specs.declared.token.Token.TheVariants.{End}
use Rattle.mig_tokens.specs.Forms.{no_room, start, numbered, word}
use Rattle.mig_grammar.specs.declared.tree.JobTree.{JobTree}
use Rattle.mig_grammar.specs.Spelling.{schema_tokens, function_tokens, hints_tokens, job_tokens, program_tokens}
use Rattle.mig_syntax.specs.Job.{IsJobText}
use Rattle.mig_syntax.specs.Program.{IsProgramText}
use Rattle.mig_schema.specs.Within.{IsProgramWithin}
use Rattle.mig_syntax.proofs.Unmarked.{AreUnmarked, unmarked, front, back}
use Rattle.mig_syntax.proofs.WithinFunctions.{program_within}

job_functions : (t : JobTree) → AreUnmarked (job_tokens t) → AreUnmarked (numbered no_room function_tokens start t.functions)
job_functions t u =
    let end = hints_tokens t.hints ++ (End, None) ∷ [] in
    let functions = numbered no_room function_tokens start t.functions in
    let target = schema_tokens t.target ++ word (codes "program") ∷ (functions ++ end) in
    let v = (back (schema_tokens t.source) (word (codes "new") ∷ target) u.1).1 in
    let w = (back (schema_tokens t.target) (word (codes "program") ∷ (functions ++ end)) v).1 in
    front functions end w

pub job_text : (bytes : List ℕ) (job : Job) → IsJobText bytes job → IsProgramWithin job.program
job_text bytes job h =
    subst (λ (j : Job). IsProgramWithin j.program) h.named
    (program_within h.tree.source.tables h.tree.functions (job_functions h.tree (unmarked (job_tokens h.tree) h.text.tokens h.text.text.is)))

pub program_text : (s : Schema) (bytes : List ℕ) (p : Program) → IsProgramText s bytes p → IsProgramWithin p
program_text s bytes p h =
    subst IsProgramWithin h.named
    (program_within s.tables h.tree (front (numbered no_room function_tokens start h.tree) ((End, None) ∷ []) (unmarked (program_tokens h.tree) h.text.tokens h.text.text.is)))
