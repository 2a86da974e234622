-- A function that is there is looked at, and past the end nothing is broken.
use Rattle.std.proofs.Common.{◌≡◌, ℕ, Bool, false, [], ◌∷◌, refl, sym, ap, ◌∙◌, subst}
use Rattle.std.specs.Prelude.{Option, Some, None, List}
use Rattle.std.specs.Option.{option_map_or}
use Rattle.std.specs.Str.{bytes_eq}
use Rattle.mig_schema.specs.declared.faults.ProgramRule.{ProgramRule}
use Rattle.mig_schema.specs.declared.programs.Function.{Function}
use Rattle.mig_base.specs.Lists.{again}
use Rattle.mig_schema.specs.Typed.{function_twice}
use Rattle.mig_typing.specs.First.{IsFirst}
use Rattle.mig_typing.specs.Broken.{program_rank, function_broken}
use Rattle.mig_typing.proofs.programs.first_in.Goals as goal

pub returns-in-Some : goal.returns-in-Some
returns-in-Some c =
    let s = c.args.schema.now in
    subst (λ (o : Option Function). IsFirst (λ (p : ProgramRule × ℕ). p.1 ∷ program_rank p.0 ∷ []) (λ p. option_map_or (λ f. function_broken s (function_twice c.args.program.now c.args.i) f p.0 p.1) o false) c.first_in_function.result)
    c.in-Some.ensures.value
    (subst (λ (b : Bool). IsFirst (λ (p : ProgramRule × ℕ). p.1 ∷ program_rank p.0 ∷ []) (λ p. function_broken s b c.in-Some.function.now p.0 p.1) c.first_in_function.result)
    (c.is_again-twice.ensures ∙ ap (λ (fs : List Function). again (λ (f g : Function). bytes_eq f.name g.name) fs c.args.i) c.as_slice.ensures)
    c.first_in_function.ensures)

pub returns-in-None : goal.returns-in-None
returns-in-None c =
    subst (λ (o : Option Function). IsFirst (λ (p : ProgramRule × ℕ). p.1 ∷ program_rank p.0 ∷ []) (λ p. option_map_or (λ f. function_broken c.args.schema.now (function_twice c.args.program.now c.args.i) f p.0 p.1) o false) None)
    c.in-None.ensures.value
    (λ p. refl)
