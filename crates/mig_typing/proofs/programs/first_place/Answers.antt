-- The first function that breaks a rule is the one before which none does.
use Rattle.std.proofs.Common.{◌≡◌, ℕ, ◌<◌, false, [], ◌∷◌, sym, subst, arith}
use Rattle.mig_schema.specs.declared.faults.ProgramRule.{ProgramRule}
use Rattle.mig_schema.specs.declared.programs.Function.{Function}
use Rattle.mig_schema.specs.Typed.{function_twice}
use Rattle.mig_typing.specs.Broken.{program_rank, program_broken, function_broken}
use Rattle.mig_typing.proofs.Firsts.{nest, at_most, everywhere, item_past}
use Rattle.mig_typing.proofs.programs.first_place.Goals as goal

pub returns-in-Some : goal.returns-in-Some
returns-in-Some c =
    nest (λ (p : ProgramRule × ℕ × ℕ). p.1) (λ p. p.2 ∷ program_rank p.0 ∷ []) (λ p. program_broken c.args.schema.now c.args.program.now p.0 p.1 p.2) (c.in-Some.found.0, c.loop-i.i, c.in-Some.found.1)
    c.in-Some.ensures.here (λ q lt. c.loop-i.invariant q.0 q.1 q.2 lt)
    (λ q e lt. subst (λ j. program_broken c.args.schema.now c.args.program.now q.0 j q.2 ≡ false) (sym e) (c.in-Some.ensures.before (q.0, q.2) lt))

pub loop-i-preserved : goal.loop-i-preserved
loop-i-preserved c r j k lt =
    at_most (λ j. program_broken c.args.schema.now c.args.program.now r j k) c.loop-i.i (λ j l. c.loop-i.invariant r j k l) (c.in-None.ensures (r, k)) j lt

pub returns : goal.returns
returns c p =
    everywhere (λ j. program_broken c.args.schema.now c.args.program.now p.0 j p.2) c.loop-i.i (λ j lt. c.loop-i.invariant p.0 j p.2 lt)
    (λ j past. item_past (λ (f : Function). function_broken c.args.schema.now (function_twice c.args.program.now j) f p.0 p.2) c.args.program.now.functions j (omega (arith, past, c.loop-i-test.false, c.len-i-end.ensures))) p.1
