-- The first statement that breaks a rule is the one before which none does.
use Rattle.std.proofs.Common.{◌≡◌, ℕ, false, [], ◌∷◌, map, sym, subst, arith}
use Rattle.std.proofs.lemmas.List.{length-map}
use Rattle.mig_schema.specs.declared.faults.ProgramRule.{ProgramRule}
use Rattle.mig_schema.specs.Typed.{piece_of}
use Rattle.mig_typing.specs.Broken.{program_rank, item_has, piece_broken}
use Rattle.mig_typing.proofs.Firsts.{nest, at_most, everywhere, item_past}
use Rattle.mig_typing.proofs.programs.first_stmt.Goals as goal

pub returns-in-Some : goal.returns-in-Some
returns-in-Some c =
    let ps = map piece_of c.args.stmts.now in
    nest (λ (p : ProgramRule × ℕ). p.1) (λ p. program_rank p.0 ∷ []) (λ p. item_has (piece_broken c.args.schema.now c.args.function.now p.0) ps p.1) (c.in-Some.rule, c.loop-k.k)
    c.in-Some.ensures.here (λ q lt. c.loop-k.invariant q.0 q.1 lt)
    (λ q e lt. subst (λ j. item_has (piece_broken c.args.schema.now c.args.function.now q.0) ps j ≡ false) (sym e) (c.in-Some.ensures.before q.0 lt))

pub loop-k-preserved : goal.loop-k-preserved
loop-k-preserved c r j lt =
    at_most (λ j. item_has (piece_broken c.args.schema.now c.args.function.now r) (map piece_of c.args.stmts.now) j) c.loop-k.k (λ j l. c.loop-k.invariant r j l) (c.in-None.ensures r) j lt

pub returns : goal.returns
returns c p =
    let ps = map piece_of c.args.stmts.now in
    let t = piece_broken c.args.schema.now c.args.function.now p.0 in
    everywhere (λ j. item_has t ps j) c.loop-k.k (λ j lt. c.loop-k.invariant p.0 j lt)
    (λ j past. item_past t ps j (omega (arith, past, c.loop-k-test.false, c.len-k-end.ensures, length-map c.args.stmts.now piece_of))) p.1
