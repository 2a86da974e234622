use Rattle.std.proofs.Common.{◌≡◌, ◌+◌, ◌<◌, ◌++◌, ◌∷◌, [], get_or, length, take, sym, ap, ◌∙◌, subst, arith}
use Rattle.std.proofs.lemmas.List.{length-take-le, take_more}
use Rattle.std.proofs.Math.Seq.{take-length}
use Rattle.std.specs.Prelude.{cond}
use Rattle.mig_store.specs.Runs.{is_query}
use Rattle.mig_failing.specs.Made.{alike, made_calls}
use Rattle.mig_failing.proofs.Made.{invocations_made, made_from, made_more}
use Rattle.mig_failing.proofs.variants.calls_of.Goals as goal

pub loop-function-preserved : goal.loop-function-preserved
loop-function-preserved c =
    let fs = c.args.program.now.functions in
    let q = c.args.queries in
    let k = c.loop-function.function-index in
    let f = c.function-item.result in
    let l : k < length fs = subst (λ xs. k < length xs) c.as_slice-function-items.ensures c.loop-function-test.true in
    let is : f ≡ get_or fs k f = c.function-item.is ∙ ap (λ xs. get_or xs k f) c.as_slice-function-items.ensures in
    let more : take (k + 1) fs ≡ take k fs ++ f ∷ [] = take_more fs k f l ∙ ap (λ x. take k fs ++ x ∷ []) (sym is) in
    let count : 0 + length (take k fs) ≡ c.loop-function.number = let n = length-take-le k fs (omega (arith, l)) in omega (arith, n, c.loop-function.invariant.number) in
    record {
      number = omega (arith, c.loop-function.invariant.number);
      calls = c.in_ok-add_wanted.ensures
          ∙ ap (λ xs. xs ++ cond (alike (is_query f.body) q) (made_calls c.loop-function.number f 3) []) c.loop-function.invariant.calls
          ∙ ap (λ n. made_from q 0 (take k fs) ++ cond (alike (is_query f.body) q) (made_calls n f 3) []) (sym count)
          ∙ sym (made_more q 0 (take k fs) f)
          ∙ ap (made_from q 0) (sym more);
    }

pub returns : goal.returns
returns c =
    let fs = c.args.program.now.functions in
    let count : length c.as_slice-function-items.result.now ≡ length fs = ap length c.as_slice-function-items.ensures in
    let all : c.loop-function.function-index ≡ length fs = omega (arith, count, c.loop-function-test.false, c.loop-function.auto.function-index-end) in
    c.loop-function.invariant.calls
    ∙ ap (λ n. made_from c.args.queries 0 (take n fs)) all
    ∙ ap (made_from c.args.queries 0) (take-length fs)
    ∙ invocations_made c.args.program.now c.args.queries
