use Rattle.std.proofs.Common.{◌≡◌, ◌+◌, ◌++◌, ◌∷◌, [], take, get_or, ap, sym, ◌∙◌, subst, arith}
use Rattle.std.proofs.lemmas.List.{take_more, take_all}
use Rattle.mig_sketch.specs.Choices.{total}
use Rattle.mig_complete.specs.Coding.{IsPicked}
use Rattle.mig_complete.proofs.Sums.{total_at, total_more, codes_at, codes_length}
use Rattle.mig_complete.proofs.decoding.decode.Goals as goal

pub picked-requires : goal.picked-requires
picked-requires c = let at = total_at c.args.sizes.now c.loop-size.size-index c.loop-size-test.true in record {
  within = omega (arith, at, c.loop-size.invariant.first, c.requires.within);
  small = omega (arith, at, c.loop-size.invariant.first, c.requires.small);
}

pub overflow_add-first : goal.overflow_add-first
overflow_add-first c = let at = total_at c.args.sizes.now c.loop-size.size-index c.loop-size-test.true in omega (arith, at, c.loop-size.invariant.first, c.requires.small)

pub loop-size-preserved : goal.loop-size-preserved
loop-size-preserved c =
    let sizes = c.args.sizes.now in
    let i = c.loop-size.size-index in
    let more = total_more sizes i c.loop-size-test.true in
    record {
      first = omega (arith, more, c.loop-size.invariant.first);
      picks = λ ps codes.
          let at = codes_at c.args.values.now 0 sizes ps i codes c.loop-size-test.true in
          let first : 0 + total (take i sizes) ≡ c.loop-size.first = omega (arith, c.loop-size.invariant.first) in
          let here : c.picked.result ≡ get_or ps i 0 = c.picked.ensures (get_or ps i 0) (subst (λ v. IsPicked c.args.values.now v (get_or sizes i 0) (get_or ps i 0)) first at.1) in
          c.in_ok-push.ensures.items ∙ (ap (λ t. t ++ c.picked.result ∷ []) (c.loop-size.invariant.picks ps codes) ∙ (ap (λ x. take i ps ++ x ∷ []) here ∙ sym (take_more ps i 0 at.0)));
    }

pub returns : goal.returns
returns c = λ ps codes.
    let size = codes_length c.args.values.now 0 c.args.sizes.now ps codes in
    c.from_vec.ensures ∙ (c.loop-size.invariant.picks ps codes ∙ take_all c.loop-size.size-index ps (omega (arith, size)))
