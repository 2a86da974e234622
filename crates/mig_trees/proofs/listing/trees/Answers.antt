use Rattle.std.proofs.Common.{◌≡◌, ◌∙◌, sym, ap, subst, map, arith}
use Rattle.mig_trees.specs.Answer.{AreWritten}
use Rattle.mig_trees.specs.Joining.{written}
use Rattle.mig_trees.specs.Making.{trees_below}
use Rattle.mig_trees.proofs.AllTrees.{all_listed}
use Rattle.mig_trees.proofs.Takes.{trees_written}
use Rattle.mig_trees.proofs.listing.trees.Goals as goal

pub returns : goal.returns
returns c =
    let schema = c.args.schema.now in
    let need = c.args.need.now.sets in
    let listed = all_listed c.args.schema.now c.args.need.now.sets in
    let all : c.loop-count.count ≡ 4 = omega (arith, c.loop-count-test.false, c.loop-count.auto.count-end) in
    let joins : c.from_vec.result ≡ map (written schema) (trees_below schema need 4) = c.from_vec.ensures ∙ (c.loop-count.invariant ∙ ap (λ n. map (written schema) (trees_below schema need n)) all) in
    record {
      all = record {
        trees = trees_below schema need 4;
        listed = listed;
        written = subst (AreWritten schema (trees_below schema need 4)) (sym joins) (trees_written schema (trees_below schema need 4) (λ t i. (listed.holds t i).0));
      };
    }
