-- Where one list of joins has ended nothing is left to add.
use Rattle.std.proofs.Common.{◌++◌}
use Rattle.std.specs.Iterator.Adapters.{zip_first, zip_second}
use Rattle.std.specs.Slice.Iter.{iter_rest}
use Rattle.std.proofs.lemmas.Slice.Zip.{either_empty_from_Zip}
use Rattle.mig_invariant.specs.Candidates.{views}
use Rattle.mig_invariant.proofs.Viewed.{all_listed}
use Rattle.mig_invariant.proofs.viewing.add_views.Goals as goal

pub returns : goal.returns
returns c =
    all_listed c.loop-old.list.items (c.args.list.now.items ++ views c.args.sources.now c.args.targets.now c.args.corr.now c.args.olds.now c.args.news.now) c.args.sources.now c.args.targets.now c.args.corr.now (iter_rest (zip_first c.loop-old.old-iterator)) (iter_rest (zip_second c.loop-old.old-iterator))
    (either_empty_from_Zip c.loop-old.old-iterator c.next.new.self c.next.result c.in-None.is c.next.ensures.steps)
    c.loop-old.invariant
