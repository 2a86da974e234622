-- What is added, and what the rest of the joins will add, is all that is to be added.
use Rattle.std.proofs.Common.{◌≡◌, ◌++◌}
use Rattle.std.specs.Iterator.Adapters.{zip_first, zip_second}
use Rattle.std.specs.Slice.Iter.{iter_rest}
use Rattle.mig_invariant.specs.Candidates.{views}
use Rattle.mig_invariant.proofs.viewing.add_views.Given as goal

abbrev pub invariant-loop-old : goal.invariant-loop-old
invariant-loop-old l = l.list.items ++ views l.sources l.targets l.corr (iter_rest (zip_first l.old-iterator)) (iter_rest (zip_second l.old-iterator)) ≡ l.fn.list.items ++ views l.sources l.targets l.corr l.olds l.news
