use Rattle.std.proofs.Common.{◌≡◌, ◌++◌, ◌∷◌, [], subst, arith}
use Rattle.mig_listing.specs.Listing.{IsListOf}
use Rattle.mig_listing.specs.Fronts.{IsFront}
use Rattle.mig_corresp.specs.Correspondences.{IsCorr, RanksBefore}
use Rattle.mig_search.specs.declared.stopping.Stop.TheVariants as stop
use Rattle.mig_search.specs.Stopping.{Stops}
use Rattle.mig_search.proofs.Kept.{corr_sound}
use Rattle.mig_search.proofs.Stops.{last_corr, migrated_whole, migrated_maps, migrated_spent, migrated_found, migrated_more}
use Rattle.mig_search.proofs.migrating.migrate.Goals as goal

pub returns-in_default-clause-outcome : goal.returns-in_default-clause-outcome
returns-in_default-clause-outcome c =
    let ranker = c.loop-taken.ranker in
    let all : IsListOf (IsCorr ranker.job) (RanksBefore ranker.job) ranker.given = rw c.in_default.is at c.in_ok-corr.ensures.all in
    migrated_whole c.args.job.now c.args.options.now ranker c.loop-taken.tried c.loop-taken._taken c.loop-taken.invariant (omega arith) (subst (λ j. IsListOf (IsCorr j) (RanksBefore j) ranker.given) c.loop-taken.invariant.of all)

pub returns-clause-outcome : goal.returns-clause-outcome
returns-clause-outcome c = migrated_maps c.args.job.now c.args.options.now c.loop-taken.ranker c.loop-taken.tried c.loop-taken._taken c.loop-taken.invariant (omega (arith, c.loop-taken-test.false))

pub look_at-requires-clause-sound : goal.look_at-requires-clause-sound
look_at-requires-clause-sound c =
    let ranker = c.loop-taken.ranker in
    let corr = c.in-Some.corr in
    let front : IsFront (IsCorr ranker.job) (RanksBefore ranker.job) (ranker.given ++ corr ∷ []) = rw c.in-Some.is at c.in_ok-corr.ensures.ranked in
    corr_sound c.args.job.now corr c.requires.typed c.requires.within c.requires.columns (last_corr c.args.job.now c.args.options.now ranker c.loop-taken.tried c.loop-taken._taken c.loop-taken.invariant corr front)

pub returns-in-Spent-clause-outcome : goal.returns-in-Spent-clause-outcome
returns-in-Spent-clause-outcome c =
    let ranker = c.loop-taken.ranker in
    let corr = c.in-Some.corr in
    let front : IsFront (IsCorr ranker.job) (RanksBefore ranker.job) (ranker.given ++ corr ∷ []) = rw c.in-Some.is at c.in_ok-corr.ensures.ranked in
    let stops : Stops c.args.job.now corr c.args.options.now c.loop-taken.tried c.look_at.new.tried stop.Spent = rw c.in-Spent.is at c.in_ok-look_at.ensures.stops in
    migrated_spent c.args.job.now c.args.options.now ranker c.loop-taken.tried c.loop-taken._taken c.loop-taken.invariant corr front c.look_at.new.tried c.loop-taken-test.true stops

pub returns-in-Found-clause-outcome : goal.returns-in-Found-clause-outcome
returns-in-Found-clause-outcome c =
    let ranker = c.loop-taken.ranker in
    let corr = c.in-Some.corr in
    let front : IsFront (IsCorr ranker.job) (RanksBefore ranker.job) (ranker.given ++ corr ∷ []) = rw c.in-Some.is at c.in_ok-corr.ensures.ranked in
    let stops : Stops c.args.job.now corr c.args.options.now c.loop-taken.tried c.look_at.new.tried (stop.Found c.in-Found.program c.in-Found.certificate) = rw c.in-Found.is at c.in_ok-look_at.ensures.stops in
    migrated_found c.args.job.now c.args.options.now ranker c.loop-taken.tried c.loop-taken._taken c.loop-taken.invariant corr front c.look_at.new.tried c.in-Found.program c.in-Found.certificate c.loop-taken-test.true stops

pub loop-taken-preserved : goal.loop-taken-preserved
loop-taken-preserved c =
    let ranker = c.loop-taken.ranker in
    let corr = c.in-Some.corr in
    let front : IsFront (IsCorr ranker.job) (RanksBefore ranker.job) (ranker.given ++ corr ∷ []) = rw c.in-Some.is at c.in_ok-corr.ensures.ranked in
    let given : c.next.new.self ≡ record { job = ranker.job; given = ranker.given ++ corr ∷ [] } = rw c.in-Some.is at c.in_ok-corr.ensures.given in
    let stops : Stops c.args.job.now corr c.args.options.now c.loop-taken.tried c.look_at.new.tried stop.Whole = rw c.in-Whole.is at c.in_ok-look_at.ensures.stops in
    migrated_more c.args.job.now c.args.options.now ranker c.loop-taken.tried c.loop-taken._taken c.loop-taken.invariant corr front c.look_at.new.tried c.next.new.self given stops
