use Rattle.std.proofs.Common.{◌≡◌, [], length, sym, ◌∙◌, ap, subst, arith}
use Rattle.std.specs.List.{All}
use Rattle.std.proofs.lemmas.List.{append-nil}
use Rattle.mig_sketch.specs.Choices.{sizes_of}
use Rattle.mig_complete.specs.Covering.{IsFirstChoice, HasNoChoice, IsInSizes}
use Rattle.mig_search.specs.Judging.{IsEntry, IsFind}
use Rattle.mig_search.specs.Blocking.{is_blocked, picks_at}
use Rattle.mig_search.proofs.Looks.{first_looked}
use Rattle.mig_search.proofs.Picked.{length_total}
use Rattle.mig_search.proofs.Stops.{looked_whole, looked_found, looked_more, picked_choice, sizes_are}
use Rattle.mig_search.proofs.looking.look_through.Goals as goal

pub choices-init : goal.choices-init
choices-init c = record {
  seen = [];
  looked = first_looked c.args.job.now c.args.corr.now c.args.options.now.tests c.args.plan.now;
  are = sym (append-nil c.args.tried.now);
  chosen = c.in_ok-chooser.ensures;
  room = omega arith;
}

pub returns-in_default-clause-stops : goal.returns-in_default-clause-stops
returns-in_default-clause-stops c =
    let none : HasNoChoice c.choices.chooser.sizes c.choices.chooser.blocks = rw c.in_default.is at c.in_ok-choice.ensures.none in
    looked_whole c.args.job.now c.args.corr.now c.args.options.now c.args.plan.now c.args.tried.now c.choices.tried c.choices.chooser c.choices.invariant none (omega (arith, c.len.ensures))

pub returns-in-Find-clause-stops : goal.returns-in-Find-clause-stops
returns-in-Find-clause-stops c =
    let first : IsFirstChoice c.choices.chooser.sizes c.choices.chooser.blocks c.in-Some.choice.picks = rw c.in-Some.is at c.in_ok-choice.ensures.first in
    let find : IsFind c.args.job.now c.args.corr.now c.args.options.now.tests c.in_ok-program.program c.in-Find.certificate = rw c.in-Find.is at c.in_ok-certificate.ensures.verdict in
    looked_found c.args.job.now c.args.corr.now c.args.options.now c.args.plan.now c.args.tried.now c.choices.tried c.choices.chooser c.choices.invariant c.in-Some.choice.picks c.in_ok-program.program c.in-Find.certificate first c.in_ok-program.ensures.filled find (omega (arith, c.len.ensures))

pub block_for-requires-clause-few : goal.block_for-requires-clause-few
block_for-requires-clause-few c =
    let first : IsFirstChoice c.choices.chooser.sizes c.choices.chooser.blocks c.in-Some.choice.picks = rw c.in-Some.is at c.in_ok-choice.ensures.first in
    let choice = picked_choice c.args.job.now c.args.corr.now c.args.options.now c.args.plan.now c.args.tried.now c.choices.tried c.choices.chooser c.choices.invariant c.in-Some.choice.picks first in
    let le = length_total c.args.plan.now.holes c.in-Some.choice.picks choice in
    let same : length c.as_slice.result.now ≡ length c.args.plan.now.holes = ap length c.as_slice.ensures in
    omega (arith, le, same, c.requires.small)

pub choices-preserved : goal.choices-preserved
choices-preserved c =
    let first : IsFirstChoice c.choices.chooser.sizes c.choices.chooser.blocks c.in-Some.choice.picks = rw c.in-Some.is at c.in_ok-choice.ensures.first in
    let entry : IsEntry c.args.job.now c.args.corr.now c.args.options.now.tests c.in_ok-program.program c.in-Entry.entry = rw c.in-Entry.is at c.in_ok-certificate.ensures.verdict in
    let block : c.in_ok-block-in-Entry.block.picks ≡ picks_at 0 c.args.plan.now.holes (is_blocked c.in-Entry.entry) c.in-Some.choice.picks =
    c.in_ok-block-in-Entry.ensures.block ∙ (ap (λ hs. picks_at 0 hs (is_blocked c.in-Entry.entry) c.as_slice-in-Entry.result.now) c.as_slice.ensures ∙ ap (picks_at 0 c.args.plan.now.holes (is_blocked c.in-Entry.entry)) c.as_slice-in-Entry.ensures) in
    looked_more c.args.job.now c.args.corr.now c.args.options.now c.args.plan.now c.args.tried.now c.choices.tried c.choices.chooser c.choices.invariant c.in-Some.choice.picks c.in_ok-program.program c.in-Entry.entry c.in_ok-block-in-Entry.block c.push.new.self c.block.new.self first c.in_ok-program.ensures.filled entry block c.in_ok-block-in-Entry-2.ensures.ok c.in_ok-push-in-Entry.ensures.ok (omega (arith, c.len.ensures))

pub block-requires : goal.block-requires
block-requires c =
    let sizes = sizes_are c.args.job.now c.args.corr.now c.args.options.now c.args.plan.now c.args.tried.now c.choices.tried c.choices.chooser c.choices.invariant in
    subst (λ s. All (IsInSizes s) c.in_ok-block-in-Entry.block.picks) (ap sizes_of c.as_slice.ensures ∙ sym sizes) c.in_ok-block-in-Entry.ensures.picks
