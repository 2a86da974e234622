-- What is chosen, by how many tables the old view's join has.
use Rattle.std.proofs.Common.{List, ℕ, length, ap₂, ◌∙◌}
use Rattle.mig_listing.specs.Chosen.{chosen}
use Rattle.mig_folding.specs.Naming.{may_name}
use Rattle.mig_folding.specs.Writing.{host_now}
use Rattle.mig_folding.proofs.Kept.{tables-length}
use Rattle.mig_folding.proofs.offering.names_by.Goals as goal

pub returns : goal.returns
returns c =
    let h = host_now c.args.hosting.now in
    let j = c.args.source.now.join in
    c.in_ok-all.ensures
    ∙ ap₂ (λ (n : ℕ) (b : List ℕ). chosen (may_name h j) (length h.scope) n b) (tables-length j c.in_ok-more.more (c.in_ok-more.ensures ∙ c.len.ensures)) c.new-none.ensures
