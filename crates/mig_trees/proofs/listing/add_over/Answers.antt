use Rattle.std.proofs.Common.{◌≡◌, ◌∙◌, false, sym, ap}
use Rattle.std.proofs.lemmas.List.{append-nil}
use Rattle.mig_trees.specs.Inside.{inside}
use Rattle.mig_trees.specs.Making.{is_tree}
use Rattle.mig_trees.proofs.AllTrees.{none_over}
use Rattle.mig_trees.proofs.listing.add_over.Goals as goal

pub returns-then-not-branch : goal.returns-then-not-branch
returns-then-not-branch c =
    let schema = c.args.schema.now in
    let tables = c.args.tables.now in
    let apart : is_tree schema tables (inside schema tables) ≡ false = sym (c.in_ok-connects.ensures ∙ ap (is_tree schema tables) (c.as_slice.ensures.value ∙ c.in_ok-pool.ensures)) ∙ c.if-not-branch.true in
    rw (none_over c.args.schema.now c.args.count c.args.tables.now apart) (sym (append-nil c.args.list.now.items))
