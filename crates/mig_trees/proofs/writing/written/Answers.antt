use Rattle.std.proofs.Common.{◌≡◌, ◌-◌, ◌+◌, ◌∙◌, Some, None, sym, ap, length, suc, arith}
use Rattle.mig_trees.specs.Joining as spec
use Rattle.mig_trees.proofs.Steps.{ends_none, ends_out, goes_on, written_is}
use Rattle.mig_trees.proofs.writing.written.Goals as goal

pub returns-in-None : goal.returns-in-None
returns-in-None c =
    let schema = c.args.schema.now in
    let links = c.args.links.now in
    let none : spec.next_joined schema c.loop.taken.items links ≡ None = ap (λ t. spec.next_joined schema t links) (sym c.as_slice.ensures.value) ∙ (sym c.next_joined.ensures ∙ c.in-None.is) in
    let more = ends_none schema links c.loop.taken.items (length links - c.loop.counter) c.loop.more.items _ none c.loop.invariant in
    written_is schema c.args.tables.now links c.least-first.result c.from_vec.result c.least-first.ensures (c.from_vec.ensures ∙ more)

pub loop-preserved : goal.loop-preserved
loop-preserved c =
    let schema = c.args.schema.now in
    let links = c.args.links.now in
    let j = c.in-Some.joined in
    let some : spec.next_joined schema c.loop.taken.items links ≡ Some c.in-Some.joined = ap (λ t. spec.next_joined schema t links) (sym c.as_slice.ensures.value) ∙ (sym c.next_joined.ensures ∙ c.in-Some.is) in
    let left : length links - c.loop.counter ≡ suc (length links - (c.loop.counter + 1)) = omega (arith, c.loop-test.true) in
    let step = goes_on schema links c.loop.taken.items (length links - c.loop.counter) (length links - (c.loop.counter + 1)) c.in-Some.joined c.loop.more.items _ left some c.loop.invariant in
    rw (c.in_ok-push-in-Some-2.ensures.items, c.in_ok-push-in-Some.ensures.items) step

pub returns : goal.returns
returns c =
    let schema = c.args.schema.now in
    let links = c.args.links.now in
    let more = ends_out schema links c.loop.taken.items (length links - c.loop.counter) c.loop.more.items _ (omega (arith, c.loop-test.false)) c.loop.invariant in
    written_is schema c.args.tables.now links c.least-first.result c.from_vec-2.result c.least-first.ensures (c.from_vec-2.ensures ∙ more)
