use Rattle.std.proofs.Common.{◌≡◌, ◌++◌, ◌∷◌, [], length, rules}
use Rattle.mig_storage.specs.Index.{ChangesAt}
use Rattle.mig_storage.proofs.EntryLemmas.{changes-push}
use Rattle.mig_storage.proofs.slots.Slots.push.Goals as goal

pub invariant_of-self-2 : goal.invariant_of-self-2
invariant_of-self-2 c =
    let items : c.push.new.self.items ≡ c.as_slice.result.now ++ c.args.slot ∷ [] = search rules in
    let place : c.len-place.result ≡ length c.as_slice.result.now = search rules in
    let changed : ChangesAt c.len-place.result c.args.slot.row c.as_slice.result.now c.push.new.self.items = rw (place, items) (changes-push c.as_slice.result.now c.args.slot) in
    c.in_ok-follow_all.ensures.ok c.push.new.self.items changed
