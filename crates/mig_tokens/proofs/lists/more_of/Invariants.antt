use Rattle.std.proofs.Common.{◌≡◌, ◌-◌, ◌+◌, length}
use Rattle.mig_tokens.specs.Pieces.{next}
use Rattle.mig_tokens.specs.Reading.{with_front, most_at}
use Rattle.mig_tokens.proofs.lists.more_of.Given as goal

abbrev pub invariant-loop-i : goal.invariant-loop-i
invariant-loop-i g l = with_front l.items.items (most_at g.T.Item.begun g.T.Item.reads (next g.T.Item.takes) (length l.tokens - l.i) (l.start + l.i, l.left) l.rest) ≡ with_front l.fn.before.items (most_at g.T.Item.begun g.T.Item.reads (next g.T.Item.takes) (length l.tokens) (l.start, l.fn.room) l.tokens)
