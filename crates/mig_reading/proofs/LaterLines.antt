-- The lines behind the invariants, by what their first line gave.
use Rattle.std.proofs.Common.{◌≡◌, List, None, codes, ap, ◌∙◌}
use Rattle.mig_tokens.specs.declared.token.Token.{Token}
use Rattle.mig_tokens.specs.Reading.{Took, ◌>>=◌}
use Rattle.mig_tokens.specs.Pieces.{word_at, sign_at}
use Rattle.mig_reading.specs.declared.tree.FactTree.{FactTree}
use Rattle.mig_reading.specs.ReadingPairs.{last_lines_at, later_lines_at}

pub later_is : (facts : List FactTree) (ts r q : List Token) → word_at (codes "certificate") None ts ≡ Took tt r → sign_at (codes "\n") r ≡ Took tt q → later_lines_at facts ts ≡ last_lines_at facts q
unfolding later_lines_at
later_is facts ts r q e f = ap (λ o. o >>= λ c. sign_at (codes "\n") c.1 >>= λ g. last_lines_at facts g.1) e ∙ ap (λ o. o >>= λ g. last_lines_at facts g.1) f
