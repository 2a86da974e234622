use Rattle.std.proofs.Common.{◌≡◌, ℕ, ◌<◌, ◌≤◌, ◌-◌, List, [], ◌∷◌, length, get_or, drop, take, refl, arith}
use Rattle.std.proofs.lemmas.List.{append-nil, take_rest}
use Rattle.mig_tokens.proofs.LexLemmas.{completes_more}
use Rattle.mig_tokens.proofs.lex.tokens.Goals as goal

empty : (rest : List ℕ) → length rest < 1 → rest ≡ []
empty [] h = refl
empty (b ∷ bs) h = absurd (omega arith)

headed : (rest : List ℕ) → 1 ≤ length rest → rest ≡ get_or rest 0 0 ∷ drop 1 rest
headed [] h = absurd (omega arith)
headed (b ∷ bs) h = refl

-- as a slice pattern reads it
read_as : (rest : List ℕ) → 1 ≤ length rest → rest ≡ get_or rest 0 0 ∷ take (length rest - 1) (drop 1 rest)
read_as rest h = rw take_rest (headed rest h)

pub loop-rest-preserved : goal.loop-rest-preserved
loop-rest-preserved c =
    rw (c.in_ok-push.ensures.items, c.after_gap-rest-in-len1-up.ensures.value)
    (completes_more _ _ c.loop-rest.rest.now _ (get_or c.loop-rest.rest.now 0 0) (take (length c.loop-rest.rest.now - 1) (drop 1 c.loop-rest.rest.now)) _ c.loop-rest.invariant (read_as _ c.in-len1-up.len_at_least) c.in_ok-token.ensures.value)

pub returns : goal.returns
returns c = rw (← append-nil c.loop-rest.tokens.items) (c.loop-rest.invariant [] (empty _ c.in_default.len_below))
