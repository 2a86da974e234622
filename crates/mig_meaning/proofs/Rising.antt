-- Rows whose ids rise: one more at the end, and some taken out.
use Rattle.std.proofs.Common.{◌<◌, Bool, true, false, cond, List, [], ◌∷◌, ◌++◌}
use Rattle.std.specs.Prelude.{filter}
use Rattle.mig_meaning.specs.declared.states.Placed.{Placed}
use Rattle.mig_meaning.specs.Lists.{Each}
use Rattle.mig_meaning.specs.States.{Rising}
use Rattle.mig_meaning.proofs.Within.{each-append, each-filter}

pub rising-append : (rows : List Placed) (p : Placed) → Rising rows → Each (λ (q : Placed). q.id < p.id) rows → Rising (rows ++ (p ∷ []))
rising-append [] p r b = (tt, tt)
rising-append (x ∷ xs) p r b = (each-append (λ (q : Placed). x.id < q.id) xs (p ∷ []) r.0 (b.0, tt), rising-append xs p r.1 b.1)

pub rising-filter : (k : Placed → Bool) (rows : List Placed) → Rising rows → Rising (filter k rows)
rising-filter k [] r = tt
rising-filter k (x ∷ xs) r = go (k x) (rising-filter k xs r.1)
  where
    go : (b : Bool) → Rising (filter k xs) → Rising (cond b (x ∷ filter k xs) (filter k xs))
    go true ih = (each-filter (λ (q : Placed). x.id < q.id) k xs r.0, ih)
    go false ih = ih
