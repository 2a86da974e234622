-- The rows of a choice that was put back: those of named variables stand behind, all others before.
use Rattle.std.proofs.Common.{◌≡◌, ℕ, ◌+◌, ◌-◌, ◌≤◌, Bool, true, false, cond, not, ◌&&◌, ◌||◌, List, [], ◌∷◌, ◌++◌, length, refl, sym, ap, ap₂, ◌∙◌, arith}
use Rattle.std.specs.Prelude.{◌==◌}
use Rattle.std.proofs.lemmas.Bool.{eqb-true}
use Rattle.std.proofs.lemmas.List.{map-append, get_or_append_left, get_or-append-add}
use Rattle.mig_meaning.specs.declared.states.Placed.{Placed}
use Rattle.mig_meaning.specs.Lists.{place, has}
use Rattle.mig_meaning.specs.Rows.{no_row}
use Rattle.mig_algebra.specs.declared.atoms.Var.{Var}
use Rattle.mig_algebra.specs.Meaning.{Env, row_at}
use Rattle.mig_algebra.specs.Tidied.{Slot, slots, numbers_of}
use Rattle.mig_algebra.proofs.Slots.{place-append, place-in}
use Rattle.mig_algebra.proofs.Named.{put_back, put_back-at, unnamed}

-- the numbers of the unnamed slots
pub has-unnamed : (named ps : List Slot) (v : ℕ) → has (numbers_of (unnamed named ps)) v ≡ (has (numbers_of ps) v && not (has (numbers_of named) v))
has-unnamed named [] v = refl
has-unnamed named (p ∷ ps) v =
    step (has (numbers_of named) p.number)
    ∙ ap (λ r. cond (has (numbers_of named) p.number) r ((p.number == v) || r)) (has-unnamed named ps v)
    ∙ table (p.number == v) (has (numbers_of named) p.number) (has (numbers_of named) v) (has (numbers_of ps) v) (λ t. ap (has (numbers_of named)) (eqb-true p.number v t))
  where
    step : (b : Bool) → has (numbers_of (cond (not b) (p ∷ unnamed named ps) (unnamed named ps))) v ≡ cond b (has (numbers_of (unnamed named ps)) v) ((p.number == v) || has (numbers_of (unnamed named ps)) v)
    step true = refl
    step false = refl

    table : (m b t h : Bool) → (m ≡ true → b ≡ t) → cond b (h && not t) (m || (h && not t)) ≡ ((m || h) && not t)
    table true true true true e = refl
    table true true true false e = refl
    table true false false h e = refl
    table true true false h e = cc (e refl)
    table true false true h e = cc (e refl)
    table false true t h e = refl
    table false false t h e = refl

module _ (named : List Slot) (n : ℕ) (vars : List Var) (c x : Env) (v : ℕ) where
  -- the slots that are not named
  abbrev pub others : List Slot
  others = unnamed named (slots n vars)

  -- the row of number v
  abbrev pub at : Placed
  at = row_at (put_back (numbers_of (others ++ named)) (numbers_of (slots n vars)) (c ++ x)) (v - n)

  reached : n ≤ v → has (numbers_of (slots n vars)) v ≡ true → at ≡ row_at (c ++ x) (cond (has (numbers_of others) v) (place (numbers_of others) v) (length (numbers_of others) + place (numbers_of named) v))
  reached l h =
      put_back-at (numbers_of (others ++ named)) n vars (c ++ x) v l
      ∙ ap (λ b. cond b (row_at (c ++ x) (place (numbers_of (others ++ named)) v)) no_row) h
      ∙ ap (row_at (c ++ x)) (ap (λ ns. place ns v) (map-append (λ (p : Slot). p.number) others named) ∙ place-append (numbers_of others) (numbers_of named) v)

  -- the row of a named variable is one of those behind
  pub named-row : n ≤ v → has (numbers_of (slots n vars)) v ≡ true → has (numbers_of named) v ≡ true → length c ≡ length (numbers_of others) → at ≡ row_at x (place (numbers_of named) v)
  named-row l h t k =
      let out : has (numbers_of others) v ≡ false = has-unnamed named (slots n vars) v ∙ ap₂ (λ a b. a && not b) h t in
      reached l h
      ∙ ap (λ b. row_at (c ++ x) (cond b (place (numbers_of others) v) (length (numbers_of others) + place (numbers_of named) v))) out
      ∙ ap (λ m. row_at (c ++ x) (m + place (numbers_of named) v)) (sym k)
      ∙ get_or-append-add c x (place (numbers_of named) v) no_row

  -- the row of any other is one of those before
  pub unnamed-row : n ≤ v → has (numbers_of (slots n vars)) v ≡ true → has (numbers_of named) v ≡ false → length c ≡ length (numbers_of others) → at ≡ row_at c (place (numbers_of others) v)
  unnamed-row l h t k =
      let in' : has (numbers_of others) v ≡ true = has-unnamed named (slots n vars) v ∙ ap₂ (λ a b. a && not b) h t in
      let p = place-in (numbers_of others) v in' in
      reached l h
      ∙ ap (λ b. row_at (c ++ x) (cond b (place (numbers_of others) v) (length (numbers_of others) + place (numbers_of named) v))) in'
      ∙ get_or_append_left c x no_row (place (numbers_of others) v) (omega (arith, p, k))
