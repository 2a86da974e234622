-- Words behind a command's name, one more at a time.
use Rattle.std.proofs.Common.{◌≡◌, ℕ, ◌+◌, ◌<◌, ◌≤◌, true, List, [], ◌∷◌, ◌++◌, length, take, drop, get_or, ◌⊎◌, inl, inr, codes, sym, ap, ◌∙◌, subst, arith}
use Rattle.std.specs.List.{list_all}
use Rattle.std.proofs.lemmas.List.{take_more, drop_more, take-append-drop, length-take-le}
use Rattle.mig_words.specs.declared.command.WordFault.{WordFault}
use Rattle.mig_words.specs.declared.command.WordFault.TheVariants.{Memory, UnknownWord}
use Rattle.mig_words.specs.Words.{is_dashed}
use Rattle.mig_words.specs.Files.{is_plain, IsNoFile}
use Rattle.mig_words.specs.declared.drafts.Draft.{Draft}
use Rattle.mig_words.specs.Faults.{IsFault}
use Rattle.mig_words.specs.Drafts.{IsDraft, Takes, Refuses}
use Rattle.mig_words.proofs.Drafting.{grows}
use Rattle.mig_words.proofs.Refusing.{few, refused}

-- a list is what stands before one of its items, the item, and the rest
parts : (ws : List (List ℕ)) (i : ℕ) (w : List ℕ) → i < length ws → w ≡ get_or ws i w → ws ≡ take i ws ++ w ∷ drop (i + 1) ws
parts ws i w lt is = sym (take-append-drop i ws) ∙ ap (λ (vs : List (List ℕ)). take i ws ++ vs) (drop_more ws i w lt ∙ ap (λ (v : List ℕ). v ∷ drop (i + 1) ws) (sym is))

-- ---- files alone

pub no_file : (most : ℕ) (ws : List (List ℕ)) (i : ℕ) (w : List ℕ) → i < length ws → w ≡ get_or ws i w → list_all is_plain (take i ws) ≡ true → i ≤ most → (i ≡ most) ⊎ (is_dashed w ≡ true)
    → IsNoFile most ws (UnknownWord (i + 2))
no_file most ws i w lt is plain few wrong =
    let e : length (take i ws) ≡ i = length-take-le i ws (omega (arith, lt)) in
    record {
      before = take i ws;
      word = w;
      after = drop (i + 1) ws;
      spells = parts ws i w lt is;
      plain = plain;
      few = subst (λ (n : ℕ). n ≤ most) (sym e) few;
      wrong = subst (λ (n : ℕ). (n ≡ most) ⊎ (is_dashed w ≡ true)) (sym e) wrong;
      told = ap (λ (n : ℕ). UnknownWord (n + 2)) (sym e);
    }

-- ---- behind `migrate`

module _ (ws : List (List ℕ)) (i : ℕ) (w : List ℕ) (d : Draft) (lt : i < length ws) (is : w ≡ get_or ws i w) (g : IsDraft (take i ws) d) where
  -- words are numbered within a u32
  pub low : i ≤ 8
  low = let e : length (take i ws) ≡ i = length-take-le i ws (omega (arith, lt)) in omega (arith, e, few (take i ws) d g)

  pub stepped : (e : Draft) → Takes d w e → IsDraft (take (i + 1) ws) e
  stepped e t = subst (λ (vs : List (List ℕ)). IsDraft vs e) (ap (λ (v : List ℕ). take i ws ++ v ∷ []) is ∙ sym (take_more ws i w lt)) (grows (take i ws) w d g e t)

  pub stopped : (at : ℕ) (fault : WordFault) → at ≡ i + 2 → (fault ≡ Memory) ⊎ Refuses d w at fault → (fault ≡ Memory) ⊎ IsFault (codes "migrate" ∷ ws) fault
  stopped at fault e (inl m) = inl m
  stopped at fault e (inr r) =
      let n : at ≡ length (take i ws) + 2 = let k : length (take i ws) ≡ i = length-take-le i ws (omega (arith, lt)) in omega (arith, k, e) in
      inr (refused (take i ws) d g w ws (drop (i + 1) ws) at fault (parts ws i w lt is) n r)
