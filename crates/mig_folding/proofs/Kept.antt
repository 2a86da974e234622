-- One variable more of those that stay.
use Rattle.std.specs.Prelude.{slice_index_or}
use Rattle.std.proofs.lemmas.List.{length-map}
use Rattle.mig_schema.specs.declared.faults.Side.TheVariants.{Old}
use Rattle.mig_algebra.specs.declared.atoms.Atom.{Atom}
use Rattle.mig_algebra.specs.declared.literals.Lit.{Lit}
use Rattle.mig_algebra.specs.Obligations.{var_of}
use Rattle.mig_folding.specs.Folding.{first_added, folded_atom, folded_lits}
use Rattle.std.proofs.Common.{◌≡◌, ℕ, zero, suc, ◌+◌, ◌<◌, Bool, true, false, cond, not, List, [], ◌∷◌, ◌++◌, drop, length, map, refl, sym, ap, ap₂, ◌∙◌, arith, append_assoc}
use Rattle.mig_schema.specs.declared.programs.Join.{Join}
use Rattle.mig_schema.specs.declared.programs.Joined.{Joined}
use Rattle.mig_schema.specs.Joins.{tables_of}
use Rattle.mig_meaning.specs.Lists.{has}
use Rattle.mig_algebra.specs.declared.atoms.Var.{Var}
use Rattle.mig_algebra.specs.Tidied.{numbers_of, vars_of}
use Rattle.mig_folding.specs.declared.writing.Folding.{Folding}
use Rattle.mig_folding.specs.Writing.{stay, lits_at, folded_at, fold_now, lits_by, folded_by, IsCounted}

pub stay-step : (xs : List ℕ) (n : ℕ) (vars : List Var) (i : ℕ) → i < length vars → numbers_of (stay xs (n + i) (drop i vars)) ≡ cond (not (has xs (n + i))) ((n + i) ∷ numbers_of (stay xs (n + (i + 1)) (drop (i + 1) vars))) (numbers_of (stay xs (n + (i + 1)) (drop (i + 1) vars)))
stay-step xs n [] i l = absurd (omega (arith, l))
stay-step xs n (v ∷ vs) zero l =
    let a : n + 0 ≡ n = omega arith in
    let b : n + 1 ≡ n + (0 + 1) = omega arith in
    ap (λ m. numbers_of (stay xs m (v ∷ vs))) a ∙ both (has xs n) (stay xs (n + 1) vs)
    ∙ ap (λ m. cond (not (has xs n)) (n ∷ numbers_of (stay xs m vs)) (numbers_of (stay xs m vs))) b
    ∙ ap (λ m. cond (not (has xs m)) (m ∷ numbers_of (stay xs (n + (0 + 1)) vs)) (numbers_of (stay xs (n + (0 + 1)) vs))) (sym a)
  where
    both : (b : Bool) (rest : List _) → numbers_of (cond (not b) (record { number = n; var = v } ∷ rest) rest) ≡ cond (not b) (n ∷ numbers_of rest) (numbers_of rest)
    both true rest = refl
    both false rest = refl
stay-step xs n (v ∷ vs) (suc i) l =
    let a : n + suc i ≡ (n + 1) + i = omega arith in
    let b : (n + 1) + (i + 1) ≡ n + (suc i + 1) = omega arith in
    let c : suc (i + 1) ≡ suc i + 1 = omega arith in
    ap (λ m. numbers_of (stay xs m (drop i vs))) a
    ∙ stay-step xs (n + 1) vs i (omega (arith, l))
    ∙ ap (λ m. cond (not (has xs ((n + 1) + i))) (((n + 1) + i) ∷ numbers_of (stay xs m (drop (i + 1) vs))) (numbers_of (stay xs m (drop (i + 1) vs)))) b
    ∙ ap (λ m. cond (not (has xs m)) (m ∷ numbers_of (stay xs (n + (suc i + 1)) (drop (i + 1) vs))) (numbers_of (stay xs (n + (suc i + 1)) (drop (i + 1) vs)))) (sym a)
    ∙ ap (λ k. cond (not (has xs (n + suc i))) ((n + suc i) ∷ numbers_of (stay xs (n + (suc i + 1)) (drop k (v ∷ vs)))) (numbers_of (stay xs (n + (suc i + 1)) (drop k (v ∷ vs))))) c

-- a step of the loop
pub stay_kept : (xs : List ℕ) (n : ℕ) (vars : List Var) (i : ℕ) (all kept : List ℕ) → i < length vars → all ≡ kept ++ numbers_of (stay xs (n + i) (drop i vars)) → has xs (n + i) ≡ true → all ≡ kept ++ numbers_of (stay xs (n + (i + 1)) (drop (i + 1) vars))
stay_kept xs n vars i all kept l h t =
    h ∙ ap (λ r. kept ++ r) (stay-step xs n vars i l ∙ ap (λ b. cond (not b) ((n + i) ∷ numbers_of (stay xs (n + (i + 1)) (drop (i + 1) vars))) (numbers_of (stay xs (n + (i + 1)) (drop (i + 1) vars)))) t)

pub stay_pushed : (xs : List ℕ) (n : ℕ) (vars : List Var) (i : ℕ) (all kept : List ℕ) → i < length vars → all ≡ kept ++ numbers_of (stay xs (n + i) (drop i vars)) → has xs (n + i) ≡ false → all ≡ (kept ++ ((n + i) ∷ [])) ++ numbers_of (stay xs (n + (i + 1)) (drop (i + 1) vars))
stay_pushed xs n vars i all kept l h t =
    h ∙ ap (λ r. kept ++ r) (stay-step xs n vars i l ∙ ap (λ b. cond (not b) ((n + i) ∷ numbers_of (stay xs (n + (i + 1)) (drop (i + 1) vars))) (numbers_of (stay xs (n + (i + 1)) (drop (i + 1) vars)))) t)
    ∙ sym (append_assoc kept ((n + i) ∷ []) (numbers_of (stay xs (n + (i + 1)) (drop (i + 1) vars))))

pub vars-step : (xs : List ℕ) (n : ℕ) (vars : List Var) (d : Var) (i : ℕ) → i < length vars → vars_of (stay xs (n + i) (drop i vars)) ≡ cond (not (has xs (n + i))) (slice_index_or vars i d ∷ vars_of (stay xs (n + (i + 1)) (drop (i + 1) vars))) (vars_of (stay xs (n + (i + 1)) (drop (i + 1) vars)))
vars-step xs n [] d i l = absurd (omega (arith, l))
vars-step xs n (v ∷ vs) d zero l =
    let a : n + 0 ≡ n = omega arith in
    let b : n + 1 ≡ n + (0 + 1) = omega arith in
    ap (λ m. vars_of (stay xs m (v ∷ vs))) a ∙ both (has xs n) (stay xs (n + 1) vs)
    ∙ ap (λ m. cond (not (has xs n)) (v ∷ vars_of (stay xs m vs)) (vars_of (stay xs m vs))) b
    ∙ ap (λ m. cond (not (has xs m)) (v ∷ vars_of (stay xs (n + (0 + 1)) vs)) (vars_of (stay xs (n + (0 + 1)) vs))) (sym a)
  where
    both : (b : Bool) (rest : List _) → vars_of (cond (not b) (record { number = n; var = v } ∷ rest) rest) ≡ cond (not b) (v ∷ vars_of rest) (vars_of rest)
    both true rest = refl
    both false rest = refl
vars-step xs n (v ∷ vs) d (suc i) l =
    let a : n + suc i ≡ (n + 1) + i = omega arith in
    let b : (n + 1) + (i + 1) ≡ n + (suc i + 1) = omega arith in
    let c : suc (i + 1) ≡ suc i + 1 = omega arith in
    let y = slice_index_or vs i d in
    ap (λ m. vars_of (stay xs m (drop i vs))) a
    ∙ vars-step xs (n + 1) vs d i (omega (arith, l))
    ∙ ap (λ m. cond (not (has xs ((n + 1) + i))) (y ∷ vars_of (stay xs m (drop (i + 1) vs))) (vars_of (stay xs m (drop (i + 1) vs)))) b
    ∙ ap (λ m. cond (not (has xs m)) (y ∷ vars_of (stay xs (n + (suc i + 1)) (drop (i + 1) vs))) (vars_of (stay xs (n + (suc i + 1)) (drop (i + 1) vs)))) (sym a)
    ∙ ap (λ k. cond (not (has xs (n + suc i))) (y ∷ vars_of (stay xs (n + (suc i + 1)) (drop k (v ∷ vs)))) (vars_of (stay xs (n + (suc i + 1)) (drop k (v ∷ vs))))) c

pub vars_kept : (xs : List ℕ) (n : ℕ) (vars : List Var) (i : ℕ) (all kept : List Var) → i < length vars → all ≡ kept ++ vars_of (stay xs (n + i) (drop i vars)) → has xs (n + i) ≡ true → all ≡ kept ++ vars_of (stay xs (n + (i + 1)) (drop (i + 1) vars))
vars_kept xs n vars i all kept l h t =
    h ∙ ap (λ r. kept ++ r) (vars-step xs n vars (var_of Old 0 0) i l ∙ ap (λ b. cond (not b) (slice_index_or vars i (var_of Old 0 0) ∷ vars_of (stay xs (n + (i + 1)) (drop (i + 1) vars))) (vars_of (stay xs (n + (i + 1)) (drop (i + 1) vars)))) t)

pub vars_pushed : (xs : List ℕ) (n : ℕ) (vars : List Var) (d : Var) (i : ℕ) (all kept : List Var) → i < length vars → all ≡ kept ++ vars_of (stay xs (n + i) (drop i vars)) → has xs (n + i) ≡ false → all ≡ (kept ++ (slice_index_or vars i d ∷ [])) ++ vars_of (stay xs (n + (i + 1)) (drop (i + 1) vars))
vars_pushed xs n vars d i all kept l h t =
    h ∙ ap (λ r. kept ++ r) (vars-step xs n vars d i l ∙ ap (λ b. cond (not b) (slice_index_or vars i d ∷ vars_of (stay xs (n + (i + 1)) (drop (i + 1) vars))) (vars_of (stay xs (n + (i + 1)) (drop (i + 1) vars)))) t)
    ∙ sym (append_assoc kept (slice_index_or vars i d ∷ []) (vars_of (stay xs (n + (i + 1)) (drop (i + 1) vars))))

-- ---- with the numbers that are counted, what the code writes is what the definitions say

counted-first : (w : Folding) → IsCounted w → w.first ≡ first_added (fold_now w)
counted-first w c = c.first ∙ ap (λ ks. w.base + length ks) c.kept ∙ ap (λ n. w.base + n) (length-map (stay w.named.now.numbers.now w.base w.vars.now) (λ q. q.number))

pub counted-lits : (w : Folding) → IsCounted w → (lits : List Lit) → lits_by w lits ≡ folded_lits (fold_now w) lits
counted-lits w c lits = ap₂ (λ (ks : List ℕ) (n : ℕ). lits_at (fold_now w) ks n lits) c.kept (counted-first w c)

pub counted-atoms : (w : Folding) → IsCounted w → (atoms : List Atom) → map (folded_by w) atoms ≡ map (folded_atom (fold_now w)) atoms
counted-atoms w c atoms = ap₂ (λ (ks : List ℕ) (n : ℕ). map (folded_at (fold_now w) ks n) atoms) c.kept (counted-first w c)

-- how many tables a join has
pub tables-length : (j : Join) (n : ℕ) → n ≡ length j.more → n + 1 ≡ length (tables_of j)
tables-length j n h = omega (arith, h, length-map j.more (λ (m : Joined). m.table))
