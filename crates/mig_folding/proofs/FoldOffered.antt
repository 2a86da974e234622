-- All variables are tried by which a view folds.
use Rattle.std.proofs.Common.{◌≡◌, ℕ, suc, ◌+◌, ◌-◌, ◌<◌, Bool, true, false, not, ◌&&◌, ◌||◌, List, [], ◌∷◌, ◌++◌, take, length, Option, Some, None, refl, sym, ap, ap₂, ◌∙◌, arith, inl, inr, ◌⊎◌, subst, append_assoc}
use Rattle.std.specs.Prelude.{◌==◌, nat_lt, slice_get}
use Rattle.std.specs.List.{list_all}
use Rattle.std.proofs.lemmas.Bool.{cases_Bool, and_parts, and_from, or_parts, not-true, ltb-true}
use Rattle.std.proofs.lemmas.List.{get_or_append_left}
use Rattle.mig_schema.specs.declared.programs.Join.{Join}
use Rattle.mig_schema.specs.declared.programs.Joined.{Joined}
use Rattle.mig_schema.specs.declared.programs.Op.TheVariants.{Eq}
use Rattle.mig_schema.specs.declared.tables.ColId.{ColId}
use Rattle.mig_schema.specs.Joins.{tables_of}
use Rattle.mig_meaning.specs.declared.relating.Invariant.{Invariant}
use Rattle.mig_meaning.specs.declared.relating.Invariant.TheVariants.{Views, Unique, Apart, Within}
use Rattle.mig_meaning.specs.declared.relating.View.{View}
use Rattle.mig_meaning.specs.Lists.{place, has, Each}
use Rattle.mig_algebra.specs.declared.atoms.Var.{Var}
use Rattle.mig_algebra.specs.declared.atoms.Atom.TheVariants.{Col}
use Rattle.mig_algebra.specs.declared.literals.Lit.{Lit}
use Rattle.mig_algebra.specs.declared.terms.Term.{Term}
use Rattle.mig_classes.specs.Given.{given}
use Rattle.mig_listing.specs.Choices.{numbers}
use Rattle.mig_listing.specs.Chosen.{MayGoOn}
use Rattle.mig_listing.specs.Listing.{IsIn, Rises}
use Rattle.mig_listing.specs.Orders.{Before}
use Rattle.mig_listing.proofs.Choices.{in_numbers, numbers_rise}
use Rattle.mig_listing.proofs.ChosenAll.{each-rises, each-has, chosen-rises, chosen-has}
use Rattle.mig_replacing.specs.Given.{plain}
use Rattle.mig_steps.specs.Offering.{OffersAlone}
use Rattle.mig_steps.specs.Paths.{own_path}
use Rattle.mig_steps.specs.Ways.{on_term}
use Rattle.mig_steps.proofs.OfferedPaths.{own-with}
use Rattle.mig_steps.proofs.Options.{cond-then, get-within}
use Rattle.mig_folding.specs.Folding.{Fold, is_of_table, are_named, column_of, join_given, lits_fold, host_folds, atom_folds, term_fold, folded}
use Rattle.mig_folding.specs.Folds.{fold, term_host, fold_args}
use Rattle.mig_folding.specs.Naming.{Host, is_reached, may_join, may_name, names_for, host_args}
use Rattle.mig_folding.proofs.FoldsGiven.{folds-by}
use Rattle.mig_folding.proofs.Picked.{parts}

-- ---- fronts

has-front : (ys zs : List ℕ) (x : ℕ) → has (ys ++ zs) x ≡ false → has ys x ≡ false
has-front [] zs x h = refl
has-front (y ∷ ys) zs x h = let o = or_parts (y == x) (has (ys ++ zs) x) h in ap₂ (λ a b. a || b) o.0 (has-front ys zs x o.1)

-- a front of numbers that name variables names variables for the first tables
named-front : (base : ℕ) (vars : List Var) (ys zs ts : List ℕ) → are_named base vars (ys ++ zs) ts ≡ true → are_named base vars ys (take (length ys) ts) ≡ true
named-front base vars [] zs ts h = refl
named-front base vars (y ∷ ys) zs [] h = cc
named-front base vars (y ∷ ys) zs (t ∷ ts) h =
    let a = and_parts (not (has (ys ++ zs) y)) _ h in
    let b = and_parts (not (nat_lt y base)) (is_of_table t (slice_get vars (y - base)) && are_named base vars (ys ++ zs) ts) a.1 in
    let c = and_parts (is_of_table t (slice_get vars (y - base))) (are_named base vars (ys ++ zs) ts) b.1 in
    and_from (not (has ys y)) _ (ap not (has-front ys zs y (not-true (has (ys ++ zs) y) a.0)))
    (and_from (not (nat_lt y base)) _ b.0
    (and_from (is_of_table t (slice_get vars (y - base))) (are_named base vars ys (take (length ys) ts)) c.0 (named-front base vars ys zs ts c.1)))

-- as many as tables, all of the host
named-length : (base : ℕ) (vars : List Var) (xs ts : List ℕ) → are_named base vars xs ts ≡ true → length xs ≡ length ts
named-length base vars [] [] h = refl
named-length base vars [] (t ∷ ts) h = cc
named-length base vars (x ∷ xs) [] h = cc
named-length base vars (x ∷ xs) (t ∷ ts) h = ap suc (named-length base vars xs ts (parts base vars x xs t ts h).rest)

named-within : (base : ℕ) (vars : List Var) (xs ts : List ℕ) → are_named base vars xs ts ≡ true → Each (λ x. x < base + length vars) xs
named-within base vars [] ts h = tt
named-within base vars (x ∷ xs) [] h = cc
named-within base vars (x ∷ xs) (t ∷ ts) h =
    let p = parts base vars x xs t ts h in
    let l = get-within vars (x - base) _ p.is in
    let n : x < base + length vars = omega (arith, p.from, l) in
    (n, named-within base vars xs ts p.rest)

module _ (h : Host) (j : Join) (whole : length h.scope ≡ h.base + length h.vars) where
  -- whether a join's equality is given, by variables of these numbers
  abbrev is_given_by : List ℕ → Joined → Bool
  is_given_by xs m = given h.scope h.known Eq (column_of j xs m.left) (column_of j xs m.right)

  module _ (ys zs : List ℕ) where
    same-column : (c : ColId) → is_reached j (length ys) c ≡ true → column_of j ys c ≡ column_of j (ys ++ zs) c
    same-column c r = ap (λ (v : ℕ). Col v c.column) (sym (get_or_append_left ys zs 0 (place (tables_of j) c.table) (ltb-true (place (tables_of j) c.table) (length ys) r)))

    one-front : (m : Joined) → is_given_by (ys ++ zs) m ≡ true → may_join h j ys m ≡ true
    one-front m g = go (cases_Bool (is_reached j (length ys) m.left && is_reached j (length ys) m.right))
      where
        go : ((is_reached j (length ys) m.left && is_reached j (length ys) m.right) ≡ true) ⊎ ((is_reached j (length ys) m.left && is_reached j (length ys) m.right) ≡ false) → may_join h j ys m ≡ true
        go (inr n) = ap (λ b. not b || is_given_by ys m) n
        go (inl y) =
            let k = and_parts (is_reached j (length ys) m.left) (is_reached j (length ys) m.right) y in
            ap (λ b. not b || is_given_by ys m) y ∙ ap₂ (λ a b. given h.scope h.known Eq a b) (same-column m.left k.0) (same-column m.right k.1) ∙ g

    joined-front : (ms : List Joined) → list_all (is_given_by (ys ++ zs)) ms ≡ true → list_all (may_join h j ys) ms ≡ true
    joined-front [] g = refl
    joined-front (m ∷ ms) g =
        let k = and_parts (is_given_by (ys ++ zs) m) (list_all (is_given_by (ys ++ zs)) ms) g in
        and_from (may_join h j ys m) (list_all (may_join h j ys) ms) (one-front m k.0) (joined-front ms k.1)

  -- whether all that is asked of named variables holds
  abbrev Follows : List ℕ → Type 0
  Follows xs = (are_named h.base h.vars xs (tables_of j) ≡ true) × (list_all (is_given_by xs) j.more ≡ true)

  fronts : (before xs : List ℕ) → Follows (before ++ xs) → Each (λ x. x < h.base + length h.vars) xs → MayGoOn (may_name h j) (length h.scope) before xs
  fronts before [] f b = tt
  fronts before (x ∷ xs) f b =
      let all : Follows ((before ++ x ∷ []) ++ xs) = subst Follows (sym (append_assoc before (x ∷ []) xs)) f in
      let l : x < length h.scope = omega (arith, b.0, whole) in (
        l,
        and_from (are_named h.base h.vars (before ++ x ∷ []) (take (length (before ++ x ∷ [])) (tables_of j))) (list_all (may_join h j (before ++ x ∷ [])) j.more) (named-front h.base h.vars (before ++ x ∷ []) xs (tables_of j) all.0) (joined-front (before ++ x ∷ []) xs j.more all.1),
        fronts (before ++ x ∷ []) xs all b.1,
      )

-- ---- hosts

names-rise : (h : Host) (o : Option Invariant) → Rises Before (names_for h o)
names-rise h None = tt
names-rise h (Some (Views source target)) = chosen-rises (may_name h source.join) (length h.scope) (length (tables_of source.join)) []
names-rise h (Some (Unique side c)) = tt
names-rise h (Some (Apart side c d)) = tt
names-rise h (Some (Within side c d)) = tt

pub host-rises : (invs : List Invariant) (h : Host) → Rises Before (host_args invs h)
host-rises invs h = each-rises (numbers (length invs)) (λ k. names_for h (slice_get invs k)) (numbers_rise (length invs)) (λ k. names-rise h (slice_get invs k))

-- a view by which these variables fold is tried with them
pub host-has : (invs : List Invariant) (h : Host) → length h.scope ≡ h.base + length h.vars → (k : ℕ) (source target : View) (xs : List ℕ) (lits : List Lit) → slice_get invs k ≡ Some (Views source target)
    → host_folds (record { base = h.base; vars = h.vars; named = xs; source = source; target = target }) h.scope h.known lits ≡ true → IsIn (k ∷ xs) (host_args invs h)
host-has invs h whole k source target xs lits there folds =
    let f : Fold = record { base = h.base; vars = h.vars; named = xs; source = source; target = target } in
    let a = and_parts (are_named h.base h.vars xs (tables_of source.join)) (join_given f h.scope h.known && lits_fold f lits) folds in
    let b = and_parts (join_given f h.scope h.known) (lits_fold f lits) a.1 in
    let inside : IsIn xs (names_for h (Some (Views source target))) = chosen-has (may_name h source.join) (length h.scope) (length (tables_of source.join)) [] xs (named-length h.base h.vars xs (tables_of source.join) a.0)
    (fronts h source.join whole [] xs (a.0, b.0) (named-within h.base h.vars xs (tables_of source.join) a.0)) in
    each-has (numbers (length invs)) (λ n. names_for h (slice_get invs n)) k xs (in_numbers (length invs) k (get-within invs k (Views source target) there)) (subst (λ o. IsIn xs (names_for h o)) (sym there) inside)

-- ---- terms

pub fold-offered : (invs : List Invariant) → OffersAlone (on_term (fold invs)) own_path (λ path t. fold_args invs t)
fold-offered invs = own-with (fold invs) (fold_args invs) (λ t. host-rises invs (term_host t)) has-args
  where
    from-zero : (n : ℕ) → n ≡ 0 + n
    from-zero n = omega arith

    has-args : (t : Term) (bs : List ℕ) (us : List Term) → fold invs bs t ≡ Some us → IsIn bs (fold_args invs t)
    has-args t bs us g =
        let b = folds-by invs bs t us g in
        let f = term_fold b.source b.target b.named t in
        let c = cond-then (host_folds f t.vars (plain t.lits) t.lits && list_all (atom_folds f) t.head) (Some (folded f t)) b.term b.folds in
        let d = and_parts (host_folds f t.vars (plain t.lits) t.lits) (list_all (atom_folds f) t.head) c.0 in
        subst (λ bs. IsIn bs (fold_args invs t)) (sym b.args-are) (host-has invs (term_host t) (from-zero (length t.vars)) b.k b.source b.target b.named t.lits b.there d.0)
