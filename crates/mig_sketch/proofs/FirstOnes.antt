-- The first columns of the classes of a join: each class of its columns has one.
use Rattle.std.proofs.Common.{◌≡◌, ◌⊎◌, ℕ, ◌+◌, Bool, true, false, cond, List, [], ◌∷◌, ◌++◌, refl, sym, ap, ◌∙◌, inl, inr}
use Rattle.std.specs.Prelude.{◌||◌}
use Rattle.std.specs.List.{list_any, count_by}
use Rattle.std.proofs.lemmas.Bool.{cases_Bool, both_ways}
use Rattle.std.proofs.lemmas.List.Folds.{list_any-append}
use Rattle.std.proofs.lemmas.List.Sums.{sum_by-cons}
use Rattle.mig_listing.specs.Listing.{IsIn}
use Rattle.mig_schema.specs.Columns.{same_col}
use Rattle.mig_schema.specs.Joins.{leader, in_one_class}
use Rattle.mig_schema.specs.declared.programs.Join.{Join}
use Rattle.mig_schema.specs.declared.tables.ColId.{ColId}
use Rattle.mig_trees.proofs.Within.{any_to, any_from}
use Rattle.mig_sketch.specs.Values.{first_columns}
use Rattle.mig_sketch.proofs.Agreeing.{same-column, own-column}
use Rattle.mig_sketch.proofs.Tests.{falsely}

module _ (j : Join) where
  -- ---- one class

  -- columns are in one class exactly where their leaders are one
  class_to : (a b : ColId) → in_one_class j a b ≡ true → leader j.more a ≡ leader j.more b
  class_to a b e = same-column (leader j.more a) (leader j.more b) e

  class_from : (a b : ColId) → leader j.more a ≡ leader j.more b → in_one_class j a b ≡ true
  class_from a b e = ap (λ l. same_col l (leader j.more b)) e ∙ own-column (leader j.more b)

  own_class : (a : ColId) → in_one_class j a a ≡ true
  own_class a = class_from a a refl

  -- ---- how often a class stands among columns

  abbrev hits : ColId → List ColId → Bool
  hits c cs = list_any (λ d. in_one_class j d c) cs

  abbrev times : ColId → List ColId → ℕ
  times c cs = count_by (λ d. in_one_class j d c) cs

  -- once where it stands there for the first time
  abbrev once : Bool → Bool → ℕ
  once before here = cond before 0 (cond here 1 0)

  -- a column of a class that stands before does not stand for the class of c, where that does not stand before
  not_seen : (before : List ColId) (x c : ColId) → hits x before ≡ true → hits c before ≡ false → in_one_class j x c ≡ false
  not_seen before x c seen new = falsely (in_one_class j x c) (λ e.
      let b = any_to (λ d. in_one_class j d x) before seen in
      both_ways (hits c before) new (any_from (λ d. in_one_class j d c) before b.0 b.1 (class_from b.0 c (class_to b.0 x b.2 ∙ class_to x c e))))

  -- and back
  not_before : (before : List ColId) (x c : ColId) → hits x before ≡ false → in_one_class j x c ≡ true → hits c before ≡ false
  not_before before x c new e = falsely (hits c before) (λ seen.
      let b = any_to (λ d. in_one_class j d c) before seen in
      both_ways (hits x before) new (any_from (λ d. in_one_class j d x) before b.0 b.1 (class_from b.0 x (class_to b.0 c b.2 ∙ sym (class_to x c e)))))

  once-skip : (before here rest : Bool) → (before ≡ false → here ≡ false) → once before rest ≡ once before (here || rest)
  once-skip true here rest h = refl
  once-skip false here rest h = ap (λ b. once false (b || rest)) (sym (h refl))

  once-take : (before here rest : Bool) → (here ≡ true → before ≡ false) → cond here 1 0 + once (before || (here || false)) rest ≡ once before (here || rest)
  once-take true true rest h = absurd (both_ways true (h refl) refl)
  once-take false true rest h = refl
  once-take true false rest h = refl
  once-take false false true h = refl
  once-take false false false h = refl

  -- among the first columns a class stands once where it stands among the columns, and not before
  times-first : (before cs : List ColId) (c : ColId) → times c (first_columns j before cs) ≡ once (hits c before) (hits c cs)
  times-first before [] c = none (hits c before)
    where
      none : (b : Bool) → 0 ≡ once b false
      none true = refl
      none false = refl
  times-first before (x ∷ cs) c = go (cases_Bool (hits x before)) (times-first before cs c) (times-first (before ++ x ∷ []) cs c)
    where
      go : (hits x before ≡ true) ⊎ (hits x before ≡ false)
          → times c (first_columns j before cs) ≡ once (hits c before) (hits c cs)
          → times c (first_columns j (before ++ x ∷ []) cs) ≡ once (hits c (before ++ x ∷ [])) (hits c cs)
          → times c (first_columns j before (x ∷ cs)) ≡ once (hits c before) (hits c (x ∷ cs))
      go (inl t) ih more =
          ap (λ b. times c (cond b (first_columns j before cs) (x ∷ first_columns j (before ++ x ∷ []) cs))) t
          ∙ ih
          ∙ once-skip (hits c before) (in_one_class j x c) (hits c cs) (λ new. not_seen before x c t new)
      go (inr f) ih more =
          ap (λ b. times c (cond b (first_columns j before cs) (x ∷ first_columns j (before ++ x ∷ []) cs))) f
          ∙ sum_by-cons (λ d. cond (in_one_class j d c) 1 0) x (first_columns j (before ++ x ∷ []) cs)
          ∙ ap (λ n. cond (in_one_class j x c) 1 0 + n) (more ∙ ap (λ b. once b (hits c cs)) (list_any-append (λ d. in_one_class j d c) before (x ∷ [])))
          ∙ once-take (hits c before) (in_one_class j x c) (hits c cs) (λ e. not_before before x c f e)

  -- so among the first columns of all each class stands once
  pub first_once : (cs : List ColId) (c : ColId) → IsIn c cs → count_by (λ d. in_one_class j d c) (first_columns j [] cs) ≡ 1
  first_once cs c i = times-first [] cs c ∙ ap (λ b. once false b) (any_from (λ d. in_one_class j d c) cs c i (own_class c))

  -- and the first columns are some of them
  pub first_in : (before cs : List ColId) (c : ColId) → IsIn c (first_columns j before cs) → IsIn c cs
  first_in before [] c i = absurd i
  first_in before (x ∷ cs) c i = go (list_any (λ b. in_one_class j b x) before) i (first_in before cs c) (first_in (before ++ x ∷ []) cs c)
    where
      go : (b : Bool) → IsIn c (cond b (first_columns j before cs) (x ∷ first_columns j (before ++ x ∷ []) cs)) → (IsIn c (first_columns j before cs) → IsIn c cs) → (IsIn c (first_columns j (before ++ x ∷ []) cs) → IsIn c cs) → IsIn c (x ∷ cs)
      go true k ih more = inr (ih k)
      go false k ih more = elim k [ inl e ↦ inl e | inr h ↦ inr (more h) ]
