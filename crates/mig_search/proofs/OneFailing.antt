-- A program has one first failing list, or none.
use Rattle.std.proofs.Common.{◌≡◌, ℕ, ◌<◌, List, [], ◌∷◌, ◌++◌, map, take, length, refl, ap, sym, ◌∙◌, subst, arith}
use Rattle.std.specs.Prelude.{Option, Some, None}
use Rattle.mig_schema.specs.declared.jobs.Job.{Job}
use Rattle.mig_schema.specs.declared.programs.Program.{Program}
use Rattle.mig_listing.specs.Orders.{IsOrder, Less, Lex}
use Rattle.mig_listing.proofs.Orders.{less_order, Lex-order, FirstBy-order}
use Rattle.mig_listing.proofs.Unique.{one_listing}
use Rattle.mig_meaning.specs.declared.calling.Calls.{Calls}
use Rattle.mig_meaning.specs.declared.calling.Invocation.{Invocation}
use Rattle.mig_meaning.specs.Lists.{Each}
use Rattle.mig_failing.specs.Failing.{AgreeOn, FindsFailing, IsFailing}
use Rattle.mig_failing.specs.Tests.{TestCall, IsTestList, CallBefore, TestBefore, calls_of}

-- ---- the order of test lists

variant_order : IsOrder (λ (c d : TestCall). c.variant < d.variant)
variant_order = record { never = λ c h. omega (arith, h); on = λ c d e h k. omega (arith, h, k) }

call_order : IsOrder CallBefore
call_order = FirstBy-order (λ (c : TestCall). c.function) {R = Less} {S = λ c d. c.variant < d.variant} less_order variant_order

test_order : IsOrder TestBefore
test_order = FirstBy-order (λ (l : List TestCall). length l) {R = Less} {S = Lex CallBefore} less_order (Lex-order {R = CallBefore} call_order)

-- ---- the first that fails

module _ (job : Job) (p : Program) where
  -- what stands in a list whose items all agree does
  agrees_within : (before : List (List Invocation)) (l : List Invocation) (after : List (List Invocation)) → Each (AgreeOn job p) (before ++ l ∷ after) → AgreeOn job p l
  agrees_within [] l after h = h.0
  agrees_within (b ∷ before) l after h = agrees_within before l after h.1

  head_of : {A : Type 0} (x y : A) (xs ys : List A) → x ∷ xs ≡ y ∷ ys → x ≡ y
  head_of x y xs ys e = cc (e)

  tail_of : {A : Type 0} (x y : A) (xs ys : List A) → x ∷ xs ≡ y ∷ ys → xs ≡ ys
  tail_of x y xs ys e = cc (e)

  one_first : (us vs : List (List Invocation)) (k l : List Invocation) (xs ys : List (List Invocation)) → us ++ k ∷ xs ≡ vs ++ l ∷ ys → Each (AgreeOn job p) us → Each (AgreeOn job p) vs → (AgreeOn job p k → ⊥) → (AgreeOn job p l → ⊥) → k ≡ l
  one_first [] [] k l xs ys e a b fk fl = head_of k l xs ys e
  one_first [] (v ∷ vs) k l xs ys e a b fk fl = absurd (fk (subst (AgreeOn job p) (sym (head_of k v xs (vs ++ l ∷ ys) e)) b.0))
  one_first (u ∷ us) [] k l xs ys e a b fk fl = absurd (fl (subst (AgreeOn job p) (head_of u l (us ++ k ∷ xs) ys e) a.0))
  one_first (u ∷ us) (v ∷ vs) k l xs ys e a b fk fl = one_first us vs k l xs ys (tail_of u v (us ++ k ∷ xs) (vs ++ l ∷ ys) e) a.1 b.1 fk fl

  finds_one : (lists : List (List Invocation)) (a b : Option Calls) → FindsFailing job p lists a → FindsFailing job p lists b → a ≡ b
  finds_one lists None None f g = refl
  finds_one lists None (Some d) f g = absurd (g.fails (agrees_within g.before d.calls g.after (subst (Each (AgreeOn job p)) g.are f)))
  finds_one lists (Some c) None f g = absurd (f.fails (agrees_within f.before c.calls f.after (subst (Each (AgreeOn job p)) f.are g)))
  finds_one lists (Some c) (Some d) f g = ap (λ (is : List Invocation). Some (record { calls = is })) (one_first f.before g.before c.calls d.calls f.after g.after (sym f.are ∙ g.are) f.agree g.agree f.fails g.fails)

  pub one_failing : (tests : ℕ) (a b : Option Calls) → IsFailing job p tests a → IsFailing job p tests b → a ≡ b
  one_failing tests a b f g =
      let same : g.lists ≡ f.lists = one_listing {P = IsTestList job.program} {R = TestBefore} test_order g.lists f.lists g.all f.all in
      finds_one (take tests (map (calls_of job.program) f.lists)) a b f.first (subst (λ ls. FindsFailing job p (take tests (map (calls_of job.program) ls)) b) same g.first)
