-- Obligations that are met keep the invariants and give the answers.
use Rattle.std.proofs.Common.{◌≡◌, ℕ, List, [], ◌∷◌, map, take, length, refl, sym, ap, ◌∙◌, arith, subst}
use Rattle.mig_schema.specs.declared.faults.Side.{Side}
use Rattle.mig_schema.specs.declared.faults.Side.TheVariants.{Old, New}
use Rattle.mig_schema.specs.declared.tables.Schema.{Schema}
use Rattle.mig_schema.specs.declared.programs.Stmt.{Stmt}
use Rattle.mig_schema.specs.declared.programs.Query.{Query}
use Rattle.mig_schema.specs.declared.programs.Function.{Function}
use Rattle.mig_schema.specs.declared.programs.Program.{Program}
use Rattle.mig_schema.specs.declared.programs.Body.{Body}
use Rattle.mig_schema.specs.declared.programs.Body.TheVariants as body
use Rattle.mig_schema.specs.declared.values.Value.{Value}
use Rattle.mig_meaning.specs.declared.states.State.{State}
use Rattle.mig_meaning.specs.declared.relating.Invariant.{Invariant}
use Rattle.mig_meaning.specs.declared.relating.Invariant.TheVariants.{Views, Unique, Apart, Within}
use Rattle.mig_meaning.specs.Lists.{bit, Each}
use Rattle.mig_meaning.specs.Conditions.{Given}
use Rattle.mig_meaning.specs.Effect.{after_all, answer}
use Rattle.mig_meaning.specs.Bags.{SameBag, times}
use Rattle.mig_meaning.specs.Run.{function_at}
use Rattle.mig_meaning.specs.Renaming.{same, SameRenamed}
use Rattle.mig_meaning.specs.Holds.{outputs, Holds, AllHold}
use Rattle.mig_meaning.specs.Functions.{SameSort}
use Rattle.mig_meaning.specs.Equivalent.{AnswersAlike, IsEquivalent}
use Rattle.mig_meaning.specs.Meeting.{IsSetting, FactsHold, BodiesMeet, PairsMeet, AreTyped}
use Rattle.mig_meaning.proofs.Bags.{row_eq-refl}
use Rattle.mig_meaning.proofs.Renamings.{rows-same}
use Rattle.mig_meaning.proofs.Alike.{answers-alike, equivalent}
use Rattle.mig_algebra.specs.Meaning.{terms_bag}
use Rattle.mig_algebra.specs.Obligations.{holds_terms, answer_terms}
use Rattle.mig_algebra.specs.Proper.{Sides}
use Rattle.mig_algebra.specs.Shown.{Shows}
use Rattle.mig_algebra.proofs.Obliged.{view_bag, answer_bag}
use Rattle.mig_algebra.proofs.Forms.{unique_term-empty, apart_term-empty, within_term-empty}
use Rattle.mig_obligations.specs.Settings.{Moment, statements, stage_of, setting_of}
use Rattle.mig_obligations.specs.Obligations.{holds_obligation, obligations, IsMet, AllMet}

-- ---- one obligation

same-empty : (xs : List (List Value)) → SameBag xs [] → xs ≡ []
same-empty [] s = refl
same-empty (x ∷ xs) s = absurd (omega (arith, s.by x, ap bit (row_eq-refl x)))

empty-same : (xs : List (List Value)) → SameBag [] xs → xs ≡ []
empty-same xs s = same-empty xs (record { by = λ r. sym (s.by r) })

module _ (p : Sides) (m : Moment) where
  -- a setting shows the states of its stages
  shows : (side : Side) (n : ℕ) → Shows (setting_of p m) side n (stage_of p m side n)
  shows side n = record { by = λ t. refl }

  -- an invariant holds at its stages where the bags of its obligation are equal
  pub holds-met : (n n' : ℕ) (i : Invariant) → SameBag (terms_bag (setting_of p m) (holds_terms Old n i)) (terms_bag (setting_of p m) (holds_terms New n' i)) → Holds same (stage_of p m Old n) (stage_of p m New n') i
  holds-met n n' (Views source target) h = record {
    by = λ r.
        ap (times r) (rows-same (outputs source (stage_of p m Old n)) ∙ sym (view_bag (setting_of p m) Old n (stage_of p m Old n) (shows Old n) source))
        ∙ h.by r ∙ ap (times r) (view_bag (setting_of p m) New n' (stage_of p m New n') (shows New n') target);
  }
  holds-met n n' (Unique Old c) h = (unique_term-empty (setting_of p m) Old n (stage_of p m Old n) (shows Old n) c).0 (same-empty _ h)
  holds-met n n' (Unique New c) h = (unique_term-empty (setting_of p m) New n' (stage_of p m New n') (shows New n') c).0 (empty-same _ h)
  holds-met n n' (Apart Old c d) h = (apart_term-empty (setting_of p m) Old n (stage_of p m Old n) (shows Old n) c d).0 (same-empty _ h)
  holds-met n n' (Apart New c d) h = (apart_term-empty (setting_of p m) New n' (stage_of p m New n') (shows New n') c d).0 (empty-same _ h)
  holds-met n n' (Within Old c d) h = (within_term-empty (setting_of p m) Old n (stage_of p m Old n) (shows Old n) c d).0 (same-empty _ h)
  holds-met n n' (Within New c d) h = (within_term-empty (setting_of p m) New n' (stage_of p m New n') (shows New n') c d).0 (empty-same _ h)

  -- two queries answer alike where the bags of their obligation are equal
  pub answers-met : (q r : Query) → SameBag (terms_bag (setting_of p m) (answer_terms Old q)) (terms_bag (setting_of p m) (answer_terms New r)) → SameRenamed same (answer m.given q (stage_of p m Old 0)) (answer m.given r (stage_of p m New 0))
  answers-met q r h = record {
    by = λ x.
        ap (times x) (rows-same (answer m.given q (stage_of p m Old 0)))
        ∙ sym ((answer_bag (setting_of p m) Old (stage_of p m Old 0) (shows Old 0) q).by x) ∙ h.by x
        ∙ (answer_bag (setting_of p m) New (stage_of p m New 0) (shows New 0) r).by x;
  }

-- ---- one pair

whole : {X : Type 0} (xs : List X) → take (length xs) xs ≡ xs
whole [] = refl
whole (x ∷ xs) = ap (λ l. x ∷ l) (whole xs)

module _ (schema schema' : Schema) (f f' : Function) (invs : List Invariant) where
  pair-kept : (a b : List Stmt) → f.body ≡ body.Update a → f'.body ≡ body.Update b → (g : Given) (old new : State) → IsSetting schema schema' f g old new → FactsHold invs g.keys old new → (is : List Invariant) → Each (IsMet (record { source = schema; target = schema'; source_fn = f; target_fn = f' }) invs) (map (holds_obligation (length a) (length b)) is) → AllHold same (after_all schema g a old) (after_all schema' g b new) is
  pair-kept a b e e' g old new setting facts [] h = tt
  pair-kept a b e e' g old new setting facts (i ∷ is) h = (one, pair-kept a b e e' g old new setting facts is h.1)
    where
      p : Sides
      p = record { source = schema; target = schema'; source_fn = f; target_fn = f' }

      m : Moment
      m = record { given = g; old = old; new = new }

      old-end : stage_of p m Old (length a) ≡ after_all schema g a old
      old-end = ap (λ x. after_all schema g (take (length a) (statements x)) old) e ∙ ap (λ l. after_all schema g l old) (whole a)

      new-end : stage_of p m New (length b) ≡ after_all schema' g b new
      new-end = ap (λ x. after_all schema' g (take (length b) (statements x)) new) e' ∙ ap (λ l. after_all schema' g l new) (whole b)

      one : Holds same (after_all schema g a old) (after_all schema' g b new) i
      one = subst (λ s. Holds same s (after_all schema' g b new) i) old-end (subst (λ s. Holds same (stage_of p m Old (length a)) s i) new-end (holds-met p m (length a) (length b) i (h.0.by m (record { setting = setting; facts = facts }))))

  -- a pair of functions of one sort whose obligations are met
  pub bodies-met : (b b' : Body) → f.body ≡ b → f'.body ≡ b' → SameSort schema schema' b b' → Each (IsMet (record { source = schema; target = schema'; source_fn = f; target_fn = f' }) invs) (obligations invs b b') → BodiesMeet schema schema' invs f b b'
  bodies-met (body.Update a) (body.Update b) e e' sort h = record {
    hold = λ g old new setting facts. pair-kept a b e e' g old new setting facts invs h;
    answer = λ g old new setting facts. tt;
  }
  bodies-met (body.Query q) (body.Query r) e e' sort h = record {
    hold = λ g old new setting facts. facts.hold;
    answer = λ g old new setting facts. answers-met (record { source = schema; target = schema'; source_fn = f; target_fn = f' }) (record { given = g; old = old; new = new }) q r (h.0.by (record { given = g; old = old; new = new }) (record { setting = setting; facts = facts }));
  }
  bodies-met (body.Update a) (body.Query r) e e' sort h = absurd sort
  bodies-met (body.Query q) (body.Update b) e e' sort h = absurd sort

-- ---- all pairs

module _ (schema schema' : Schema) (p p' : Program) (invs : List Invariant) (t : AreTyped schema schema' p p') (m : AllMet schema schema' p p' invs) where
  -- the pairs meet what is asked of them
  pub pairs-meet : PairsMeet schema schema' p p' invs
  pairs-meet = record { by = λ n h. bodies-met schema schema' (function_at p n) (function_at p' n) invs (function_at p n).body (function_at p' n).body refl refl (t.functions.each n h).sort (m.by n h) }

  -- by one supply
  pub met-alike : AnswersAlike schema schema' p p' invs
  met-alike = answers-alike schema schema' p p' invs t pairs-meet

  -- by any two
  pub met-equivalent : IsEquivalent schema schema' p p' invs
  met-equivalent = equivalent schema schema' p p' invs t pairs-meet
