-- A job has one plan under a correspondence, or one place that ends its sketch.
use Rattle.std.proofs.Common.{◌≡◌, ℕ, ◌<◌, List, [], ◌∷◌, ◌++◌, length, refl, ap, sym, ◌∙◌, subst, arith}
use Rattle.std.specs.List.{flat_map}
use Rattle.mig_schema.specs.declared.jobs.Job.{Job}
use Rattle.mig_schema.specs.declared.programs.Function.{Function}
use Rattle.mig_trees.proofs.OneAnswer.{one_answer}
use Rattle.mig_invariant.specs.declared.corresp.Corr.{Corr}
use Rattle.mig_sketch.specs.declared.plans.Hole.{Hole}
use Rattle.mig_sketch.specs.declared.plans.Made.{Made}
use Rattle.mig_sketch.specs.declared.plans.Made.TheVariants as made
use Rattle.mig_sketch.specs.declared.plans.Part.{Part}
use Rattle.mig_sketch.specs.declared.plans.Plan.{Plan}
use Rattle.mig_sketch.specs.Made.{Place, OptionsAt, IsRoomy, IsHole, AreHoles, IsFirstBad, IsMade, places_from}
use Rattle.mig_sketch.specs.Needs.{needs}
use Rattle.mig_sketch.specs.Options.{part_over}

head_of : {A : Type 0} (x y : A) (xs ys : List A) → x ∷ xs ≡ y ∷ ys → x ≡ y
head_of x y xs ys e = cc (e)

tail_of : {A : Type 0} (x y : A) (xs ys : List A) → x ∷ xs ≡ y ∷ ys → xs ≡ ys
tail_of x y xs ys e = cc (e)

module _ (job : Job) (corr : Corr) where
  -- a place has one list of options
  options_one : (at : Place) (xs ys : List Part) → OptionsAt job corr at xs → OptionsAt job corr at ys → xs ≡ ys
  options_one at xs ys a b = a.are ∙ (ap (flat_map (part_over job corr at.free at.statement at.old)) (one_answer job.target (needs job corr at.old) a.trees b.trees a.serving b.serving) ∙ sym b.are)

  hole_one : (at : Place) (h k : Hole) → IsHole job corr at h → IsHole job corr at k → h ≡ k
  hole_one at h k a b =
      let function : h.function ≡ k.function = a.function ∙ sym b.function in
      let statement : h.statement ≡ k.statement = a.statement ∙ sym b.statement in
      let options : h.options ≡ k.options = options_one at h.options k.options a.options b.options in
      let F : ℕ → Hole = λ f. record { function = f; statement = h.statement; options = h.options } in
      let S : ℕ → Hole = λ s. record { function = k.function; statement = s; options = h.options } in
      let O : List Part → Hole = λ o. record { function = k.function; statement = k.statement; options = o } in
      ap F function ∙ (ap S statement ∙ ap O options)

  holes_one : (places : List Place) (hs ks : List Hole) → AreHoles job corr places hs → AreHoles job corr places ks → hs ≡ ks
  holes_one [] [] [] a b = refl
  holes_one [] [] (k ∷ ks) a b = absurd b
  holes_one [] (h ∷ hs) ks a b = absurd a
  holes_one (p ∷ ps) [] ks a b = absurd a
  holes_one (p ∷ ps) (h ∷ hs) [] a b = absurd b
  holes_one (p ∷ ps) (h ∷ hs) (k ∷ ks) a b = ap (λ x. x ∷ hs) (hole_one p h k a.0 b.0) ∙ ap (λ t. k ∷ t) (holes_one ps hs ks a.1 b.1)

  -- a place whose options are none or too many has no hole
  no_hole : (at : Place) (options : List Part) → OptionsAt job corr at options → (IsRoomy options → ⊥) → (h : Hole) → IsHole job corr at h → ⊥
  no_hole at options here bad h a = bad (subst IsRoomy (options_one at h.options options a.options here) a.roomy)

  -- so not all places before it and it have holes
  bad_within : (before : List Place) (at : Place) (after : List Place) (hs : List Hole) → AreHoles job corr (before ++ at ∷ after) hs → ((h : Hole) → IsHole job corr at h → ⊥) → ⊥
  bad_within [] at after [] a none = a
  bad_within [] at after (h ∷ hs) a none = none h a.0
  bad_within (b ∷ before) at after [] a none = a
  bad_within (b ∷ before) at after (h ∷ hs) a none = bad_within before at after hs a.1 none

  -- there is one first such place
  one_bad : (us vs : List Place) (p q : Place) (xs ys : List Place) (hs ks : List Hole) → us ++ p ∷ xs ≡ vs ++ q ∷ ys → AreHoles job corr us hs → AreHoles job corr vs ks → ((h : Hole) → IsHole job corr p h → ⊥) → ((h : Hole) → IsHole job corr q h → ⊥) → p ≡ q
  one_bad [] [] p q xs ys hs ks e a b np nq = head_of p q xs ys e
  one_bad [] (v ∷ vs) p q xs ys hs [] e a b np nq = absurd b
  one_bad [] (v ∷ vs) p q xs ys hs (k ∷ ks) e a b np nq = absurd (np k (subst (λ x. IsHole job corr x k) (sym (head_of p v xs (vs ++ q ∷ ys) e)) b.0))
  one_bad (u ∷ us) [] p q xs ys [] ks e a b np nq = absurd a
  one_bad (u ∷ us) [] p q xs ys (h ∷ hs) ks e a b np nq = absurd (nq h (subst (λ x. IsHole job corr x h) (head_of u q (us ++ p ∷ xs) ys e) a.0))
  one_bad (u ∷ us) (v ∷ vs) p q xs ys [] ks e a b np nq = absurd a
  one_bad (u ∷ us) (v ∷ vs) p q xs ys (h ∷ hs) [] e a b np nq = absurd b
  one_bad (u ∷ us) (v ∷ vs) p q xs ys (h ∷ hs) (k ∷ ks) e a b np nq = one_bad us vs p q xs ys hs ks (tail_of u v (us ++ p ∷ xs) (vs ++ q ∷ ys) e) a.1 b.1 np nq

  empty_bad : (options : List Part) → options ≡ [] → IsRoomy options → ⊥
  empty_bad options e r = let none : length options ≡ 0 = ap length e in omega (arith, none, r.0)

  wide_bad : (options : List Part) → 4096 < length options → IsRoomy options → ⊥
  wide_bad options m r = omega (arith, m, r.1)

  module _ (places : List Place) where
    -- two such ends are at one place
    one_place : {B C : List Part → Type 0} (f g : ℕ) (a : IsFirstBad job corr places B f) (b : IsFirstBad job corr places C g) → ((o : List Part) → B o → IsRoomy o → ⊥) → ((o : List Part) → C o → IsRoomy o → ⊥) → a.at ≡ b.at
    one_place f g a b ha hb = one_bad a.before b.before a.at b.at a.after b.after a.holes b.holes (sym a.are ∙ b.are) a.good b.good (no_hole a.at a.options a.here (ha a.options a.bad)) (no_hole b.at b.options b.here (hb b.options b.bad))

    one_number : {B C : List Part → Type 0} (f g : ℕ) (a : IsFirstBad job corr places B f) (b : IsFirstBad job corr places C g) → ((o : List Part) → B o → IsRoomy o → ⊥) → ((o : List Part) → C o → IsRoomy o → ⊥) → f ≡ g
    one_number f g a b ha hb = sym a.function ∙ (ap (λ (x : Place). x.function) (one_place f g a b ha hb) ∙ b.function)

    -- none is both empty and wide
    not_both : (f g : ℕ) (a : IsFirstBad job corr places (λ o. o ≡ []) f) (b : IsFirstBad job corr places (λ o. 4096 < length o) g) → ⊥
    not_both f g a b =
        let at : a.at ≡ b.at = one_place f g a b empty_bad wide_bad in
        let same : a.options ≡ b.options = options_one b.at a.options b.options (subst (λ x. OptionsAt job corr x a.options) at a.here) b.here in
        let none : length b.options ≡ 0 = ap length (sym same ∙ a.bad) in
        omega (arith, none, b.bad)

    -- where all places have holes, none is bad
    not_whole : {B : List Part → Type 0} (f : ℕ) (hs : List Hole) (a : IsFirstBad job corr places B f) → ((o : List Part) → B o → IsRoomy o → ⊥) → AreHoles job corr places hs → ⊥
    not_whole f hs a ha good = bad_within a.before a.at a.after hs (subst (λ ps. AreHoles job corr ps hs) a.are good) (no_hole a.at a.options a.here (ha a.options a.bad))

  plan_same : (p q : Plan) → p.functions ≡ q.functions → p.holes ≡ q.holes → p ≡ q
  plan_same p q e h =
      let F : List Function → Plan = λ fs. record { functions = fs; holes = p.holes } in
      let H : List Hole → Plan = λ hs. record { functions = q.functions; holes = hs } in
      ap F e ∙ ap H h

  pub one_made : (a b : Made) → IsMade job corr a → IsMade job corr b → a ≡ b
  one_made (made.Plan p) (made.Plan q) a b = ap (λ x. made.Plan x) (plan_same p q (a.0 ∙ sym b.0) (holes_one (places_from 0 job.program.functions) p.holes q.holes a.1 b.1))
  one_made (made.Plan p) (made.Empty g) a b = absurd (not_whole (places_from 0 job.program.functions) g p.holes b empty_bad a.1)
  one_made (made.Plan p) (made.Wide g) a b = absurd (not_whole (places_from 0 job.program.functions) g p.holes b wide_bad a.1)
  one_made (made.Empty f) (made.Plan q) a b = absurd (not_whole (places_from 0 job.program.functions) f q.holes a empty_bad b.1)
  one_made (made.Empty f) (made.Empty g) a b = ap (λ n. made.Empty n) (one_number (places_from 0 job.program.functions) f g a b empty_bad empty_bad)
  one_made (made.Empty f) (made.Wide g) a b = absurd (not_both (places_from 0 job.program.functions) f g a b)
  one_made (made.Wide f) (made.Plan q) a b = absurd (not_whole (places_from 0 job.program.functions) f q.holes a wide_bad b.1)
  one_made (made.Wide f) (made.Empty g) a b = absurd (not_both (places_from 0 job.program.functions) g f b a)
  one_made (made.Wide f) (made.Wide g) a b = ap (λ n. made.Wide n) (one_number (places_from 0 job.program.functions) f g a b wide_bad wide_bad)
