-- Lists that are gone through one part after the other.
use Rattle.std.proofs.Common.{◌≡◌, ℕ, zero, suc, ◌+◌, ◌-◌, ◌<◌, List, [], ◌∷◌, ◌++◌, take, drop, map, length, get_or, true, false, refl, ap, sym, ◌∙◌, subst, arith}
use Rattle.std.specs.Prelude.{Some, None, Option, is_some}
use Rattle.std.proofs.Math.Seq.{take-length}
use Rattle.std.proofs.lemmas.Bool.{both_ways}
use Rattle.std.proofs.lemmas.Grind.{flat_map-append}
use Rattle.std.proofs.lemmas.List.Concat.{flat_map_single}
use Rattle.std.specs.List.{flat_map}
use Rattle.std.proofs.lemmas.List.{append_assoc, append-nil, length-append, take-append-drop, take_more}
use Rattle.mig_schema.specs.declared.jobs.Job.{Job}
use Rattle.mig_schema.specs.declared.programs.Program.{Program}
use Rattle.mig_meaning.specs.declared.calling.Calls.{Calls}
use Rattle.mig_meaning.specs.declared.calling.Invocation.{Invocation}
use Rattle.mig_meaning.specs.Lists.{Each}
use Rattle.mig_meaning.proofs.Within.{each-append}
use Rattle.mig_failing.specs.Failing.{AgreeOn, IsFirstFailing}
use Rattle.mig_failing.specs.Made.{below}
use Rattle.mig_failing.specs.Playing.{Walks}

pub take_append : {A : Type 0} (n : ℕ) (xs ys : List A) → take n (xs ++ ys) ≡ take n xs ++ take (n - length xs) ys
take_append zero xs ys = let e : 0 - length xs ≡ 0 = omega arith in ap (λ m. take m ys) (sym e)
take_append (suc n) [] ys = let e : suc n - 0 ≡ suc n = omega arith in ap (λ m. take m ys) (sym e)
take_append (suc n) (x ∷ xs) ys = let e : suc n - suc (length xs) ≡ n - length xs = omega arith in ap (λ zs. x ∷ zs) (take_append n xs ys) ∙ ap (λ m. x ∷ (take n xs ++ take m ys)) (sym e)

-- nothing yet
pub walks_none : (job : Job) (p : Program) (n : ℕ) → Walks job p [] n n None
walks_none job p zero = (tt, refl)
walks_none job p (suc n) = (tt, omega arith)

-- nothing there, and then what is found in more
pub walks_on : (job : Job) (p : Program) (xs ys : List (List Invocation)) (a b c : ℕ) (found : Option Calls) → Walks job p xs a b None → Walks job p ys b c found → Walks job p (xs ++ ys) a c found
walks_on job p xs ys a b c None h k =
    let e = sym h.1 in (
      subst (Each (AgreeOn job p)) (sym (take_append a xs ys)) (each-append (AgreeOn job p) (take a xs) (take (a - length xs) ys) h.0 (subst (λ n. Each (AgreeOn job p) (take n ys)) h.1 k.0)),
      omega (arith, h.1, k.1, length-append xs ys),
    )
walks_on job p xs ys a b c (Some calls) h k = record {
  before = take a xs ++ k.before;
  after = k.after;
  are = take_append a xs ys ∙ (ap (λ n. take a xs ++ take n ys) (sym h.1) ∙ (ap (λ zs. take a xs ++ zs) k.are ∙ sym (append_assoc (take a xs) k.before (calls.calls ∷ k.after))));
  agree = each-append (AgreeOn job p) (take a xs) k.before h.0 k.agree;
  fails = k.fails;
}

-- what is found stays found, whatever follows
pub walks_front : (job : Job) (p : Program) (xs ys : List (List Invocation)) (a b c : ℕ) (calls : Calls) → Walks job p xs a b (Some calls) → Walks job p (xs ++ ys) a c (Some calls)
walks_front job p xs ys a b c calls h = record {
  before = h.before;
  after = h.after ++ take (a - length xs) ys;
  are = take_append a xs ys ∙ (ap (λ zs. zs ++ take (a - length xs) ys) h.are ∙ append_assoc h.before (calls.calls ∷ h.after) (take (a - length xs) ys));
  agree = h.agree;
  fails = h.fails;
}

-- where no test is left, more lists change nothing
pub walks_spent : (job : Job) (p : Program) (xs ys : List (List Invocation)) (a b : ℕ) → b ≡ 0 → Walks job p xs a b None → Walks job p (xs ++ ys) a b None
walks_spent job p xs ys a b z h =
    let none : a - length xs ≡ 0 = sym h.1 ∙ z in (
      subst (Each (AgreeOn job p)) (sym (take_append a xs ys ∙ ap (λ n. take a xs ++ take n ys) none)) (each-append (AgreeOn job p) (take a xs) [] h.0 tt),
      omega (arith, h.1, z, length-append xs ys),
    )

-- ---- one list

-- it agrees
pub walks_one : (job : Job) (p : Program) (calls : List Invocation) (a b : ℕ) → b + 1 ≡ a → AgreeOn job p calls → Walks job p (calls ∷ []) a b None
walks_one job p calls zero b e h = absurd (omega (arith, e))
walks_one job p calls (suc a) b e h = (subst (Each (AgreeOn job p)) (one_front a) (h, tt), omega (arith, e)) where
  one_front : (n : ℕ) → calls ∷ [] ≡ take (suc n) (calls ∷ [])
  one_front zero = refl
  one_front (suc n) = refl

-- it fails
pub walks_found : (job : Job) (p : Program) (c : Calls) (a b : ℕ) → b + 1 ≡ a → (AgreeOn job p c.calls → ⊥) → Walks job p (c.calls ∷ []) a b (Some c)
walks_found job p c zero b e h = absurd (omega (arith, e))
walks_found job p c (suc zero) b e h = record { before = []; after = []; are = refl; agree = tt; fails = h }
walks_found job p c (suc (suc a)) b e h = record { before = []; after = []; are = refl; agree = tt; fails = h }

-- ---- lists that each of some calls gives

-- those before a place and those from it on
parts : {C : Type 0} (g : C → List (List Invocation)) (xs : List C) (k : ℕ) → flat_map g xs ≡ flat_map g (take k xs) ++ flat_map g (drop k xs)
parts g xs k = ap (flat_map g) (sym (take-append-drop k xs)) ∙ flat_map-append g (take k xs) (drop k xs)

next_parts : {C : Type 0} (g : C → List (List Invocation)) (xs : List C) (k : ℕ) (x : C) → k < length xs → x ≡ get_or xs k x → flat_map g (take (k + 1) xs) ≡ flat_map g (take k xs) ++ g x
next_parts g xs k x l e =
    ap (flat_map g) (take_more xs k x l ∙ ap (λ y. take k xs ++ y ∷ []) (sym e))
    ∙ (flat_map-append g (take k xs) (x ∷ []) ∙ ap (λ ys. flat_map g (take k xs) ++ ys) (append-nil (g x)))

-- none is left
pub each_spent : {C : Type 0} (job : Job) (p : Program) (g : C → List (List Invocation)) (xs : List C) (k a b : ℕ) → b ≡ 0 → Walks job p (flat_map g (take k xs)) a b None → Walks job p (flat_map g xs) a b None
each_spent job p g xs k a b z h = subst (λ ls. Walks job p ls a b None) (sym (parts g xs k)) (walks_spent job p (flat_map g (take k xs)) (flat_map g (drop k xs)) a b z h)

-- one more gave nothing
pub each_more : {C : Type 0} (job : Job) (p : Program) (g : C → List (List Invocation)) (xs : List C) (k a b c : ℕ) (x : C) → k < length xs → x ≡ get_or xs k x → Walks job p (flat_map g (take k xs)) a b None → (found : Option Calls) → is_some found ≡ false → Walks job p (g x) b c found → Walks job p (flat_map g (take (k + 1) xs)) a c None
each_more job p g xs k a b c x l e h None n w = subst (λ ls. Walks job p ls a c None) (sym (next_parts g xs k x l e)) (walks_on job p (flat_map g (take k xs)) (g x) a b c None h w)
each_more job p g xs k a b c x l e h (Some f) n w = absurd (both_ways true (sym (sym n)) refl)

-- the next gave one that fails
pub each_found : {C : Type 0} (job : Job) (p : Program) (g : C → List (List Invocation)) (xs : List C) (k a b c : ℕ) (x : C) → k < length xs → x ≡ get_or xs k x → Walks job p (flat_map g (take k xs)) a b None → (found : Option Calls) → is_some found ≡ true → Walks job p (g x) b c found → Walks job p (flat_map g xs) a c found
each_found job p g xs k a b c x l e h None n w = absurd (both_ways false refl n)
each_found job p g xs k a b c x l e h (Some f) n w =
    subst (λ ls. Walks job p ls a c (Some f)) (sym (parts g xs (k + 1)))
    (walks_front job p (flat_map g (take (k + 1) xs)) (flat_map g (drop (k + 1) xs)) a c c f
    (subst (λ ls. Walks job p ls a c (Some f)) (sym (next_parts g xs k x l e)) (walks_on job p (flat_map g (take k xs)) (g x) a b c (Some f) h w)))

-- all were gone through
pub each_done : {C : Type 0} (job : Job) (p : Program) (g : C → List (List Invocation)) (xs : List C) (k a b : ℕ) → k ≡ length xs → Walks job p (flat_map g (take k xs)) a b None → Walks job p (flat_map g xs) a b None
each_done job p g xs k a b e h = subst (λ ys. Walks job p (flat_map g ys) a b None) (ap (λ n. take n xs) e ∙ take-length xs) h

-- ---- a tree of lists

-- lists with updates are those that go on with each of them
pub below_some : (us qs : List Invocation) (n : ℕ) (before : List Invocation) → (n ≡ 0 → ⊥) → flat_map (λ u. below us qs (n - 1) (before ++ u ∷ [])) us ≡ below us qs n before
below_some us qs zero before h = absurd (h refl)
below_some us qs (suc n) before h = let e : suc n - 1 ≡ n = omega arith in ap (λ m. flat_map (λ u. below us qs m (before ++ u ∷ [])) us) e

-- one query behind some calls, as a list
abbrev pub asked : (before : List Invocation) → Invocation → List (List Invocation)
asked before q = (before ++ q ∷ []) ∷ []

pub asked_all : (qs before : List Invocation) → flat_map (asked before) qs ≡ map (λ q. before ++ q ∷ []) qs
asked_all qs before = flat_map_single (λ q. before ++ q ∷ []) qs

-- the next query fails
pub asked_found : (job : Job) (p : Program) (before qs : List Invocation) (k a b : ℕ) (q : Invocation) (f : Calls) → k < length qs → q ≡ get_or qs k q → Walks job p (flat_map (asked before) (take k qs)) a b None → (b ≡ 0 → ⊥) → f.calls ≡ before ++ q ∷ [] → (AgreeOn job p (before ++ q ∷ []) → ⊥) → IsFirstFailing job p (take a (map (λ q. before ++ q ∷ []) qs)) f.calls
asked_found job p before qs k a b q f l e h nonzero is fails =
    subst (λ ls. IsFirstFailing job p (take a ls) f.calls) (asked_all qs before)
    (each_found job p (asked before) qs k a b (b - 1) q l e h (Some f) refl
    (subst (λ xs. Walks job p (xs ∷ []) b (b - 1) (Some f)) is (walks_found job p f b (b - 1) (omega (arith, nonzero)) (λ g. fails (subst (AgreeOn job p) is g)))))
