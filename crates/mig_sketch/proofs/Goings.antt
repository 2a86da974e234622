-- Holes of some places after those of others, and what ends a sketch.
use Rattle.std.proofs.Common.{◌≡◌, ℕ, ◌+◌, ◌<◌, zero, suc, List, [], ◌∷◌, ◌++◌, map, take, drop, length, refl, sym, ap, ◌∙◌, subst, arith, append_assoc, append-nil, get_or}
use Rattle.std.specs.Prelude.{Option, Some, None}
use Rattle.std.proofs.lemmas.List.{take-append-drop, take_more}
use Rattle.std.proofs.lemmas.List.{length-take}
use Rattle.mig_base.specs.Lists.{numbered}
use Rattle.mig_schema.specs.declared.jobs.Job.{Job}
use Rattle.mig_schema.specs.declared.programs.Function.{Function}
use Rattle.mig_schema.specs.declared.programs.Stmt.{Stmt}
use Rattle.mig_invariant.specs.declared.corresp.Corr.{Corr}
use Rattle.mig_sketch.specs.declared.plans.Hole.{Hole}
use Rattle.mig_sketch.specs.declared.plans.Made.{Made}
use Rattle.mig_sketch.specs.declared.plans.Made.TheVariants as made
use Rattle.mig_sketch.specs.declared.plans.Part.{Part}
use Rattle.mig_sketch.specs.declared.plans.Part.TheVariants as part
use Rattle.mig_sketch.specs.Made.{Place, AreHoles, IsFirstBad, IsEnd, IsRoomy, place_at, places_in, places_from}
use Rattle.mig_sketch.specs.Making.{Goes, IsJudged}
use Rattle.mig_sketch.specs.Options.{AreOptions}

module _ (job : Job) (corr : Corr) where
  holes-append : (ps qs : List Place) (hs ks : List Hole) → AreHoles job corr ps hs → AreHoles job corr qs ks → AreHoles job corr (ps ++ qs) (hs ++ ks)
  holes-append [] qs [] ks a b = b
  holes-append [] qs (h ∷ hs) ks a b = absurd a
  holes-append (p ∷ ps) qs [] ks a b = absurd a
  holes-append (p ∷ ps) qs (h ∷ hs) ks a b = (a.0, holes-append ps qs hs ks a.1 b)

  bad-behind : (Bad : List Part → Type 0) (f : ℕ) (ps qs : List Place) (hs : List Hole) → AreHoles job corr ps hs → IsFirstBad job corr qs Bad f → IsFirstBad job corr (ps ++ qs) Bad f
  bad-behind Bad f ps qs hs a b = record {
    before = ps ++ b.before;
    holes = hs ++ b.holes;
    at = b.at;
    after = b.after;
    options = b.options;
    are = ap (λ rs. ps ++ rs) b.are ∙ sym (append_assoc ps b.before (b.at ∷ b.after));
    good = holes-append ps b.before hs b.holes a b.good;
    here = b.here;
    bad = b.bad;
    function = b.function;
  }

  bad-before : (Bad : List Part → Type 0) (f : ℕ) (ps qs : List Place) → IsFirstBad job corr ps Bad f → IsFirstBad job corr (ps ++ qs) Bad f
  bad-before Bad f ps qs b = record {
    before = b.before;
    holes = b.holes;
    at = b.at;
    after = b.after ++ qs;
    options = b.options;
    are = ap (λ rs. rs ++ qs) b.are ∙ append_assoc b.before (b.at ∷ b.after) qs;
    good = b.good;
    here = b.here;
    bad = b.bad;
    function = b.function;
  }

  -- what ends a sketch behind places with holes ends it
  pub end-behind : (m : Made) (ps qs : List Place) (hs : List Hole) → AreHoles job corr ps hs → IsEnd job corr qs m → IsEnd job corr (ps ++ qs) m
  end-behind (made.Plan p) ps qs hs a b = b
  end-behind (made.Empty f) ps qs hs a b = bad-behind (λ options. options ≡ []) f ps qs hs a b
  end-behind (made.Wide f) ps qs hs a b = bad-behind (λ options. 4096 < length options) f ps qs hs a b

  -- whatever places follow
  pub end-before : (m : Made) (ps qs : List Place) → IsEnd job corr ps m → IsEnd job corr (ps ++ qs) m
  end-before (made.Plan p) ps qs b = b
  end-before (made.Empty f) ps qs b = bad-before (λ options. options ≡ []) f ps qs b
  end-before (made.Wide f) ps qs b = bad-before (λ options. 4096 < length options) f ps qs b

  -- no place yet
  pub goes_none : (hs : List Hole) → Goes job corr [] hs hs None
  goes_none hs = ([], tt, sym (append-nil hs))

  -- places after those that have holes
  pub goes_on : (ps qs : List Place) (old mid new : List Hole) (o : Option Made) → Goes job corr ps old mid None → Goes job corr qs mid new o → Goes job corr (ps ++ qs) old new o
  goes_on ps qs old mid new None a b = (a.0 ++ b.0, holes-append ps qs a.0 b.0 a.1 b.1, b.2 ∙ (ap (λ hs. hs ++ b.0) a.2 ∙ append_assoc old a.0 b.0))
  goes_on ps qs old mid new (Some m) a b = end-behind m ps qs a.0 a.1 b

  -- one place with a hole
  pub goes_here : (f : ℕ) (free : List ℕ) (s : ℕ) (p : Part) (options : List Part) (old new : List Hole)
      → AreOptions job corr free s p options
      → IsRoomy options
      → new ≡ old ++ record { function = f; statement = s; options = options } ∷ []
      → Goes job corr (place_at f free s p ∷ []) old new None
  goes_here f free s p options old new a roomy added = (record { function = f; statement = s; options = options } ∷ [], (record { function = refl; statement = refl; options = a; roomy = roomy }, tt), added)

  -- one place that ends a sketch
  pub goes_end : (f : ℕ) (free : List ℕ) (s : ℕ) (p : Part) (options : List Part) (m : Made)
      → AreOptions job corr free s p options
      → IsJudged f options (Some m)
      → IsEnd job corr (place_at f free s p ∷ []) m
  goes_end f free s p options (made.Plan plan) a j = j
  goes_end f free s p options (made.Empty g) a j = record { before = []; holes = []; at = place_at f free s p; after = []; options = options; are = refl; good = tt; here = a; bad = j.1; function = sym j.0 }
  goes_end f free s p options (made.Wide g) a j = record { before = []; holes = []; at = place_at f free s p; after = []; options = options; are = refl; good = tt; here = a; bad = j.1; function = sym j.0 }

-- ---- the first of numbered items, and of places

numbered-append : {A B : Type 0} (f : ℕ → A → B) (n : ℕ) (xs ys : List A) → numbered f n (xs ++ ys) ≡ numbered f n xs ++ numbered f (n + length xs) ys
numbered-append f n [] ys = ap (λ k. numbered f k ys) (omega arith)
numbered-append f n (x ∷ xs) ys = ap (λ zs. f n x ∷ zs) (numbered-append f (n + 1) xs ys ∙ ap (λ k. numbered f (n + 1) xs ++ numbered f k ys) (omega arith))

pub numbered-take : {A B : Type 0} (f : ℕ → A → B) (xs : List A) (i : ℕ) → numbered f 0 xs ≡ numbered f 0 (take i xs) ++ numbered f (0 + length (take i xs)) (drop i xs)
numbered-take f xs i = ap (numbered f 0) (sym (take-append-drop i xs)) ∙ numbered-append f 0 (take i xs) (drop i xs)

places-append : (f : ℕ) (xs ys : List Function) → places_from f (xs ++ ys) ≡ places_from f xs ++ places_from (f + length xs) ys
places-append f [] ys = ap (λ k. places_from k ys) (omega arith)
places-append f (x ∷ xs) ys =
    ap (λ ps. places_in f x.body ++ ps) (places-append (f + 1) xs ys ∙ ap (λ k. places_from (f + 1) xs ++ places_from k ys) (omega arith))
    ∙ sym (append_assoc (places_in f x.body) (places_from (f + 1) xs) (places_from (f + length (x ∷ xs)) ys))

pub places-take : (xs : List Function) (i : ℕ) → places_from 0 xs ≡ places_from 0 (take i xs) ++ places_from (0 + length (take i xs)) (drop i xs)
places-take xs i = ap (places_from 0) (sym (take-append-drop i xs)) ∙ places-append 0 (take i xs) (drop i xs)

-- one function more
pub places-more : (xs : List Function) (i : ℕ) (x : Function) → i < length xs → x ≡ get_or xs i x → places_from 0 (take (i + 1) xs) ≡ places_from 0 (take i xs) ++ places_in i x.body
places-more xs i x lt is =
    let size : 0 + length (take i xs) ≡ i = omega (arith, length-take i xs) in
    ap (places_from 0) (take_more xs i x lt)
    ∙ (places-append 0 (take i xs) (get_or xs i x ∷ [])
    ∙ (ap (λ k. places_from 0 (take i xs) ++ places_from k (get_or xs i x ∷ [])) size
    ∙ ap (λ ps. places_from 0 (take i xs) ++ ps) (append-nil (places_in i (get_or xs i x).body) ∙ ap (λ (y : Function). places_in i y.body) (sym is))))

-- ---- statements and functions one after the other

parts-more : (xs : List Stmt) (i : ℕ) (x : Stmt) → i < length xs → x ≡ get_or xs i x → take (i + 1) (map (λ s. part.Stmt s) xs) ≡ take i (map (λ s. part.Stmt s) xs) ++ part.Stmt x ∷ []
parts-more [] i x lt is = absurd (omega (arith, lt))
parts-more (y ∷ ys) zero x lt is = ap (λ s. part.Stmt s ∷ []) (sym is)
parts-more (y ∷ ys) (suc i) x lt is =
    let next : suc i + 1 ≡ suc (i + 1) = omega arith in
    rw next (ap (λ ps. part.Stmt y ∷ ps) (parts-more ys i x (omega (arith, lt)) is))

pub parts-length : (xs : List Stmt) → length (map (λ s. part.Stmt s) xs) ≡ length xs
parts-length [] = refl
parts-length (x ∷ xs) = let e = parts-length xs in omega (arith, e)

module _ (job : Job) (corr : Corr) (f : ℕ) (free : List ℕ) (xs : List Stmt) (i : ℕ) (x : Stmt) (lt : i < length xs) (is : x ≡ get_or xs i x) where
  abbrev all_parts : List Part
  all_parts = map (λ s. part.Stmt s) xs

  stmts-more : numbered (place_at f free) 0 (take (i + 1) all_parts) ≡ numbered (place_at f free) 0 (take i all_parts) ++ place_at f free i (part.Stmt x) ∷ []
  stmts-more =
      let size : 0 + length (take i all_parts) ≡ i = omega (arith, length-take i all_parts, parts-length xs, lt) in
      ap (numbered (place_at f free) 0) (parts-more xs i x lt is)
      ∙ numbered-append (place_at f free) 0 (take i all_parts) (part.Stmt x ∷ [])
      ∙ ap (λ k. numbered (place_at f free) 0 (take i all_parts) ++ place_at f free k (part.Stmt x) ∷ []) size

  -- one statement more
  pub stmts_on : (old mid new : List Hole) → Goes job corr (numbered (place_at f free) 0 (take i all_parts)) old mid None → Goes job corr (place_at f free i (part.Stmt x) ∷ []) mid new None → Goes job corr (numbered (place_at f free) 0 (take (i + 1) all_parts)) old new None
  stmts_on old mid new a b = subst (λ ps. Goes job corr ps old new None) (sym stmts-more) (goes_on job corr (numbered (place_at f free) 0 (take i all_parts)) (place_at f free i (part.Stmt x) ∷ []) old mid new None a b)

  -- a statement that ends the sketch
  pub stmts_end : (old mid : List Hole) (m : Made) → Goes job corr (numbered (place_at f free) 0 (take i all_parts)) old mid None → IsEnd job corr (place_at f free i (part.Stmt x) ∷ []) m → IsEnd job corr (numbered (place_at f free) 0 all_parts) m
  stmts_end old mid m a b =
      let up : IsEnd job corr (numbered (place_at f free) 0 (take (i + 1) all_parts)) m = subst (λ ps. IsEnd job corr ps m) (sym stmts-more) (end-behind job corr m (numbered (place_at f free) 0 (take i all_parts)) (place_at f free i (part.Stmt x) ∷ []) a.0 a.1 b) in
      subst (λ ps. IsEnd job corr ps m) (sym (numbered-take (place_at f free) all_parts (i + 1))) (end-before job corr m (numbered (place_at f free) 0 (take (i + 1) all_parts)) (numbered (place_at f free) (0 + length (take (i + 1) all_parts)) (drop (i + 1) all_parts)) up)

module _ (job : Job) (corr : Corr) (xs : List Function) (i : ℕ) (x : Function) (lt : i < length xs) (is : x ≡ get_or xs i x) where
  -- one function more
  pub functions_on : (old mid new : List Hole) → Goes job corr (places_from 0 (take i xs)) old mid None → Goes job corr (places_in i x.body) mid new None → Goes job corr (places_from 0 (take (i + 1) xs)) old new None
  functions_on old mid new a b = subst (λ ps. Goes job corr ps old new None) (sym (places-more xs i x lt is)) (goes_on job corr (places_from 0 (take i xs)) (places_in i x.body) old mid new None a b)

  -- a function that ends the sketch
  pub functions_end : (old mid : List Hole) (m : Made) → Goes job corr (places_from 0 (take i xs)) old mid None → IsEnd job corr (places_in i x.body) m → IsEnd job corr (places_from 0 xs) m
  functions_end old mid m a b =
      let up : IsEnd job corr (places_from 0 (take (i + 1) xs)) m = subst (λ ps. IsEnd job corr ps m) (sym (places-more xs i x lt is)) (end-behind job corr m (places_from 0 (take i xs)) (places_in i x.body) a.0 a.1 b) in
      subst (λ ps. IsEnd job corr ps m) (sym (places-take xs (i + 1))) (end-before job corr m (places_from 0 (take (i + 1) xs)) (places_from (0 + length (take (i + 1) xs)) (drop (i + 1) xs)) up)
