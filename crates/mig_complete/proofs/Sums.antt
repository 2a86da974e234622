-- Fronts of lists of sizes, and what stands at a place.
use Rattle.std.proofs.Common.{◌≡◌, ℕ, ◌+◌, ◌<◌, ◌≤◌, Bool, List, [], ◌∷◌, ◌++◌, take, length, get_or, refl, ap, sym, ◌∙◌, subst, arith, append_assoc, suc, zero}
use Rattle.std.proofs.lemmas.List.{append-nil, take_more}
use Rattle.mig_sketch.specs.declared.plans.Hole.{Hole}
use Rattle.mig_sketch.specs.Choices.{total, sizes_of}
use Rattle.mig_complete.specs.Coding.{link, links, hole, holes, IsPicked, Codes}

total-append : (xs ys : List ℕ) → total (xs ++ ys) ≡ total xs + total ys
total-append [] ys = omega arith
total-append (x ∷ xs) ys = let e = total-append xs ys in omega (arith, e)

total_one : (x : ℕ) → total (x ∷ []) ≡ x
total_one x = omega arith

-- one more
pub total_more : (xs : List ℕ) (i : ℕ) → i < length xs → total (take (i + 1) xs) ≡ total (take i xs) + get_or xs i 0
total_more xs i lt = ap total (take_more xs i 0 lt) ∙ (total-append (take i xs) (get_or xs i 0 ∷ []) ∙ ap (λ n. total (take i xs) + n) (total_one (get_or xs i 0)))

pub total_take : (n : ℕ) (xs : List ℕ) → total (take n xs) ≤ total xs
total_take zero xs = omega arith
total_take (suc n) [] = omega arith
total_take (suc n) (x ∷ xs) = let le = total_take n xs in omega (arith, le)

pub total_at : (xs : List ℕ) (i : ℕ) → i < length xs → total (take i xs) + get_or xs i 0 ≤ total xs
total_at xs i lt = let e = total_more xs i lt in let le = total_take (i + 1) xs in omega (arith, e, le)

-- an option of a hole is one of all
pub in_sizes : (xs : List ℕ) (h o : ℕ) → o < get_or xs h 0 → (h < length xs) × (total (take h xs) + o < total xs)
in_sizes [] h o lt = absurd (omega (arith, lt))
in_sizes (x ∷ xs) zero o lt = (omega arith, omega (arith, lt))
in_sizes (x ∷ xs) (suc h) o lt = let t = in_sizes xs h o lt in (omega (arith, t.0), omega (arith, t.1))

counts-append : (hs ks : List Hole) → sizes_of (hs ++ ks) ≡ sizes_of hs ++ sizes_of ks
counts-append [] ks = refl
counts-append (h ∷ hs) ks = ap (λ t. length h.options ∷ t) (counts-append hs ks)

-- one hole more
pub counts_more : (hs : List Hole) (i : ℕ) (h : Hole) → i < length hs → h ≡ get_or hs i h → sizes_of (take (i + 1) hs) ≡ sizes_of (take i hs) ++ length h.options ∷ []
counts_more hs i h lt is = ap sizes_of (take_more hs i h lt) ∙ (counts-append (take i hs) (get_or hs i h ∷ []) ∙ ap (λ (x : Hole). sizes_of (take i hs) ++ length x.options ∷ []) (sym is))

pub count_at : (hs : List Hole) (i : ℕ) (h : Hole) → i < length hs → h ≡ get_or hs i h → length h.options ≤ total (sizes_of hs)
count_at [] i h lt is = absurd (omega (arith, lt))
count_at (x ∷ hs) zero h lt is = let e : length h.options ≡ length x.options = ap (λ (k : Hole). length k.options) is in omega (arith, e)
count_at (x ∷ hs) (suc i) h lt is = let le = count_at hs i h (omega (arith, lt)) is in omega (arith, le)

-- one link more
pub links_more : (helpers first n : ℕ) → links helpers first (suc n) ≡ links helpers first n ++ link helpers (first + n)
links_more helpers first zero = append-nil (link helpers first) ∙ ap (link helpers) (omega arith)
links_more helpers first (suc n) =
    ap (λ t. link helpers first ++ t) (links_more helpers (first + 1) n ∙ ap (λ v. links helpers (first + 1) n ++ link helpers v) (omega arith))
    ∙ sym (append_assoc (link helpers first) (links helpers (first + 1) n) (link helpers (first + suc n)))

-- one hole more
pub holes_more : (helpers first : ℕ) (ns : List ℕ) (n : ℕ) → holes helpers first (ns ++ n ∷ []) ≡ holes helpers first ns ++ hole helpers (first + total ns) n
holes_more helpers first [] n = append-nil (hole helpers first n) ∙ ap (λ v. hole helpers v n) (omega arith)
holes_more helpers first (k ∷ ns) n =
    ap (λ t. hole helpers first k ++ t) (holes_more helpers (first + k) ns n ∙ ap (λ v. holes helpers (first + k) ns ++ hole helpers v n) (omega arith))
    ∙ sym (append_assoc (hole helpers first k) (holes helpers (first + k) ns) (hole helpers (first + (k + total ns)) n))

-- what stands for the pick at a place
pub codes_at : (m : List Bool) (first : ℕ) (ns ps : List ℕ) (i : ℕ) → Codes m first ns ps → i < length ns → (i < length ps) × IsPicked m (first + total (take i ns)) (get_or ns i 0) (get_or ps i 0)
codes_at m first [] ps i c lt = absurd (omega (arith, lt))
codes_at m first (n ∷ ns) [] i c lt = absurd c
codes_at m first (n ∷ ns) (p ∷ ps) zero c lt = (omega arith, subst (λ v. IsPicked m v n p) (omega arith) c.0)
codes_at m first (n ∷ ns) (p ∷ ps) (suc i) c lt = let t = codes_at m (first + n) ns ps i c.1 (omega (arith, lt)) in (omega (arith, t.0), subst (λ v. IsPicked m v (get_or ns i 0) (get_or ps i 0)) (omega arith) t.1)

pub codes_length : (m : List Bool) (first : ℕ) (ns ps : List ℕ) → Codes m first ns ps → length ps ≡ length ns
codes_length m first [] [] c = refl
codes_length m first [] (p ∷ ps) c = absurd c
codes_length m first (n ∷ ns) [] c = absurd c
codes_length m first (n ∷ ns) (p ∷ ps) c = let e = codes_length m (first + n) ns ps c.1 in omega (arith, e)
