-- Lines of entries, one more at a time, and a function that is not there.
use Rattle.std.proofs.Common.{◌≡◌, ℕ, zero, suc, ◌+◌, ◌<◌, List, [], ◌∷◌, ◌++◌, length, take, get_or, None, refl, sym, ap, ◌∙◌, arith}
use Rattle.std.specs.Prelude.{slice_get, slice_index_or}
use Rattle.mig_schema.specs.declared.programs.Function.{Function}
use Rattle.mig_schema.specs.declared.programs.Program.{Program}
use Rattle.mig_meaning.specs.Run.{no_function}
use Rattle.mig_search.specs.declared.outcomes.Tried.{Tried}
use Rattle.mig_messages.specs.Entries.{name_text, entry_line, entry_lines}

append-nil : (xs : List ℕ) → xs ++ [] ≡ xs
append-nil [] = refl
append-nil (x ∷ xs) = ap (λ l. x ∷ l) (append-nil xs)

append-assoc : (xs ys zs : List ℕ) → (xs ++ ys) ++ zs ≡ xs ++ (ys ++ zs)
append-assoc [] ys zs = refl
append-assoc (x ∷ xs) ys zs = ap (λ l. x ∷ l) (append-assoc xs ys zs)

none-there : (fs : List Function) (f : ℕ) → slice_get fs f ≡ None → (slice_index_or fs f no_function).name ≡ []
none-there [] f h = refl
none-there (x ∷ fs) zero h = cc
none-there (x ∷ fs) (suc f) h = none-there fs f h

-- a function that is not there has no name
pub no-name : (out : List ℕ) (p : Program) (f : ℕ) → slice_get p.functions f ≡ None → out ≡ out ++ name_text p f
no-name out p f h = sym (ap (λ n. out ++ n) (none-there p.functions f h) ∙ append-nil out)

-- one more entry
pub lines-more : (p : Program) (i : ℕ) (ts : List Tried) (n : ℕ) (d : Tried) → n < length ts → entry_lines p i (take (n + 1) ts) ≡ entry_lines p i (take n ts) ++ entry_line p (i + n) (get_or ts n d)
lines-more p i [] n d lt = absurd (omega (arith, lt))
lines-more p i (t ∷ ts) zero d lt = let e : i + 0 ≡ i = omega arith in append-nil (entry_line p i t) ∙ ap (λ k. entry_line p k t) (sym e)
lines-more p i (t ∷ ts) (suc n) d lt =
    let e : i + suc n ≡ (i + 1) + n = omega arith in
    let step : suc n + 1 ≡ suc (n + 1) = omega arith in
    ap (λ k. entry_lines p i (take k (t ∷ ts))) step
    ∙ (ap (λ l. entry_line p i t ++ l) (lines-more p (i + 1) ts n d (omega (arith, lt)))
    ∙ (sym (append-assoc (entry_line p i t) (entry_lines p (i + 1) (take n ts)) (entry_line p ((i + 1) + n) (get_or ts n d)))
    ∙ ap (λ k. (entry_line p i t ++ entry_lines p (i + 1) (take n ts)) ++ entry_line p k (get_or ts n d)) (sym e)))

-- what stands there after one more entry
pub put-more : (p : Program) (ts : List Tried) (at n : ℕ) (start now new : List ℕ) (item d : Tried) → at < length ts → item ≡ get_or ts at d → n ≡ at + 1
    → now ≡ start ++ entry_lines p 1 (take at ts) → new ≡ now ++ entry_line p n item → new ≡ start ++ entry_lines p 1 (take (at + 1) ts)
put-more p ts at n start now new item d lt is next before put =
    let e : n ≡ 1 + at = omega (arith, next) in
    put
    ∙ (ap (λ o. o ++ entry_line p n item) before
    ∙ (append-assoc start (entry_lines p 1 (take at ts)) (entry_line p n item)
    ∙ ap (λ l. start ++ l) (ap (λ k. entry_lines p 1 (take at ts) ++ entry_line p k item) e ∙ (ap (λ t. entry_lines p 1 (take at ts) ++ entry_line p (1 + at) t) is ∙ sym (lines-more p 1 ts at d lt)))))
