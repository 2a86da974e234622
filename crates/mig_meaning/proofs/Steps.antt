-- One more item of a list in what a loop has made so far.
use Rattle.std.proofs.Common.{◌≡◌, ℕ, zero, suc, ◌+◌, ◌<◌, List, [], ◌∷◌, ◌++◌, map, take, get_or, length, refl, sym, ap, ◌∙◌, arith, append_assoc}
use Rattle.std.specs.Prelude.{flat_map, slice_get, None}
use Rattle.std.proofs.lemmas.List.{append-nil}
use Rattle.mig_schema.specs.declared.values.Value.TheVariants as value
use Rattle.mig_schema.specs.declared.tables.Schema.{Schema}
use Rattle.mig_schema.specs.declared.programs.Function.{Function}
use Rattle.mig_schema.specs.declared.programs.Program.{Program}
use Rattle.mig_base.specs.Lists.{numbered}
use Rattle.mig_meaning.specs.declared.states.State.{State}
use Rattle.mig_meaning.specs.declared.calling.Invocation.{Invocation}
use Rattle.mig_meaning.specs.Effect.{after, reply}
use Rattle.mig_meaning.specs.Run.{no_function, Outcome, called}
use Rattle.mig_meaning.specs.Values.{no_value}

pub take-next : {X : Type 0} (xs : List X) (i : ℕ) (x : X) → i < length xs → x ≡ get_or xs i x → take (i + 1) xs ≡ take i xs ++ x ∷ []
take-next [] i x l e = absurd (omega arith)
take-next (y ∷ ys) zero x l e = ap (λ z. z ∷ []) (sym e)
take-next (y ∷ ys) (suc i) x l e = let k : suc i + 1 ≡ suc (i + 1) = omega arith in ap (λ n. take n (y ∷ ys)) k ∙ ap (λ zs. y ∷ zs) (take-next ys i x (omega (arith, l)) e)

flat_map-add : {X Y : Type 0} (f : X → List Y) (xs : List X) (x : X) → flat_map f (xs ++ x ∷ []) ≡ flat_map f xs ++ f x
flat_map-add f [] x = append-nil (f x)
flat_map-add f (y ∷ ys) x = ap (λ zs. f y ++ zs) (flat_map-add f ys x) ∙ sym (append_assoc (f y) (flat_map f ys) (f x))

-- the pieces of one more item
pub flat_map-next : {X Y : Type 0} (f : X → List Y) (xs : List X) (i : ℕ) (x : X) (old new : List Y) → i < length xs → x ≡ get_or xs i x → old ≡ flat_map f (take i xs) → new ≡ old ++ f x → new ≡ flat_map f (take (i + 1) xs)
flat_map-next f xs i x old new l e o n = n ∙ ap (λ zs. zs ++ f x) o ∙ sym (flat_map-add f (take i xs) x) ∙ sym (ap (flat_map f) (take-next xs i x l e))

numbered-add : {X Y : Type 0} (f : ℕ → X → Y) (n : ℕ) (xs : List X) (x : X) → numbered f n (xs ++ x ∷ []) ≡ numbered f n xs ++ f (n + length xs) x ∷ []
numbered-add f n [] x = let e : n ≡ n + 0 = omega arith in ap (λ m. f m x ∷ []) e
numbered-add f n (y ∷ ys) x =
    let e : (n + 1) + length ys ≡ n + suc (length ys) = omega arith in
    ap (λ zs. f n y ∷ zs) (numbered-add f (n + 1) ys x ∙ ap (λ m. numbered f (n + 1) ys ++ f m x ∷ []) e)

length-front : {X : Type 0} (xs : List X) (i : ℕ) → i < length xs → length (take i xs) ≡ i
length-front [] i l = absurd (omega arith)
length-front (y ∷ ys) zero l = refl
length-front (y ∷ ys) (suc i) l = ap suc (length-front ys i (omega (arith, l)))

-- one more numbered item
pub numbered-next : {X Y : Type 0} (f : ℕ → X → Y) (xs : List X) (i : ℕ) (x : X) (old new : List Y) → i < length xs → x ≡ get_or xs i x → old ≡ numbered f 0 (take i xs) → new ≡ old ++ f i x ∷ [] → new ≡ numbered f 0 (take (i + 1) xs)
numbered-next f xs i x old new l e o n =
    let k : 0 + length (take i xs) ≡ i = omega (arith, length-front xs i l) in
    n ∙ ap (λ zs. zs ++ f i x ∷ []) o
    ∙ sym (ap (numbered f 0) (take-next xs i x l e) ∙ numbered-add f 0 (take i xs) x ∙ ap (λ m. numbered f 0 (take i xs) ++ f m x ∷ []) k)

-- past the last key stands the int 0
pub key-past : (ks : List ℕ) (n : ℕ) → None ≡ slice_get ks n → no_value ≡ get_or (map value.Key ks) n no_value
key-past [] n h = refl
key-past (k ∷ ks) zero h = cc
key-past (k ∷ ks) (suc n) h = key-past ks n h

-- the same, the item by its value
pub numbered-step : {X Y : Type 0} (f : ℕ → X → Y) (xs : List X) (i : ℕ) (x : X) (y : Y) (old new : List Y) → i < length xs → x ≡ get_or xs i x → old ≡ numbered f 0 (take i xs) → y ≡ f i x → new ≡ old ++ y ∷ [] → new ≡ numbered f 0 (take (i + 1) xs)
numbered-step f xs i x y old new l e o k n = numbered-next f xs i x old new l e o (n ∙ ap (λ z. old ++ z ∷ []) k)

some-at : {X : Type 0} (xs : List X) (i : ℕ) → i < length xs → (x : X) × (x ≡ get_or xs i x)
some-at [] i l = absurd (omega arith)
some-at (x ∷ xs) zero l = (x, refl)
some-at (x ∷ xs) (suc i) l = some-at xs i (omega (arith, l))

-- one more item that is made of its number alone
pub numbers-step : {X Y : Type 0} (f : ℕ → Y) (xs : List X) (i : ℕ) (y : Y) (old new : List Y) → i < length xs → old ≡ numbered (λ n (x : X). f n) 0 (take i xs) → y ≡ f i → new ≡ old ++ y ∷ [] → new ≡ numbered (λ n (x : X). f n) 0 (take (i + 1) xs)
numbers-step {X} f xs i y old new l o k n = let s = some-at xs i l in numbered-step (λ m (x : X). f m) xs i s.0 y old new l s.1 o k n

-- ---- calls

no_function-past : (fs : List Function) (n : ℕ) → None ≡ slice_get fs n → no_function ≡ get_or fs n no_function
no_function-past [] n h = refl
no_function-past (f ∷ fs) zero h = cc
no_function-past (f ∷ fs) (suc n) h = no_function-past fs n h

-- a call of a function that is not there does nothing
pub called-past : (schema : Schema) (p : Program) (i : Invocation) (keys : List ℕ) (s t : State) → None ≡ slice_get p.functions i.function → t ≡ s → ◌≡◌ {A = Outcome} (record { state = t; reply = None }) (called schema p i keys s)
called-past schema p i keys s t h e =
    ap (λ x. record { state = x; reply = None }) e
    ∙ ap (λ (f : Function). record { state = after schema (record { args = i.args.values; keys = keys }) f.body s; reply = reply (record { args = i.args.values; keys = keys }) f.body s }) (no_function-past p.functions i.function h)
