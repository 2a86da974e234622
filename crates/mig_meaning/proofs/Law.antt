-- The renaming law: a renaming that gives different keys to the different keys of the state, the arguments and the supply commutes with the run.
use Rattle.std.proofs.Common.{◌≡◌, ℕ, zero, suc, ◌+◌, ◌*◌, ◌≤◌, true, List, [], ◌∷◌, map, take, drop, length, refl, sym, ap, ap₂, ◌∙◌, arith, Option, Some, None}
use Rattle.std.proofs.lemmas.List.{take-take, drop-take}
use Rattle.mig_schema.specs.declared.values.Value.{Value}
use Rattle.mig_schema.specs.declared.values.Value.TheVariants as value
use Rattle.mig_schema.specs.declared.tables.Schema.{Schema}
use Rattle.mig_schema.specs.declared.programs.Body.{Body}
use Rattle.mig_schema.specs.declared.programs.Body.TheVariants as body
use Rattle.mig_schema.specs.declared.programs.Program.{Program}
use Rattle.mig_meaning.specs.declared.states.Placed.{Placed}
use Rattle.mig_meaning.specs.declared.states.State.{State}
use Rattle.mig_meaning.specs.declared.calling.Invocation.{Invocation}
use Rattle.mig_meaning.specs.Lists.{Each, has}
use Rattle.mig_meaning.specs.Conditions.{Given}
use Rattle.mig_meaning.specs.Effect.{reply}
use Rattle.mig_meaning.specs.Run.{function_at, Outcome, called, run}
use Rattle.mig_meaning.specs.Keys.{EachIn, EachValue, EachArgument, IsOfKeys}
use Rattle.mig_meaning.specs.Renaming.{renamed, renamed_state, renamed_rows}
use Rattle.mig_meaning.specs.Law.{InjectiveOn, renamed_call, renamed_reply, renamed_outcome}
use Rattle.mig_meaning.proofs.Renamed.{run-renamed}
use Rattle.mig_meaning.proofs.Within.{IsPlain, EachOf, after-keeps, answer-keeps, each-map}
use Rattle.mig_meaning.proofs.Supply.{each-drop}
use Rattle.mig_meaning.proofs.Injections.{widened, widened-in, widened-injective}

pub each-take : {X : Type 0} (P : X → Type 0) (n : ℕ) (xs : List X) → Each P xs → Each P (take n xs)
each-take P zero xs h = tt
each-take P (suc n) [] h = h
each-take P (suc n) (x ∷ xs) h = (h.0, each-take P n xs h.1)

pub map-agrees : {X Y : Type 0} (P : X → Type 0) (f g : X → Y) → ((x : X) → P x → f x ≡ g x) → (xs : List X) → Each P xs → map f xs ≡ map g xs
map-agrees P f g h [] a = refl
map-agrees P f g h (x ∷ xs) a = ap₂ (λ y ys. y ∷ ys) (h x a.0) (map-agrees P f g h xs a.1)

-- what a call leaves and answers has the property
pub record OutcomeIn (P : Value → Type 0) (o : Outcome) : Type 0 where
  pub state : EachValue P o.state
  pub reply : EachOf P o.reply

reply-keeps : (P : Value → Type 0) → IsPlain P → (g : Given) (b : Body) (s : State) → EachValue P s → EachOf P (reply g b s)
reply-keeps P pl g (body.Update stmts) s a = tt
reply-keeps P pl g (body.Query q) s a = answer-keeps P pl g q s a

pub run-keeps : (P : Value → Type 0) → IsPlain P → (schema : Schema) (p : Program) (is : List Invocation) (ks : List ℕ) (s : State) → EachValue P s → EachArgument P is → Each (λ k. P (value.Key k)) ks → Each (OutcomeIn P) (run schema p s is ks)
run-keeps P pl schema p [] ks s a b c = tt
run-keeps P pl schema p (i ∷ is) ks s a b c =
    (record { state = after; reply = reply-keeps P pl g (function_at p i.function).body s a }, run-keeps P pl schema p is (drop 16 ks) (called schema p i (take 16 ks) s).state after b.1 (each-drop _ 16 ks c))
  where
    g : Given
    g = record { args = i.args.values; keys = take 16 ks }

    after : EachValue P (called schema p i (take 16 ks) s).state
    after = after-keeps P pl schema g (record { args = b.0; keys = each-map P (λ k. P (value.Key k)) value.Key (λ k h. h) (take 16 ks) (each-take _ 16 ks c) }) (function_at p i.function).body s a

-- ---- a renaming and its widening agree
pub of_keys-plain : (ks : List ℕ) → IsPlain (IsOfKeys ks)
of_keys-plain ks = record { ints = λ i. tt; texts = λ t. tt }

pub value-agrees : (ks : List ℕ) (f : ℕ → ℕ) (v : Value) → IsOfKeys ks v → renamed (widened ks f) v ≡ renamed f v
value-agrees ks f (value.Int i) h = refl
value-agrees ks f (value.Text t) h = refl
value-agrees ks f (value.Key k) h = ap value.Key (widened-in ks f k h)

pub rows-agree : (ks : List ℕ) (f : ℕ → ℕ) (rs : List (List Value)) → Each (Each (IsOfKeys ks)) rs → renamed_rows (widened ks f) rs ≡ renamed_rows f rs
rows-agree ks f rs a = map-agrees (Each (IsOfKeys ks)) _ _ (λ r h. map-agrees (IsOfKeys ks) _ _ (value-agrees ks f) r h) rs a

state-agrees : (ks : List ℕ) (f : ℕ → ℕ) (s : State) → EachValue (IsOfKeys ks) s → renamed_state (widened ks f) s ≡ renamed_state f s
state-agrees ks f s a =
    ap (with_tables s.next) (map-agrees (Each (EachIn (IsOfKeys ks))) _ _ (λ rows h. map-agrees (EachIn (IsOfKeys ks)) _ _ (λ p q. ap (with_values p.id) (map-agrees (IsOfKeys ks) _ _ (value-agrees ks f) p.row.values q)) rows h) s.tables a)
  where
    with_tables : ℕ → List (List Placed) → State
    with_tables n ts = record { tables = ts; next = n }

    with_values : ℕ → List Value → Placed
    with_values n vs = record { id = n; row = record { values = vs } }

reply-agrees : (ks : List ℕ) (f : ℕ → ℕ) (r : Option (List (List Value))) → EachOf (IsOfKeys ks) r → renamed_reply (widened ks f) r ≡ renamed_reply f r
reply-agrees ks f None a = refl
reply-agrees ks f (Some rs) a = ap Some (rows-agree ks f rs a)

calls-agree : (ks : List ℕ) (f : ℕ → ℕ) (is : List Invocation) → EachArgument (IsOfKeys ks) is → map (renamed_call (widened ks f)) is ≡ map (renamed_call f) is
calls-agree ks f is a = map-agrees (λ (i : Invocation). Each (IsOfKeys ks) i.args.values) _ _ (λ i h. ap (call_of i.function) (map-agrees (IsOfKeys ks) _ _ (value-agrees ks f) i.args.values h)) is a
  where
    call_of : ℕ → List Value → Invocation
    call_of n vs = record { function = n; args = record { values = vs } }

-- the law: ks are keys that hold those of the state, the arguments and the supply
pub renaming-law : (schema : Schema) (p : Program) (ks : List ℕ) (f : ℕ → ℕ) → InjectiveOn ks f → (is : List Invocation) (supply : List ℕ) (s : State) → EachValue (IsOfKeys ks) s → EachArgument (IsOfKeys ks) is → Each (λ k. has ks k ≡ true) supply → run schema p (renamed_state f s) (map (renamed_call f) is) (map f supply) ≡ map (renamed_outcome f) (run schema p s is supply)
renaming-law schema p ks f inj is supply s a b c =
    ap (λ t. run schema p t (map (renamed_call f) is) (map f supply)) (sym (state-agrees ks f s a))
    ∙ ap (λ l. run schema p (renamed_state (widened ks f) s) l (map f supply)) (sym (calls-agree ks f is b))
    ∙ ap (run schema p (renamed_state (widened ks f) s) (map (renamed_call (widened ks f)) is)) (sym (map-agrees (λ k. has ks k ≡ true) (widened ks f) f (widened-in ks f) supply c))
    ∙ run-renamed schema p (widened ks f) (widened-injective ks f inj) is supply s
    ∙ map-agrees (OutcomeIn (IsOfKeys ks)) _ _ (λ o h. ap₂ (λ t r. record { state = t; reply = r }) (state-agrees ks f o.state h.state) (reply-agrees ks f o.reply h.reply)) (run schema p s is supply) (run-keeps (IsOfKeys ks) (of_keys-plain ks) schema p is supply s a b c)

-- a run reads the first 16 keys for each call, and no more
pub run-take : (schema : Schema) (p : Program) (is : List Invocation) (ks : List ℕ) (s : State) → run schema p s is (take (16 * length is) ks) ≡ run schema p s is ks
run-take schema p [] ks s = refl
run-take schema p (i ∷ is) ks s =
    let e : 16 * length (i ∷ is) ≡ 16 + 16 * length is = omega arith in
    let l : 16 ≤ 16 * length (i ∷ is) = omega arith in
    ap₂ (λ a b. called schema p i a s ∷ run schema p (called schema p i a s).state is b) (take-take 16 (16 * length (i ∷ is)) ks l) (ap (λ n. drop 16 (take n ks)) e ∙ drop-take 16 (16 * length is) ks)
    ∙ ap (λ os. called schema p i (take 16 ks) s ∷ os) (run-take schema p is (drop 16 ks) (called schema p i (take 16 ks) s).state)
