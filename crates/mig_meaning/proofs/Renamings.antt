-- What holds between an old and a new state, or of two answers, holds under a renaming where the new one is renamed.
use Rattle.std.proofs.Common.{◌≡◌, ℕ, List, [], ◌∷◌, map, refl, sym, ap, ap₂, ◌∙◌, Option, Some, None, inl, inr, subst}
use Rattle.mig_schema.specs.declared.tables.ColId.{ColId}
use Rattle.mig_schema.specs.declared.values.Value.{Value}
use Rattle.mig_schema.specs.declared.values.Value.TheVariants as value
use Rattle.mig_schema.specs.declared.faults.Side.TheVariants.{Old, New}
use Rattle.mig_schema.specs.Joins.{tables_of}
use Rattle.mig_meaning.specs.declared.states.Placed.{Placed}
use Rattle.mig_meaning.specs.declared.states.State.{State}
use Rattle.mig_meaning.specs.declared.relating.View.{View}
use Rattle.mig_meaning.specs.declared.relating.Invariant.{Invariant}
use Rattle.mig_meaning.specs.declared.relating.Invariant.TheVariants.{Views, Unique, Apart, Within}
use Rattle.mig_meaning.specs.Lists.{Each, In}
use Rattle.mig_meaning.specs.Values.{value_eq}
use Rattle.mig_meaning.specs.Rows.{rows_of, join_rows, column_in, value_at}
use Rattle.mig_meaning.specs.Bags.{SameBag}
use Rattle.mig_meaning.specs.Keys.{EachIn, EachValue, IsOfKeys}
use Rattle.mig_meaning.specs.Run.{Outcome}
use Rattle.mig_meaning.specs.Renaming.{same, renamed, renamed_row, renamed_state, renamed_rows, SameRenamed, SameReply}
use Rattle.mig_meaning.specs.Law.{InjectiveOn, renamed_reply, renamed_outcome}
use Rattle.mig_meaning.specs.Holds.{outputs, IsUnique, IsApart, IsWithin, Holds, AllHold}
use Rattle.mig_meaning.specs.Equivalent.{AllAlike}
use Rattle.mig_meaning.proofs.Maps.{map-split, map-lift}
use Rattle.mig_meaning.proofs.Renamed.{Injective, value_eq-renamed, rows_of-renamed, value_at-renamed, join_rows-renamed, column_in-renamed}
use Rattle.mig_meaning.proofs.Within.{EachOf, each-of, each-map, join_rows-keep, column_in-keeps}
use Rattle.mig_meaning.proofs.Bags.{same-map}
use Rattle.mig_meaning.proofs.Injections.{widened, widened-injective}
use Rattle.mig_meaning.proofs.Law.{OutcomeIn, of_keys-plain, rows-agree}

-- ---- nothing renamed

value-same : (v : Value) → renamed same v ≡ v
value-same (value.Int i) = refl
value-same (value.Text t) = refl
value-same (value.Key k) = refl

map-itself : {X : Type 0} (f : X → X) → ((x : X) → f x ≡ x) → (xs : List X) → map f xs ≡ xs
map-itself f h [] = refl
map-itself f h (x ∷ xs) = ap₂ (λ y ys. y ∷ ys) (h x) (map-itself f h xs)

-- rows are themselves where nothing is renamed
pub rows-same : (rs : List (List Value)) → renamed_rows same rs ≡ rs
rows-same rs = map-itself _ (map-itself (renamed same) value-same) rs

-- ---- elements of a list of images

-- what stands in a list of images is the image of an element
pub in-map : {X Y : Type 0} (f : X → Y) (y : Y) (xs : List X) → In y (map f xs) → (x : X) × (y ≡ f x) × In x xs
in-map f y [] h = absurd h
in-map f y (x ∷ xs) (inl e) = (x, e, inl refl)
in-map f y (x ∷ xs) (inr h) = let k = in-map f y xs h in (k.0, k.1, inr k.2)

-- the image of an element stands in the list of images
pub map-in : {X Y : Type 0} (f : X → Y) (x : X) (xs : List X) → In x xs → In (f x) (map f xs)
map-in f x [] h = absurd h
map-in f x (y ∷ ys) (inl e) = inl (ap f e)
map-in f x (y ∷ ys) (inr h) = inr (map-in f x ys h)

-- ---- one side's invariants, of a renamed state

module _ (g : ℕ → ℕ) (inj : Injective g) (s : State) where
  from-renamed : (t : ℕ) (p : Placed) → In p (rows_of (renamed_state g s) t) → (q : Placed) × (p ≡ renamed_row g q) × In q (rows_of s t)
  from-renamed t p h = in-map (renamed_row g) p (rows_of s t) (subst (In p) (rows_of-renamed g s t) h)

  to-renamed : (t : ℕ) (q : Placed) → In q (rows_of s t) → In (renamed_row g q) (rows_of (renamed_state g s) t)
  to-renamed t q h = subst (In (renamed_row g q)) (sym (rows_of-renamed g s t)) (map-in (renamed_row g) q (rows_of s t) h)

  -- two columns of renamed rows are equal where those of the rows are
  eq-at : (p q p' q' : Placed) (c d : ℕ) → p ≡ renamed_row g p' → q ≡ renamed_row g q' → value_eq (value_at p c) (value_at q d) ≡ value_eq (value_at p' c) (value_at q' d)
  eq-at p q p' q' c d e k =
      ap₂ (λ a b. value_eq (value_at a c) (value_at b d)) e k
      ∙ ap₂ value_eq (value_at-renamed g p' c) (value_at-renamed g q' d) ∙ value_eq-renamed g inj (value_at p' c) (value_at q' d)

  unique-renamed : (c : ColId) → IsUnique s c → IsUnique (renamed_state g s) c
  unique-renamed c u = λ p q h k e.
      let p' = from-renamed c.table p h in
      let q' = from-renamed c.table q k in
      ap (λ (r : Placed). r.id) p'.1 ∙ u p'.0 q'.0 p'.2 q'.2 (sym (eq-at p q p'.0 q'.0 c.column c.column p'.1 q'.1) ∙ e) ∙ ap (λ (r : Placed). r.id) (sym q'.1)

  apart-renamed : (c d : ColId) → IsApart s c d → IsApart (renamed_state g s) c d
  apart-renamed c d u = λ p q h k.
      let p' = from-renamed c.table p h in
      let q' = from-renamed d.table q k in
      eq-at p q p'.0 q'.0 c.column d.column p'.1 q'.1 ∙ u p'.0 q'.0 p'.2 q'.2

  within-renamed : (c d : ColId) → IsWithin s c d → IsWithin (renamed_state g s) c d
  within-renamed c d u = λ p h.
      let p' = from-renamed c.table p h in
      let q = u p'.0 p'.2 in
      (renamed_row g q.0, to-renamed d.table q.0 q.1, eq-at p (renamed_row g q.0) p'.0 q.0 c.column d.column p'.1 refl ∙ q.2)

  outputs-renamed : (v : View) → outputs v (renamed_state g s) ≡ renamed_rows g (outputs v s)
  outputs-renamed v =
      ap (map (λ e. map (column_in (tables_of v.join) e) v.outs)) (join_rows-renamed g inj s v.join)
      ∙ map-lift _ (map (renamed_row g)) (map (renamed g)) (λ e. map (column_in (tables_of v.join) e) v.outs) (λ e. map-split _ (renamed g) (column_in (tables_of v.join) e) (column_in-renamed g (tables_of v.join) e) v.outs) (join_rows s v.join)

outputs-keep : (ks : List ℕ) (v : View) (s : State) → EachValue (IsOfKeys ks) s → Each (Each (IsOfKeys ks)) (outputs v s)
outputs-keep ks v s a =
    each-map (Each (IsOfKeys ks)) (Each (EachIn (IsOfKeys ks))) _ (λ e h. each-map (IsOfKeys ks) (λ c. Unit {0}) (column_in (tables_of v.join) e) (λ c u. column_in-keeps (IsOfKeys ks) (of_keys-plain ks) (tables_of v.join) e c h) v.outs (each-of _ (λ c. tt) v.outs)) (join_rows s v.join)
    (join_rows-keep (IsOfKeys ks) s v.join a)

-- ---- both sides: the old state has keys of ks alone, among which f confuses none

module _ (ks : List ℕ) (f : ℕ → ℕ) (inj : InjectiveOn ks f) where
  rows-renamed : (a b : List (List Value)) → Each (Each (IsOfKeys ks)) a → SameRenamed same a b → SameRenamed f a (renamed_rows (widened ks f) b)
  rows-renamed a b h s =
      subst (λ l. SameBag l (renamed_rows (widened ks f) b)) (rows-agree ks f a h)
      (same-map (map (renamed (widened ks f))) a b (subst (λ l. SameBag l b) (rows-same a) s))

  holds-renamed : (old new : State) → EachValue (IsOfKeys ks) old → (i : Invariant) → Holds same old new i → Holds f old (renamed_state (widened ks f) new) i
  holds-renamed old new a (Views source target) h =
      subst (λ b. SameRenamed f (outputs source old) b) (sym (outputs-renamed (widened ks f) (widened-injective ks f inj) new target)) (rows-renamed (outputs source old) (outputs target new) (outputs-keep ks source old a) h)
  holds-renamed old new a (Unique Old c) h = h
  holds-renamed old new a (Unique New c) h = unique-renamed (widened ks f) (widened-injective ks f inj) new c h
  holds-renamed old new a (Apart Old c d) h = h
  holds-renamed old new a (Apart New c d) h = apart-renamed (widened ks f) (widened-injective ks f inj) new c d h
  holds-renamed old new a (Within Old c d) h = h
  holds-renamed old new a (Within New c d) h = within-renamed (widened ks f) (widened-injective ks f inj) new c d h

  all-renamed : (old new : State) → EachValue (IsOfKeys ks) old → (invs : List Invariant) → AllHold same old new invs → AllHold f old (renamed_state (widened ks f) new) invs
  all-renamed old new a [] h = tt
  all-renamed old new a (i ∷ is) h = (holds-renamed old new a i h.0, all-renamed old new a is h.1)

  reply-renamed : (r q : Option (List (List Value))) → EachOf (IsOfKeys ks) r → SameReply same r q → SameReply f r (renamed_reply (widened ks f) q)
  reply-renamed None None a h = tt
  reply-renamed (Some x) (Some y) a h = rows-renamed x y a h
  reply-renamed None (Some y) a h = h
  reply-renamed (Some x) None a h = h

  -- two runs that are alike are so under f, where the second is renamed
  pub alike-renamed : (invs : List Invariant) (os ns : List Outcome) → Each (OutcomeIn (IsOfKeys ks)) os → AllAlike same invs os ns → AllAlike f invs os (map (renamed_outcome (widened ks f)) ns)
  alike-renamed invs [] [] a h = tt
  alike-renamed invs (o ∷ os) (n ∷ ns) a h = (all-renamed o.state n.state a.0.state invs h.0, reply-renamed o.reply n.reply a.0.reply h.1, alike-renamed invs os ns a.1 h.2)
  alike-renamed invs [] (n ∷ ns) a h = h
  alike-renamed invs (o ∷ os) [] a h = h
