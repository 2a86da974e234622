-- The test of two invariants is true exactly where they are one.
use Rattle.std.proofs.Common.{◌≡◌, ℕ, Bool, true, false, List, [], ◌∷◌, refl, ap, sym, ◌∙◌}
use Rattle.std.specs.Prelude.{◌==◌, ◌&&◌, ◌↔◌, IsTrue}
use Rattle.std.proofs.lemmas.Bool.{false≢true, and_parts, and_from, eqb-true, eq-eqb}
use Rattle.mig_schema.specs.declared.faults.Side.{Side}
use Rattle.mig_schema.specs.declared.faults.Side.TheVariants.{Old, New}
use Rattle.mig_schema.specs.declared.tables.ColId.{ColId}
use Rattle.mig_schema.specs.declared.programs.Join.{Join}
use Rattle.mig_schema.specs.declared.programs.Joined.{Joined}
use Rattle.mig_schema.specs.Columns.{same_col}
use Rattle.mig_meaning.specs.declared.relating.View.{View}
use Rattle.mig_meaning.specs.declared.relating.Invariant.{Invariant}
use Rattle.mig_meaning.specs.declared.relating.Invariant.TheVariants.{Views, Unique, Apart, Within}
use Rattle.mig_invariant.specs.Same.{same_list, same_side, same_joined, same_join, same_view, same_invariant}

number_same : (a b : ℕ) → (a == b) ≡ true → a ≡ b
number_same a b e = eqb-true a b e

number_itself : (a : ℕ) → (a == a) ≡ true
number_itself a = eq-eqb a a refl

-- columns
pub col_same : (a b : ColId) → same_col a b ≡ true → a ≡ b
col_same a b e =
    let parts = and_parts (a.table == b.table) (a.column == b.column) e in
    let P : ℕ → ColId = λ t. record { table = t; column = a.column } in
    let Q : ℕ → ColId = λ k. record { table = b.table; column = k } in
    ap P (number_same a.table b.table parts.0) ∙ ap Q (number_same a.column b.column parts.1)

pub col_itself : (a : ColId) → same_col a a ≡ true
col_itself a = and_from (a.table == a.table) (a.column == a.column) (number_itself a.table) (number_itself a.column)

-- lists
list_same : {A : Type 0} (same : A → A → Bool) → ((x y : A) → same x y ≡ true → x ≡ y) → (xs ys : List A) → same_list same xs ys ≡ true → xs ≡ ys
list_same same h [] [] e = refl
list_same same h [] (y ∷ ys) e = absurd (false≢true e)
list_same same h (x ∷ xs) [] e = absurd (false≢true e)
list_same same h (x ∷ xs) (y ∷ ys) e =
    let parts = and_parts (same x y) (same_list same xs ys) e in
    ap (λ z. z ∷ xs) (h x y parts.0) ∙ ap (λ zs. y ∷ zs) (list_same same h xs ys parts.1)

list_itself : {A : Type 0} (same : A → A → Bool) → ((x : A) → same x x ≡ true) → (xs : List A) → same_list same xs xs ≡ true
list_itself same h [] = refl
list_itself same h (x ∷ xs) = and_from (same x x) (same_list same xs xs) (h x) (list_itself same h xs)

-- joins
joined_same : (a b : Joined) → same_joined a b ≡ true → a ≡ b
joined_same a b e =
    let outer = and_parts (a.table == b.table) (same_col a.left b.left && same_col a.right b.right) e in
    let inner = and_parts (same_col a.left b.left) (same_col a.right b.right) outer.1 in
    let P : ℕ → Joined = λ t. record { table = t; left = a.left; right = a.right } in
    let Q : ColId → Joined = λ c. record { table = b.table; left = c; right = a.right } in
    let R : ColId → Joined = λ c. record { table = b.table; left = b.left; right = c } in
    ap P (number_same a.table b.table outer.0) ∙ ap Q (col_same a.left b.left inner.0) ∙ ap R (col_same a.right b.right inner.1)

joined_itself : (a : Joined) → same_joined a a ≡ true
joined_itself a = and_from (a.table == a.table) (same_col a.left a.left && same_col a.right a.right) (number_itself a.table) (and_from (same_col a.left a.left) (same_col a.right a.right) (col_itself a.left) (col_itself a.right))

join_same : (a b : Join) → same_join a b ≡ true → a ≡ b
join_same a b e =
    let parts = and_parts (a.first == b.first) (same_list same_joined a.more b.more) e in
    let P : ℕ → Join = λ t. record { first = t; more = a.more } in
    let Q : List Joined → Join = λ ms. record { first = b.first; more = ms } in
    ap P (number_same a.first b.first parts.0) ∙ ap Q (list_same same_joined joined_same a.more b.more parts.1)

join_itself : (a : Join) → same_join a a ≡ true
join_itself a = and_from (a.first == a.first) (same_list same_joined a.more a.more) (number_itself a.first) (list_itself same_joined joined_itself a.more)

-- views
view_same : (a b : View) → same_view a b ≡ true → a ≡ b
view_same a b e =
    let parts = and_parts (same_join a.join b.join) (same_list same_col a.outs b.outs) e in
    let P : Join → View = λ j. record { join = j; outs = a.outs } in
    let Q : List ColId → View = λ cs. record { join = b.join; outs = cs } in
    ap P (join_same a.join b.join parts.0) ∙ ap Q (list_same same_col col_same a.outs b.outs parts.1)

view_itself : (a : View) → same_view a a ≡ true
view_itself a = and_from (same_join a.join a.join) (same_list same_col a.outs a.outs) (join_itself a.join) (list_itself same_col col_itself a.outs)

-- sides
side_same : (a b : Side) → same_side a b ≡ true → a ≡ b
side_same Old Old e = refl
side_same Old New e = absurd (false≢true e)
side_same New Old e = absurd (false≢true e)
side_same New New e = refl

side_itself : (a : Side) → same_side a a ≡ true
side_itself Old = refl
side_itself New = refl

-- invariants
pub invariant_same : (x y : Invariant) → same_invariant x y ≡ true → x ≡ y
invariant_same (Views a b) (Views c d) e =
    let parts = and_parts (same_view a c) (same_view b d) e in
    ap (λ v. Views v b) (view_same a c parts.0) ∙ ap (λ v. Views c v) (view_same b d parts.1)
invariant_same (Unique s c) (Unique t d) e =
    let parts = and_parts (same_side s t) (same_col c d) e in
    ap (λ r. Unique r c) (side_same s t parts.0) ∙ ap (λ k. Unique t k) (col_same c d parts.1)
invariant_same (Apart s a b) (Apart t c d) e =
    let outer = and_parts (same_side s t) (same_col a c && same_col b d) e in
    let inner = and_parts (same_col a c) (same_col b d) outer.1 in
    ap (λ r. Apart r a b) (side_same s t outer.0) ∙ ap (λ k. Apart t k b) (col_same a c inner.0) ∙ ap (λ k. Apart t c k) (col_same b d inner.1)
invariant_same (Within s a b) (Within t c d) e =
    let outer = and_parts (same_side s t) (same_col a c && same_col b d) e in
    let inner = and_parts (same_col a c) (same_col b d) outer.1 in
    ap (λ r. Within r a b) (side_same s t outer.0) ∙ ap (λ k. Within t k b) (col_same a c inner.0) ∙ ap (λ k. Within t c k) (col_same b d inner.1)
invariant_same (Views a b) (Unique t d) e = absurd (false≢true e)
invariant_same (Views a b) (Apart t c d) e = absurd (false≢true e)
invariant_same (Views a b) (Within t c d) e = absurd (false≢true e)
invariant_same (Unique s c) (Views a b) e = absurd (false≢true e)
invariant_same (Unique s c) (Apart t a b) e = absurd (false≢true e)
invariant_same (Unique s c) (Within t a b) e = absurd (false≢true e)
invariant_same (Apart s a b) (Views c d) e = absurd (false≢true e)
invariant_same (Apart s a b) (Unique t d) e = absurd (false≢true e)
invariant_same (Apart s a b) (Within t c d) e = absurd (false≢true e)
invariant_same (Within s a b) (Views c d) e = absurd (false≢true e)
invariant_same (Within s a b) (Unique t d) e = absurd (false≢true e)
invariant_same (Within s a b) (Apart t c d) e = absurd (false≢true e)

pub invariant_itself : (x : Invariant) → same_invariant x x ≡ true
invariant_itself (Views a b) = and_from (same_view a a) (same_view b b) (view_itself a) (view_itself b)
invariant_itself (Unique s c) = and_from (same_side s s) (same_col c c) (side_itself s) (col_itself c)
invariant_itself (Apart s a b) = and_from (same_side s s) (same_col a a && same_col b b) (side_itself s) (and_from (same_col a a) (same_col b b) (col_itself a) (col_itself b))
invariant_itself (Within s a b) = and_from (same_side s s) (same_col a a && same_col b b) (side_itself s) (and_from (same_col a a) (same_col b b) (col_itself a) (col_itself b))

as_test : (b e : Bool) (P : Type 0) → (IsTrue b ↔ P) → (e ≡ true → P) → (P → e ≡ true) → b ≡ e
as_test true true P h f g = refl
as_test true false P h f g = sym (g (h.0 refl))
as_test false true P h f g = h.1 (f refl)
as_test false false P h f g = refl

-- a test that is true exactly where they are one is that test
pub tested : (b : Bool) (x y : Invariant) → (IsTrue b ↔ (x ≡ y)) → b ≡ same_invariant x y
tested b x y h = as_test b (same_invariant x y) (x ≡ y) h (invariant_same x y) (λ e. ap (same_invariant x) (sym e) ∙ invariant_itself x)
