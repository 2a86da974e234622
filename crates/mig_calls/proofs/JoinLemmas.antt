-- Choices that are made table after table are the join rows.
use Rattle.std.proofs.Common.{◌≡◌, ℕ, suc, ◌+◌, ◌<◌, ◌⊎◌, inl, inr, Bool, true, false, cond, ◌&&◌, List, [], ◌∷◌, ◌++◌, map, get_or, length, refl, sym, ap, ap₂, ◌∙◌, arith, append_assoc}
use Rattle.std.specs.Prelude.{filter, ◌==◌}
use Rattle.std.specs.List.{flat_map}
use Rattle.std.proofs.lemmas.Bool.{cases_Bool, and_parts, eq-eqb, or_parts}
use Rattle.std.proofs.lemmas.Grind.{flat_map-append}
use Rattle.std.proofs.lemmas.List.{append-nil, get_or_append_left, get_or_at, length-append, map-append}
use Rattle.std.proofs.lemmas.List.Elements.{filter-append}
use Rattle.mig_schema.specs.declared.tables.ColId.{ColId}
use Rattle.mig_schema.specs.declared.programs.Joined.{Joined}
use Rattle.mig_schema.specs.declared.programs.Join.{Join}
use Rattle.mig_schema.specs.declared.programs.Cmp.{Cmp}
use Rattle.mig_schema.specs.declared.values.Value.{Value}
use Rattle.mig_schema.specs.Joins.{tables_of, is_among}
use Rattle.mig_meaning.specs.declared.states.Placed.{Placed}
use Rattle.mig_meaning.specs.declared.states.State.{State}
use Rattle.mig_meaning.specs.Conditions.{Given, cases_true, met_rows}
use Rattle.mig_meaning.specs.Lists.{Each, In, place, product}
use Rattle.mig_meaning.specs.Rows.{JoinRow, column_in, meets, no_row, rows_of, value_at}
use Rattle.mig_meaning.specs.Values.{value_eq}
use Rattle.mig_meaning.proofs.Lists.{in-front, in-behind}
use Rattle.mig_meaning.proofs.Bags.{value_eq-true, value_eq-refl}
use Rattle.mig_storage.specs.Layout.{Layout}
use Rattle.mig_calls.specs.Fits.{JoinedFits, AllJoinedFit, JoinFits}
use Rattle.mig_calls.specs.Joining.{partners, grown, grown_all, IsCover}
use Rattle.mig_calls.proofs.ChangeLemmas.{same-bool}

pub value_eq-sym : (a b : Value) → value_eq a b ≡ value_eq b a
value_eq-sym a b = same-bool (value_eq a b) (value_eq b a) (λ h. turned (value_eq-true a b h)) (λ h. ap (value_eq a) (value_eq-true b a h) ∙ value_eq-refl a)
  where
    turned : a ≡ b → value_eq b a ≡ true
    turned e = ap (value_eq b) e ∙ value_eq-refl b

-- ---- columns of longer choices
pub place-within : (ts : List ℕ) (t : ℕ) → is_among t ts ≡ true → place ts t < length ts
place-within [] t h = cc
place-within (u ∷ ts) t h = go (cases_Bool (u == t)) (λ k. place-within ts t k)
  where
    go : ((u == t) ≡ true) ⊎ ((u == t) ≡ false) → (is_among t ts ≡ true → place ts t < length ts) → cond (u == t) 0 (place ts t + 1) < suc (length ts)
    go (inl e) ih = rw e (omega arith)
    go (inr n) ih = let k = ih (rw n at h) in rw n (omega (arith, k))

place-front : (ts more : List ℕ) (t : ℕ) → is_among t ts ≡ true → place (ts ++ more) t ≡ place ts t
place-front [] more t h = cc
place-front (u ∷ ts) more t h = go (cases_Bool (u == t)) (λ k. place-front ts more t k)
  where
    go : ((u == t) ≡ true) ⊎ ((u == t) ≡ false) → (is_among t ts ≡ true → place (ts ++ more) t ≡ place ts t) → cond (u == t) 0 (place (ts ++ more) t + 1) ≡ cond (u == t) 0 (place ts t + 1)
    go (inl e) ih = rw e refl
    go (inr n) ih = rw n (ap (λ k. k + 1) (ih (rw n at h)))

place-behind : (ts more : List ℕ) (t : ℕ) → is_among t ts ≡ false → place (ts ++ t ∷ more) t ≡ length ts
place-behind [] more t h = rw (eq-eqb t t refl) refl
place-behind (u ∷ ts) more t h = let k = or_parts (u == t) (is_among t ts) h in rw k.0 (let e = place-behind ts more t k.1 in omega (arith, e))

column-front : (earlier more : List ℕ) (c d : JoinRow) (x : ColId) → length c ≡ length earlier → is_among x.table earlier ≡ true → column_in (earlier ++ more) (c ++ d) x ≡ column_in earlier c x
column-front earlier more c d x len h =
    let within : place earlier x.table < length c = omega (arith, len, place-within earlier x.table h) in
    ap (λ (p : Placed). value_at p x.column) (ap (λ n. get_or (c ++ d) n no_row) (place-front earlier more x.table h) ∙ get_or_append_left c d no_row (place earlier x.table) within)

column-behind : (earlier more : List ℕ) (c d : JoinRow) (p : Placed) (x : ColId) (t : ℕ) → length c ≡ length earlier → x.table ≡ t → is_among t earlier ≡ false → column_in (earlier ++ t ∷ more) (c ++ p ∷ d) x ≡ value_at p x.column
column-behind earlier more c d p x t len own new =
    ap (λ (q : Placed). value_at q x.column) (ap (λ n. get_or (c ++ p ∷ d) n no_row) (ap (place (earlier ++ t ∷ more)) own ∙ place-behind earlier more t new) ∙ get_or_at c p d no_row (length earlier) len)

-- ---- one further table
abbrev passes : List ℕ → Joined → JoinRow → Placed → Bool
passes earlier m c p = value_eq (value_at p m.right.column) (column_in earlier c m.left)

meets-longer : (layout : Layout) (earlier more : List ℕ) (m : Joined) (ms : List Joined) (c d : JoinRow) (p : Placed) → JoinedFits layout earlier m → length c ≡ length earlier → meets (earlier ++ m.table ∷ more) (m ∷ ms) (c ++ p ∷ d) ≡ (passes earlier m c p && meets (earlier ++ m.table ∷ more) ms (c ++ p ∷ d))
meets-longer layout earlier more m ms c d p fits len =
    ap (λ b. b && meets (earlier ++ m.table ∷ more) ms (c ++ p ∷ d))
    (ap₂ value_eq (column-front earlier (m.table ∷ more) c (p ∷ d) m.left len fits.earlier_left) (column-behind earlier more c d p m.right m.table len fits.own_right fits.new)
    ∙ value_eq-sym (column_in earlier c m.left) (value_at p m.right.column))

one-row : (layout : Layout) (earlier more : List ℕ) (m : Joined) (ms : List Joined) (c : JoinRow) (p : Placed) → JoinedFits layout earlier m → length c ≡ length earlier → (P : List JoinRow)
    → filter (meets (earlier ++ m.table ∷ more) (m ∷ ms)) (map (λ d. c ++ d) (map (λ d. p ∷ d) P)) ≡ cond (passes earlier m c p) (filter (meets (earlier ++ m.table ∷ more) ms) (map (λ d. (c ++ p ∷ []) ++ d) P)) []
one-row layout earlier more m ms c p fits len [] = go (passes earlier m c p)
  where
    go : (b : Bool) → ◌≡◌ {A = List JoinRow} [] (cond b [] [])
    go true = refl
    go false = refl
one-row layout earlier more m ms c p fits len (d ∷ P) = go (passes earlier m c p) (meets-longer layout earlier more m ms c d p fits len) (one-row layout earlier more m ms c p fits len P)
  where
    ts : List ℕ
    ts = earlier ++ m.table ∷ more

    rest : List JoinRow
    rest = filter (meets (earlier ++ m.table ∷ more) (m ∷ ms)) (map (λ d. c ++ d) (map (λ d. p ∷ d) P))

    tail : List JoinRow
    tail = filter (meets (earlier ++ m.table ∷ more) ms) (map (λ d. (c ++ p ∷ []) ++ d) P)

    same : c ++ p ∷ d ≡ (c ++ p ∷ []) ++ d
    same = sym (append_assoc c (p ∷ []) d)

    go : (b : Bool) → meets (earlier ++ m.table ∷ more) (m ∷ ms) (c ++ p ∷ d) ≡ (b && meets (earlier ++ m.table ∷ more) ms (c ++ p ∷ d)) → filter (meets (earlier ++ m.table ∷ more) (m ∷ ms)) (map (λ d. c ++ d) (map (λ d. p ∷ d) P)) ≡ cond b (filter (meets (earlier ++ m.table ∷ more) ms) (map (λ d. (c ++ p ∷ []) ++ d) P)) []
        → cond (meets (earlier ++ m.table ∷ more) (m ∷ ms) (c ++ p ∷ d)) ((c ++ p ∷ d) ∷ filter (meets (earlier ++ m.table ∷ more) (m ∷ ms)) (map (λ d. c ++ d) (map (λ d. p ∷ d) P))) (filter (meets (earlier ++ m.table ∷ more) (m ∷ ms)) (map (λ d. c ++ d) (map (λ d. p ∷ d) P)))
        ≡ cond b (cond (meets (earlier ++ m.table ∷ more) ms ((c ++ p ∷ []) ++ d)) (((c ++ p ∷ []) ++ d) ∷ filter (meets (earlier ++ m.table ∷ more) ms) (map (λ d. (c ++ p ∷ []) ++ d) P)) (filter (meets (earlier ++ m.table ∷ more) ms) (map (λ d. (c ++ p ∷ []) ++ d) P))) []
    go true e ih =
        ap₂ (λ b xs. cond b ((c ++ p ∷ d) ∷ xs) xs) e ih
        ∙ ap (λ (x : JoinRow). cond (meets (earlier ++ m.table ∷ more) ms x) (x ∷ filter (meets (earlier ++ m.table ∷ more) ms) (map (λ d. (c ++ p ∷ []) ++ d) P)) (filter (meets (earlier ++ m.table ∷ more) ms) (map (λ d. (c ++ p ∷ []) ++ d) P))) (sym (append_assoc c (p ∷ []) d))
    go false e ih = ap₂ (λ b xs. cond b ((c ++ p ∷ d) ∷ xs) xs) e ih

-- a choice with its partners, and whatever comes behind
one-choice : (layout : Layout) (earlier more : List ℕ) (m : Joined) (ms : List Joined) (c : JoinRow) → JoinedFits layout earlier m → length c ≡ length earlier → (P : List JoinRow) (R : List Placed)
    → filter (meets (earlier ++ m.table ∷ more) ms) (flat_map (λ e. map (λ d. e ++ d) P) (map (λ (p : Placed). c ++ p ∷ []) (filter (passes earlier m c) R))) ≡ filter (meets (earlier ++ m.table ∷ more) (m ∷ ms)) (map (λ d. c ++ d) (flat_map (λ p. map (λ d. p ∷ d) P) R))
one-choice layout earlier more m ms c fits len P [] = refl
one-choice layout earlier more m ms c fits len P (p ∷ R) =
    go (passes earlier m c p) (one-row layout earlier more m ms c p fits len P) (one-choice layout earlier more m ms c fits len P R)
    ∙ sym (ap (filter (meets (earlier ++ m.table ∷ more) (m ∷ ms))) (map-append (λ d. c ++ d) (map (λ d. p ∷ d) P) (flat_map (λ q. map (λ d. q ∷ d) P) R)) ∙ filter-append (meets (earlier ++ m.table ∷ more) (m ∷ ms)) (map (λ d. c ++ d) (map (λ d. p ∷ d) P)) (map (λ d. c ++ d) (flat_map (λ q. map (λ d. q ∷ d) P) R)))
  where
    go : (b : Bool) → filter (meets (earlier ++ m.table ∷ more) (m ∷ ms)) (map (λ d. c ++ d) (map (λ d. p ∷ d) P)) ≡ cond b (filter (meets (earlier ++ m.table ∷ more) ms) (map (λ d. (c ++ p ∷ []) ++ d) P)) []
        → filter (meets (earlier ++ m.table ∷ more) ms) (flat_map (λ e. map (λ d. e ++ d) P) (map (λ (q : Placed). c ++ q ∷ []) (filter (passes earlier m c) R))) ≡ filter (meets (earlier ++ m.table ∷ more) (m ∷ ms)) (map (λ d. c ++ d) (flat_map (λ q. map (λ d. q ∷ d) P) R))
        → filter (meets (earlier ++ m.table ∷ more) ms) (flat_map (λ e. map (λ d. e ++ d) P) (map (λ (q : Placed). c ++ q ∷ []) (cond b (p ∷ filter (passes earlier m c) R) (filter (passes earlier m c) R))))
        ≡ filter (meets (earlier ++ m.table ∷ more) (m ∷ ms)) (map (λ d. c ++ d) (map (λ d. p ∷ d) P)) ++ filter (meets (earlier ++ m.table ∷ more) (m ∷ ms)) (map (λ d. c ++ d) (flat_map (λ q. map (λ d. q ∷ d) P) R))
    go true e ih =
        filter-append (meets (earlier ++ m.table ∷ more) ms) (map (λ d. (c ++ p ∷ []) ++ d) P) (flat_map (λ e. map (λ d. e ++ d) P) (map (λ (q : Placed). c ++ q ∷ []) (filter (passes earlier m c) R)))
        ∙ ap₂ (λ xs ys. xs ++ ys) (sym e) ih
    go false e ih = ih ∙ ap (λ xs. xs ++ filter (meets (earlier ++ m.table ∷ more) (m ∷ ms)) (map (λ d. c ++ d) (flat_map (λ q. map (λ d. q ∷ d) P) R))) (sym e)

all-choices : (layout : Layout) (earlier more : List ℕ) (m : Joined) (ms : List Joined) → JoinedFits layout earlier m → (P : List JoinRow) (R : List Placed) (cs : List JoinRow) → Each (λ c. length c ≡ length earlier) cs
    → filter (meets (earlier ++ m.table ∷ more) ms) (flat_map (λ e. map (λ d. e ++ d) P) (flat_map (λ c. map (λ (p : Placed). c ++ p ∷ []) (filter (passes earlier m c) R)) cs)) ≡ filter (meets (earlier ++ m.table ∷ more) (m ∷ ms)) (flat_map (λ c. map (λ d. c ++ d) (flat_map (λ p. map (λ d. p ∷ d) P) R)) cs)
all-choices layout earlier more m ms fits P R [] a = refl
all-choices layout earlier more m ms fits P R (c ∷ cs) a =
    ap (filter (meets (earlier ++ m.table ∷ more) ms)) (flat_map-append (λ e. map (λ d. e ++ d) P) (map (λ (p : Placed). c ++ p ∷ []) (filter (passes earlier m c) R)) (flat_map (λ c. map (λ (p : Placed). c ++ p ∷ []) (filter (passes earlier m c) R)) cs))
    ∙ (filter-append (meets (earlier ++ m.table ∷ more) ms) (flat_map (λ e. map (λ d. e ++ d) P) (map (λ (p : Placed). c ++ p ∷ []) (filter (passes earlier m c) R))) (flat_map (λ e. map (λ d. e ++ d) P) (flat_map (λ c. map (λ (p : Placed). c ++ p ∷ []) (filter (passes earlier m c) R)) cs))
    ∙ (ap₂ (λ xs ys. xs ++ ys) (one-choice layout earlier more m ms c fits a.0 P R) (all-choices layout earlier more m ms fits P R cs a.1)
    ∙ sym (filter-append (meets (earlier ++ m.table ∷ more) (m ∷ ms)) (map (λ d. c ++ d) (flat_map (λ p. map (λ d. p ∷ d) P) R)) (flat_map (λ c. map (λ d. c ++ d) (flat_map (λ p. map (λ d. p ∷ d) P) R)) cs))))

-- ---- all tables
filter-all : (xs : List JoinRow) → filter (λ e. true) xs ≡ xs
filter-all [] = refl
filter-all (x ∷ xs) = ap (λ ys. x ∷ ys) (filter-all xs)

singles : (cs : List JoinRow) → flat_map (λ c. map (λ d. c ++ d) ([] ∷ [])) cs ≡ cs
singles [] = refl
singles (c ∷ cs) = ap₂ (λ x xs. x ∷ xs) (append-nil c) (singles cs)

longer-lengths : (s : State) (earlier : List ℕ) (m : Joined) (cs : List JoinRow) → Each (λ c. length c ≡ length earlier) cs → Each (λ c. length c ≡ length (earlier ++ m.table ∷ [])) (grown s earlier m cs)
longer-lengths s earlier m [] a = tt
longer-lengths s earlier m (c ∷ cs) a = both (map (λ (p : Placed). c ++ p ∷ []) (partners s earlier m c)) (grown s earlier m cs) (each (partners s earlier m c)) (longer-lengths s earlier m cs a.1)
  where
    each : (ps : List Placed) → Each (λ e. length e ≡ length (earlier ++ m.table ∷ [])) (map (λ (p : Placed). c ++ p ∷ []) ps)
    each [] = tt
    each (p ∷ ps) = (omega (arith, length-append c (p ∷ []), length-append earlier (m.table ∷ []), a.0), each ps)

    both : (xs ys : List JoinRow) → Each (λ e. length e ≡ length (earlier ++ m.table ∷ [])) xs → Each (λ e. length e ≡ length (earlier ++ m.table ∷ [])) ys → Each (λ e. length e ≡ length (earlier ++ m.table ∷ [])) (xs ++ ys)
    both [] ys b d = d
    both (x ∷ xs) ys b d = (b.0, both xs ys b.1 d)

grown-law : (layout : Layout) (s : State) (ts earlier : List ℕ) (ms : List Joined) (cs : List JoinRow) → ts ≡ earlier ++ map (λ (m : Joined). m.table) ms → AllJoinedFit layout earlier ms → Each (λ c. length c ≡ length earlier) cs
    → grown_all s earlier ms cs ≡ filter (meets ts ms) (flat_map (λ c. map (λ d. c ++ d) (product (map (rows_of s) (map (λ (m : Joined). m.table) ms)))) cs)
grown-law layout s ts earlier [] cs is fits a = sym (filter-all (flat_map (λ c. map (λ d. c ++ d) ([] ∷ [])) cs) ∙ singles cs)
grown-law layout s ts earlier (m ∷ ms) cs is fits a =
    let more = map (λ (n : Joined). n.table) ms in
    let next : ts ≡ (earlier ++ m.table ∷ []) ++ map (λ (n : Joined). n.table) ms = is ∙ sym (append_assoc earlier (m.table ∷ []) (map (λ (n : Joined). n.table) ms)) in
    let P = product (map (rows_of s) more) in
    grown-law layout s ts (earlier ++ m.table ∷ []) ms (grown s earlier m cs) next fits.1 (longer-lengths s earlier m cs a)
    ∙ (ap (λ us. filter (meets us ms) (flat_map (λ c. map (λ d. c ++ d) P) (grown s earlier m cs))) is
    ∙ (all-choices layout earlier more m ms fits.0 P (rows_of s m.table) cs a
    ∙ ap (λ us. filter (meets us (m ∷ ms)) (flat_map (λ c. map (λ d. c ++ d) (product (rows_of s m.table ∷ map (rows_of s) more))) cs)) (sym is)))

-- the choices that begin with these rows of the first table
begun-with : (P : List JoinRow) (rows : List Placed) → flat_map (λ c. map (λ d. c ++ d) P) (map (λ (p : Placed). p ∷ []) rows) ≡ flat_map (λ p. map (λ d. p ∷ d) P) rows
begun-with P [] = refl
begun-with P (p ∷ rows) = ap (λ xs. map (λ d. p ∷ d) P ++ xs) (begun-with P rows)

single-lengths : (t : ℕ) (rows : List Placed) → Each (λ c. length c ≡ length (t ∷ [])) (map (λ (p : Placed). p ∷ []) rows)
single-lengths t [] = tt
single-lengths t (p ∷ rows) = (refl, single-lengths t rows)

pub grown-from : (layout : Layout) (s : State) (join : Join) (rows : List Placed) → JoinFits layout join → grown_all s (join.first ∷ []) join.more (map (λ (p : Placed). p ∷ []) rows) ≡ filter (meets (tables_of join) join.more) (flat_map (λ p. map (λ d. p ∷ d) (product (map (rows_of s) (map (λ (m : Joined). m.table) join.more)))) rows)
grown-from layout s join rows fits =
    grown-law layout s (tables_of join) (join.first ∷ []) join.more (map (λ (p : Placed). p ∷ []) rows) refl fits.more (single-lengths join.first rows)
    ∙ ap (filter (meets (tables_of join) join.more)) (begun-with (product (map (rows_of s) (map (λ (m : Joined). m.table) join.more))) rows)

-- ---- rows that cover the first table's
-- no choice with this row passes
none-pass : (T : JoinRow → Bool) (p : Placed) (P : List JoinRow) → ((d : JoinRow) → In d P → T (p ∷ d) ≡ true → ⊥) → filter T (map (λ d. p ∷ d) P) ≡ []
none-pass T p [] h = refl
none-pass T p (d ∷ P) h = go (T (p ∷ d)) refl (none-pass T p P (λ e k. h e (inr k)))
  where
    go : (b : Bool) → T (p ∷ d) ≡ b → filter T (map (λ d. p ∷ d) P) ≡ [] → cond b ((p ∷ d) ∷ filter T (map (λ d. p ∷ d) P)) (filter T (map (λ d. p ∷ d) P)) ≡ []
    go true e ih = absurd (h d (inl refl) e)
    go false e ih = ih

in-before : (p : Placed) (d : JoinRow) (P : List JoinRow) → In d P → In (p ∷ d) (map (λ e. p ∷ e) P)
in-before p d [] h = absurd h
in-before p d (e ∷ P) (inl k) = inl (ap (λ x. p ∷ x) k)
in-before p d (e ∷ P) (inr h) = inr (in-before p d P h)

covered : (T : JoinRow → Bool) (test : Placed → Bool) (P : List JoinRow) (R : List Placed) → ((p : Placed) (d : JoinRow) → In (p ∷ d) (flat_map (λ q. map (λ e. q ∷ e) P) R) → T (p ∷ d) ≡ true → test p ≡ true) → filter T (flat_map (λ p. map (λ d. p ∷ d) P) (filter test R)) ≡ filter T (flat_map (λ p. map (λ d. p ∷ d) P) R)
covered T test P [] h = refl
covered T test P (p ∷ R) h = go (test p) refl (covered T test P R (λ q d k. h q d (in-behind (q ∷ d) (map (λ e. p ∷ e) P) (flat_map (λ q. map (λ e. q ∷ e) P) R) k)))
  where
    here : (b : Bool) → test p ≡ b → b ≡ false → (d : JoinRow) → In d P → T (p ∷ d) ≡ true → ⊥
    here b e n d k t = let y : true ≡ false = sym (h p d (in-front (p ∷ d) (map (λ e. p ∷ e) P) (flat_map (λ q. map (λ e. q ∷ e) P) R) (in-before p d P k)) t) ∙ (e ∙ n) in cc

    go : (b : Bool) → test p ≡ b → filter T (flat_map (λ p. map (λ d. p ∷ d) P) (filter test R)) ≡ filter T (flat_map (λ p. map (λ d. p ∷ d) P) R)
        → filter T (flat_map (λ p. map (λ d. p ∷ d) P) (cond b (p ∷ filter test R) (filter test R))) ≡ filter T (map (λ d. p ∷ d) P ++ flat_map (λ p. map (λ d. p ∷ d) P) R)
    go true e ih =
        filter-append T (map (λ d. p ∷ d) P) (flat_map (λ p. map (λ d. p ∷ d) P) (filter test R))
        ∙ (ap (λ xs. filter T (map (λ d. p ∷ d) P) ++ xs) ih ∙ sym (filter-append T (map (λ d. p ∷ d) P) (flat_map (λ p. map (λ d. p ∷ d) P) R)))
    go false e ih =
        ih
        ∙ (ap (λ xs. xs ++ filter T (flat_map (λ p. map (λ d. p ∷ d) P) R)) (sym (none-pass T p P (here false e refl))) ∙ sym (filter-append T (map (λ d. p ∷ d) P) (flat_map (λ p. map (λ d. p ∷ d) P) R)))

filter-filter : (a b : JoinRow → Bool) (xs : List JoinRow) → filter a (filter b xs) ≡ filter (λ x. b x && a x) xs
filter-filter a b [] = refl
filter-filter a b (x ∷ xs) = go (b x) (filter-filter a b xs)
  where
    go : (v : Bool) → filter a (filter b xs) ≡ filter (λ y. b y && a y) xs → filter a (cond v (x ∷ filter b xs) (filter b xs)) ≡ cond (v && a x) (x ∷ filter (λ y. b y && a y) xs) (filter (λ y. b y && a y) xs)
    go true ih = ap (λ ys. cond (a x) (x ∷ ys) ys) ih
    go false ih = ih

-- the choices from rows that cover the first table's, cut to those that meet the condition
pub met-from : (layout : Layout) (g : Given) (s : State) (join : Join) (cases : List (List Cmp)) (rows : List Placed) → JoinFits layout join → IsCover g s join cases rows
    → filter (λ e. cases_true g (tables_of join) e cases) (grown_all s (join.first ∷ []) join.more (map (λ (p : Placed). p ∷ []) rows)) ≡ met_rows g s join cases
met-from layout g s join cases rows fits cover =
    let P = product (map (rows_of s) (map (λ (m : Joined). m.table) join.more)) in
    let C = λ (e : JoinRow). cases_true g (tables_of join) e cases in
    let M = meets (tables_of join) join.more in
    let R = rows_of s join.first in
    let T = λ (e : JoinRow). meets (tables_of join) join.more e && cases_true g (tables_of join) e cases in
    ap (filter C) (grown-from layout s join rows fits)
    ∙ (filter-filter C M (flat_map (λ p. map (λ d. p ∷ d) P) rows)
    ∙ (ap (λ ps. filter T (flat_map (λ p. map (λ d. p ∷ d) P) ps)) cover.part
    ∙ (covered T cover.test P R (λ p d k t. let b = and_parts (meets (tables_of join) join.more (p ∷ d)) (cases_true g (tables_of join) (p ∷ d) cases) t in cover.covers p d k b.0 b.1)
    ∙ sym (filter-filter C M (flat_map (λ p. map (λ d. p ∷ d) P) R)))))
