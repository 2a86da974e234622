-- What a reader has read begins some text.
use Rattle.std.proofs.Common.{◌≡◌, ◌⊎◌, inl, inr, ℕ, zero, suc, ◌+◌, ◌-◌, ◌<◌, ◌≤◌, ◌^◌, Bool, true, false, ◌||◌, List, [], ◌∷◌, ◌++◌, length, map, Option, Some, None, refl, sym, ap, ◌∙◌, subst, append_assoc, length-append, arith}
use Rattle.std.specs.List.{list_all, flat_map}
use Rattle.std.specs.Cmp.Derive.{both_true}
use Rattle.std.proofs.lemmas.Bool.{eq-eqb, le-leb}
use Rattle.std.proofs.lemmas.List.{append-nil, map-append}
use Rattle.std.proofs.lemmas.Grind.{flat_map-append}
use Rattle.std.proofs.lemmas.List.Folds.{list_all-append}
use Rattle.mig_dimacs.specs.declared.token.Number.{Number as Signed}
use Rattle.mig_dimacs.specs.declared.token.Token.{Token}
use Rattle.mig_dimacs.specs.declared.token.Token.TheVariants.{Problem, Weighted, Number, End}
use Rattle.mig_dimacs.specs.declared.text.Head.{Head}
use Rattle.mig_dimacs.specs.declared.text.Text.{Text}
use Rattle.mig_dimacs.specs.declared.place.Place.{Place}
use Rattle.mig_dimacs.specs.declared.place.Place.TheVariants as at
use Rattle.mig_dimacs.specs.Texts.{plain, top_tokens, clause_tokens, text_tokens, is_clause, is_clause_of, is_top, clause_weight, soft_sum, IsWhole, IsFront}
use Rattle.mig_dimacs.proofs.Ending.{CanEnd}
use Rattle.mig_dimacs.proofs.Softs.{hard_weight, sum_next}
use Rattle.std.proofs.lemmas.List.Sums.{sum_by-append}
use Rattle.mig_dimacs.proofs.Sounding.{IsGood, IsBegun, spelled, kind_word}

-- a top of 1, where clauses have weights
abbrev top_for : Bool → Option ℕ
top_for false = None
top_for true = Some 1

-- the shortest clause
abbrev filler : Option ℕ → List Signed
filler None = []
filler (Some t) = record { negative = false; size = t } ∷ []

-- so many of one clause
abbrev fill : ℕ → List Signed → List (List Signed)
fill zero f = []
fill (suc k) f = f ∷ fill k f

length-fill : (k : ℕ) (f : List Signed) → length (fill k f) ≡ k
length-fill zero f = refl
length-fill (suc k) f = omega (arith, length-fill k f)

all-fill : (h : Head) (k : ℕ) (f : List Signed) → is_clause h f ≡ true → list_all (is_clause h) (fill k f) ≡ true
all-fill h zero f is = refl
all-fill h (suc k) f is = both_true is (all-fill h k f is)

fills : (top : Option ℕ) (vars : ℕ) → is_top top ≡ true → is_clause_of top vars (filler top) ≡ true
fills None vars is = refl
fills (Some t) vars is = both_true (both_true is (le-leb t t (omega arith))) (ap (λ b. b || false) (eq-eqb t t refl))

-- the shortest clause costs nothing
filler_free : (top : Option ℕ) → clause_weight top (filler top) ≡ 0
filler_free None = refl
filler_free (Some t) = hard_weight t (record { negative = false; size = t }) refl

fill_free : (top : Option ℕ) (k : ℕ) → soft_sum top (fill k (filler top)) ≡ 0
fill_free top zero = refl
fill_free top (suc k) = let here = filler_free top in let next = sum_next top (filler top) (fill k (filler top)) in let rest = fill_free top k in omega (arith, here, next, rest)

-- a text of so many shortest clauses
abbrev text_for : Bool → ℕ → ℕ → Text
text_for w v k = record { head = record { vars = v; top = top_for w; count = k }; clauses = fill k (filler (top_for w)) }

whole_for : (w : Bool) (v k : ℕ) → v < 2 ^ 32 → IsWhole w (text_for w v k)
whole_for false v k lt = record { kind = refl; vars = lt; top = refl; count = length-fill k []; clauses = all-fill (record { vars = v; top = None; count = k }) k [] refl; soft = let e = fill_free None k in omega (arith, e) }
whole_for true v k lt = record { kind = refl; vars = lt; top = refl; count = length-fill k (filler (Some 1)); clauses = all-fill (record { vars = v; top = Some 1; count = k }) k (filler (Some 1)) (fills (Some 1) v refl); soft = let e = fill_free (Some 1) k in omega (arith, e) }

-- ---- in the header

front_start : (w : Bool) → IsFront w []
front_start w = (text_for w 0 0, text_tokens (text_for w 0 0), whole_for w 0 0 (omega arith), refl)

front_problem : (w : Bool) → IsFront w (Problem ∷ [])
front_problem false = (text_for false 0 0, _, whole_for false 0 0 (omega arith), refl)
front_problem true = (text_for true 0 0, _, whole_for true 0 0 (omega arith), refl)

front_kind : (w : Bool) → IsFront w (Problem ∷ kind_word w ∷ [])
front_kind false = (text_for false 0 0, _, whole_for false 0 0 (omega arith), refl)
front_kind true = (text_for true 0 0, _, whole_for true 0 0 (omega arith), refl)

front_vars : (w : Bool) (v : ℕ) → v < 2 ^ 32 → IsFront w (Problem ∷ kind_word w ∷ plain v ∷ [])
front_vars false v lt = (text_for false v 0, _, whole_for false v 0 lt, refl)
front_vars true v lt = (text_for true v 0, _, whole_for true v 0 lt, refl)

front_count : (v k : ℕ) → v < 2 ^ 32 → IsFront true (Problem ∷ Weighted ∷ plain v ∷ plain k ∷ [])
front_count v k lt = (text_for true v k, _, whole_for true v k lt, refl)

-- ---- behind it

with_more : (w : Bool) (h : Head) (cs ds : List (List Signed)) (c : List Signed) (s : ℕ) → IsBegun w h cs c s → length cs + length ds ≡ h.count → list_all (is_clause h) ds ≡ true → soft_sum h.top ds ≤ clause_weight h.top c → IsWhole w (record { head = h; clauses = cs ++ ds })
with_more w h cs ds c s g count is no_more = record {
  kind = g.kind;
  vars = g.vars;
  top = g.top;
  count = length-append cs ds ∙ count;
  clauses = list_all-append (is_clause h) cs ds ∙ both_true g.clauses is;
  soft = let all = sum_by-append (clause_weight h.top) cs ds in let was = g.soft in let light = g.light in omega (arith, all, was, light, no_more);
}

-- tokens of more clauses that begin with those of a begun one
goes_behind : (front behind : List Token) (cs ds : List (List Signed)) (m more : List Token) → flat_map clause_tokens ds ++ behind ≡ m ++ more
    → front ++ (flat_map clause_tokens (cs ++ ds) ++ behind) ≡ (front ++ (flat_map clause_tokens cs ++ m)) ++ more
goes_behind front behind cs ds m more e =
    ap (λ (f : List Token). front ++ f) (ap (λ (f : List Token). f ++ behind) (flat_map-append clause_tokens cs ds) ∙ append_assoc (flat_map clause_tokens cs) (flat_map clause_tokens ds) behind ∙ ap (λ (f : List Token). flat_map clause_tokens cs ++ f) e ∙ sym (append_assoc (flat_map clause_tokens cs) m more))
    ∙ sym (append_assoc front (flat_map clause_tokens cs ++ m) more)

front_between : (w : Bool) (h : Head) (cs : List (List Signed)) (c : List Signed) (s : ℕ) → IsBegun w h cs c s → c ≡ [] → IsFront w (spelled (at.Clauses h) cs c)
front_between w h cs c s g nil = (
  record { head = h; clauses = cs ++ fill (h.count - length cs) (filler h.top) },
  flat_map clause_tokens (fill (h.count - length cs) (filler h.top)) ++ End ∷ [],
  with_more w h cs (fill (h.count - length cs) (filler h.top)) c s g (omega (arith, g.count, length-fill (h.count - length cs) (filler h.top))) (all-fill h (h.count - length cs) (filler h.top) (fills h.top h.vars g.top)) (let e = fill_free h.top (h.count - length cs) in omega (arith, e)),
  goes_behind (top_tokens h.top h.vars h.count) (End ∷ []) cs (fill (h.count - length cs) (filler h.top)) (map Number c) (flat_map clause_tokens (fill (h.count - length cs) (filler h.top)) ++ End ∷ [])
      (ap (λ (k : List Signed). map Number k ++ (flat_map clause_tokens (fill (h.count - length cs) (filler h.top)) ++ End ∷ [])) (sym nil)),
)

clause_goes_on : (c rest : List Signed) (ds : List (List Signed)) (behind : List Token)
    → flat_map clause_tokens ((c ++ rest) ∷ ds) ++ behind ≡ map Number c ++ (map Number rest ++ (plain 0 ∷ (flat_map clause_tokens ds ++ behind)))
clause_goes_on c rest ds behind =
    append_assoc (clause_tokens (c ++ rest)) (flat_map clause_tokens ds) behind
    ∙ append_assoc (map Number (c ++ rest)) (plain 0 ∷ []) (flat_map clause_tokens ds ++ behind)
    ∙ ap (λ (f : List Token). f ++ (plain 0 ∷ (flat_map clause_tokens ds ++ behind))) (map-append Number c rest)
    ∙ append_assoc (map Number c) (map Number rest) (plain 0 ∷ (flat_map clause_tokens ds ++ behind))

front_within : (w : Bool) (h : Head) (cs : List (List Signed)) (c : List Signed) (s : ℕ) → IsBegun w h cs c s → length cs < h.count → (rest : List Signed) → is_clause h (c ++ rest) ≡ true → clause_weight h.top (c ++ rest) ≡ clause_weight h.top c → IsFront w (spelled (at.Clauses h) cs c)
front_within w h cs c s g lt rest is same = (
  record { head = h; clauses = cs ++ (c ++ rest) ∷ fill (h.count - length cs - 1) (filler h.top) },
  map Number rest ++ (plain 0 ∷ (flat_map clause_tokens (fill (h.count - length cs - 1) (filler h.top)) ++ End ∷ [])),
  with_more w h cs ((c ++ rest) ∷ fill (h.count - length cs - 1) (filler h.top)) c s g (omega (arith, lt, length-fill (h.count - length cs - 1) (filler h.top))) (both_true is (all-fill h (h.count - length cs - 1) (filler h.top) (fills h.top h.vars g.top)))
      (let here = sum_next h.top (c ++ rest) (fill (h.count - length cs - 1) (filler h.top)) in let rest = fill_free h.top (h.count - length cs - 1) in omega (arith, here, rest, same)),
  goes_behind (top_tokens h.top h.vars h.count) (End ∷ []) cs ((c ++ rest) ∷ fill (h.count - length cs - 1) (filler h.top)) (map Number c) (map Number rest ++ (plain 0 ∷ (flat_map clause_tokens (fill (h.count - length cs - 1) (filler h.top)) ++ End ∷ [])))
      (clause_goes_on c rest (fill (h.count - length cs - 1) (filler h.top)) (End ∷ [])),
)

front_clauses : (w : Bool) (h : Head) (cs : List (List Signed)) (c : List Signed) (s : ℕ) → IsBegun w h cs c s → CanEnd h.top h.vars c → (c ≡ []) ⊎ (length cs < h.count) → IsFront w (spelled (at.Clauses h) cs c)
front_clauses w h cs [] s g ends room = front_between w h cs [] s g refl
front_clauses w h cs (n ∷ ns) s g (inl nil) room = front_between w h cs (n ∷ ns) s g nil
front_clauses w h cs (n ∷ ns) s g (inr e) (inl nil) = front_between w h cs (n ∷ ns) s g nil
front_clauses w h cs (n ∷ ns) s g (inr e) (inr lt) = front_within w h cs (n ∷ ns) s g lt e.0 e.1 refl

-- whatever was read begins some text
pub begins_one : (w : Bool) (p : Place) (cs : List (List Signed)) (c : List Signed) (s : ℕ) → IsGood w p cs c s → IsFront w (spelled p cs c)
begins_one w (at.Start v) cs c s g = front_start w
begins_one w (at.Problem v) cs c s g = front_problem w
begins_one w (at.Kind v) cs c s g = subst (λ (u : Bool). IsFront w (Problem ∷ kind_word u ∷ [])) (sym g.kind) (front_kind w)
begins_one w (at.Vars v n) cs c s g = subst (λ (u : Bool). IsFront w (Problem ∷ kind_word u ∷ plain n ∷ [])) (sym g.0.kind) (front_vars w n g.1)
begins_one w (at.Count n k) cs c s g = subst (λ (u : Bool). IsFront u (Problem ∷ Weighted ∷ plain n ∷ plain k ∷ [])) g.0.kind (front_count n k g.1)
begins_one w (at.Clauses h) cs c s g = front_clauses w h cs c s g g.part g.room
begins_one w (at.Ended h) cs c s g = (record { head = h; clauses = cs }, [], g, sym (append-nil (spelled (at.Ended h) cs c)))
