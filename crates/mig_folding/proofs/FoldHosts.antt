-- Folding named variables of a host by a view that holds keeps the host's sum: so of a term, and of a body where it stands.
use Rattle.std.proofs.Common.{◌≡◌, ℕ, ◌+◌, Bool, true, false, cond, ◌&&◌, List, [], ◌∷◌, ◌++◌, map, length, Some, None, refl, sym, ap, ap₂, ◌∙◌, inl, inr, ◌⊎◌, subst, subst₂, append_assoc, length-append}
use Rattle.std.specs.Prelude.{filter}
use Rattle.std.specs.List.{list_all}
use Rattle.std.proofs.lemmas.Bool.{cases_Bool, and_parts, or_parts}
use Rattle.std.proofs.lemmas.List.{length-map}
use Rattle.mig_schema.specs.declared.values.Value.{Value}
use Rattle.mig_schema.specs.declared.faults.Side.{Side}
use Rattle.mig_schema.specs.declared.faults.Side.TheVariants.{Old, New}
use Rattle.mig_schema.specs.declared.programs.Joined.{Joined}
use Rattle.mig_schema.specs.Joins.{tables_of, is_among}
use Rattle.mig_schema.specs.Typed.{stands_twice}
use Rattle.mig_meaning.specs.declared.states.State.{State}
use Rattle.mig_meaning.specs.declared.relating.View.{View}
use Rattle.mig_meaning.specs.Lists.{In, Each, AllDifferent}
use Rattle.mig_meaning.specs.Rows.{column_in, meets}
use Rattle.mig_meaning.specs.Bags.{SameBag}
use Rattle.mig_meaning.specs.Holds.{outputs}
use Rattle.mig_algebra.specs.declared.atoms.Var.{Var}
use Rattle.mig_algebra.specs.declared.literals.Inner.{Inner}
use Rattle.mig_algebra.specs.declared.literals.Lit.{Lit}
use Rattle.mig_algebra.specs.declared.literals.Lit.TheVariants.{Any}
use Rattle.mig_algebra.specs.declared.terms.Term.{Term}
use Rattle.mig_algebra.specs.Meaning.{Setting, Env, lits_true, head_of}
use Rattle.mig_algebra.specs.Obligations.{var_of, join_lits}
use Rattle.mig_algebra.specs.Rename.{lit_with, renumbered}
use Rattle.mig_algebra.specs.Shown.{Shows}
use Rattle.mig_algebra.specs.Tidied.{slots, numbers_of, vars_of}
use Rattle.mig_algebra.proofs.Sums.{when, when_given}
use Rattle.mig_algebra.proofs.Truth.{Reads, lits-append, lits_with-true, head-reads}
use Rattle.mig_algebra.proofs.Weights.{weight}
use Rattle.mig_algebra.proofs.Hosts.{host_sum}
use Rattle.mig_algebra.proofs.Slots.{Apart}
use Rattle.mig_algebra.proofs.Obliged.{join_choices}
use Rattle.mig_algebra.proofs.Folded.{Joins, outputs_of, host_at}
use Rattle.mig_algebra.proofs.FoldedNamed.{named_at, host-fold_named}
use Rattle.mig_replacing.specs.Places.{Place, place_at}
use Rattle.mig_replacing.specs.Replaced.{SameAmong, replaced, spread}
use Rattle.mig_replacing.specs.Given.{plain, plain_around, IsSound}
use Rattle.mig_replacing.proofs.Around.{plain-true, around-further}
use Rattle.mig_replacing.proofs.Reached.{choice-length}
use Rattle.mig_replacing.proofs.Replacing.{same-among}
use Rattle.mig_replacing.proofs.Hosted.{body-hosted}
use Rattle.mig_folding.specs.Folding.{Numbered, Fold, moved, first_added, are_named, join_given, outer_lits, lits_fold, host_folds, atom_folds, id_folds, folded_atom, folded_vars, folded_lits, term_fold, folded, fold_of, body_fold, foldin_of}
use Rattle.mig_folding.proofs.Picked.{zipped, zipped-numbers, zipped-vars, zipped-in, zipped-apart, different}
use Rattle.mig_folding.proofs.FoldRows.{fold_at, others, own_rows}
use Rattle.mig_folding.proofs.FoldReads.{all_rows, outer-true, named-meet, fold-reads, joined-true}

-- ---- sides of a view

-- what is asked of a view: no table stands twice in the old join, whose equalities name its tables; the new outputs are of the new join's tables
pub record MayFold (source target : View) : Type 0 where
  pub once : stands_twice (tables_of source.join) ≡ false
  pub joined : list_all (λ (m : Joined). is_among m.left.table (tables_of source.join) && is_among m.right.table (tables_of source.join)) source.join.more ≡ true
  pub outs : list_all (λ o. is_among o.table (tables_of target.join)) target.outs ≡ true

-- a side of a view, before the call
abbrev pub side_of : Side → View → Joins
side_of side v = record {
  vars = map (var_of side 0) (tables_of v.join);
  joins = meets (tables_of v.join) v.join.more;
  outs = λ e. map (column_in (tables_of v.join) e) v.outs;
}

-- its outputs
pub side-outputs : (s : Setting) (side : Side) (st : State) → Shows s side 0 st → (v : View) → outputs_of s (side_of side v) ≡ outputs v st
side-outputs s side st sh v =
    ap (λ cs. map (λ e. map (column_in (tables_of v.join) e) v.outs) (filter (meets (tables_of v.join) v.join.more) cs)) (join_choices s side 0 st sh (tables_of v.join))

once-each : (ts : List ℕ) → stands_twice ts ≡ false → AllDifferent ts
once-each [] h = tt
once-each (t ∷ ts) h = let o = or_parts (is_among t ts) (stands_twice ts) h in (o.0, once-each ts o.1)

-- ---- hosts

-- a host's sum stays, whatever it counts that reads alike
abbrev pub Stays : Setting → Env → (k k' : Env → ℕ) → List Var → (scope : List Var) → (known lits : List Lit) → (source target : View) → List ℕ → Type 0
Stays s e k k' vars scope known lits source target xs =
    join_given (record { base = length e; vars = vars; named = xs; source = source; target = target }) scope known ≡ true
    → lits_fold (record { base = length e; vars = vars; named = xs; source = source; target = target }) lits ≡ true
    → ((E E' : Env) → Reads s E E' (atom_folds (record { base = length e; vars = vars; named = xs; source = source; target = target })) (id_folds (record { base = length e; vars = vars; named = xs; source = source; target = target })) (folded_atom (record { base = length e; vars = vars; named = xs; source = source; target = target })) (moved (record { base = length e; vars = vars; named = xs; source = source; target = target })) → k E ≡ k' E')
    → host_sum s e k vars lits ≡ host_sum s e k' (folded_vars (record { base = length e; vars = vars; named = xs; source = source; target = target })) (folded_lits (record { base = length e; vars = vars; named = xs; source = source; target = target }) lits)

module _ (s : Setting) (e : Env) (k k' : Env → ℕ) (vars scope : List Var) (known lits : List Lit) (source target : View) (bags : SameBag (outputs_of s (side_of Old source)) (outputs_of s (side_of New target))) (may : MayFold source target) (truth : (c : Env) → lits_true s (e ++ c) lits ≡ true → lits_true s (e ++ c) known ≡ true) where
  once : AllDifferent (tables_of source.join)
  once = once-each (tables_of source.join) may.once

  module _ (named : List Numbered) (within : Each (λ q. In q (slots (length e) vars)) named) (vs : vars_of named ≡ map (var_of Old 0) (tables_of source.join)) (apart : AllDifferent (numbers_of named)) (slots-apart : Apart named) where
    abbrev f : Fold
    f = fold_at e vars named source target

    abbrev rows : Env → Env → Env
    rows c x = all_rows s e vars named source target within vs once c x

    abbrev added : List Lit
    added = map (lit_with (renumbered (λ n. first_added f + n)) (λ n. first_added f + n)) (join_lits (tables_of target.join) target.join.more)

    stay-length : (c : Env) → length c ≡ length (vars_of (others e vars named source target)) → length c ≡ length (others e vars named source target)
    stay-length c l = l ∙ length-map (others e vars named source target) (λ p. p.var)

    added-true : (c y : Env) → length c ≡ length (others e vars named source target) → lits_true s (e ++ (c ++ y)) added ≡ meets (tables_of target.join) target.join.more y
    added-true c y lc =
        ap (λ r. lits_true s r added) (sym (append_assoc e c y))
        ∙ joined-true s (e ++ c) y (first_added f) (tables_of target.join) target.join.more (length-append e c ∙ ap (λ n. length e + n) lc)

    and-true : (b : Bool) → b ≡ (b && true)
    and-true true = refl
    and-true false = refl

    core : Stays s e k k' vars scope known lits source target (numbers_of named)
    core given folds ks = host-fold_named s e vars named (side_of Old source) (side_of New target) k k' lits (folded_lits f lits) within slots-apart vs bags (record {
      given = λ c x lc lx. when_given (meets (tables_of source.join) source.join.more x) (lits_true s (rows c x) lits) (k (rows c x)) (λ t. named-meet s e vars named source target within vs once apart c x scope known (stay-length c lc) (truth (own_rows e vars named source target c x) t) given may.joined);
      given' = λ c y lc ly. when_given (meets (tables_of target.join) target.join.more y) (lits_true s (e ++ (c ++ y)) (folded_lits f lits)) (k' (e ++ (c ++ y))) (λ t. new-meet c y (stay-length c lc) t);
      same = λ c x y lc lx ly jx jy o. same c x y (stay-length c lc) (ly ∙ length-map (tables_of target.join) (var_of New 0)) jx jy o;
    })
      where
        new-meet : (c y : Env) → length c ≡ length (others e vars named source target) → lits_true s (e ++ (c ++ y)) (folded_lits f lits) ≡ true → meets (tables_of target.join) target.join.more y ≡ true
        new-meet c y lc t =
            sym (added-true c y lc)
            ∙ (and_parts (lits_true s (e ++ (c ++ y)) (map (lit_with (folded_atom f) (moved f)) (outer_lits f lits))) (lits_true s (e ++ (c ++ y)) added) (sym (lits-append s (e ++ (c ++ y)) (map (lit_with (folded_atom f) (moved f)) (outer_lits f lits)) added) ∙ t)).1

        same : (c x y : Env) → length c ≡ length (others e vars named source target) → length y ≡ length (tables_of target.join) → meets (tables_of source.join) source.join.more x ≡ true → meets (tables_of target.join) target.join.more y ≡ true → map (column_in (tables_of source.join) x) source.outs ≡ map (column_in (tables_of target.join) y) target.outs → named_at s e k vars named lits c x ≡ host_at s e k' (folded_lits f lits) c y
        same c x y lc ly jx jy o =
            let r = fold-reads s e vars named source target within vs once c x y lc ly jx o may.outs in
            ap₂ (λ b n. when b n)
            (sym (outer-true s e vars named source target within vs once c x lc jx lits)
            ∙ lits_with-true s (atom_folds f) (id_folds f) (folded_atom f) (moved f) _ _ r (outer_lits f lits) folds
            ∙ and-true (lits_true s (e ++ (c ++ y)) (map (lit_with (folded_atom f) (moved f)) (outer_lits f lits)))
            ∙ ap (λ b. lits_true s (e ++ (c ++ y)) (map (lit_with (folded_atom f) (moved f)) (outer_lits f lits)) && b) (sym (added-true c y lc ∙ jy))
            ∙ sym (lits-append s (e ++ (c ++ y)) (map (lit_with (folded_atom f) (moved f)) (outer_lits f lits)) added))
            (ks _ _ r)

  -- a host whose named variables fold
  pub host-folded : (xs : List ℕ) → are_named (length e) vars xs (tables_of source.join) ≡ true → Stays s e k k' vars scope known lits source target xs
  host-folded xs h =
      let ts = tables_of source.join in
      let n = zipped-numbers (length e) vars xs ts h in
      let d = different (length e) vars xs ts h in
      subst (Stays s e k k' vars scope known lits source target) n
      (core (zipped xs ts) (zipped-in (length e) vars xs ts h) (zipped-vars (length e) vars xs ts h) (subst AllDifferent (sym n) d) (zipped-apart xs ts d))

-- ---- terms

module _ (s : Setting) (old new : State) (source target : View) (xs : List ℕ) (so : Shows s Old 0 old) (sn : Shows s New 0 new) (fact : SameBag (outputs source old) (outputs target new)) (may : MayFold source target) where
  bags : SameBag (outputs_of s (side_of Old source)) (outputs_of s (side_of New target))
  bags = subst₂ SameBag (sym (side-outputs s Old old so source)) (sym (side-outputs s New new sn target)) fact

  folded-weight : (t : Term) (w : List Value → ℕ) → (host_folds (term_fold source target xs t) t.vars (plain t.lits) t.lits && list_all (atom_folds (term_fold source target xs t)) t.head) ≡ true → weight s w (folded (term_fold source target xs t) t) ≡ weight s w t
  folded-weight t w h =
      let f = term_fold source target xs t in
      let a = and_parts (host_folds f t.vars (plain t.lits) t.lits) (list_all (atom_folds f) t.head) h in
      let b = and_parts (are_named 0 t.vars xs (tables_of source.join)) (join_given f t.vars (plain t.lits) && lits_fold f t.lits) a.0 in
      let d = and_parts (join_given f t.vars (plain t.lits)) (lits_fold f t.lits) b.1 in
      sym (host-folded s [] (λ c. w (head_of s t.head c)) (λ c. w (head_of s (map (folded_atom f) t.head) c)) t.vars t.vars (plain t.lits) t.lits source target bags may (λ c u. plain-true s c t.lits u) xs b.0 d.0 d.1
      (λ E E' r. ap w (head-reads s (atom_folds f) (id_folds f) (folded_atom f) (moved f) E E' r t.head a.1)))

  pub fold-same : (t u : Term) → fold_of source target xs t ≡ Some u → SameAmong s (t ∷ []) (u ∷ [])
  fold-same t u h = go (cases_Bool (host_folds (term_fold source target xs t) t.vars (plain t.lits) t.lits && list_all (atom_folds (term_fold source target xs t)) t.head))
    where
      go : ((host_folds (term_fold source target xs t) t.vars (plain t.lits) t.lits && list_all (atom_folds (term_fold source target xs t)) t.head) ≡ true) ⊎ ((host_folds (term_fold source target xs t) t.vars (plain t.lits) t.lits && list_all (atom_folds (term_fold source target xs t)) t.head) ≡ false) → SameAmong s (t ∷ []) (u ∷ [])
      go (inr n) = let bad : None ≡ Some u = sym (ap (λ b. cond b (Some (folded (term_fold source target xs t) t)) None) n) ∙ h in cc
      go (inl y) =
          let made : Some (folded (term_fold source target xs t) t) ≡ Some u = sym (ap (λ b. cond b (Some (folded (term_fold source target xs t) t)) None) y) ∙ h in
          let is : folded (term_fold source target xs t) t ≡ u = cc in
          same-among s (t ∷ []) (u ∷ []) (λ w. ap (λ n. n + 0) (ap (weight s w) (sym is) ∙ folded-weight t w y))

  -- ---- bodies

  body-stays : (e : Env) (scope : List Var) (context : List Lit) (b : Inner) → length e ≡ length scope → ((c : Env) → lits_true s (e ++ c) context ≡ true) → host_folds (body_fold source target xs scope b) (scope ++ b.vars) (context ++ plain b.lits) b.lits ≡ true → host_sum s e (λ _. 1) (folded_vars (body_fold source target xs scope b)) (folded_lits (body_fold source target xs scope b) b.lits) ≡ host_sum s e (λ _. 1) b.vars b.lits
  body-stays e scope context b le around h =
      let here : host_folds (record { base = length e; vars = b.vars; named = xs; source = source; target = target }) (scope ++ b.vars) (context ++ plain b.lits) b.lits ≡ true = ap (λ n. host_folds (record { base = n; vars = b.vars; named = xs; source = source; target = target }) (scope ++ b.vars) (context ++ plain b.lits) b.lits) le ∙ h in
      let k = and_parts (are_named (length e) b.vars xs (tables_of source.join)) (join_given (record { base = length e; vars = b.vars; named = xs; source = source; target = target }) (scope ++ b.vars) (context ++ plain b.lits) && lits_fold (record { base = length e; vars = b.vars; named = xs; source = source; target = target }) b.lits) here in
      let d = and_parts (join_given (record { base = length e; vars = b.vars; named = xs; source = source; target = target }) (scope ++ b.vars) (context ++ plain b.lits)) (lits_fold (record { base = length e; vars = b.vars; named = xs; source = source; target = target }) b.lits) k.1 in
      ap (λ n. host_sum s e (λ _. 1) (folded_vars (record { base = n; vars = b.vars; named = xs; source = source; target = target })) (folded_lits (record { base = n; vars = b.vars; named = xs; source = source; target = target }) b.lits)) (sym le)
      ∙ sym (host-folded s e (λ _. 1) (λ _. 1) b.vars (scope ++ b.vars) (context ++ plain b.lits) b.lits source target bags may
      (λ c u. lits-append s (e ++ c) context (plain b.lits) ∙ ap₂ (λ x y. x && y) (around c) (plain-true s (e ++ c) b.lits u))
      xs k.0 d.0 d.1 (λ E E' r. refl))

  pub foldin-same : (t : Term) (path : List ℕ) (p : Place) (held : Bool) (b c : Inner) → IsSound s t → place_at t path ≡ Some p → p.lit ≡ Any held b → foldin_of source target xs p.scope (plain_around p) b ≡ Some c → SameAmong s (t ∷ []) (replaced t path (spread held (c ∷ [])))
  foldin-same t path p held b c sound is its h = go (cases_Bool (host_folds (body_fold source target xs p.scope b) (p.scope ++ b.vars) (plain_around p ++ plain b.lits) b.lits))
    where
      made : Inner
      made = record { vars = folded_vars (body_fold source target xs p.scope b); lits = folded_lits (body_fold source target xs p.scope b) b.lits }

      go : (host_folds (body_fold source target xs p.scope b) (p.scope ++ b.vars) (plain_around p ++ plain b.lits) b.lits ≡ true) ⊎ (host_folds (body_fold source target xs p.scope b) (p.scope ++ b.vars) (plain_around p ++ plain b.lits) b.lits ≡ false) → SameAmong s (t ∷ []) (replaced t path (spread held (c ∷ [])))
      go (inr n) = let bad : None ≡ Some c = sym (ap (λ b. cond b (Some made) None) n) ∙ h in cc
      go (inl y) =
          let one : Some made ≡ Some c = sym (ap (λ b. cond b (Some made) None) y) ∙ h in
          let same : made ≡ c = cc in
          subst (λ (i : Inner). SameAmong s (t ∷ []) (replaced t path (spread held (i ∷ [])))) same
          (body-hosted s t path p held b made is its (λ e r. body-stays e p.scope (plain_around p) b (choice-length s p.scope e r.choice) (λ d. around-further s t path p sound is e d r) y))
