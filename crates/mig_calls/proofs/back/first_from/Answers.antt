use Rattle.std.proofs.Common.{◌≡◌, ◌≢◌, ◌∷◌, ◌-◌, [], true, map, take, get_or, length, sym, ap, ◌∙◌, subst, arith, rules}
use Rattle.std.specs.Prelude.{filter}
use Rattle.mig_schema.specs.declared.programs.Joined.{Joined}
use Rattle.mig_schema.specs.Joins.{is_among}
use Rattle.mig_meaning.specs.declared.states.Placed.{Placed}
use Rattle.mig_meaning.specs.Lists.{Each, In}
use Rattle.mig_meaning.specs.Rows.{rows_of}
use Rattle.mig_storage.specs.Layout.{kind_at, kinds_at, of_kinds}
use Rattle.mig_calls.specs.Fits.{AllJoinedFit, IsColumn}
use Rattle.mig_calls.specs.Leading.{is_met_by}
use Rattle.mig_calls.proofs.LeadLemmas.{among-earlier, among-none, earlier-covers, fits-earlier, fits-last, last-of, no_joined}
use Rattle.mig_meaning.proofs.Lists.{each-by, each-front, each-last}
use Rattle.mig_calls.proofs.back.first_from.Goals as goal

pub loop-left-init : goal.loop-left-init
loop-left-init g c =
    let layout = (g.S.Store.meaning c.args.store.now).layout in
    let join = c.args.join.now in
    record {
      later = search rules;
      whole = search rules;
      keeps = search rules;
      short = search rules;
      part = subst (Each (λ (m : Joined). In m c.args.join.now.more)) (sym c.as_slice-left.ensures) (each-by (λ (m : Joined). In m c.args.join.now.more) join.more (λ m h. h));
      fits = subst (AllJoinedFit layout (join.first ∷ [])) (sym c.as_slice-left.ensures) c.requires.join.more;
      among = ap (λ ms. is_among c.args.table (join.first ∷ map (λ (m : Joined). m.table) ms)) c.as_slice-left.ensures ∙ c.requires.among;
      kinds = c.requires.rows;
      cover = λ h s cases e k. k;
    }

pub offset_bounds-left-left : goal.offset_bounds-left-left
offset_bounds-left-left g c = let short = c.loop-left.invariant.short in omega (arith, short)

pub earlier_rows-requires-clause-left : goal.earlier_rows-requires-clause-left
earlier_rows-requires-clause-left g c =
    let layout = (g.S.Store.meaning c.args.store.now).layout in
    let first = c.args.join.now.first in
    let xs = c.loop-left.left.now in
    let ms = take (length c.loop-left.left.now - 1) c.loop-left.left.now in
    let m = get_or c.loop-left.left.now (length c.loop-left.left.now - 1) no_joined in
    let fits = fits-last layout first ms m (subst (AllJoinedFit layout (first ∷ [])) (sym (last-of no_joined xs c.in-len1-up.len_at_least)) c.loop-left.invariant.fits) in
    subst (λ l. IsColumn l m.left) (sym c.loop-left.invariant.keeps.layout) fits.left

pub earlier_rows-requires-clause-right : goal.earlier_rows-requires-clause-right
earlier_rows-requires-clause-right g c =
    let layout = (g.S.Store.meaning c.args.store.now).layout in
    let first = c.args.join.now.first in
    let xs = c.loop-left.left.now in
    let ms = take (length c.loop-left.left.now - 1) c.loop-left.left.now in
    let m = get_or c.loop-left.left.now (length c.loop-left.left.now - 1) no_joined in
    let fits = fits-last layout first ms m (subst (AllJoinedFit layout (first ∷ [])) (sym (last-of no_joined xs c.in-len1-up.len_at_least)) c.loop-left.invariant.fits) in
    subst (λ l. IsColumn l m.right) (sym c.loop-left.invariant.keeps.layout) fits.right

pub earlier_rows-requires-clause-same : goal.earlier_rows-requires-clause-same
earlier_rows-requires-clause-same g c =
    let layout = (g.S.Store.meaning c.args.store.now).layout in
    let first = c.args.join.now.first in
    let xs = c.loop-left.left.now in
    let ms = take (length c.loop-left.left.now - 1) c.loop-left.left.now in
    let m = get_or c.loop-left.left.now (length c.loop-left.left.now - 1) no_joined in
    let fits = fits-last layout first ms m (subst (AllJoinedFit layout (first ∷ [])) (sym (last-of no_joined xs c.in-len1-up.len_at_least)) c.loop-left.invariant.fits) in
    subst (λ l. kind_at l m.left.table m.left.column ≡ kind_at l m.right.table m.right.column) (sym c.loop-left.invariant.keeps.layout) fits.kinds

pub earlier_rows-requires-clause-rows : goal.earlier_rows-requires-clause-rows
earlier_rows-requires-clause-rows g c =
    let layout = (g.S.Store.meaning c.args.store.now).layout in
    let first = c.args.join.now.first in
    let xs = c.loop-left.left.now in
    let ms = take (length c.loop-left.left.now - 1) c.loop-left.left.now in
    let m = get_or c.loop-left.left.now (length c.loop-left.left.now - 1) no_joined in
    let fits = fits-last layout first ms m (subst (AllJoinedFit layout (first ∷ [])) (sym (last-of no_joined xs c.in-len1-up.len_at_least)) c.loop-left.invariant.fits) in
    let at : (get_or c.loop-left.left.now (length c.loop-left.left.now - 1) no_joined).table ≡ c.loop-left.at = search rules in
    subst (λ l. Each (λ (p : Placed). of_kinds (kinds_at l m.right.table) p.row.values ≡ true) c.as_slice.result.now) (sym c.loop-left.invariant.keeps.layout)
    (subst (λ t. Each (λ (p : Placed). of_kinds (kinds_at layout t) p.row.values ≡ true) c.as_slice.result.now) (sym (fits.own_right ∙ at))
    (subst (Each (λ (p : Placed). of_kinds (kinds_at layout c.loop-left.at) p.row.values ≡ true)) (sym c.as_slice.ensures) c.loop-left.invariant.kinds))

pub loop-left-preserved-in_ok-rows : goal.loop-left-preserved-in_ok-rows
loop-left-preserved-in_ok-rows g c =
    let layout = (g.S.Store.meaning c.args.store.now).layout in
    let join = c.args.join.now in
    let first = join.first in
    let xs = c.loop-left.left.now in
    let ms = take (length c.loop-left.left.now - 1) c.loop-left.left.now in
    let m = get_or c.loop-left.left.now (length c.loop-left.left.now - 1) no_joined in
    let whole = last-of no_joined xs c.in-len1-up.len_at_least in
    let all = subst (AllJoinedFit layout (first ∷ [])) (sym whole) c.loop-left.invariant.fits in
    let part = subst (Each (λ (x : Joined). In x c.args.join.now.more)) (sym whole) c.loop-left.invariant.part in
    let fits = fits-last layout first ms m all in
    let at : (get_or c.loop-left.left.now (length c.loop-left.left.now - 1) no_joined).table ≡ c.loop-left.at = search rules in
    let short = c.loop-left.invariant.short in
    record {
      later = search rules;
      whole = search rules;
      keeps = search rules;
      short = search (arith, rules);
      part = each-front (λ (x : Joined). In x c.args.join.now.more) ms (m ∷ []) part;
      fits = fits-earlier layout (first ∷ []) ms m all;
      among = fits.earlier_left;
      kinds = subst (λ l. Each (λ (p : Placed). of_kinds (kinds_at l m.left.table) p.row.values ≡ true) c.in_ok-rows.rows) c.loop-left.invariant.keeps.layout c.in_ok-rows.ensures.kinds;
      cover = λ h s cases e k.
          earlier-covers h s join cases m c.loop-left.at c.loop-left.rows c.in_ok-rows.rows (each-last (λ (x : Joined). In x c.args.join.now.more) ms m part) fits.own_right at
          (c.in_ok-rows.ensures.found s (c.loop-left.invariant.keeps.told ∙ e) ∙ ap (λ rows. filter (is_met_by m rows) (rows_of s m.left.table)) c.as_slice.ensures) (c.loop-left.invariant.cover h s cases e k);
    }

pub loop-left-preserved : goal.loop-left-preserved
loop-left-preserved g c =
    let layout = (g.S.Store.meaning c.args.store.now).layout in
    let join = c.args.join.now in
    let first = join.first in
    let xs = c.loop-left.left.now in
    let ms = take (length c.loop-left.left.now - 1) c.loop-left.left.now in
    let m = get_or c.loop-left.left.now (length c.loop-left.left.now - 1) no_joined in
    let whole = last-of no_joined xs c.in-len1-up.len_at_least in
    let part = subst (Each (λ (x : Joined). In x c.args.join.now.more)) (sym whole) c.loop-left.invariant.part in
    let away : (get_or c.loop-left.left.now (length c.loop-left.left.now - 1) no_joined).table ≢ c.loop-left.at = search rules in
    let short = c.loop-left.invariant.short in
    record {
      later = search rules;
      whole = search rules;
      keeps = search rules;
      short = search (arith, rules);
      part = each-front (λ (x : Joined). In x c.args.join.now.more) ms (m ∷ []) part;
      fits = fits-earlier layout (first ∷ []) ms m (subst (AllJoinedFit layout (first ∷ [])) (sym whole) c.loop-left.invariant.fits);
      among = among-earlier c.loop-left.at first ms m (ap (λ ys. is_among c.loop-left.at (first ∷ map (λ (x : Joined). x.table) ys)) whole ∙ c.loop-left.invariant.among) away;
      kinds = c.loop-left.invariant.kinds;
      cover = c.loop-left.invariant.cover;
    }

pub returns-clause-kinds : goal.returns-clause-kinds
returns-clause-kinds g c =
    let layout = (g.S.Store.meaning c.args.store.now).layout in
    subst (λ t. Each (λ (p : Placed). of_kinds (kinds_at layout t) p.row.values ≡ true) c.loop-left.rows) (among-none c.loop-left.at c.args.join.now.first c.loop-left.left.now c.in_default.len_below c.loop-left.invariant.among) c.loop-left.invariant.kinds
