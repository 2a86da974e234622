use Rattle.std.proofs.Common.{rules, ◌≡◌, ◌+◌, ◌++◌, ◌∷◌, [], map, take, length, sym, ap, ◌∙◌, subst, arith}
use Rattle.std.specs.Prelude.{filter}
use Rattle.std.proofs.lemmas.List.{take_all}
use Rattle.mig_schema.specs.declared.programs.Joined.{Joined}
use Rattle.mig_meaning.specs.Conditions.{cases_true}
use Rattle.mig_meaning.specs.Lists.{Each}
use Rattle.mig_meaning.specs.Rows.{JoinRow}
use Rattle.mig_meaning.specs.Told.{given_told}
use Rattle.mig_calls.specs.Fits.{AllJoinedFit, ChoiceFits}
use Rattle.mig_calls.specs.Joining.{grown_all}
use Rattle.mig_calls.proofs.DeepLemmas.{none-met, more-met, next-tables, tables-left}
use Rattle.mig_calls.proofs.meeting.+put_met.Goals as goal

pub loop-choice-init : goal.loop-choice-init
loop-choice-init g t c = record {
  later = search rules;
  whole = search rules;
  keeps = search rules;
  rows = λ s e. none-met s c.args.earlier.now (c.in-Some.joined.now ∷ c.in-Some.more.now) (λ (x : JoinRow). cases_true (given_told c.args.given.now) c.args.tables.now x c.args.cases.now) c.args.all.now.items;
}

pub put_met-requires : goal.put_met-requires
put_met-requires g t c κs within =
    let m = c.in-Some.joined.now in
    let more = c.in-Some.more.now in
    let earlier = c.args.earlier.now in
    let layout = (g.S.Store.meaning c.args.store.now).layout in
    let split : c.args.left.now ≡ c.in-Some.joined.now ∷ c.in-Some.more.now = search rules in
    let tables : c.args.tables.now ≡ c.args.earlier.now ++ map (λ (n : Joined). n.table) (c.in-Some.joined.now ∷ c.in-Some.more.now) = c.requires.tables ∙ ap (λ ms. earlier ++ map (λ (n : Joined). n.table) ms) split in
    let next : take (length c.args.earlier.now + 1) c.args.tables.now ≡ c.args.earlier.now ++ c.in-Some.joined.now.table ∷ [] = next-tables c.args.tables.now earlier m more tables in
    let same : (g.S.Store.meaning c.grown.new.store).layout ≡ (g.S.Store.meaning c.args.store.now).layout = c.in_ok-longer-in-Some.ensures.keeps.layout ∙ c.loop-choice.invariant.keeps.layout in
    let left : AllJoinedFit (g.S.Store.meaning c.args.store.now).layout (c.args.earlier.now ++ c.in-Some.joined.now.table ∷ []) c.in-Some.more.now = (subst (AllJoinedFit layout earlier) split c.requires.left).1 in
    let fit : Each (ChoiceFits (g.S.Store.meaning c.args.store.now).layout (c.args.earlier.now ++ c.in-Some.joined.now.table ∷ [])) c.in_ok-longer-in-Some.longer.items = rw c.loop-choice.invariant.keeps.layout at c.in_ok-longer-in-Some.ensures.fit in
    (omega (arith, ap length split), (within, (tables-left c.args.tables.now earlier m more tables, (rw (same, next) left, (rw (same, next) fit, search rules)))))

pub loop-choice-preserved : goal.loop-choice-preserved
loop-choice-preserved g t c =
    let m = c.in-Some.joined.now in
    let more = c.in-Some.more.now in
    let earlier = c.args.earlier.now in
    let split : c.args.left.now ≡ c.in-Some.joined.now ∷ c.in-Some.more.now = search rules in
    let tables : c.args.tables.now ≡ c.args.earlier.now ++ map (λ (n : Joined). n.table) (c.in-Some.joined.now ∷ c.in-Some.more.now) = c.requires.tables ∙ ap (λ ms. earlier ++ map (λ (n : Joined). n.table) ms) split in
    let next : take (length c.args.earlier.now + 1) c.args.tables.now ≡ c.args.earlier.now ++ c.in-Some.joined.now.table ∷ [] = next-tables c.args.tables.now earlier m more tables in
    record {
      later = search rules;
      whole = search rules;
      keeps = search rules;
      rows = λ s e.
          let test = λ (x : JoinRow). cases_true (given_told c.args.given.now) c.args.tables.now x c.args.cases.now in
          let told = c.loop-choice.invariant.keeps.told ∙ e in
          let found = c.in_ok-longer-in-Some.ensures.rows s told in
          let got = c.in_ok-put_met-in-Some.ensures.rows s (c.in_ok-longer-in-Some.ensures.keeps.told ∙ told) in
          more-met s earlier m more test c.as_slice-choice-items.result.now c.loop-choice.choice-index c.choice-item.result c.args.all.now.items c.loop-choice.all.items c.put_met.new.all.items c.loop-choice-test.true c.choice-item.is (c.loop-choice.invariant.rows s e)
          (got
          ∙ (ap (λ ts. c.loop-choice.all.items ++ filter test (grown_all s ts more c.in_ok-longer-in-Some.longer.items)) next
          ∙ ap (λ cs. c.loop-choice.all.items ++ filter test (grown_all s (earlier ++ m.table ∷ []) more cs)) found));
    }

pub returns-after-loop-choice-clause-rows : goal.returns-after-loop-choice-clause-rows
returns-after-loop-choice-clause-rows g t c = λ s e.
    let test = λ (x : JoinRow). cases_true (given_told c.args.given.now) c.args.tables.now x c.args.cases.now in
    let split : c.args.left.now ≡ c.in-Some.joined.now ∷ c.in-Some.more.now = search rules in
    let all = take_all c.loop-choice.choice-index c.as_slice-choice-items.result.now c.loop-choice-test.false ∙ c.as_slice-choice-items.ensures.value in
    c.loop-choice.invariant.rows s e
    ∙ (ap (λ cs. c.args.all.now.items ++ filter test (grown_all s c.args.earlier.now (c.in-Some.joined.now ∷ c.in-Some.more.now) cs)) all
    ∙ ap (λ ms. c.args.all.now.items ++ filter test (grown_all s c.args.earlier.now ms c.args.choices.items)) (sym split))
