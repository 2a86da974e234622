use Rattle.std.proofs.Common.{Bool, ℕ, List, sym, ap, ◌∙◌}
use Rattle.std.specs.Prelude.{Option}
use Rattle.std.specs.List.{list_any}
use Rattle.mig_schema.specs.Columns.{same_col}
use Rattle.mig_schema.specs.declared.tables.ColId.{ColId}
use Rattle.mig_invariant.specs.Columns.{is_key}
use Rattle.mig_sketch.specs.Leading.{scalars_led}
use Rattle.mig_sketch.specs.Values.{class_value}
use Rattle.mig_sketch.proofs.Classes.{at_number, seen_on, none_left, new_leaders, new_few, new_on}
use Rattle.mig_sketch.proofs.values.class_values.Goals as goal

pub loop-column-preserved-then-has_column : goal.loop-column-preserved-then-has_column
loop-column-preserved-then-has_column c =
    let seen = ap (λ (ls : List ColId). list_any (λ l. same_col l c.leader_of-own.result) ls) (sym c.as_slice.ensures.value) ∙ (sym c.has_column.ensures ∙ c.if-has_column.true) in
    record {
      leaders = c.loop-column.invariant.leaders;
      few = c.loop-column.invariant.few;
      values = seen_on c.args.target.now c.args.tree.now c.args.led.now c.args.free.now c.args.s c.args.columns.now c.loop-column.column-index c.loop-column-test.true c.loop-column.values c.loop-column.leaders.items c.leader_of-own.result c.loop-column.invariant.leaders c.leader_of-own.ensures.value c.loop-column.taken seen c.loop-column.invariant.values;
    }

pub returns-in_default : goal.returns-in_default
returns-in_default c =
    let unseen = ap (λ (ls : List ColId). list_any (λ l. same_col l c.leader_of-own.result) ls) (sym c.as_slice.ensures.value) ∙ (sym c.has_column.ensures ∙ c.if-has_column.false) in
    let none =
    ap (λ (b : Bool). class_value b c.new_label-label.result (scalars_led c.leader_of-own.result c.args.led.now)) (sym c.is_key.ensures)
    ∙ (sym c.in_ok-value.ensures ∙ c.in_default.is) in
    sym (none_left c.args.target.now c.args.tree.now c.args.led.now c.args.free.now c.args.s c.args.columns.now c.loop-column.column-index c.loop-column-test.true c.loop-column.values c.loop-column.leaders.items c.leader_of-own.result c.loop-column.invariant.leaders c.leader_of-own.ensures.value c.loop-column.taken unseen
    (ap (λ (o : Option ℕ). class_value (is_key c.args.target.now (at_number c.args.columns.now c.loop-column.column-index)) o (scalars_led c.leader_of-own.result c.args.led.now)) (sym c.new_label-label.ensures) ∙ none)
    c.loop-column.invariant.values)

pub loop-column-preserved : goal.loop-column-preserved
loop-column-preserved c =
    let unseen = ap (λ (ls : List ColId). list_any (λ l. same_col l c.leader_of-own.result) ls) (sym c.as_slice.ensures.value) ∙ (sym c.has_column.ensures ∙ c.if-has_column.false) in
    let some =
    ap (λ (o : Option ℕ). class_value (is_key c.args.target.now (at_number c.args.columns.now c.loop-column.column-index)) o (scalars_led c.leader_of-own.result c.args.led.now)) (sym c.new_label-label.ensures)
    ∙ (ap (λ (b : Bool). class_value b c.new_label-label.result (scalars_led c.leader_of-own.result c.args.led.now)) (sym c.is_key.ensures)
    ∙ (sym c.in_ok-value.ensures ∙ c.in-Some.is)) in
    record {
      leaders = new_leaders c.args.target.now c.args.tree.now c.args.led.now c.args.free.now c.args.s c.args.columns.now c.loop-column.column-index c.loop-column-test.true c.loop-column.values c.loop-column.leaders.items c.leader_of-own.result c.loop-column.invariant.leaders c.leader_of-own.ensures.value c.loop-column.taken c.taken_after-taken.result c.in-Some.value c.push-in-loop-column.new.self unseen some c.in_ok-push-2.ensures.ok c.taken_after-taken.ensures c.push.new.self.items c.in_ok-push.ensures.items;
      few = new_few c.args.target.now c.args.tree.now c.args.led.now c.args.free.now c.args.s c.args.columns.now c.loop-column.column-index c.loop-column-test.true c.loop-column.values c.loop-column.leaders.items c.leader_of-own.result c.loop-column.invariant.leaders c.leader_of-own.ensures.value c.loop-column.taken c.taken_after-taken.result c.in-Some.value c.push-in-loop-column.new.self unseen some c.in_ok-push-2.ensures.ok c.taken_after-taken.ensures c.loop-column.invariant.few;
      values = new_on c.args.target.now c.args.tree.now c.args.led.now c.args.free.now c.args.s c.args.columns.now c.loop-column.column-index c.loop-column-test.true c.loop-column.values c.loop-column.leaders.items c.leader_of-own.result c.loop-column.invariant.leaders c.leader_of-own.ensures.value c.loop-column.taken c.taken_after-taken.result c.in-Some.value c.push-in-loop-column.new.self unseen some c.in_ok-push-2.ensures.ok c.taken_after-taken.ensures c.loop-column.invariant.values;
    }
