use Rattle.std.proofs.Common.{◌≡◌, length, ap, sym, ◌∙◌, subst, arith, rules}
use Rattle.mig_sat.specs.Agendas.{ListsFirst}
use Rattle.mig_sat.proofs.Growing.{written_back}
use Rattle.mig_sat.proofs.Ahead.{all_ahead}
use Rattle.mig_sat.proofs.agenda.Agenda.new.Goals as goal

pub returns-clause-count : goal.returns-clause-count
returns-clause-count c =
    let sized : length c.enter_clauses.new.lists ≡ length c.in_ok-lists.lists.items = c.in_ok-enter_clauses.ensures.sized ∙ ap length c.as_mut_slice.ensures.value in
    let back = written_back c.enter_clauses.new.lists c.in_ok-lists.lists.items c.in_ok-lists.lists.len (search rules) sized in
    ap length back ∙ (sized ∙ c.in_ok-lists.ensures.count)

pub returns-clause-lists : goal.returns-clause-lists
returns-clause-lists c =
    let sized : length c.enter_clauses.new.lists ≡ length c.in_ok-lists.lists.items = c.in_ok-enter_clauses.ensures.sized ∙ ap length c.as_mut_slice.ensures.value in
    let back = written_back c.enter_clauses.new.lists c.in_ok-lists.lists.items c.in_ok-lists.lists.len (search rules) sized in
    let listed = subst (λ xs. ListsFirst (length xs) xs c.enter_clauses.new.lists) c.as_slice.ensures c.in_ok-enter_clauses.ensures.listed in
    subst (ListsFirst (length c.args.cnf.now.clauses) c.args.cnf.now.clauses) (sym back) listed

pub returns-clause-all : goal.returns-clause-all
returns-clause-all c =
    let sized : length c.enter_clauses.new.lists ≡ length c.in_ok-lists.lists.items = c.in_ok-enter_clauses.ensures.sized ∙ ap length c.as_mut_slice.ensures.value in
    let back = written_back c.enter_clauses.new.lists c.in_ok-lists.lists.items c.in_ok-lists.lists.len (search rules) sized in
    let listed = subst (λ xs. ListsFirst (length xs) xs c.enter_clauses.new.lists) c.as_slice.ensures c.in_ok-enter_clauses.ensures.listed in
    all_ahead (length c.args.cnf.now.clauses) c.args.cnf.now.clauses _ (subst (ListsFirst (length c.args.cnf.now.clauses) c.args.cnf.now.clauses) (sym back) listed) (omega (arith, ap length back, sized, c.in_ok-lists.ensures.count))
