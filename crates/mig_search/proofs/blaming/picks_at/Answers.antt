use Rattle.std.proofs.Common.{◌≡◌, ◌+◌, ◌<◌, ◌++◌, ◌∷◌, [], take, length, get_or, ap, sym, ◌∙◌, subst, arith, suc, true, false}
use Rattle.std.proofs.lemmas.List.{append-nil, take_all}
use Rattle.mig_sketch.specs.declared.plans.Hole.{Hole}
use Rattle.mig_search.specs.Blocking.{is_blocked_by, picks_at}
use Rattle.mig_search.proofs.Picked.{pick_at, picks_more, sizes_length}
use Rattle.mig_search.proofs.blaming.picks_at.Goals as goal
use Rattle.mig_search.proofs.blaming.picks_at.Goals.{then-is_blocked+in_ok-push, else-is_blocked}

pub bounds-picks-number : goal.bounds-picks-number
bounds-picks-number c = let e = sizes_length c.args.holes.now c.args.picks.now c.requires.choice in omega (arith, e)

pub loop-number-preserved : goal.loop-number-preserved
loop-number-preserved c =
    let holes = c.args.holes.now in
    let picks = c.args.picks.now in
    let i = c.loop-number.number in
    let size = sizes_length holes picks c.requires.choice in
    let within : i < length picks = omega (arith, size) in
    let f = is_blocked_by c.args.names.now in
    let hole = c.index-holes-number.result in
    let at : get_or holes i hole ≡ hole = sym c.index-holes-number.is in
    let more : picks_at 0 (take (suc i) holes) f (take (suc i) picks) ≡ picks_at 0 (take i holes) f (take i picks) ++ pick_at (0 + i) (f (get_or holes i hole).function) (get_or picks i 0) = picks_more 0 holes f picks i hole c.loop-number-test.true within in
    let same : c.is_blocked.result ≡ f hole.function = c.is_blocked.ensures ∙ ap (λ (h : Hole). f h.function) at in
    let next : suc i ≡ i + 1 = omega arith in
    let number : 0 + i ≡ i = omega arith in
    let there : picks_at 0 (take (i + 1) holes) f (take (i + 1) picks) ≡ picks_at 0 (take i holes) f (take i picks) ++ pick_at i (f hole.function) (get_or picks i 0) =
    subst (λ j. picks_at 0 (take j holes) f (take j picks) ≡ picks_at 0 (take i holes) f (take i picks) ++ pick_at i (f hole.function) (get_or picks i 0)) next (more ∙ (ap (λ n. picks_at 0 (take i holes) f (take i picks) ++ pick_at n (f (get_or holes i hole).function) (get_or picks i 0)) number ∙ ap (λ (h : Hole). picks_at 0 (take i holes) f (take i picks) ++ pick_at i (f h.function) (get_or picks i 0)) at)) in
    elim c.if-is_blocked.branch [
      | then-is_blocked+in_ok-push w ↦
          let counts : f hole.function ≡ true = sym same ∙ w.if-is_blocked.true in
          let now : c.if-is_blocked.blocked.items ≡ c.loop-number.blocked.items ++ record { hole = i; option = get_or picks i 0 } ∷ [] = ap (λ v. v.items) w.blocked-is ∙ w.in_ok-push.ensures.items in
          now ∙ (ap (λ t. t ++ record { hole = i; option = get_or picks i 0 } ∷ []) c.loop-number.invariant ∙ (ap (λ b. picks_at 0 (take i holes) f (take i picks) ++ pick_at i b (get_or picks i 0)) (sym counts) ∙ sym there))
      | else-is_blocked w ↦
          let not_counted : f hole.function ≡ false = sym same ∙ w.if-is_blocked.false in
          let now : c.if-is_blocked.blocked.items ≡ c.loop-number.blocked.items = ap (λ v. v.items) w.blocked-is in
          now ∙ (c.loop-number.invariant ∙ (sym (append-nil (picks_at 0 (take i holes) f (take i picks))) ∙ (ap (λ b. picks_at 0 (take i holes) f (take i picks) ++ pick_at i b (get_or picks i 0)) (sym not_counted) ∙ sym there)))
    ]

pub returns : goal.returns
returns c =
    let size = sizes_length c.args.holes.now c.args.picks.now c.requires.choice in
    c.from_vec.ensures ∙ (c.loop-number.invariant
    ∙ (ap (λ hs. picks_at 0 hs (is_blocked_by c.args.names.now) (take c.loop-number.number c.args.picks.now)) (take_all c.loop-number.number c.args.holes.now c.loop-number-test.false)
    ∙ ap (picks_at 0 c.args.holes.now (is_blocked_by c.args.names.now)) (take_all c.loop-number.number c.args.picks.now (omega (arith, size)))))
