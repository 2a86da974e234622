-- The first rule that is broken is the one before which none is.
use Rattle.std.proofs.Common.{◌≡◌, ℕ, ◌<◌, ◌≤◌, false, [], ◌∷◌, sym, ap, ◌∙◌, ⊎_elim, subst, arith}
use Rattle.std.proofs.lemmas.Bool.{cases_lt}
use Rattle.mig_schema.specs.declared.faults.SchemaRule.{SchemaRule}
use Rattle.mig_typing.specs.Broken.{schema_rank, schema_broken}
use Rattle.mig_typing.proofs.Firsts.{nest}
use Rattle.mig_typing.proofs.Orders.{schema_rule, ranked_schema, one_schema_rule, rank_of}
use Rattle.mig_typing.proofs.schemas.first_place.Goals as goal

pub returns-in-Some : goal.returns-in-Some
returns-in-Some c =
    let rule = schema_rule c.loop-rule.rule-index in
    nest (λ (p : SchemaRule × ℕ × ℕ). schema_rank p.0) (λ p. p.1 ∷ p.2 ∷ []) (λ p. schema_broken c.args.schema.now p.0 p.1 p.2) (rule, c.in-Some.found.0, c.in-Some.found.1)
    c.in-Some.ensures.here
    (λ q lt. c.loop-rule.invariant q.0 q.1 q.2 (subst (λ n. schema_rank q.0 < n) (rank_of c.loop-rule.rule-index c.loop-rule-test.true) lt))
    (λ q e lt. subst (λ r. schema_broken c.args.schema.now r q.1 q.2 ≡ false) (sym (one_schema_rule q.0 rule e)) (c.in-Some.ensures.before (q.1, q.2) lt))

pub loop-rule-preserved : goal.loop-rule-preserved
loop-rule-preserved c r a b lt =
    ⊎_elim
    (λ (l : schema_rank r < c.loop-rule.rule-index). c.loop-rule.invariant r a b l)
    (λ (h : c.loop-rule.rule-index ≤ schema_rank r).
    let e : schema_rank r ≡ c.loop-rule.rule-index = omega (arith, h, lt) in
    subst (λ q. schema_broken c.args.schema.now q a b ≡ false) (sym (ranked_schema r ∙ ap schema_rule e)) (c.in-None.ensures (a, b)))
    (cases_lt (schema_rank r) c.loop-rule.rule-index)
