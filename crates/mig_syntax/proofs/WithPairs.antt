-- What is answered for a job's text, by the answer without the limit for pairs.
use Rattle.std.proofs.Common.{◌≡◌, ℕ, ◌+◌, ◌==◌, ◌<◌, ◌≤◌, Bool, true, false, cond, List, [], ◌∷◌, length, take, Result, Ok, Err, inl, inr, refl, sym, ap, subst, arith, ◌-◌}
use Rattle.mig_schema.specs.declared.jobs.Job.{Job}
use Rattle.mig_schema.specs.Typed.{IsTyped}
use Rattle.mig_schema.specs.declared.limits.Limit.{Limit}
use Rattle.mig_schema.specs.declared.limits.Limit.TheVariants.{Pairs}
use Rattle.mig_tokens.specs.Bytes.{after_gap}
use Rattle.mig_tokens.specs.Place.{Place, next_place, place_from, behind_tokens, place}
use Rattle.mig_tokens.specs.Refused.{StandsPast}
use Rattle.mig_grammar.specs.Spelling.{job_tokens}
use Rattle.mig_grammar.specs.Shapes.{IsJobTree}
use Rattle.mig_syntax.specs.declared.fault.TextFault.{TextFault}
use Rattle.mig_syntax.specs.declared.fault.TextFault.TheVariants as fault
use Rattle.mig_syntax.specs.Job.{IsJobText, IsJobAnswer}
use Rattle.mig_syntax.specs.Named.{IsTypedAnswer}
use Rattle.mig_syntax.specs.Naming.{job_of}
use Rattle.mig_syntax.specs.Pairs.{pairs_of}
use Rattle.mig_syntax.specs.TypingFault.{IsTypingFault}

-- ---- lines count from 1

next_line : (at : Place) (t : Bool) → 0 < at.0 → 0 < (cond {A = Place} t (at.0 + 1, 1) (at.0, at.1 + 1)).0
next_line at true pos = omega arith
next_line at false pos = pos

line_from : (at : Place) (bs : List ℕ) → 0 < at.0 → 0 < (place_from at bs).0
unfolding place_from
line_from at [] pos = pos
line_from at (b ∷ bs) pos = line_from (next_place at b) bs (next_line at (b == 10) pos)

no_line : (which : Limit) (bytes : List ℕ) → StandsPast job_tokens IsJobTree which bytes 0 → ⊥
no_line which bytes s =
    let pos : 0 < (place s.before bytes).0 = line_from (1, 1) (take (length bytes - length (behind_tokens s.before (after_gap bytes))) bytes) (omega arith) in
    let zero_is : 0 ≡ (place s.before bytes).0 = s.at in
    omega arith

-- ---- answers

module _ (bytes : List ℕ) where
  abbrev Answer : Result Job TextFault → Type 0
  Answer r = IsTypedAnswer job_tokens IsJobTree job_of IsTyped IsTypingFault bytes r

  module _ (job : Job) (a : Answer (Ok job)) where
    one_job : (other : Job) → IsJobText bytes other → IsTyped other → job ≡ other
    one_job other text typed = elim (a.only other (record { text = text; typed = typed })) [ inl e ↦ cc | inr e ↦ absurd cc ]

    pub few : pairs_of job ≤ 256 → IsJobAnswer bytes (Ok job)
    few le = record {
      found = record { text = a.found.text; typed = a.found.typed; few = le };
      only = λ j h. a.only j (record { text = h.text; typed = h.typed });
      wrong = a.wrong;
      only_wrong = a.only_wrong;
      past = λ w l pos e. a.past w l e;
      only_past = a.only_past;
      typing = a.typing;
      only_typing = a.only_typing;
      pairs = λ w e. absurd cc;
      only_pairs = λ h.
          let same : pairs_of job ≡ pairs_of h.job = ap pairs_of (one_job h.job h.text h.typed) in
          let more : 256 < pairs_of h.job = h.many in
          absurd (omega arith);
    }

    pub many : 256 < pairs_of job → IsJobAnswer bytes (Err (fault.Limit Pairs 0))
    many lt = record {
      found = tt;
      only = λ j h.
          let same : pairs_of job ≡ pairs_of j = ap pairs_of (one_job j h.text h.typed) in
          let few_are : pairs_of j ≤ 256 = h.few in
          absurd (omega arith);
      wrong = λ l c e. absurd cc;
      only_wrong = λ l c h. elim (a.only_wrong l c h) [ inl e ↦ absurd cc | inr e ↦ absurd cc ];
      past = λ w l pos e. let zero_is : 0 ≡ l = cc in absurd (omega arith);
      only_past = λ w l h. elim (a.only_past w l h) [ inl e ↦ absurd cc | inr e ↦ absurd cc ];
      typing = λ f e. absurd cc;
      only_typing = λ f h. elim (a.only_typing f h) [ inl e ↦ absurd cc | inr e ↦ absurd cc ];
      pairs = λ w e. (cc, record { job = job; text = a.found.text; typed = a.found.typed; many = lt });
      only_pairs = λ h. inl refl;
    }

  pub failed : (e : TextFault) (r : Result Job TextFault) → Answer (Err e) → r ≡ Err e → IsJobAnswer bytes r
  failed e r a is = subst (IsJobAnswer bytes) (sym is) (record {
    found = tt;
    only = λ j h. a.only j (record { text = h.text; typed = h.typed });
    wrong = a.wrong;
    only_wrong = a.only_wrong;
    past = λ w l pos k. a.past w l k;
    only_past = a.only_past;
    typing = a.typing;
    only_typing = a.only_typing;
    pairs = λ w k. absurd (no_line w bytes (a.past w 0 k));
    only_pairs = λ h. elim (a.only h.job (record { text = h.text; typed = h.typed })) [ inl k ↦ absurd cc | inr k ↦ inr k ];
  })
