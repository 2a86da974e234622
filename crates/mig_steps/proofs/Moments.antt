-- What is known of keys at each moment.
use Rattle.std.proofs.Common.{◌≡◌, ℕ, List, [], sym, subst, arith}
use Rattle.mig_schema.specs.declared.faults.Side.{Side}
use Rattle.mig_schema.specs.declared.faults.Side.TheVariants.{Old, New}
use Rattle.mig_schema.specs.declared.tables.Kind.{Kind}
use Rattle.mig_meaning.specs.declared.relating.Invariant.{Invariant}
use Rattle.mig_meaning.specs.Lists.{Each}
use Rattle.mig_meaning.specs.Keys.{EachIn, IsNoKey}
use Rattle.mig_meaning.specs.Rows.{rows_of}
use Rattle.mig_meaning.proofs.Within.{each-get}
use Rattle.mig_algebra.specs.declared.terms.Term.{Term}
use Rattle.mig_algebra.specs.Proper.{Sides, IsProperTerm}
use Rattle.mig_classes.specs.Keys.{KeysAreFresh}
use Rattle.mig_replacing.specs.Given.{IsSound}
use Rattle.mig_replacing.proofs.Sound.{proper-sound}
use Rattle.mig_obligations.specs.Settings.{Moment, stage_of, setting_of, IsMoment}

module _ (p : Sides) (invs : List Invariant) (m : Moment) (at : IsMoment p invs m) where
  stage-fresh : (side : Side) (n table : ℕ) → n ≡ 0 → Each (EachIn (IsNoKey m.given.keys)) (rows_of (stage_of p m side n) table)
  stage-fresh Old n table z = subst (λ k. Each (EachIn (IsNoKey m.given.keys)) (rows_of (stage_of p m Old k) table)) (sym z) (each-get (Each (EachIn (IsNoKey m.given.keys))) m.old.tables table [] at.facts.source tt)
  stage-fresh New n table z = subst (λ k. Each (EachIn (IsNoKey m.given.keys)) (rows_of (stage_of p m New k) table)) (sym z) (each-get (Each (EachIn (IsNoKey m.given.keys))) m.new.tables table [] at.facts.target tt)

  pub keys-fresh : KeysAreFresh (setting_of p m)
  keys-fresh = record { different = at.setting.given.different; before = λ v z. stage-fresh v.side v.stage v.table z }

  pub sound-at : (kinds : List Kind) (t : Term) → IsProperTerm p kinds t → IsSound (setting_of p m) t
  sound-at kinds t h = proper-sound (setting_of p m) p kinds t keys-fresh (omega (arith, at.setting.given.sixteen)) h
