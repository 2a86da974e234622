-- What a certificate must have so that the grammar spells it: names that are not reserved, outputs of views, numbers below 2^32.
use Rattle.std.specs.Prelude.{ℕ, ◌<◌, ◌^◌}
use Rattle.std.specs.List.{AllByRecursion}
use Rattle.mig_tokens.specs.Words.{IsName}
use Rattle.mig_tokens.specs.Forms.{AllOfSome}
use Rattle.mig_grammar.specs.Shapes.{IsCol, IsJoin}
use Rattle.mig_steps.specs.declared.steps.Step.{Step}
use Rattle.mig_certificate.specs.declared.proofs.Claim.{Claim}
use Rattle.mig_certificate.specs.declared.proofs.Claim.TheVariants.{Holds, Answers}
use Rattle.mig_certificate.specs.declared.proofs.Entry.{Entry}
use Rattle.mig_certificate.specs.declared.proofs.PairProof.{PairProof}
use Rattle.mig_reading.specs.declared.tree.ViewTree.{ViewTree}
use Rattle.mig_reading.specs.declared.tree.FactTree.{FactTree}
use Rattle.mig_reading.specs.declared.tree.FactTree.TheVariants.{Views, Unique, Columns}
use Rattle.mig_reading.specs.declared.tree.CertificateTree.{CertificateTree}

-- below 2^32
abbrev pub IsNumber : ℕ → Type 0
IsNumber n = n < 2 ^ 32

-- its names are names, and it has an output
pub record IsView (v : ViewTree) : Type 0 where
  pub join : IsJoin v.join
  pub outs : AllOfSome IsCol v.outs

-- its views fit, or its columns are named by names
abbrev pub IsFact : FactTree → Type 0
IsFact (Views source target) = IsView source × IsView target
IsFact (Unique side column) = IsCol column
IsFact (Columns relation side left right) = IsCol left × IsCol right

-- its numbers are below 2^32
pub record IsStep (x : Step) : Type 0 where
  pub term : IsNumber x.term
  pub path : AllByRecursion IsNumber x.path
  pub args : AllByRecursion IsNumber x.args

-- its number is below 2^32
abbrev pub IsClaim : Claim → Type 0
IsClaim (Holds k) = IsNumber k
IsClaim Answers = Unit {0}

-- its claim and its steps fit
pub record IsEntry (e : Entry) : Type 0 where
  pub claim : IsClaim e.claim
  pub source : AllByRecursion IsStep e.source
  pub target : AllByRecursion IsStep e.target

-- its name is one, and its entries fit
pub record IsPair (p : PairProof) : Type 0 where
  pub name : IsName p.name
  pub entries : AllByRecursion IsEntry p.entries

-- all its parts fit
pub record IsCertificate (c : CertificateTree) : Type 0 where
  pub invariants : AllByRecursion IsFact c.invariants
  pub pairs : AllByRecursion IsPair c.pairs
