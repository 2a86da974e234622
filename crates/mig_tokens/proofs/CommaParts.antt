-- Lists with commas as parts.
use Rattle.std.proofs.Common.{ℕ, List, Option, None, codes, refl}
use Rattle.mig_tokens.specs.declared.token.Token.{Token}
use Rattle.mig_tokens.specs.declared.token.Token.TheVariants.{Sign}
use Rattle.mig_tokens.specs.Marked.{Marked}
use Rattle.mig_tokens.specs.Forms.{Before, behind_comma, listed, AllOfSome}
use Rattle.mig_tokens.specs.Reading.{Read}
use Rattle.mig_tokens.specs.Pieces.{reads_sign, begins_sign, sign_at, comma_at, listed_at}
use Rattle.mig_tokens.proofs.Steps.{Part, refit, fixed}
use Rattle.mig_tokens.proofs.ListParts.{led_part}
use Rattle.mig_tokens.proofs.TokenParts.{sign_reader}
use Rattle.mig_tokens.proofs.Firsts.{NotAt, AtSign}

module _ {A : Type 0} (reads : Before → List Token → Read A) (spell : Before → A → List Marked) (F : A → Type 0) (NI : Option Token → Type 0) (part : (s : Before) → Part (reads s) (spell s) F NI) where
  pub comma_part : (s : Before) → Part (comma_at reads s) (behind_comma spell s) F NI
  unfolding comma_at sign_at
  comma_part s =
      let chain = fixed (λ (y : A). Unit {0}) (reads_sign (codes ",")) (Sign (codes ",")) None (sign_reader (codes ","))
      (refit (reads s) (spell s) F (λ y. Unit {0} × F y) NI (λ y h. (tt, h)) (λ y h. h.1) (part s)) in
      refit (comma_at reads s) (behind_comma spell s) (λ y. Unit {0} × F y) F NI (λ y h. h.1) (λ y h. (tt, h)) chain

  pub listed_part : (takes : A → ℕ) (N : Option Token → Type 0) → ((o : Option Token) → AtSign (codes ",") o → NI o) → ((o : Option Token) → N o → NI o) → ((o : Option Token) → N o → NotAt (begins_sign (codes ",")) o)
      → (s : Before) → Part (listed_at takes reads s) (listed takes spell s) (AllOfSome F) N
  listed_part takes N before_item before_end ended s =
      led_part (begins_sign (codes ",")) takes reads (comma_at reads) spell (behind_comma spell) F NI N part comma_part (λ k x rest f. refl) before_item before_end ended s
