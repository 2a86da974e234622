-- What makes a token of its text.
use Rattle.std.specs.Prelude.{ℕ, List}
use Rattle.mig_tokens.specs.declared.lex.Class.{Class}
use Rattle.mig_tokens.specs.declared.lex.Class.TheVariants as class
use Rattle.mig_tokens.specs.declared.token.Token.{Token}
use Rattle.mig_tokens.specs.declared.token.Token.TheVariants as token

abbrev pub made : Class → List ℕ → Token
made class.Word text = token.Word text
made class.Int text = token.Int text
made class.Sign text = token.Sign text
