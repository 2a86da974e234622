-- What a writer has written.
use Rattle.std.specs.Prelude.{◌≡◌, ℕ, true, false, List, Option, Some}
use Rattle.csv.specs.Writing.{default_writer, fields_written, has_written, text_written, with_flexible, writer_setup}
use Rattle.csv.specs.declared.writer.Writer.{Writer}

-- a writer between two records has written this text, and takes records of any length
pub record HasWritten {W : Type 0} (contents : W → Option (List ℕ)) (w : Writer W) (text : List ℕ) : Type 0 where
  pub setup : writer_setup w ≡ with_flexible default_writer true
  pub fields : fields_written w ≡ 0
  pub wrote : has_written w ≡ false
  pub told : text_written contents w ≡ Some text
