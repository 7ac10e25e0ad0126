-- What a proof unfolds to compute this crate's definitions on a literal.
use lib.Utf8.{encode}
use Rattle.std.specs.Prelude.{⊤}
use Rattle.std.specs.Fmt.{digits}
use Rattle.std.specs.Str.{chars, is_utf8}
use Rattle.std.specs.Str.Lossy.{utf8_valid_len}

unfoldable pub values_on_literals : ⊤
unfolding digits chars encode is_utf8 utf8_valid_len
values_on_literals = tt
