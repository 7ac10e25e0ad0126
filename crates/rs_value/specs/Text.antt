-- What text bytes are.
use Rattle.std.specs.Prelude.{ℕ, List, ◌++◌, codes, Result, Ok, Err, if◌then◌else◌}
use Rattle.std.specs.Str.{is_utf8}
use Rattle.std.specs.Str.Lossy.{utf8_valid_len}
use Rattle.std.specs.Fmt.{decimal}
use Rattle.rs_value.specs.declared.text.TextFault.{TextFault}
use Rattle.rs_value.specs.declared.text.TextFault.TheVariants.{NotUtf8, Memory}

-- the text of these bytes, or the length of their longest prefix that is UTF-8
abbrev pub text_of : List ℕ → Result (List ℕ) TextFault
text_of bytes = if is_utf8 bytes then Ok bytes else Err (NotUtf8 (utf8_valid_len bytes))

-- what is said of bytes that are no text
abbrev pub reason_of : TextFault → List ℕ
reason_of (NotUtf8 at) = codes "the bytes from " ++ decimal at ++ codes " on aren't UTF-8"
reason_of Memory = codes "there is no memory"
