-- Text by the test, from text by the fact.
use Rattle.std.proofs.Common.{ℕ, ◌≡◌, Bool, true, false, List, refl}
use Rattle.std.specs.Prelude.{IsUtf8, Ok, Err}
use Rattle.std.specs.Str.{is_utf8}
use Rattle.std.specs.Str.Lossy.{utf8_valid_len}
use Rattle.std.proofs.lemmas.Str.{IsUtf8-from_is_utf8, is_utf8-from_IsUtf8}
use Rattle.rs_value.specs.declared.text.TextFault.TheVariants.{NotUtf8}
use Rattle.rs_value.specs.Text.{text_of}

pub text_of-utf8 : (bytes : List ℕ) → IsUtf8 bytes → text_of bytes ≡ Ok bytes
text_of-utf8 bytes h = rw (is_utf8-from_IsUtf8 bytes h) refl

not_utf8 : (bytes : List ℕ) → ¬ (IsUtf8 bytes) → is_utf8 bytes ≡ false
not_utf8 bytes h = go (is_utf8 bytes) refl where
  go : (b : Bool) → is_utf8 bytes ≡ b → is_utf8 bytes ≡ false
  go true e = absurd (h (IsUtf8-from_is_utf8 bytes e))
  go false e = e

pub text_of-not_utf8 : (bytes : List ℕ) → ¬ (IsUtf8 bytes) → text_of bytes ≡ Err (NotUtf8 (utf8_valid_len bytes))
text_of-not_utf8 bytes h = rw (not_utf8 bytes h) refl
