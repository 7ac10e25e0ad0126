-- The words of the command line.
use Rattle.std.specs.Prelude.{ℕ, nat_le, List, [], ◌∷◌, length, Option, Some, None, option_map, if◌then◌else◌, codes}
use Rattle.std.specs.Str.{bytes_eq}
use Rattle.rs_value.specs.Number.{decimal_value}
use Rattle.rs_stream_word.specs.declared.words.StreamWords.{StreamWords}

-- what the words ask for: both streams, by their paths, and how many pairs
pub record StreamForm : Type 0 where
  pub left : List ℕ
  pub right : List ℕ
  pub count : ℕ

abbrev pub form_of : StreamWords → StreamForm
form_of words = record { left = words.left.now; right = words.right.now; count = words.count }

-- a number of pairs: 1 to 20 decimal digits that write a number of at most 1,000,000
abbrev pub count_word : List ℕ → Option ℕ
count_word word = if nat_le (length word) 20 then decimal_value 1000000 word else None

-- the words `LEFT RIGHT K -`
abbrev pub words_form : List (List ℕ) → Option StreamForm
words_form (left ∷ right ∷ count ∷ cert ∷ []) =
    if bytes_eq cert (codes "-") then option_map (λ number. record { left = left; right = right; count = number }) (count_word count) else None
words_form _ = None
