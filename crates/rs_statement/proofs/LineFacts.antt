-- Row numbers with spaces between, one after another.
use Rattle.std.proofs.Common.{ℕ, ◌≡◌, ◌∙◌, ◌+◌, ◌<◌, ◌++◌, List, [], ◌∷◌, length, take, get_or, refl, sym, ap, arith, append_assoc}
use Rattle.std.specs.Prelude.{◌==◌, false, not}
use Rattle.std.specs.Fmt.{decimal}
use Rattle.std.proofs.lemmas.Bool.Decides.{nat_tests}
use Rattle.std.proofs.lemmas.List.{take_more}
use Rattle.std.proofs.lemmas.List.Elements.{filter-append}
use Rattle.rs_statement.specs.Faults.{numbers_of, spaced}

-- the space before one more number: none before the first one
abbrev pub space_behind : List ℕ → List ℕ
space_behind [] = []
space_behind (number ∷ rest) = 32 ∷ []

spaced-push : (numbers : List ℕ) (number : ℕ) → spaced (numbers ++ number ∷ []) ≡ spaced numbers ++ (space_behind numbers ++ decimal number)
spaced-push [] number = refl
spaced-push (first ∷ []) number = refl
spaced-push (first ∷ second ∷ rest) number =
    ap (λ more. decimal first ++ 32 ∷ more) (spaced-push (second ∷ rest) number) ∙ sym (append_assoc (decimal first) (32 ∷ spaced (second ∷ rest)) (32 ∷ decimal number))

space_behind-push : (numbers : List ℕ) (number : ℕ) → space_behind (numbers ++ number ∷ []) ≡ 32 ∷ []
space_behind-push [] number = refl
space_behind-push (first ∷ rest) number = refl

-- the text of the rows so far, and the space before the next one
pub record IsSpaced (rows text space : List ℕ) : Type 0 where
  pub text_is : text ≡ spaced (numbers_of rows)
  pub space_is : space ≡ space_behind (numbers_of rows)

some-row : (row : ℕ) → (row ≡ 0 → ⊥) → (row == 0) ≡ false
some-row row some = grind (arith, nat_tests)

numbers_of-one : (row : ℕ) → (row ≡ 0 → ⊥) → numbers_of (row ∷ []) ≡ row ∷ []
numbers_of-one row some = rw (some-row row some) refl

-- it is told behind the others
pub IsSpaced-some : (i : ℕ) (rows text space : List ℕ) → i < length rows → (get_or rows i 0 ≡ 0 → ⊥) → IsSpaced (take i rows) text space
    → IsSpaced (take (i + 1) rows) ((text ++ space) ++ decimal (get_or rows i 0)) (32 ∷ [])
IsSpaced-some i rows text space within some made = record {
  text_is = append_assoc text space (decimal (get_or rows i 0)) ∙ ap (λ text. text ++ (space ++ decimal (get_or rows i 0))) made.text_is
      ∙ ap (λ space. spaced (numbers_of (take i rows)) ++ (space ++ decimal (get_or rows i 0))) made.space_is ∙ sym (spaced-push (numbers_of (take i rows)) (get_or rows i 0)) ∙ ap spaced (sym more);
  space_is = sym (space_behind-push (numbers_of (take i rows)) (get_or rows i 0)) ∙ ap space_behind (sym more);
} where
  more : numbers_of (take (i + 1) rows) ≡ numbers_of (take i rows) ++ get_or rows i 0 ∷ []
  more = ap numbers_of (take_more rows i 0 within) ∙ filter-append (λ row. not (row == 0)) (take i rows) (get_or rows i 0 ∷ [])
      ∙ ap (λ last. numbers_of (take i rows) ++ last) (numbers_of-one (get_or rows i 0) some)
