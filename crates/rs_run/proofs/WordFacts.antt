-- The numbers of the words of a command line.
use Rattle.std.proofs.Common.{ℕ, ◌≡◌, ◌≤◌, Bool, true, false, cond, nat_le, List, [], ◌∷◌, ◌&&◌, length, Option, Some, None, IfSome, refl, subst, arith}
use Rattle.std.specs.Str.{bytes_eq}
use Rattle.std.proofs.lemmas.Bool.Decides.{nat_tests}
use Rattle.rs_value.specs.Number.{are_digits, decimal_value, number_of}
use Rattle.rs_run.specs.Parts.CommandLine.{HasCertCount}
use Rattle.rs_run.specs.Words.{Arguments, Form, Make, Name, Number, WordForm, at_least, first_form, first_some, form_by, form_of, forms, made_of, number_word, of_number}

-- so many pairs are wanted, if a certificate is
abbrev HasCount : Option Form → Type 0
HasCount None = Unit {0}
HasCount (Some form) = HasCertCount form

first-has : (first other : Option Form) → HasCount first → HasCount other → HasCount (first_some first other)
first-has None other a b = b
first-has (Some form) other a b = a

where-has : (test : Bool) (form : Option Form) → HasCount form → HasCount (cond test form None)
where-has true form has = has
where-has false form has = tt

where-most : (most : ℕ) (test : Bool) (number : Option ℕ) → IfSome number (λ n. n ≤ most) → IfSome (cond test number None) (λ n. n ≤ most)
where-most most true number has = has
where-most most false number has = tt

-- a number word is at most the greatest one
tested : (most number : ℕ) (digits : Bool) → IfSome (cond (digits && nat_le number most) (Some number) None) (λ n. n ≤ most)
tested most number digits = go digits (nat_le number most) refl where
  go : (digits test : Bool) → nat_le number most ≡ test → IfSome (cond (digits && test) (Some number) None) (λ n. n ≤ most)
  go true true e = grind (arith, nat_tests, e)
  go true false e = tt
  go false test e = tt

at-least-most : (least most : ℕ) (number : Option ℕ) → IfSome number (λ n. n ≤ most) → IfSome (at_least least number) (λ n. n ≤ most)
at-least-most least most None has = tt
at-least-most least most (Some number) has = where-most most (nat_le least number) (Some number) has

number-most : (least most : ℕ) (word : List ℕ) → IfSome (number_word least most word) (λ n. n ≤ most)
number-most least most word =
    where-most most (nat_le (length word) 20) (at_least least (decimal_value most word))
    (at-least-most least most (decimal_value most word) (tested most (number_of word) (are_digits word)))

-- all that can be made of arguments has so many pairs
abbrev AllHave : Arguments → Type 0
AllHave (Make form) = HasCertCount form
AllHave (Name shown next) = (name : List ℕ) → AllHave (next name)
AllHave (Number shown least most next) = (number : ℕ) → number ≤ most → AllHave (next number)

of-number-has : (make : ℕ → Option Form) (most : ℕ) → ((n : ℕ) → n ≤ most → HasCount (make n)) → (number : Option ℕ) → IfSome number (λ n. n ≤ most) → HasCount (of_number make number)
of-number-has make most has (Some n) le = has n le
of-number-has make most has None le = tt

made-has : (arguments : Arguments) → AllHave arguments → (words : List (List ℕ)) → HasCount (made_of arguments words)
made-has (Make form) all [] = all
made-has (Make form) all (word ∷ rest) = tt
made-has (Name shown next) all [] = tt
made-has (Name shown next) all (word ∷ rest) = made-has (next word) (all word) rest
made-has (Number shown least most next) all [] = tt
made-has (Number shown least most next) all (word ∷ rest) =
    of-number-has (λ number. made_of (next number) rest) most (λ n le. made-has (next n) (all n le) rest) (number_word least most word) (number-most least most word)

by-has : (form : WordForm) → AllHave form.arguments → (words : List (List ℕ)) → HasCount (form_by form words)
by-has form all [] = tt
by-has form all (word ∷ rest) = where-has (bytes_eq word form.word) (made_of form.arguments rest) (made-has form.arguments all rest)

abbrev AllFormsHave : List WordForm → Type 0
AllFormsHave [] = Unit {0}
AllFormsHave (form ∷ rest) = AllHave form.arguments × AllFormsHave rest

first-form-has : (some : List WordForm) → AllFormsHave some → (words : List (List ℕ)) → HasCount (first_form some words)
first-form-has [] all words = tt
first-form-has (form ∷ rest) all words = first-has (form_by form words) (first_form rest words) (by-has form all.0 words) (first-form-has rest all.1 words)

-- the first form that words are of
form-has : (words : List (List ℕ)) → HasCount (form_of words)
form-has words =
    first-form-has forms
    (λ file column max below count most. tt, (λ script seed below. tt, (λ script. tt, (λ number below rows most. tt, (λ script. tt, (λ left right count most. tt, (λ left right count most. most, (λ file. tt, (λ script. tt, tt)))))))))
    words

pub cert-count : (words : List (List ℕ)) (form : Form) → form_of words ≡ Some form → HasCertCount form
cert-count words form e = subst HasCount e (form-has words)
