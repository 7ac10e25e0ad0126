-- The mask of the entries of arguments, one argument behind the other.
use Rattle.std.proofs.Common.{ℕ, zero, suc, ◌≡◌, ◌+◌, ◌/◌, ◌%◌, ◌≤◌, List, [], ◌∷◌, ◌++◌, refl, sym, ap, ◌∙◌, arith, bit_or, max}
use Rattle.std.specs.Int.Bits.{or_step, or_zero_l, or_zero_r}
use Rattle.rs_catalog.specs.declared.index.BoundArg.{BoundArg}
use Rattle.rs_catalog.specs.declared.index.BoundArg.TheVariants as arg
use Rattle.rs_rank.specs.Masks.{mask_of}
use Rattle.rs_query.specs.WellFormed.{argument_columns, entries_mask}

or-first : (a b : ℕ) → bit_or a b % 2 ≡ max (a % 2) (b % 2)
or-first a b = grind (arith, or_step a b)

or-others : (a b : ℕ) → bit_or a b / 2 ≡ bit_or (a / 2) (b / 2)
or-others a b = grind (arith, or_step a b)

-- numbers are the same where their first bits and the others are
same-bits : (m n : ℕ) → m % 2 ≡ n % 2 → m / 2 ≡ n / 2 → m ≡ n
same-bits m n first others = omega arith

max-assoc : (a b c : ℕ) → max (max a b) c ≡ max a (max b c)
max-assoc a b c = omega arith

halves-less : (a b c fuel : ℕ) → a + b + c ≤ suc fuel → a / 2 + b / 2 + c / 2 ≤ fuel
halves-less a b c fuel h = omega arith

or_assoc-below : (fuel a b c : ℕ) → a + b + c ≤ fuel → bit_or (bit_or a b) c ≡ bit_or a (bit_or b c)
or_assoc-below zero a b c h =
    let no_a : a ≡ 0 = omega arith in
    let no_b : b ≡ 0 = omega arith in
    let no_c : c ≡ 0 = omega arith in
    rw (no_a, no_b, no_c) refl
or_assoc-below (suc fuel) a b c h =
    let first = ap (λ n. max n (c % 2)) (or-first a b) in
    let second = ap (max (a % 2)) (or-first b c) in
    same-bits (bit_or (bit_or a b) c) (bit_or a (bit_or b c))
    (or-first (bit_or a b) c ∙ (first ∙ (max-assoc (a % 2) (b % 2) (c % 2) ∙ (sym second ∙ sym (or-first a (bit_or b c))))))
    (or-others (bit_or a b) c ∙ (ap (λ n. bit_or n (c / 2)) (or-others a b)
    ∙ (or_assoc-below fuel (a / 2) (b / 2) (c / 2) (halves-less a b c fuel h)
    ∙ (ap (bit_or (a / 2)) (sym (or-others b c)) ∙ sym (or-others a (bit_or b c))))))

or_assoc : (a b c : ℕ) → bit_or (bit_or a b) c ≡ bit_or a (bit_or b c)
or_assoc a b c = or_assoc-below (a + b + c) a b c (omega arith)

-- the mask of the entry of an argument, where it is a column
abbrev entries_mask_one : BoundArg → ℕ
entries_mask_one a = entries_mask (argument_columns (a ∷ []))

entries_mask-cons : (a : BoundArg) (args : List BoundArg) → entries_mask (argument_columns (a ∷ args)) ≡ bit_or (entries_mask_one a) (entries_mask (argument_columns args))
entries_mask-cons (arg.Column entry column) args = ap (λ m. bit_or m (entries_mask (argument_columns args))) (sym (or_zero_r (mask_of entry)))
entries_mask-cons (arg.Int n) args = sym (or_zero_l (entries_mask (argument_columns args)))
entries_mask-cons (arg.Text t) args = sym (or_zero_l (entries_mask (argument_columns args)))

-- one more argument
pub entries_mask-push : (args : List BoundArg) (a : BoundArg) → entries_mask (argument_columns (args ++ a ∷ [])) ≡ bit_or (entries_mask (argument_columns args)) (entries_mask (argument_columns (a ∷ [])))
entries_mask-push [] a = sym (or_zero_l (entries_mask_one a))
entries_mask-push (first ∷ args) a =
    entries_mask-cons first (args ++ a ∷ []) ∙ (ap (bit_or (entries_mask_one first)) (entries_mask-push args a)
    ∙ (sym (or_assoc (entries_mask_one first) (entries_mask (argument_columns args)) (entries_mask_one a))
    ∙ ap (λ m. bit_or m (entries_mask_one a)) (sym (entries_mask-cons first args))))
