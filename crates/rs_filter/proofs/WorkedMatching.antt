-- Conjuncts across two sides, by masks worked by hand.
use Rattle.std.proofs.Common.{◌≡◌, ℕ, true, false, [], ◌∷◌, None, refl, pos}
use Rattle.rs_value.specs.declared.rel.Rel.TheVariants.{Eq}
use Rattle.rs_expr.specs.Formulas.{Constant, Numbers}
use Rattle.rs_query.specs.Conjuncts.{ConjunctDef}
use Rattle.rs_filter.specs.Matching.{conjuncts_across, is_across, is_choice}

-- a conjunct of the entries in a mask
abbrev of : ℕ → ConjunctDef
of entries = record { condition = Numbers Eq (Constant (pos 1)) (Constant (pos 1)); columns = []; entries = entries; equality = None }

-- the sides are entry 1, and entries 2 and 3. Entries 1 and 2, 1 and 3, and all three are across them
first_and_second : is_across 1 6 (of 3) ≡ true
first_and_second = refl

first_and_third : is_across 1 6 (of 5) ≡ true
first_and_third = refl

all_of_them : is_across 1 6 (of 7) ≡ true
all_of_them = refl

-- what speaks of one side alone is that side's, and what speaks of nothing is of both
left_alone : is_across 1 6 (of 1) ≡ false
left_alone = refl

right_alone : is_across 1 6 (of 6) ≡ false
right_alone = refl

of_nothing : is_across 1 6 (of 0) ≡ false
of_nothing = refl

-- entry 4 is of neither
of_another : is_across 1 6 (of 9) ≡ false
of_another = refl

-- the first conjunct has the lowest bit
their_mask : conjuncts_across 1 6 (of 3 ∷ of 1 ∷ of 0 ∷ of 7 ∷ of 9 ∷ of 6 ∷ of 5 ∷ []) ≡ 73
their_mask = refl

-- rows 2 and 5 of entries 1 and 3, of tables of 2, 4 and 5 rows
chosen : is_choice 5 (2 ∷ 4 ∷ 5 ∷ 0 ∷ 0 ∷ 0 ∷ []) (2 ∷ 0 ∷ 5 ∷ 0 ∷ 0 ∷ 0 ∷ []) ≡ true
chosen = refl

past_the_last_row : is_choice 5 (2 ∷ 4 ∷ 5 ∷ 0 ∷ 0 ∷ 0 ∷ []) (3 ∷ 0 ∷ 5 ∷ 0 ∷ 0 ∷ 0 ∷ []) ≡ false
past_the_last_row = refl

no_row : is_choice 5 (2 ∷ 4 ∷ 5 ∷ 0 ∷ 0 ∷ 0 ∷ []) (0 ∷ 0 ∷ 5 ∷ 0 ∷ 0 ∷ 0 ∷ []) ≡ false
no_row = refl

a_row_outside : is_choice 5 (2 ∷ 4 ∷ 5 ∷ 0 ∷ 0 ∷ 0 ∷ []) (2 ∷ 1 ∷ 5 ∷ 0 ∷ 0 ∷ 0 ∷ []) ≡ false
a_row_outside = refl
