-- Of two lists that begin alike, the first rows of each list of output values.
use Rattle.std.proofs.Common.{◌≡◌, ◌∙◌, ℕ, zero, suc, ◌≤◌, Bool, true, false, not, cond, List, [], ◌∷◌, length, take, refl, sym, ap, subst, inl, inr, arith}
use Rattle.std.proofs.lemmas.Bool.{cases_lt}
use Rattle.std.proofs.lemmas.List.{take_all}
use Rattle.std.proofs.lemmas.Option.{slice_get_past}
use Rattle.std.specs.List.{filter}
use Rattle.std.specs.Option.{option_map}
use Rattle.rs_order.specs.Asks.{asks_for, bar_after}
use Rattle.rs_order.specs.Climbing.{Climbs}
use Rattle.rs_order.specs.Schedule.{JoinSide, Left, Right, ask_numbers, asked, asks_from, numbers_from}
use Rattle.rs_order.proofs.PartFacts.{bar_after-slice_get, slice_get-shared}
use Rattle.rs_order.proofs.ReorderFacts.{asks_for-None}
use Rattle.rs_order.proofs.ScheduleFacts.{asked-from}
use Rattle.rs_rank.specs.Keys.{key_cmp}
use Rattle.rs_rank.specs.declared.key.Key.{Key}
use Rattle.rs_rank.proofs.OrderFacts.{key_cmp-total}
use Rattle.rs_outputs.specs.Rows.{OutputRow, firsts, values_of}
use Rattle.rs_outputs.specs.Seen.{has_list, same_values}
use Rattle.rs_outputs.proofs.DistinctFacts.{firsts-more, given-asks}
use Rattle.rs_ripple.specs.Stands.{BeginsWith}
use Rattle.rs_exec.proofs.CertifyJoinFacts.{IsNumbered}
use Rattle.rs_exec.proofs.DistinctStepFacts.{reached}

-- what passes of the first items begins what passes of all
filter-begins : {X : Type 0} (p : X → Bool) (zs ys : List X) → BeginsWith zs ys → BeginsWith (filter p zs) (filter p ys)
filter-begins p zs [] begins = refl
filter-begins p [] (y ∷ ys) begins = absurd (cc)
filter-begins p (z ∷ zs) (y ∷ ys) begins =
    let first : y ≡ z = cc in
    let rest : ys ≡ take (length ys) zs = cc in
    let more = filter-begins p zs ys rest in
    subst (λ x. BeginsWith (filter p (z ∷ zs)) (filter p (x ∷ ys))) (sym first)
    (elim (p z) as (λ b. BeginsWith (cond b (z ∷ filter p zs) (filter p zs)) (cond b (z ∷ filter p ys) (filter p ys))) [
      | true ↦ ap (λ (xs : List _). z ∷ xs) more
      | false ↦ more
    ])

firsts-begins : (j : ℕ) (rows : List OutputRow) → BeginsWith (firsts rows) (firsts (take j rows))
firsts-begins zero rows = refl
firsts-begins (suc j) [] = refl
firsts-begins (suc j) (row ∷ rows) =
    ap (λ (xs : List OutputRow). row ∷ xs)
    (filter-begins (λ (other : OutputRow). not (same_values other.values row.values)) (firsts rows) (firsts (take j rows)) (firsts-begins j rows))

-- two lists of one length, by the same keys
module _ (key : OutputRow → Key) (rows others : List OutputRow) (climbs : Climbs key_cmp key rows) (other_climbs : Climbs key_cmp key others) (count : length rows ≡ length others) where
  abbrev pub distinct_asks : List OutputRow → ℕ → ℕ
  distinct_asks all n = asks_for key_cmp key all (bar_after key (firsts all) n)

  pub record DistinctShare (n : ℕ) : Type 0 where
    pub asks : distinct_asks rows n ≡ distinct_asks others n
    pub first : take (suc n) (firsts rows) ≡ take (suc n) (firsts others)

  asks-past : (all : List OutputRow) (n : ℕ) → length (firsts all) ≤ n → distinct_asks all n ≡ suc (length all)
  asks-past all n past =
      ap (asks_for key_cmp key all) (bar_after-slice_get key (firsts all) n ∙ ap (option_map key) (slice_get_past (firsts all) n past)) ∙ asks_for-None key_cmp key all

  begun : (all : List OutputRow) (j n : ℕ) → length (firsts (take j all)) ≡ suc n → take (suc n) (firsts all) ≡ firsts (take j all)
  begun all j n size = sym (firsts-begins j all ∙ ap (λ m. take m (firsts all)) size)

  pub distinct-shared : (n : ℕ) → ((j : ℕ) → j ≤ distinct_asks rows n → take j rows ≡ take j others) → DistinctShare n
  distinct-shared n shared =
      elim (cases_lt n (length (firsts rows))) [
        | inl less ↦
            let found = reached rows n less in
            let asks : distinct_asks rows n ≡ suc found.fed =
            ap (λ c. distinct_asks rows c) (sym found.count) ∙ sym (given-asks key_cmp key_cmp-total key rows climbs found.fed found.row found.there found.new) in
            let before = shared found.fed (omega arith) in
            let now = shared (suc found.fed) (omega arith) in
            let there = sym (slice_get-shared found.fed rows others now) ∙ found.there in
            let new = subst (λ (some : List OutputRow). has_list found.row.values (values_of some) ≡ false) before found.new in
            let size : length (firsts (take found.fed others)) ≡ n = ap (λ (some : List OutputRow). length (firsts some)) (sym before) ∙ found.count in
            let other_asks : distinct_asks others n ≡ suc found.fed =
            ap (λ c. distinct_asks others c) (sym size) ∙ sym (given-asks key_cmp key_cmp-total key others other_climbs found.fed found.row there new) in
            record {
              asks = asks ∙ sym other_asks;
              first =
                  begun rows (suc found.fed) n (firsts-more rows found.fed found.row found.there found.new ∙ ap suc found.count)
                  ∙ ap firsts now
                  ∙ sym (begun others (suc found.fed) n (firsts-more others found.fed found.row there new ∙ ap suc size));
            }
        | inr past ↦
            let asks = asks-past rows n past in
            let same : rows ≡ others = sym (take_all (length rows) rows (omega arith)) ∙ shared (length rows) (omega arith) ∙ take_all (length rows) others (omega arith) in
            record { asks = ap (λ (all : List OutputRow). distinct_asks all n) same; first = ap (λ (all : List OutputRow). take (suc n) (firsts all)) same }
      ]

-- the asks of an only child are numbered
left-numbers : (first count : ℕ) → ask_numbers Left (asks_from Left first count) ≡ numbers_from first count
left-numbers first zero = refl
left-numbers first (suc count) = ap (λ (rest : List ℕ). first ∷ rest) (left-numbers (suc first) count)

no-rights : (first count : ℕ) → (ask_numbers Right (asks_from Left first count) ≡ []) × (asked Right (asks_from Left first count) ≡ 0)
no-rights first zero = (refl, refl)
no-rights first (suc count) = no-rights (suc first) count

pub alone-numbered : (count : ℕ) (side : JoinSide) → IsNumbered (asks_from Left 1 count) side
alone-numbered count Left = left-numbers 1 count ∙ ap (numbers_from 1) (sym (asked-from Left 1 count))
alone-numbered count Right = let none = no-rights 1 count in none.0 ∙ ap (numbers_from 1) (sym none.1)
