-- Texts of plans, computed on literals and worked by hand.
use Rattle.std.proofs.Common.{◌≡◌, ℕ, List, [], ◌∷◌, ◌++◌, refl}
use Rattle.std.specs.Fmt.{digits}
use Rattle.std.specs.Prelude.{None, Some, codes}
use Rattle.rs_plan.specs.declared.counts.Counts.{Counts}
use Rattle.rs_enum.specs.Texts.{text_of}
use Rattle.rs_enum.proofs.WorkedCosts.{all_cards, both_cards, by_index, catalogue, distinct_plan, distinct_query, few_cards, five_cards, full_cards, hash_plan, nested, nested_scans, one_table, pair_cards, q_first, three_cards, two_tables, two_terms, union_plan, union_query}

-- lines, each ended by a line feed
abbrev lines : List (List ℕ) → List ℕ
lines [] = []
lines (first ∷ rest) = first ++ 10 ∷ lines rest

of_an_index : text_of catalogue one_table few_cards by_index None ≡ lines (
    codes "Rank term 2 est=1 cost=204"
    ∷ codes "  RankScan t t term 1 est=2 cost=4"
    ∷ [])
unfolding digits
of_an_index = refl

of_equal_costs : text_of catalogue one_table all_cards q_first None ≡ lines (
    codes "Rank term 1 est=4 cost=408"
    ∷ codes "  Rank term 2 est=4 cost=404"
    ∷ codes "    SeqScan t t est=4 cost=4"
    ∷ [])
unfolding digits
of_equal_costs = refl

of_a_join : text_of catalogue two_tables pair_cards nested None ≡ lines (
    codes "NestedRankJoin est=3 cost=11"
    ∷ codes "  SeqScan h h est=3 cost=3"
    ∷ codes "  RankScan t t term 1 est=1 cost=2"
    ∷ [])
unfolding digits
of_a_join = refl

-- the table's name stands before the alias
of_distinct : text_of catalogue distinct_query three_cards distinct_plan None ≡ lines (
    codes "Rank term 1 est=3 cost=9"
    ∷ codes "  Distinct est=3 cost=6"
    ∷ codes "    SeqScan h o est=3 cost=3"
    ∷ [])
unfolding digits
of_distinct = refl

of_a_union : text_of catalogue union_query both_cards union_plan None ≡ lines (
    codes "Rank term 1 est=8 cost=24"
    ∷ codes "  Union est=8 cost=16"
    ∷ codes "    SeqScan t t est=4 cost=4"
    ∷ codes "    SeqScan t t est=4 cost=4"
    ∷ [])
unfolding digits
of_a_union = refl

-- a rank operator that called three times, over a scan that drew three rows
abbrev counts : List Counts
counts = record { asked = 1; gave = 1; calls = 3; drawn = 0 } ∷ record { asked = 3; gave = 3; calls = 0; drawn = 3 } ∷ []

with_counts : text_of catalogue one_table few_cards by_index (Some counts) ≡ lines (
    codes "Rank term 2 est=1 cost=204 asked=1 gave=1 calls=3"
    ∷ codes "  RankScan t t term 1 est=2 cost=4 asked=3 gave=3 drawn=3"
    ∷ [])
unfolding digits
with_counts = refl

-- each node has the counts of its place: a join those of its own, of its left side, and of its right side
abbrev join_counts : List Counts
join_counts =
    record { asked = 1; gave = 0; calls = 0; drawn = 0 }
    ∷ record { asked = 1; gave = 1; calls = 0; drawn = 1 }
    ∷ record { asked = 2; gave = 1; calls = 0; drawn = 4 }
    ∷ []

with_counts_of_a_join : text_of catalogue two_tables pair_cards nested (Some join_counts) ≡ lines (
    codes "NestedRankJoin est=3 cost=11 asked=1 gave=0"
    ∷ codes "  SeqScan h h est=3 cost=3 asked=1 gave=1 drawn=1"
    ∷ codes "  RankScan t t term 1 est=1 cost=2 asked=2 gave=1 drawn=4"
    ∷ [])
unfolding digits
with_counts_of_a_join = refl

of_a_hash_join : text_of catalogue two_terms five_cards hash_plan None ≡ lines (
    codes "HashRankJoin est=7 cost=47"
    ∷ codes "  RankScan t a term 1 est=5 cost=10"
    ∷ codes "  RankScan t b term 2 est=5 cost=10"
    ∷ [])
unfolding digits
of_a_hash_join = refl

of_all_pairs : text_of catalogue two_terms full_cards nested_scans None ≡ lines (
    codes "NestedRankJoin est=17179869184 cost=34360262656"
    ∷ codes "  RankScan t a term 1 est=131072 cost=262144"
    ∷ codes "  RankScan t b term 2 est=131072 cost=262144"
    ∷ [])
unfolding digits
of_all_pairs = refl
