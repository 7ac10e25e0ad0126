-- Sums with one more term, keys that no held row has, and the keys of the rows held.
use Rattle.std.proofs.Common.{◌≡◌, ℕ, ◌+◌, ◌-◌, ◌*◌, ◌<◌, ◌≤◌, ◌||◌, false, List, [], ◌∷◌, length, get_or, bit_or, refl, sym, ◌∙◌, ap, arith}
use Rattle.std.proofs.lemmas.Nat.{mul-le}
use Rattle.std.specs.Prelude.{⊤}
use Rattle.std.specs.List.{AllByRecursion, slice_get}
use Rattle.std.specs.Option.{option_map}
use Rattle.std.specs.Ordering.{is_eq}
use Rattle.std.specs.declared.cmp.Ordering.TheVariants.{Less, Equal, Greater}
use Rattle.rs_order.specs.Climbing.{Climbs}
use Rattle.rs_order.proofs.ClimbingFacts.{Climbs-map}
use Rattle.rs_queue.specs.Queue.{has_key}
use Rattle.rs_queue.proofs.ItemFacts.{has_key-items}
use Rattle.rs_rank.proofs.OrderFacts.{IsTied-parts}
use Rattle.rs_rank.proofs.WeightFacts.{IsBound-sum, bound-limit, sum_inside-one}
use Rattle.rs_rank.specs.declared.key.Key.{Key}
use Rattle.rs_rank.specs.declared.row.RankRow.{RankRow}
use Rattle.rs_rank.specs.declared.weights.Weights.{Weights}
use Rattle.rs_rank.specs.Keys.{key_cmp}
use Rattle.rs_rank.specs.Rows.{first_key}
use Rattle.rs_rank.specs.Masks.{mask_of}
use Rattle.rs_rank.specs.Weights.{IsWeights, most_evaluated, rest, score_limit}
use Rattle.rs_rank.specs.Ids.{AreOtherIds}
use Rattle.rs_mu.specs.Mu.{HaveRest, IsNewTerm, rows_of_keys}
use Rattle.rs_mu.proofs.KeyFacts.{row_without}

-- a sum with the share of one more term is one that the terms can give
pub sum_with-term : (weights : Weights) (terms term sum worth : ℕ) → IsWeights weights → IsNewTerm terms term → sum ≤ most_evaluated weights terms → worth ≤ get_or weights.max (term - 1) 0 →
    sum + get_or weights.weight (term - 1) 0 * worth ≤ most_evaluated weights (bit_or terms (mask_of term))
sum_with-term weights terms term sum worth limits is_new within limit =
    let least = is_new.least in
    let most = is_new.most in
    let w : term - 1 < length weights.weight = let n = limits.weight_count in omega arith in
    let m : term - 1 < length weights.max = let n = limits.max_count in omega arith in
    let more = sum_inside-one (term - 1) terms weights.weight weights.max w m is_new.absent in
    let share = mul-le (get_or weights.weight (term - 1) 0) worth (get_or weights.weight (term - 1) 0) (get_or weights.max (term - 1) 0) (omega arith) limit in
    omega arith

-- a sum that the terms can give is at most the limit, together with what the others can give
pub bound-within : (weights : Weights) (terms sum : ℕ) → IsWeights weights → sum ≤ most_evaluated weights terms → sum + rest weights terms ≤ score_limit
bound-within weights terms sum limits within = bound-limit weights terms (sum + rest weights terms) limits (IsBound-sum weights terms sum within)

-- keys of other ids aren't equal
other_ids-apart : (key other : Key) → AreOtherIds key.ids other.ids → is_eq (key_cmp key other) ≡ false
other_ids-apart key other differ =
    (elim (key_cmp key other) as (λ o. key_cmp key other ≡ o → is_eq o ≡ false) [
      | Less ↦ λ e. refl
      | Equal ↦ λ e. let parts = IsTied-parts key other e in absurd (differ parts.1 parts.2)
      | Greater ↦ λ e. refl
    ]) refl

-- no held row has a key of other ids than all of theirs
pub has_key-other_ids : (key : Key) (held : List (Key × RankRow)) → AllByRecursion (λ pair. AreOtherIds pair.0.ids key.ids) held → has_key key_cmp key held ≡ false
has_key-other_ids key [] all = refl
has_key-other_ids key (pair ∷ rest) all =
    ap (λ b. b || has_key key_cmp key rest) (other_ids-apart pair.0 key all.0) ∙ has_key-other_ids key rest all.1

-- nor has any of the keys that stand for them
pub has_key-other_keys : (rest : ℕ) (key : Key) (pairs : List (Key × ⊤)) → AllByRecursion (λ pair. AreOtherIds pair.0.ids key.ids) (rows_of_keys rest pairs) → has_key key_cmp key pairs ≡ false
has_key-other_keys rest key pairs all =
    sym (has_key-items key_cmp (row_without rest) key pairs) ∙ has_key-other_ids key (rows_of_keys rest pairs) all

-- the first of the rows that keys stand for has the first key
pub first_key-keys : (rest : ℕ) (pairs : List (Key × ⊤)) → first_key (rows_of_keys rest pairs) ≡ option_map (λ pair. pair.0) (slice_get pairs 0)
first_key-keys rest [] = refl
first_key-keys rest (pair ∷ pairs) = refl

-- their keys rise where those do
pub rising-keys : (rest : ℕ) (pairs : List (Key × ⊤)) → Climbs key_cmp (λ pair. pair.0) pairs → Climbs key_cmp (λ pair. pair.0) (rows_of_keys rest pairs)
rising-keys rest pairs climbs = Climbs-map key_cmp (λ (pair : Key × RankRow). pair.0) (λ (pair : Key × ⊤). (pair.0, record { ids = pair.0.ids; sum = pair.0.bound - rest })) pairs climbs

-- each of these rows has its key, where the rest is in all of them
pub keys-rest : (rest : ℕ) (pairs : List (Key × ⊤)) → HaveRest rest pairs → AllByRecursion (λ pair. pair.0 ≡ record { bound = pair.1.sum + rest; ids = pair.1.ids }) (rows_of_keys rest pairs)
keys-rest rest [] have = tt
keys-rest rest (pair ∷ pairs) have =
    let within : rest ≤ pair.0.bound = have.0 in
    let bound : pair.0.bound ≡ pair.0.bound - rest + rest = omega arith in
    (ap (λ b. record { bound = b; ids = pair.0.ids }) bound, keys-rest rest pairs have.1)
