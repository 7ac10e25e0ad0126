-- Places are filled in the order of their signatures, and the last one keeps the least plan.
use Rattle.std.proofs.Common.{◌≡◌, ℕ, ◌+◌, ◌*◌, ◌/◌, ◌%◌, ◌^◌, ◌<◌, ◌≤◌, List, [], ◌∷◌, ◌++◌, length, sym, ◌∙◌, subst, arith}
use Rattle.std.specs.Prelude.{Option}
use Rattle.std.proofs.lemmas.Option.{none-some}
use Rattle.std.proofs.lemmas.Nat.{div-add-mod', div_below, mod_below, mul-le, pow_pos}
use Rattle.std.proofs.Math.Nat.{pow-le-pow_right}
use Rattle.rs_catalog.specs.Catalog.{CatalogDef}
use Rattle.rs_query.specs.WellFormed.{IsBlock}
use Rattle.rs_query.specs.declared.query.Query.{Query}
use Rattle.rs_sample.specs.Cards.{BlockCards}
use Rattle.rs_query.specs.Blocks.{block_in}
use Rattle.rs_enum.specs.declared.candidate.Candidate.{Candidate}
use Rattle.rs_enum.specs.Made.{AreBuilt, kept_plans, next_plan}
use Rattle.rs_enum.specs.Places.{IsFilled, IsTheFirst, Placed}
use Rattle.rs_enum.proofs.BuildFacts.{built-first, built-more}
use Rattle.rs_enum.proofs.MadeFacts.{kept-length, kept-more, next-made}
use Rattle.rs_enum.proofs.PlaceFacts.{filled-more}

-- the signature of a place
pub terms-within : (place columns count second : ℕ) → columns ≡ 2 ^ count → second ≡ place % columns → second < 2 ^ count
terms-within place columns count second columns_is second_is =
    let some : 0 < columns = subst (λ n. 0 < n) (sym columns_is) (pow_pos count) in
    subst (λ n. n < 2 ^ count) (sym second_is) (subst (λ n. place % columns < n) columns_is (mod_below place columns some))

pub entries-within : (place rows columns count first : ℕ) → columns ≡ 2 ^ count → place < rows * columns → first ≡ place / columns → first < rows
entries-within place rows columns count first columns_is less first_is =
    let some : 0 < columns = subst (λ n. 0 < n) (sym columns_is) (pow_pos count) in
    subst (λ n. n < rows) (sym first_is) (div_below place columns rows some less)

-- this many places are filled, by choices
pub record AreFilled (catalogue : CatalogDef) (query : Query) (cards : List BlockCards) (candidates : List (Option Candidate)) (count : ℕ) : Type 0 where
  pub filled : IsFilled catalogue query cards (kept_plans (block_in query 1).terms candidates)
  pub built : AreBuilt (block_in query 1).terms candidates
  pub counted : length candidates ≡ count

pub filled-none : (catalogue : CatalogDef) (query : Query) (cards : List BlockCards) → IsFilled catalogue query cards []
filled-none catalogue query cards = record {
  kept = λ first second kept small is. absurd (none-some kept is);
  first = λ first second tree small within made. absurd (omega arith);
}

-- one place more is filled
pub filled-next : (catalogue : CatalogDef) (query : Query) (cards : List BlockCards) → IsBlock catalogue (block_in query 1) → (candidates : List (Option Candidate))
    → IsFilled catalogue query cards (kept_plans (block_in query 1).terms candidates)
    → AreBuilt (block_in query 1).terms candidates
    → (place columns first second : ℕ) → length candidates ≡ place → columns ≡ 2 ^ length (block_in query 1).terms
    → first ≡ place / columns → second ≡ place % columns → (found : Option Candidate)
    → IsTheFirst catalogue query cards (kept_plans (block_in query 1).terms candidates) first second (6 * 256) found
    → IsFilled catalogue query cards (kept_plans (block_in query 1).terms (candidates ++ found ∷ []))
    × AreBuilt (block_in query 1).terms (candidates ++ found ∷ [])
filled-next catalogue query cards formed candidates filled are place columns first second counted columns_is first_is second_is found is_first =
    let kept : List (Option Placed) = kept_plans (block_in query 1).terms candidates in
    let count : length kept ≡ place = kept-length (block_in query 1).terms candidates ∙ counted in
    let here : length kept ≡ first * 2 ^ length (block_in query 1).terms + second =
    count ∙ sym (div-add-mod' place columns) ∙ (λ i. sym first_is i * columns_is i + sym second_is i) in
    let row : length kept / 2 ^ length (block_in query 1).terms ≡ first = (λ i. count i / sym columns_is i) ∙ sym first_is in
    let column : length kept % 2 ^ length (block_in query 1).terms ≡ second = (λ i. count i % sym columns_is i) ∙ sym second_is in
    let made = next-made catalogue query formed kept first second found row column in
    let more = kept-more (block_in query 1).terms candidates found in
    let small = terms-within place columns (length (block_in query 1).terms) second columns_is second_is in (
      subst (IsFilled catalogue query cards) (sym more)
          (filled-more catalogue query cards kept (next_plan (block_in query 1).terms kept found) first second small here found is_first made filled formed),
      built-more (block_in query 1).terms candidates found first second small (sym (kept-length (block_in query 1).terms candidates) ∙ here) are
          (built-first catalogue query formed kept first second cards (6 * 256) found is_first),
    )

pub masks-most : (count masks : ℕ) → masks ≡ 2 ^ count → count ≤ 8 → masks ≤ 256
masks-most count masks is few =
    let power : 2 ^ count ≤ 2 ^ 8 = pow-le-pow_right {n = 2} (omega arith) few in
    omega arith

-- there is room for all places
pub places-most : (entries terms : ℕ) → entries ≤ 6 → terms ≤ 8 → 2 ^ entries * 2 ^ terms ≤ 16384
places-most entries terms few_entries few_terms =
    let rows : 2 ^ entries ≤ 2 ^ 6 = pow-le-pow_right {n = 2} (omega arith) few_entries in
    let columns : 2 ^ terms ≤ 2 ^ 8 = pow-le-pow_right {n = 2} (omega arith) few_terms in
    mul-le (2 ^ entries) (2 ^ terms) (2 ^ 6) (2 ^ 8) rows columns
