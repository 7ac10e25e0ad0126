-- A map of join values, as lists: what its calls do to them.
use Rattle.std.proofs.Common.{◌≡◌, ℕ, Bool, true, false, cond, List, [], ◌∷◌, ◌++◌, map, Option, Some, None, refl, sym, ◌∙◌, ap, ap₂}
use Rattle.std.proofs.lemmas.Map.Steps.{set_value_same}
use Rattle.std.specs.BTreeMap.{BTreeMap, get_by, insert_entry}
use Rattle.std.specs.Cmp.Lexicographic.{slice_cmp}
use Rattle.std.specs.Map.{lookup, set_value}
use Rattle.std.specs.Option.{option_map}
use Rattle.std.specs.Ordering.{is_eq, match_ordering}
use Rattle.std.specs.declared.cmp.Ordering.{Ordering}
use Rattle.std.specs.declared.cmp.Ordering.TheVariants.{Less, Equal, Greater}
use Rattle.std.specs.declared.alloc.Global.{Global}
use Rattle.std.specs.declared.vec.Vec.{Vec}
use Rattle.rs_value.specs.contracts.value.ValueOrd.TheImpl as order
use Rattle.rs_value.specs.declared.value.Value.{Value}
use Rattle.rs_value.specs.Value.{value_cmp}
use Rattle.rs_hrjn.specs.Drawn.{are_equal}
use Rattle.rs_hrjn.specs.Index.{index_of, with_more, with_place}
use Rattle.rs_hrjn.proofs.EqualFacts.{slice-values}

abbrev pub Key : Type 0
Key = Vec Value Global

abbrev pub Places : Type 0
Places = Vec ℕ Global

abbrev as_lists : Key × Places → List Value × List ℕ
as_lists entry = (entry.0.items, entry.1.items)

-- the order of the map's keys
abbrev pub key_cmp : Key → Key → Ordering
key_cmp x y = slice_cmp order.ghosts.cmp x.items y.items

-- whether a key has these join values, as the map tests it
abbrev is_key : Key → Key → Bool
is_key values key = is_eq (key_cmp values key)

key_cmp-values : (x y : Key) → key_cmp x y ≡ slice_cmp value_cmp x.items y.items
key_cmp-values x y = slice-values x.items y.items

is_key-are_equal : (x y : Key) → is_key x y ≡ are_equal x.items y.items
is_key-are_equal x y = ap is_eq (key_cmp-values x y)

abbrev items_of : Places → List ℕ
items_of places = places.items

lookup-lists : (values : Key) (entries : List (Key × Places)) → lookup (are_equal values.items) (map as_lists entries) ≡ option_map items_of (lookup (is_key values) entries)
lookup-lists values [] = refl
lookup-lists values (entry ∷ entries) =
    ap₂ (λ b rest. cond b (Some (items_of entry.1)) rest) (sym (is_key-are_equal values entry.0)) (lookup-lists values entries)
    ∙ step (is_key values entry.0) entry.1 (lookup (is_key values) entries)
  where
    step : (b : Bool) (places : Places) (rest : Option Places) → cond b (Some (items_of places)) (option_map items_of rest) ≡ option_map items_of (cond b (Some places) rest)
    step true places rest = refl
    step false places rest = refl

set_value-lists : (values : Key) (entries : List (Key × Places)) (places : Places) → map as_lists (set_value (is_key values) entries places) ≡ set_value (are_equal values.items) (map as_lists entries) places.items
set_value-lists values [] places = refl
set_value-lists values (entry ∷ entries) places =
    step (is_key values entry.0) (set_value (is_key values) entries places)
    ∙ ap₂ (λ b rest. cond b ((entry.0.items, places.items) ∷ map as_lists entries) (as_lists entry ∷ rest)) (is_key-are_equal values entry.0) (set_value-lists values entries places)
  where
    step : (b : Bool) (rest : List (Key × Places)) → map as_lists (cond b ((entry.0, places) ∷ entries) (entry ∷ rest)) ≡ cond b ((entry.0.items, places.items) ∷ map as_lists entries) (as_lists entry ∷ map as_lists rest)
    step true rest = refl
    step false rest = refl

insert_entry-lists : (values : Key) (entries : List (Key × Places)) (places : Places) → map as_lists (insert_entry key_cmp entries values places) ≡ insert_entry (slice_cmp value_cmp) (map as_lists entries) values.items places.items
insert_entry-lists values [] places = refl
insert_entry-lists values (entry ∷ entries) places =
    step (key_cmp values entry.0) (insert_entry key_cmp entries values places)
    ∙ ap₂ (λ o rest. match_ordering o ((values.items, places.items) ∷ as_lists entry ∷ map as_lists entries) ((entry.0.items, places.items) ∷ map as_lists entries) (as_lists entry ∷ rest))
    (key_cmp-values values entry.0) (insert_entry-lists values entries places)
  where
    step : (o : Ordering) (rest : List (Key × Places)) → map as_lists (match_ordering o ((values, places) ∷ entry ∷ entries) ((entry.0, places) ∷ entries) (entry ∷ rest))
        ≡ match_ordering o ((values.items, places.items) ∷ as_lists entry ∷ map as_lists entries) ((entry.0.items, places.items) ∷ map as_lists entries) (as_lists entry ∷ map as_lists rest)
    step Less rest = refl
    step Equal rest = refl
    step Greater rest = refl

module _ (old : BTreeMap Key Places) (values : Key) where
  -- what is found at the join values
  pub found-lists : (places : Places) → Some places ≡ get_by (key_cmp values) old → lookup (are_equal values.items) (index_of old) ≡ Some places.items
  found-lists places e = lookup-lists values old.entries ∙ ap (option_map items_of) (sym e)

  pub found-none : None ≡ get_by (key_cmp values) old → lookup (are_equal values.items) (index_of old) ≡ None
  found-none e = lookup-lists values old.entries ∙ ap (option_map items_of) (sym e)

  module _ (new : BTreeMap Key Places) where
    -- a place more in places that are there
    pub place-pushed : (before after : Places) (place : ℕ) → Some before ≡ get_by (key_cmp values) old → after.items ≡ before.items ++ place ∷ [] →
        new.entries ≡ set_value (is_key values) old.entries after → index_of new ≡ with_place values.items place (index_of old)
    place-pushed before after place e f set =
        ap (map as_lists) set ∙ set_value-lists values old.entries after
        ∙ ap (set_value (are_equal values.items) (index_of old)) f
        ∙ sym (ap (λ o. with_more o values.items place (index_of old)) (found-lists before e))

    -- places that stay as they were
    pub places-kept : (before after : Places) → Some before ≡ get_by (key_cmp values) old → after.items ≡ before.items →
        new.entries ≡ set_value (is_key values) old.entries after → index_of new ≡ index_of old
    places-kept before after e f set =
        ap (map as_lists) set ∙ set_value-lists values old.entries after
        ∙ ap (set_value (are_equal values.items) (index_of old)) f
        ∙ set_value_same (are_equal values.items) (index_of old) before.items (found-lists before e)

    -- a first place
    pub place-inserted : (places : Places) (place : ℕ) → None ≡ get_by (key_cmp values) old → places.items ≡ place ∷ [] →
        new.entries ≡ insert_entry key_cmp old.entries values places → index_of new ≡ with_place values.items place (index_of old)
    place-inserted places place e f insert =
        ap (map as_lists) insert ∙ insert_entry-lists values old.entries places
        ∙ ap (insert_entry (slice_cmp value_cmp) (index_of old) values.items) f
        ∙ sym (ap (λ o. with_more o values.items place (index_of old)) (found-none e))
