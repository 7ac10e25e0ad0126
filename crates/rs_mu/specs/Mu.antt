-- What a rank operator keeps, and what each call does to it. The operator evaluates one term in addition.
use Rattle.std.specs.Prelude.{ℕ, ◌≡◌, ◌≤◌, ◌+◌, ◌-◌, ◌*◌, ◌||◌, ⊤, Bool, false, not, List, [], Option, Some, None, bit_or, drop, map, slice_index, if◌then◌else◌}
use Rattle.std.specs.List.{AllByRecursion}
use Rattle.std.specs.Ordering.{is_gt}
use Rattle.rs_order.specs.Sorting.{put}
use Rattle.rs_rank.specs.declared.ask.Ask.{Ask}
use Rattle.rs_rank.specs.declared.ask.Ask.TheVariants.{Need, Ready, End}
use Rattle.rs_rank.specs.declared.key.Key.{Key}
use Rattle.rs_rank.specs.declared.row.RankRow.{RankRow}
use Rattle.rs_rank.specs.declared.weights.Weights.{Weights}
use Rattle.rs_rank.specs.Ids.{AreOtherIds}
use Rattle.rs_rank.specs.Keys.{IsBefore, key_cmp}
use Rattle.rs_rank.specs.Masks.{has_number, mask_of}
use Rattle.rs_rank.specs.Rows.{HasSum, first_key, first_row, key_of}

-- the terms that are evaluated below, and the one that is evaluated here; the key of the last row fed, by the terms
-- below, and whether no more comes; the rows held, in the order of their keys by all these terms; and whether memory
-- ran out
pub record Mu : Type 0 where
  pub weights : Weights
  pub terms : ℕ
  pub term : ℕ
  pub last : Option Key
  pub ended : Bool
  pub held : List (Key × RankRow)
  pub spent : Bool

-- the rows that keys stand for, each with its key, where the rest is what the terms that aren't evaluated on them can
-- give at most
abbrev pub rows_of_keys : ℕ → List (Key × ⊤) → List (Key × RankRow)
rows_of_keys rest pairs = map (λ pair. (pair.0, record { ids = pair.0.ids; sum = pair.0.bound - rest })) pairs

-- the rest is in the bound of each key
abbrev pub HaveRest : ℕ → List (Key × ⊤) → Type 0
HaveRest rest pairs = AllByRecursion (λ pair. rest ≤ pair.0.bound) pairs

-- a term that isn't evaluated below
pub record IsNewTerm (terms term : ℕ) : Type 0 where
  pub least : 1 ≤ term
  pub most : term ≤ 8
  pub absent : has_number terms term ≡ false

-- no row is fed
abbrev pub new_mu : Weights → ℕ → ℕ → Mu
new_mu weights terms term =
    record { weights = weights; terms = terms; term = term; last = None; ended = false; held = []; spent = false }

-- a key comes at or before the last row's, so that no row still to come precedes it
abbrev pub is_reached : Option Key → Key → Bool
is_reached None key = false
is_reached (Some last) key = not (is_gt (key_cmp key last))

-- the first held row can be taken once its key is reached, or no more comes
abbrev pub ask_first : Option Key → Bool → Option Key → Ask
ask_first last ended None = if ended then End else Need
ask_first last ended (Some key) = if ended || is_reached last key then Ready else Need

abbrev pub ask_for : Option Key → Bool → List (Key × RankRow) → Ask
ask_for last ended held = ask_first last ended (first_key held)

abbrev pub ask_of : Mu → Ask
ask_of mu = ask_for mu.last mu.ended mu.held

-- the row with weight times worth of the term added to its sum
abbrev pub scored : Mu → RankRow → ℕ → RankRow
scored mu row worth = record row { sum = row.sum + slice_index mu.weights.weight (mu.term - 1) * worth }

-- the key of a row by the terms below and the operator's own
abbrev pub full_key : Mu → RankRow → Key
full_key mu row = key_of mu.weights (bit_or mu.terms (mask_of mu.term)) row

-- after a row of this worth
abbrev pub fed : RankRow → ℕ → Mu → Mu
fed row worth mu = record mu {
  last = Some (key_of mu.weights mu.terms row);
  held = put key_cmp (λ pair. pair.0) (full_key mu (scored mu row worth), scored mu row worth) mu.held;
}

-- the first held row, if it can be taken
abbrev pub taken_for : Ask → Mu → Option RankRow
taken_for Ready mu = first_row mu.held
taken_for Need mu = None
taken_for End mu = None

-- what is left without it
abbrev pub left_for : Ask → Mu → Mu
left_for Ready mu = record mu { held = drop 1 mu.held }
left_for Need mu = mu
left_for End mu = mu

-- a key comes behind the last row's
abbrev pub IsBehind : Option Key → Key → Type 0
IsBehind None key = Unit {0}
IsBehind (Some last) key = IsBefore last key

-- the input's next row
pub record CanFeed (row : RankRow) (worth : ℕ) (mu : Mu) : Type 0 where
  pub alive : mu.spent ≡ false
  pub need : ask_of mu ≡ Need
  pub sum : HasSum mu.weights mu.terms row
  pub limit : worth ≤ slice_index mu.weights.max (mu.term - 1)
  pub behind : IsBehind mu.last (key_of mu.weights mu.terms row)
  pub others : AllByRecursion (λ pair. AreOtherIds pair.0.ids row.ids) mu.held

-- the input's end
pub record CanEnd (mu : Mu) : Type 0 where
  pub alive : mu.spent ≡ false
  pub need : ask_of mu ≡ Need
