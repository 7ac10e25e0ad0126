-- Values: whole numbers and texts.
use Rattle.std.specs.Prelude.{ℕ, nat_abs, nat_le, ◌&&◌, Bool, true, false, List, [], ◌∷◌}
use Rattle.rs_value.specs.Number.{greatest_int}
use Rattle.std.specs.Fmt.{signed_decimal}
use Rattle.std.specs.Ordering.{nat_cmp, int_cmp}
use Rattle.std.specs.Cmp.Lexicographic.{slice_cmp}
use Rattle.std.specs.declared.cmp.Ordering.{Ordering}
use Rattle.std.specs.declared.cmp.Ordering.TheVariants.{Less, Greater}
use Rattle.rs_value.specs.declared.kind.Kind.{Kind}
use Rattle.rs_value.specs.declared.kind.Kind.TheVariants as kind
use Rattle.rs_value.specs.declared.value.Value.{Value}
use Rattle.rs_value.specs.declared.value.Value.TheVariants.{Int, Text}

-- the kind of a value
abbrev pub kind_of : Value → Kind
kind_of (Int n) = kind.Int
kind_of (Text t) = kind.Text

-- the bytes that a value is printed as: a number in decimal, a text as it is
abbrev pub printed : Value → List ℕ
printed (Int n) = signed_decimal n
printed (Text t) = t

-- numbers by size, texts lexicographically by bytes, where a prefix comes first; values of different kinds are never
-- compared
abbrev pub value_cmp : Value → Value → Ordering
value_cmp (Int a) (Int b) = int_cmp a b
value_cmp (Text a) (Text b) = slice_cmp nat_cmp a b
value_cmp (Int a) (Text b) = Less
value_cmp (Text a) (Int b) = Greater

-- a value is of this kind, and a number has a magnitude of at most 4,000,000,000,000,000,000
abbrev pub fits : Kind → Value → Bool
fits kind.Int (Int n) = nat_le (nat_abs n) greatest_int
fits kind.Int (Text t) = false
fits kind.Text (Int n) = false
fits kind.Text (Text t) = true

-- values, each of its kind
abbrev pub all_fit : List Kind → List Value → Bool
all_fit [] [] = true
all_fit [] (value ∷ values) = false
all_fit (kind ∷ kinds) [] = false
all_fit (kind ∷ kinds) (value ∷ values) = fits kind value && all_fit kinds values
