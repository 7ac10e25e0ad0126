-- The definitions, computed on examples.
use Rattle.std.proofs.Common.{◌≡◌, ◌∷◌, [], refl}
use Rattle.std.specs.Prelude.{codes}
use Rattle.rs_stream.specs.Records.{records_behind, records_in}

-- whole records, and the begin of one more
two : records_in (codes "a,1\nb,2\nc") ≡ codes "a,1\n" ∷ codes "b,2\n" ∷ []
two = refl

-- a line feed in quotes ends no record
quoted : records_in (codes "\"a\nb\",1\n\"c\"\"\n\",2\n") ≡ codes "\"a\nb\",1\n" ∷ codes "\"c\"\"\n\",2\n" ∷ []
quoted = refl

-- quotes that stay open
unended : records_in (codes "\"a\nb,1\n") ≡ []
unended = refl

-- a record that was begun
begun : records_behind (codes "\"a\n") (codes "b\"\nc\n") ≡ codes "\"a\nb\"\n" ∷ codes "c\n" ∷ []
begun = refl
