-- The order of the rows of an answer.
use Rattle.rs_rank.specs.declared.answer.Answer.{Answer}
use Rattle.rs_rank.specs.declared.key.Key.{Key}

-- a row's score and its ids: in the order of keys the greater score comes first, and at equal scores the block and then the row numbers decide
abbrev pub key_of_answer : Answer → Key
key_of_answer row = record { bound = row.score; ids = row.ids }
