-- The faults of the words over feeds and certificates, told by the names of their files. The one file of `check` is both.
use Rattle.std.specs.Prelude.{ℕ, ◌==◌, List, codes, if◌then◌else◌}
use Rattle.rs_table_feed.specs.declared.range_fault.RangeFault.{RangeFault}
use Rattle.rs_table_feed.specs.TableFeeds.{most_score}
use Rattle.rs_words.specs.declared.fault.WordFault.{WordFault}
use Rattle.rs_words.specs.declared.fault.WordFault.TheVariants as word
use Rattle.rs_statement.specs.declared.fault.Fault.TheVariants as fault
use Rattle.rs_statement.specs.Faults.{only}
use Rattle.rs_run.specs.declared.fault.RunFault.{RunFault}
use Rattle.rs_run.specs.declared.fault.RunFault.TheVariants.{CertForm, CertTooLong, Order, Statement}

-- the name of a file by its number: 1 is the left one
abbrev pub file_name : List ℕ → List ℕ → ℕ → List ℕ
file_name left right file = if file == 1 then left else right

-- a number that is no score, told as one of the rows of `top`
abbrev pub range_fault : RangeFault → RunFault
range_fault why = Statement (fault.BadScore (codes "score") (only why.row) why.got most_score)

-- the fault of a word by the names of its files
abbrev pub word_fault : List ℕ → List ℕ → WordFault → RunFault
word_fault left right (word.Read file why) = Statement (fault.Read (file_name left right file) why)
word_fault left right word.Write = Statement fault.Write
word_fault left right (word.Table file why) = Statement (fault.Table (file_name left right file) why)
word_fault left right (word.Range file why) = range_fault why
word_fault left right (word.Order side row before got) = Order (file_name left right side) row before got
word_fault left right (word.CertTooLong file) = CertTooLong (file_name left right file)
word_fault left right (word.CertForm place) = CertForm left place
word_fault left right word.Memory = Statement fault.Memory
