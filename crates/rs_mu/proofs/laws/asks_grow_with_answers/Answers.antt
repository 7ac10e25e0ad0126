-- A later answer's key lies further on, and beyond the last one is none.
use Rattle.std.proofs.Common.{suc, ◌∙◌, arith}
use Rattle.std.proofs.lemmas.Option.{slice_get_past}
use Rattle.rs_order.specs.Sorting.{sorted}
use Rattle.rs_rank.specs.Keys.{key_cmp}
use Rattle.rs_mu.specs.Stands.{old_key}
use Rattle.rs_order.proofs.ReorderFacts.{asks_upto-most, asks_upto-none}
use Rattle.rs_mu.proofs.StandFacts.{asks-grow, asks_of-upto, length-sorted, row_key}
use Rattle.rs_mu.proofs.laws.asks_grow_with_answers.Goals as goal

pub returns-clause-grow : goal.returns-clause-grow
returns-clause-grow c = λ e rows m n input le. asks-grow e rows input m n le

pub returns-clause-most : goal.returns-clause-most
returns-clause-most c = λ e rows n.
    let same = asks_of-upto e rows n in
    let most = asks_upto-most key_cmp (old_key e) (row_key e) rows n in
    omega arith

pub returns-clause-all : goal.returns-clause-all
returns-clause-all c = λ e rows n past.
    let count = length-sorted key_cmp (row_key e) rows in
    asks_of-upto e rows (suc n)
    ∙ asks_upto-none key_cmp (old_key e) (row_key e) rows n (slice_get_past (sorted key_cmp (row_key e) rows) n (omega arith))
