-- Each list had as many.
use Rattle.rs_ta.proofs.SumFacts.{few-random, few-sorted, random-in_all, sorted-in_all}
use Rattle.rs_ta.proofs.laws.depths_decide_the_sums_of_accesses.Goals as goal

pub returns : goal.returns
returns c = record {
  sorted = λ i asks state are. sorted-in_all i asks state are;
  random = λ i asks state are. random-in_all i asks state are;
  few_sorted = λ i asks are. few-sorted i asks are;
  few_random = λ i asks are. few-random i asks are;
}
