-- What stands behind the pairs of two streams.
use Rattle.std.proofs.Common.{ℕ, ◌≡◌, List, [], ◌∷◌, Option, Result, Ok, Err, refl, sym, ap, subst}
use Rattle.rs_events.specs.Environment.{Environment}
use Rattle.rs_events.specs.Run.{lines_run}
use Rattle.rs_events.specs.Running.{Ran}
use Rattle.rs_feed_join.specs.Joins.{FeedJoinState}
use Rattle.rs_stream.specs.declared.fault.StreamFault.{StreamFault}
use Rattle.rs_words.specs.declared.fault.PairsFault.{PairsFault}
use Rattle.rs_words.specs.declared.fault.PutFault.{PutFault}
use Rattle.rs_words.specs.Lines.{draws_line}
use Rattle.rs_words.specs.Putting.{pair_faults}
use Rattle.rs_stream_word.specs.declared.fault.StreamsFault.{StreamsFault}
use Rattle.rs_stream_word.specs.Putting.{Behind, PutsDraws, pairs_fault, put_answer}

-- the line of the draws
pub behind-draws : (join : FeedJoinState) (l r : ℕ) (pairs : Result (Unit {0}) PairsFault) (done : Unit {0}) (put : Result (Unit {0}) PutFault) (result : Result (Unit {0}) StreamsFault) (left right : Option StreamFault)
    (old new : Environment) → pairs ≡ Ok done → l ≡ join.left.draws → r ≡ join.right.draws → Ran pair_faults (lines_run (draws_line l r ∷ [])) put old new → result ≡ put_answer put
    → Behind pairs left right join result old new
behind-draws join l r pairs done put result left right old new is on_left on_right ran answer =
    subst (λ (p : Result (Unit {0}) PairsFault). Behind p left right join result old new) (sym is) (record {
      put = put;
      ran = subst (λ (n : ℕ). Ran pair_faults (lines_run (draws_line n join.right.draws ∷ [])) put old new) on_left
          (subst (λ (n : ℕ). Ran pair_faults (lines_run (draws_line l n ∷ [])) put old new) on_right ran);
      answer = answer;
    })

-- nothing, where the pairs ended with a fault
pub behind-fault : (join : FeedJoinState) (pairs : Result (Unit {0}) PairsFault) (field fault : PairsFault) (told : StreamsFault) (left right : Option StreamFault) (old : Environment)
    → pairs ≡ Err field → field ≡ fault → told ≡ pairs_fault fault left right → Behind pairs left right join (Err told) old old
behind-fault join pairs field fault told left right old is same tells =
    subst (λ (p : Result (Unit {0}) PairsFault). Behind p left right join (Err told) old old) (sym is)
    (subst (λ (f : PairsFault). Behind (Err f) left right join (Err told) old old) (sym same) (ap Err tells, refl))
