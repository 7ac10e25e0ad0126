-- One run, over what was put before it.
use Rattle.std.specs.Prelude.{ℕ, ◌≡◌, List, [], ◌++◌}
use Rattle.std.specs.List.{concat}
use Rattle.rs_value.specs.Outside.{Outside}
use Rattle.rs_scores.specs.Known.{Known}
use Rattle.rs_ask.specs.Putting.{PutsBytes, all_put}
use Rattle.rs_ask.specs.Stops.{StopsAt}
use Rattle.rs_ask.specs.declared.pass.Pass.{Pass}
use Rattle.rs_ask.specs.declared.stop.Stop.{Stop}

-- a run went to its end, and no put of its rows failed: they begin with what was put before, and all of them are put
pub record RunsWhole {R : Type 0} (ran : R → Known → Pass → R → Outside (List (List ℕ)) → Outside (List (List ℕ)) → Type 0) (pass : Pass) (old : R) (known : Known) (new : R) (before put : List ℕ) (began now : Outside (List (List ℕ))) : Type 0 where
  pub pieces : List (List ℕ)
  pub did : ran old known pass new (all_put []) (all_put pieces)
  pub are : concat pieces ≡ put
  pub fresh : List ℕ
  pub goes : put ≡ before ++ fresh
  pub puts : PutsBytes put began now

-- a run was stopped: it is put as far as the stop says
pub record RunStops {R : Type 0} (ran : R → Known → Pass → R → Outside (List (List ℕ)) → Outside (List (List ℕ)) → Type 0) (stop : Stop) (old : R) (known : Known) (new : R) (before : List ℕ) (began now : Outside (List (List ℕ))) : Type 0 where
  pub pass : Pass
  pub rows : Outside (List (List ℕ))
  pub did : ran old known pass new (all_put []) rows
  pub stops : StopsAt stop pass.lacked_memory before rows began now
