-- What runs put, one after another: the bytes that were put so far, and the pieces of the last run.
use Rattle.std.specs.Prelude.{ℕ, ◌≡◌, ◌≤◌, ◌⊎◌, false, List, [], ◌∷◌, ◌++◌, ◌+◌, drop, length, take, Option, Some, None, Result, Ok, Err}
use Rattle.std.specs.List.{concat}
use Rattle.rs_value.specs.Faults.{raised}
use Rattle.rs_value.specs.Outside.{Faulted, Keeps, Outside}
use Rattle.rs_outside.specs.Sink.{IsPrefix}
use Rattle.rs_outside.specs.declared.sink.SinkFault.{SinkFault}
use Rattle.rs_outside.specs.declared.sink.SinkFault.TheVariants as sink
use Rattle.rs_ask.specs.Putting.{PutsBytes}
use Rattle.rs_ask.specs.declared.row_fault.RowFault.{RowFault}
use Rattle.rs_ask.specs.declared.row_fault.RowFault.TheVariants.{Differs, Failed, Memory}

-- the pieces of these lengths that the bytes begin with
abbrev pub pieces_of : List ℕ → List ℕ → List (List ℕ)
pieces_of [] bytes = []
pieces_of (length ∷ rest) bytes = take length bytes ∷ pieces_of rest (drop length bytes)

-- how many bytes pieces of these lengths are
abbrev pub total : List ℕ → ℕ
total [] = 0
total (length ∷ rest) = length + total rest

-- how they are held
pub record HeldRows : Type 0 where
  pub bytes : List ℕ
  pub before : ℕ
  pub lengths : List ℕ
  pub at : ℕ
  pub refused : List (List ℕ)
  pub fault : Option RowFault

-- what holds of them: what was put before and the pieces of the run end at places within the bytes, and a put was refused only where there is a fault
pub record IsRows (rows : HeldRows) : Type 0 where
  pub before : rows.before ≤ length rows.bytes
  pub at : rows.at ≡ total rows.lengths
  pub within : rows.at ≤ length rows.bytes
  pub refused : rows.fault ≡ None → rows.refused ≡ []

-- the bytes that were put before the run, those that were put so far, the pieces that the run put, what its refused puts took, why a put failed, and how many did
pub record PutRowsState : Type 0 where
  pub shown : List ℕ
  pub bytes : List ℕ
  pub pieces : List (List ℕ)
  pub refused : List (List ℕ)
  pub fault : Option RowFault
  pub faults : ℕ

-- a run that put nothing yet, where this was put before
abbrev pub rows_again : List ℕ → PutRowsState
rows_again bytes = record { shown = bytes; bytes = bytes; pieces = []; refused = []; fault = None; faults = 0 }

-- no run was made
abbrev pub no_rows : PutRowsState
no_rows = rows_again []

-- the state behind a refused put, which took this much
abbrev pub after_refusal : List ℕ → RowFault → PutRowsState → PutRowsState
after_refusal taken fault rows = record {
  shown = rows.shown;
  bytes = rows.bytes;
  pieces = rows.pieces;
  refused = rows.refused ++ taken ∷ [];
  fault = Some fault;
  faults = raised rows.faults;
}

-- a put was refused, which took this much, if there was memory for that
abbrev pub IsRefused : List ℕ → RowFault → Result (Unit {0}) SinkFault → PutRowsState → PutRowsState → Type 0
IsRefused taken fault (Ok done) old new = ⊥
IsRefused taken fault (Err sink.Failed) old new = new ≡ after_refusal taken fault old
IsRefused taken fault (Err sink.Memory) old new = new ≡ old

-- what a run's sink tells
abbrev pub rows_state : PutRowsState → Outside (List (List ℕ))
rows_state rows = record { told = Some (rows.pieces ++ rows.refused); faults = rows.faults; steady = false }

-- a run put pieces, and then one whose put failed: all that was put goes as far as the pieces before that one, and no further than that one. It begins with what was put before the run
pub record StoppedIn (pieces : List (List ℕ)) (before : List ℕ) (began now : Outside (List (List ℕ))) : Type 0 where
  pub done : List (List ℕ)
  pub last : List ℕ
  pub more : List (List ℕ)
  pub split : pieces ≡ done ++ last ∷ more
  pub put : List ℕ
  pub puts : PutsBytes put began now
  pub begins : IsPrefix before put
  pub reaches : IsPrefix (concat done) put
  pub within : IsPrefix put (concat done ++ last)

-- what a run put so far, of which no put failed: where it goes beyond what was put before, all of it is put
pub record PassedAll (began now : Outside (List (List ℕ))) (rows : PutRowsState) : Type 0 where
  pub none_failed : rows.faults ≡ 0
  pub fresh : List ℕ
  pub is : rows.bytes ≡ rows.shown ++ fresh
  pub new : (fresh ≡ []) ⊎ (concat rows.pieces ≡ rows.bytes)
  pub puts : PutsBytes rows.bytes began now

-- two lists of which neither begins the other
abbrev pub AreApart : List ℕ → List ℕ → Type 0
AreApart xs ys = (¬ IsPrefix xs ys) × (¬ IsPrefix ys xs)

-- what of a run's puts was passed on, by why one of them failed: none did; or the run differs from what was put before, and nothing more was put; or a put of what is new failed
abbrev pub PassedBy : Option RowFault → Outside (List (List ℕ)) → Outside (List (List ℕ)) → PutRowsState → Type 0
PassedBy None began now rows = PassedAll began now rows
PassedBy (Some Differs) began now rows = (1 ≤ rows.faults) × AreApart rows.shown (concat (rows.pieces ++ rows.refused)) × PutsBytes rows.shown began now
PassedBy (Some Failed) began now rows = (1 ≤ rows.faults) × StoppedIn (rows.pieces ++ rows.refused) rows.shown began now × Faulted began now
PassedBy (Some Memory) began now rows = (1 ≤ rows.faults) × StoppedIn (rows.pieces ++ rows.refused) rows.shown began now

-- what of runs' puts was passed on
pub record Passed (began now : Outside (List (List ℕ))) (rows : PutRowsState) : Type 0 where
  pub keeps : Keeps began now
  pub is : PassedBy rows.fault began now rows

-- what holds of a run's puts, where this was put by the runs before
pub record IsOfRun (shown : List ℕ) (began now : Outside (List (List ℕ))) (rows : PutRowsState) : Type 0 where
  pub shown_is : rows.shown ≡ shown
  pub passed : Passed began now rows

-- what a run puts to: what was put so far, and where what is new goes
pub record NewRowsState (O : Type 0) : Type 0 where
  pub rows : PutRowsState
  pub out : O
