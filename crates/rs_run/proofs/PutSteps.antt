-- The lines of rows that are put a few at a time.
use Rattle.std.proofs.Common.{ℕ, suc, ◌≡◌, ◌∙◌, ◌≤◌, ◌+◌, ◌++◌, List, [], ◌∷◌, drop, length, map, take, sym, ap, subst, arith}
use Rattle.std.specs.Prelude.{None, Ok, Err}
use Rattle.std.proofs.Math.Seq.{take-add}
use Rattle.std.proofs.lemmas.List.{append_assoc, length-take-le, take-append-drop, take-take}
use Rattle.rs_lines.specs.Row.{line_of}
use Rattle.rs_rank.specs.declared.answer.Answer.{Answer}
use Rattle.rs_events.specs.Environment.{Environment}
use Rattle.rs_events.specs.Events.{Event, Put}
use Rattle.rs_events.specs.Run.{behind, lines_run}
use Rattle.rs_events.specs.Running.{HasDone}
use Rattle.rs_events.proofs.RanFacts.{HasDone-append, Ran-behind, Ran-done, Ran-longer, map-both}
use Rattle.rs_statement.specs.declared.fault.Fault.{Fault}
use Rattle.rs_statement.specs.Lines.{rank_lines}
use Rattle.rs_statement.specs.Parts.Steps.{Ran}

rank_lines-append : (rank : ℕ) (xs ys : List Answer) → rank_lines rank (xs ++ ys) ≡ rank_lines rank xs ++ rank_lines (rank + length xs) ys
rank_lines-append rank [] ys = ap (λ n. rank_lines n ys) (let same : rank ≡ rank + 0 = omega arith in same)
rank_lines-append rank (x ∷ xs) ys =
    ap (λ rest. line_of rank x.score x.values ∷ rest)
    (rank_lines-append (rank + 1) xs ys ∙ ap (λ n. rank_lines (rank + 1) xs ++ rank_lines n ys) (let same : rank + 1 + length xs ≡ rank + suc (length xs) = omega arith in same))

module _ (rows : List Answer) where
  -- the lines of the rows so far, and those of the next ones
  abbrev given_lines : ℕ → List (List ℕ)
  given_lines given = rank_lines 1 (take given rows)

  abbrev next_lines : ℕ → ℕ → List (List ℕ)
  next_lines given some = rank_lines (suc given) (take some (drop given rows))

  lines-more : (given some : ℕ) → given ≤ length rows → given_lines (given + some) ≡ given_lines given ++ next_lines given some
  lines-more given some within =
      let ranks : 1 + length (take given rows) ≡ suc given = omega (arith, length-take-le given rows within) in
      ap (rank_lines 1) (take-add given some rows)
      ∙ rank_lines-append 1 (take given rows) (take some (drop given rows))
      ∙ ap (λ n. given_lines given ++ rank_lines n (take some (drop given rows))) ranks

  -- the lines of all rows that are wanted, behind these
  abbrev last_lines : ℕ → ℕ → List (List ℕ)
  last_lines count given = rank_lines (1 + length (take given rows)) (drop given (take count rows))

  lines-parts : (count given some : ℕ) → given + some ≤ count → given ≤ length rows → given_lines count ≡ given_lines given ++ (next_lines given some ++ last_lines count (given + some))
  lines-parts count given some few within =
      let first : take (given + some) (take count rows) ≡ take (given + some) rows = take-take (given + some) count rows few in
      ap (rank_lines 1) (sym (take-append-drop (given + some) (take count rows)) ∙ ap (λ (front : List Answer). front ++ drop (given + some) (take count rows)) first)
      ∙ rank_lines-append 1 (take (given + some) rows) (drop (given + some) (take count rows))
      ∙ ap (λ lines. lines ++ last_lines count (given + some)) (lines-more given some within)
      ∙ append_assoc (given_lines given) (next_lines given some) (last_lines count (given + some))

  -- some more were put
  pub HasDone-some : (given some : ℕ) (old middle new : Environment) → given ≤ length rows → HasDone (map Put (given_lines given)) old middle
      → Ran (lines_run (next_lines given some)) (Ok tt) middle new → HasDone (map Put (given_lines (given + some))) old new
  HasDone-some given some old middle new within has ran =
      subst (λ (events : List Event). HasDone events old new) (sym (ap (map Put) (lines-more given some within) ∙ map-both Put (given_lines given) (next_lines given some)))
      (HasDone-append (map Put (given_lines given)) (map Put (next_lines given some)) old middle new has (Ran-done (lines_run (next_lines given some)) middle new ran).has)

  -- or the puts broke off
  pub Ran-some : (count given some : ℕ) (fault : Fault) (old middle new : Environment) → given + some ≤ count → given ≤ length rows → HasDone (map Put (given_lines given)) old middle
      → Ran (lines_run (next_lines given some)) (Err fault) middle new → Ran (lines_run (given_lines count)) (Err fault) old new
  Ran-some count given some fault old middle new few within has ran =
      let piece = next_lines given some in
      let rest = last_lines count (given + some) in
      subst (λ (events : List Event). Ran (record { events = events; fault = None }) (Err fault) old new)
      (sym (ap (map Put) (lines-parts count given some few within) ∙ map-both Put (given_lines given) (piece ++ rest) ∙ ap (λ (events : List Event). map Put (given_lines given) ++ events) (map-both Put piece rest)))
      (Ran-behind (map Put (given_lines given)) (behind (map Put piece) (lines_run rest)) (Err fault) old middle new has
      (Ran-longer (map Put piece) (lines_run rest) fault middle new ran))
