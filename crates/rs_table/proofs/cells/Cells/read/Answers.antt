-- The value of the field joins the cells.
use Rattle.std.proofs.Common.{ℕ, List, ◌≡◌, ◌∷◌, ◌++◌, [], sym, ap, ◌∙◌, inr, map, rules, w64}
use Rattle.std.proofs.lemmas.Int.{to_z-of_z}
use Rattle.std.proofs.lemmas.List.{map_push}
use Rattle.rs_value.specs.declared.value.Value.TheVariants.{Int, Text}
use Rattle.rs_table.specs.Kept.{cells_of}
use Rattle.rs_table.specs.Reading.{cell_of}
use Rattle.rs_table.specs.Stored.{StoredCells}
use Rattle.rs_table.specs.declared.cells.Kept.{Kept}
use Rattle.rs_table.specs.declared.cells.Kept.TheVariants.{Ints, Texts}
use Rattle.rs_table.proofs.ReadFacts.{cell-no_number, cell-no_text, cell-number, cell-text}
use Rattle.rs_table.proofs.cells.Cells.read.Goals as goal
use Rattle.rs_table.proofs.cells.Cells.read.Goals.{in-Ints+in-Some+in_ok-push-in-Some, in-Ints+in-None, in-Texts+in-Ok+in_ok-add-in-Ok, in-Texts+in-Err}

-- the cells of the kept ones
was : (c : goal.Joined-self) (kept : Kept) → c.self.inside.kept ≡ kept → c.args.self.now ≡ cells_of kept
was c kept is = sym c.self.view_is ∙ ap cells_of is

pub returns-clause-ok : goal.returns-clause-ok
returns-clause-ok c =
    elim c.match-self.branch [
      | in-Ints+in-Some+in_ok-push-in-Some w ↦
          let old = was c (Ints w.in-Ints.numbers) w.in-Ints.is in
          let value = Int w.in-Some.number in
          rw (w.result-is, w.self-inside-is) (
            value,
            ap (λ (s : StoredCells). cell_of s.kind c.args.row c.args.column c.args.field.now) old
                ∙ cell-number c.args.row c.args.column c.args.field.now w.in-Some.number (sym w.int_of.ensures.value ∙ w.in-Some.is),
            ap (λ numbers. map (λ number. Int number) numbers) (w.push.ensures.items ∙ rw w.in_ok-push-in-Some.was (ap (λ n. w.in-Ints.numbers.items ++ n ∷ []) (to_z-of_z w64 w.in-Some.number (search rules))))
                ∙ map_push (λ number. Int number) w.in-Ints.numbers.items w.in-Some.number ∙ sym (ap (λ (s : StoredCells). s.cells ++ value ∷ []) old),
          )
      | in-Ints+in-None w ↦ rw w.result-is tt
      | in-Texts+in-Ok+in_ok-add-in-Ok w ↦
          let old = was c (Texts w.in-Texts.texts) w.in-Texts.is in
          rw (w.result-is, w.self-inside-is) (
            Text c.args.field.now,
            ap (λ (s : StoredCells). cell_of s.kind c.args.row c.args.column c.args.field.now) old
                ∙ cell-text c.args.row c.args.column c.args.field.now w.in-Ok.ensures.cases.1,
            ap (λ (texts : List (List ℕ)). map (λ text. Text text) texts) (w.in_ok-add-in-Ok.ensures.ok ∙ ap (λ (text : List ℕ). w.in-Texts.texts.texts ++ text ∷ []) w.in-Ok.ensures.cases.0)
                ∙ map_push (λ (text : List ℕ). Text text) w.in-Texts.texts.texts c.args.field.now ∙ sym (ap (λ (s : StoredCells). s.cells ++ Text c.args.field.now ∷ []) old),
          )
      | in-Texts+in-Err w ↦ rw w.result-is tt
    ]

pub returns-clause-err : goal.returns-clause-err
returns-clause-err c =
    elim c.match-self.branch [
      | in-Ints+in-Some+in_ok-push-in-Some w ↦ rw w.result-is tt
      | in-Ints+in-None w ↦
          rw w.result-is
          (inr (ap (λ (s : StoredCells). cell_of s.kind c.args.row c.args.column c.args.field.now) (was c (Ints w.in-Ints.numbers) w.in-Ints.is)
          ∙ cell-no_number c.args.row c.args.column c.args.field.now (sym w.int_of.ensures.value ∙ w.in-None.is)))
      | in-Texts+in-Ok+in_ok-add-in-Ok w ↦ rw w.result-is tt
      | in-Texts+in-Err w ↦
          rw w.result-is
          (inr (ap (λ (s : StoredCells). cell_of s.kind c.args.row c.args.column c.args.field.now) (was c (Texts w.in-Texts.texts) w.in-Texts.is)
          ∙ cell-no_text c.args.row c.args.column c.args.field.now w.in-Err.ensures.cases.0))
    ]
