-- The rows that were ranked are those of the index's table, and one more index may be inside, where there is room for its name.
use Rattle.std.proofs.Common.{◌≡◌, ℕ, List, length, ap, ◌∙◌, sym, subst, refl}
use Rattle.std.specs.Prelude.{OnOk, Ok, ◌++◌, ◌∷◌, []}
use Rattle.std.specs.Map.{keys_of}
use Rattle.rs_catalog.specs.Catalog.{room_in, room_for, with_index}
use Rattle.rs_catalog.specs.Indexes.{IsRanking, making, rows_for, predicate_for}
use Rattle.rs_catalog.specs.Inside.{IsRanked, catalogue_of}
use Rattle.rs_catalog.specs.declared.index.IndexFault.TheVariants.{Memory}
use Rattle.rs_catalog.specs.declared.catalog.RankIndex.{RankIndex as StoredIndex}
use Rattle.rs_catalog.specs.declared.room.What.TheVariants.{Index}
use Rattle.rs_value.proofs.ResultFacts.{given-err}
use Rattle.rs_expr.proofs.InOrderFacts.{Inquires-unheld}
use Rattle.rs_catalog.proofs.GrowthFacts.{IsInside-index_put, max_for-index, rows_for-table, with_index-put}
use Rattle.rs_catalog.specs.Making.{MakesIndex}
use Rattle.rs_catalog.proofs.MakeFacts.{Inquires-making, MakesIndex-err, MakesIndex-ok}
use Rattle.rs_catalog.proofs.NameFacts.{free_from_room}
use Rattle.rs_catalog.proofs.catalog.Catalog.add_index.Goals as goal
use Rattle.rs_catalog.proofs.catalog.Catalog.add_index.Goals.{in-Ok, in-Err}

pub invariant_of-self : goal.invariant_of-self
invariant_of-self g c =
    let fields = c.self.inside in
    let def = c.args.def in
    let catalogue = c.args.self.now in
    let rows = rows_for-table catalogue def c.table-table.result.now c.table-table.ensures in
    let max = max_for-index catalogue def c.predicate-predicate.result.now c.predicate-predicate.ensures in
    let ranking : IsRanking (length (rows_for catalogue def)) (predicate_for catalogue def).max c.in_ok-ranked.ranked.ranking.items =
    subst (λ most. IsRanking (length (rows_for catalogue def)) most c.in_ok-ranked.ranked.ranking.items) (sym max)
    (subst (λ rows. IsRanking (length rows) c.predicate-predicate.result.now.max c.in_ok-ranked.ranked.ranking.items) (sym rows) c.in_ok-ranked.ensures.ranking) in
    let ranked : IsRanked catalogue (record { def = def; ranking = c.in_ok-ranked.ranked.ranking.items }) = record { fits = c.requires.fits; ranking = ranking } in
    IsInside-index_put fields.tables.entries fields.predicates.entries fields.indexes.entries c.self.invariant (record { def = def; ranking = c.in_ok-ranked.ranked.ranking; scores = c.in_ok-ranked.ranked.scores }) c.put_last.new.list.entries c.put_last.result
    (subst (λ name. OnOk c.put_last.result (c.put_last.new.list.entries ≡ fields.indexes.entries ++ (name, record { def = def; ranking = c.in_ok-ranked.ranked.ranking; scores = c.in_ok-ranked.ranked.scores }) ∷ [])) c.in_ok-name.ensures c.put_last.ensures.ok) c.put_last.ensures.err
    (subst (λ catalogue. IsRanked catalogue (record { def = def; ranking = c.in_ok-ranked.ranked.ranking.items })) (sym c.self.view_is) ranked) c.in_ok-ranked.ensures.scores
    (free_from_room def.name 64 (keys_of fields.indexes.entries) (ap (room_in def.name 64) c.self.invariant.index_keys ∙ ap (room_for Index def.name) c.self.view_is ∙ c.requires.room))

pub returns-in_err-name : goal.returns-in_err-name
returns-in_err-name g c =
    let answer = (g.S.Scorer.state c.args.scorer.now).answer in
    let inquires = Inquires-making answer c.args.self.now c.args.def c.table-table.result.now c.predicate-predicate.result.now c.deref.result.now (Ok c.in_ok-ranked.ranked.ranking.items) (g.S.Scorer.state c.args.scorer.now) (g.S.Scorer.state c.rank_rows.new.scorer)
    c.table-table.ensures c.predicate-predicate.ensures (c.deref.ensures.value ∙ c.items.ensures) c.in_ok-ranked.ensures.ranks in
    let making = making answer c.args.self.now c.args.def in
    record {
      makes = subst (λ result. MakesIndex making c.args.def c.args.self.now c.args.self.now result (g.S.Scorer.state c.args.scorer.now) (g.S.Scorer.state c.rank_rows.new.scorer))
          (sym (given-err c.from_residual-in_err-name.result Memory c.from_residual-in_err-name.ensures))
          (MakesIndex-err making c.args.def Memory c.args.self.now c.args.self.now _ _ (Inquires-unheld Memory making c.in_ok-ranked.ranked.ranking.items _ _ inquires) refl);
    }

pub returns : goal.returns
returns g c =
    let fields = c.self.inside in
    let answer = (g.S.Scorer.state c.args.scorer.now).answer in
    let inquires = Inquires-making answer c.args.self.now c.args.def c.table-table.result.now c.predicate-predicate.result.now c.deref.result.now (Ok c.in_ok-ranked.ranked.ranking.items) (g.S.Scorer.state c.args.scorer.now) (g.S.Scorer.state c.rank_rows.new.scorer)
    c.table-table.ensures c.predicate-predicate.ensures (c.deref.ensures.value ∙ c.items.ensures) c.in_ok-ranked.ensures.ranks in
    let making = making answer c.args.self.now c.args.def in
    let view = λ (entries : List (List ℕ × StoredIndex)). catalogue_of fields.tables.entries fields.predicates.entries entries in
    record {
      makes = elim c.match-put_last.branch [
        | in-Ok w ↦ rw w.result-is (MakesIndex-ok making c.args.def c.in_ok-ranked.ranked.ranking.items c.args.self.now _ _ _ inquires
            (ap view w.in-Ok.ensures.ok ∙ with_index-put fields.tables.entries fields.predicates.entries fields.indexes.entries c.self.invariant c.in_ok-name.name (record { def = c.args.def; ranking = c.in_ok-ranked.ranked.ranking; scores = c.in_ok-ranked.ranked.scores })
            ∙ ap (with_index c.args.def c.in_ok-ranked.ranked.ranking.items) c.self.view_is))
        | in-Err w ↦ rw w.result-is (MakesIndex-err making c.args.def Memory c.args.self.now _ _ _ (Inquires-unheld Memory making c.in_ok-ranked.ranked.ranking.items _ _ inquires) (ap view w.in-Err.ensures.err ∙ c.self.view_is))
      ];
    }
