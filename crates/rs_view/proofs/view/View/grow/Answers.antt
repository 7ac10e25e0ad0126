use Rattle.std.proofs.Common.{ℕ, List, ◌≡◌, ◌∙◌, ◌++◌, refl, sym, ap, subst}
use Rattle.std.specs.Prelude.{Ok}
use Rattle.rs_rank.specs.declared.row.RankRow.{RankRow}
use Rattle.rs_catalog.specs.Catalog.{CatalogDef}
use Rattle.rs_query.specs.Tables.{sizes_of}
use Rattle.rs_query.specs.WellFormed.{IsBlock, IsQuery}
use Rattle.rs_query.proofs.BlockFacts.{block-formed}
use Rattle.rs_plain.specs.declared.fault.PlainFault.TheVariants.{Memory}
use Rattle.rs_value.proofs.ResultFacts.{given-err}
use Rattle.rs_view.specs.Keeping.{AreFirst, AreKept, key_of_row}
use Rattle.rs_view.specs.Views.{Stands, ViewDef, most_kept}
use Rattle.rs_view.proofs.GrowFacts.{Asks-seen, Grown, Grown-done, Grown-failed, Grown-stopped}
use Rattle.rs_view.proofs.RowFacts.{kept-in_order}
use Rattle.rs_view.proofs.view.View.grow.Goals as goal

pub fresh_rows-requires : goal.fresh_rows-requires
fresh_rows-requires g c =
    subst (λ (seen : CatalogDef). IsQuery seen c.self.inside.query) (sym c.current-catalog.ensures)
    (subst (λ (v : ViewDef). IsQuery c.args.catalog.now v.query) (sym c.self.view_is) c.requires.query)

pub sizes_of-lengths-requires : goal.sizes_of-lengths-requires
sizes_of-lengths-requires g c =
    subst (λ (seen : CatalogDef). IsBlock seen c.block_in.result.now) (sym c.current-catalog.ensures)
    (subst (IsBlock c.args.catalog.now) (sym c.block_in.ensures)
    (block-formed c.args.catalog.now c.self.inside.query 1 (subst (λ (v : ViewDef). IsQuery c.args.catalog.now v.query) (sym c.self.view_is) c.requires.query)))

pub keep_first-requires : goal.keep_first-requires
keep_first-requires g c =
    let before = g.S.Scorer.state c.args.scorer.now in
    let stood = subst (Stands before.answer c.args.catalog.now) (sym c.self.view_is) c.requires in
    let many : c.most-most.result ≡ most_kept c.self.inside.query = first_of (cc (c.most-most.ensures), cc (c.most-most.ensures, ap (λ (v : ViewDef). most_kept v.query) (sym c.self.view_is))) in
    subst (λ (most : ℕ). AreKept key_of_row most c.self.inside.rows.items) (sym many)
    (kept-in_order before.answer c.args.catalog.now c.self.inside.query c.self.inside.lengths c.self.inside.rows.items stood.rows)

pub returns-in_err-more : goal.returns-in_err-more
returns-in_err-more g c =
    let old : ViewDef = record { query = c.self.inside.query; lengths = c.self.inside.lengths; rows = c.self.inside.rows.items } in
    let before = g.S.Scorer.state c.args.scorer.now in
    let after = g.S.Scorer.state c.fresh_rows.new.scorer in
    let stood = subst (Stands before.answer c.args.catalog.now) (sym c.self.view_is) c.requires in
    let many : c.most-most.result ≡ most_kept c.self.inside.query = first_of (cc (c.most-most.ensures), cc (c.most-most.ensures, ap (λ (v : ViewDef). most_kept v.query) (sym c.self.view_is))) in
    let done = subst (λ (v : ViewDef). Grown c.args.catalog.now v c.args.self.now c.from_residual.result before after) c.self.view_is
    (Grown-failed c.args.catalog.now old before after stood c.args.self.now c.from_residual.result c.in_err-more.field-0.0
    (given-err c.from_residual.result c.in_err-more.field-0.0 c.from_residual.ensures) (sym c.self.view_is)
    (Asks-seen c.args.catalog.now old before after stood c.current-catalog.result c.most-most.result _ c.current-catalog.ensures many c.in_err-more.ensures)) in
    record { grows = done.grows; ok = done.ok; err = done.err; stands = done.stands; names = done.names }

pub returns-in_err-keep_first : goal.returns-in_err-keep_first
returns-in_err-keep_first g c =
    let old : ViewDef = record { query = c.self.inside.query; lengths = c.self.inside.lengths; rows = c.self.inside.rows.items } in
    let new : ViewDef = record { query = c.self.inside.query; lengths = c.self.inside.lengths; rows = c.keep_first.new.rows.items } in
    let before = g.S.Scorer.state c.args.scorer.now in
    let after = g.S.Scorer.state c.fresh_rows.new.scorer in
    let stood = subst (Stands before.answer c.args.catalog.now) (sym c.self.view_is) c.requires in
    let many : c.most-most.result ≡ most_kept c.self.inside.query = first_of (cc (c.most-most.ensures), cc (c.most-most.ensures, ap (λ (v : ViewDef). most_kept v.query) (sym c.self.view_is))) in
    let done = subst (λ (v : ViewDef). Grown c.args.catalog.now v new c.from_residual-in_err-keep_first.result before after) c.self.view_is
    (Grown-stopped c.args.catalog.now old before after stood new c.from_residual-in_err-keep_first.result c.in_ok-more.more.items
    (given-err c.from_residual-in_err-keep_first.result Memory c.from_residual-in_err-keep_first.ensures)
    (ap (λ (rows : List RankRow). record { query = c.self.inside.query; lengths = c.self.inside.lengths; rows = rows }) c.in_err-keep_first.ensures.err)
    (Asks-seen c.args.catalog.now old before after stood c.current-catalog.result c.most-most.result _ c.current-catalog.ensures many c.in_ok-more.ensures)) in
    record { grows = done.grows; ok = done.ok; err = done.err; stands = done.stands; names = done.names }

pub returns : goal.returns
returns g c =
    let old : ViewDef = record { query = c.self.inside.query; lengths = c.self.inside.lengths; rows = c.self.inside.rows.items } in
    let new : ViewDef = record { query = c.self.inside.query; lengths = c.sizes_of-lengths.result; rows = c.keep_first.new.rows.items } in
    let before = g.S.Scorer.state c.args.scorer.now in
    let after = g.S.Scorer.state c.fresh_rows.new.scorer in
    let stood = subst (Stands before.answer c.args.catalog.now) (sym c.self.view_is) c.requires in
    let many : c.most-most.result ≡ most_kept c.self.inside.query = first_of (cc (c.most-most.ensures), cc (c.most-most.ensures, ap (λ (v : ViewDef). most_kept v.query) (sym c.self.view_is))) in
    let done = subst (λ (v : ViewDef). Grown c.args.catalog.now v new (Ok tt) before after) c.self.view_is
    (Grown-done c.args.catalog.now old before after stood new c.in_ok-more.more.items c.self.invariant refl
    (c.sizes_of-lengths.ensures.value ∙ ap (λ (seen : CatalogDef). sizes_of seen c.block_in.result.now) c.current-catalog.ensures ∙ ap (sizes_of c.args.catalog.now) c.block_in.ensures)
    (Asks-seen c.args.catalog.now old before after stood c.current-catalog.result c.most-most.result _ c.current-catalog.ensures many c.in_ok-more.ensures)
    (subst (λ (most : ℕ). AreFirst key_of_row most (c.self.inside.rows.items ++ c.in_ok-more.more.items) c.keep_first.new.rows.items) many c.in_ok-keep_first.ensures.ok)) in
    record { grows = done.grows; ok = done.ok; err = done.err; stands = done.stands; names = done.names }
