use Rattle.std.proofs.Common.{◌≡◌, subst, sym}
use Rattle.std.specs.Prelude.{IfOk}
use Rattle.rs_catalog.specs.Catalog.{CatalogDef}
use Rattle.rs_exec.specs.Cursors.{StandsFor}
use Rattle.rs_statement.specs.Parts.Session.{IsAskedMore, next_of_cursor, wanted_step}
use Rattle.rs_statement.specs.Parts.Steps.{Stepped}
use Rattle.rs_statement.proofs.session.fetch_seen.Goals as goal

pub fetch_asked-requires : goal.fetch_asked-requires
fetch_asked-requires g c = subst (λ (seen : CatalogDef). StandsFor seen (g.W.Host.state c.args.host.now).scorer.answer c.args.cursor.now) (sym c.of.ensures) c.requires.stands

pub returns : goal.returns
returns g c =
    let old = g.W.Host.state c.args.host.now in
    let new = g.W.Host.state c.fetch_asked.new.host in
    let answer = old.scorer.answer in
    let cursor = c.args.cursor.now in
    let next = c.fetch_asked.new.cursor in
    let result = c.fetch_asked.result in record {
      puts = subst (λ (seen : CatalogDef). Stepped (λ step. step ≡ wanted_step seen answer cursor c.args.count) seen result old new) c.of.ensures c.fetch_asked.ensures.puts;
      count = subst (λ (seen : CatalogDef). IfOk result (λ _. IsAskedMore cursor (next_of_cursor seen answer cursor c.args.count) next)) c.of.ensures c.fetch_asked.ensures.count;
      stands = subst (λ (seen : CatalogDef). IfOk result (λ _. StandsFor seen answer next)) c.of.ensures c.fetch_asked.ensures.stands;
    }
