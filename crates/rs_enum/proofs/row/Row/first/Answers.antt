-- The plan without an operator at the root comes last.
use Rattle.std.proofs.Common.{◌∙◌, ap, sym, subst}
use Rattle.rs_sample.specs.Kept.{cards_of}
use Rattle.rs_enum.specs.Given.{IsTheFirstIn}
use Rattle.rs_enum.specs.Places.{cheaper}
use Rattle.rs_enum.proofs.TopFacts.{base-found, top-cheaper}
use Rattle.rs_enum.specs.Tops.{base_top}
use Rattle.rs_enum.proofs.row.Row.first.Goals as goal

pub returns : goal.returns
returns c = λ kept tops is same are.
    subst (IsTheFirstIn c.args.self.now kept tops c.args.evaluated 10) (sym (c.cheaper.ensures ∙ ap (cheaper c.first_rank.result) same))
    (top-cheaper c.args.self.now.planning.catalog.now c.args.self.now.planning.query.now c.requires.row.planning.query (cards_of c.args.self.now.planning.cards.now)
    c.args.self.now.extent c.requires.row.topped kept tops c.args.evaluated
    9 c.first_rank.result (base_top kept) (c.first_rank.ensures kept tops are)
    (base-found c.args.self.now.planning.catalog.now c.args.self.now.planning.query.now c.requires.row.planning.query (cards_of c.args.self.now.planning.cards.now)
    c.args.self.now.extent c.requires.row.topped kept tops c.args.evaluated is))
