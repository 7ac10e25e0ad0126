use Rattle.std.proofs.Common.{rules, ap}
use Rattle.rs_grammar.specs.Grammar.{Node, colref, name, optional, word, ◌⨟◌}
use Rattle.rs_grammar.specs.declared.kind.TokenKind.TheVariants.{Dot}
use Rattle.rs_syntax.specs.Trees.{colref_of, qualified}
use Rattle.rs_syntax.proofs.Steps.{halts-first, halts-rule, goes_on}
use Rattle.rs_syntax.proofs.Results.{reads-behind, reads-rule}
use Rattle.rs_syntax.proofs.parser.Parser.colref.Goals as goal

pub returns-in_err-first : goal.returns-in_err-first
returns-in_err-first c = goes_on _ _ (search rules) (halts-rule (halts-first c.in_err-first.ensures))

pub returns : goal.returns
returns c =
    reads-rule colref colref_of (λ column. column) c.args.self.now c.qualify.new.self c.qualify.result
    (reads-behind (optional (word Dot ⨟ name)) (λ t. colref_of (Node t)) (qualified c.in_ok-first.first) (λ column. column) c.qualify.new.self c.qualify.result
    c.in_ok-first.ensures.read (λ u. ap (λ first. qualified first u) c.in_ok-first.ensures.means) c.qualify.ensures)
