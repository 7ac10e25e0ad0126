use Rattle.std.proofs.Common.{◌∙◌, ap, rules, Result, Ok, Err}
use Rattle.rs_grammar.specs.Grammar.{One, Use, name, optional, plain, word, ◌⨟◌}
use Rattle.rs_grammar.specs.Kinds.{plain_names}
use Rattle.rs_grammar.specs.Reading.{State}
use Rattle.rs_grammar.specs.declared.kind.TokenKind.TheVariants.{Dot}
use Rattle.rs_syntax.specs.Expressions.{column_in}
use Rattle.rs_syntax.specs.Reads.{Found, Reads}
use Rattle.rs_syntax.specs.Trees.{leaf_name, qualified}
use Rattle.rs_syntax.specs.declared.name.ColRef.{ColRef}
use Rattle.rs_syntax.specs.declared.name.Name.{Name}
use Rattle.rs_syntax.specs.declared.parser.ParserFault.{ParserFault}
use Rattle.rs_syntax.proofs.Steps.{read-both, read-rule, found, halts-first, halts-then, halts-rule, goes_on}
use Rattle.rs_syntax.proofs.parser.Parser.plain.Goals as goal

-- a name was read, and what stands behind it is read or not
Reads-qualified : (b x a : State) (first : Name) (result : Result ColRef ParserFault) → Found (One plain_names) leaf_name b x first
    → Reads (optional (word Dot ⨟ name)) (qualified first) (λ c. c) x a result → Reads (Use plain) column_in (λ c. c) b a result
Reads-qualified b x a first (Ok column) h r = found (read-rule (read-both h.read r.read)) (ap (λ n. qualified n r.tree) h.means ∙ r.means)
Reads-qualified b x a first (Err fault) h r = halts-rule (halts-then h.read r)

pub returns-in_err-first : goal.returns-in_err-first
returns-in_err-first c = goes_on _ _ (search rules) (halts-rule (halts-first c.in_err-first.ensures))

pub returns : goal.returns
returns c = Reads-qualified _ _ _ c.in_ok-first.first c.qualify.result c.in_ok-first.ensures c.qualify.ensures
