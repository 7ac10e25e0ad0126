use Rattle.std.proofs.Common.{◌≡◌, true, ◌∷◌, rules, sym, refl}
use Rattle.rs_grammar.specs.Kinds.{names}
use Rattle.rs_grammar.specs.Reading.{next_is}
use Rattle.rs_grammar.specs.declared.kind.TokenKind.TheVariants.{As}
use Rattle.rs_syntax.proofs.Blocks.{next_is-neither, next_is-one, next_is-others}
use Rattle.rs_syntax.proofs.Steps.{read-both, read-not, read-this, found, halts-then, halts-this, goes_on}
use Rattle.rs_syntax.proofs.parser.Parser.alias.Goals as goal
use Rattle.rs_syntax.proofs.parser.Parser.alias.Goals.{else-not-at-via-then-not-at+else-not-at_name, else-not-at-via-else-not-at}

pub returns-then-not-at_name : goal.returns-then-not-at_name
returns-then-not-at_name c = found (read-not (next_is-neither As names c.args.self.now.rest (sym c.if-not-at.ensures) (sym c.if-not-at_name.ensures))) refl

pub returns-in_err-alias : goal.returns-in_err-alias
returns-in_err-alias c =
    let opened : next_is (As ∷ names) c.args.self.now.rest ≡ true = elim c.else-not-at.branch [
      | else-not-at-via-then-not-at+else-not-at_name w ↦ next_is-others As names c.args.self.now.rest (sym w.if-not-at_name.ensures)
      | else-not-at-via-else-not-at w ↦ next_is-one As names c.args.self.now.rest (sym w.if-not-at.ensures)
    ] in
    goes_on _ _ (search rules) (halts-this opened (halts-then c.in_ok-accept.ensures.read c.in_err-alias.ensures))

pub returns : goal.returns
returns c =
    let opened : next_is (As ∷ names) c.args.self.now.rest ≡ true = elim c.else-not-at.branch [
      | else-not-at-via-then-not-at+else-not-at_name w ↦ next_is-others As names c.args.self.now.rest (sym w.if-not-at_name.ensures)
      | else-not-at-via-else-not-at w ↦ next_is-one As names c.args.self.now.rest (sym w.if-not-at.ensures)
    ] in
    let m = c.in_ok-alias.ensures.means in
    found (read-this opened (read-both c.in_ok-accept.ensures.read c.in_ok-alias.ensures.read)) cc
