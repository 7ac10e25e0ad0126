-- A text that isn't lexed or parsed is refused; else it is made of the statements.
use Rattle.rs_run.proofs.TextFacts.{HasTokens-slice, refused-unlexed, refused-unparsed}
use Rattle.rs_run.proofs.known_script.read_script.Goals as goal

pub returns-in_err-tokens-clause-refused : goal.returns-in_err-tokens-clause-refused
returns-in_err-tokens-clause-refused c =
    refused-unlexed c.args.text c.in_err-tokens.field-0.0 c.from_residual.result c.from_residual.ensures c.in_err-tokens.ensures.refused

pub returns-in_err-statements-clause-refused : goal.returns-in_err-statements-clause-refused
returns-in_err-statements-clause-refused c =
    refused-unparsed c.args.text c.deref.result.now c.in_err-statements.field-0.0 c.from_residual-in_err-statements.result c.from_residual-in_err-statements.ensures
    (HasTokens-slice _ _ _ c.in_ok-tokens.ensures.spells c.in_ok-tokens.ensures.few c.deref.ensures.value) c.in_err-statements.ensures.refused

pub invariant_of-result : goal.invariant_of-result
invariant_of-result c = record {
  made = record {
    tokens = c.deref.result.now;
    lexed = HasTokens-slice _ _ _ c.in_ok-tokens.ensures.spells c.in_ok-tokens.ensures.few c.deref.ensures.value;
    parsed = c.in_ok-statements.ensures.found;
    sound = c.in_ok-statements.ensures.sound;
  };
  written = c.in_ok-statements.ensures.written;
}
