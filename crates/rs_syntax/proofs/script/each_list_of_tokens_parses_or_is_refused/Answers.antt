use Rattle.rs_syntax.proofs.EachFacts.{each_is_parsed}
use Rattle.rs_syntax.proofs.script.each_list_of_tokens_parses_or_is_refused.Goals as goal

pub returns : goal.returns
returns c = λ text tokens. each_is_parsed text tokens
