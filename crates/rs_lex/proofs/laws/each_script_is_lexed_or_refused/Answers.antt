use Rattle.rs_lex.proofs.EachFacts.{script-is_lexed}
use Rattle.rs_lex.proofs.laws.each_script_is_lexed_or_refused.Goals as goal

pub returns : goal.returns
returns c = λ script. script-is_lexed script
