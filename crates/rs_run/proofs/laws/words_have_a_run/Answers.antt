use Rattle.rs_outside.specs.Files.{finds_in}
use Rattle.rs_run.proofs.EachFacts.{finds_in-has, words-have_run}
use Rattle.rs_run.proofs.laws.words_have_a_run.Goals as goal

pub returns : goal.returns
returns c = λ contents answer words. words-have_run (finds_in contents) (finds_in-has contents) answer words
