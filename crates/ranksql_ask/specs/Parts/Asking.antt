-- What words ask for, as a form.
use Rattle.rs_run.specs.Words.{Form, RunScript}
use Rattle.rs_prepare.specs.Preparing.{end_words}
use Rattle.ranksql_ask.specs.Words as words
use Rattle.ranksql_ask.specs.declared.words.Asking.{Asking}
use Rattle.ranksql_ask.specs.declared.words.Request.{Request}

-- the form of what is asked for
abbrev pub form_of_asking : Asking → Form
form_of_asking asking = RunScript asking.script.now asking.evaluating

-- the request that was made of words
abbrev pub request_made : Request → words.Request
request_made request = record { names = request.names.items; ends = end_words request.ends; form = form_of_asking request.asking }
