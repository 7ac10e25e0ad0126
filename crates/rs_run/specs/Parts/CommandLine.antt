-- What a command asks for, as its words say it.
use Rattle.std.specs.Prelude.{◌≤◌}
use Rattle.rs_cert.specs.Records.{most_wanted}
use Rattle.rs_words.specs.TwoFeeds.{FeedWords}
use Rattle.rs_run.specs.declared.words.FeedCommand.{FeedCommand}
use Rattle.rs_run.specs.declared.words.TopCommand.{TopCommand}
use Rattle.rs_run.specs.declared.words.CommandLine.{CommandLine}
use Rattle.rs_run.specs.declared.words.CommandLine.TheVariants as command
use Rattle.rs_run.specs.Words.{Certify, Check, Feed, Form, RunGenerated, RunScript, Threshold, Top, TopWords, Views}

abbrev pub words_of : TopCommand → TopWords
words_of top = record { file = top.file.now; column = top.column.now; max = top.max; count = top.count }

abbrev pub feed_words_of : FeedCommand → FeedWords
feed_words_of feed = record { left = feed.left.now; right = feed.right.now; count = feed.count }

-- the form that a command is of
abbrev pub form_of_command_line : CommandLine → Form
form_of_command_line (command.Top top) = Top (words_of top)
form_of_command_line (command.RunScript script evaluating) = RunScript script.now evaluating
form_of_command_line (command.RunGenerated number rows) = RunGenerated number rows
form_of_command_line (command.Threshold script) = Threshold script.now
form_of_command_line (command.Feed feed) = Feed (feed_words_of feed)
form_of_command_line (command.Certify feed) = Certify (feed_words_of feed)
form_of_command_line (command.Check file) = Check file.now
form_of_command_line (command.Views script) = Views script.now

-- of a certificate at most so many pairs are wanted as can be
abbrev pub HasCertCount : Form → Type 0
HasCertCount (Certify words) = words.count ≤ most_wanted
HasCertCount _ = Unit {0}
