use Rattle.std.proofs.Common.{sym}
use Rattle.rs_table_feed.proofs.TableFeedFacts.{all-scores}
use Rattle.rs_table_feed.proofs.table_feed.TableFeed.new.Goals as goal

pub returns-in-None-clause-scores : goal.returns-in-None-clause-scores
returns-in-None-clause-scores c = all-scores 1 c.args.table.rows (sym c.in-None.ensures)
