use Rattle.rs_bind.proofs.ReferenceFacts.{each-refused}
use Rattle.rs_bind.proofs.WhereFacts.{holds-columns, holds-where}
use Rattle.rs_bind.proofs.laws.conjuncts_mean_where.Goals as goal

pub returns-clause-holds : goal.returns-clause-holds
returns-clause-holds c = λ catalogue written bound terms rows typed. holds-where catalogue written bound terms rows typed

pub returns-clause-columns : goal.returns-clause-columns
returns-clause-columns c = λ catalogue written bound terms rows x columns d typed is of_x.
    holds-columns catalogue written bound terms rows typed x columns d is of_x

pub returns-clause-refused : goal.returns-clause-refused
returns-clause-refused c = λ sources x. each-refused sources x
