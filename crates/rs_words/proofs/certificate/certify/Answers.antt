use Rattle.std.proofs.Common.{◌∙◌, ap, subst, sym}
use Rattle.rs_value.proofs.ResultFacts.{given-err}
use Rattle.rs_cert.specs.declared.cert.Cert.{Cert}
use Rattle.rs_feed_join.specs.declared.fault.JoinFault.TheVariants.{Memory}
use Rattle.rs_words.specs.Gathering.{GivesAll, StopsShort}
use Rattle.rs_words.proofs.GatheringFacts.{given-short}
use Rattle.rs_words.proofs.PuttingFacts.{ended_by, may-short, told-of, went_well}
use Rattle.rs_words.proofs.certificate.certify.Goals as goal

pub returns-in_err-pairs-clause-told : goal.returns-in_err-pairs-clause-told
returns-in_err-pairs-clause-told g c =
    let why = c.in_err-pairs.field-0.0 in
    let join = c.first_pairs.new.join in
    rw (given-err c.from_residual.result why c.from_residual.ensures)
    (told-of (λ lefts rights. StopsShort lefts rights c.args.count why join) join (g.L.Feed.state c.args.left.now) (g.L.Feed.state c.first_pairs.new.left) (g.R.Feed.state c.args.right.now)
    (g.R.Feed.state c.first_pairs.new.right) (ended_by why) c.in_err-pairs.ensures.leaves c.in_err-pairs.ensures.pairs)

pub returns-in_err-pairs-clause-untold : goal.returns-in_err-pairs-clause-untold
returns-in_err-pairs-clause-untold g c = rw (given-err c.from_residual.result c.in_err-pairs.field-0.0 c.from_residual.ensures) c.in_err-pairs.ensures.pairs

pub returns-in_err-pairs-clause-leaves : goal.returns-in_err-pairs-clause-leaves
returns-in_err-pairs-clause-leaves g c = rw (given-err c.from_residual.result c.in_err-pairs.field-0.0 c.from_residual.ensures) c.in_err-pairs.ensures.leaves

pub returns-in_err-pairs-clause-whole : goal.returns-in_err-pairs-clause-whole
returns-in_err-pairs-clause-whole g c = rw (given-err c.from_residual.result c.in_err-pairs.field-0.0 c.from_residual.ensures) c.in_err-pairs.ensures.whole

-- there was no memory for the certificate
pub returns-in_err-cert_of-clause-told : goal.returns-in_err-cert_of-clause-told
returns-in_err-cert_of-clause-told g c =
    let join = c.first_pairs.new.join in
    rw (given-err c.from_residual-in_err-cert_of.result Memory c.from_residual-in_err-cert_of.ensures)
    (told-of (λ lefts rights. StopsShort lefts rights c.args.count Memory join) join (g.L.Feed.state c.args.left.now) (g.L.Feed.state c.first_pairs.new.left) (g.R.Feed.state c.args.right.now)
    (g.R.Feed.state c.first_pairs.new.right) went_well c.in_ok-pairs.ensures.leaves
    (λ lefts rights left right. given-short lefts rights c.args.count c.in_ok-pairs.pairs.items join c.in_ok-pairs.ensures.whole (c.in_ok-pairs.ensures.pairs lefts rights left right)))

pub returns-in_err-cert_of-clause-untold : goal.returns-in_err-cert_of-clause-untold
returns-in_err-cert_of-clause-untold g c =
    let join = c.first_pairs.new.join in
    rw (given-err c.from_residual-in_err-cert_of.result Memory c.from_residual-in_err-cert_of.ensures)
    (λ lefts rights left right.
    given-short lefts rights c.args.count c.in_ok-pairs.pairs.items join c.in_ok-pairs.ensures.whole
    (c.in_ok-pairs.ensures.pairs lefts rights (may-short 1 lefts join.left left) (may-short 2 rights join.right right)))

pub returns-clause-untold : goal.returns-clause-untold
returns-clause-untold g c = λ lefts rights left right.
    subst (λ list. GivesAll lefts rights c.args.count list c.first_pairs.new.join) (sym (ap (λ (cert : Cert). cert.pairs) c.in_ok-cert_of.ensures.cert ∙ c.deref.ensures.value))
    (c.in_ok-pairs.ensures.pairs lefts rights left right)

pub returns-clause-told : goal.returns-clause-told
returns-clause-told g c =
    let join = c.first_pairs.new.join in
    told-of (λ lefts rights. GivesAll lefts rights c.args.count c.in_ok-cert_of.field-0.pairs join) join (g.L.Feed.state c.args.left.now) (g.L.Feed.state c.first_pairs.new.left) (g.R.Feed.state c.args.right.now)
    (g.R.Feed.state c.first_pairs.new.right) went_well c.in_ok-pairs.ensures.leaves (returns-clause-untold g c)
