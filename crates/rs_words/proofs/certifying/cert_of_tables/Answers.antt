use Rattle.std.proofs.Common.{◌≡◌, ◌∙◌, ◌⊎◌, Ok, Err, ap, refl, subst, sym}
use Rattle.rs_cert.specs.declared.cert.Cert.{Cert}
use Rattle.rs_words.specs.declared.fault.WordFault.{WordFault}
use Rattle.rs_words.specs.declared.fault.WordFault.TheVariants.{Memory}
use Rattle.rs_words.specs.Certifying.{certified}
use Rattle.rs_words.specs.Drawing.{DrawsAsCertified}
use Rattle.rs_words.proofs.CallFacts.{joining-after, of-short, rows-kept}
use Rattle.rs_words.proofs.CertifyFacts.{certified-given, certified-stopped}
use Rattle.rs_words.proofs.DrawingFacts.{draws-certified, draws-short}
use Rattle.rs_words.proofs.PuttingFacts.{ended_by, went_well}
use Rattle.rs_words.proofs.certifying.cert_of_tables.Goals as goal

pub returns-in-Ok-clause-cert : goal.returns-in-Ok-clause-cert
returns-in-Ok-clause-cert c =
    let left = c.args.left.now in
    let right = c.args.right.now in
    let join = c.certify.new.join in
    let ensures = c.in-Ok.ensures in
    let counted = ensures.leaves.counted ensures.whole in
    certified-given left.rows right.rows c.args.count join c.certify.new.left c.certify.new.right c.in-Ok.cert.pairs
    (rows-kept left.rows c.certify.new.left.rows ensures.leaves.left_told) (rows-kept right.rows c.certify.new.right.rows ensures.leaves.right_told)
    (joining-after left right c.certify.new.left c.certify.new.right c.requires.left c.requires.right join went_well ensures.leaves ensures.whole) counted.0 counted.1
    (ensures.told left.rows right.rows refl refl c.requires.left.scores c.requires.right.scores)
    ∙ ap Ok (sym ensures.cert)

pub returns-in-Ok-clause-draws : goal.returns-in-Ok-clause-draws
returns-in-Ok-clause-draws c =
    let left = c.args.left.now in
    let right = c.args.right.now in
    let ensures = c.in-Ok.ensures in
    draws-certified left.rows right.rows c.args.count c.certify.new.join c.certify.new.left c.certify.new.right ensures.leaves.left_drawn.draws ensures.leaves.right_drawn.draws c.in-Ok.cert.pairs
    (ensures.told left.rows right.rows refl refl c.requires.left.scores c.requires.right.scores)

pub join_fault-requires : goal.join_fault-requires
join_fault-requires c =
    let left = c.args.left.now in
    let right = c.args.right.now in
    let ensures = c.in-Err.ensures in
    of-short left right c.certify.new.left c.certify.new.right c.requires.left c.requires.right c.certify.new.join (ended_by c.in-Err.why) ensures.leaves c.args.count c.in-Err.why refl
    (ensures.told left.rows right.rows refl refl c.requires.left.scores c.requires.right.scores)

pub returns-clause-cert : goal.returns-clause-cert
returns-clause-cert c =
    let left = c.args.left.now in
    let right = c.args.right.now in
    let ensures = c.in-Err.ensures in
    let short = ensures.told left.rows right.rows refl refl c.requires.left.scores c.requires.right.scores in
    let of = of-short left right c.certify.new.left c.certify.new.right c.requires.left c.requires.right c.certify.new.join (ended_by c.in-Err.why) ensures.leaves c.args.count c.in-Err.why refl short in
    subst (λ (fault : WordFault). (fault ≡ Memory) ⊎ (certified left.rows right.rows c.args.count ≡ Err fault)) (sym c.join_fault.ensures)
    (certified-stopped left.rows right.rows c.args.count c.in-Err.why c.certify.new.join of short)

pub returns-clause-draws : goal.returns-clause-draws
returns-clause-draws c =
    let left = c.args.left.now in
    let right = c.args.right.now in
    let ensures = c.in-Err.ensures in
    let short = ensures.told left.rows right.rows refl refl c.requires.left.scores c.requires.right.scores in
    let of = of-short left right c.certify.new.left c.certify.new.right c.requires.left c.requires.right c.certify.new.join (ended_by c.in-Err.why) ensures.leaves c.args.count c.in-Err.why refl short in
    subst (λ (fault : WordFault). DrawsAsCertified {A = Cert} left.rows right.rows c.args.count (Err fault) c.certify.new.left c.certify.new.right) (sym c.join_fault.ensures)
    (draws-short left.rows right.rows c.args.count c.certify.new.join c.certify.new.left c.certify.new.right ensures.leaves.left_drawn.draws ensures.leaves.right_drawn.draws Cert c.in-Err.why of short)
