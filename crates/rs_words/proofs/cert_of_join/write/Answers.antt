use Rattle.std.proofs.Common.{◌≤◌, subst, sym}
use Rattle.rs_cert.specs.declared.cert.Cert.{Cert}
use Rattle.rs_cert.specs.Records.{HasFewRows, most_wanted}
use Rattle.rs_words.proofs.cert_of_join.write.Goals as goal

pub write-requires-clause-wanted : goal.write-requires-clause-wanted
write-requires-clause-wanted c = subst (λ (cert : Cert). cert.k ≤ most_wanted) (sym c.in_ok-cert.ensures.cert) c.requires.wanted

pub write-requires-clause-few : goal.write-requires-clause-few
write-requires-clause-few c = subst HasFewRows (sym c.in_ok-cert.ensures.cert) (record { left = c.requires.left; right = c.requires.right })
