-- Certificates to which the word `check` says yes.
use Rattle.std.specs.Prelude.{ℕ, ◌≡◌, List, [], ◌∷◌, codes}
use Rattle.rs_cert.specs.declared.cert.Cert.{Cert}
use Rattle.rs_lines.specs.Records.{records_of}
use Rattle.rs_cert.specs.Good.{IsGood}
use Rattle.rs_cert.specs.Records.{AreRecordsOf}
use Rattle.rs_events.specs.Events.{Fetch}
use Rattle.rs_events.specs.Run.{Run, behind, lines_run}
use Rattle.rs_words.specs.declared.fault.WordFault.{WordFault}

-- bytes are those of a certificate for so many wanted pairs, and it proves its answer
pub record IsGoodCert (wanted : ℕ) (bytes : List ℕ) : Type 0 where
  pub cert : Cert
  pub are : AreRecordsOf cert (records_of bytes)
  pub wants : cert.k ≡ wanted
  pub good : IsGood cert

-- the run of the word `check` that says yes
abbrev pub yes_run : List ℕ → Run WordFault
yes_run file = behind (Fetch file ∷ []) (lines_run (codes "yes\n" ∷ []))
