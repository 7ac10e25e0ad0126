-- The word `check`: whether a certificate proves its answer.
use Rattle.std.specs.Prelude.{ℕ, ◌≡◌, ◌⊎◌, List, [], ◌∷◌, ◌++◌, codes, Option, Result, Ok, Err}
use Rattle.std.specs.Fmt.{decimal}
use Rattle.rs_cert.specs.declared.cert.Cert.{Cert}
use Rattle.rs_cert.specs.declared.verdict.Verdict.{Verdict}
use Rattle.rs_cert.specs.declared.verdict.Verdict.TheVariants.{Yes, Order, Pairs, Short, Left, Right}
use Rattle.rs_lines.specs.Records.{records_of}
use Rattle.rs_cert.specs.Records.{AreRecordsOf, IsForm}
use Rattle.rs_cert.specs.Verdicts.{IsVerdict}
use Rattle.rs_events.specs.Events.{Fetch}
use Rattle.rs_outside.specs.Files.{Finds}
use Rattle.rs_events.specs.Fetching.{fetched_bytes}
use Rattle.rs_events.specs.Run.{Run, behind, fails, lines_run}
use Rattle.rs_words.specs.declared.fault.WordFault.{WordFault}
use Rattle.rs_words.specs.declared.fault.WordFault.TheVariants.{CertForm, Memory}
use Rattle.rs_words.specs.Faults.{or_read}
use Rattle.rs_words.specs.FeedFiles.{file_limit}

-- the line of a verdict
abbrev pub verdict_line : Verdict → List ℕ
verdict_line Yes = codes "yes\n"
verdict_line (Order side row) = codes "no Order side " ++ decimal side ++ codes " row " ++ decimal row ++ 10 ∷ []
verdict_line Pairs = codes "no Pairs\n"
verdict_line Short = codes "no Short\n"
verdict_line Left = codes "no Left\n"
verdict_line Right = codes "no Right\n"

-- the run behind the fetch of a file with these bytes: they are no certificate from some record on, or the verdict on the certificate is put
pub data IsCheckedRun (bytes : List ℕ) : Run WordFault → Type 0 where
  strange : (place : ℕ) → IsForm (records_of bytes) place → IsCheckedRun bytes (fails (CertForm place))
  judged : (cert : Cert) (verdict : Verdict) → AreRecordsOf cert (records_of bytes) → IsVerdict cert verdict → IsCheckedRun bytes (lines_run (verdict_line verdict ∷ []))

-- the same, where the file may not be read
abbrev pub IsReadRun : Result (List ℕ) WordFault → Run WordFault → Type 0
IsReadRun (Err fault) run = run ≡ fails fault
IsReadRun (Ok bytes) run = IsCheckedRun bytes run

-- the run of the word: the file is fetched, and then the verdict is put, or the first record is told with which no
-- certificate begins
abbrev pub IsCheckRun : Finds → List ℕ → Run WordFault → Type 0
IsCheckRun finds file run =
    (there : Option (List ℕ)) × finds file there × (more : Run WordFault) × IsReadRun (or_read 1 (fetched_bytes file_limit there)) more × (run ≡ behind (Fetch file ∷ []) more)

-- the bytes are those of this certificate, or no certificate from this record on, or there was no memory
abbrev pub IsCertIn : List ℕ → Result Cert WordFault → Type 0
IsCertIn bytes (Ok cert) = AreRecordsOf cert (records_of bytes)
IsCertIn bytes (Err fault) = (fault ≡ Memory) ⊎ ((place : ℕ) × (fault ≡ CertForm place) × IsForm (records_of bytes) place)
