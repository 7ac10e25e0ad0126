-- The records of a certificate are read one by one, up to the first one with which no certificate begins.
use Rattle.std.proofs.Common.{◌≡◌, ◌⊎◌, ℕ, zero, suc, ◌+◌, ◌≤◌, ◌<◌, List, [], ◌∷◌, ◌++◌, length, map, take, drop, Option, Some, None, Result, Ok, Err, codes, refl, sym, ap, ◌∙◌, subst, inl, inr, arith}
use Rattle.std.proofs.lemmas.List.{take-append-drop, take-take}
use Rattle.rs_value.specs.Results.{◌>>=◌}
use Rattle.rs_cert.specs.declared.cert.Cert.{Cert}
use Rattle.rs_cert.specs.declared.entry.Entry.{Entry}
use Rattle.rs_cert.specs.declared.fault.CertFault.{CertFault}
use Rattle.rs_cert.specs.declared.fault.CertFault.TheVariants.{Form, Memory}
use Rattle.rs_lines.specs.Records.{Fields}
use Rattle.rs_cert.specs.Growing.{cert_of, new_cert, next_cert, or_form, with_record, with_records}
use Rattle.rs_cert.specs.Records.{AreRecordsOf, Begin, IsFirstStrange, IsRead, entries_of, entry_of, wanted_of}
use Rattle.rs_cert.proofs.GrowFacts.{grown, grown-all, grown-more, none-some, some-same}

-- what is refused is not answered
err-ok : {A E B : Type 0} (fault : E) (x : A) → Err fault ≡ Ok x → B
err-ok fault x e = absurd (differ fault x e)
  where
    differ : {A E : Type 0} (fault : E) (x : A) → Err fault ≡ Ok x → ⊥
    differ fault x e = cc

ok-same : {A E : Type 0} {x y : A} → ◌≡◌ {A = Result A E} (Ok x) (Ok y) → x ≡ y
ok-same e = cc

err-same : {A E : Type 0} {x y : E} → ◌≡◌ {A = Result A E} (Err x) (Err y) → x ≡ y
err-same e = cc

-- what each of a list of records says
abbrev Say : List Fields → List Entry → Type 0
Say records entries = map entry_of records ≡ map (λ entry. Some entry) entries

heads-same : {A : Type 0} {x y : A} {xs ys : List A} → x ∷ xs ≡ y ∷ ys → x ≡ y
heads-same e = cc

tails-same : {A : Type 0} {x y : A} {xs ys : List A} → x ∷ xs ≡ y ∷ ys → xs ≡ ys
tails-same e = cc

nil-cons : {A B : Type 0} {x : A} {xs : List A} → x ∷ xs ≡ [] → B
nil-cons e = absurd (differ e)
  where
    differ : {A : Type 0} {x : A} {xs : List A} → x ∷ xs ≡ [] → ⊥
    differ e = cc

-- lists that say the same are the same
pub somes-same : (xs ys : List Entry) → map (λ entry. Some entry) xs ≡ map (λ entry. Some entry) ys → xs ≡ ys
somes-same [] [] e = refl
somes-same [] (y ∷ ys) e = nil-cons (sym e)
somes-same (x ∷ xs) [] e = nil-cons e
somes-same (x ∷ xs) (y ∷ ys) e =
    let first : x ≡ y = some-same (heads-same e) in
    let rest : xs ≡ ys = somes-same xs ys (tails-same e) in
    cc

-- a record that was added says an entry, which may stand there
record Added (cert more : Cert) (fields : Fields) : Type 0 where
  entry : Entry
  says : entry_of fields ≡ Some entry
  next : next_cert cert entry ≡ Some more

added-from : (place : ℕ) (cert more : Cert) (fields : Fields) → with_record place cert fields ≡ Ok more → Added cert more fields
added-from place cert more fields e = of (entry_of fields) refl e
  where
    inner : (entry : Entry) (o : Option Cert) → entry_of fields ≡ Some entry → next_cert cert entry ≡ o → or_form place o ≡ Ok more → Added cert more fields
    inner entry None says next e = err-ok (Form place) more e
    inner entry (Some made) says next e = record { entry = entry; says = says; next = next ∙ ap (λ m. Some m) (ok-same e) }

    of : (o : Option Entry) → entry_of fields ≡ o → (or_form place o >>= (λ entry. or_form place (next_cert cert entry))) ≡ Ok more → Added cert more fields
    of None says e = err-ok (Form place) more e
    of (Some entry) says e = inner entry (next_cert cert entry) says refl e

-- a record that was refused says none that may
refused-from : (place : ℕ) (cert : Cert) (fields : Fields) (fault : CertFault) → with_record place cert fields ≡ Err fault
    → (fault ≡ Form place) × ((entry : Entry) → entry_of fields ≡ Some entry → next_cert cert entry ≡ None)
refused-from place cert fields fault e = of (entry_of fields) refl e
  where
    inner : (entry : Entry) (o : Option Cert) → entry_of fields ≡ Some entry → next_cert cert entry ≡ o → or_form place o ≡ Err fault
        → (fault ≡ Form place) × ((entry : Entry) → entry_of fields ≡ Some entry → next_cert cert entry ≡ None)
    inner entry None says next e = (sym (err-same e), λ other said. ap (next_cert cert) (some-same (sym said ∙ says)) ∙ next)
    inner entry (Some made) says next e = err-ok fault made (sym e)

    of : (o : Option Entry) → entry_of fields ≡ o → (or_form place o >>= (λ entry. or_form place (next_cert cert entry))) ≡ Err fault
        → (fault ≡ Form place) × ((entry : Entry) → entry_of fields ≡ Some entry → next_cert cert entry ≡ None)
    of None says e = (sym (err-same e), λ other said. none-some other (sym says ∙ said))
    of (Some entry) says e = inner entry (next_cert cert entry) says refl e

-- all records were added
record Grew (cert more : Cert) (records : List Fields) : Type 0 where
  entries : List Entry
  say : Say records entries
  are : grown cert entries ≡ Some more

grew-from : (records : List Fields) (place : ℕ) (cert more : Cert) → with_records place cert records ≡ Ok more → Grew cert more records
grew-from [] place cert more e = record { entries = []; say = refl; are = ap (λ m. Some m) (ok-same e) }
grew-from (fields ∷ rest) place cert more e = of (λ made more_read. grew-from rest (place + 1) made more more_read) (with_record place cert fields) refl e
  where
    behind : (made : Cert) → Added cert made fields → Grew made more rest → Grew cert more (fields ∷ rest)
    behind made one others = record {
      entries = one.entry ∷ others.entries;
      say = ap (λ o. o ∷ map entry_of rest) one.says ∙ ap (λ list. Some one.entry ∷ list) others.say;
      are = rw one.next others.are;
    }

    of : ((made : Cert) → with_records (place + 1) made rest ≡ Ok more → Grew made more rest) → (r : Result Cert CertFault) → with_record place cert fields ≡ r
        → (r >>= (λ made. with_records (place + 1) made rest)) ≡ Ok more → Grew cert more (fields ∷ rest)
    of again (Ok made) is e = behind made (added-from place cert made fields is) (again made e)
    of again (Err fault) is e = err-ok fault more e

-- a record was refused behind others that were added
record Stopped (place : ℕ) (cert : Cert) (records : List Fields) (fault : CertFault) : Type 0 where
  n : ℕ
  within : n < length records
  told : fault ≡ Form (place + n)
  last : Cert
  front : with_records place cert (take n records) ≡ Ok last
  refused : (entries : List Entry) (more : List Fields) → Say (take (suc n) records ++ more) entries → grown cert entries ≡ None

stopped-from : (records : List Fields) (place : ℕ) (cert : Cert) (fault : CertFault) → with_records place cert records ≡ Err fault → Stopped place cert records fault
stopped-from [] place cert fault e = err-ok fault cert (sym e)
stopped-from (fields ∷ rest) place cert fault e = of (λ made refused. stopped-from rest (place + 1) made fault refused) (with_record place cert fields) refl e
  where
    here : (f : CertFault) → with_record place cert fields ≡ Err f → f ≡ fault → (entries : List Entry) (more : List Fields) → Say ((fields ∷ []) ++ more) entries → grown cert entries ≡ None
    here f is same [] more say = nil-cons say
    here f is same (entry ∷ entries) more say = rw ((refused-from place cert fields f is).1 entry (heads-same say)) refl

    later : (made : Cert) → with_record place cert fields ≡ Ok made → (behind : Stopped (place + 1) made rest fault)
        → (entries : List Entry) (more : List Fields) → Say ((fields ∷ take (suc behind.n) rest) ++ more) entries → grown cert entries ≡ None
    later made is behind [] more say = nil-cons say
    later made is behind (entry ∷ entries) more say =
        let one = added-from place cert made fields is in
        let same : one.entry ≡ entry = some-same (sym one.says ∙ heads-same say) in
        let next : next_cert cert entry ≡ Some made = ap (next_cert cert) (sym same) ∙ one.next in
        rw next (behind.refused entries more (tails-same say))

    of : ((made : Cert) → with_records (place + 1) made rest ≡ Err fault → Stopped (place + 1) made rest fault) → (r : Result Cert CertFault) → with_record place cert fields ≡ r
        → (r >>= (λ made. with_records (place + 1) made rest)) ≡ Err fault → Stopped place cert (fields ∷ rest) fault
    of again (Err f) is e = record {
      n = 0;
      within = omega arith;
      told = sym (err-same e) ∙ (refused-from place cert fields f is).0 ∙ ap (λ k. Form k) (omega arith);
      last = cert;
      front = refl;
      refused = here f is (err-same e);
    }
    of again (Ok made) is e =
        let behind = again made e in
        record {
          n = suc behind.n;
          within = let inside : behind.n < length rest = behind.within in omega arith;
          told = behind.told ∙ ap (λ k. Form k) (omega arith);
          last = behind.last;
          front = rw is behind.front;
          refused = later made is behind;
        }

-- the records of a certificate that has nothing begin with none
abbrev least_record : Fields
least_record = codes "cert" ∷ codes "1" ∷ codes "0" ∷ []

begin-none : Begin []
begin-none = record {
  cert = new_cert 0;
  more = least_record ∷ [];
  are = record { first = least_record; rest = []; are = refl; wanted = refl; entries = refl; few = record { left = omega arith; right = omega arith } };
}

-- records that were read are those of a certificate
pub read-are : (first : Fields) (rest : List Fields) (wanted : ℕ) (cert : Cert) → wanted_of first ≡ Some wanted → with_records 2 (new_cert wanted) rest ≡ Ok cert → AreRecordsOf cert (first ∷ rest)
read-are first rest wanted cert is e =
    let made = grew-from rest 2 (new_cert wanted) cert e in
    let more = grown-more made.entries (new_cert wanted) cert made.are in
    record {
      first = first;
      rest = rest;
      are = refl;
      wanted = is ∙ ap (λ k. Some k) (sym more.same);
      entries = made.say ∙ ap (map (λ entry. Some entry)) (sym more.entries);
      few = more.few (record { left = omega arith; right = omega arith });
    }

-- a certificate is what its entries grow to
certain : (cert : Cert) (records : List Fields) (are : AreRecordsOf cert records) (wanted : ℕ) → wanted_of are.first ≡ Some wanted → grown (new_cert wanted) (entries_of cert) ≡ Some cert
certain cert records are wanted is =
    let same : cert.k ≡ wanted = some-same (sym are.wanted ∙ is) in
    ap (λ k. grown (new_cert k) (entries_of cert)) (sym same) ∙ grown-all cert are.few

-- a list of records is that of at most one certificate
pub one-cert : (a b : Cert) (records : List Fields) → AreRecordsOf a records → AreRecordsOf b records → a ≡ b
one-cert a b records h k =
    let same : h.first ∷ h.rest ≡ k.first ∷ k.rest = sym h.are ∙ k.are in
    let wanted : wanted_of k.first ≡ Some a.k = ap wanted_of (sym (heads-same same)) ∙ h.wanted in
    let entries : entries_of a ≡ entries_of b = somes-same (entries_of a) (entries_of b) (sym h.entries ∙ ap (map entry_of) (tails-same same) ∙ k.entries) in
    some-same (sym (certain a records h a.k h.wanted) ∙ ap (grown (new_cert a.k)) entries ∙ certain b records k a.k wanted)

-- no certificate begins with a first record that says no number
strange-first : (first : Fields) (rest : List Fields) → wanted_of first ≡ None → IsFirstStrange (first ∷ rest) 1
strange-first first rest none = record {
  there = omega arith;
  before = λ n least. subst (λ k. Begin (take k (first ∷ rest))) (let is : 0 ≡ n = omega arith in is) begin-none;
  here = λ begin.
      let same : first ≡ begin.are.first = heads-same begin.are.are in
      none-some begin.cert.k (sym none ∙ ap wanted_of same ∙ begin.are.wanted);
}

-- nor with records of which one was refused
strange-later : (first : Fields) (rest : List Fields) (wanted : ℕ) (fault : CertFault) → wanted_of first ≡ Some wanted → (stopped : Stopped 2 (new_cert wanted) rest fault) → IsFirstStrange (first ∷ rest) (suc (suc stopped.n))
strange-later first rest wanted fault is stopped = record {
  there = let inside : stopped.n < length rest = stopped.within in omega arith;
  before = before;
  here = λ begin.
      let same : first ≡ begin.are.first = heads-same begin.are.are in
      let others : take (suc stopped.n) rest ++ begin.more ≡ begin.are.rest = tails-same begin.are.are in
      let says : wanted_of begin.are.first ≡ Some wanted = ap wanted_of (sym same) ∙ is in
      let none = stopped.refused (entries_of begin.cert) begin.more (ap (map entry_of) others ∙ begin.are.entries) in
      none-some begin.cert (sym none ∙ certain begin.cert ((first ∷ take (suc stopped.n) rest) ++ begin.more) begin.are wanted says);
}
  where
    before : (n : ℕ) → n < suc (suc stopped.n) → Begin (take n (first ∷ rest))
    before zero within = begin-none
    before (suc n) within =
        let few : n ≤ stopped.n = omega arith in
        let whole : (first ∷ take n rest) ++ drop n (take stopped.n rest) ≡ first ∷ take stopped.n rest =
        ap (λ list. first ∷ (list ++ drop n (take stopped.n rest))) (sym (take-take n stopped.n rest few))
        ∙ ap (λ list. first ∷ list) (take-append-drop n (take stopped.n rest)) in
        record {
          cert = stopped.last;
          more = drop n (take stopped.n rest);
          are = subst (AreRecordsOf stopped.last) (sym whole) (read-are first (take stopped.n rest) wanted stopped.last is stopped.front);
        }

-- records are read as they are
pub cert_of-read : (records : List Fields) → IsRead records (cert_of records)
cert_of-read [] = refl
cert_of-read (first ∷ rest) = of (wanted_of first) refl
  where
    inner : (wanted : ℕ) (r : Result Cert CertFault) → wanted_of first ≡ Some wanted → with_records 2 (new_cert wanted) rest ≡ r → IsRead (first ∷ rest) r
    inner wanted (Ok cert) is e = read-are first rest wanted cert is e
    inner wanted (Err fault) is e =
        let stopped = stopped-from rest 2 (new_cert wanted) fault e in
        subst (λ f. IsRead (first ∷ rest) (Err f)) (sym (stopped.told ∙ ap (λ k. Form k) (let same : 2 + stopped.n ≡ suc (suc stopped.n) = omega arith in same)))
        (strange-later first rest wanted fault is stopped)

    of : (o : Option ℕ) → wanted_of first ≡ o → IsRead (first ∷ rest) (or_form 1 o >>= (λ wanted. with_records 2 (new_cert wanted) rest))
    of None is = strange-first first rest is
    of (Some wanted) is = inner wanted (with_records 2 (new_cert wanted) rest) is refl

-- the answer of a call that gives the certificate of records
pub read-from : (records : List Fields) (result : Result Cert CertFault) → (result ≡ cert_of records) ⊎ (result ≡ Err Memory) → IsRead records result
read-from records result (inl e) = subst (IsRead records) (sym e) (cert_of-read records)
read-from records result (inr e) = subst (IsRead records) (sym e) tt

-- the records of a certificate are read as it
pub reads-it : (cert : Cert) (records : List Fields) (result : Result Cert CertFault) → AreRecordsOf cert records → IsRead records result → (result ≡ Ok cert) ⊎ (result ≡ Err Memory)
reads-it cert records (Ok other) are read = inl (ap (λ c. Ok c) (one-cert other cert records read are))
reads-it cert records (Err Memory) are read = inr refl
reads-it cert [] (Err (Form place)) are read = nil-cons (sym are.are)
reads-it cert (first ∷ rest) (Err (Form place)) are read =
    let whole : take place (first ∷ rest) ++ drop place (first ∷ rest) ≡ first ∷ rest = take-append-drop place (first ∷ rest) in
    absurd (read.here (record { cert = cert; more = drop place (first ∷ rest); are = subst (AreRecordsOf cert) (sym whole) are }))
