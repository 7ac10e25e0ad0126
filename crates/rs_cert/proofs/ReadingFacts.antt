-- One record more of a certificate that is read.
use Rattle.std.proofs.Common.{◌≡◌, ◌⊎◌, ℕ, ◌+◌, List, [], ◌∷◌, true, false, Some, None, Option, option_map, is_some, Result, Ok, Err, refl, sym, ap, ◌∙◌, subst, inl, inr}
use Rattle.std.specs.Borrow.{Bor}
use Rattle.csv.specs.Records.{field_at}
use Rattle.rs_value.specs.Answer.{Gives}
use Rattle.rs_cert.specs.declared.cert.Cert.{Cert}
use Rattle.rs_cert.specs.declared.fault.CertFault.{CertFault}
use Rattle.rs_cert.specs.declared.fault.CertFault.TheVariants.{Form, Memory}
use Rattle.rs_lines.specs.Records.{Fields}
use Rattle.rs_cert.specs.Growing.{Adds, cert_of, new_cert, with_record, with_records}
use Rattle.rs_cert.specs.Records.{AreNotThree, wanted_of}

-- a record of which one of the first three fields is missing hasn't three
pub not-three : (fields : Fields) → (field_at fields 0 ≡ None) ⊎ (field_at fields 1 ≡ None) ⊎ (field_at fields 2 ≡ None) → AreNotThree fields
unfolding field_at
not-three fields missing first second third e = missing-none (subst (λ list. (field_at list 0 ≡ None) ⊎ (field_at list 1 ≡ None) ⊎ (field_at list 2 ≡ None)) e missing)
  where
    differ : {x : List ℕ} → Some x ≡ None → ⊥
    differ e = cc

    missing-none : (field_at (first ∷ second ∷ third ∷ []) 0 ≡ None) ⊎ (field_at (first ∷ second ∷ third ∷ []) 1 ≡ None) ⊎ (field_at (first ∷ second ∷ third ∷ []) 2 ≡ None) → ⊥
    missing-none (inl n) = differ n
    missing-none (inr (inl n)) = differ n
    missing-none (inr (inr n)) = differ n

-- nor has one with a fourth
pub more-than_three : (fields : Fields) (fourth : List ℕ) → field_at fields 3 ≡ Some fourth → AreNotThree fields
unfolding field_at
more-than_three fields fourth there first second third e = differ (subst (λ list. field_at list 3 ≡ Some fourth) e there)
  where
    differ : {x : List ℕ} → None ≡ Some x → ⊥
    differ e = cc

-- the same of a field that is looked up
pub fourth-found : (fields : Fields) (fourth : Option (Bor (List ℕ))) → is_some fourth ≡ true → option_map (λ s. s.now) fourth ≡ field_at fields 3 → AreNotThree fields
fourth-found fields None some e = absurd (cc some)
fourth-found fields (Some fourth) some e = more-than_three fields fourth.now (sym e)

pub fourth-missing : (fields : Fields) (fourth : Option (Bor (List ℕ))) → is_some fourth ≡ false → option_map (λ s. s.now) fourth ≡ field_at fields 3 → field_at fields 3 ≡ None
fourth-missing fields None none e = sym e
fourth-missing fields (Some fourth) none e = absurd (cc none)

-- one with exactly these has them
pub three-are : (fields : Fields) (first second third : List ℕ) → field_at fields 0 ≡ Some first → field_at fields 1 ≡ Some second → field_at fields 2 ≡ Some third → field_at fields 3 ≡ None
    → fields ≡ first ∷ second ∷ third ∷ []
unfolding field_at
three-are [] first second third a b c d = absurd (cc a)
three-are (x ∷ []) first second third a b c d = absurd (cc b)
three-are (x ∷ y ∷ []) first second third a b c d = absurd (cc c)
three-are (x ∷ y ∷ z ∷ []) first second third a b c d =
    let e : x ≡ first = cc in let f : y ≡ second = cc in let g : z ≡ third = cc in cc
three-are (x ∷ y ∷ z ∷ w ∷ rest) first second third a b c d = absurd (cc d)

-- the records behind the first one
pub start-read : (records rest : List Fields) (fields : Fields) (wanted : ℕ) (draft : Cert) → records ≡ fields ∷ rest → wanted_of fields ≡ Some wanted → draft ≡ new_cert wanted
    → with_records 2 draft rest ≡ cert_of records
start-read records rest fields wanted draft are is new = rw (are, is, new) refl

-- a file without a record, or with a first one that says no number
pub start-none : (records : List Fields) → records ≡ [] → Err (Form 1) ≡ cert_of records
start-none records none = rw none refl

pub start-strange : (records rest : List Fields) (fields : Fields) → records ≡ fields ∷ rest → wanted_of fields ≡ None → Err (Form 1) ≡ cert_of records
start-strange records rest fields are is = rw (are, is) refl

-- a record that was added, and one that was refused
pub more-read : (place : ℕ) (cert more : Cert) (fields : Fields) (rest left : List Fields) → left ≡ fields ∷ rest → with_record place cert fields ≡ Ok more
    → with_records place cert left ≡ with_records (place + 1) more rest
more-read place cert more fields rest left are added = rw (are, added) refl

pub give-fault : (answer : Result Cert CertFault) (place : ℕ) (cert new : Cert) (fields : Fields) (rest left : List Fields) (fault : CertFault) → with_records place cert left ≡ answer → left ≡ fields ∷ rest
    → Adds cert place fields (Err fault) new → Gives Memory answer (Err fault)
give-fault answer place cert new fields rest left fault so_far are (inl memory) = inr (ap (λ f. Err f) memory)
give-fault answer place cert new fields rest left fault so_far are (inr refused) =
    let stops : with_records place cert left ≡ Err fault = rw (are, refused) refl in
    inl (sym stops ∙ so_far)

-- no record is left
pub end-read : (answer : Result Cert CertFault) (place : ℕ) (cert : Cert) (left : List Fields) → with_records place cert left ≡ answer → left ≡ [] → Ok cert ≡ answer
end-read answer place cert left so_far none = let e : with_records place cert left ≡ Ok cert = rw none refl in sym e ∙ so_far
