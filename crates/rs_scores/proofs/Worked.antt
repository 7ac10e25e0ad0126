-- The definitions, computed on examples.
use Rattle.std.proofs.Common.{◌≡◌, true, false, [], ◌∷◌, Some, None, Ok, Err, negsuc, pos, refl}
use Rattle.std.specs.Prelude.{codes}
use Rattle.rs_value.proofs.OnLiterals.{values_on_literals}
use Rattle.rs_value.specs.declared.value.Value.TheVariants.{Int, Text}
use Rattle.rs_expr.specs.declared.scorer.Call.{Call}
use Rattle.rs_scores.specs.Known.{Known, is_asked, score_of, score_with}
use Rattle.rs_scores.specs.KnownFiles.{found_under, found_with}
use Rattle.csv.specs.Reading.{strip_bom}
use Rattle.rs_scores.specs.Names.{names_in}
use Rattle.rs_scores.specs.Questions.{question_of}
use Rattle.rs_scores.specs.Reading.{is_ended, known_of, marked, scores_from}
use Rattle.rs_scores.specs.TableScorer.{missing_last}
use Rattle.rs_scores.specs.declared.fault.KnownFault.TheVariants.{FieldCount, NotAsked, NotScore, Twice}

-- the call near(5, 'a')
abbrev near_call : Call
near_call = record { predicate = codes "near"; args = Int (pos 5) ∷ Text (codes "a") ∷ [] }

near_question : question_of near_call ≡ codes "near" ∷ codes "5" ∷ codes "a" ∷ []
unfolding values_on_literals
near_question = refl

-- near is asked for, and near(5, 'a') is known
abbrev one_known : Known
one_known = record { names = codes "near" ∷ []; scores = (codes "near" ∷ codes "5" ∷ codes "a" ∷ [], pos 77) ∷ [] }

asked : is_asked one_known.names (codes "near") ≡ true
asked = refl

not_asked : is_asked one_known.names (codes "far") ≡ false
not_asked = refl

known : score_of (question_of near_call) one_known ≡ Some (pos 77)
unfolding values_on_literals
known = refl

first_stays : score_with (question_of near_call) (pos 1) one_known (question_of near_call) ≡ Some (pos 77)
unfolding values_on_literals
first_stays = refl

-- the call near(6, 'a') is missing, far(6) isn't asked for
abbrev other_call : Call
other_call = record { predicate = codes "near"; args = Int (pos 6) ∷ Text (codes "a") ∷ [] }

abbrev far_call : Call
far_call = record { predicate = codes "far"; args = Int (pos 6) ∷ [] }

missing : missing_last one_known (near_call ∷ other_call ∷ []) ≡ Some (codes "near" ∷ codes "6" ∷ codes "a" ∷ [])
unfolding values_on_literals
missing = refl

forgotten : missing_last one_known (other_call ∷ near_call ∷ []) ≡ None
unfolding values_on_literals
forgotten = refl

not_missing : missing_last one_known (other_call ∷ far_call ∷ []) ≡ None
not_missing = refl

-- records of a file
read : known_of (codes "near" ∷ []) 1 (codes "near" ∷ codes "5" ∷ codes "a" ∷ codes "-7" ∷ []) ≡ Ok (record { question = codes "near" ∷ codes "5" ∷ codes "a" ∷ []; score = negsuc 6 })
unfolding values_on_literals
read = refl

few_fields : known_of (codes "near" ∷ []) 4 (codes "near" ∷ codes "7" ∷ []) ≡ Err (FieldCount 4 2)
few_fields = refl

unasked : known_of (codes "near" ∷ []) 4 (codes "far" ∷ codes "5" ∷ codes "7" ∷ []) ≡ Err (NotAsked 4)
unfolding values_on_literals
unasked = refl

no_score : known_of (codes "near" ∷ []) 4 (codes "near" ∷ codes "5" ∷ codes "x" ∷ []) ≡ Err (NotScore 4)
unfolding values_on_literals
no_score = refl

twice : scores_from (codes "near" ∷ []) 1 [] ((codes "near" ∷ codes "5" ∷ codes "7" ∷ []) ∷ (codes "near" ∷ codes "5" ∷ codes "8" ∷ []) ∷ []) ≡ Err (Twice 2)
unfolding values_on_literals
twice = refl

-- a record that stands there twice is taken once, and the records behind it keep their numbers
once : scores_from (codes "near" ∷ []) 1 [] ((codes "near" ∷ codes "5" ∷ codes "7" ∷ []) ∷ (codes "near" ∷ codes "5" ∷ codes "+7" ∷ []) ∷ (codes "near" ∷ codes "6" ∷ []) ∷ []) ≡ Err (FieldCount 3 2)
unfolding values_on_literals
once = refl

ended : is_ended (codes "a\n") ≡ true
unfolding strip_bom
ended = refl

cut_off : is_ended (codes "a\n7") ≡ false
unfolding strip_bom
cut_off = refl

nothing : is_ended [] ≡ true
unfolding strip_bom
nothing = refl

-- a line feed in quotes ends no record, and one behind them does
quoted : is_ended (codes "a,\"b\n") ≡ false
unfolding strip_bom
quoted = refl

closed : is_ended (codes "a,\"b\"\"\n\"\n") ≡ true
unfolding strip_bom
closed = refl

-- a quotation mark within a field is a byte of it
within : is_ended (codes "a,b\"\n") ≡ true
unfolding strip_bom
within = refl

-- names in a word
two_names : names_in (codes "near,far away") ≡ Some (codes "near" ∷ codes "far away" ∷ [])
two_names = refl

empty_name : names_in (codes "near,") ≡ None
empty_name = refl

blank_name : names_in (codes "near, far") ≡ None
blank_name = refl

same_name : names_in (codes "near,far,near") ≡ None
same_name = refl

marked_name : names_in (239 ∷ 187 ∷ 191 ∷ codes "near") ≡ Some ((239 ∷ 187 ∷ 191 ∷ codes "near") ∷ [])
marked_name = refl

-- a byte order mark at the start is passed over, unless a name begins with one
mark_kept : marked ((239 ∷ 187 ∷ 191 ∷ codes "near") ∷ codes "far" ∷ []) (239 ∷ 187 ∷ 191 ∷ codes "near,5,7\n") ≡ 239 ∷ 187 ∷ 191 ∷ 239 ∷ 187 ∷ 191 ∷ codes "near,5,7\n"
mark_kept = refl

mark_passed : marked (codes "near" ∷ codes "far" ∷ []) (239 ∷ 187 ∷ 191 ∷ codes "near,5,7\n") ≡ 239 ∷ 187 ∷ 191 ∷ codes "near,5,7\n"
mark_passed = refl

-- what was found under a name stays
found_first : found_under (codes "a") (found_with (codes "a") None (found_with (codes "a") (Some (codes "x")) [])) ≡ Some (record { name = codes "a"; there = Some (codes "x") })
found_first = refl
