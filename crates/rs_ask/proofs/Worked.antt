-- The definitions, computed on examples.
use Rattle.std.proofs.Common.{◌≡◌, [], ◌++◌, Err, Ok, pos, refl}
use Rattle.std.specs.Prelude.{codes, negsuc, replicate}
use Rattle.rs_ask.specs.declared.no_answer.NoAnswer.TheVariants.{Ended, NotNumber, TooLong}
use Rattle.rs_ask.specs.Answers.{answer_bytes, next_answer}

-- a line and what stands behind it
next : next_answer (codes "70\n8\n") ≡ Ok (pos 70)
next = refl

read : answer_bytes (codes "70\n8\n") ≡ codes "70\n"
read = refl

-- a carriage return before the line feed
returned : next_answer (codes "-7\r\n") ≡ Ok (negsuc 6)
returned = refl

-- blanks behind the number, and one in front of it
blanks : next_answer (codes "37 \t\r\n") ≡ Ok (pos 37)
blanks = refl

blank_in_front : next_answer (codes " 37\n") ≡ Err (NotNumber (codes " 37"))
blank_in_front = refl

-- a line that has no number, and is read through
no_number : next_answer (codes "x\n8\n") ≡ Err (NotNumber (codes "x"))
no_number = refl

read_through : answer_bytes (codes "x\n8\n") ≡ codes "x\n"
read_through = refl

-- bytes that aren't ended, and none
not_ended : next_answer (codes "70") ≡ Err Ended
not_ended = refl

all_read : answer_bytes (codes "70") ≡ codes "70"
all_read = refl

none : next_answer [] ≡ Err Ended
none = refl

-- 64 bytes are as many as a line may have
longest : next_answer (replicate 63 48 ++ codes "5\n") ≡ Ok (pos 5)
longest = refl

too_long : next_answer (replicate 64 48 ++ codes "5\n8\n") ≡ Err TooLong
too_long = refl

read_of_too_long : answer_bytes (replicate 64 48 ++ codes "5\n8\n") ≡ replicate 64 48 ++ codes "5"
read_of_too_long = refl
