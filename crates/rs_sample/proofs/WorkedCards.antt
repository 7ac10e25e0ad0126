-- Cards of a query, worked by hand: SELECT x, y FROM t ORDER BY p(x) + q(y).
use Rattle.std.proofs.Common.{◌≡◌, ℕ, List, [], ◌∷◌, refl}
use Rattle.std.specs.Prelude.{false, pos, Some, None, codes}
use Rattle.rs_value.specs.declared.kind.Kind.TheVariants as kind
use Rattle.rs_value.specs.declared.value.Value.{Value}
use Rattle.rs_value.specs.declared.value.Value.TheVariants as value
use Rattle.rs_expr.specs.Formulas.{Argument}
use Rattle.rs_expr.specs.InOrder.{calls_of}
use Rattle.rs_expr.specs.Meaning.{value_of}
use Rattle.rs_expr.specs.Predicates.{PredicateDef}
use Rattle.rs_expr.specs.Scoring.{Answering}
use Rattle.rs_expr.specs.declared.scorer.Call.{Call}
use Rattle.rs_catalog.specs.Catalog.{CatalogDef}
use Rattle.rs_catalog.specs.declared.index.BoundArg.TheVariants as arg
use Rattle.rs_query.specs.declared.block.Block.{Block}
use Rattle.rs_query.specs.declared.term.Term.{Term}
use Rattle.rs_sample.specs.Estimates.{cutoff_of, cutoff_place, estimate_of, index_estimate_of, nth_greatest}
use Rattle.rs_sample.specs.Sampling.{asking_all, block_questions}

abbrev int : ℕ → Value
int n = value.Int (pos n)

abbrev predicate : List ℕ → PredicateDef
predicate name = record { name = name; params = kind.Int ∷ []; max = 10; cost = 1; formula = Argument 0 }

-- what the scorer answers is the value of the formula
abbrev answer : Answering
answer p args = value_of p.formula args

abbrev catalogue_of : ℕ → CatalogDef
catalogue_of y = record {
  tables = record {
    name = codes "t";
    table = record {
      schema = (codes "x", kind.Int) ∷ (codes "y", kind.Int) ∷ [];
      rows = (int 10 ∷ int 3 ∷ []) ∷ (int 8 ∷ int y ∷ []) ∷ (int 5 ∷ int 1 ∷ []) ∷ (int 2 ∷ int 10 ∷ []) ∷ [];
    };
  } ∷ [];
  predicates = predicate (codes "p") ∷ predicate (codes "q") ∷ [];
  indexes = [];
}

abbrev term_over : ℕ → Term
term_over place = record { weight = 1; predicate = place; args = arg.Column 1 place ∷ []; max = 10; entries = 1 }

abbrev block : Block
block = record {
  from = (0, codes "t") ∷ [];
  conjuncts = [];
  items = (1, 0) ∷ (1, 1) ∷ [];
  terms = term_over 0 ∷ term_over 1 ∷ [];
  distinct = false;
}

abbrev sizes : List ℕ
sizes = 4 ∷ 0 ∷ 0 ∷ 0 ∷ 0 ∷ 0 ∷ []

-- the table has fewer rows than a sample
abbrev samples : List (List ℕ)
samples = (1 ∷ 2 ∷ 3 ∷ 4 ∷ []) ∷ [] ∷ [] ∷ [] ∷ [] ∷ [] ∷ []

abbrev catalogue : CatalogDef
catalogue = catalogue_of 9

-- the scores are 13, 17, 6 and 12
cutoff-one : cutoff_of answer catalogue block sizes samples (Some 1) ≡ 17
cutoff-one = refl

cutoff-two : cutoff_of answer catalogue block sizes samples (Some 2) ≡ 13
cutoff-two = refl

-- LIMIT 0 is as LIMIT 1, and there are no ten combinations
cutoff-zero : cutoff_of answer catalogue block sizes samples (Some 0) ≡ 17
cutoff-zero = refl

cutoff-ten : cutoff_of answer catalogue block sizes samples None ≡ 0
cutoff-ten = refl

-- of a table of 40 rows, of which 4 were taken, 11 rows are 2 of the sample, rounded up
place-scaled : cutoff_place block (40 ∷ 0 ∷ 0 ∷ 0 ∷ 0 ∷ 0 ∷ []) samples (Some 11) ≡ 2
place-scaled = refl

greatest-third : nth_greatest 3 (13 ∷ 17 ∷ 6 ∷ 12 ∷ []) ≡ 12
greatest-third = refl

-- the bounds with p are 20, 18, 15 and 12
estimate-first : estimate_of answer catalogue block sizes samples 17 1 1 ≡ 2
estimate-first = refl

estimate-both : estimate_of answer catalogue block sizes samples 17 1 3 ≡ 1
estimate-both = refl

estimate-none : estimate_of answer catalogue block sizes samples 17 1 0 ≡ 4
estimate-none = refl

index-first : index_estimate_of answer catalogue block sizes samples 17 1 1 ≡ 2
index-first = refl

-- of 40 rows, of which 4 were taken, 20 are expected where 2 of 4 reach the cutoff
estimate-scaled : estimate_of answer catalogue block (40 ∷ 0 ∷ 0 ∷ 0 ∷ 0 ∷ 0 ∷ []) samples 17 1 1 ≡ 20
estimate-scaled = refl

-- an empty table
estimate-empty : estimate_of answer catalogue block (0 ∷ 0 ∷ 0 ∷ 0 ∷ 0 ∷ 0 ∷ []) ([] ∷ [] ∷ [] ∷ [] ∷ [] ∷ [] ∷ []) 0 1 1 ≡ 0
estimate-empty = refl

-- 99 is put to 10: the scores are 13, 18, 6 and 12
cutoff-capped : cutoff_of answer (catalogue_of 99) block sizes samples (Some 1) ≡ 18
cutoff-capped = refl

-- term after term, and no call is left out
abbrev call : List ℕ → ℕ → Call
call name n = record { predicate = name; args = int n ∷ [] }

calls-all : calls_of (asking_all {A = ℕ} catalogue (block_questions 1 block samples) 0).requests
    ≡ call (codes "p") 10 ∷ call (codes "p") 8 ∷ call (codes "p") 5 ∷ call (codes "p") 2
    ∷ call (codes "q") 3 ∷ call (codes "q") 9 ∷ call (codes "q") 1 ∷ call (codes "q") 10 ∷ []
calls-all = refl
