-- What the code that binds a block also knows, beyond what the definitions of binding say: the numbers of a condition are such as a script can write, so
-- that each has a width.
use Rattle.std.specs.Prelude.{◌≡◌, true}
use Rattle.std.specs.List.{AllByRecursion}
use Rattle.rs_expr.specs.Widths.{is_narrow}
use Rattle.rs_query.specs.Conjuncts.{ConjunctDef}
use Rattle.rs_query.specs.declared.block.Block.{Block}
use Rattle.rs_query.specs.declared.query.Query.{Query}
use Rattle.rs_query.specs.declared.query.Query.TheVariants.{One, Set}

-- the numbers of a conjunct have widths
abbrev pub IsNarrow : ConjunctDef → Type 0
IsNarrow conjunct = is_narrow conjunct.condition ≡ true

-- those of each conjunct of a block
abbrev pub HasNarrowConjuncts : Block → Type 0
HasNarrowConjuncts block = AllByRecursion IsNarrow block.conjuncts

-- those of each block of a query
abbrev pub HaveNarrowConjuncts : Query → Type 0
HaveNarrowConjuncts (One block limit) = HasNarrowConjuncts block
HaveNarrowConjuncts (Set op left right limit) = HasNarrowConjuncts left × HasNarrowConjuncts right
