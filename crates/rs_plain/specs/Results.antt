-- Results, as contracts see them, and which predicates their faults name.
use Rattle.std.specs.Prelude.{ℕ, ◌≡◌, ◌<◌, List, ◌++◌, length, Result, Ok, Err}
use Rattle.std.specs.declared.alloc.Global.{Global}
use Rattle.std.specs.declared.vec.Vec.{Vec}
use Rattle.rs_order.specs.Climbing.{In}
use Rattle.rs_catalog.specs.Catalog.{CatalogDef}
use Rattle.rs_query.specs.declared.term.Term.{Term}
use Rattle.rs_query.specs.declared.query.Query.{Query}
use Rattle.rs_query.specs.declared.query.Query.TheVariants.{One, Set}
use Rattle.rs_plain.specs.declared.fault.PlainFault.{PlainFault}
use Rattle.rs_plain.specs.declared.fault.PlainFault.TheVariants.{BadScore, Probe, Memory}

-- a result as contracts see it
abbrev pub as_list : {A : Type 0} → Result (Vec A Global) PlainFault → Result (List A) PlainFault
as_list (Ok rows) = Ok rows.items
as_list (Err fault) = Err fault

-- the terms of a query, block after block
abbrev pub terms_of : Query → List Term
terms_of (One block limit) = block.terms
terms_of (Set op left right limit) = left.terms ++ right.terms

-- a number of a predicate of the catalogue, which a term of the query calls
pub record IsCalled (catalogue : CatalogDef) (query : Query) (number : ℕ) : Type 0 where
  pub term : Term
  pub is_term : In term (terms_of query)
  pub is_its : term.predicate ≡ number
  pub within : number < length catalogue.predicates

-- the predicate that a fault names is one that the query calls
abbrev pub NamesCalled : CatalogDef → Query → PlainFault → Type 0
NamesCalled catalogue query (BadScore predicate ids got max) = IsCalled catalogue query predicate
NamesCalled catalogue query (Probe predicate) = IsCalled catalogue query predicate
NamesCalled catalogue query Memory = Unit {0}
