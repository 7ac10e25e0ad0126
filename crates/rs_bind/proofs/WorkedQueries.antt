-- Queries and their first broken rules, computed on literals. The text of each is written above it; its first byte has number 0.
use Rattle.std.proofs.Common.{◌≡◌, ℕ, suc, Bool, true, false, List, [], ◌∷◌, refl}
use Rattle.std.specs.Prelude.{negsuc, pos, Some, None, Result, Ok, Err, codes}
use Rattle.rs_value.specs.declared.kind.Kind.{Kind}
use Rattle.rs_value.specs.declared.kind.Kind.TheVariants as kind
use Rattle.rs_value.specs.declared.rel.Rel.TheVariants.{Eq, Gt}
use Rattle.rs_lex.specs.declared.token.Span.{Span}
use Rattle.rs_syntax.specs.declared.name.Arg.{Arg}
use Rattle.rs_syntax.specs.declared.name.Arg.TheVariants as arg
use Rattle.rs_syntax.specs.declared.name.ColRef.{ColRef}
use Rattle.rs_syntax.specs.declared.name.Name.{Name}
use Rattle.rs_syntax.specs.declared.node.Op.TheVariants.{Add}
use Rattle.rs_syntax.specs.declared.select.Items.TheVariants as items
use Rattle.rs_value.specs.declared.set_op.SetOp.TheVariants.{Union}
use Rattle.rs_syntax.specs.declared.select.TermSyn.{TermSyn}
use Rattle.rs_syntax.specs.Syntax.{And, Arith, Compare, Column, Int, Query}
use Rattle.rs_table.specs.Column as table
use Rattle.rs_expr.specs.Formulas.{Argument, Constant, Numbers, Sum}
use Rattle.rs_expr.specs.Predicates.{PredicateDef}
use Rattle.rs_catalog.specs.Catalog.{CatalogDef, NamedTable}
use Rattle.rs_catalog.specs.declared.index.BoundArg.{BoundArg}
use Rattle.rs_catalog.specs.declared.index.BoundArg.TheVariants as bound
use Rattle.rs_query.specs.declared.query.Query.TheVariants.{One, Set}
use Rattle.rs_query.specs.declared.query.Query as bound_queries
use Rattle.rs_query.specs.declared.term.Term.{Term}
use Rattle.rs_typing.specs.declared.fault.BindFault.{BindFault}
use Rattle.rs_typing.specs.declared.fault.BindFault.TheVariants.{At}
use Rattle.rs_typing.specs.declared.fault.Why.{Why}
use Rattle.rs_typing.specs.declared.fault.Why.TheVariants.{Ambiguous, DistinctNeedsOutput, NameTwice, SetColumnsDiffer, WrongKind}
use Rattle.rs_bind.specs.Queries.{bound_query}

abbrev number : List ℕ → table.Column
number name = (name, kind.Int)

abbrev named_table : List ℕ → List table.Column → NamedTable
named_table name schema = record { name = name; table = record { schema = schema; rows = [] } }

abbrev predicate : List ℕ → List Kind → PredicateDef
predicate name params = record { name = name; params = params; max = 100; cost = 1; formula = Constant (pos 1) }

-- the tables h (name TEXT, price INT, city INT), u (v INT) and w (k TEXT, v INT), and the predicates near (a INT, b INT) and p (v INT)
abbrev made : CatalogDef
made = record {
  tables = named_table (codes "h") ((codes "name", kind.Text) ∷ number (codes "price") ∷ number (codes "city") ∷ [])
      ∷ named_table (codes "u") (number (codes "v") ∷ []) ∷ named_table (codes "w") ((codes "k", kind.Text) ∷ number (codes "v") ∷ []) ∷ [];
  predicates = predicate (codes "near") (kind.Int ∷ kind.Int ∷ []) ∷ predicate (codes "p") (kind.Int ∷ []) ∷ [];
  indexes = [];
}

abbrev span : ℕ → ℕ → Span
span from to = record { start = from; end = to }

abbrev word : List ℕ → ℕ → ℕ → Name
word text from to = record { text = text; at = span from to }

-- a column without an alias, and one of an alias of one letter, which stands two bytes before the column's name
abbrev plain : List ℕ → ℕ → ℕ → ColRef
plain text from to = record { alias = None; column = word text from to }

abbrev dotted : List ℕ → List ℕ → ℕ → ℕ → ColRef
dotted alias text from to = record { alias = Some (word alias from (suc from)); column = word text (suc (suc from)) to }

abbrev refused : Why → ℕ → ℕ → Result bound_queries.Query BindFault
refused why from to = Err (At why (span from to))

-- a term of no written weight, at its predicate's name
abbrev term : List ℕ → ℕ → ℕ → List Arg → ℕ → TermSyn
term name from to args end = record { weight = (pos 1, span from to); predicate = word name from to; args = args; at = span from end }

abbrev term_over : ℕ → List (ℕ × ℕ) → ℕ → Term
term_over p columns entries = record { weight = 1; predicate = p; args = args columns; max = 100; entries = entries } where
  args : List (ℕ × ℕ) → List BoundArg
  args [] = []
  args (c ∷ cs) = bound.Column c.0 c.1 ∷ args cs

-- SELECT x.name, y.name FROM h x, h y WHERE x.city = y.city ORDER BY near(x.price, y.price) LIMIT 3
abbrev join : Query
join = record {
  left = record {
    distinct = false;
    items = items.List (dotted (codes "x") (codes "name") 7 13 ∷ dotted (codes "y") (codes "name") 15 21 ∷ []);
    from = (word (codes "h") 27 28, Some (word (codes "x") 29 30)) ∷ (word (codes "h") 32 33, Some (word (codes "y") 34 35)) ∷ [];
    filter = Some (Compare Eq (Column (dotted (codes "x") (codes "city") 42 48)) (Column (dotted (codes "y") (codes "city") 51 57)) (span 42 57));
  };
  right = None;
  terms = term (codes "near") 67 71 (arg.Column (dotted (codes "x") (codes "price") 72 79) ∷ arg.Column (dotted (codes "y") (codes "price") 81 88) ∷ []) 89 ∷ [];
  limit = Some (pos 3, span 96 97);
}

join-bound : bound_query made join ≡ Ok (One (record {
  from = (0, codes "x") ∷ (0, codes "y") ∷ [];
  conjuncts = record { condition = Numbers Eq (Argument 0) (Argument 1); columns = (1, 2) ∷ (2, 2) ∷ []; entries = 3; equality = Some ((1, 2), (2, 2)) } ∷ [];
  items = (1, 0) ∷ (2, 0) ∷ [];
  terms = term_over 0 ((1, 1) ∷ (2, 1) ∷ []) 3 ∷ [];
  distinct = false;
}) (Some 3))
join-bound = refl

-- SELECT name FROM h WHERE name = 3 ORDER BY p(price) LIMIT 1
text-against-number : bound_query made (record {
  left = record {
    distinct = false;
    items = items.List (plain (codes "name") 7 11 ∷ []);
    from = (word (codes "h") 17 18, None) ∷ [];
    filter = Some (Compare Eq (Column (plain (codes "name") 25 29)) (Int (pos 3) (span 32 33)) (span 25 33));
  };
  right = None;
  terms = term (codes "p") 43 44 (arg.Column (plain (codes "price") 45 50) ∷ []) 51 ∷ [];
  limit = Some (pos 1, span 58 59);
}) ≡ refused WrongKind 25 33
text-against-number = refl

-- SELECT DISTINCT name FROM h ORDER BY p(price), with DISTINCT and without it
abbrev prices : Bool → Query
prices distinct = record {
  left = record { distinct = distinct; items = items.List (plain (codes "name") 16 20 ∷ []); from = (word (codes "h") 26 27, None) ∷ []; filter = None };
  right = None;
  terms = term (codes "p") 37 38 (arg.Column (plain (codes "price") 39 44) ∷ []) 45 ∷ [];
  limit = None;
}

prices-distinct : bound_query made (prices true) ≡ refused DistinctNeedsOutput 37 45
prices-distinct = refl

prices-all : bound_query made (prices false)
    ≡ Ok (One (record { from = (0, codes "h") ∷ []; conjuncts = []; items = (1, 0) ∷ []; terms = term_over 1 ((1, 1) ∷ []) 1 ∷ []; distinct = false }) None)
prices-all = refl

-- SELECT v FROM u UNION SELECT price FROM h ORDER BY p(v): the term's column is the output column at the same place, which has another name in the right block
abbrev union : List ColRef → ℕ → ℕ → ℕ → Query
union outputs table_at p_at v_at = record {
  left = record { distinct = false; items = items.List (plain (codes "v") 7 8 ∷ []); from = (word (codes "u") 14 15, None) ∷ []; filter = None };
  right = Some (Union, record { distinct = false; items = items.List outputs; from = (word (codes "h") table_at (suc table_at), None) ∷ []; filter = None });
  terms = term (codes "p") p_at (suc p_at) (arg.Column (plain (codes "v") v_at (suc v_at)) ∷ []) (suc (suc v_at)) ∷ [];
  limit = None;
}

union-bound : bound_query made (union (plain (codes "price") 29 34 ∷ []) 40 51 53)
    ≡ Ok (Set Union (record { from = (1, codes "u") ∷ []; conjuncts = []; items = (1, 0) ∷ []; terms = term_over 1 ((1, 0) ∷ []) 1 ∷ []; distinct = false })
    (record { from = (0, codes "h") ∷ []; conjuncts = []; items = (1, 1) ∷ []; terms = term_over 1 ((1, 1) ∷ []) 1 ∷ []; distinct = false }) None)
union-bound = refl

-- SELECT v FROM u UNION SELECT name FROM h ORDER BY p(v)
union-of-kinds : bound_query made (union (plain (codes "name") 29 33 ∷ []) 39 50 52) ≡ refused SetColumnsDiffer 29 33
union-of-kinds = refl

-- SELECT v FROM u, w ORDER BY p(u.v)
two-columns : bound_query made (record {
  left = record {
    distinct = false;
    items = items.List (plain (codes "v") 7 8 ∷ []);
    from = (word (codes "u") 14 15, None) ∷ (word (codes "w") 17 18, None) ∷ [];
    filter = None;
  };
  right = None;
  terms = term (codes "p") 28 29 (arg.Column (dotted (codes "u") (codes "v") 30 33) ∷ []) 34 ∷ [];
  limit = None;
}) ≡ refused Ambiguous 7 8
two-columns = refl

-- SELECT k FROM w, u w ORDER BY p(v)
alias-twice : bound_query made (record {
  left = record {
    distinct = false;
    items = items.List (plain (codes "k") 7 8 ∷ []);
    from = (word (codes "w") 14 15, None) ∷ (word (codes "u") 17 18, Some (word (codes "w") 19 20)) ∷ [];
    filter = None;
  };
  right = None;
  terms = term (codes "p") 30 31 (arg.Column (plain (codes "v") 32 33) ∷ []) 34 ∷ [];
  limit = None;
}) ≡ refused NameTwice 19 20
alias-twice = refl

-- SELECT k FROM u a, w b WHERE b.v = a.v AND (a.v + 1 > b.v AND 1 = 2) ORDER BY 3 * near(a.v, -5) LIMIT 0
split : bound_query made (record {
  left = record {
    distinct = false;
    items = items.List (plain (codes "k") 7 8 ∷ []);
    from = (word (codes "u") 14 15, Some (word (codes "a") 16 17)) ∷ (word (codes "w") 19 20, Some (word (codes "b") 21 22)) ∷ [];
    filter = Some (And (Compare Eq (Column (dotted (codes "b") (codes "v") 29 32)) (Column (dotted (codes "a") (codes "v") 35 38)) (span 29 38))
        (And (Compare Gt (Arith Add (Column (dotted (codes "a") (codes "v") 44 47)) (Int (pos 1) (span 50 51)) (span 44 51)) (Column (dotted (codes "b") (codes "v") 54 57)) (span 44 57)) (Compare Eq (Int (pos 1) (span 62 63)) (Int (pos 2) (span 66 67)) (span 62 67)) (span 44 67)) (span 29 68));
  };
  right = None;
  terms = record {
    weight = (pos 3, span 78 79);
    predicate = word (codes "near") 82 86;
    args = arg.Column (dotted (codes "a") (codes "v") 87 90) ∷ arg.Int (negsuc 4) (span 92 94) ∷ [];
    at = span 78 95;
  } ∷ [];
  limit = Some (pos 0, span 102 103);
})
    ≡ Ok (One (record {
      from = (1, codes "a") ∷ (2, codes "b") ∷ [];
      conjuncts = record { condition = Numbers Eq (Argument 0) (Argument 1); columns = (2, 1) ∷ (1, 0) ∷ []; entries = 3; equality = Some ((2, 1), (1, 0)) }
          ∷ record { condition = Numbers Gt (Sum (Argument 0) (Constant (pos 1))) (Argument 1); columns = (1, 0) ∷ (2, 1) ∷ []; entries = 3; equality = None }
          ∷ record { condition = Numbers Eq (Constant (pos 1)) (Constant (pos 2)); columns = []; entries = 0; equality = None } ∷ [];
      items = (2, 0) ∷ [];
      terms = record { weight = 3; predicate = 0; args = bound.Column 1 0 ∷ bound.Int (negsuc 4) ∷ []; max = 100; entries = 1 } ∷ [];
      distinct = false;
    }) (Some 0))
split = refl
