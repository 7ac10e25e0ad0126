-- The references in an expression.
use Rattle.std.specs.Prelude.{List, [], ◌∷◌, ◌++◌}
use Rattle.rs_syntax.specs.declared.name.ColRef.{ColRef}
use Rattle.rs_syntax.specs.Syntax.{Expression, Int, Text, Column, Neg, Arith, Abs, Least, Greatest, Case, Compare, And, Or, Not}

-- the references in an expression, from left to right
abbrev pub references_of : Expression → List ColRef
references_of (Int n at) = []
references_of (Text text at) = []
references_of (Column c) = c ∷ []
references_of (Neg x at) = references_of x
references_of (Arith op x y at) = references_of x ++ references_of y
references_of (Abs x at) = references_of x
references_of (Least x y at) = references_of x ++ references_of y
references_of (Greatest x y at) = references_of x ++ references_of y
references_of (Case x y z at) = references_of x ++ (references_of y ++ references_of z)
references_of (Compare rel x y at) = references_of x ++ references_of y
references_of (And x y at) = references_of x ++ references_of y
references_of (Or x y at) = references_of x ++ references_of y
references_of (Not x at) = references_of x
