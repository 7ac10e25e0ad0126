-- Comparisons of two values.
use Rattle.std.specs.Prelude.{Bool, true, false}
use Rattle.std.specs.declared.cmp.Ordering.{Ordering}
use Rattle.std.specs.declared.cmp.Ordering.TheVariants.{Less, Equal, Greater}
use Rattle.rs_value.specs.declared.rel.Rel.{Rel}
use Rattle.rs_value.specs.declared.rel.Rel.TheVariants.{Eq, Ne, Lt, Le, Gt, Ge}

-- whether a comparison holds of two values in this order
abbrev pub rel_holds : Rel → Ordering → Bool
rel_holds Eq Less = false
rel_holds Eq Equal = true
rel_holds Eq Greater = false
rel_holds Ne Less = true
rel_holds Ne Equal = false
rel_holds Ne Greater = true
rel_holds Lt Less = true
rel_holds Lt Equal = false
rel_holds Lt Greater = false
rel_holds Le Less = true
rel_holds Le Equal = true
rel_holds Le Greater = false
rel_holds Gt Less = false
rel_holds Gt Equal = false
rel_holds Gt Greater = true
rel_holds Ge Less = false
rel_holds Ge Equal = true
rel_holds Ge Greater = true
