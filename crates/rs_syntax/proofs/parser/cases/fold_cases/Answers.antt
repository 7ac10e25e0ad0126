use Rattle.std.proofs.Common.{ℕ, ◌≡◌, ◌∙◌, ◌<◌, List, [], ◌∷◌, ◌++◌, length, map, refl, sym, ap, arith, length-append}
use Rattle.rs_syntax.specs.Cases.{cases_in, when_view}
use Rattle.rs_syntax.specs.Syntax.{Expression, Case, expression_of}
use Rattle.rs_syntax.specs.Trees.{span}
use Rattle.rs_syntax.specs.declared.parser.cases.When.{When}
use Rattle.rs_syntax.proofs.parser.cases.fold_cases.Goals as goal

-- a part and what stands behind it are one rest for those in front of it
cases_in-last : (to : ℕ) (ws : List When) (w : When) (rest : Expression)
    → cases_in to (map when_view (ws ++ w ∷ [])) rest ≡ cases_in to (map when_view ws) (Case (expression_of w.condition) (expression_of w.outcome) rest (span w.from to))
cases_in-last to [] w rest = refl
cases_in-last to (v ∷ ws) w rest = ap (λ more. Case (expression_of v.condition) (expression_of v.outcome) more (span v.from to)) (cases_in-last to ws w rest)

-- the last part was taken
cases_in-pop : (to : ℕ) (before after : List When) (w : When) (rest made whole : Expression) → before ≡ after ++ w ∷ []
    → made ≡ Case (expression_of w.condition) (expression_of w.outcome) rest (span w.from to) → cases_in to (map when_view before) rest ≡ whole
    → cases_in to (map when_view after) made ≡ whole
cases_in-pop to before after w rest made whole e is h =
    ap (cases_in to (map when_view after)) is ∙ sym (cases_in-last to after w rest) ∙ sym (ap (λ ws. cases_in to (map when_view ws) rest) e) ∙ h

-- none is left
cases_in-none : (to : ℕ) (parts : List When) (rest whole : Expression) → length parts ≡ 0 → cases_in to (map when_view parts) rest ≡ whole → rest ≡ whole
cases_in-none to [] rest whole none h = h
cases_in-none to (w ∷ ws) rest whole none h = absurd (omega arith)

shorter : (before after : List When) (w : When) → before ≡ after ++ w ∷ [] → length after < length before
shorter before after w e = rw e (omega (arith, length-append after (w ∷ [])))

pub loop-part-init : goal.loop-part-init
loop-part-init c = refl

pub loop-part-smaller : goal.loop-part-smaller
loop-part-smaller c = shorter c.loop-part.parts.items c.pop.new.self.items c.in-Some.part c.in-Some.ensures.items

pub loop-part-preserved : goal.loop-part-preserved
loop-part-preserved c =
    cases_in-pop c.args.to c.loop-part.parts.items c.pop.new.self.items c.in-Some.part (expression_of c.loop-part.rest) (expression_of c.in-Ok.value)
    (cases_in c.args.to (map when_view c.args.parts.items) (expression_of c.args.otherwise)) c.in-Some.ensures.items c.in-Ok.ensures c.loop-part.invariant

pub returns : goal.returns
returns c =
    cases_in-none c.args.to c.loop-part.parts.items (expression_of c.loop-part.rest) (cases_in c.args.to (map when_view c.args.parts.items) (expression_of c.args.otherwise))
    (sym c.loop-part.parts.ok.0 ∙ c.in_default.ensures.cases.0) c.loop-part.invariant
