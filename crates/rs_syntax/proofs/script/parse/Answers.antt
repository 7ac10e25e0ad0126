use Rattle.std.proofs.Common.{◌≡◌, ◌∙◌, inl, inr, sym, ap, refl, subst, drop, length, Err, true, false, []}
use Rattle.rs_grammar.specs.Grammar.{script}
use Rattle.rs_syntax.specs.Cut.{refusal_of}
use Rattle.rs_syntax.specs.Reads.{Halts, Found}
use Rattle.rs_syntax.specs.Scripts.{Refuses, lexemes_of}
use Rattle.rs_syntax.specs.Statements.{script_of}
use Rattle.rs_syntax.specs.Syntax.{commands_of}
use Rattle.rs_syntax.specs.declared.parser.ParserFault.TheVariants.{Expected, TooDeep}
use Rattle.rs_syntax.proofs.Numbers.{AreNumbers-lexemes, AreNumbers-take}
use Rattle.rs_syntax.proofs.ScriptFacts.{Given, Given-made, begin, begin-made, rest_of, none-behind, some-behind, Refuses-one, IsSound-not_refused, Halts-refused, Halts-too_deep, Read-refused, Read-too_many_refused, Read-parses, Read-sound, Read-one}
use Rattle.rs_grammar.proofs.LexemeFacts.{IsFront-whole}
use Rattle.rs_syntax.proofs.SpanFacts.{Parses-spans}
use Rattle.rs_syntax.proofs.WrittenFacts.{AreWritten-parsed}
use Rattle.rs_syntax.proofs.script.parse.Goals as goal

pub new-parser-requires : goal.new-parser-requires
new-parser-requires c =
    rw (c.truncate.ensures.items, c.in-Ok.ensures)
    (AreNumbers-take c.statements_end-end.result (lexemes_of c.args.script.now c.args.tokens.now) (AreNumbers-lexemes c.args.script.now c.args.tokens.now (IsFront-whole c.args.script.now c.args.tokens.now c.requires.spelled)))

pub returns-in-Err-Expected-clause-only : goal.returns-in-Err-Expected-clause-only
returns-in-Err-Expected-clause-only c =
    let text = c.args.script.now in
    let tokens = c.args.tokens.now in
    let n = c.statements_end-end.result in
    let made : c.deref.result.now ≡ lexemes_of text tokens = c.deref.ensures.value ∙ c.in-Ok.ensures in
    let given : Given text tokens n = Given-made text tokens n c.deref.result.now made c.statements_end-end.ensures.few c.statements_end-end.ensures.cut in
    let start : c.new-parser.result ≡ begin text tokens n = begin-made text tokens n c.in-Ok.lexemes.items c.truncate.new.self.items c.new-parser.result c.new-parser.ensures c.truncate.ensures.items c.in-Ok.ensures in
    let halts : Halts script (begin text tokens n) Expected c.script.new.self =
    subst (λ b. Halts script b Expected c.script.new.self) start (subst (λ f. Halts script c.new-parser.result f c.script.new.self) c.in-Err-Expected.field-0-is c.in-Err-Expected.ensures) in
    let refused : Refuses text tokens c.refusal.result =
    subst (Refuses text tokens) (sym (c.refusal.ensures ∙ ap (λ ts. refusal_of c.script.new.self.rest ts (length text) false) (rest_of n tokens))) (Halts-refused text tokens n c.script.new.self given halts) in
    λ commands parses sound. absurd (IsSound-not_refused text tokens c.refusal.result sound refused)

pub returns-in-Err-Expected-clause-refused : goal.returns-in-Err-Expected-clause-refused
returns-in-Err-Expected-clause-refused c =
    let text = c.args.script.now in
    let tokens = c.args.tokens.now in
    let n = c.statements_end-end.result in
    let made : c.deref.result.now ≡ lexemes_of text tokens = c.deref.ensures.value ∙ c.in-Ok.ensures in
    let given : Given text tokens n = Given-made text tokens n c.deref.result.now made c.statements_end-end.ensures.few c.statements_end-end.ensures.cut in
    let start : c.new-parser.result ≡ begin text tokens n = begin-made text tokens n c.in-Ok.lexemes.items c.truncate.new.self.items c.new-parser.result c.new-parser.ensures c.truncate.ensures.items c.in-Ok.ensures in
    let halts : Halts script (begin text tokens n) Expected c.script.new.self =
    subst (λ b. Halts script b Expected c.script.new.self) start (subst (λ f. Halts script c.new-parser.result f c.script.new.self) c.in-Err-Expected.field-0-is c.in-Err-Expected.ensures) in
    let refused : Refuses text tokens c.refusal.result =
    subst (Refuses text tokens) (sym (c.refusal.ensures ∙ ap (λ ts. refusal_of c.script.new.self.rest ts (length text) false) (rest_of n tokens))) (Halts-refused text tokens n c.script.new.self given halts) in
    inr refused

pub returns-in-Err-Expected-clause-exact : goal.returns-in-Err-Expected-clause-exact
returns-in-Err-Expected-clause-exact c =
    let text = c.args.script.now in
    let tokens = c.args.tokens.now in
    let n = c.statements_end-end.result in
    let made : c.deref.result.now ≡ lexemes_of text tokens = c.deref.ensures.value ∙ c.in-Ok.ensures in
    let given : Given text tokens n = Given-made text tokens n c.deref.result.now made c.statements_end-end.ensures.few c.statements_end-end.ensures.cut in
    let start : c.new-parser.result ≡ begin text tokens n = begin-made text tokens n c.in-Ok.lexemes.items c.truncate.new.self.items c.new-parser.result c.new-parser.ensures c.truncate.ensures.items c.in-Ok.ensures in
    let halts : Halts script (begin text tokens n) Expected c.script.new.self =
    subst (λ b. Halts script b Expected c.script.new.self) start (subst (λ f. Halts script c.new-parser.result f c.script.new.self) c.in-Err-Expected.field-0-is c.in-Err-Expected.ensures) in
    let refused : Refuses text tokens c.refusal.result =
    subst (Refuses text tokens) (sym (c.refusal.ensures ∙ ap (λ ts. refusal_of c.script.new.self.rest ts (length text) false) (rest_of n tokens))) (Halts-refused text tokens n c.script.new.self given halts) in
    λ other h. inl (ap Err (Refuses-one text tokens c.refusal.result other refused h))

pub returns-in-Err-TooDeep-clause-only : goal.returns-in-Err-TooDeep-clause-only
returns-in-Err-TooDeep-clause-only c =
    let text = c.args.script.now in
    let tokens = c.args.tokens.now in
    let n = c.statements_end-end.result in
    let made : c.deref.result.now ≡ lexemes_of text tokens = c.deref.ensures.value ∙ c.in-Ok.ensures in
    let given : Given text tokens n = Given-made text tokens n c.deref.result.now made c.statements_end-end.ensures.few c.statements_end-end.ensures.cut in
    let start : c.new-parser.result ≡ begin text tokens n = begin-made text tokens n c.in-Ok.lexemes.items c.truncate.new.self.items c.new-parser.result c.new-parser.ensures c.truncate.ensures.items c.in-Ok.ensures in
    let halts : Halts script (begin text tokens n) TooDeep c.script.new.self =
    subst (λ b. Halts script b TooDeep c.script.new.self) start (subst (λ f. Halts script c.new-parser.result f c.script.new.self) c.in-Err-TooDeep.field-0-is c.in-Err-TooDeep.ensures) in
    let refused : Refuses text tokens c.refusal-in-Err-TooDeep.result =
    subst (Refuses text tokens) (sym (c.refusal-in-Err-TooDeep.ensures ∙ ap (λ ts. refusal_of c.script.new.self.rest ts (length text) true) (rest_of n tokens))) (Halts-too_deep text tokens n c.script.new.self given halts) in
    λ commands parses sound. absurd (IsSound-not_refused text tokens c.refusal-in-Err-TooDeep.result sound refused)

pub returns-in-Err-TooDeep-clause-refused : goal.returns-in-Err-TooDeep-clause-refused
returns-in-Err-TooDeep-clause-refused c =
    let text = c.args.script.now in
    let tokens = c.args.tokens.now in
    let n = c.statements_end-end.result in
    let made : c.deref.result.now ≡ lexemes_of text tokens = c.deref.ensures.value ∙ c.in-Ok.ensures in
    let given : Given text tokens n = Given-made text tokens n c.deref.result.now made c.statements_end-end.ensures.few c.statements_end-end.ensures.cut in
    let start : c.new-parser.result ≡ begin text tokens n = begin-made text tokens n c.in-Ok.lexemes.items c.truncate.new.self.items c.new-parser.result c.new-parser.ensures c.truncate.ensures.items c.in-Ok.ensures in
    let halts : Halts script (begin text tokens n) TooDeep c.script.new.self =
    subst (λ b. Halts script b TooDeep c.script.new.self) start (subst (λ f. Halts script c.new-parser.result f c.script.new.self) c.in-Err-TooDeep.field-0-is c.in-Err-TooDeep.ensures) in
    let refused : Refuses text tokens c.refusal-in-Err-TooDeep.result =
    subst (Refuses text tokens) (sym (c.refusal-in-Err-TooDeep.ensures ∙ ap (λ ts. refusal_of c.script.new.self.rest ts (length text) true) (rest_of n tokens))) (Halts-too_deep text tokens n c.script.new.self given halts) in
    inr refused

pub returns-in-Err-TooDeep-clause-exact : goal.returns-in-Err-TooDeep-clause-exact
returns-in-Err-TooDeep-clause-exact c =
    let text = c.args.script.now in
    let tokens = c.args.tokens.now in
    let n = c.statements_end-end.result in
    let made : c.deref.result.now ≡ lexemes_of text tokens = c.deref.ensures.value ∙ c.in-Ok.ensures in
    let given : Given text tokens n = Given-made text tokens n c.deref.result.now made c.statements_end-end.ensures.few c.statements_end-end.ensures.cut in
    let start : c.new-parser.result ≡ begin text tokens n = begin-made text tokens n c.in-Ok.lexemes.items c.truncate.new.self.items c.new-parser.result c.new-parser.ensures c.truncate.ensures.items c.in-Ok.ensures in
    let halts : Halts script (begin text tokens n) TooDeep c.script.new.self =
    subst (λ b. Halts script b TooDeep c.script.new.self) start (subst (λ f. Halts script c.new-parser.result f c.script.new.self) c.in-Err-TooDeep.field-0-is c.in-Err-TooDeep.ensures) in
    let refused : Refuses text tokens c.refusal-in-Err-TooDeep.result =
    subst (Refuses text tokens) (sym (c.refusal-in-Err-TooDeep.ensures ∙ ap (λ ts. refusal_of c.script.new.self.rest ts (length text) true) (rest_of n tokens))) (Halts-too_deep text tokens n c.script.new.self given halts) in
    λ other h. inl (ap Err (Refuses-one text tokens c.refusal-in-Err-TooDeep.result other refused h))

pub returns-then-not-is_done-clause-only : goal.returns-then-not-is_done-clause-only
returns-then-not-is_done-clause-only c =
    let text = c.args.script.now in
    let tokens = c.args.tokens.now in
    let n = c.statements_end-end.result in
    let made : c.deref.result.now ≡ lexemes_of text tokens = c.deref.ensures.value ∙ c.in-Ok.ensures in
    let given : Given text tokens n = Given-made text tokens n c.deref.result.now made c.statements_end-end.ensures.few c.statements_end-end.ensures.cut in
    let start : c.new-parser.result ≡ begin text tokens n = begin-made text tokens n c.in-Ok.lexemes.items c.truncate.new.self.items c.new-parser.result c.new-parser.ensures c.truncate.ensures.items c.in-Ok.ensures in
    let found : Found script script_of (begin text tokens n) c.script.new.self (commands_of c.in-Ok-script.statements.items) =
    subst (λ b. Found script script_of b c.script.new.self (commands_of c.in-Ok-script.statements.items)) start c.in-Ok-script.ensures in
    let refused : Refuses text tokens c.refusal-then-not-is_done.result =
    subst (Refuses text tokens) (sym (c.refusal-then-not-is_done.ensures ∙ ap (λ ts. refusal_of c.script.new.self.rest ts (length text) false) (rest_of n tokens)))
    (Read-refused text tokens n found.tree c.script.new.self given found.read (λ e. let no : false ≡ true = c.if-not-is_done.ensures.1 e in cc)) in
    λ commands parses sound. absurd (IsSound-not_refused text tokens c.refusal-then-not-is_done.result sound refused)

pub returns-then-not-is_done-clause-refused : goal.returns-then-not-is_done-clause-refused
returns-then-not-is_done-clause-refused c =
    let text = c.args.script.now in
    let tokens = c.args.tokens.now in
    let n = c.statements_end-end.result in
    let made : c.deref.result.now ≡ lexemes_of text tokens = c.deref.ensures.value ∙ c.in-Ok.ensures in
    let given : Given text tokens n = Given-made text tokens n c.deref.result.now made c.statements_end-end.ensures.few c.statements_end-end.ensures.cut in
    let start : c.new-parser.result ≡ begin text tokens n = begin-made text tokens n c.in-Ok.lexemes.items c.truncate.new.self.items c.new-parser.result c.new-parser.ensures c.truncate.ensures.items c.in-Ok.ensures in
    let found : Found script script_of (begin text tokens n) c.script.new.self (commands_of c.in-Ok-script.statements.items) =
    subst (λ b. Found script script_of b c.script.new.self (commands_of c.in-Ok-script.statements.items)) start c.in-Ok-script.ensures in
    let refused : Refuses text tokens c.refusal-then-not-is_done.result =
    subst (Refuses text tokens) (sym (c.refusal-then-not-is_done.ensures ∙ ap (λ ts. refusal_of c.script.new.self.rest ts (length text) false) (rest_of n tokens)))
    (Read-refused text tokens n found.tree c.script.new.self given found.read (λ e. let no : false ≡ true = c.if-not-is_done.ensures.1 e in cc)) in
    inr refused

pub returns-then-not-is_done-clause-exact : goal.returns-then-not-is_done-clause-exact
returns-then-not-is_done-clause-exact c =
    let text = c.args.script.now in
    let tokens = c.args.tokens.now in
    let n = c.statements_end-end.result in
    let made : c.deref.result.now ≡ lexemes_of text tokens = c.deref.ensures.value ∙ c.in-Ok.ensures in
    let given : Given text tokens n = Given-made text tokens n c.deref.result.now made c.statements_end-end.ensures.few c.statements_end-end.ensures.cut in
    let start : c.new-parser.result ≡ begin text tokens n = begin-made text tokens n c.in-Ok.lexemes.items c.truncate.new.self.items c.new-parser.result c.new-parser.ensures c.truncate.ensures.items c.in-Ok.ensures in
    let found : Found script script_of (begin text tokens n) c.script.new.self (commands_of c.in-Ok-script.statements.items) =
    subst (λ b. Found script script_of b c.script.new.self (commands_of c.in-Ok-script.statements.items)) start c.in-Ok-script.ensures in
    let refused : Refuses text tokens c.refusal-then-not-is_done.result =
    subst (Refuses text tokens) (sym (c.refusal-then-not-is_done.ensures ∙ ap (λ ts. refusal_of c.script.new.self.rest ts (length text) false) (rest_of n tokens)))
    (Read-refused text tokens n found.tree c.script.new.self given found.read (λ e. let no : false ≡ true = c.if-not-is_done.ensures.1 e in cc)) in
    λ other h. inl (ap Err (Refuses-one text tokens c.refusal-then-not-is_done.result other refused h))

pub returns-then-not-is_empty-clause-only : goal.returns-then-not-is_empty-clause-only
returns-then-not-is_empty-clause-only c =
    let text = c.args.script.now in
    let tokens = c.args.tokens.now in
    let n = c.statements_end-end.result in
    let made : c.deref.result.now ≡ lexemes_of text tokens = c.deref.ensures.value ∙ c.in-Ok.ensures in
    let given : Given text tokens n = Given-made text tokens n c.deref.result.now made c.statements_end-end.ensures.few c.statements_end-end.ensures.cut in
    let start : c.new-parser.result ≡ begin text tokens n = begin-made text tokens n c.in-Ok.lexemes.items c.truncate.new.self.items c.new-parser.result c.new-parser.ensures c.truncate.ensures.items c.in-Ok.ensures in
    let found : Found script script_of (begin text tokens n) c.script.new.self (commands_of c.in-Ok-script.statements.items) =
    subst (λ b. Found script script_of b c.script.new.self (commands_of c.in-Ok-script.statements.items)) start c.in-Ok-script.ensures in
    let refused : Refuses text tokens c.refusal-then-not-is_empty.result =
    subst (Refuses text tokens) (sym (c.refusal-then-not-is_empty.ensures ∙ ap (λ ts. refusal_of c.script.new.self.rest ts (length text) false) (rest_of n tokens)))
    (Read-too_many_refused text tokens n found.tree c.script.new.self given found.read (c.if-not-is_done.ensures.0 refl) (some-behind n tokens c.if-not-is_empty.ensures)) in
    λ commands parses sound. absurd (IsSound-not_refused text tokens c.refusal-then-not-is_empty.result sound refused)

pub returns-then-not-is_empty-clause-refused : goal.returns-then-not-is_empty-clause-refused
returns-then-not-is_empty-clause-refused c =
    let text = c.args.script.now in
    let tokens = c.args.tokens.now in
    let n = c.statements_end-end.result in
    let made : c.deref.result.now ≡ lexemes_of text tokens = c.deref.ensures.value ∙ c.in-Ok.ensures in
    let given : Given text tokens n = Given-made text tokens n c.deref.result.now made c.statements_end-end.ensures.few c.statements_end-end.ensures.cut in
    let start : c.new-parser.result ≡ begin text tokens n = begin-made text tokens n c.in-Ok.lexemes.items c.truncate.new.self.items c.new-parser.result c.new-parser.ensures c.truncate.ensures.items c.in-Ok.ensures in
    let found : Found script script_of (begin text tokens n) c.script.new.self (commands_of c.in-Ok-script.statements.items) =
    subst (λ b. Found script script_of b c.script.new.self (commands_of c.in-Ok-script.statements.items)) start c.in-Ok-script.ensures in
    let refused : Refuses text tokens c.refusal-then-not-is_empty.result =
    subst (Refuses text tokens) (sym (c.refusal-then-not-is_empty.ensures ∙ ap (λ ts. refusal_of c.script.new.self.rest ts (length text) false) (rest_of n tokens)))
    (Read-too_many_refused text tokens n found.tree c.script.new.self given found.read (c.if-not-is_done.ensures.0 refl) (some-behind n tokens c.if-not-is_empty.ensures)) in
    inr refused

pub returns-then-not-is_empty-clause-exact : goal.returns-then-not-is_empty-clause-exact
returns-then-not-is_empty-clause-exact c =
    let text = c.args.script.now in
    let tokens = c.args.tokens.now in
    let n = c.statements_end-end.result in
    let made : c.deref.result.now ≡ lexemes_of text tokens = c.deref.ensures.value ∙ c.in-Ok.ensures in
    let given : Given text tokens n = Given-made text tokens n c.deref.result.now made c.statements_end-end.ensures.few c.statements_end-end.ensures.cut in
    let start : c.new-parser.result ≡ begin text tokens n = begin-made text tokens n c.in-Ok.lexemes.items c.truncate.new.self.items c.new-parser.result c.new-parser.ensures c.truncate.ensures.items c.in-Ok.ensures in
    let found : Found script script_of (begin text tokens n) c.script.new.self (commands_of c.in-Ok-script.statements.items) =
    subst (λ b. Found script script_of b c.script.new.self (commands_of c.in-Ok-script.statements.items)) start c.in-Ok-script.ensures in
    let refused : Refuses text tokens c.refusal-then-not-is_empty.result =
    subst (Refuses text tokens) (sym (c.refusal-then-not-is_empty.ensures ∙ ap (λ ts. refusal_of c.script.new.self.rest ts (length text) false) (rest_of n tokens)))
    (Read-too_many_refused text tokens n found.tree c.script.new.self given found.read (c.if-not-is_done.ensures.0 refl) (some-behind n tokens c.if-not-is_empty.ensures)) in
    λ other h. inl (ap Err (Refuses-one text tokens c.refusal-then-not-is_empty.result other refused h))

pub returns-clause-found : goal.returns-clause-found
returns-clause-found c =
    let text = c.args.script.now in
    let tokens = c.args.tokens.now in
    let n = c.statements_end-end.result in
    let made : c.deref.result.now ≡ lexemes_of text tokens = c.deref.ensures.value ∙ c.in-Ok.ensures in
    let given : Given text tokens n = Given-made text tokens n c.deref.result.now made c.statements_end-end.ensures.few c.statements_end-end.ensures.cut in
    let start : c.new-parser.result ≡ begin text tokens n = begin-made text tokens n c.in-Ok.lexemes.items c.truncate.new.self.items c.new-parser.result c.new-parser.ensures c.truncate.ensures.items c.in-Ok.ensures in
    let found : Found script script_of (begin text tokens n) c.script.new.self (commands_of c.in-Ok-script.statements.items) =
    subst (λ b. Found script script_of b c.script.new.self (commands_of c.in-Ok-script.statements.items)) start c.in-Ok-script.ensures in
    let done : c.script.new.self.rest ≡ [] = c.if-not-is_done.ensures.0 refl in
    let none : drop n tokens ≡ [] = none-behind n tokens c.if-not-is_empty.ensures in
    Read-parses text tokens n found.tree c.script.new.self (commands_of c.in-Ok-script.statements.items) given found.read done none found.means

pub returns-clause-ordered : goal.returns-clause-ordered
returns-clause-ordered c =
    let text = c.args.script.now in
    let tokens = c.args.tokens.now in
    let n = c.statements_end-end.result in
    let made : c.deref.result.now ≡ lexemes_of text tokens = c.deref.ensures.value ∙ c.in-Ok.ensures in
    let given : Given text tokens n = Given-made text tokens n c.deref.result.now made c.statements_end-end.ensures.few c.statements_end-end.ensures.cut in
    let start : c.new-parser.result ≡ begin text tokens n = begin-made text tokens n c.in-Ok.lexemes.items c.truncate.new.self.items c.new-parser.result c.new-parser.ensures c.truncate.ensures.items c.in-Ok.ensures in
    let found : Found script script_of (begin text tokens n) c.script.new.self (commands_of c.in-Ok-script.statements.items) =
    subst (λ b. Found script script_of b c.script.new.self (commands_of c.in-Ok-script.statements.items)) start c.in-Ok-script.ensures in
    let done : c.script.new.self.rest ≡ [] = c.if-not-is_done.ensures.0 refl in
    let none : drop n tokens ≡ [] = none-behind n tokens c.if-not-is_empty.ensures in
    Parses-spans text tokens (commands_of c.in-Ok-script.statements.items) c.requires.spelled
    (Read-parses text tokens n found.tree c.script.new.self (commands_of c.in-Ok-script.statements.items) given found.read done none found.means)

pub returns-clause-written : goal.returns-clause-written
returns-clause-written c =
    let text = c.args.script.now in
    let tokens = c.args.tokens.now in
    let n = c.statements_end-end.result in
    let made : c.deref.result.now ≡ lexemes_of text tokens = c.deref.ensures.value ∙ c.in-Ok.ensures in
    let given : Given text tokens n = Given-made text tokens n c.deref.result.now made c.statements_end-end.ensures.few c.statements_end-end.ensures.cut in
    let start : c.new-parser.result ≡ begin text tokens n = begin-made text tokens n c.in-Ok.lexemes.items c.truncate.new.self.items c.new-parser.result c.new-parser.ensures c.truncate.ensures.items c.in-Ok.ensures in
    let found : Found script script_of (begin text tokens n) c.script.new.self (commands_of c.in-Ok-script.statements.items) =
    subst (λ b. Found script script_of b c.script.new.self (commands_of c.in-Ok-script.statements.items)) start c.in-Ok-script.ensures in
    let done : c.script.new.self.rest ≡ [] = c.if-not-is_done.ensures.0 refl in
    let none : drop n tokens ≡ [] = none-behind n tokens c.if-not-is_empty.ensures in
    AreWritten-parsed text tokens (commands_of c.in-Ok-script.statements.items) c.requires.spelled
    (Read-parses text tokens n found.tree c.script.new.self (commands_of c.in-Ok-script.statements.items) given found.read done none found.means)

pub returns-clause-sound : goal.returns-clause-sound
returns-clause-sound c =
    let text = c.args.script.now in
    let tokens = c.args.tokens.now in
    let n = c.statements_end-end.result in
    let made : c.deref.result.now ≡ lexemes_of text tokens = c.deref.ensures.value ∙ c.in-Ok.ensures in
    let given : Given text tokens n = Given-made text tokens n c.deref.result.now made c.statements_end-end.ensures.few c.statements_end-end.ensures.cut in
    let start : c.new-parser.result ≡ begin text tokens n = begin-made text tokens n c.in-Ok.lexemes.items c.truncate.new.self.items c.new-parser.result c.new-parser.ensures c.truncate.ensures.items c.in-Ok.ensures in
    let found : Found script script_of (begin text tokens n) c.script.new.self (commands_of c.in-Ok-script.statements.items) =
    subst (λ b. Found script script_of b c.script.new.self (commands_of c.in-Ok-script.statements.items)) start c.in-Ok-script.ensures in
    let done : c.script.new.self.rest ≡ [] = c.if-not-is_done.ensures.0 refl in
    let none : drop n tokens ≡ [] = none-behind n tokens c.if-not-is_empty.ensures in
    Read-sound text tokens n found.tree c.script.new.self given found.read done none

pub returns-clause-only : goal.returns-clause-only
returns-clause-only c =
    let text = c.args.script.now in
    let tokens = c.args.tokens.now in
    let n = c.statements_end-end.result in
    let made : c.deref.result.now ≡ lexemes_of text tokens = c.deref.ensures.value ∙ c.in-Ok.ensures in
    let given : Given text tokens n = Given-made text tokens n c.deref.result.now made c.statements_end-end.ensures.few c.statements_end-end.ensures.cut in
    let start : c.new-parser.result ≡ begin text tokens n = begin-made text tokens n c.in-Ok.lexemes.items c.truncate.new.self.items c.new-parser.result c.new-parser.ensures c.truncate.ensures.items c.in-Ok.ensures in
    let found : Found script script_of (begin text tokens n) c.script.new.self (commands_of c.in-Ok-script.statements.items) =
    subst (λ b. Found script script_of b c.script.new.self (commands_of c.in-Ok-script.statements.items)) start c.in-Ok-script.ensures in
    let done : c.script.new.self.rest ≡ [] = c.if-not-is_done.ensures.0 refl in
    let none : drop n tokens ≡ [] = none-behind n tokens c.if-not-is_empty.ensures in
    λ others parses sound. Read-one text tokens n found.tree c.script.new.self (commands_of c.in-Ok-script.statements.items) others given found.read done none found.means parses

pub returns-clause-exact : goal.returns-clause-exact
returns-clause-exact c =
    let text = c.args.script.now in
    let tokens = c.args.tokens.now in
    let n = c.statements_end-end.result in
    let made : c.deref.result.now ≡ lexemes_of text tokens = c.deref.ensures.value ∙ c.in-Ok.ensures in
    let given : Given text tokens n = Given-made text tokens n c.deref.result.now made c.statements_end-end.ensures.few c.statements_end-end.ensures.cut in
    let start : c.new-parser.result ≡ begin text tokens n = begin-made text tokens n c.in-Ok.lexemes.items c.truncate.new.self.items c.new-parser.result c.new-parser.ensures c.truncate.ensures.items c.in-Ok.ensures in
    let found : Found script script_of (begin text tokens n) c.script.new.self (commands_of c.in-Ok-script.statements.items) =
    subst (λ b. Found script script_of b c.script.new.self (commands_of c.in-Ok-script.statements.items)) start c.in-Ok-script.ensures in
    let done : c.script.new.self.rest ≡ [] = c.if-not-is_done.ensures.0 refl in
    let none : drop n tokens ≡ [] = none-behind n tokens c.if-not-is_empty.ensures in
    λ other h. absurd (IsSound-not_refused text tokens other (Read-sound text tokens n found.tree c.script.new.self given found.read done none) h)
