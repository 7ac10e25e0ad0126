-- Tokens derive from a part by one tree at most, however many they are and however deep.
use Rattle.std.proofs.Common.{◌≡◌, Bool, true, false, ◌++◌, refl, ◌∙◌, append_assoc}
use Rattle.rs_grammar.specs.Grammar.{Part, One, Empty, Seq, Either, Many, Use, rule, Tree, Leaf, Nothing, Pair, This, That, More, Node, yield, Fits, script}
use Rattle.rs_grammar.specs.Reading.{starts, next_is}
use Rattle.rs_grammar.proofs.Predict.{Clear}
use Rattle.rs_grammar.proofs.Beginnings.{Clear-use, Begins-not, Fits-begins, Fits-opens, Fits-one, Fits-empty, Fits-seq, Fits-use, Fits-this, Fits-that, Fits-more, Fits-stop}
use Rattle.rs_grammar.proofs.Derivation.{Rest}

-- a test that doesn't pass fails
not-passed : (b : Bool) → (b ≡ true → ⊥) → b ≡ false
not-passed true fails = absurd (fails refl)
not-passed false fails = refl

-- the next token of the second alternative and what is behind it isn't one that the first one begins with
That-next : (p q S : Part) (t s : Tree) → Clear (Either p q) (starts S) → Fits q t → Fits S s → next_is (starts p) (yield t ++ yield s) ≡ false
That-next p q S t s clear h k = not-passed (next_is (starts p) (yield t ++ yield s)) never
  where
    never : next_is (starts p) (yield t ++ yield s) ≡ true → ⊥
    never next =
        let g = Fits-this p q S (Pair (That t) s) clear next (h, k) in
        let same : Pair (That t) s ≡ Pair (This g.part) g.tail = g.is in
        cc

-- whatever derives the tokens of a tree and of another one behind it derives from the part the same tree
pub Fits-only : (p : Part) (t : Tree) → Fits p t → (S : Part) → Clear p (starts S) → (s : Tree) → Fits S s
    → (x : Tree) → Fits (Seq p S) x → yield x ≡ yield t ++ yield s → Rest S t x (yield s)
Fits-only (One kinds) (Leaf l) h S clear s k x fits spells =
    let g = Fits-one kinds S x fits in
    let same : g.token ≡ l = cc (g.spells, spells) in
    record { tail = g.tail; is = cc (g.is, same); fits = g.fits; spells = cc (g.spells, spells) }
Fits-only Empty Nothing h S clear s k x fits spells =
    let g = Fits-empty S x fits in
    record { tail = g.tail; is = g.is; fits = g.fits; spells = g.spells ∙ spells }
Fits-only (Seq p q) (Pair t u) h S clear s k x fits spells =
    let g = Fits-seq p q S x fits in
    let whole : yield x ≡ yield t ++ (yield u ++ yield s) = spells ∙ append_assoc (yield t) (yield u) (yield s) in
    let r = Fits-only p t h.0 (Seq q S) clear.0 (Pair u s) (h.1, k) (Pair g.one (Pair g.two g.tail)) g.fits (g.spells ∙ whole) in
    let o = Fits-only q u h.1 S clear.1 s k r.tail r.fits r.spells in
    record { tail = o.tail; is = cc (g.is, r.is, o.is); fits = o.fits; spells = o.spells }
Fits-only (Either p q) (This t) h S clear s k x fits spells =
    let next : next_is (starts p) (yield x) ≡ true = rw spells (Fits-opens p S (Pair t s) clear.0 (h, k)) in
    let g = Fits-this p q S x clear next fits in
    let r = Fits-only p t h S clear.3 s k (Pair g.part g.tail) g.fits (g.spells ∙ spells) in
    record { tail = r.tail; is = cc (g.is, r.is); fits = r.fits; spells = r.spells }
Fits-only (Either p q) (That t) h S clear s k x fits spells =
    let next : next_is (starts p) (yield x) ≡ false = rw spells (That-next p q S t s clear h k) in
    let g = Fits-that p q S x clear next fits in
    let r = Fits-only q t h S clear.4 s k (Pair g.part g.tail) g.fits (g.spells ∙ spells) in
    record { tail = r.tail; is = cc (g.is, r.is); fits = r.fits; spells = r.spells }
Fits-only (Many p) Nothing h S clear s k x fits spells =
    let next : next_is (starts p) (yield x) ≡ false =
    rw spells (not-passed (next_is (starts p) (yield s)) (Begins-not (starts p) (starts S) (yield s) clear.1 (Fits-begins S s k)))
    in
    let g = Fits-stop p S x clear next fits in
    record { tail = g.tail; is = g.is; fits = g.fits; spells = g.spells ∙ spells }
Fits-only (Many p) (More t u) h S clear s k x fits spells =
    let whole : yield x ≡ yield t ++ (yield u ++ yield s) = spells ∙ append_assoc (yield t) (yield u) (yield s) in
    let next : next_is (starts p) (yield x) ≡ true = rw whole (Fits-opens p (Seq (Many p) S) (Pair t (Pair u s)) clear.0 (h.0, (h.1, k))) in
    let g = Fits-more p S x clear next fits in
    let r = Fits-only p t h.0 (Seq (Many p) S) clear.2 (Pair u s) (h.1, k) (Pair g.one (Pair g.two g.tail)) g.fits (g.spells ∙ whole) in
    let o = Fits-only (Many p) u h.1 S clear s k r.tail r.fits r.spells in
    record { tail = o.tail; is = cc (g.is, r.is, o.is); fits = o.fits; spells = o.spells }
Fits-only (Use r) (Node t) h S clear s k x fits spells =
    let g = Fits-use r S x fits in
    let o = Fits-only (rule r) t h S (Clear-use r S clear) s k (Pair g.part g.tail) g.fits (g.spells ∙ spells) in
    record { tail = o.tail; is = cc (g.is, o.is); fits = o.fits; spells = o.spells }
Fits-only _ _ h S clear s k x fits spells = absurd h

-- a script is clear before nothing
script-clear : Clear script (starts Empty)
script-clear = (refl, refl, refl, refl, tt)

-- tokens are a script by one tree at most
pub script-one : (t x : Tree) → Fits script t → Fits script x → yield x ≡ yield t → x ≡ t
script-one t x h fits spells =
    let r : Rest Empty t (Pair x Nothing) (yield Nothing) = Fits-only script t h Empty script-clear Nothing tt (Pair x Nothing) (fits, tt) (rw spells refl) in
    let same : Pair x Nothing ≡ Pair t r.tail = r.is in
    cc
