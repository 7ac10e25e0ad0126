use Rattle.std.proofs.Common.{◌≡◌, ◌-◌, length, slice_get, refl, sym, ◌∙◌, ap}
use Rattle.rs_cert.proofs.CheckFacts.{last_of-slice, reached-alike}
use Rattle.rs_cert.proofs.checking.is_right_reached.Goals as goal

pub returns-else-cert : goal.returns-else-cert
returns-else-cert c =
    let lefts = c.deref.ensures.value ∙ c.items.ensures in
    let rights = c.deref-else-cert.ensures.value ∙ c.items-rights.ensures in
    let left = c.first.ensures.value ∙ ap (λ list. slice_get list 0) lefts in
    let right = c.last.ensures.value ∙ ap (λ list. slice_get list (length list - 1)) rights ∙ last_of-slice c.args.cert.now.right.rows in
    let size : c.len.result ≡ length c.args.cert.now.right.rows = c.len.ensures ∙ sym c.deref-else-cert.ensures.len ∙ ap length rights in (
      λ h open_side. reached-alike _ _ _ _ _ _ _ _ _ _ c.requires.last refl left size right (c.comes_first.ensures.0 h),
      λ is. c.comes_first.ensures.1 (reached-alike _ _ _ _ _ _ _ _ _ _ (sym c.requires.last) refl (sym left) (sym size) (sym right) (is c.if-cert.false)),
    )
