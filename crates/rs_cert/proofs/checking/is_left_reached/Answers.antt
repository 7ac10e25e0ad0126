use Rattle.std.proofs.Common.{◌≡◌, ◌-◌, length, slice_get, refl, sym, ◌∙◌, ap}
use Rattle.rs_cert.proofs.CheckFacts.{last_of-slice, reached-alike}
use Rattle.rs_cert.proofs.checking.is_left_reached.Goals as goal

pub returns-else-cert : goal.returns-else-cert
returns-else-cert c =
    let lefts = c.deref.ensures.value ∙ c.items-lefts.ensures in
    let rights = c.deref-else-cert.ensures.value ∙ c.items.ensures in
    let left = c.last.ensures.value ∙ ap (λ list. slice_get list (length list - 1)) lefts ∙ last_of-slice c.args.cert.now.left.rows in
    let right = c.first.ensures.value ∙ ap (λ list. slice_get list 0) rights in
    let size : c.len.result ≡ length c.args.cert.now.left.rows = c.len.ensures ∙ sym c.deref.ensures.len ∙ ap length lefts in (
      λ h open_side. reached-alike _ _ _ _ _ _ _ _ _ _ c.requires.last size left refl right (c.comes_first.ensures.0 h),
      λ is. c.comes_first.ensures.1 (reached-alike _ _ _ _ _ _ _ _ _ _ (sym c.requires.last) (sym size) (sym left) refl (sym right) (is c.if-cert.false)),
    )
