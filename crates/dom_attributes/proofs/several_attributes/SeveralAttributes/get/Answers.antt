use Rattle.dom_base.proofs.Std.{Some, refl, ap, ◌∙◌, option_map, rc_str_bytes}
use Rattle.dom_attributes.specs.Attributes.{value_among}
use Rattle.dom_attributes.proofs.FewAttributes.{place-at, place-off, named, found-value, off-value}
use Rattle.dom_attributes.proofs.several_attributes.SeveralAttributes.get.Goals as goal

pub returns-in_err-place : goal.returns-in_err-place
returns-in_err-place c =
    let list = c.self.inside.list.items in
    let a = c.args.name.now in
    ap (option_map (λ v. v.now)) c.from_residual.ensures
    ∙ off-value rc_str_bytes (λ v. v.items) a list (place-off (named rc_str_bytes (λ v. v.items) a) list c.deref.result.now _ c.in_err-place.ensures
    c.deref.ensures.value refl) ∙ ap (value_among a) c.self.view_is

pub returns : goal.returns
returns c =
    let list = c.self.inside.list.items in
    let a = c.args.name.now in
    ap Some c.as_slice.ensures.value
    ∙ found-value rc_str_bytes (λ v. v.items) a list c.in_ok-place.place c.index.result.now
    (place-at (named rc_str_bytes (λ v. v.items) a) c.in_ok-place.ensures c.deref.ensures.value refl) c.index.ensures ∙ ap (value_among a) c.self.view_is
