-- The text at this place is the same.
use Rattle.dom_base.proofs.Std.{rules, slice_get, slice_get-get_or}
use Rattle.dom_selectors.proofs.Cited.{◌≡◌, ◌<◌, ◌∙◌, ap, length, MatchOption, Option, Some, subst, sym, text_same}
use Rattle.dom_selectors.specs.declared.parsed.Parsed.{Parsed}
use Rattle.dom_selectors.proofs.parsed.place_of.Goals as goal

pub returns-then-is_same_string : goal.returns-then-is_same_string
returns-then-is_same_string c =
    let same = text_same c.deref.result.now c.args.text.now (sym c.is_same_string.ensures ∙ c.if-is_same_string.true) in
    let here = c.index-kept-place.result in
    let within : c.loop-place.place < length c.args.kept.now = search rules in
    let read : slice_get c.args.kept.now c.loop-place.place ≡ Some here =
    slice_get-get_or c.args.kept.now c.loop-place.place here within ∙ ap Some (sym c.index-kept-place.is) in
    subst (λ (o : Option Parsed). MatchOption o ⊥ (λ p. p.text.items ≡ c.args.text.now)) (sym read)
    (ap (λ (p : Parsed). p.text.items) c.index-kept-place.is ∙ sym c.deref.ensures.value ∙ same)
