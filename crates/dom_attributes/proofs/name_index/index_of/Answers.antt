use Rattle.dom_base.proofs.Std.{◌≡◌, ◌+◌, ◌++◌, ◌∷◌, [], ℕ, List, Some, refl, sym, ap, subst, ◌∙◌, arith, length, length-take-le, take, take_more}
use Rattle.dom_base.proofs.Std.{if◌then◌else◌}
use Rattle.dom_base.proofs.Std.{bytes_eq, rc_str_bytes, slice_get, slice_get-get_or}
use Rattle.std.specs.BTreeMap.{get_by_text}
use Rattle.dom_attributes.specs.Attributes.{IsIndexOf}
use Rattle.dom_attributes.proofs.NameIndexes.{Entry, index-added, names-before}
use Rattle.dom_attributes.proofs.name_index.index_of.Goals as goal

pub loop-place-preserved : goal.loop-place-preserved
loop-place-preserved c =
    let list = c.args.list.now in
    let i = c.loop-place.place in
    let e = c.index-list-place.result in
    let old = c.loop-place.index in
    let new = c.note.new.index in
    let there : slice_get list i ≡ Some e = slice_get-get_or list i e c.loop-place-test.true ∙ ap Some (sym c.index-list-place.is) in
    let more : take (i + 1) list ≡ take i list ++ e ∷ [] = take_more list i e c.loop-place-test.true ∙
    ap (λ x. take i list ++ x ∷ []) (sym c.index-list-place.is) in
    let many : i ≡ length (take i list) = sym (length-take-le i list (omega (arith, c.loop-place-test.true))) in
    let named : c.as_str.result.now ≡ rc_str_bytes e.0 = c.as_str.ensures.value ∙ ap (λ (y : Entry). rc_str_bytes y.0) (sym c.index-list-place.is) in
    let noted : (t : List ℕ) → get_by_text new t ≡ (if bytes_eq (rc_str_bytes e.0) t then Some (length (take i list)) else get_by_text old t) =
    λ t. c.in_ok-note.ensures.ok t ∙ (λ j. if bytes_eq (named j) t then Some (many j) else get_by_text old t) in
    subst (IsIndexOf new) (sym more) (index-added old new (take i list) (rc_str_bytes e.0) c.loop-place.invariant e refl noted
    (names-before list i e there c.requires))
