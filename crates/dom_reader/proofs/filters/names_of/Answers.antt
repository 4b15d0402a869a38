-- The names that were read and the parts that are left are the parts of the text.
use Rattle.dom_base.proofs.Std.{◌++◌, ℕ, List, map, sym, ap, ◌∙◌, string_bytes, err_from_is_err_and}
use Rattle.dom_reader.specs.Filters.{parts_view}
use Rattle.dom_reader.proofs.Parts.{put_behind, all_named, one_named, not_named}
use Rattle.dom_reader.proofs.filters.names_of.Goals as goal

pub loop-parts-preserved : goal.loop-parts-preserved
loop-parts-preserved c =
    let before = c.loop-parts.invariant in
    let left = ap (parts_view 44) c.in-Some.is in
    let put = put_behind string_bytes c.loop-parts.names.items c.push.new.self.items c.in_ok-name_of.field-0 c.in_ok-push.ensures.items in
    let texts = map string_bytes c.loop-parts.names.items in
    let front = ap (λ (x : List (List ℕ)). texts ++ x) (left ∙ c.first_part.ensures.parts) in
    rw put (one_named texts c.first_part.result.0.now _ c.in_ok-name_of.ensures (sym front ∙ before.0) before.1)

pub returns-in_err-name_of : goal.returns-in_err-name_of
returns-in_err-name_of c =
    let p = err_from_is_err_and c.from_residual.result c.from_residual.ensures.1 in
    let left = ap (parts_view 44) c.in-Some.is in
    rw (p.1, p.2) (not_named _ _ (left ∙ c.first_part.ensures.parts) c.loop-parts.invariant.0 c.in_err-name_of.ensures)

pub returns : goal.returns
returns c = all_named _ _ _ (ap (parts_view 44) c.in_default.is) c.loop-parts.invariant.0 c.loop-parts.invariant.1
