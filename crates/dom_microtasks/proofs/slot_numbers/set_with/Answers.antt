use Rattle.dom_base.proofs.Std.{◌≡◌, ◌++◌, ◌∷◌, [], nat_eq, sym, ap, ◌∙◌, cond-false, items_from_drains, YieldsList-from_slice, YieldsList-from_copied, map-id}
use Rattle.dom_model.proofs.Model.{is_in}
use Rattle.indexmap.specs.IndexSet.{insert_all, insert_key}
use Rattle.dom_microtasks.proofs.slot_numbers.set_with.Goals as goal

pub returns : goal.returns
returns c =
    let list = c.args.list.now in
    let number = c.args.number in
    let ran = c.in_ok-set.ensures.ran in
    let read = items_from_drains ran.1 ran.3 (YieldsList-from_copied (YieldsList-from_slice list cc)) in
    let all : c.in_ok-set.set.keys ≡ list = ran.4.0 ∙ (ap (insert_all nat_eq []) (sym (map-id ran.1) ∙ read) ∙ c.requires.once) in
    ap (λ s. s.keys) c.in_ok-new.ensures.ok ∙ (c.in_ok-insert.ensures.keys ∙ (ap (λ ns. insert_key nat_eq ns number) all
    ∙ cond-false (is_in nat_eq number list) list (list ++ number ∷ []) c.requires.new))
