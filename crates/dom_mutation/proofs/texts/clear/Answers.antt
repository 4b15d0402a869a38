use Rattle.dom_mutation.proofs.Cited.{ℕ, [], List, None, map, ap, sym, ◌∙◌, on_ok_weaker, is_empty, child_list, queue_record, name_in, owner_in, stepped}
use Rattle.dom_mutation.proofs.Inserted.{some_left}
use Rattle.dom_mutation.proofs.Emptied.{cleared_none, cleared_some, none_left}
use Rattle.dom_mutation.proofs.texts.clear.Goals as goal

pub returns-then-is_empty : goal.returns-then-is_empty
returns-then-is_empty c =
    let d = c.args.parts.now in
    cleared_none d c.args.node (c.laws.ensures.alone c.args.node c.requires) c.take_each.new.parts c.as_slice.result.now
    (c.as_slice.ensures ∙ sym c.as_slice-2.ensures ∙ none_left c.as_slice-2.result.now c.if-is_empty.ensures)
    (ap (map (name_in d)) c.as_slice.ensures ∙ c.in_ok-children.ensures.names) c.in_ok-take_each.ensures.state

pub returns : goal.returns
returns c =
    let d = c.args.parts.now in
    let e = c.take_each.new.parts in
    on_ok_weaker c.queue_tree_record.result (λ told. cleared_some d c.args.node (c.laws.ensures.alone c.args.node c.requires) c.as_slice.result.now
    (ap is_empty (c.as_slice.ensures ∙ sym c.as_slice-2.ensures) ∙ some_left c.as_slice-2.result.now c.if-is_empty.ensures)
    (ap (map (name_in d)) c.as_slice.ensures ∙ c.in_ok-children.ensures.names) c.in_ok-take_each.ensures.state
    (told
    ∙ ap (λ (ks : List ℕ). stepped (owner_in e c.args.node) (queue_record (child_list (name_in e c.args.node) [] (map (name_in e) ks) None None))
    e) (c.as_slice-3.ensures ∙ sym c.as_slice.ensures)))
    c.queue_tree_record.ensures
