use Rattle.dom_mutation.proofs.Cited.{◌≡◌, subst, ℕ, [], ◌∷◌, List, None, map, ap, sym, ◌∙◌, on_ok_weaker, NodeName, Plan, ◌and_then◌, doing, in_turn}
use Rattle.dom_mutation.proofs.Cited.{suppressed, remove_plan, insert_plan, child_list, queue_record, DocState, AreNodes, name_in, owner_in, planned, stepped}
use Rattle.dom_mutation.proofs.Cited.{keeps-and_then, keeps-each, keeps-inserting, keeps-removing}
use Rattle.dom_mutation.proofs.Nodes.{nodes_kept, own_nodes}
use Rattle.dom_mutation.proofs.Emptied.{text_may}
use Rattle.dom_mutation.proofs.BoundedDocs.{bounds_cleared, bounds_at}
use Rattle.dom_mutation.proofs.texts.put_text.Goals as goal
use Rattle.dom_mutation.proofs.Made.{planned_then}
use Rattle.dom_mutation.proofs.OwnPlans.{own_moves}

pub inserting-requires-clause-may_move : goal.inserting-requires-clause-may_move
inserting-requires-clause-may_move c =
    let d = c.args.parts.now in
    text_may d c.take_each.new.parts c.laws.ensures.once c.args.node c.args.text c.as_slice.result.now
    (ap (map (name_in d)) c.as_slice.ensures ∙ c.in_ok-children.ensures.names)
    c.in_ok-take_each.ensures.state c.in_ok-take_each.ensures.paths c.requires.text_is_node c.requires.one_owner c.requires.not_above

-- the steps are the plan's
pub returns : goal.returns
returns c =
    let d = c.args.parts.now in
    let node = c.args.node in
    let o = owner_in d node in
    let x = name_in d node in
    let y = name_in d c.args.text in
    let ks = c.as_slice.result.now in
    let alone = c.laws.ensures.alone node c.requires.node_is_node in
    let tell : List ℕ → DocState → DocState = λ js s. stepped (owner_in s node)
    (queue_record (child_list (name_in s node) (name_in s c.args.text ∷ []) (map (name_in s) js) None None)) s in
    let put : DocState → DocState = λ s. planned (owner_in s node) (insert_plan suppressed (name_in s c.args.text) (name_in s node) None) s in
    let clear : List NodeName → Plan = in_turn (remove_plan suppressed) in
    let record_of : List NodeName → Plan = λ zs. doing (queue_record (child_list x (y ∷ []) zs None None)) in
    let cleared = keeps-each (own_moves o) (remove_plan suppressed) (keeps-removing (own_moves o) suppressed) (map (name_in d) ks) in
    on_ok_weaker c.queue_tree_record.result
    (λ told. told ∙ ap (λ js. tell js c.inserting.new.parts) (c.as_slice-2.ensures ∙ sym c.as_slice.ensures)
    ∙ ap (tell ks) c.in_ok-inserting.ensures ∙ ap (λ s. tell ks (put s)) c.in_ok-take_each.ensures.state
    ∙ ap (planned o (record_of (map (name_in d) ks))) (planned_then o (clear (map (name_in d) ks)) (insert_plan suppressed y x None) d alone cleared)
    ∙ planned_then o (clear (map (name_in d) ks) and_then insert_plan suppressed y x None) (record_of (map (name_in d) ks)) d alone
    (keeps-and_then (own_moves o) (clear (map (name_in d) ks)) (insert_plan suppressed y x None) cleared
    (keeps-inserting (own_moves o) suppressed y x None c.requires.one_owner))
    ∙ ap (λ zs. planned o (clear zs and_then insert_plan suppressed y x None and_then record_of zs) d)
    (ap (map (name_in d)) c.as_slice.ensures ∙ c.in_ok-children.ensures.names))
    c.queue_tree_record.ensures

pub inserting-requires-clause-bounds : goal.inserting-requires-clause-bounds
inserting-requires-clause-bounds c =
    let d = c.args.parts.now in
    let e = c.take_each.new.parts in
    let is = c.in_ok-take_each.ensures.state in
    bounds_at d e c.args.node (ap (λ (s : DocState). s.names) is)
    (bounds_cleared (owner_in d c.args.node) d (c.laws.ensures.alone c.args.node c.requires.node_is_node) (c.laws.ensures.parts _)
    c.requires.bounds suppressed (map (name_in d) c.as_slice.result.now) e is)

pub queue_tree_record-requires-clause-removed_are_nodes : goal.queue_tree_record-requires-clause-removed_are_nodes
queue_tree_record-requires-clause-removed_are_nodes c =
    let d = c.args.parts.now in
    let same : c.inserting.new.parts.names ≡ d.names =
    ap (λ (s : DocState). s.names) c.in_ok-inserting.ensures ∙ ap (λ (s : DocState). s.names) c.in_ok-take_each.ensures.state in
    subst (AreNodes c.inserting.new.parts) (sym c.as_slice-2.ensures)
    (nodes_kept d c.inserting.new.parts same c.in_ok-children.children.items
    (own_nodes d c.args.node c.in_ok-children.children.items c.in_ok-children.ensures.nodes))
