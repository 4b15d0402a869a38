use Rattle.dom_mutation.proofs.Cited.{◌≡◌, ◌∷◌, [], ℕ, List, Option, map, option_map, sym, ap, subst, ◌∙◌, on_ok_weaker, NodeName, Plan, ◌and_then◌, doing}
use Rattle.dom_mutation.proofs.Cited.{suppressed, remove_plan, insert_plan, placed_nodes, reference_child, child_list, queue_record, next_sibling}
use Rattle.dom_mutation.proofs.Cited.{previous_sibling, part_of, DocState, AreNodes, name_in, owner_in, planned, stepped, trees_in}
use Rattle.dom_mutation.proofs.Cited.{keeps-and_then, keeps-inserting, keeps-removing}
use Rattle.dom_mutation.proofs.BoundedDocs.{bounds_removed, bounds_at}
use Rattle.dom_mutation.proofs.Nodes.{nodes_kept}
use Rattle.dom_mutation.proofs.Replaced.{next_is_near, stays_removed}
use Rattle.dom_mutation.proofs.Turns.{Stays, may_now, child_now}
use Rattle.dom_mutation.proofs.doc.replacing.replacing.Goals.{In_ok-removing}
use Rattle.dom_mutation.proofs.doc.replacing.replacing.Goals as goal
use Rattle.dom_mutation.proofs.Made.{planned_then}
use Rattle.dom_mutation.proofs.OwnPlans.{own_moves}

pub reference_child-reference-requires-clause-child_is_child : goal.reference_child-reference-requires-clause-child_is_child
reference_child-reference-requires-clause-child_is_child c =
    next_is_near c.laws.ensures.once c.next-next.result c.requires.child_is_child
    c.next-next.ensures.value c.next-next.ensures.node c.next-next.ensures.owner

-- what is around the place stays
stays : (c : In_ok-removing) → Stays c.args.parent c.reference_child-reference.result c.args.parts.now c.removing.new.parts
stays c =
    stays_removed c.args.parts.now c.removing.new.parts c.laws.ensures.once c.laws.ensures.alone c.args.parent c.args.node c.args.child
    c.next-next.result c.reference_child-reference.result c.requires.child_is_child
    c.next-next.ensures.value c.reference_child-reference.ensures.value c.in_ok-removing.ensures c.reference_child-reference.ensures.child

pub inserting-requires-clause-may_move : goal.inserting-requires-clause-may_move
inserting-requires-clause-may_move c =
    may_now c.args.parent c.reference_child-reference.result c.args.parts.now c.removing.new.parts
    (stays (goal.at.inserting-requires-clause-may_move c).In_ok-removing) c.args.node (record {
      node = c.requires.node_is_node;
      owner = c.requires.node_owner;
      not_above = c.requires.not_above;
      apart = c.reference_child-reference.ensures.apart;
    })

pub inserting-requires-clause-before_is_child : goal.inserting-requires-clause-before_is_child
inserting-requires-clause-before_is_child c =
    child_now c.args.parent c.reference_child-reference.result c.args.parts.now c.removing.new.parts
    (stays (goal.at.inserting-requires-clause-before_is_child c).In_ok-removing) c.reference_child-reference.ensures.child

-- the steps are the plan's
pub returns-clause-world : goal.returns-clause-world
returns-clause-world c =
    let d = c.args.parts.now in
    let parent = c.args.parent in
    let o = owner_in d parent in
    let p = name_in d parent in
    let x = name_in d c.args.node in
    let y = name_in d c.args.child in
    let ts = trees_in d parent in
    let added = c.in_ok-added.added.items in
    let before = option_map (name_in d) c.prev-prev.result in
    let ref = option_map (name_in d) c.reference_child-reference.result in
    let alone = c.laws.ensures.alone parent c.requires.parent_is_node in
    let child_owner = c.requires.child_is_child.owner in
    let tell : List ℕ → DocState → DocState = λ ks s. stepped (owner_in s parent)
    (queue_record (child_list (name_in s parent) (map (name_in s) ks) (name_in s c.args.child ∷ []) (option_map (name_in s) c.prev-prev.result)
    (option_map (name_in s) c.reference_child-reference.result))) s in
    let put : DocState → DocState = λ s. planned (owner_in s parent)
    (insert_plan suppressed (name_in s c.args.node) (name_in s parent) (option_map (name_in s) c.reference_child-reference.result)) s in
    let take : Plan = remove_plan suppressed y in
    let record_of : List NodeName → Option NodeName → Option NodeName → Plan = λ xs a b. doing (queue_record (child_list p xs (y ∷ []) a b)) in
    let all : List NodeName → Option NodeName → Option NodeName → DocState =
    λ xs a b. planned o (take and_then insert_plan suppressed x p b and_then record_of xs a b) d in
    on_ok_weaker c.queue_tree_record.result
    (λ told. told ∙ ap (λ ks. tell ks c.inserting.new.parts) c.as_slice.ensures ∙ ap (tell added) c.in_ok-inserting.ensures
    ∙ ap (λ s. tell added (put s)) (c.in_ok-removing.ensures ∙ ap (λ w. planned w take d) child_owner)
    ∙ ap (planned o (record_of (map (name_in d) added) before ref))
    (planned_then o take (insert_plan suppressed x p ref) d alone (keeps-removing (own_moves o) suppressed y))
    ∙ planned_then o (take and_then insert_plan suppressed x p ref) (record_of (map (name_in d) added) before ref) d alone
    (keeps-and_then (own_moves o) take (insert_plan suppressed x p ref) (keeps-removing (own_moves o) suppressed y)
    (keeps-inserting (own_moves o) suppressed x p ref c.requires.node_owner))
    ∙ ap (λ xs. all xs before ref) (c.in_ok-added.ensures.value ∙ ap (λ w. placed_nodes (part_of d.world w).trees x) c.requires.node_owner)
    ∙ ap (λ a. all (placed_nodes ts x) a ref) (c.prev-prev.ensures.value ∙ ap (λ w. previous_sibling (part_of d.world w).trees y) child_owner)
    ∙ ap (λ b. all (placed_nodes ts x) (previous_sibling ts y) b) (c.reference_child-reference.ensures.value
    ∙ ap (reference_child ts x) (c.next-next.ensures.value ∙ ap (λ w. next_sibling (part_of d.world w).trees y) child_owner)))
    c.queue_tree_record.ensures

pub queue_tree_record-requires-clause-added_are_nodes : goal.queue_tree_record-requires-clause-added_are_nodes
queue_tree_record-requires-clause-added_are_nodes c =
    let same : c.inserting.new.parts.names ≡ c.args.parts.now.names =
    ap (λ (s : DocState). s.names) c.in_ok-inserting.ensures ∙ ap (λ (s : DocState). s.names) c.in_ok-removing.ensures in
    subst (AreNodes c.inserting.new.parts) (sym c.as_slice.ensures)
    (nodes_kept c.args.parts.now c.inserting.new.parts same c.in_ok-added.added.items c.in_ok-added.ensures.nodes)

pub inserting-requires-clause-bounds : goal.inserting-requires-clause-bounds
inserting-requires-clause-bounds c =
    let d = c.args.parts.now in
    let e = c.removing.new.parts in
    bounds_at d e c.args.parent (ap (λ (s : DocState). s.names) c.in_ok-removing.ensures)
    (bounds_removed (owner_in d c.args.parent) d (c.laws.ensures.alone c.args.parent c.requires.parent_is_node) (c.laws.ensures.parts _)
    c.requires.bounds suppressed (name_in d c.args.child) e
    (c.in_ok-removing.ensures ∙ ap (λ o. planned o (remove_plan suppressed (name_in d c.args.child)) d) c.requires.child_is_child.owner))
