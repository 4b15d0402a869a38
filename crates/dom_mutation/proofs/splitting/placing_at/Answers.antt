use Rattle.dom_mutation.proofs.Cited.{ℕ, option_map, sym, ap, subst, ◌∙◌, arith, HasBounds, Plan, ◌and_then◌, observed, insert_plan, doing, split_at, index_of}
use Rattle.dom_mutation.proofs.Cited.{part_of, DocState, name_in, owner_in, planned, stepped, trees_in, keeps-inserting}
use Rattle.dom_mutation.proofs.Replaced.{next_is_near}
use Rattle.dom_mutation.proofs.Tails.{tail_may}
use Rattle.dom_mutation.proofs.BoundedDocs.{index_limited}
use Rattle.dom_mutation.proofs.splitting.placing_at.Goals as goal
use Rattle.dom_mutation.proofs.Made.{planned_then}
use Rattle.dom_mutation.proofs.OwnPlans.{own_moves}

pub inserting-requires-clause-may_move : goal.inserting-requires-clause-may_move
inserting-requires-clause-may_move c =
    tail_may c.args.parts.now c.laws.ensures.once c.args.parent c.args.node c.args.new c.next-next.result c.requires.node_is_child
    c.requires.new_is_node c.requires.one_owner c.requires.unlinked c.requires.not_above
    (next_is_near c.laws.ensures.once c.next-next.result c.requires.node_is_child
    c.next-next.ensures.value c.next-next.ensures.node c.next-next.ensures.owner)

pub inserting-requires-clause-before_is_child : goal.inserting-requires-clause-before_is_child
inserting-requires-clause-before_is_child c =
    next_is_near c.laws.ensures.once c.next-next.result c.requires.node_is_child
    c.next-next.ensures.value c.next-next.ensures.node c.next-next.ensures.owner

-- the steps are the plan's
pub returns : goal.returns
returns c =
    let d = c.args.parts.now in
    let node = c.args.node in
    let o = owner_in d node in
    let x = name_in d node in
    let y = name_in d c.args.new in
    let p = name_in d c.args.parent in
    let put = insert_plan observed y p (option_map (name_in d) c.next-next.result) in
    let owner = c.requires.node_is_child.owner in
    let tell : ℕ → DocState → DocState = λ i s. stepped (owner_in s node)
    (split_at (name_in s node) c.args.offset (name_in s c.args.new) (name_in s c.args.parent) i) s in
    let at = index_of (trees_in d node) x in
    let split : Plan = doing (split_at x c.args.offset y p at) in
    c.split_at.ensures ∙ ap (λ i. tell i c.inserting.new.parts) c.requires.at_index
    ∙ ap (tell at) (c.in_ok-inserting.ensures ∙ ap (λ w. planned w put d) (sym owner))
    ∙ planned_then o put split d (c.laws.ensures.alone node c.requires.node_is_child.node)
    (keeps-inserting (own_moves o) observed y p (option_map (name_in d) c.next-next.result) (c.requires.one_owner ∙ sym owner))
    ∙ ap (λ r. planned o (insert_plan observed y p r and_then split) d) c.next-next.ensures.value

pub inserting-requires-clause-bounds : goal.inserting-requires-clause-bounds
inserting-requires-clause-bounds c = subst (λ o. HasBounds (part_of c.args.parts.now.world o)) c.requires.node_is_child.owner c.requires.bounds

pub split_at-requires-clause-few : goal.split_at-requires-clause-few
split_at-requires-clause-few c =
    let d = c.args.parts.now in
    let o = owner_in d c.args.parent in
    let few = index_limited (part_of d.world o) (c.laws.ensures.parts o) (c.laws.ensures.limited o) (name_in d c.args.node)
    (name_in d c.args.parent) c.requires.node_is_child.child in
    let same = c.requires.at_index ∙ ap (λ o. index_of (part_of d.world o).trees (name_in d c.args.node)) c.requires.node_is_child.owner in
    omega (arith, few, same)
