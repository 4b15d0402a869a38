use Rattle.dom_mutation.proofs.Cited.{subst, sym, ◌≡◌, false, option_map, Owner, insert_plan, observed, kind_of, is_shadow, part_of}
use Rattle.dom_mutation.specs.Definitions.{DocState, IsChild, name_in, owner_in}
use Rattle.dom_mutation.proofs.ReadyCalls.{stands-in, planned-done}
use Rattle.dom_mutation.proofs.ReadyPlans.{ready-inserting}
use Rattle.dom_mutation.proofs.doc.Doc.insert_unchecked.Goals as goal

pub inserting-requires-clause-before_is_child : goal.inserting-requires-clause-before_is_child
inserting-requires-clause-before_is_child c x is = subst (λ (d : DocState). IsChild d c.args.parent x) (sym c.self.view_is) (c.requires.child_is_child x is)

pub invariant_of-self : goal.invariant_of-self
invariant_of-self c =
    let d = c.args.self.now in
    let parent = c.args.parent in
    let node = c.args.node in
    planned-done c.self.inside.parts d c.inserting.new.parts c.self.view_is
    (record { alone = c.laws.ensures.alone; parts = c.laws.ensures.parts; stand = c.laws.ensures.stand }) parent
    c.requires.parent_is_node (λ a. insert_plan observed (name_in a node) (name_in a parent) (option_map (name_in a) c.args.child))
    (λ l i r. ready-inserting _ i r (name_in d node) (name_in d parent)
    (stands-in d node (owner_in d parent) l c.requires.may_move.node c.requires.may_move.owner) (l.stand parent c.requires.parent_is_node)
    (option_map (name_in d) c.args.child) c.requires.may_move.not_above c.requires.open
    (subst (λ (o : Owner). is_shadow (kind_of (part_of d.world o).trees (name_in d node)) ≡ false) c.requires.may_move.owner c.requires.no_shadow))
    c.in-Ok.ensures c.self.invariant

pub inserting-requires-clause-bounds : goal.inserting-requires-clause-bounds
inserting-requires-clause-bounds c = (c.self.invariant _).bounds
