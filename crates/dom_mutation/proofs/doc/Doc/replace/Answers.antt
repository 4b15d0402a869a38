use Rattle.dom_mutation.proofs.Cited.{sym, ap, ◌∙◌, replace_plan, replace_refusal, err_of}
use Rattle.dom_mutation.specs.Definitions.{DocState, name_in, owner_in, trees_in}
use Rattle.dom_mutation.proofs.ReadyCalls.{stands-in, planned-done}
use Rattle.dom_mutation.proofs.ReadyPlans.{ready-replacing}
use Rattle.dom_mutation.proofs.doc.Doc.replace.Goals as goal

pub replacing-requires-clause-bounds : goal.replacing-requires-clause-bounds
replacing-requires-clause-bounds c = (c.self.invariant _).bounds

pub invariant_of-self : goal.invariant_of-self
invariant_of-self c =
    let d = c.args.self.now in
    let parent = c.args.parent in
    let node = c.args.node in
    let test = λ (a : DocState). replace_refusal (trees_in a parent) (name_in a parent) (name_in a node) (name_in a c.args.child) in
    planned-done c.self.inside.parts d c.replacing.new.parts c.self.view_is
    (record { alone = c.laws.ensures.alone; parts = c.laws.ensures.parts; stand = c.laws.ensures.stand }) parent
    c.requires.parent_is_node (λ a. replace_plan (name_in a parent) (name_in a node) (name_in a c.args.child))
    (λ l i r. ready-replacing _ i r (name_in d node) (name_in d parent)
    (stands-in d node (owner_in d parent) l c.requires.node_is_node c.requires.node_owner) (l.stand parent c.requires.parent_is_node) (name_in d c.args.child)
    (ap test (sym c.self.view_is) ∙ (sym c.check_replace.ensures ∙ ap err_of c.in_default.is)))
    c.in-Ok.ensures.world c.self.invariant
