use Rattle.dom_mutation.proofs.Cited.{◌≡◌, ℕ, ◌<◌, length, false, Some, None, option_map, refl, ap, ◌∙◌, name_eq, is_in, parent_of, is_inclusive_ancestor}
use Rattle.dom_mutation.proofs.Cited.{placed, place, NamedTrees, name_at, put, DocState, IsDoc, name_in, owner_in, trees_in, contents, all_tables, state_from}
use Rattle.dom_mutation.proofs.Cited.{stepped, AllTables, tables_with_trees, Once-forest, Has-forest, keeps_placed, Place, cursors_of}
use Rattle.dom_observers.specs.Definitions.{tables_of as observers_of}
use Rattle.dom_mutation.proofs.DocInvariant.{are_hosts}
use Rattle.dom_mutation.proofs.HostedSteps.{place_hosted}
use Rattle.dom_mutation.proofs.Signalling.{IsAfter, tree_step}
use Rattle.dom_mutation.proofs.Steps.{trees_change}
use Rattle.dom_mutation.proofs.Shown.{known, read_there, owner_there}
use Rattle.dom_mutation.proofs.parts.Parts.place.Goals as goal

-- the node has no parent, and is not above the parent that it gets, in the trees of all
module _ (f : NamedTrees) {tables : AllTables} (held : IsDoc f.names f.trees tables) {d : DocState} (is_d : state_from f.names f.trees tables ≡ d)
    (node parent : ℕ) where
  unlinked : parent_of (trees_in d node) (name_in d node) ≡ None → parent_of f.trees (name_at f.names node) ≡ None
  unlinked h =
      read_there f held is_d parent_of node (λ r. r.parent) ∙ known f held is_d (λ e. parent_of (trees_in e node) (name_in e node) ≡ None) h

  not_above : is_inclusive_ancestor (trees_in d parent) (name_in d node) (name_in d parent) ≡ false →
      is_inclusive_ancestor f.trees (name_at f.names node) (name_at f.names parent) ≡ false
  not_above h =
      let x = name_at f.names node in
      read_there f held is_d (λ ts y. is_inclusive_ancestor ts x y) parent (λ r. ap (is_in name_eq x) r.path)
      ∙ known f held is_d (λ e. is_inclusive_ancestor (trees_in e parent) (name_in e node) (name_in e parent) ≡ false) h

pub link-done-requires-clause-unlinked : goal.link-done-requires-clause-unlinked
link-done-requires-clause-unlinked c = unlinked c.self.inside.trees.forest c.self.invariant c.self.view_is c.args.node c.args.parent c.requires.unlinked

pub link-done-requires-clause-not_above : goal.link-done-requires-clause-not_above
link-done-requires-clause-not_above c = not_above c.self.inside.trees.forest c.self.invariant c.self.view_is c.args.node c.args.parent c.requires.not_above

pub link-done-requires-clause-before_is_child : goal.link-done-requires-clause-before_is_child
link-done-requires-clause-before_is_child c b is =
    read_there c.self.inside.trees.forest c.self.invariant c.self.view_is parent_of b (λ r. r.parent)
    ∙ known c.self.inside.trees.forest c.self.invariant c.self.view_is (λ e. parent_of (trees_in e b) (name_in e b) ≡ Some (name_in e c.args.parent))
    (c.requires.before_is_child b is)

-- what is held after the step, and the state
after : (c : goal.After-settle) → IsAfter c.settle.new.trees.forest (tables_with_trees (cursors_of c.settle.new.cursors)
    (observers_of c.settle.new.observers) c.settle.new.trees c.settle.new.ranges) c.settle.result (stepped (owner_in c.args.self.now c.args.parent)
    (place (name_in c.args.self.now c.args.node) (name_in c.args.self.now c.args.parent) (option_map (name_in c.args.self.now) c.args.before)) c.args.self.now)
after c =
    let f = c.self.inside.trees.forest in
    let x = name_at f.names c.args.node in
    let p = name_at f.names c.args.parent in
    let b = option_map (name_at f.names) c.args.before in
    let own = put f.trees c.self.invariant.owned p.owner x p b
    (known f c.self.invariant c.self.view_is (λ e. owner_in e c.args.node ≡ owner_in e c.args.parent) c.requires.one_owner) refl in
    let there = owner_there f c.self.invariant c.self.view_is c.args.parent c.requires.parent_is_node in
    let all = all_tables c.self.inside in
    let stands = λ (k : ℕ) (k< : k < length c.args.self.now.names).
    Has-forest f c.law_nodes_stand_once.ensures.once k (known f c.self.invariant c.self.view_is (λ e. k < length e.names) k<) in
    tree_step f c.self.invariant c.self.view_is c.args.parent c.requires.parent_is_node (placed x p b) own
    (keeps_placed f.trees (Once-forest f c.law_nodes_stand_once.ensures.once c.law_nodes_stand_once.ensures.only) x p b
    (stands c.args.node c.requires.node_is_node) (stands c.args.parent c.requires.parent_is_node)
    (unlinked f c.self.invariant c.self.view_is c.args.node c.args.parent c.requires.unlinked)
    (not_above f c.self.invariant c.self.view_is c.args.node c.args.parent c.requires.not_above))
    (Place c.args.node c.args.parent c.args.before) c.link-done.new.self c.link-done.ensures
    c.settle.ensures
    (λ ns. place (name_at ns c.args.node) (name_at ns c.args.parent) (option_map (name_at ns) c.args.before))
    (λ left. place_hosted (contents f.names f.trees all) c.self.inside.trees.slots.hosts (are_hosts f.names f.trees all c.self.invariant) p.owner there
    (placed x p b f.trees) (contents f.names (placed x p b f.trees) all).tables own.owned c.args.node c.args.parent c.args.before left
    (trees_change f.names f.trees all c.self.invariant p.owner there (place x p b) (placed x p b) own refl))

pub invariant_of-self : goal.invariant_of-self
invariant_of-self c = (after c).held

pub returns : goal.returns
returns c = (after c).state
