use Rattle.dom_mutation.proofs.Cited.{◌≡◌, Option, Some, None, refl, option_map, Word, DomString, Node, change_node, with_attribute, set_attribute, Attribute}
use Rattle.dom_mutation.proofs.Cited.{name_at, changed_node, cursors_of, tables_with_trees, contents, all_tables, name_in, owner_in, stepped, keeps_changed}
use Rattle.dom_observers.specs.Definitions.{tables_of as observers_of}
use Rattle.dom_mutation.proofs.DocInvariant.{are_hosts}
use Rattle.dom_mutation.proofs.HostedSteps.{attribute_hosted}
use Rattle.dom_mutation.proofs.Shown.{owner_there}
use Rattle.dom_mutation.proofs.Signalling.{IsAfter, tree_step}
use Rattle.dom_mutation.proofs.Steps.{trees_change}
use Rattle.dom_mutation.proofs.parts.Parts.change_attribute.Goals as goal

-- a node keeps its name
same_name : (a : Word) (v : Option DomString) (n : Node) → (with_attribute a v n).name ≡ n.name
same_name a None n = refl
same_name a (Some v) n = refl

-- what is held after the step, and the state
after : (c : goal.After-settle) → IsAfter c.settle.new.trees.forest (tables_with_trees (cursors_of c.settle.new.cursors)
    (observers_of c.settle.new.observers) c.settle.new.trees c.settle.new.ranges) c.settle.result (stepped (owner_in c.args.self.now c.args.node)
    (set_attribute (name_in c.args.self.now c.args.node) c.args.name.now (option_map (λ v. v.items) c.args.value)) c.args.self.now)
after c =
    let f = c.self.inside.trees.forest in
    let x = name_at f.names c.args.node in
    let value = option_map (λ v. v.items) c.args.value in
    let h = with_attribute c.args.name.now value in
    let own = changed_node f.trees c.self.invariant.owned x.owner h x (same_name c.args.name.now value) refl in
    let there = owner_there f c.self.invariant c.self.view_is c.args.node c.requires in
    let all = all_tables c.self.inside in
    tree_step f c.self.invariant c.self.view_is c.args.node c.requires (change_node h x) own (keeps_changed h (same_name c.args.name.now value) x f.trees)
    (Attribute c.args.node) c.change_attr-done.new.self c.change_attr-done.ensures
    c.settle.ensures
    (λ ns. set_attribute (name_at ns c.args.node) c.args.name.now value)
    (λ left. attribute_hosted (contents f.names f.trees all) c.self.inside.trees.slots.hosts (are_hosts f.names f.trees all c.self.invariant) x.owner
    there (change_node h x f.trees) (contents f.names (change_node h x f.trees) all).tables own.owned c.args.node left c.args.name.now value
    (trees_change f.names f.trees all c.self.invariant x.owner there (set_attribute x c.args.name.now value) (change_node h x) own refl))

pub invariant_of-self : goal.invariant_of-self
invariant_of-self c = (after c).held

pub returns : goal.returns
returns c = (after c).state
