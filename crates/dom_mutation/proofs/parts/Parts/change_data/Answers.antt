use Rattle.dom_base.proofs.Std.{◌≡◌, ℕ, ◌<◌, ◌≤◌, ◌^◌, List, length, Result, Ok, Err, OnErr, refl, sym, ap, subst, ◌∙◌, arith, rules, true≢false}
use Rattle.dom_model.proofs.Model.{NodeName, name_eq, node_in, change_node, replaced, with_data_replaced, replace_data}
use Rattle.dom_slots.proofs.Recast.{keeps_if, slots-recast}
use Rattle.dom_tree.specs.Definitions.{NamedTrees, name_at}
use Rattle.dom_mutation.specs.Definitions.{IsDoc, named_trees, all_tables, state_from, name_in, owner_in, trees_in, stepped, with_live}
use Rattle.dom_mutation.proofs.RangedStates.{data_asks, data_done}
use Rattle.dom_mutation.proofs.Shown.{shown}
use Rattle.dom_mutation.proofs.parts.Parts.change_data.Goals as goal
use Rattle.dom_mutation.proofs.parts.Parts.change_data.Goals.{After-len-size, After-text-length}

-- the data in the forest are those in the owner's part
same : (c : After-len-size) → (node_in c.self.inside.trees.forest.trees (name_at c.self.inside.trees.forest.names c.args.node)).text
    ≡ (node_in (trees_in c.args.self.now c.args.node) (name_in c.args.self.now c.args.node)).text
same c =
    let f = c.self.inside.trees.forest in
    shown f c.self.invariant c.self.view_is (λ ts x. (node_in ts x).text) (λ ns. (node_in f.trees (name_at f.names c.args.node)).text) c.args.node refl
    (λ r. ap (λ n. n.text) r.node)

-- refused: all is as it was
pub invariant_of-self : goal.invariant_of-self
invariant_of-self c = subst (λ (f : NamedTrees). IsDoc f.names f.trees (all_tables c.self.inside)) (sym c.in_err-replace_data.ensures.err) c.self.invariant

pub returns-in_err-replace_data-clause-err : goal.returns-in_err-replace_data-clause-err
returns-in_err-replace_data-clause-err c = on_any c.from_residual.result
    (ap (λ (f : NamedTrees). state_from f.names f.trees (all_tables c.self.inside)) c.in_err-replace_data.ensures.err ∙ c.self.view_is)
  where
    on_any : {T E P : Type 0} (r : Result T E) → P → OnErr r P
    on_any (Ok x) p = tt
    on_any (Err e) p = p

pub returns-in_err-replace_data-clause-whole : goal.returns-in_err-replace_data-clause-whole
returns-in_err-replace_data-clause-whole c start all =
    absurd (true≢false (sym (c.in_err-replace_data.ensures.whole start (subst (λ (units : List ℕ). length units ≤ c.args.change.count) (sym
    (same (goal.at.returns-in_err-replace_data-clause-whole c).After-len-size)) all))))

-- what stands there then is no longer than a number of the code's
small : (c : After-text-length) → length (replaced c.args.change.offset c.args.change.count c.args.change.units.items
    (node_in c.self.inside.trees.forest.trees (name_at c.self.inside.trees.forest.names c.args.node)).text) < 2 ^ 64
small c =
    let bound : length c.text-length.result.now < 2 ^ 64 = search rules in
    let names = c.in_ok-replace_data.ensures.names in
    let holds = c.in_ok-replace_data.ensures.holds in
    subst (λ (units : List ℕ). length units < 2 ^ 64)
    (c.text-length.ensures ∙ ap (λ (ns : List NodeName). (node_in c.replace_data.new.self.trees (name_at ns c.args.node)).text) names
    ∙ ap (λ n. n.text) holds) bound

pub on_replace_data-requires : goal.on_replace_data-requires
on_replace_data-requires c =
    data_asks c.self.inside.trees.forest c.self.invariant c.self.view_is c.law_nodes_stand_once.ensures.once c.law_nodes_stand_once.ensures.only c.args.node
    c.args.change.offset c.args.change.count c.args.change.units.items c.requires.node_is_node c.requires.may_come c.requires.there (search rules)
    (small (goal.at.on_replace_data-requires c).After-text-length) (same (goal.at.on_replace_data-requires c).After-len-size) c.len-size.result
    (let len = c.len-size.ensures in omega (arith, len, c.args.change.units.ok.0))

-- what is held then, and the state
done : (c : goal.After-on_replace_data) → IsDoc c.replace_data.new.self.names c.replace_data.new.self.trees
    (with_live (all_tables c.self.inside) c.on_replace_data.new.self)
    × (state_from c.replace_data.new.self.names c.replace_data.new.self.trees (with_live (all_tables c.self.inside) c.on_replace_data.new.self)
    ≡ stepped (owner_in c.args.self.now c.args.node) (replace_data (name_in c.args.self.now c.args.node) c.args.change.offset c.args.change.count
    c.args.change.units.items) c.args.self.now)
done c =
    let f = c.self.inside.trees.forest in
    let x = name_at f.names c.args.node in
    let h = with_data_replaced c.args.change.offset c.args.change.count c.args.change.units.items in
    data_done f c.self.invariant c.self.view_is c.law_nodes_stand_once.ensures.once c.law_nodes_stand_once.ensures.only c.args.node c.args.change.offset
    c.args.change.count c.args.change.units.items c.requires.node_is_node c.requires.may_come c.requires.there (search rules)
    (small (goal.at.returns-clause-ok c).After-text-length) (same (goal.at.returns-clause-ok c).After-len-size) c.len-size.result
    (let len = c.len-size.ensures in omega (arith, len, c.args.change.units.ok.0))
    c.law_nodes_stand_once.ensures.distinct c.on_replace_data.new.self c.on_replace_data.ensures c.replace_data.new.self
    c.in_ok-replace_data.ensures.names c.in_ok-replace_data.ensures.ok
    (slots-recast f (named_trees f.names (change_node h x f.trees))
    (keeps_if (λ n. name_eq n.name x) h record { name = λ n. refl; kind = λ n. refl; element = λ n. refl; attributes = λ n. refl }) refl refl
    c.self.invariant.signals.slots)

pub invariant_of-self-2 : goal.invariant_of-self-2
invariant_of-self-2 c = (done c).0

pub returns-clause-ok : goal.returns-clause-ok
returns-clause-ok c = (done c).1
