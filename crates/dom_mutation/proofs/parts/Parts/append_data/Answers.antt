use Rattle.dom_base.proofs.Std.{◌≡◌, ℕ, ◌<◌, ◌^◌, List, length, Result, Ok, Err, OnErr, refl, sym, ap, subst, ◌∙◌, arith, rules}
use Rattle.dom_model.proofs.Model.{NodeName, DomString, name_eq, node_in, change_node, replaced, with_data_replaced, replace_data}
use Rattle.dom_slots.proofs.Recast.{keeps_if, slots-recast}
use Rattle.dom_tree.specs.Definitions.{NamedTrees, name_at}
use Rattle.dom_mutation.specs.Definitions.{IsDoc, named_trees, all_tables, state_from, name_in, owner_in, trees_in, stepped}
use Rattle.dom_mutation.proofs.Cited.{length-replaced, part_of}
use Rattle.dom_mutation.proofs.RangedStates.{data_behind, data_done}
use Rattle.dom_mutation.proofs.Shown.{shown}
use Rattle.dom_mutation.proofs.parts.Parts.append_data.Goals as goal
use Rattle.dom_mutation.proofs.parts.Parts.append_data.Goals.{After-law_nodes_stand_once, After-text-length}

-- the data in the forest are those in the owner's part
same : (c : After-law_nodes_stand_once) → (node_in c.self.inside.trees.forest.trees (name_at c.self.inside.trees.forest.names c.args.node)).text
    ≡ (node_in (trees_in c.args.self.now c.args.node) (name_in c.args.self.now c.args.node)).text
same c =
    let f = c.self.inside.trees.forest in
    shown f c.self.invariant c.self.view_is (λ ts x. (node_in ts x).text) (λ ns. (node_in f.trees (name_at f.names c.args.node)).text) c.args.node refl
    (λ r. ap (λ n. n.text) r.node)

-- so are those of the other
others : (c : After-law_nodes_stand_once) → (node_in c.self.inside.trees.forest.trees (name_at c.self.inside.trees.forest.names c.args.of)).text
    ≡ (node_in (trees_in c.args.self.now c.args.node) (name_in c.args.self.now c.args.of)).text
others c =
    let f = c.self.inside.trees.forest in
    let d = c.args.self.now in
    shown f c.self.invariant c.self.view_is (λ ts x. (node_in ts x).text) (λ ns. (node_in f.trees (name_at f.names c.args.of)).text) c.args.of refl
    (λ r. ap (λ n. n.text) r.node)
    ∙ ap (λ o. (node_in (part_of d.world o).trees (name_in d c.args.of)).text) c.requires.of_is_node.1

-- refused: all is as it was
pub invariant_of-self : goal.invariant_of-self
invariant_of-self c = subst (λ (f : NamedTrees). IsDoc f.names f.trees (all_tables c.self.inside)) (sym c.in_err-append_data.ensures.err) c.self.invariant

pub returns-in_err-append_data-clause-err : goal.returns-in_err-append_data-clause-err
returns-in_err-append_data-clause-err c = on_any c.from_residual.result
    (ap (λ (f : NamedTrees). state_from f.names f.trees (all_tables c.self.inside)) c.in_err-append_data.ensures.err ∙ c.self.view_is)
  where
    on_any : {T E P : Type 0} (r : Result T E) → P → OnErr r P
    on_any (Ok x) p = tt
    on_any (Err e) p = p

-- what stands there then is no longer than a number of the code's
small : (c : After-text-length) → length (replaced
    (length (node_in c.self.inside.trees.forest.trees (name_at c.self.inside.trees.forest.names c.args.node)).text) 0
    (node_in c.self.inside.trees.forest.trees (name_at c.self.inside.trees.forest.names c.args.of)).text
    (node_in c.self.inside.trees.forest.trees (name_at c.self.inside.trees.forest.names c.args.node)).text) < 2 ^ 64
small c =
    let bound : length c.text-length.result.now < 2 ^ 64 = search rules in
    let names = c.in_ok-append_data.ensures.names in
    let holds = c.in_ok-append_data.ensures.holds in
    subst (λ (units : List ℕ). length units < 2 ^ 64)
    (c.text-length.ensures ∙ ap (λ (ns : List NodeName). (node_in c.append_data.new.self.trees (name_at ns c.args.node)).text) names
    ∙ ap (λ n. n.text) holds) bound

-- the text was no longer before
before : (t u : List ℕ) → length (replaced (length t) 0 u t) < 2 ^ 64 → length t < 2 ^ 64
before t u less = let longer = length-replaced (length t) 0 u t in omega (arith, longer, less)

-- what is held then, and the state
done : (c : After-text-length) → IsDoc c.append_data.new.self.names c.append_data.new.self.trees (all_tables c.self.inside)
    × (state_from c.append_data.new.self.names c.append_data.new.self.trees (all_tables c.self.inside)
    ≡ stepped (owner_in c.args.self.now c.args.node) (replace_data (name_in c.args.self.now c.args.node)
    (length (node_in c.self.inside.trees.forest.trees (name_at c.self.inside.trees.forest.names c.args.node)).text) 0
    (node_in c.self.inside.trees.forest.trees (name_at c.self.inside.trees.forest.names c.args.of)).text) c.args.self.now)
done c =
    let f = c.self.inside.trees.forest in
    let x = name_at f.names c.args.node in
    let old : DomString = (node_in f.trees x).text in
    let more : DomString = (node_in f.trees (name_at f.names c.args.of)).text in
    let h = with_data_replaced (length old) 0 more in
    let laws = c.law_nodes_stand_once.ensures in
    let here = (goal.at.returns-clause-ok c).After-law_nodes_stand_once in
    data_done f c.self.invariant c.self.view_is laws.once laws.only c.args.node (length old) 0 more c.requires.node_is_node
    (λ some. (c.requires.bounds, c.requires.has_data)) (omega arith) (before old more (small c)) (small c) (same here) (length more) refl
    laws.distinct (all_tables c.self.inside).ranges
    (data_behind f c.self.invariant c.self.view_is laws.once laws.only c.args.node c.requires.node_is_node c.requires.bounds c.requires.has_data
    (same here) (length more))
    c.append_data.new.self c.in_ok-append_data.ensures.names c.in_ok-append_data.ensures.ok
    (slots-recast f (named_trees f.names (change_node h x f.trees))
    (keeps_if (λ n. name_eq n.name x) h record { name = λ n. refl; kind = λ n. refl; element = λ n. refl; attributes = λ n. refl }) refl refl
    c.self.invariant.signals.slots)

pub invariant_of-self-2 : goal.invariant_of-self-2
invariant_of-self-2 c = (done (goal.at.invariant_of-self-2 c).After-text-length).0

pub returns-clause-ok : goal.returns-clause-ok
returns-clause-ok c =
    let d = c.args.self.now in
    let here = (goal.at.returns-clause-ok c).After-law_nodes_stand_once in
    (done (goal.at.returns-clause-ok c).After-text-length).1
    ∙ (λ i. stepped (owner_in d c.args.node) (replace_data (name_in d c.args.node) (length (same here i)) 0 (others here i)) d)
