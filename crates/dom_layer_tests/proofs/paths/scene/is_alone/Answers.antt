use Rattle.dom_base.proofs.Std.{◌≡◌, Bool, ◌&&◌, not, false, [], ◌∷◌, None, filter, sym, ap, ◌∙◌, if◌then◌else◌, codes, option_map}
use Rattle.dom_model.proofs.Model.{NodeName, text_eq, is_slot_element, node_in, is_element}
use Rattle.dom_tree.specs.Definitions.{name_at}
use Rattle.dom_laws.specs.Within.{behind}
use Rattle.dom_laws.proofs.Laws.{was_none, no_first}
use Rattle.dom_tree.proofs.Standing.{Once-forest}
use Rattle.dom_slots.proofs.NamesOfNodes.{named-filter}
use Rattle.dom_slots.proofs.Walks.{from-top}
use Rattle.dom_layer_tests.proofs.paths.scene.is_alone.Goals as goal

pub returns : goal.returns
returns c = λ none.
    let f = c.args.forest.now in
    let e = c.law_nodes_stand_once.ensures in
    let n = name_at f.names c.args.root in
    let test : NodeName → Bool = λ y. is_slot_element (node_in f.trees y) in
    let last : c.following.result ≡ None = was_none c.following.result (c.is_none.ensures ∙ ap not none) in
    let alone : behind f.trees n n ≡ [] = no_first (behind f.trees n n) (sym c.following.ensures.value ∙ ap (option_map (name_at f.names)) last) in
    let no_slot : test n ≡ false = ap (λ k. is_element k && text_eq (node_in f.trees n).element (codes "slot")) (sym c.kind.ensures ∙ c.in-Shadow.is) in
    named-filter f.trees (Once-forest f e.once e.only) is_slot_element n
    ∙ ap (filter test) (sym (from-top f e.once e.only c.args.root c.requires))
    ∙ ap (λ xs. filter test (n ∷ xs)) alone
    ∙ ap (λ (b : Bool). if b then n ∷ [] else []) no_slot
