use Rattle.dom_path.proofs.Cited.{◌≡◌, ◌<◌, ◌∷◌, [], ◌++◌, Some, length, refl, sym, ap, subst, ◌∙◌, arith, length-append, name_at, Once-forest, Has-forest}
use Rattle.dom_path.proofs.Cited.{Tree, AreTrees, IsPathNode, IsTreeOf}
use Rattle.dom_path.proofs.Goings.{stand-made, trees-more, tree-pushed}
use Rattle.dom_path.proofs.Steps.{tree-parent, slot-root, tree-entered}
use Rattle.dom_path.proofs.path_node.PathNode.inside.Goals as goal

pub returns-in_default-slot_below-clause-stands : goal.returns-in_default-slot_below-clause-stands
returns-in_default-slot_below-clause-stands c = λ x e.
    let f = c.args.forest.now in
    let hosts = c.args.slots.now.hosts in
    let law = c.law_nodes_stand_once.ensures in
    let same : c.in_tree.result ≡ x = cc in
    subst (IsPathNode f hosts c.args.trees.now) same
    (stand-made f hosts c.in_tree.ensures.node c.in_tree.ensures.tree c.in_tree.ensures.shadow
    (c.in-Some.ensures.node c.in-Some.parent refl) c.requires.stands.within
    (tree-parent f hosts (Once-forest f law.once law.only) c.requires.stands (Has-forest f law.once c.args.self.now.node c.requires.stands.node)
    c.in-Some.ensures.value))

pub returns-clause-trees : goal.returns-clause-trees
returns-clause-trees c =
    let f = c.args.forest.now in
    let hosts = c.args.slots.now.hosts in
    let law = c.law_nodes_stand_once.ensures in
    let parent = c.in-Some.parent in
    let below = c.in-Some-slot_below.ensures.below c.in-Some-slot_below.below refl in
    let put : Tree = record { root = c.in-Some-slot_below.below.root; host = Some parent; outer = c.args.self.now.tree } in
    subst (AreTrees f hosts) (sym c.in_ok-tree.ensures.trees)
    (trees-more f hosts c.args.trees.now put c.requires.trees (let w = c.requires.stands.within in record { within = omega (arith, w); behind = λ _. w })
    (record { root = below.root_node; host = λ k same. subst (λ j. j < length f.names) (let is : parent ≡ k = cc in is) (c.in-Some.ensures.node parent refl) })
    (tree-entered f hosts (Once-forest f law.once law.only) (record {
      at = below.attached;
      is = tree-parent f hosts (Once-forest f law.once law.only) c.requires.stands (Has-forest f law.once c.args.self.now.node c.requires.stands.node)
          c.in-Some.ensures.value;
    })))

pub returns-clause-stands : goal.returns-clause-stands
returns-clause-stands c = λ x e.
    let f = c.args.forest.now in
    let hosts = c.args.slots.now.hosts in
    let trees = c.args.trees.now in
    let root = c.in-Some-slot_below.below.root in
    let slot = c.in-Some-slot_below.below.slot in
    let below = c.in-Some-slot_below.ensures.below c.in-Some-slot_below.below refl in
    let law = c.law_nodes_stand_once.ensures in
    let put : Tree = record { root = root; host = Some c.in-Some.parent; outer = c.args.self.now.tree } in
    let new = c.push.new.self in
    let grown : new ≡ trees ++ put ∷ [] = c.in_ok-tree.ensures.trees in
    let last : c.in_ok-tree.tree ≡ length trees = c.in_ok-tree.ensures.place in
    let longer = ap length grown ∙ length-append trees (put ∷ []) in
    let same : c.in_tree-2.result ≡ x = cc in
    subst (IsPathNode f hosts new) same
    (stand-made f hosts c.in_tree-2.ensures.node c.in_tree-2.ensures.tree c.in_tree-2.ensures.shadow
    below.slot_node (omega (arith, last, longer))
    (λ depth hosted. subst (λ ts. IsTreeOf f ts c.in_ok-tree.tree (name_at f.names slot)) (sym grown)
    (subst (λ k. IsTreeOf f (trees ++ put ∷ []) k (name_at f.names slot)) (sym last)
    (tree-pushed f hosts trees put (name_at f.names slot)
    (slot-root f hosts (Once-forest f law.once law.only) (name_at f.names c.args.self.now.node)
    (sym c.in-Some.ensures.value) below.attached (Has-forest f law.once root below.root_node) (sym c.in-Some-slot_below.ensures.value) hosted)))))
