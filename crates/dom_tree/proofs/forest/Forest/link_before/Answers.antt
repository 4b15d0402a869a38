use Rattle.dom_base.proofs.Std.{◌<◌, ℕ, List, Some, length, ap, subst, sym, ◌∙◌, arith, option_map, both_ways}
use Rattle.node_arena.specs.Nodes.{Nodes, IsForest, parent_of}
use Rattle.dom_model.proofs.Model.{children_of as children_in}
use Rattle.dom_laws.specs.Siblings.{put_name}
use Rattle.dom_tree.specs.Definitions.{Stored, name_at}
use Rattle.dom_tree.specs.Ids.{AreNoted}
use Rattle.dom_tree.proofs.Kept.{link_shown, link_asked, link_done, kept_with, within}
use Rattle.dom_tree.proofs.Stays.{AreSameBut, moved_above, moved_parents, parent_shown, linked_apart, linked_parent}
use Rattle.dom_tree.proofs.ChildLists.{children_linked, children_beside, put-first, put-last}
use Rattle.dom_tree.proofs.Holds.{held_along}
use Rattle.dom_tree.proofs.forest.Forest.link_before.Goals as goal

pub link_before-requires : goal.link_before-requires
link_before-requires c =
    let meant = link_asked c.self.inside.arena c.self.view_is c.self.invariant.kept (link_shown c.requires.parent_is_node c.requires.child_is_node
    c.requires.unlinked c.requires.not_above c.requires.before_is_node c.requires.before_is_child) in
    record {
      parent_is_node = within c.self.view_is c.self.invariant.kept c.args.parent c.requires.parent_is_node;
      child_is_node = within c.self.view_is c.self.invariant.kept c.args.child c.requires.child_is_node;
      unlinked = meant.unlinked;
      not_above = λ found. both_ways _ meant.not_above found;
      before_is_child = meant.before_is_child;
    }

pub invariant_of-self : goal.invariant_of-self
invariant_of-self c = record {
  kept = kept_with c.self.inside.arena c.link_before.new.self _ c.self.invariant.kept (ap (λ a. a.payloads) c.link_before.ensures.linked)
      c.link_before.ensures.sound;
  ids = subst (AreNoted _) (ap (λ (a : Nodes Stored). a.payloads) (sym c.link_before.ensures.linked)) c.self.invariant.ids;
}

pub returns : goal.returns
returns c =
    let f = c.args.self.now in
    let old = c.self.inside.arena in
    let is = c.self.view_is in
    let kept = c.self.invariant.kept in
    let sound = c.link_before.ensures.sound in
    let same = ap (λ (a : Nodes Stored). a.payloads) c.link_before.ensures.linked in
    let lists = ap (λ (a : Nodes Stored). a.children) c.link_before.ensures.linked in
    let parent = within is kept c.args.parent c.requires.parent_is_node in
    let parent_inside : c.args.parent < length old.children = omega (arith, kept.paired) in
    let apart = subst (λ (ks : List (List ℕ)). AreSameBut c.args.child old.children ks) (sym lists)
    (linked_apart old.children c.args.parent c.args.child c.args.before parent_inside) in
    let done = link_done old is kept (link_shown c.requires.parent_is_node c.requires.child_is_node
    c.requires.unlinked c.requires.not_above c.requires.before_is_node c.requires.before_is_child)
    c.link_before.ensures.linked sound in
    let xs = children_in f.trees (name_at f.names c.args.parent) in
    let x = name_at f.names c.args.child in
    let children = children_linked is kept same sound c.args.parent c.args.child c.args.before c.requires.parent_is_node lists c.requires.before_is_node in
    record {
      names = ap (λ g. g.names) done;
      trees = ap (λ g. g.trees) done;
      linked = parent_shown is kept same sound c.args.child c.requires.child_is_node (Some c.args.parent)
          (ap (λ ks. parent_of ks c.args.child) lists ∙ linked_parent old.children c.args.parent c.args.child c.args.before parent_inside
          (subst (λ (ks : List (List ℕ)). IsForest ks) lists sound.forest));
      above = moved_above is kept same sound c.args.child c.requires.child_is_node apart;
      children = children;
      comes_first = λ first. children ∙ ap (λ o. put_name o x xs) first ∙ put-first x xs;
      comes_last = λ last. children ∙ ap (λ o. put_name (option_map (name_at f.names) o) x xs) last ∙ put-last x xs;
      others = children_beside is kept same sound c.args.parent c.args.child c.args.before c.requires.parent_is_node lists;
      parents = moved_parents is kept same sound c.args.child apart;
      held = held_along is kept same sound;
    }
