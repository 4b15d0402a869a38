use Rattle.dom_base.proofs.Std.{ℕ, List, None, ap, subst, sym, ◌∙◌}
use Rattle.node_arena.specs.Nodes.{Nodes, parent_of}
use Rattle.dom_tree.specs.Definitions.{Stored}
use Rattle.dom_tree.specs.Ids.{AreNoted}
use Rattle.dom_tree.proofs.Kept.{unlink_done, kept_with}
use Rattle.dom_tree.proofs.Stays.{AreSameBut, moved_above, moved_parents, parent_shown, unlinked_apart, unlinked_root}
use Rattle.dom_tree.proofs.ChildLists.{children_unlinked, children_spared}
use Rattle.dom_tree.proofs.Holds.{held_along}
use Rattle.dom_tree.proofs.forest.Forest.unlink.Goals as goal

pub invariant_of-self : goal.invariant_of-self
invariant_of-self c = record {
  kept = kept_with c.self.inside.arena c.unlink.new.self _ c.self.invariant.kept (ap (λ a. a.payloads) c.unlink.ensures.unlinked) c.unlink.ensures.sound;
  ids = subst (AreNoted _) (ap (λ (a : Nodes Stored). a.payloads) (sym c.unlink.ensures.unlinked)) c.self.invariant.ids;
}

pub returns : goal.returns
returns c =
    let old = c.self.inside.arena in
    let is = c.self.view_is in
    let kept = c.self.invariant.kept in
    let sound = c.unlink.ensures.sound in
    let same = ap (λ (a : Nodes Stored). a.payloads) c.unlink.ensures.unlinked in
    let lists = ap (λ (a : Nodes Stored). a.children) c.unlink.ensures.unlinked in
    let done = unlink_done old is kept c.args.key c.requires c.unlink.ensures.unlinked in
    let apart = subst (λ (ks : List (List ℕ)). AreSameBut c.args.key old.children ks) (sym lists) (unlinked_apart old.children c.args.key) in
    record {
      names = ap (λ g. g.names) done;
      trees = ap (λ g. g.trees) done;
      unlinked = parent_shown is kept same sound c.args.key c.requires None
          (ap (λ ks. parent_of ks c.args.key) lists ∙ unlinked_root old.children c.args.key);
      above = moved_above is kept same sound c.args.key c.requires apart;
      children = children_unlinked is kept same sound c.args.key c.requires lists;
      others = children_spared is kept same sound c.args.key c.requires lists;
      parents = moved_parents is kept same sound c.args.key apart;
      held = held_along is kept same sound;
    }
