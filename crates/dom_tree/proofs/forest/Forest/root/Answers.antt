use Rattle.dom_base.proofs.Std.{sym, ap, ◌∙◌, refl}
use Rattle.node_arena.specs.Nodes.{parent_of, IsForest}
use Rattle.dom_tree.proofs.Walks.{fewer_above, top_key-parent, shows_root}
use Rattle.dom_tree.proofs.forest.Forest.root.Goals as goal

pub loop-parent-smaller : goal.loop-parent-smaller
loop-parent-smaller c =
    let forest : IsForest c.at-top.result.whole.children = rw c.at-top.ensures c.self.invariant.kept.forest in
    fewer_above forest c.loop-parent.top.key c.in-Some.parent.key
    (c.in-Some.ensures.value ∙ ap (λ a. parent_of a.children c.loop-parent.top.key) c.loop-parent.invariant.0)

pub loop-parent-preserved : goal.loop-parent-preserved
loop-parent-preserved c =
    let forest : IsForest c.at-top.result.whole.children = rw c.at-top.ensures c.self.invariant.kept.forest in (
      c.in-Some.ensures.same c.in-Some.parent refl ∙ c.loop-parent.invariant.0,
      top_key-parent c.at-top.result.whole.children forest c.loop-parent.top.key c.in-Some.parent.key
          (sym (c.in-Some.ensures.value ∙ ap (λ a. parent_of a.children c.loop-parent.top.key) c.loop-parent.invariant.0)) ∙ c.loop-parent.invariant.1,
    )

pub returns-clause-value : goal.returns-clause-value
returns-clause-value c =
    let at = c.loop-parent.invariant.0 ∙ ap (λ s. s.whole) c.at-top.ensures in
    rw c.key.ensures.value (shows_root c.self.view_is c.self.invariant.kept c.args.key c.loop-parent.top.key c.requires
    (sym (c.in_default.ensures.value ∙ ap (λ a. parent_of a.children c.loop-parent.top.key) at)) (rw c.at-top.ensures at c.loop-parent.invariant.1))
