use Rattle.std.proofs.Common.{◌≡◌, ◌≢◌, Some, [], ◌∷◌, ◌++◌, sym, ap, ◌∙◌, true≢false}
use Rattle.node_arena.specs.Nodes.{Nodes, children_of, contains, parent_of}
use Rattle.dom_callers.proofs.Groups.{Added, grouped_child, grouped_root}
use Rattle.dom_callers.proofs.arena.group.Goals as goal
use Rattle.dom_callers.proofs.arena.group.Goals.{in-Some, in_default}

pub returns-clause-ok : goal.returns-clause-ok
returns-clause-ok g c =
    let ok = c.in_ok-group.ensures.ok in
    let payloads = ap (λ (n : Nodes g.row.T.Denot). n.payloads) ok in
    let leaf : children_of c.add.new.self.children c.in_ok-group.group ≡ [] = c.in_ok-group.ensures.childless in
    let added : Added c.args.arena.now.children c.add.new.self.children c.in_ok-group.group =
    record {
      is = ap (λ (n : Nodes g.row.T.Denot). n.children) ok;
      last = c.in_ok-group.ensures.key ∙ c.in_ok-group.ensures.was_sound.paired;
      childless = leaf;
    } in
    elim c.match-parent.branch [
      | in-Some w ↦
          let p = w.in-Some.parent in
          let up : parent_of c.add.new.self.children c.args.key ≡ Some p = sym c.parent.ensures.value ∙ w.in-Some.is in
          let other : c.in_ok-group.group ≢ p = λ same. true≢false (sym (c.parent.ensures.child p w.in-Some.is)
          ∙ (ap (λ q. contains (children_of c.add.new.self.children q) c.args.key) (sym same) ∙ ap (λ xs. contains xs c.args.key) leaf)) in
          rw (c.link_before-2.ensures.linked, w.arena-is, w.unlink.ensures.unlinked, w.link_before.ensures.linked, payloads)
          (ap (λ lists. record { payloads = c.args.arena.now.payloads ++ c.args.payload ∷ []; children = lists }) (grouped_child added c.args.key p up other))
      | in_default w ↦
          let root = sym c.parent.ensures.value ∙ w.in_default.is in
          rw (c.link_before-2.ensures.linked, w.arena-is, leaf, payloads)
          (ap (λ lists. record { payloads = c.args.arena.now.payloads ++ c.args.payload ∷ []; children = lists }) (grouped_root added c.args.key root))
    ]
