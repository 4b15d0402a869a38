use Rattle.dom_traversal.proofs.Cited.{◌<◌, length, Option, Some, sym, ap, subst, ◌∙◌, option_map, above-within, from_node, name_at, NodeName, Walker}
use Rattle.dom_traversal.proofs.Cited.{filter_of, IsWalkerOf, walker_view}
use Rattle.dom_traversal.proofs.Climbing.{walker-within}
use Rattle.dom_traversal.proofs.Forward.{shorter-skip, shorter-reject}
use Rattle.dom_traversal.proofs.Passing.{Comes-begin, ComesNext, ComesNext-skip, ComesNext-reject}
use Rattle.dom_traversal.proofs.walker.Walker.next_node.Goals as goal

pub loop-at-init : goal.loop-at-init
loop-at-init c =
    let f = c.args.forest.now in
    let placed = subst (IsWalkerOf f) (sym c.self.view_is) c.requires in
    let w : Walker = walker_view f.names record { root = c.self.inside.root; current = c.self.inside.current; filter = filter_of c.self.inside.filter } in
    let at = walker-within c.law_nodes_stand_once.ensures.once c.law_nodes_stand_once.ensures.only placed (sym c.if-not-is_inclusive_ancestor.ensures) in
    record {
      node = c.following-at.ensures.node;
      comes = Comes-begin f.trees w at (option_map (name_at f.names) c.following-at.result) c.following-at.ensures.value;
    }

pub following-at-requires-in-Some-Skip-clause-within : goal.following-at-requires-in-Some-Skip-clause-within
following-at-requires-in-Some-Skip-clause-within c =
    let f = c.args.forest.now in
    above-within f.trees (name_at f.names c.self.inside.root) (name_at f.names c.in-Some.key)
    (c.loop-at.invariant.comes.within (name_at f.names c.in-Some.key) (ap (option_map (name_at f.names)) c.in-Some.is))

pub beyond-at-requires-clause-stands : goal.beyond-at-requires-clause-stands
beyond-at-requires-clause-stands c =
    let f = c.args.forest.now in
    record {
      node = c.loop-at.invariant.node c.in-Some.key c.in-Some.is;
      within = above-within f.trees (name_at f.names c.self.inside.root) (name_at f.names c.in-Some.key)
          (c.loop-at.invariant.comes.within (name_at f.names c.in-Some.key) (ap (option_map (name_at f.names)) c.in-Some.is));
    }

pub loop-at-smaller-in-Some-Skip : goal.loop-at-smaller-in-Some-Skip
loop-at-smaller-in-Some-Skip c =
    let f = c.args.forest.now in
    let named = ap (option_map (name_at f.names)) c.in-Some.is in
    let inside = c.loop-at.invariant.comes.within (name_at f.names c.in-Some.key) named in
    subst (λ (o : Option NodeName). length
    (from_node f.trees (name_at f.names c.self.inside.root) (option_map (name_at f.names) c.following-at-in-Some-Skip.result)) < length
    (from_node f.trees (name_at f.names c.self.inside.root) o)) (sym named)
    (shorter-skip f.trees (name_at f.names c.self.inside.root) (name_at f.names c.in-Some.key)
    (option_map (name_at f.names) c.following-at-in-Some-Skip.result) inside c.following-at-in-Some-Skip.ensures.value)

pub loop-at-preserved-in-Some-Skip : goal.loop-at-preserved-in-Some-Skip
loop-at-preserved-in-Some-Skip c =
    let f = c.args.forest.now in
    let w : Walker = walker_view f.names record { root = c.self.inside.root; current = c.self.inside.current; filter = filter_of c.self.inside.filter } in
    let h = subst (ComesNext f.trees w) (ap (option_map (name_at f.names)) c.in-Some.is) c.loop-at.invariant.comes in
    record {
      node = c.following-at-in-Some-Skip.ensures.node;
      comes = ComesNext-skip w h
          (ap Some (sym c.in-Some-Skip.field-0-is) ∙ c.in-Some-Skip.ensures) c.following-at-in-Some-Skip.ensures.value;
    }

pub loop-at-smaller : goal.loop-at-smaller
loop-at-smaller c =
    let f = c.args.forest.now in
    let named = ap (option_map (name_at f.names)) c.in-Some.is in
    let inside = c.loop-at.invariant.comes.within (name_at f.names c.in-Some.key) named in
    subst (λ (o : Option NodeName). length
    (from_node f.trees (name_at f.names c.self.inside.root) (option_map (name_at f.names) c.beyond-at.result)) < length
    (from_node f.trees (name_at f.names c.self.inside.root) o)) (sym named)
    (shorter-reject f.trees (name_at f.names c.self.inside.root) (name_at f.names c.in-Some.key) (option_map (name_at f.names) c.beyond-at.result)
    inside c.beyond-at.ensures.value)

pub loop-at-preserved : goal.loop-at-preserved
loop-at-preserved c =
    let f = c.args.forest.now in
    let w : Walker = walker_view f.names record { root = c.self.inside.root; current = c.self.inside.current; filter = filter_of c.self.inside.filter } in
    let placed = subst (IsWalkerOf f) (sym c.self.view_is) c.requires in
    let at = walker-within c.law_nodes_stand_once.ensures.once c.law_nodes_stand_once.ensures.only placed (sym c.if-not-is_inclusive_ancestor.ensures) in
    let h = subst (ComesNext f.trees w) (ap (option_map (name_at f.names)) c.in-Some.is) c.loop-at.invariant.comes in
    record {
      node = λ k e. (c.beyond-at.ensures.stands k e).node;
      comes = ComesNext-reject w at h
          (ap Some (sym c.in-Some-Reject.field-0-is) ∙ c.in-Some-Reject.ensures) c.beyond-at.ensures.value;
    }
