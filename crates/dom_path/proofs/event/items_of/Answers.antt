use Rattle.dom_path.proofs.Cited.{ℕ, List, Option, sym, ap, subst, option_map, map, Global, IfOk, Vec, NodeName, name_at, shadows, Item, IsBuilt, IsWay}
use Rattle.dom_path.proofs.Cited.{related_name, IsHosted, item_named, IsTrail}
use Rattle.dom_path.proofs.Goings.{stand-kept, tree-kept}
use Rattle.dom_path.proofs.Tracks.{ok-other, built-way}
use Rattle.dom_path.proofs.Viewed.{silent-keys, related-key}
use Rattle.dom_path.proofs.event.items_of.Goals as goal

pub items-requires-clause-event : goal.items-requires-clause-event
items-requires-clause-event c = record {
  at_target = stand-kept c.args.forest.now c.args.slots.now.hosts c.of.new.trees c.of_any.new.trees c.in_ok-target.target
      c.in_ok-related.ensures.grown c.in_ok-target.ensures.stands;
  at_related = c.in_ok-related.ensures.stands;
  root = tree-kept c.args.forest.now c.args.slots.now.hosts c.of.new.trees c.of_any.new.trees c.in_ok-target.target.tree
      (name_at c.args.forest.now.names c.in_ok-target.target.node) c.in_ok-related.ensures.grown c.in_ok-target.ensures.tree;
  begins = c.in_ok-target.ensures.entered;
}

pub returns-then-is_silent-clause-path : goal.returns-then-is_silent-clause-path
returns-then-is_silent-clause-path c = λ depth hosted.
    let f = c.args.forest.now in
    let hosts = c.args.slots.now.hosts in
    subst (IsBuilt f hosts (name_at f.names c.args.target) (option_map (name_at f.names) c.args.related) depth c.args.composed) (sym c.clear.ensures.items)
    (silent-keys f hosts c.law_nodes_stand_once.ensures.distinct c.of_any.new.trees c.in_ok-related.ensures.trees depth hosted
    (stand-kept f hosts c.of.new.trees c.of_any.new.trees c.in_ok-target.target c.in_ok-related.ensures.grown c.in_ok-target.ensures.stands)
    c.in_ok-related.ensures.stands c.in_ok-target.ensures.node c.in_ok-related.ensures.node c.if-is_silent.ensures)

pub returns-clause-path : goal.returns-clause-path
returns-clause-path c =
    let f = c.args.forest.now in
    let hosts = c.args.slots.now.hosts in
    let target = c.in_ok-target.target in
    let related = c.in_ok-related.related in
    let trees = c.of_any.new.trees in
    let t = ap (name_at f.names) c.in_ok-target.ensures.node in
    let r = related-key f.names related c.args.related c.in_ok-related.ensures.node in
    ok-other (λ (items : Vec Item Global). (depth : ℕ) → IsHosted f hosts depth →
    IsWay f hosts (name_at f.names target.node) (related_name f.names related) depth c.args.composed items.items)
    (λ (items : Vec Item Global). (depth : ℕ) → IsHosted f hosts depth →
    IsBuilt f hosts (name_at f.names c.args.target) (option_map (name_at f.names) c.args.related) depth c.args.composed items.items)
    (λ (items : Vec Item Global) way depth hosted.
    let shown = silent-keys f hosts c.law_nodes_stand_once.ensures.distinct trees c.in_ok-related.ensures.trees depth hosted
    (stand-kept f hosts c.of.new.trees trees target c.in_ok-related.ensures.grown c.in_ok-target.ensures.stands)
    c.in_ok-related.ensures.stands c.in_ok-target.ensures.node c.in_ok-related.ensures.node c.if-is_silent.ensures in
    built-way f hosts (name_at f.names c.args.target) (option_map (name_at f.names) c.args.related) c.args.composed depth items.items shown
    (subst (λ (p : NodeName × Option NodeName). IsWay f hosts p.0 p.1 depth c.args.composed items.items) (λ j. (t j, r j)) (way depth hosted)))
    c.items.result c.items.ensures.way

pub returns-then-is_silent-clause-trail : goal.returns-then-is_silent-clause-trail
returns-then-is_silent-clause-trail c =
    let f = c.args.forest.now in
    let hosts = c.args.slots.now.hosts in
    subst (λ (items : List Item). IsTrail (shadows f hosts) (name_at f.names c.args.target) c.args.composed (map (item_named f.names) items))
    (sym c.clear.ensures.items) tt

pub returns-clause-trail : goal.returns-clause-trail
returns-clause-trail c =
    let f = c.args.forest.now in
    let hosts = c.args.slots.now.hosts in
    subst (λ (t : NodeName). IfOk c.items.result
    (λ items. IsTrail (shadows f hosts) t c.args.composed (map (item_named f.names) items.items)))
    (ap (name_at f.names) c.in_ok-target.ensures.node) c.items.ensures.trail
