use Rattle.dom_base.proofs.Std.{◌<◌, ◌-◌, ◌++◌, List, ℕ, All, length, map, refl, subst, sym, ap, ◌∙◌, arith}
use Rattle.dom_tree.specs.Definitions.{name_at}
use Rattle.dom_laws.proofs.Laws.{times_count}
use Rattle.dom_tree.proofs.Standing.{Once-forest}
use Rattle.dom_slots.proofs.Hosted.{root-node}
use Rattle.dom_mutation.specs.Documents.{roots_within}
use Rattle.dom_mutation.proofs.RootsBelow.{Lists, lists_first, lists_root, lists_none, lists_fewer, nodes_within}
use Rattle.dom_mutation.proofs.node_trees.documents.+add_roots.Goals.{in-Some-root_of+in_ok-push+in_ok-add_roots, in_default-root_of}
use Rattle.dom_mutation.proofs.node_trees.documents.+add_roots.Goals as goal

pub loop-at-init : goal.loop-at-init
loop-at-init t c =
    let f = c.args.forest.now in
    let once = c.law_nodes_stand_once.ensures.once c.args.top c.requires.top_is_node in
    let times = times_count f.trees (name_at f.names c.args.top) in
    lists_first f c.args.slots.now.hosts (roots_within (c.args.depth - 1) f c.args.slots.now.hosts) (map (name_at f.names) c.args.roots.now.items)
    c.args.top c.args.roots.now.items refl c.requires.nodes c.requires.top_is_node (omega arith)

pub add_roots-requires : goal.add_roots-requires
add_roots-requires t c =
    let f = c.args.forest.now in
    let hosts = c.args.slots.now.hosts in
    let found = sym c.root_of.ensures ∙ c.in-Some-root_of.is in
    let nodes = subst (λ (ks : List ℕ). All (λ k. k < length f.names) ks) (sym c.in_ok-push.ensures.items)
    (nodes_within f hosts (roots_within (c.args.depth - 1) f hosts) (map (name_at f.names) c.args.roots.now.items) c.args.top
    c.in-Some.node c.loop-at.invariant c.requires.hosts found) in
    let less : c.args.depth - 1 < t = (let fuel = c.decreases in let some = c.if-depth-eq0.false in omega arith) in
    (less, (root-node f.names hosts c.requires.hosts c.in-Some.node c.in-Some-root_of.root found, (c.requires.hosts, nodes)))

pub loop-at-smaller : goal.loop-at-smaller
loop-at-smaller t c =
    let f = c.args.forest.now in
    lists_fewer f c.args.slots.now.hosts (roots_within (c.args.depth - 1) f c.args.slots.now.hosts) (map (name_at f.names) c.args.roots.now.items)
    c.args.top (Once-forest f c.law_nodes_stand_once.ensures.once c.law_nodes_stand_once.ensures.only)
    c.loop-at.roots.items c.loop-at.at c.in-Some.node c.in-Some.is c.loop-at.invariant
    c.following-at.result c.following-at.ensures.value

pub loop-at-preserved : goal.loop-at-preserved
loop-at-preserved t c =
    let f = c.args.forest.now in
    let hosts = c.args.slots.now.hosts in
    let deeper = roots_within (c.args.depth - 1) f hosts in
    let earlier = map (name_at f.names) c.args.roots.now.items in
    let once = Once-forest f c.law_nodes_stand_once.ensures.once c.law_nodes_stand_once.ensures.only in
    elim c.match-root_of.branch [
      | in-Some-root_of+in_ok-push+in_ok-add_roots w ↦
          subst (λ (ks : List ℕ). Lists f hosts deeper earlier c.args.top ks c.following-at.result) (sym (ap (λ v. v.items) w.roots-is))
          (lists_root f hosts deeper earlier c.args.top once c.loop-at.roots.items c.loop-at.at c.in-Some.node c.in-Some.is c.loop-at.invariant
          c.following-at.result c.following-at.ensures.value
          c.law_nodes_stand_once.ensures.distinct c.requires.hosts c.following-at.ensures.node w.in-Some-root_of.root
          (sym c.root_of.ensures ∙ w.in-Some-root_of.is) w.add_roots.new.roots.items
          (w.in_ok-add_roots.ensures.names ∙
          ap (λ (ks : List ℕ). map (name_at f.names) ks ++ deeper (name_at f.names w.in-Some-root_of.root)) w.in_ok-push.ensures.items)
          w.in_ok-add_roots.ensures.nodes)
      | in_default-root_of w ↦
          subst (λ (ks : List ℕ). Lists f hosts deeper earlier c.args.top ks c.following-at.result) (sym (ap (λ v. v.items) w.roots-is))
          (lists_none f hosts deeper earlier c.args.top once c.loop-at.roots.items c.loop-at.at c.in-Some.node c.in-Some.is c.loop-at.invariant
          c.following-at.result c.following-at.ensures.value
          c.law_nodes_stand_once.ensures.distinct c.requires.hosts c.following-at.ensures.node (sym c.root_of.ensures ∙ w.in_default-root_of.is))
    ]
