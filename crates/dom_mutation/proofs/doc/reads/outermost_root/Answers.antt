use Rattle.dom_mutation.proofs.Cited.{◌≡◌, ◌-◌, suc, Some, None, option_map, sym, ap, ◌∙◌, arith, host-named, host-node, host_named, shadows, name_at}
use Rattle.dom_mutation.proofs.Cited.{outermost_root}
use Rattle.dom_mutation.proofs.Connected.{outermost_none, outermost_some}
use Rattle.dom_mutation.proofs.doc.reads.outermost_root.Goals as goal

pub loop-left-init : goal.loop-left-init
loop-left-init c =
    let f = c.args.forest.now in
    (c.root-root.ensures.node, ap (outermost_root (shadows f c.args.slots.now.hosts) c.args.depth) c.root-root.ensures.value)

pub root-root-requires-in-loop-left : goal.root-root-requires-in-loop-left
root-root-requires-in-loop-left c =
    host-node c.args.forest.now.names c.args.slots.now.hosts c.requires.hosts c.loop-left.root c.in-Some.host (sym c.host_of.ensures ∙ c.in-Some.is)

pub loop-left-preserved : goal.loop-left-preserved
loop-left-preserved c =
    let f = c.args.forest.now in
    let hosts = c.args.slots.now.hosts in
    let s = shadows f hosts in
    let named : host_named f.names hosts (name_at f.names c.loop-left.root) ≡ Some (name_at f.names c.in-Some.host) =
    sym (host-named f.names c.law_nodes_stand_once.ensures.distinct hosts c.requires.hosts c.loop-left.root c.loop-left.invariant.0) ∙
    ap (option_map (name_at f.names)) (sym c.host_of.ensures ∙ c.in-Some.is) in
    let one_less : suc (c.loop-left.left - 1) ≡ c.loop-left.left = (let some = c.loop-left-test.true in omega arith) in (
      c.root-root-in-loop-left.ensures.node,
      ap (outermost_root s (c.loop-left.left - 1)) c.root-root-in-loop-left.ensures.value
          ∙ (sym (outermost_some s (c.loop-left.left - 1) (name_at f.names c.loop-left.root) (name_at f.names c.in-Some.host) named)
          ∙ (ap (λ n. outermost_root s n (name_at f.names c.loop-left.root)) one_less ∙ c.loop-left.invariant.1)),
    )

pub returns-in_default-clause-node : goal.returns-in_default-clause-node
returns-in_default-clause-node c = c.loop-left.invariant.0

pub returns-in_default-clause-value : goal.returns-in_default-clause-value
returns-in_default-clause-value c =
    let f = c.args.forest.now in
    let hosts = c.args.slots.now.hosts in
    let named : host_named f.names hosts (name_at f.names c.loop-left.root) ≡ None =
    sym (host-named f.names c.law_nodes_stand_once.ensures.distinct hosts c.requires.hosts c.loop-left.root c.loop-left.invariant.0) ∙
    ap (option_map (name_at f.names)) (sym c.host_of.ensures ∙ c.in_default.is) in
    sym (outermost_none (shadows f hosts) c.loop-left.left (name_at f.names c.loop-left.root) named) ∙ c.loop-left.invariant.1

pub returns-clause-node : goal.returns-clause-node
returns-clause-node c = c.loop-left.invariant.0

pub returns-clause-value : goal.returns-clause-value
returns-clause-value c =
    let f = c.args.forest.now in
    let none : c.loop-left.left ≡ 0 = (let over = c.loop-left-test.false in omega arith) in
    ap (λ n. outermost_root (shadows f c.args.slots.now.hosts) n (name_at f.names c.loop-left.root)) (sym none) ∙ c.loop-left.invariant.1
