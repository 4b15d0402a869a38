use Rattle.dom_path.proofs.Cited.{Some, sym, ap, subst, ◌∙◌, option_map, name_at, host-named, host-node, GoesOut}
use Rattle.dom_path.proofs.Goings.{goes-on}
use Rattle.dom_path.proofs.trees.trees_around.Goals as goal

pub loop-next-preserved : goal.loop-next-preserved
loop-next-preserved c =
    let f = c.args.forest.now in
    let hosts = c.args.slots.now.hosts in
    let root = c.root-root.result in
    let so_far = subst (λ o. GoesOut f hosts (Some (name_at f.names c.args.node)) c.loop-next.trees.items (option_map (name_at f.names) o))
    c.in-Some.is c.loop-next.invariant.1 in (
      λ k e. host-node f.names hosts c.requires.hosts root k (sym c.host_of-next.ensures ∙ e),
      subst (λ ts. GoesOut f hosts (Some (name_at f.names c.args.node)) ts (option_map (name_at f.names) c.host_of-next.result)) (sym c.in_ok-push.ensures.ok)
          (goes-on f hosts (Some (name_at f.names c.args.node)) c.loop-next.trees.items (name_at f.names c.in-Some.node) _ so_far (record {
            nodes = record { root = c.root-root.ensures.node; host = λ k e. host-node f.names hosts c.requires.hosts root k (sym c.host_of-next.ensures ∙ e) };
            root = c.root-root.ensures.value;
            host = ap (option_map (name_at f.names)) c.host_of-next.ensures ∙ host-named f.names c.law_nodes_stand_once.ensures.distinct hosts
                c.requires.hosts root c.root-root.ensures.node;
          })),
    )
