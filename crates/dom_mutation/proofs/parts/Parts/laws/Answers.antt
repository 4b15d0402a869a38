use Rattle.dom_mutation.proofs.Cited.{◌≡◌, ◌<◌, ◌≤◌, length, true, false, arith, subst, sym, count_by, name_eq, Node, Trees, nodes, has_node, part_of, is_there}
use Rattle.dom_mutation.proofs.Cited.{past_limit, IsPart, trees_of_owner, AreOf, name_at, times_count, Once-forest, once_own, world_of, DocState, owner_in}
use Rattle.dom_mutation.proofs.Cited.{contents, all_tables, IsAlone, AreOf-own}
use Rattle.dom_mutation.proofs.DocInvariant.{are_hosts}
use Rattle.dom_mutation.proofs.HostedWorlds.{makers_hosted}
use Rattle.dom_mutation.proofs.Limits.{within_limit}
use Rattle.dom_mutation.proofs.OwnSteps.{steps_alone}
use Rattle.dom_mutation.proofs.RangedStates.{part_everywhere}
use Rattle.dom_mutation.proofs.Shown.{known, shown, own_in_part, owner_there}
use Rattle.dom_mutation.proofs.parts.Parts.laws.Goals as goal

pub returns-clause-once : goal.returns-clause-once
returns-clause-once c o x =
    let f = c.self.inside.trees.forest in
    let once = once_own o f.trees (Once-forest f c.law_nodes_stand_once.ensures.once c.law_nodes_stand_once.ensures.only) x in
    let times = times_count (trees_of_owner o f.trees) x in
    let own : count_by (λ (n : Node). name_eq n.name x) (nodes (trees_of_owner o f.trees)) ≤ 1 = omega arith in
    subst (λ e. count_by (λ (n : Node). name_eq n.name x) (nodes (part_of e.world o).trees) ≤ 1) c.self.view_is
    (subst (λ (ts : Trees). count_by (λ (n : Node). name_eq n.name x) (nodes ts) ≤ 1) (own_in_part f.names f.trees c.self.invariant o) own)

pub returns-clause-present : goal.returns-clause-present
returns-clause-present c k k< =
    let f = c.self.inside.trees.forest in
    subst (λ e. is_there e.world (owner_in e k) ≡ true) c.self.view_is (owner_there f c.self.invariant c.self.view_is k k<)

pub returns-clause-alone : goal.returns-clause-alone
returns-clause-alone c k k< =
    let f = c.self.inside.trees.forest in
    let o = (name_at f.names k).owner in
    let now = contents f.names f.trees (all_tables c.self.inside) in
    subst (λ (e : DocState). IsAlone e.world (owner_in e k)) c.self.view_is record {
      own = subst (AreOf o) (own_in_part f.names f.trees c.self.invariant o) (AreOf-own o f.trees c.self.invariant.owned.owners);
      steps = λ steps h. steps_alone o steps (world_of now) record {
        parts = part_everywhere f c.self.invariant c.law_nodes_stand_once.ensures.once c.law_nodes_stand_once.ensures.only;
        makers = makers_hosted now c.self.inside.trees.slots.hosts (are_hosts f.names f.trees (all_tables c.self.inside) c.self.invariant);
      } h;
    }

pub returns-clause-limited : goal.returns-clause-limited
returns-clause-limited c o =
    let f = c.self.inside.trees.forest in
    subst (λ e. past_limit (part_of e.world o).node_count 0 ≡ false) c.self.view_is (within_limit f.names f.trees c.self.invariant o)

pub returns-clause-parts : goal.returns-clause-parts
returns-clause-parts c o =
    let f = c.self.inside.trees.forest in
    subst (λ (e : DocState). IsPart (part_of e.world o)) c.self.view_is
    (part_everywhere f c.self.invariant c.law_nodes_stand_once.ensures.once c.law_nodes_stand_once.ensures.only o)

pub returns-clause-stand : goal.returns-clause-stand
returns-clause-stand c k k< =
    let f = c.self.inside.trees.forest in
    sym (shown f c.self.invariant c.self.view_is has_node (λ ns. true) k
    (sym (c.law_nodes_stand_once.ensures.present k (known f c.self.invariant c.self.view_is (λ e. k < length e.names) k<))) (λ r. r.presence))
