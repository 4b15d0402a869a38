use Rattle.dom_base.proofs.Std.{◌≡◌, ◌<◌, ◌++◌, ◌∷◌, [], List, Some, length, ap, sym, subst, ◌∙◌, arith, nat_eq, if◌then◌else◌, map-append, common_steps}
use Rattle.dom_base.proofs.Std.{inl, inr, true≢false, cases_Bool, eqb-true, ForSome}
use Rattle.dom_slots.specs.declared.slots.Attached.{Attached}
use Rattle.dom_slots.specs.Definitions.{ShadowHost, HostsAreNodes, host_of_root, root_of_host, IsTableOf, SlotsNow, AreBare, AreIndexed, is_marked, host_in}
use Rattle.dom_slots.specs.Definitions.{hosts_in, IsParked, Bearers, bearer_at, MayHave, name_code}
use Rattle.dom_model.proofs.Model.{NodeName, slot_name, node_in}
use Rattle.dom_tree.specs.Definitions.{name_at}
use Rattle.dom_tree.proofs.Standing.{Once-forest, Has-forest}
use Rattle.dom_slots.proofs.Kept.{found-more}
use Rattle.dom_slots.proofs.Attaching.{same_assigned, bare_unassigned}
use Rattle.dom_slots.proofs.Bare.{marked-more, none-at, some_host}
use Rattle.dom_slots.proofs.slots.Slots.attach.Goals as goal

-- one host more
hosts_more : (names : List NodeName) (hosts : List ShadowHost) (h : ShadowHost) → HostsAreNodes names hosts → h.host < length names →
    h.root < length names → HostsAreNodes names (hosts ++ h ∷ [])
hosts_more names [] h nodes host root = (host, root, tt)
hosts_more names (g ∷ hosts) h nodes host root = (nodes.0, nodes.1, hosts_more names hosts h nodes.2 host root)

-- the host, and the hosts with it
abbrev attached_host : goal.After-set-2 → ShadowHost
attached_host c = record { host = c.args.host; root = c.args.root; owner = c.args.owner }

more : (c : goal.After-set-2) → hosts_in c.push.new.self.items ≡ hosts_in c.self.inside.hosts.items ++ attached_host c ∷ []
more c =
    let kept : Attached = record { host = c.args.host; root = c.args.root; owner = c.args.owner } in
    let last : c.push.new.self.items ≡ c.self.inside.hosts.items ++ kept ∷ [] = grind (arith, common_steps) in
    ap hosts_in last ∙ map-append host_in c.self.inside.hosts.items (kept ∷ [])

pub invariant_of-self-2 : goal.invariant_of-self-2
invariant_of-self-2 c =
    let hosts = hosts_in c.self.inside.hosts.items in
    record {
      attached = λ k.
          c.set.ensures k
          ∙ (ap (λ o. if nat_eq c.args.host k then Some c.args.root else o) (c.in_ok-reach.ensures.values k ∙ c.self.invariant.attached k)
          ∙ (found-more (λ g. g.host) (λ g. g.root) (attached_host c) hosts
          (ap (λ (s : SlotsNow). root_of_host s.hosts c.args.host) c.self.view_is ∙ c.requires.new_host) k
          ∙ ap (λ hs. root_of_host hs k) (sym (more c))));
      found = λ k.
          c.set-2.ensures k
          ∙ (ap (λ o. if nat_eq c.args.root k then Some c.args.host else o) (c.in_ok-reach-2.ensures.values k ∙ c.self.invariant.found k)
          ∙ (found-more (λ g. g.root) (λ g. g.host) (attached_host c) hosts
          (ap (λ (s : SlotsNow). host_of_root s.hosts c.args.root) c.self.view_is ∙ c.requires.new_root) k
          ∙ ap (λ hs. host_of_root hs k) (sym (more c))));
    }

pub returns-clause-hosts : goal.returns-clause-hosts
returns-clause-hosts c = more c ∙ ap (λ (s : SlotsNow). s.hosts ++ attached_host c ∷ []) c.self.view_is

pub returns-clause-slots : goal.returns-clause-slots
returns-clause-slots c =
    λ f stands slots host root bare.
    let old = c.args.self.now in
    let h : ShadowHost = record { host = c.args.host; root = c.args.root; owner = c.args.owner } in
    let hosts_are : old.hosts ++ h ∷ [] ≡ hosts_in c.push.new.self.items = sym (returns-clause-hosts c) in
    let tables_are : old.table ≡ c.self.inside.table = sym (ap (λ (s : SlotsNow). s.table) c.self.view_is) in
    let once = Once-forest f stands.once stands.only in
    let table : IsTableOf f (old.hosts ++ h ∷ []) old.table = record {
      nodes = slots.table.nodes;
      lists = λ k node. slots.table.lists k node ∙ same_assigned f.names f.trees old.hosts h bare
          (λ y is. bare_unassigned f once old.hosts (name_at f.names c.args.root) bare y is) (name_at f.names k);
      beyond = slots.table.beyond;
    } in
    record {
      hosts = subst (HostsAreNodes f.names) hosts_are (hosts_more f.names old.hosts h slots.hosts host root);
      table = subst (λ hs. IsTableOf f hs c.self.inside.table) hosts_are (subst (IsTableOf f (old.hosts ++ h ∷ [])) tables_are table);
      bare = subst (λ hs. AreBare f hs c.insert.new.self.marked.items) hosts_are
          (marked-more f (old.hosts ++ h ∷ []) c.self.inside.bare.marked.items c.insert.new.self.marked.items c.args.root c.in_ok-insert.ensures.ok
          record {
            hosted = some_host h old.hosts;
            node = root;
            slots = λ k within. none-at f.trees once (name_at f.names c.args.root) bare (name_at f.names k) (Has-forest f stands.once k within);
          } (λ r e. let was = slots.bare r (ap (λ (s : SlotsNow). is_marked s.bare r) (sym c.self.view_is) ∙ e) in
          record { hosted = some_host h old.hosts; node = was.node; slots = was.slots }));
      index = subst (λ hs. AreIndexed f hs c.self.inside.index.bearers.entries) hosts_are record {
        covered = λ r k g within node is at slot. elim (cases_Bool (nat_eq c.args.root r)) [
          | inl e ↦ absurd (true≢false (sym slot ∙ none-at f.trees once (name_at f.names c.args.root) bare (name_at f.names k) (Has-forest f stands.once k node)
              (at ∙ ap (name_at f.names) (sym (eqb-true c.args.root r e)))))
          | inr e ↦ subst (λ (i : Bearers). MayHave (bearer_at i (name_code r (slot_name (node_in f.trees (name_at f.names k))))) k)
              (sym (ap (λ (s : SlotsNow). s.index) c.self.view_is))
              (slots.index.covered r k g within node (sym (ap (λ b. if b then Some c.args.host else host_of_root old.hosts r) e)
              ∙ (found-more (λ g. g.root) (λ g. g.host) h old.hosts c.requires.new_root r ∙ is)) at slot)
        ];
        inside = λ n k only. slots.index.inside n k (ap (λ (s : SlotsNow). bearer_at s.index n) (sym c.self.view_is) ∙ only);
      };
      parked = subst (λ hs. ForSome c.self.inside.parked (IsParked f hs)) hosts_are
          (λ p is. let was = slots.parked p (ap (λ (s : SlotsNow). s.parked) (sym c.self.view_is) ∙ is) in
          record { hosted = some_host h old.hosts; slot = was.slot; host = was.host; nodes = was.nodes; list = was.list });
    }
