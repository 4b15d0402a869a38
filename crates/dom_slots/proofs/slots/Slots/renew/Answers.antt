use Rattle.dom_base.proofs.Std.{map, refl, sym, subst, ◌∙◌, take_all}
use Rattle.dom_tree.specs.Definitions.{name_at}
use Rattle.dom_slots.specs.Definitions.{HostsAreNodes, Renews}
use Rattle.dom_slots.proofs.Renewing.{renews-none, renews-next}
use Rattle.dom_slots.proofs.slots.Slots.renew.Goals as goal

pub loop-slot-init : goal.loop-slot-init
loop-slot-init c = record { hosts = refl; hints = refl; renewed = renews-none }

pub assigned_now-requires-clause-hosts : goal.assigned_now-requires-clause-hosts
assigned_now-requires-clause-hosts c = subst (HostsAreNodes c.args.forest.now.names) (sym c.loop-slot.invariant.hosts) c.requires.hosts

pub loop-slot-preserved : goal.loop-slot-preserved
loop-slot-preserved c = record {
  hosts = c.in_ok-renew_as.ensures.hosts ∙ c.loop-slot.invariant.hosts;
  hints = c.in_ok-renew_as.ensures.hints ∙ c.loop-slot.invariant.hints;
  renewed = renews-next c.args.slots.now c.loop-slot.slot-index c.slot-item.result c.slot-item.is c.loop-slot-test.true
      c.loop-slot.invariant.hosts c.loop-slot.invariant.renewed c.in_ok-renew_as.ensures.renewed;
}

pub returns-clause-hosts : goal.returns-clause-hosts
returns-clause-hosts c = c.loop-slot.invariant.hosts

pub returns-clause-renewed : goal.returns-clause-renewed
returns-clause-renewed c =
    subst (λ ks. Renews c.args.forest.now c.args.self.now.hosts (map (name_at c.args.forest.now.names) ks) c.args.self.now.table
    c.args.signals.now.items c.loop-slot.self.table c.loop-slot.signals.items)
    (take_all c.loop-slot.slot-index c.args.slots.now c.loop-slot-test.false) c.loop-slot.invariant.renewed
