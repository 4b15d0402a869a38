use Rattle.dom_base.proofs.Std.{refl, sym, ap, ◌∙◌}
use Rattle.dom_slots.specs.Definitions.{MovesNone, SlotsNow, StandsOnce, with_parked}
use Rattle.dom_slots.proofs.Bare.{light-none, bare-still}
use Rattle.dom_slots.proofs.Indexed.{index-still}
use Rattle.dom_slots.proofs.slots.Slots.follow.Goals as goal

module _ (c : goal.Then-is_light) where
  stands : StandsOnce c.args.forest.now
  stands = record { once = c.law_nodes_stand_once.ensures.once; only = c.law_nodes_stand_once.ensures.only }

  light : MovesNone c.args.forest.now c.args.self.now.hosts c.args.change.step
  light = light-none c.requires.ended.0 c.args.forest.now (with_parked c.requires.ended.1 c.args.self.now) c.args.change c.requires.ended.2 stands
      (sym c.if-is_light.ensures)

pub returns-then-is_light-clause-moved : goal.returns-then-is_light-clause-moved
returns-then-is_light-clause-moved c = light c

pub returns-then-is_light-clause-bare : goal.returns-then-is_light-clause-bare
returns-then-is_light-clause-bare c =
    bare-still c.requires.ended.0 c.args.forest.now (with_parked c.requires.ended.1 c.args.self.now) c.args.change c.requires.ended.2 (stands c) (light c)

pub returns-then-is_light-clause-indexed : goal.returns-then-is_light-clause-indexed
returns-then-is_light-clause-indexed c =
    index-still c.requires.ended.0 c.args.forest.now (with_parked c.requires.ended.1 c.args.self.now) c.args.change c.requires.ended.2 (stands c) (light c)

pub returns-clause-bare : goal.returns-clause-bare
returns-clause-bare c =
    c.in_ok-mark.ensures c.requires.ended.0 (with_parked c.requires.ended.1 c.args.self.now) c.args.change refl
    (sym (ap (λ (s : SlotsNow). s.bare) c.self.view_is ∙ c.in_ok-reindex.ensures.bare)) c.requires.hosted c.in_ok-moved.ensures c.requires.ended.2
