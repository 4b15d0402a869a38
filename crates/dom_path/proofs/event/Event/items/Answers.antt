use Rattle.dom_path.proofs.Cited.{refl, sym, ap, subst, name_at, Item, IsItemOf, related_name}
use Rattle.dom_path.proofs.Tracks.{IsTrack, track-more, track-last, trail-last, event-kept}
use Rattle.dom_path.proofs.Viewed.{item-made}
use Rattle.dom_path.proofs.event.Event.items.Goals as goal

pub item-requires-clause-at : goal.item-requires-clause-at
item-requires-clause-at c = (c.loop-next.invariant.track.place c.in-Some.at c.in-Some.is).within

pub loop-next-preserved : goal.loop-next-preserved
loop-next-preserved c =
    let f = c.args.forest.now in
    let hosts = c.args.slots.now.hosts in
    let e = c.args.self.now in
    let t = name_at f.names e.target.node in
    let r = related_name f.names e.related in
    let trees = c.loop-next.trees in
    let new = c.next.new.trees in
    let items = c.loop-next.items.items in
    let x = c.in-Some.at in
    let so_far = subst (IsTrack f hosts t r e.composed trees items) c.in-Some.is c.loop-next.invariant.track in
    let item = subst (IsItemOf f hosts t r trees) (sym c.item.ensures)
    (item-made f hosts c.law_nodes_stand_once.ensures.distinct trees c.loop-next.invariant.are e.target e.related x c.loop-next.invariant.event
    (so_far.place x refl)) in
    record {
      track = track-more f hosts t r e.composed trees new items x c.item.result c.push.new.self.items c.in_ok-next.next so_far
          c.in_ok-next.ensures.grown c.in_ok-push.ensures.items
          (record { item = item; node = ap (λ (i : Item). i.node) c.item.ensures; entered = ap (λ (i : Item). i.slot_in_closed) c.item.ensures })
          c.in_ok-next.ensures.stands c.in_ok-next.ensures.value (λ y is. (c.in_ok-next.ensures.up y is, c.in_ok-next.ensures.entered y is));
      are = c.in_ok-next.ensures.trees;
      event = event-kept c.in_ok-next.ensures.grown c.loop-next.invariant.event;
    }

pub returns-clause-way : goal.returns-clause-way
returns-clause-way c =
    track-last c.args.forest.now c.args.slots.now.hosts _ _ c.args.self.now.composed c.in_default.is c.loop-next.invariant.track

pub returns-clause-trail : goal.returns-clause-trail
returns-clause-trail c =
    trail-last c.args.forest.now c.args.slots.now.hosts _ _ c.args.self.now.composed c.in_default.is c.loop-next.invariant.track
