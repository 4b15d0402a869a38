use Rattle.dom_base.proofs.Std.{ap, ◌∙◌, rules, slice_set}
use Rattle.dom_slots.specs.Definitions.{slots_at}
use Rattle.dom_slots.specs.declared.key_lists.KeyLists.{KeyLists}
use Rattle.dom_slots.proofs.InLine.{put-in-line}
use Rattle.dom_slots.proofs.node_slots.NodeSlots.put.Goals as goal

pub returns : goal.returns
returns c = λ k.
    ap (λ (r : KeyLists). slots_at (slice_set c.reach.new.self.first.items c.index.result c.args.slot) r.rows.items k) c.in_ok-reach.ensures.rest
    ∙ (ap (λ n. slots_at (slice_set c.reach.new.self.first.items n c.args.slot) c.args.self.now.rest.rows.items k) c.index.ensures
    ∙ put-in-line c.args.node c.args.slot c.args.self.now.first.items c.reach.new.self.first.items c.args.self.now.rest.rows.items
    (search rules) (search rules) c.in_ok-reach.ensures.there c.in_ok-reach.ensures.first k)
