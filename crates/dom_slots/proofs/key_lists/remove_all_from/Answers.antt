use Rattle.dom_base.proofs.Std.{not, ◌==◌, rules, filter_same}
use Rattle.dom_slots.proofs.key_lists.remove_all_from.Goals as goal

pub returns : goal.returns
returns c = filter_same _ (λ x. not (x == c.args.node)) _ (λ x b f h. search rules) c.args.list.now.items c.retain.new.self.items c.retain.ensures.filtered
