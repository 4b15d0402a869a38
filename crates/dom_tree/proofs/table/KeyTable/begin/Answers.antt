use Rattle.dom_base.proofs.Std.{[], refl, sym, ap, ◌∙◌, option_map_or}
use Rattle.dom_tree.proofs.KeyLists.{keys-same}
use Rattle.dom_tree.proofs.table.KeyTable.begin.Goals as goal

pub returns-clause-keys : goal.returns-clause-keys
returns-clause-keys c = keys-same c.args.self.now (record c.args.self.now { components = c.insert_full.new.self }) refl c.args.owner c.reserve.new.self
    c.in_ok-place.ensures.updates.0
    (ap (λ found. option_map_or (λ v. v.items) found []) c.requires.none ∙ (sym c.new-keys.ensures.items ∙ sym c.reserve.ensures.items))
