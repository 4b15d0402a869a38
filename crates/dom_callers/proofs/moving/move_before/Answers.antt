use Rattle.std.proofs.Common.{ap, ◌∙◌}
use Rattle.dom_model.specs.TreeChanges.{taken_out}
use Rattle.dom_tree.specs.Definitions.{name_at}
use Rattle.dom_callers.specs.Moving.{shown_ranges, with_coming}
use Rattle.dom_callers.proofs.moving.move_before.Goals as goal

pub returns-clause-ranges : goal.returns-clause-ranges
returns-clause-ranges c = λ o.
    let f = c.args.forest.now in
    let g = c.take_out.new.forest in
    let shown = shown_ranges g c.take_out.new.ranges o in
    c.put_before.ensures.ranges o
    ∙ ap (λ ns. with_coming g.trees (name_at ns c.args.parent) (name_at ns c.args.child) shown) c.take_out.ensures.names
    ∙ ap (λ ts. with_coming ts (name_at f.names c.args.parent) (name_at f.names c.args.child) shown) c.take_out.ensures.trees
    ∙ ap (with_coming (taken_out (name_at f.names c.args.node) f.trees) (name_at f.names c.args.parent) (name_at f.names c.args.child))
    (c.take_out.ensures.ranges o)
