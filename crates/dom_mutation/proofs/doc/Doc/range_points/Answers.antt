use Rattle.dom_mutation.proofs.Cited.{true≢false, is_some, sym, ap, ◌∙◌, option_map, range_from}
use Rattle.dom_mutation.proofs.RangeCommands.{range_is, points_are}
use Rattle.dom_mutation.proofs.doc.Doc.range_points.Goals as goal

pub unreachable-requires : goal.unreachable-requires
unreachable-requires c =
    true≢false (sym (range_is c.parts.inside.trees.forest c.parts.invariant (c.parts.view_is ∙ c.self.view_is) c.args.owner c.args.number ∙ c.requires) ∙
    (ap is_some (sym c.points.ensures) ∙ ap (λ m. is_some (option_map range_from m)) c.in_default.is))

pub returns-clause-start_is_node : goal.returns-clause-start_is_node
returns-clause-start_is_node c =
    (points_are c.parts.inside.trees.forest c.parts.invariant (c.parts.view_is ∙ c.self.view_is) c.args.owner c.args.number c.requires c.in-Some.points
    (sym c.in-Some.ensures)).start_is_node

pub returns-clause-end_is_node : goal.returns-clause-end_is_node
returns-clause-end_is_node c =
    (points_are c.parts.inside.trees.forest c.parts.invariant (c.parts.view_is ∙ c.self.view_is) c.args.owner c.args.number c.requires c.in-Some.points
    (sym c.in-Some.ensures)).end_is_node

pub returns-clause-own_start : goal.returns-clause-own_start
returns-clause-own_start c =
    (points_are c.parts.inside.trees.forest c.parts.invariant (c.parts.view_is ∙ c.self.view_is) c.args.owner c.args.number c.requires c.in-Some.points
    (sym c.in-Some.ensures)).own_start

pub returns-clause-own_end : goal.returns-clause-own_end
returns-clause-own_end c =
    (points_are c.parts.inside.trees.forest c.parts.invariant (c.parts.view_is ∙ c.self.view_is) c.args.owner c.args.number c.requires c.in-Some.points
    (sym c.in-Some.ensures)).own_end

pub returns-clause-value : goal.returns-clause-value
returns-clause-value c =
    (points_are c.parts.inside.trees.forest c.parts.invariant (c.parts.view_is ∙ c.self.view_is) c.args.owner c.args.number c.requires c.in-Some.points
    (sym c.in-Some.ensures)).value
