use Rattle.dom_mutation.proofs.Cited.{is_some, sym, ap, ◌∙◌, range_from}
use Rattle.dom_mutation.proofs.RangeCommands.{range_is}
use Rattle.dom_mutation.proofs.doc.Doc.has_range.Goals as goal
use Rattle.dom_laws.proofs.Laws.{is_some-map}

pub returns : goal.returns
returns c =
    c.is_some.ensures
    ∙ (sym (is_some-map range_from c.points.result) ∙
    (ap is_some c.points.ensures ∙ range_is c.parts.inside.trees.forest c.parts.invariant (c.parts.view_is ∙ c.self.view_is) c.args.owner c.args.number))
