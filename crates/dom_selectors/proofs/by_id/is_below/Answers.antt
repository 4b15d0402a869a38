use Rattle.dom_selectors.proofs.Cited.{ap, sym, ◌∙◌, eqb-true, not-false, name_at, IsWithin-itself, other_name}
use Rattle.dom_selectors.proofs.IdQueries.{below_itself, below_other}
use Rattle.dom_selectors.proofs.by_id.is_below.Goals as goal

pub returns-then-ne : goal.returns-then-ne
returns-then-ne c =
    let f = c.args.forest.now in
    let law = c.law_nodes_stand_once.ensures in
    c.is_inclusive_ancestor.ensures ∙ sym (law.below c.args.top c.args.key c.requires.top_is_node c.requires.key_is_node)
    ∙ below_other f.trees (name_at f.names c.args.top) (IsWithin-itself f law.once law.only c.args.top c.requires.top_is_node) (name_at f.names c.args.key)
    (other_name f law.distinct c.args.key c.args.top c.requires.key_is_node c.requires.top_is_node (sym c.ne.ensures ∙ c.if-ne.true))

pub returns-else-ne : goal.returns-else-ne
returns-else-ne c =
    let f = c.args.forest.now in
    let law = c.law_nodes_stand_once.ensures in
    c.if-ne.false ∙ sym (below_itself f.trees (name_at f.names c.args.top) (IsWithin-itself f law.once law.only c.args.top c.requires.top_is_node)
    (name_at f.names c.args.key) (ap (name_at f.names) (eqb-true c.args.key c.args.top (not-false _ (sym c.ne.ensures ∙ c.if-ne.false)))))
