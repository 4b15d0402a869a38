use Rattle.dom_mutation.proofs.Cited.{◌≢◌, true≢false, sym, ap, ◌∙◌, nat_lt, Page, is_there}
use Rattle.dom_mutation.proofs.OwnersOfNodes.{page_there, nodes_there}
use Rattle.dom_mutation.proofs.doc.Doc.is_there.Goals as goal
use Rattle.dom_mutation.proofs.doc.Doc.is_there.Goals.{in-Page, in_default}

pub returns-then-matches : goal.returns-then-matches
returns-then-matches c =
    elim c.match-matches.branch [
      | in-Page w ↦ c.if-matches.true ∙
          (page_there c.parts.inside.trees.forest c.parts.invariant (c.parts.view_is ∙ c.self.view_is) ∙ ap (is_there c.args.self.now.world) (sym w.in-Page.is))
      | in_default w ↦ absurd (true≢false (sym c.if-matches.true ∙ w.matches-is))
    ]

pub returns-else-matches : goal.returns-else-matches
returns-else-matches c =
    let other : c.args.owner ≢ Page =
    elim c.match-matches.branch [ in-Page w ↦ absurd (true≢false (sym w.matches-is ∙ c.if-matches.false)) | in_default w ↦ w.in_default.not-Page ] in
    ap (nat_lt 0) c.node_count.ensures ∙ nodes_there c.parts.inside.trees.forest c.parts.invariant (c.parts.view_is ∙ c.self.view_is) c.args.owner other
