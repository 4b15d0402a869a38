use Rattle.dom_range_ops.proofs.Cited.{List, Some, option_map, refl, sym, ap, ◌∙◌, cond-true, cond-false, NodeName, Node, node_in, kind_of, is_document}
use Rattle.dom_range_ops.proofs.Cited.{name_in, owner_in, trees_in, name_at}
use Rattle.dom_range_ops.proofs.TakingDocs.{node-read}
use Rattle.dom_range_ops.proofs.extracting.own_document.Goals as goal

pub returns-then-is_document-clause-value : goal.returns-then-is_document-clause-value
returns-then-is_document-clause-value c =
    let d = c.args.doc.now in
    let k = c.args.node in
    let x = name_in d k in
    let read = node-read d c.forest-forest.result.now (owner_in d k) k
    record { owned = c.forest-forest.ensures.owned; names = c.forest-forest.ensures.names; trees = c.forest-forest.ensures.trees (owner_in d k) } refl in
    sym (cond-true (is_document (kind_of (trees_in d k) x)) (Some x) (node_in (trees_in d k) x).document
    (ap (λ (n : Node). is_document n.kind) (sym read) ∙ sym c.is_document.ensures ∙ c.if-is_document.true))

pub returns-clause-value : goal.returns-clause-value
returns-clause-value c =
    let d = c.args.doc.now in
    let k = c.args.node in
    let x = name_in d k in
    let read = node-read d c.forest-forest.result.now (owner_in d k) k
    record { owned = c.forest-forest.ensures.owned; names = c.forest-forest.ensures.names; trees = c.forest-forest.ensures.trees (owner_in d k) } refl in
    ap (λ (ns : List NodeName). option_map (name_at ns) c.document.result) (sym c.forest-forest.ensures.names)
    ∙ c.document.ensures.value
    ∙ ap (λ (n : Node). n.document) read
    ∙ sym (cond-false (is_document (kind_of (trees_in d k) x)) (Some x) (node_in (trees_in d k) x).document
    (ap (λ (n : Node). is_document n.kind) (sym read) ∙ sym c.is_document.ensures ∙ c.if-is_document.false))
