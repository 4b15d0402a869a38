use Rattle.dom_range_ops.proofs.Cited.{option_map, refl, sym, ap, subst, ◌∙◌, observed, insert_plan, DocState, made, name_in, IsAlone, AreReady}
use Rattle.dom_range_ops.proofs.Cited.{keeps-inserting, own_moves}
use Rattle.dom_range_ops.proofs.InsertedPlans.{inserted-before}
use Rattle.dom_range_ops.proofs.InsertedRanges.{range-kept}
use Rattle.dom_range_ops.proofs.inserting.insert_before.Goals as goal

pub end_at-requires-clause-there : goal.end_at-requires-clause-there
end_at-requires-clause-there c =
    let d = c.args.doc.now in
    let put = insert_plan observed (name_in d c.args.node) (name_in d c.args.parent) (option_map (name_in d) c.args.reference) in
    range-kept put
    (subst (IsAlone d.world) c.requires.parent_own (c.laws.ensures.alone c.args.parent c.requires.parent_is_node))
    (keeps-inserting (own_moves c.args.owner) observed (name_in d c.args.node) (name_in d c.args.parent) (option_map (name_in d) c.args.reference)
    (c.requires.may_move.owner ∙ c.requires.parent_own))
    (ap (λ (s : DocState). s.world) c.in_ok-insert_unchecked.ensures.state ∙ ap (λ o. made o put d.world) c.requires.parent_own) c.args.number c.requires.there

pub end_at-requires-clause-ready : goal.end_at-requires-clause-ready
end_at-requires-clause-ready c =
    let d = c.args.doc.now in
    subst (λ (s : DocState). AreReady s.world) (sym (inserted-before d c.args.owner c.args.number c.args.parent c.args.node
    (subst (IsAlone d.world) c.requires.parent_own (c.laws.ensures.alone c.args.parent c.requires.parent_is_node)) c.requires.parent_own
    (c.requires.may_move.owner ∙ c.requires.parent_own) c.args.reference
    c.requires.may_move.apart c.offset_behind-offset.ensures c.in_ok-insert_unchecked.ensures.state refl)) c.requires.ready

pub returns : goal.returns
returns c =
    let d = c.args.doc.now in
    inserted-before d c.args.owner c.args.number c.args.parent c.args.node
    (subst (IsAlone d.world) c.requires.parent_own (c.laws.ensures.alone c.args.parent c.requires.parent_is_node)) c.requires.parent_own
    (c.requires.may_move.owner ∙ c.requires.parent_own) c.args.reference
    c.requires.may_move.apart c.offset_behind-offset.ensures c.in_ok-insert_unchecked.ensures.state c.end_at.ensures
