use Rattle.dom_node_commands.proofs.Handlers.{◌∙◌, ◌∷◌, Ok, Slot, [], a_list, ap, asks, assigned_nodes, may_act, named, naming-assigned, opened-same}
use Rattle.dom_node_commands.proofs.Handlers.{part_of, refl, refused, sym, word_view}
use Rattle.dom_node_commands.proofs.shadows.assigned.Goals as goal

pub returns-in_err-slot-clause-handled : goal.returns-in_err-slot-clause-handled
returns-in_err-slot-clause-handled g c =
    refused g.A.Answers.adds _ _ _ (Slot c.args.slot ∷ []) _ _ (naming-assigned _ (sym c.is_page.ensures
    ∙ c.if-is_page.false) _) c.in_err-slot.ensures.passed refl
    c.from_residual.ensures.1

pub returns-clause-handled : goal.returns-clause-handled
returns-clause-handled g c =
    let w = c.args.state.now.world in
    let opens = opened-same (λ u. assigned_nodes u (named (part_of u c.args.owner.now) (word_view c.args.slot))) w c.args.owner.now (λ t. refl) in
    asks g.A.Answers.adds (may_act _ _ _ (Slot c.args.slot ∷ []) (naming-assigned _ (sym c.is_page.ensures ∙ c.if-is_page.false) _) c.in_ok-slot.ensures.passed
    refl) _ _ _ (Ok tt) refl refl
    (ap a_list (ap (assigned_nodes w) c.in_ok-slot.ensures.key.name ∙ opens)) (refl, c.open_turn.ensures.world, c.in_ok-reply_assigned.ensures)
