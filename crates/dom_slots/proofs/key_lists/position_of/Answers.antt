use Rattle.dom_base.proofs.Std.{◌+◌, ◌-◌, length, option_map, sym, ap, ◌∙◌}
use Rattle.dom_slots.proofs.key_lists.position_of.Goals as goal

pub returns-in_err-at : goal.returns-in_err-at
returns-in_err-at c =
    c.from_residual.ensures
    ∙ (ap (option_map (λ at. length c.args.list.now - length c.behind_others-rest.result.now + at)) c.in_err-at.ensures.place
    ∙ sym c.behind_others-rest.ensures.place)

pub returns : goal.returns
returns c =
    ap (option_map (λ at. length c.args.list.now - length c.behind_others-rest.result.now + at)) c.in_ok-at.ensures.place
    ∙ sym c.behind_others-rest.ensures.place
