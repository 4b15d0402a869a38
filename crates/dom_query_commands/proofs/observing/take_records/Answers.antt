use Rattle.dom_query_commands.proofs.Cited.{◌∙◌, List, ap, length, refl, subst, sym, Output, a_count, keeps_saying, may_act, refused}
use Rattle.dom_query_commands.proofs.ObserverLaws.{naming-take, record_lines_are}
use Rattle.dom_query_commands.proofs.observing.take_records.Goals as goal

pub returns-in_err-admit-clause-handled : goal.returns-in_err-admit-clause-handled
returns-in_err-admit-clause-handled g c =
    refused g.A.Answers.adds _ _ _ _ _ _ (naming-take c.args.owner c.args.number) c.admit.ensures c.in_err-admit.was c.from_residual.ensures.1

pub returns-clause-handled : goal.returns-clause-handled
returns-clause-handled g c =
    let before = c.args.out.now in
    let records = c.take_records-records.result.items in
    let list = c.as_slice.ensures in
    let names = c.forest-forest.ensures.names ∙ c.take_records-records.ensures.names in
    keeps_saying g.A.Answers.adds _ c.state.inside.doc _ c.state.view_is
    (may_act _ _ _ _ (naming-take c.args.owner c.args.number) c.admit.ensures c.in_ok-admit.was) _ _ _ _ refl refl
    g.met.A.Answers.more c.take_records-records.ensures.world (ap a_count (c.len.ensures ∙ sym list.len ∙ ap length list.value))
    (subst (λ (lines : List Output). g.A.Answers.adds before lines c.put_records.new.out) (record_lines_are c.state.inside.doc c.args.owner c.args.number
    records)
    (rw (list.value, names) at c.in_ok-put_records.ensures))
    c.accept.ensures.done
