use Rattle.dom_admission.proofs.Cited.{◌∙◌, ap, sym, is_some, word_view, accepts_node}
use Rattle.dom_model.proofs.Model.{named, part_of}
use Rattle.dom_admission.proofs.Finding.{no_node-absent}
use Rattle.dom_admission.proofs.Admitting.{kind_by_word, fit_by_word}
use Rattle.dom_admission.proofs.state.State.is_fit.Goals as goal

pub is_kind_at-requires : goal.is_kind_at-requires
is_kind_at-requires c = (c.find.ensures.found c.in-Some-find.key c.in-Some-find.is).0

pub returns-in-Some-find : goal.returns-in-Some-find
returns-in-Some-find c =
    c.is_kind_at.ensures ∙ kind_by_word c.args.self.now c.args.owner c.args.named _ c.in-Some.node (sym c.node.ensures ∙ c.in-Some.is)
    (c.find.ensures.found c.in-Some-find.key c.in-Some-find.is).1

pub returns-in-None : goal.returns-in-None
returns-in-None c =
    let p = part_of c.args.self.now.world c.args.owner in
    let x = named p (word_view c.in-Some.node) in
    c.accepts.ensures ∙ ap (accepts_node c.args.named) (no_node-absent p.trees x (sym c.find.ensures.presence ∙ ap is_some c.in-None.is))
    ∙ sym (fit_by_word p c.args.named c.in-Some.node (sym c.node.ensures ∙ c.in-Some.is))
