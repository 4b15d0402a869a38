use Rattle.dom_query_commands.proofs.Cited.{[], ◌∙◌, ◌∷◌, ◌≡◌, a_list, answers, ap, Complex, DocState, List, may_act, named, namings, Ok, one_there}
use Rattle.dom_query_commands.proofs.Cited.{opening_turn, Parent, part_of, passes, query_all, reads, refl, refused, replied, says}
use Rattle.dom_query_commands.proofs.Cited.{selector_view, subst, sym, true, word_view, World}
use Rattle.dom_model.specs.Tree.{has_node}
use Rattle.dom_query_commands.proofs.SelectorLaws.{read_as, read_none}
use Rattle.dom_query_commands.proofs.selecting.query.Goals as goal

pub returns-in_err-admit-clause-handled : goal.returns-in_err-admit-clause-handled
returns-in_err-admit-clause-handled g c =
    refused g.A.Answers.adds _ _ _ (Parent c.args.node ∷ []) _ _ (search namings) c.admit.ensures c.in_err-admit.was c.from_residual.ensures.1

pub returns-clause-handled : goal.returns-clause-handled
returns-clause-handled g c =
    let text = c.args.text.items in
    let selector = selector_view c.at-selector.result.now in
    let read = sym c.in_ok-place.ensures.read ∙ c.at-selector.ensures in
    let none = read_none text text selector refl read in
    let is = read_as text text selector refl read in
    let world = ap (λ (d : DocState). d.world) c.state.view_is in
    let own = part_of c.args.state.now.world c.args.owner in
    reads g.A.Answers.adds (may_act _ _ _ (Parent c.args.node ∷ []) (search namings) c.admit.ensures c.in_ok-admit.was) _ _ _ (Ok tt) none refl
    (ap (answers _) (ap (λ (s : List Complex). a_list (query_all own.trees s (named own (word_view c.args.node)))) is)) (
      refl,
      c.open_turn.ensures.world ∙ ap (λ (w : World). opening_turn w c.args.owner) world,
      subst (λ (w : World). g.A.Answers.adds c.args.out.now (says c.args.owner (replied (a_list
          (query_all (part_of w c.args.owner).trees selector (named (part_of w c.args.owner) (word_view c.args.node))))) ∷ [])
          c.reply_selected.new.out) world c.in_ok-reply_selected.ensures,
    )

pub reply_selected-requires : goal.reply_selected-requires
reply_selected-requires g c =
    let world = ap (λ (d : DocState). d.world) c.state.view_is in
    subst (λ (w : World). has_node (part_of w c.args.owner).trees (named (part_of w c.args.owner) (word_view c.args.node)) ≡ true) (sym world)
    (one_there (passes c.args.state.now.world c.args.owner (Parent c.args.node ∷ []) c.admit.ensures c.in_ok-admit.was))
