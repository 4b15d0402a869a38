use Rattle.dom_query_commands.proofs.Cited.{[], ◌∙◌, ◌∷◌, ◌≡◌, a_truth, answers, ap, DocState, Element, may_act, named, namings, one_there, part_of}
use Rattle.dom_query_commands.proofs.Cited.{passes, reads, refl, refused, selector_matches, selector_view, subst, sym, true, word_view, World}
use Rattle.dom_model.specs.Tree.{has_node}
use Rattle.dom_admission.specs.Handled.{IsDone}
use Rattle.dom_query_commands.proofs.Cited.{None, opening_turn, replied, says}
use Rattle.dom_query_commands.proofs.SelectorLaws.{read_as, read_none}
use Rattle.dom_query_commands.proofs.selecting.matches.Goals as goal

pub returns-in_err-admit-clause-handled : goal.returns-in_err-admit-clause-handled
returns-in_err-admit-clause-handled g c =
    refused g.A.Answers.adds _ _ _ (Element c.args.element ∷ []) _ _ (search namings) c.admit.ensures c.in_err-admit.was c.from_residual.ensures.1

pub returns-clause-handled : goal.returns-clause-handled
returns-clause-handled g c =
    let text = c.args.text.items in
    let selector = selector_view c.at-selector.result.now in
    let read = sym c.in_ok-place.ensures.read ∙ c.at-selector.ensures in
    let none = read_none text text selector refl read in
    let is = read_as text text selector refl read in
    let world = ap (λ (d : DocState). d.world) c.state.view_is in
    let truth = subst (λ (w : World). c.is_selected-truth.result ≡ selector_matches (part_of w c.args.owner).trees selector
    (named (part_of w c.args.owner) (word_view c.args.element))) world c.is_selected-truth.ensures in
    let done = subst (λ (w : World). IsDone g.A.Answers.adds None (
      opening_turn w c.args.owner,
      says c.args.owner (replied
          (a_truth c.is_selected-truth.result)) ∷ [],
    ) w
    c.accept.new.self.world c.args.out.now c.accept.new.out c.accept.result) world c.accept.ensures.done in
    reads g.A.Answers.adds (may_act _ _ _ (Element c.args.element ∷ []) (search namings) c.admit.ensures c.in_ok-admit.was) _ _ _ _ none refl
    (ap (answers _) (ap a_truth (rw is at truth))) done

pub is_selected-truth-requires : goal.is_selected-truth-requires
is_selected-truth-requires g c =
    let world = ap (λ (d : DocState). d.world) c.state.view_is in
    subst (λ (w : World). has_node (part_of w c.args.owner).trees (named (part_of w c.args.owner) (word_view c.args.element)) ≡ true) (sym world)
    (one_there (passes c.args.state.now.world c.args.owner (Element c.args.element ∷ []) c.admit.ensures c.in_ok-admit.was))
