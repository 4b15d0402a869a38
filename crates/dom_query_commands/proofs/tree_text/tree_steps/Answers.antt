-- Each turn puts the step at the place, and goes to the next one, until the tree closes.
use Rattle.dom_query_commands.proofs.Cited.{◌<◌, ◌++◌, ◌∷◌, [], length, sym, ap, subst, ◌∙◌, arith, append_assoc, option_map, map-append, append_cancel_right}
use Rattle.dom_query_commands.proofs.Cited.{same_Some, subtree, TreeStep, name_at, step_view, steps_view, shown_steps}
use Rattle.dom_query_commands.specs.TreeText.{key_of, place_view}
use Rattle.dom_query_commands.proofs.Places.{rest_behind, rest_or, within_self, turn}
use Rattle.dom_query_commands.proofs.tree_text.tree_steps.Goals as goal

pub loop-place-init : goal.loop-place-init
loop-place-init c =
    let names = c.args.forest.now.names in
    let ts = c.args.forest.now.trees in
    let law = c.law_nodes_stand_once.ensures in
    record {
      node = λ place e. subst (λ p. key_of p < length names) (same_Some _ place e) c.requires;
      within = within_self names ts c.args.top law.once law.only c.requires;
      so_far = ap (λ items. steps_view items ++
          (shown_steps (subtree ts (name_at names c.args.top)) ++ rest_behind ts (name_at names c.args.top))) c.new-steps.ensures.items;
    }

pub loop-place-smaller : goal.loop-place-smaller
loop-place-smaller c =
    let law = c.law_nodes_stand_once.ensures in
    let next = turn _ _ (name_at c.args.forest.now.names c.args.top) c.in-Some.at c.loop-place.place c.after-place.result
    (step_view c.in_ok-step.field-0) law.once law.only (c.loop-place.invariant.node c.in-Some.at c.in-Some.is) c.in-Some.is c.loop-place.invariant.within
    c.after-place.ensures.value c.in_ok-step.ensures in
    omega (arith, ap (length {A = TreeStep}) next.0)

pub loop-place-preserved : goal.loop-place-preserved
loop-place-preserved c =
    let names = c.args.forest.now.names in
    let ts = c.args.forest.now.trees in
    let law = c.law_nodes_stand_once.ensures in
    let next = turn names ts (name_at names c.args.top) c.in-Some.at c.loop-place.place c.after-place.result (step_view c.in_ok-step.field-0) law.once law.only
    (c.loop-place.invariant.node c.in-Some.at c.in-Some.is) c.in-Some.is c.loop-place.invariant.within c.after-place.ensures.value c.in_ok-step.ensures in
    let behind = rest_or ts (name_at names c.args.top) (option_map (place_view names) c.after-place.result) in
    record {
      node = c.after-place.ensures.node;
      within = next.1;
      so_far = ap (λ items. steps_view items ++ behind) c.in_ok-push.ensures.items
          ∙ (ap (λ steps. steps ++ behind) (map-append step_view c.loop-place.steps.items (c.in_ok-step.field-0 ∷ []))
          ∙ (append_assoc (steps_view c.loop-place.steps.items) (step_view c.in_ok-step.field-0 ∷ []) behind
          ∙ (ap (λ steps. steps_view c.loop-place.steps.items ++ steps) (sym next.0) ∙ c.loop-place.invariant.so_far)));
    }

pub returns : goal.returns
returns c =
    let names = c.args.forest.now.names in
    let ts = c.args.forest.now.trees in
    let behind = rest_behind ts (name_at names c.args.top) in
    append_cancel_right (steps_view c.loop-place.steps.items) (shown_steps (subtree ts (name_at names c.args.top))) behind
    (sym (ap (λ place. steps_view c.loop-place.steps.items ++ rest_or ts (name_at names c.args.top) (option_map (place_view names) place))
    c.in_default.is) ∙ c.loop-place.invariant.so_far)
