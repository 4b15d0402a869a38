use Rattle.dom_base.proofs.Std.{◌≡◌, ◌||◌, ◌++◌, ◌∷◌, [], cond, false, length, map, slice_get, Some, ap, ◌∙◌, arith}
use Rattle.dom_model.proofs.Model.{name_eq, visit_of}
use Rattle.dom_model.specs.Dispatch.{is_at_target}
use Rattle.dom_path.specs.Definitions.{view_in, view_named}
use Rattle.dom_commands.specs.Visits.{visit_shown}
use Rattle.dom_commands.proofs.Visiting.{bubbled-more, named-there, view-is}
use Rattle.dom_commands.proofs.visits.bubble.Goals as goal

pub loop-at-preserved : goal.loop-at-preserved
loop-at-preserved c =
    let path = c.args.path.now in
    let names = c.args.forest.now.names in
    let i = c.loop-at.at in
    let item = c.index-items-at.result in
    let same : length c.items-at-end.result.now ≡ length path.items = ap length c.items-at-end.ensures.items in
    let v = view_in path.trees path.items item in
    let at : slice_get path.views i ≡ Some v = view-is path.trees path.items path.views c.items.ensures.views i (omega (arith, same)) c.items.ensures.items
    c.index-items-at.is in
    let before = map visit_shown c.loop-at.visits.items in
    let more = before ++ visit_of name_eq false (view_named names v) ∷ [] in
    record {
      visits = bubbled-more (visit_of name_eq false) (map (view_named names) path.views) (map visit_shown c.args.visits.now.items)
          (λ v. c.args.bubbles || is_at_target name_eq v) i (named-there names path.views i v at) c.loop-at.invariant.visits
          (c.in_ok-put_if.ensures.visits v at ∙ ap (λ b. cond b more before) c.is_visited-is_visited.ensures);
      shown = c.in_ok-put_if.ensures.shown;
    }
