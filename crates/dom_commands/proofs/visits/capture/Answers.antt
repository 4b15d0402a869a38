use Rattle.dom_base.proofs.Std.{◌≡◌, ◌<◌, ◌-◌, ◌++◌, ◌∷◌, [], suc, true, length, map, ap, ◌∙◌, arith, map_push}
use Rattle.dom_model.proofs.Model.{name_eq, visit_of}
use Rattle.dom_path.specs.Definitions.{view_named}
use Rattle.dom_commands.specs.Visits.{visit_shown}
use Rattle.dom_commands.proofs.Visiting.{captured-more, named-there, view-there}
use Rattle.dom_commands.proofs.visits.capture.Goals as goal

pub loop-at-preserved : goal.loop-at-preserved
loop-at-preserved c =
    let path = c.args.path.now in
    let names = c.args.forest.now.names in
    let within : c.loop-at.at - 1 < length path.items = omega (arith, c.loop-at.invariant.within) in
    let next : c.loop-at.at ≡ suc (c.loop-at.at - 1) = omega arith in
    let v = view-there path.trees path.items path.views c.items-at.ensures.views (c.loop-at.at - 1) within in
    let before = map visit_shown c.loop-at.visits.items in
    record {
      within = omega (arith, c.loop-at.invariant.within);
      visits = captured-more (visit_of name_eq true) (map (view_named names) path.views) (map visit_shown c.args.visits.now.items) next
          (named-there names path.views (c.loop-at.at - 1) v.0 v.1) c.loop-at.invariant.visits
          (ap (map visit_shown) c.in_ok-push.ensures.items ∙ map_push visit_shown c.loop-at.visits.items c.in_ok-visit.visit ∙
          ap (λ w. before ++ w ∷ []) (c.in_ok-visit.ensures.visit v.0 v.1));
      shown = c.in_ok-visit.ensures.shown;
    }
