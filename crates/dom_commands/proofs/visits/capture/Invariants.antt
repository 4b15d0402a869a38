use Rattle.dom_base.proofs.Std.{◌≡◌, ◌≤◌, ◌++◌, true, drop, length, map, reverse}
use Rattle.dom_model.proofs.Model.{name_eq, visit_of}
use Rattle.dom_path.specs.Definitions.{view_named}
use Rattle.dom_commands.specs.Visits.{visit_shown, IsShownOf}
use Rattle.dom_commands.proofs.visits.capture.Given as goal

abbrev pub invariant-loop-at : goal.invariant-loop-at
invariant-loop-at l = record {
  within : l.at ≤ length l.path.items;
  visits : map visit_shown l.visits.items ≡ map visit_shown l.fn.visits.items ++
      map (visit_of name_eq true) (reverse (drop l.at (map (view_named l.forest.names) l.path.views)));
  shown : IsShownOf l.forest.names l.path l.shown;
}

abbrev pub decreases-loop-at : goal.decreases-loop-at
decreases-loop-at l = l.at
