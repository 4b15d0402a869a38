use Rattle.dom_base.proofs.Std.{◌≡◌, ◌||◌, ◌++◌, false, filter, map, take}
use Rattle.dom_model.proofs.Model.{name_eq, visit_of}
use Rattle.dom_model.specs.Dispatch.{is_at_target}
use Rattle.dom_path.specs.Definitions.{view_named}
use Rattle.dom_commands.specs.Visits.{visit_shown, IsShownOf}
use Rattle.dom_commands.proofs.visits.bubble.Given as goal

abbrev pub invariant-loop-at : goal.invariant-loop-at
invariant-loop-at l = record {
  visits : map visit_shown l.visits.items ≡ map visit_shown l.fn.visits.items ++
      map (visit_of name_eq false) (filter (λ v. l.bubbles || is_at_target name_eq v) (take l.at (map (view_named l.forest.names) l.path.views)));
  shown : IsShownOf l.forest.names l.path l.shown;
}
