use Rattle.dom_base.proofs.Std.{IfOk}
use Rattle.dom_commands.proofs.Cited.{◌≡◌, true, List, map, subst, ◌∙◌}
use Rattle.dom_model.proofs.Model.{NodeName, Trees, View, has_node, name_eq, views, visits_of}
use Rattle.dom_commands.specs.Visits.{visit_shown}
use Rattle.dom_commands.proofs.HeardNodes.{trees_in}
use Rattle.dom_commands.proofs.Visiting.{visits-world}
use Rattle.dom_commands.proofs.machine.Machine.visits.Goals as goal

pub key_of-target-requires : goal.key_of-target-requires
key_of-target-requires c =
    subst (λ (ts : Trees). has_node ts c.args.target ≡ true)
    (trees_in c.self.inside.state c.self.inside.listeners c.args.self.now c.self.view_is c.requires.sound c.law_names_tell_nodes.ensures.distinct
    c.law_names_tell_nodes.ensures.there c.args.target) c.requires.target

pub key_of_any-related-requires : goal.key_of_any-related-requires
key_of_any-related-requires c x is =
    subst (λ (ts : Trees). has_node ts x ≡ true)
    (trees_in c.self.inside.state c.self.inside.listeners c.args.self.now c.self.view_is c.requires.sound c.law_names_tell_nodes.ensures.distinct
    c.law_names_tell_nodes.ensures.there x) (c.requires.related x is)

pub returns : goal.returns
returns c =
    let m = c.args.self.now in
    let f = c.forest_and_slots.result.0.now in
    let along = visits-world f c.forest_and_slots.result.1.now.hosts c.self.inside.state c.self.inside.listeners m (record {
      seen = c.self.view_is;
      sound = c.requires.sound;
      names = c.forest_and_slots.ensures.names;
      there = c.law_names_tell_nodes.ensures.there;
      shown = c.forest_and_slots.ensures.shown;
    }) c.in_ok-path.path.views c.key_of-target.result c.key_of_any-related.result c.args.composed c.in_ok-path.ensures.views in
    subst (λ (vs : List (View NodeName)). IfOk c.visits_along.result (λ visits. map visit_shown visits.items ≡ visits_of name_eq c.args.bubbles vs))
    (along ∙ (λ j. views m.world (c.key_of-target.ensures.name j) (c.key_of_any-related.ensures.name j) c.args.composed))
    c.visits_along.ensures
