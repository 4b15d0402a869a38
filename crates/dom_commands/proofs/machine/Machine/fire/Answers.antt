use Rattle.dom_commands.proofs.Cited.{List, All, map, rules, sym, ap, subst, ◌∙◌, AllByRecursion, LogLine, event_words, line_in, AreNumbered}
use Rattle.dom_commands.proofs.Cited.{ℕ, NamesNodes, line_shown, IsListenerAt, machine_now}
use Rattle.dom_model.proofs.Model.{Listener}
use Rattle.dom_commands.proofs.EventLines.{dispatch-lines, line_nodes, every}
use Rattle.dom_commands.proofs.Firing.{fired}
use Rattle.dom_commands.proofs.machine.Machine.fire.Goals as goal

pub dispatch_in_world-requires-clause-slots : goal.dispatch_in_world-requires-clause-slots
dispatch_in_world-requires-clause-slots g c = c.forest_and_slots.ensures.slots

pub put_lines-requires-clause-nodes : goal.put_lines-requires-clause-nodes
put_lines-requires-clause-nodes g c =
    let names = c.forest_and_slots.result.0.now.names in
    let keys = c.in_ok-outcome.ensures.keys in
    subst (All (λ (l : LogLine). NamesNodes names (line_in l))) (sym c.as_slice.ensures.value)
    (every (λ (l : LogLine). NamesNodes names (line_in l)) c.in_ok-outcome.outcome.lines.items
    (line_nodes names c.in_ok-outcome.outcome.lines.items
    (subst (AllByRecursion (NamesNodes names)) (sym keys.lines)
    (dispatch-lines names (event_words c.args.event) c.self.inside.listeners keys.shown keys.nodes))))

pub put_lines-requires-clause-numbered : goal.put_lines-requires-clause-numbered
put_lines-requires-clause-numbered g c = subst AreNumbered (sym c.as_slice.ensures.value) c.in_ok-outcome.ensures.numbered

pub returns : goal.returns
returns g c =
    let all = fired c.args.target c.args.event.related c.self.inside.state c.args.self.now c.in_ok-outcome.ensures.keys c.in_ok-outcome.ensures.names (record {
      seen = c.self.view_is;
      sound = c.requires.sound;
      names = c.forest_and_slots.ensures.names;
      there = c.law_names_tell_nodes.ensures.there;
      shown = c.forest_and_slots.ensures.shown;
    }) in
    let names = c.forest_and_slots.result.0.now.names in
    record {
      world = ap (λ (ls : List (Listener ℕ)). (machine_now c.self.inside.state ls).world) c.reuse.ensures ∙ all.1;
      told = subst (λ os. g.A.Answers.adds c.args.out.now os c.put_lines.new.out) (ap (map (line_shown names)) c.as_slice.ensures.value ∙ all.2)
          c.in_ok-put_lines.ensures;
      answer = all.3;
      names = search rules;
      listeners = subst (AllByRecursion (IsListenerAt c.self.inside.state.names)) (sym c.reuse.ensures) all.0;
    }
