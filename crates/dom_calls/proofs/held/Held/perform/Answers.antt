-- The last item of the answer is what the owner was answered.
use Rattle.dom_base.proofs.Std.{List, ap, refl, ◌∙◌}
use Rattle.dom_base.specs.declared.Owner.{Owner}
use Rattle.dom_reader.specs.Views.{command_view}
use Rattle.dom_calls.specs.Owners.{owner_in}
use Rattle.dom_calls.specs.State.{CallState}
use Rattle.dom_calls.proofs.Lasts.{called-from, does-reply, does-refuse}
use Rattle.dom_calls.proofs.held.Held.perform.Goals as goal

pub returns-in-Some-clause-ok : goal.returns-in-Some-clause-ok
returns-in-Some-clause-ok c =
    let view = c.self.view_is in
    let table = c.deref.ensures.value ∙ ap (λ (s : CallState). s.owners) view in
    let said = command_view c.args.command.now in
    does-reply c.args.place said c.args.self.now _ c.in-Some.ending
    (called-from c.args.place said c.args.self.now _ c.self.inside.document.world c.owner_in-owner.result.now c.call.result c.call.new.self (record {
      laws = c.law_last_is_reply.ensures.command;
      sound = c.requires;
      still = ap (λ (s : CallState). s.has_failed) view;
      ended = refl;
      from = ap (λ (s : CallState). s.world) view;
      owner = c.owner_in-owner.ensures ∙ ap (λ (os : List Owner). owner_in os c.args.place) table;
      ok = c.if-is_err.ensures.value;
      left = refl;
      world = c.call.ensures.world;
      said = c.call.ensures.told;
    }))
    c.in-Some.ensures

pub returns-in-Some-clause-refused : goal.returns-in-Some-clause-refused
returns-in-Some-clause-refused c =
    let view = c.self.view_is in
    let table = c.deref.ensures.value ∙ ap (λ (s : CallState). s.owners) view in
    let said = command_view c.args.command.now in
    does-refuse c.args.place said c.args.self.now _ c.in-Some.ending
    (called-from c.args.place said c.args.self.now _ c.self.inside.document.world c.owner_in-owner.result.now c.call.result c.call.new.self (record {
      laws = c.law_last_is_reply.ensures.command;
      sound = c.requires;
      still = ap (λ (s : CallState). s.has_failed) view;
      ended = refl;
      from = ap (λ (s : CallState). s.world) view;
      owner = c.owner_in-owner.ensures ∙ ap (λ (os : List Owner). owner_in os c.args.place) table;
      ok = c.if-is_err.ensures.value;
      left = refl;
      world = c.call.ensures.world;
      said = c.call.ensures.told;
    }))
    c.in-Some.ensures
