use Rattle.dom_commands.proofs.Cited.{◌≡◌, List, None, sym, ap, ◌∙◌, option_map, event_view, word_view, name_at, event_words, MachineNow}
use Rattle.dom_model.proofs.Model.{NodeName, Command, named, dispatch_in, refusal, opening_turn, part_of}
use Rattle.dom_commands.proofs.Admitting.{refused_line, unrefused_line, unrefused_there}
use Rattle.dom_commands.proofs.EventCommands.{stopped, refusal-seen}
use Rattle.dom_commands.proofs.Opening.{HasDispatched, opened_name, opened_names, dispatch_handled}
use Rattle.dom_commands.proofs.machine.Machine.dispatch.Goals as goal

pub returns-in_err-admit_event-clause-handled : goal.returns-in_err-admit_event-clause-handled
returns-in_err-admit_event-clause-handled g c =
    let s = c.self.inside.state in
    let said = Command.dispatch (word_view c.args.target) (event_view c.args.event) (option_map word_view c.args.related) in
    stopped s c.self.inside.listeners c.args.self.now c.self.view_is c.requires c.law_names_tell_nodes.ensures.there c.args.owner said
    g.A.Answers.adds c.args.out.now c.in_err-admit_event.field-0.0 c.from_residual.result c.from_residual.ensures.1
    (refused_line g.A.Answers.adds s.world c.args.owner said c.args.out.now c.from_residual.result
    (sym (c.admit_event.ensures.refusal (event_view c.args.event)) ∙ c.in_err-admit_event.was) c.from_residual.ensures.1)

pub open_turn-requires-clause-owner_is_there : goal.open_turn-requires-clause-owner_is_there
open_turn-requires-clause-owner_is_there g c =
    let said = Command.dispatch (word_view c.args.target) (event_view c.args.event) (option_map word_view c.args.related) in
    unrefused_there c.args.self.now.world c.args.owner said
    (refusal-seen c.self.inside.state c.self.inside.listeners c.args.self.now c.self.view_is c.requires c.law_names_tell_nodes.ensures.there c.args.owner said
    ∙ unrefused_line _ (sym (c.admit_event.ensures.refusal (event_view c.args.event)) ∙ c.in_ok-admit_event.was))

pub returns-clause-handled : goal.returns-clause-handled
returns-clause-handled g c =
    let s = c.self.inside.state in
    let m = c.args.self.now in
    let o = c.args.owner in
    let x = word_view c.args.target in
    let e = event_view c.args.event in
    let related = option_map word_view c.args.related in
    let said = Command.dispatch x e related in
    let none : refusal m.world o said ≡ None =
    refusal-seen s c.self.inside.listeners m c.self.view_is c.requires c.law_names_tell_nodes.ensures.there o said
    ∙ unrefused_line _ (sym (c.admit_event.ensures.refusal e) ∙ c.in_ok-admit_event.was) in
    let opened = c.open_turn.new.self in
    let init = c.event_init.result in
    let p = part_of (opening_turn m.world o) o in
    let names : opened.names ≡ s.names = c.open_turn.ensures.names ∙ sym (ap (λ (n : MachineNow). n.names) c.self.view_is) in
    let target : name_at opened.names c.key-target.result ≡ named p x =
    ap (λ (ns : List NodeName). name_at ns c.key-target.result) names ∙ c.key-target.ensures.name ∙ opened_name s.world m.world o x in
    let other : option_map (name_at opened.names) init.related ≡ option_map (named p) related =
    ap (option_map (name_at opened.names)) c.event_init.ensures.related ∙ ap (λ (ns : List NodeName). option_map (name_at ns) c.key_of-related.result) names
    ∙ c.key_of-related.ensures.name ∙ opened_names s.world m.world o c.args.related in
    let d = dispatch_in opened.world (name_at opened.names c.key-target.result) (option_map (name_at opened.names) init.related) (event_words init) in
    let same : d ≡ dispatch_in (opening_turn m.world o) (named p x) (option_map (named p) related) e =
    λ j. dispatch_in (c.open_turn.ensures.world j) (target j) (other j) (c.event_init.ensures.words j) in
    let done : HasDispatched g.A.Answers.adds m.world o x e related c.fire.new.self.world c.args.out.now c.reply.new.self = record {
      dispatched = d;
      same = same;
      middle = c.fire.new.out;
      answer = c.in_ok-answer.answer;
      world = c.in_ok-answer.ensures.world;
      told = c.in_ok-answer.ensures.told;
      truth = c.in_ok-answer.ensures.answer;
      ending = c.in_ok-reply.ensures.ok;
    } in
    dispatch_handled g.A.Answers.adds g.met.A.Answers.more done none
