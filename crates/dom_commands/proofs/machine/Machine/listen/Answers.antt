use Rattle.dom_commands.proofs.Cited.{◌∷◌, ◌∙◌, [], ap, nat_eq, Any, listener_view, word_view, may_act, refused, namings}
use Rattle.dom_model.proofs.Model.{Command, with_listener_added}
use Rattle.dom_commands.proofs.EventCommands.{listening, listens_at, listens_in, stopped}
use Rattle.dom_commands.proofs.machine.Machine.listen.Goals as goal

pub returns-in_err-admit-clause-handled : goal.returns-in_err-admit-clause-handled
returns-in_err-admit-clause-handled g c =
    stopped c.self.inside.state c.self.inside.listeners _ c.self.view_is c.requires c.law_names_tell_nodes.ensures.there _ _ g.A.Answers.adds _ _ _
    c.from_residual.ensures.1
    (refused g.A.Answers.adds _ c.args.owner (Command.listen (word_view c.args.node) (listener_view c.args.words)) (Any c.args.node ∷ []) _ _
    (search namings) c.admit.ensures
    c.in_err-admit.was c.from_residual.ensures.1)

pub returns : goal.returns
returns g c =
    let s = c.self.inside.state in
    let ls = c.self.inside.listeners in
    let changing = listening s ls c.args.self.now c.self.view_is c.requires c.law_names_tell_nodes.ensures.distinct c.law_names_tell_nodes.ensures.there
    c.args.owner (word_view c.args.node) c.key-node.result c.key-node.ensures.node c.key-node.ensures.name (listener_view c.args.words)
    (may_act _ _ _ (Any c.args.node ∷ []) (search namings) c.admit.ensures c.in_ok-admit.was) in
    let now = c.in_ok-listen.ensures.ok ∙ ap (λ v. with_listener_added nat_eq c.key-node.result v ls) c.listener_init.ensures in
    record {
      handled = listens_in s c.accept.new.self ls c.listen.new.self changing c.accept.ensures.names now g.A.Answers.adds c.args.self.now c.self.view_is _ _ _
          c.accept.ensures.done;
      listeners = listens_at s c.accept.new.self ls c.listen.new.self changing c.accept.ensures.names now c.accept.result;
    }
