use Rattle.dom_base.proofs.Std.{on_ok_weaker, IfOk}
use Rattle.dom_commands.proofs.Cited.{◌≡◌, List, not, subst}
use Rattle.dom_model.proofs.Model.{is_empty, Change, NodeName}
use Rattle.dom_commands.proofs.ToldOwners.{there_in, records_in, queue_in, both_ok, telling_world, telling_sound}
use Rattle.dom_commands.proofs.machine.Machine.tell_observer.Goals as goal

pub tell_observer-requires : goal.tell_observer-requires
tell_observer-requires g c =
    there_in c.self.inside.state c.self.inside.listeners c.args.self.now c.self.view_is c.requires.sound c.law_names_tell_nodes.ensures.there
    c.args.owner.now c.requires.there

pub returns-clause-told : goal.returns-clause-told
returns-clause-told g c =
    on_ok_weaker c.tell_observer.result (subst (λ os. g.A.Answers.adds c.args.out.now os c.tell_observer.new.out)
    (records_in c.self.inside.state c.self.inside.listeners c.args.self.now c.self.view_is c.requires.sound c.law_names_tell_nodes.ensures.there
    c.args.owner.now c.args.observer)) c.tell_observer.ensures.told

pub returns-clause-any : goal.returns-clause-any
returns-clause-any g c =
    subst (λ (q : List (Change NodeName)). IfOk c.tell_observer.result (λ any. any ≡ not (is_empty q)))
    (queue_in c.self.inside.state c.self.inside.listeners c.args.self.now c.self.view_is c.requires.sound c.law_names_tell_nodes.ensures.there
    c.args.owner.now c.args.observer) c.tell_observer.ensures.any

pub returns-clause-world : goal.returns-clause-world
returns-clause-world g c =
    both_ok c.tell_observer.result
    (telling_world c.self.inside.state c.self.inside.listeners c.args.self.now c.self.view_is c.requires.sound c.law_names_tell_nodes.ensures.there
    c.args.owner.now c.tell_observer.new.state c.requires.there c.args.observer)
    c.tell_observer.ensures.names c.tell_observer.ensures.world

pub returns-clause-sound : goal.returns-clause-sound
returns-clause-sound g c =
    both_ok c.tell_observer.result
    (telling_sound c.self.inside.state c.self.inside.listeners c.args.self.now c.self.view_is c.requires.sound c.law_names_tell_nodes.ensures.there
    c.args.owner.now c.tell_observer.new.state c.requires.there c.args.observer)
    c.tell_observer.ensures.names c.tell_observer.ensures.world
