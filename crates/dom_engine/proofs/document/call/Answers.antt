use Rattle.dom_base.proofs.Std.{sym, on_ok_weaker}
use Rattle.dom_reader.specs.Views.{command_view}
use Rattle.dom_answers.specs.Told.{told}
use Rattle.dom_engine.proofs.DocumentCalls.{on_ok-both, call-told, call-world, ready-after}
use Rattle.dom_engine.proofs.document.call.Goals as goal

pub returns-clause-told : goal.returns-clause-told
returns-clause-told c =
    let made = c.in_ok-make_way.ensures in
    on_ok_weaker c.answer.result (call-told c.args.machine.now.world c.make_way.new.machine.world c.args.waiting.now c.make_way.new.waiting made.world
    c.args.owner.now (command_view c.args.command.now) made.ended made.calm (sym c.if-is_checkpoint.ensures) (told c.args.answer.now) (told c.answer.new.out))
    c.answer.ensures.told

pub returns-clause-world : goal.returns-clause-world
returns-clause-world c =
    let made = c.in_ok-make_way.ensures in
    on_ok_weaker c.answer.result (call-world c.args.machine.now.world c.make_way.new.machine.world c.args.waiting.now c.make_way.new.waiting made.world
    c.args.owner.now (command_view c.args.command.now) made.ended made.calm (sym c.if-is_checkpoint.ensures) c.answer.new.self.world) c.answer.ensures.world

pub returns-clause-ready : goal.returns-clause-ready
returns-clause-ready c =
    on_ok-both c.answer.result (ready-after c.make_way.new.machine.world c.make_way.new.waiting c.args.owner.now (command_view c.args.command.now)
    c.answer.new.self c.in_ok-make_way.ensures.ready.there) c.answer.ensures.sound c.answer.ensures.world
