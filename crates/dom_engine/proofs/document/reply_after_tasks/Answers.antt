use Rattle.dom_base.proofs.Std.{on_ok_weaker}
use Rattle.dom_answers.specs.Told.{told}
use Rattle.dom_engine.specs.Documents.{turnless}
use Rattle.dom_engine.proofs.DocumentCalls.{ended-told, ended-world, on_ok-holds}
use Rattle.dom_engine.proofs.document.reply_after_tasks.Goals as goal

pub returns-clause-told : goal.returns-clause-told
returns-clause-told c =
    on_ok_weaker c.reply.result (ended-told c.args.machine.now.world c.args.waiting.now c.args.owner.now c.requires.there (told c.args.answer.now)
    (told c.run_tasks.new.answer) (told c.reply.new.self) c.in_ok-run_tasks.ensures.told) c.reply.ensures.ok

pub returns-clause-world : goal.returns-clause-world
returns-clause-world c =
    on_ok-holds c.reply.result (ended-world c.args.machine.now.world c.args.waiting.now c.args.owner.now c.requires.there
    (turnless c.run_tasks.new.machine.world c.run_tasks.new.waiting) c.in_ok-run_tasks.ensures.world)
