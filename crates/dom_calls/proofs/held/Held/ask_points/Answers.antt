-- What the reply says is given, or why there is none.
use Rattle.dom_base.proofs.Std.{◌≡◌, List, rules, subst}
use Rattle.std.specs.Prelude.{IfSome}
use Rattle.dom_base.specs.declared.Owner.{Owner}
use Rattle.dom_model.specs.Output.{boundaries}
use Rattle.dom_calls.specs.Values.{point_in}
use Rattle.dom_answers.specs.Arrays.{value_of}
use Rattle.dom_calls.proofs.Giving.{gives-fault, gives-found}
use Rattle.dom_calls.proofs.held.Held.ask_points.Goals as goal

pub returns-in-Ok : goal.returns-in-Ok
returns-in-Ok c =
    let mid = c.call.new.self in
    let table : c.deref.result.now ≡ mid.owners = search rules in
    let v = value_of mid.answer.arrays c.in-Ok.reply in
    let shows =
    subst (λ (os : List Owner). IfSome c.points_in-found.result (λ x. v ≡ boundaries (point_in os x.0) (point_in os x.1))) table
    (c.points_in-found.ensures mid.answer.arrays) in
    gives-found mid c.or_fail.new.self c.call.result c.in-Ok.reply c.or_fail.result c.call.ensures.ok c.points_in-found.result c.in-Ok.is shows
    c.or_fail.ensures.some c.or_fail.ensures.none

pub returns-in-Err : goal.returns-in-Err
returns-in-Err c = gives-fault c.in-Err.fault c.call.result c.in-Err.is c.call.ensures.refused c.call.ensures.memory
