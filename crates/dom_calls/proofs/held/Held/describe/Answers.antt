-- What the answer tells is the node that was looked at.
use Rattle.dom_base.proofs.Std.{List, refl, sym, ap, ◌∙◌}
use Rattle.std.specs.Prelude.{Ok}
use Rattle.dom_base.specs.declared.Owner.{Owner}
use Rattle.dom_reader.specs.Views.{word_view}
use Rattle.dom_query_commands.specs.Looks.{look_refusal, node_alone, seen_at}
use Rattle.dom_calls.specs.Owners.{owner_in, word_at}
use Rattle.dom_calls.specs.State.{CallState}
use Rattle.dom_calls.proofs.Seeing.{allowed, row-seen, same-read}
use Rattle.dom_calls.proofs.held.Held.describe.Goals as goal

pub returns-in-Ok : goal.returns-in-Ok
returns-in-Ok c =
    let was = c.args.self.now in
    let place = c.args.place in
    let view = c.self.view_is in
    let before = c.self.inside.document.world in
    let owner = c.owner_in-owner.result.now in
    let said = word_view c.word.result in
    let named = word_at place c.args.node in
    let same_world = ap (λ (s : CallState). s.world) view in
    let table = c.deref.ensures.value ∙ ap (λ (s : CallState). s.owners) view in
    let same_owner = c.owner_in-owner.ensures ∙ ap (λ (os : List Owner). owner_in os place) table in
    let passes = allowed c.self.inside.document.has_failed (Ok c.in-Ok.field-0) (look_refusal before owner said) c.in-Ok.ensures.allowed
    c.in-Ok.ensures.failed in
    let refusal = same-read look_refusal before was.world owner (owner_in was.owners place) said named same_world same_owner c.word.ensures in
    let read = same-read (seen_at node_alone) before was.world owner (owner_in was.owners place) said named same_world same_owner c.word.ensures in
    row-seen place c.args.node was _ owner (seen_at node_alone before owner said) (sym c.has_failed.ensures ∙ c.if-has_failed.false)
    (same_world, (ap (λ (s : CallState). s.owners) view, ap (λ (s : CallState). s.has_failed) view)) refl c.in-Ok.ensures.told (sym refusal ∙ passes) read
    c.ok_or.result c.told_row.result c.ok_or.ensures.value c.told_row.ensures.row c.told_row.ensures.parent
