use Rattle.std.proofs.Common.{◌≡◌, ◌<◌, length, get_or, sym, ◌∙◌}
use Rattle.std.proofs.lemmas.Bool.{eqb-true, ltb-true}
use Rattle.std.proofs.lemmas.List.{get_or_default}
use Rattle.std.proofs.lemmas.Option.{same_Some}
use Rattle.node_arena.proofs.BlockLists.{place_in-once, contains-at}
use Rattle.node_arena.proofs.block.Block.find.Goals as goal

pub returns-in-Some-clause-found : goal.returns-in-Some-clause-found
returns-in-Some-clause-found c i is =
    let xs = c.deref.result.now in
    let place = c.get-found.result in
    let same = c.deref.ensures.value in
    let within : place < length xs = ltb-true place (length xs) (sym c.in-Some.ensures.lookup.0) in
    let here : get_or xs place 0 ≡ c.args.key =
    get_or_default xs place 0 c.in-Some.kept.now within
    ∙ (sym c.in-Some.ensures.lookup.1 ∙ eqb-true c.in-Some.kept.now c.args.key (sym c.eq.ensures ∙ c.if-eq.true)) in
    let all : xs ≡ c.args.self.now = same ∙ c.self.view_is in
    rw (← all) (
      contains-at xs place c.args.key within here,
      sym (same_Some _ _ is) ∙ sym (place_in-once xs place c.args.key (rw (← all) at c.requires.once) within here),
    )
