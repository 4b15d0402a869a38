use Rattle.std.proofs.Common.{◌≡◌, ◌<◌, ℕ, List, Some, [], length, take, add-one, sym, ap, ◌∙◌, arith, take_all}
use Rattle.std.specs.List.{concat}
use Rattle.std.specs.Prelude.{slice_get}
use Rattle.std.proofs.lemmas.Bool.{ltb-true}
use Rattle.std.proofs.lemmas.List.{get_or_default}
use Rattle.std.proofs.lemmas.Option.{slice_get_past, slice_get-get_or}
use Rattle.node_arena.specs.Blocks.{block_of}
use Rattle.node_arena.proofs.BlockLists.{length-concat_more}
use Rattle.node_arena.proofs.NthChild.{get-concat}
use Rattle.node_arena.proofs.ordered_keys.key_at.Goals as goal

pub returns-in-Some : goal.returns-in-Some
returns-in-Some c =
    let blocks = c.args.blocks.now in
    let n = c.loop-number.number in
    let left = c.loop-number.left in
    let number : n < length blocks = omega arith in
    let keys : c.keys-keys.result.now ≡ block_of blocks n =
    c.keys-keys.ensures ∙ (c.index-blocks-number.is ∙ sym (get_or_default blocks n [] c.index-blocks-number.result number)) in
    let within : left < length c.keys-keys.result.now = ltb-true left (length c.keys-keys.result.now) (sym c.in-Some.ensures.lookup.0) in
    let here : slice_get c.keys-keys.result.now left ≡ Some c.in-Some.key.now =
    slice_get-get_or c.keys-keys.result.now left c.in-Some.key.now within ∙ ap Some (sym c.in-Some.ensures.lookup.1) in
    sym (ap (slice_get (concat blocks)) (sym c.loop-number.invariant)
    ∙ (get-concat blocks n left number (rw keys at within) ∙ (ap (λ (xs : List ℕ). slice_get xs left) (sym keys) ∙ here)))

pub loop-number-preserved : goal.loop-number-preserved
loop-number-preserved c =
    let blocks = c.args.blocks.now in
    let n = c.loop-number.number in
    let number : n < length blocks = omega arith in
    let keys : c.keys-keys.result.now ≡ block_of blocks n =
    c.keys-keys.ensures ∙ (c.index-blocks-number.is ∙ sym (get_or_default blocks n [] c.index-blocks-number.result number)) in
    rw add-one (omega (arith, c.loop-number.invariant, length-concat_more blocks n number, ap (length {A = ℕ}) keys, c.in_default.ensures.lookup.3))

pub returns : goal.returns
returns c =
    let blocks = c.args.blocks.now in
    let all : take c.loop-number.number blocks ≡ blocks = take_all c.loop-number.number blocks (omega arith) in
    sym (slice_get_past (concat blocks) c.args.place (omega (arith, c.loop-number.invariant, ap (λ bs. length (concat bs)) all)))
