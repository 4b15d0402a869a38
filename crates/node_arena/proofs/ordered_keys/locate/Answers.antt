use Rattle.std.proofs.Common.{◌≡◌, [], List, ℕ, true, length, get_or, sym, ap, ◌∙◌, arith}
use Rattle.std.specs.Prelude.{slice_get}
use Rattle.std.proofs.lemmas.Bool.{both_ways, ltb-true}
use Rattle.std.proofs.lemmas.List.{get_or_default}
use Rattle.std.proofs.lemmas.Option.{get_or_from_slice_get, slice_get_within}
use Rattle.node_arena.specs.Nodes.{contains}
use Rattle.node_arena.specs.Blocks.{block_of, IsNumbered}
use Rattle.node_arena.proofs.BlockLists.{absent_from, block_within}
use Rattle.node_arena.proofs.ordered_keys.locate.Goals as goal

pub find-requires : goal.find-requires
find-requires c =
    let blocks = c.args.blocks.now in
    let number = c.in_ok-number.field-0.now in
    let within = ltb-true number (length blocks) (sym c.in_ok-get.ensures.lookup.0) in
    let block : c.in_ok-get.field-0.now ≡ block_of blocks number =
    c.in_ok-get.ensures.lookup.1 ∙ get_or_default blocks number c.in_ok-get.field-0.now [] within in
    rw block record { once = c.requires.once number }

pub returns-in_err-number-clause-absent : goal.returns-in_err-number-clause-absent
returns-in_err-number-clause-absent c none = absent_from c.args.blocks.now c.args.key (λ b found.
    let within = slice_get_within c.args.numbers.now c.args.key b (c.requires.numbered b c.args.key found) in
    absurd (omega (arith, within, c.key.view_is, c.in_err-number.ensures.lookup.3)))

-- the number that is read for a key of a block is that of the block
number_read : {blocks : List (List ℕ)} {numbers : List ℕ} → IsNumbered blocks numbers → (b key : ℕ) → contains (block_of blocks b) key ≡ true →
    {index x : ℕ} → index ≡ key → x ≡ get_or numbers index x → x ≡ b
number_read {numbers} numbered b key found {index} {x} same read =
    read ∙ get_or_from_slice_get numbers index b x (ap (slice_get numbers) same ∙ numbered.numbered b key found)

pub returns-in_err-get-clause-absent : goal.returns-in_err-get-clause-absent
returns-in_err-get-clause-absent c none = absent_from c.args.blocks.now c.args.key (λ b found.
    let number = number_read c.requires b c.args.key found c.key.view_is c.in_ok-number.ensures.lookup.1 in
    absurd (omega (arith, number, block_within c.args.blocks.now b c.args.key found, c.in_err-get.ensures.lookup.3)))

pub returns-in_err-place-clause-absent : goal.returns-in_err-place-clause-absent
returns-in_err-place-clause-absent c none = absent_from c.args.blocks.now c.args.key (λ b found.
    let number = number_read c.requires b c.args.key found c.key.view_is c.in_ok-number.ensures.lookup.1 in
    let within = block_within c.args.blocks.now b c.args.key found in
    let block : c.in_ok-get.field-0.now ≡ block_of c.args.blocks.now b =
    c.in_ok-get.ensures.lookup.1
    ∙ (get_or_default c.args.blocks.now c.in_ok-number.field-0.now c.in_ok-get.field-0.now [] (omega (arith, number, within))
    ∙ ap (block_of c.args.blocks.now) number) in
    both_ways _ (c.find.ensures.absent c.in_err-place.was) (ap (λ (xs : List ℕ). contains xs c.args.key) block ∙ found))
