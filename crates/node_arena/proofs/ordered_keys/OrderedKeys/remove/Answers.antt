use Rattle.std.proofs.Common.{◌≡◌, [], ℕ, List, length, set, refl, sym, ◌∙◌, ap, arith}
use Rattle.std.specs.List.{concat, remove}
use Rattle.std.proofs.lemmas.List.Edits.{length-remove}
use Rattle.node_arena.specs.Nodes.{place_in, without}
use Rattle.node_arena.specs.Blocks.{block_of, IsOnly}
use Rattle.node_arena.proofs.Lists.{without-absent}
use Rattle.node_arena.proofs.BlockLists.{length-concat_set, remove-place, without-only}
use Rattle.node_arena.proofs.ordered_keys.OrderedKeys.remove.Goals as goal

pub returns-in_default : goal.returns-in_default
returns-in_default c =
    let absent = rw (c.as_slice.ensures.value, c.self.view_is) at (c.in_default.ensures.absent refl) in
    sym (without-absent c.args.key c.args.self.now absent)

pub take_from-requires-clause-there : goal.take_from-requires-clause-there
take_from-requires-clause-there c = rw c.as_slice.ensures.value at (c.in-Some.ensures.there (c.in-Some.number, c.in-Some.place) refl)

pub overflow_sub-self : goal.overflow_sub-self
overflow_sub-self c =
    let within = rw c.as_slice.ensures.value at (c.in-Some.ensures.there (c.in-Some.number, c.in-Some.place) refl) in
    omega (arith, within.1, length-concat_set c.self.inside.blocks.items c.in-Some.number [] within.0, c.self.invariant.counted)

pub invariant_of-self : goal.invariant_of-self
invariant_of-self c =
    let blocks = c.self.inside.blocks.items in
    let within = rw c.as_slice.ensures.value at (c.in-Some.ensures.there (c.in-Some.number, c.in-Some.place) refl) in
    let left = remove (block_of blocks c.in-Some.number) c.in-Some.place in
    record {
      are_numbered = c.take_from.ensures.numbered;
      filled = c.take_from.ensures.filled;
      counted = omega (
        arith,
        ap (length {A = ℕ}) c.take_from.ensures.taken,
        length-concat_set blocks c.in-Some.number left within.0,
        length-remove (block_of blocks c.in-Some.number) c.in-Some.place within.1,
        c.self.invariant.counted,
      );
      few = omega (arith, c.self.invariant.few);
    }

pub returns : goal.returns
returns c =
    let blocks = c.self.inside.blocks.items in
    let only : IsOnly blocks c.in-Some.number c.args.key =
    rw c.as_slice.ensures.value at (c.in-Some.ensures.only (c.in-Some.number, c.in-Some.place) refl) in
    let place : c.in-Some.place ≡ place_in (block_of blocks c.in-Some.number) c.args.key =
    rw c.as_slice.ensures.value at (c.in-Some.ensures.place (c.in-Some.number, c.in-Some.place) refl) in
    let left : remove (block_of blocks c.in-Some.number) c.in-Some.place ≡ without c.args.key (block_of blocks c.in-Some.number) =
    ap (remove (block_of blocks c.in-Some.number)) place
    ∙ remove-place (block_of blocks c.in-Some.number) c.args.key (c.self.invariant.are_numbered.once c.in-Some.number) only.found in
    c.take_from.ensures.taken
    ∙ (ap (λ (xs : List ℕ). concat (set blocks c.in-Some.number xs)) left
    ∙ (without-only blocks c.in-Some.number c.args.key only ∙ ap (without c.args.key) c.self.view_is))
