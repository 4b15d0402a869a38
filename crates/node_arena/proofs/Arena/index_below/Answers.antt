use Rattle.std.proofs.Common.{◌≡◌, refl, sym, ◌∙◌, arith}
use Rattle.std.proofs.lemmas.Option.{same_Some}
use Rattle.node_arena.proofs.FirstKnown.{known_place}
use Rattle.node_arena.proofs.Arena.index_below.Goals as goal

pub walk_back-requires-in-None-clause-behind : goal.walk_back-requires-in-None-clause-behind
walk_back-requires-in-None-clause-behind g c = record {
  known = c.in-Some-known.known.now;
  behind = record { first = rw (← c.parent.ensures.value) (c.in-Some-known.ensures c.in-Some-known.known refl); absent = c.in-None.ensures.absent refl };
  counted = c.len.ensures;
  ends = c.last.ensures;
}

pub returns-in-Some-find-clause-below : goal.returns-in-Some-find-clause-below
returns-in-Some-find-clause-below g c i is =
    let found = c.in-Some-find.ensures.found c.in-Some-find.index refl in
    let here = known_place c.args.self.now.children c.in-Some-known.known.now c.args.key
    (rw (← c.parent.ensures.value) (c.in-Some-known.ensures c.in-Some-known.known refl)) found.0 in
    let index : c.in-Some-find.index ≡ i = same_Some _ _ is in
    (sym index ∙ (found.1 ∙ here), omega (arith, index, c.if-index-limit.true))

pub returns-in-Some-2-clause-none : goal.returns-in-Some-2-clause-none
returns-in-Some-2-clause-none g c is =
    let found = c.in-Some-find.ensures.found c.in-Some-find.index refl in
    let here = known_place c.args.self.now.children c.in-Some-known.known.now c.args.key
    (rw (← c.parent.ensures.value) (c.in-Some-known.ensures c.in-Some-known.known refl)) found.0 in
    omega (arith, here, found.1, c.if-index-limit.false)
