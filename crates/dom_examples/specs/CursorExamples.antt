-- Node iterators and tree walkers. Scripts with their answers, which come from outside.
use Rattle.std.specs.Prelude.{codes, [], ◌∷◌, ◌++◌}
use Rattle.dom_examples.specs.Example.{Example, first_nodes, oks}

-- the reference of an iterator is removed
abbrev pub reference_removed : Example
reference_removed = record {
  lines =
      codes "p new element div" ∷
      codes "p new element a" ∷
      codes "p new element b" ∷
      codes "p append n1 n2" ∷
      codes "p append n1 n3" ∷
      codes "p iter-new n1 all" ∷
      codes "p iter-next i0" ∷
      codes "p iter-next i0" ∷
      codes "p iter-next i0" ∷
      codes "p iter-prev i0" ∷
      codes "p remove n3" ∷
      codes "p iter-at i0" ∷
      codes "p iter-next i0" ∷
      [];
  answers =
      first_nodes 3 ++
      oks 2 ++
      codes "p ok i0" ∷
      first_nodes 3 ++
      codes "p ok n3" ∷
      codes "p ok" ∷
      codes "p ok n2 after" ∷
      codes "p ok null" ∷
      [];
}

-- walkers and filters
abbrev pub walkers_and_filters : Example
walkers_and_filters = record {
  lines =
      codes "p new element div" ∷
      codes "p new element a" ∷
      codes "p new element i" ∷
      codes "p new element b" ∷
      codes "p append n2 n3" ∷
      codes "p append n1 n2" ∷
      codes "p append n1 n4" ∷
      codes "p walk-new n1 all reject=a" ∷
      codes "p walk w0 next" ∷
      codes "p walk w0 previous" ∷
      codes "p walk-new n1 all skip=a" ∷
      codes "p walk w1 next" ∷
      codes "p walk w1 next-sibling" ∷
      codes "p walk w1 parent" ∷
      codes "p walk-set w1 n0" ∷
      codes "p walk w1 next" ∷
      codes "p walk-at w1" ∷
      [];
  answers =
      first_nodes 4 ++
      oks 3 ++
      codes "p ok w0" ∷
      codes "p ok n4" ∷
      codes "p ok n1" ∷
      codes "p ok w1" ∷
      codes "p ok n3" ∷
      codes "p ok n4" ∷
      codes "p ok n1" ∷
      codes "p ok" ∷
      codes "p ok null" ∷
      codes "p ok n0" ∷
      [];
}
