-- Nodes made, placed, moved and removed, and what is refused. Scripts with their answers, which come from outside.
use Rattle.std.specs.Prelude.{codes, [], ◌∷◌, ◌++◌, replicate}
use Rattle.dom_examples.specs.Example.{Example, first_nodes, oks}

-- an element is appended and removed
abbrev pub append_and_remove : Example
append_and_remove = record {
  lines =
      codes "p new element div" ∷
      codes "p append n0 n1" ∷
      codes "p tree n0" ∷
      codes "p remove n1" ∷
      codes "p tree n0" ∷
      [];
  answers =
      codes "p ok n1" ∷
      codes "p ok" ∷
      codes "p ok (n0 document (n1 element div))" ∷
      codes "p ok" ∷
      codes "p ok (n0 document)" ∷
      [];
}

-- refusals of the first commands
abbrev pub first_refusals : Example
first_refusals = record {
  lines =
      codes "p append n0 n0" ∷
      codes "p tree n1" ∷
      codes "c1 new element b" ∷
      codes "p new element 1a" ∷
      codes "p new element a" ∷
      codes "c1 ." ∷
      codes "p  tree n0" ∷
      codes "q tree n0" ∷
      codes "p ." ∷
      codes "c1 ." ∷
      [];
  answers =
      codes "p ! hierarchy" ∷
      codes "p ! unknown" ∷
      codes "c1 ! unknown" ∷
      codes "p ! invalid-character" ∷
      codes "p ok n1" ∷
      codes "c1 ! busy" ∷
      codes "p ! syntax" ∷
      codes "! owner" ∷
      codes "p ok" ∷
      codes "c1 ! unknown" ∷
      [];
}

-- a component attached, with a tree of its own that the page does not see
abbrev pub closed_tree : Example
closed_tree = record {
  lines =
      codes "p new element div" ∷
      codes "p append n0 n1" ∷
      codes "p attach n1" ∷
      codes "p attach n1" ∷
      codes "c1 tree m0" ∷
      codes "p ." ∷
      codes "c1 new element b" ∷
      codes "c1 append m0 m1" ∷
      codes "c1 append n1 m1" ∷
      codes "c1 remove n999" ∷
      codes "c1 tree c1:m1" ∷
      codes "c1 attach m1" ∷
      codes "c1 tree m0" ∷
      codes "c2 tree m0" ∷
      codes "p tree m0" ∷
      codes "p shadow-root n1" ∷
      codes "p tree n1" ∷
      [];
  answers =
      codes "p ok n1" ∷
      codes "p ok" ∷
      codes "p ok c1" ∷
      codes "p ! not-supported" ∷
      codes "c1 ! busy" ∷
      codes "p ok" ∷
      codes "c1 ok m1" ∷
      codes "c1 ok" ∷
      replicate 3 (codes "c1 ! foreign") ++
      codes "c1 ! not-supported" ∷
      codes "c1 ok (m0 shadow (m1 element b))" ∷
      codes "c2 ! unknown" ∷
      codes "p ! foreign" ∷
      codes "p ok null" ∷
      codes "p ok (n1 element div)" ∷
      [];
}

-- validity and its order
abbrev pub validity_order : Example
validity_order = record {
  lines =
      codes "p new element div" ∷
      codes "p new element p" ∷
      codes "p append n1 n2" ∷
      codes "p append n2 n1" ∷
      codes "p new text \"x\"" ∷
      codes "p insert n2 n3 n1" ∷
      codes "p insert n0 n3 n2" ∷
      codes "p append n0 n3" ∷
      codes "p new element 1a" ∷
      codes "p tree n1" ∷
      [];
  answers =
      first_nodes 2 ++
      codes "p ok" ∷
      codes "p ! hierarchy" ∷
      codes "p ok n3" ∷
      codes "p ! not-found" ∷
      codes "p ! not-found" ∷
      codes "p ! hierarchy" ∷
      codes "p ! invalid-character" ∷
      codes "p ok (n1 element div (n2 element p))" ∷
      [];
}

-- a split surrogate pair
abbrev pub split_surrogates : Example
split_surrogates = record {
  lines =
      codes "p new text \"a\\ud83d\\ude00\"" ∷
      codes "p split n1 2" ∷
      codes "p tree n1" ∷
      codes "p tree n2" ∷
      codes "p split n1 3" ∷
      codes "p replace-data n1 1 9 \"b\"" ∷
      codes "p data n2 \"z\"" ∷
      codes "p tree n1" ∷
      [];
  answers =
      first_nodes 2 ++
      codes "p ok (n1 text \"a\\ud83d\")" ∷
      codes "p ok (n2 text \"\\ude00\")" ∷
      codes "p ! index-size" ∷
      oks 2 ++
      codes "p ok (n1 text \"ab\")" ∷
      [];
}

-- documents, attaching and the ends of turns
abbrev pub documents_and_attaching : Example
documents_and_attaching = record {
  lines =
      codes "p document" ∷
      codes "p new element div" ∷
      codes "p append n0 n2" ∷
      codes "p connected n2" ∷
      codes "p adopt n1 n2" ∷
      codes "p docof n2" ∷
      codes "p contains n0 n2" ∷
      codes "p adopt n1 n0" ∷
      codes "p new element a" ∷
      codes "p attach n3" ∷
      codes "p attach n2" ∷
      codes "p attach n2" ∷
      codes "p ." ∷
      codes "c1 docof m0" ∷
      codes "c1 micro q" ∷
      codes "p tree n0" ∷
      codes "p micro z" ∷
      [];
  answers =
      first_nodes 2 ++
      codes "p ok" ∷
      codes "p ok true" ∷
      codes "p ok" ∷
      codes "p ok n1" ∷
      codes "p ok false" ∷
      codes "p ! not-supported" ∷
      codes "p ok n3" ∷
      codes "p ! not-supported" ∷
      codes "p ok c1" ∷
      codes "p ! not-supported" ∷
      codes "p ok" ∷
      codes "c1 ok n1" ∷
      codes "c1 ok" ∷
      codes "c1 micro q" ∷
      codes "p ok (n0 document)" ∷
      codes "p ok" ∷
      codes "p micro z" ∷
      [];
}
