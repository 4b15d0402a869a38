-- Queries and matches. Scripts with their answers, which come from outside.
use Rattle.std.specs.Prelude.{codes, [], ◌∷◌, ◌++◌}
use Rattle.dom_examples.specs.Example.{Example, continued, oks}
use Rattle.dom_examples.specs.TreeExamples.{closed_tree}

-- selectors
abbrev pub query_and_match : Example
query_and_match = record {
  lines =
      codes "p new element div" ∷
      codes "p set n1 class \"a b\"" ∷
      codes "p new element p" ∷
      codes "p set n2 lang \"en-GB\"" ∷
      codes "p append n1 n2" ∷
      codes "p new element p" ∷
      codes "p append n1 n3" ∷
      codes "p query n1 \"div.a > p:not([lang|=en])\"" ∷
      codes "p query n1 \"p + p, p:first-child\"" ∷
      codes "p matches n2 \"[lang^='']\"" ∷
      codes "p matches n1 \"div >\"" ∷
      codes "p unset n1 class" ∷
      codes "p attr n1 class" ∷
      codes "p attr n2 lang" ∷
      [];
  answers =
      codes "p ok n1" ∷
      codes "p ok" ∷
      codes "p ok n2" ∷
      oks 2 ++
      codes "p ok n3" ∷
      codes "p ok" ∷
      codes "p ok [n3]" ∷
      codes "p ok [n2,n3]" ∷
      codes "p ok false" ∷
      codes "p ! selector" ∷
      codes "p ok" ∷
      codes "p ok null" ∷
      codes "p ok \"en-GB\"" ∷
      [];
}

-- queries in and around a closed tree
abbrev pub query_in_closed_tree : Example
query_in_closed_tree = continued closed_tree (record {
  lines =
      codes "p query n0 \"b\"" ∷
      codes "p ." ∷
      codes "c1 query m0 \"b\"" ∷
      codes "c1 query m0 \"div b\"" ∷
      codes "c1 matches m1 \":first-child:last-child\"" ∷
      codes "c1 query m0 \"b:not(:not(i))\"" ∷
      [];
  answers =
      codes "p ok []" ∷
      codes "p ok" ∷
      codes "c1 ok [m1]" ∷
      codes "c1 ok []" ∷
      codes "c1 ok true" ∷
      codes "c1 ! selector" ∷
      [];
})
