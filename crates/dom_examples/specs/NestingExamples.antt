-- Components inside components. Scripts with their answers, which come from outside.
use Rattle.std.specs.Prelude.{codes, [], ◌∷◌, ◌++◌, replicate}
use Rattle.dom_examples.specs.Example.{Example, continued, oks}

-- the page attaches to an element, and the component makes one
abbrev pub host_in_component : Example
host_in_component = record {
  lines =
      codes "p new element div" ∷
      codes "p append n0 n1" ∷
      codes "p attach n1" ∷
      codes "p listen n1 e a log" ∷
      codes "p ." ∷
      codes "c1 new element section" ∷
      [];
  answers =
      codes "p ok n1" ∷
      codes "p ok" ∷
      codes "p ok c1" ∷
      oks 2 ++
      codes "c1 ok m1" ∷
      [];
}

-- the element is placed below the component's root
abbrev pub placed_host : Example
placed_host = continued host_in_component (record { lines = codes "c1 append m0 m1" ∷ []; answers = codes "c1 ok" ∷ [] })

-- the component attaches to the element, and its component has an element and a listener
abbrev pub inner_component : Example
inner_component = record {
  lines =
      codes "c1 attach m1" ∷
      codes "c1 listen m1 e b log" ∷
      codes "c1 ." ∷
      codes "c1.1 new element i" ∷
      codes "c1.1 append m0 m1" ∷
      codes "c1.1 listen m1 e c log" ∷
      [];
  answers =
      codes "c1 ok c1.1" ∷
      codes "c1 ok" ∷
      codes "c1 ok" ∷
      codes "c1.1 ok m1" ∷
      codes "c1.1 ok" ∷
      codes "c1.1 ok" ∷
      [];
}

-- a component attached by another one: its events, its names and its word
abbrev pub component_in_component : Example
component_in_component = continued (continued placed_host inner_component) (record {
  lines =
      codes "c1.1 dispatch m1 e composed" ∷
      codes "c1.1 dispatch m1 e composed related m0" ∷
      codes "c1.1 remove c1:m1" ∷
      codes "c1 tree m0" ∷
      codes "c1 remove c1.1:m1" ∷
      codes "c1 attach m1" ∷
      codes "c1.2 ." ∷
      codes "c1.0 ." ∷
      codes "p new element p" ∷
      codes "p attach n2" ∷
      [];
  answers =
      codes "c1.1 event c e phase=2 target=m1 current=m1 related=null path=[m1,m0,c1:m1,c1:m0,n1,n0]" ∷
      codes "c1 event b e phase=2 target=m1 current=m1 related=null path=[m1,m0,n1,n0]" ∷
      codes "p event a e phase=2 target=n1 current=n1 related=null path=[n1,n0]" ∷
      codes "c1.1 ok true" ∷
      codes "c1.1 event c e phase=2 target=m1 current=m1 related=m0 path=[m1,m0]" ∷
      codes "c1.1 ok true" ∷
      codes "c1.1 ! foreign" ∷
      codes "c1 ok (m0 shadow (m1 element section))" ∷
      codes "c1 ! foreign" ∷
      codes "c1 ! not-supported" ∷
      codes "c1.2 ! unknown" ∷
      codes "! owner" ∷
      codes "p ok n2" ∷
      codes "p ok c2" ∷
      [];
})

-- a host in a closed tree whose child, a slot, is slotted into its tree, and which is slotted itself: one step signals slots of two trees
abbrev pub slots_of_two_trees : Example
slots_of_two_trees = record {
  lines =
      codes "p new element div" ∷
      codes "p append n0 n1" ∷
      codes "p attach n1" ∷
      codes "p listen n1 e a log" ∷
      codes "p new element span" ∷
      codes "p append n1 n2" ∷
      codes "p ." ∷
      codes "c1 new element section" ∷
      codes "c1 new element div" ∷
      codes "c1 new element slot" ∷
      codes "c1 attach m2" ∷
      codes "c1 attach m1" ∷
      codes "c1 append m0 m1" ∷
      codes "c1 append m1 m2" ∷
      codes "c1 listen m3 slotchange t log" ∷
      codes "c1 ." ∷
      codes "c1.1 new element slot" ∷
      codes "c1.1 append m0 m1" ∷
      codes "c1.1 listen m1 slotchange u log" ∷
      codes "c1.1 listen m1 e v log" ∷
      codes "c1.1 ." ∷
      codes "c1.2 new element slot" ∷
      codes "c1.2 append m0 m1" ∷
      codes "c1.2 listen m1 slotchange w log" ∷
      codes "c1.2 ." ∷
      codes "c1 append m2 m3" ∷
      codes "c1 ." ∷
      codes "c1.1 assigned m1" ∷
      codes "c1 assigned m3" ∷
      codes "c1 ." ∷
      codes "p dispatch n2 e bubbles" ∷
      [];
  answers =
      codes "p ok n1" ∷
      codes "p ok" ∷
      codes "p ok c1" ∷
      codes "p ok" ∷
      codes "p ok n2" ∷
      oks 2 ++
      codes "c1 ok m1" ∷
      codes "c1 ok m2" ∷
      codes "c1 ok m3" ∷
      codes "c1 ok c1.1" ∷
      codes "c1 ok c1.2" ∷
      replicate 4 (codes "c1 ok") ++
      codes "c1.1 ok m1" ∷
      replicate 4 (codes "c1.1 ok") ++
      codes "c1.2 ok m1" ∷
      codes "c1.2 ok" ∷
      codes "c1.2 ok" ∷
      codes "c1.2 event w slotchange phase=2 target=m1 current=m1 related=null path=[m1,m0]" ∷
      codes "c1.2 ok" ∷
      codes "c1 ok" ∷
      codes "c1.1 event u slotchange phase=2 target=m1 current=m1 related=null path=[m1,m0]" ∷
      codes "c1 event t slotchange phase=2 target=m3 current=m3 related=null path=[m3,m2,m1,m0]" ∷
      codes "c1.1 event u slotchange phase=3 target=c1:m3 current=m1 related=null path=[c1:m3,m1,m0,c1:m2,c1:m1,c1:m0]" ∷
      codes "c1.2 event w slotchange phase=3 target=c1:m3 current=m1 related=null path=[c1:m3,c1:m2,m1,m0,c1:m1,c1:m0]" ∷
      codes "c1 ok" ∷
      codes "c1.1 ok [c1:m3]" ∷
      codes "c1 ok [n2]" ∷
      codes "c1 ok" ∷
      codes "c1.1 event v e phase=3 target=n2 current=m1 related=null path=[n2,c1:m3,m1,m0,c1:m2,c1:m1,c1:m0,n1,n0]" ∷
      codes "p event a e phase=3 target=n2 current=n1 related=null path=[n2,n1,n0]" ∷
      codes "p ok true" ∷
      [];
}

-- the host on the page is adopted with the trees below it, at any depth, and not with what is in no tree; and what is connected
abbrev pub adopted_with_inner_trees : Example
adopted_with_inner_trees = record {
  lines =
      codes "p new element div" ∷
      codes "p append n0 n1" ∷
      codes "p attach n1" ∷
      codes "p document" ∷
      codes "p ." ∷
      codes "c1 new element section" ∷
      codes "c1 append m0 m1" ∷
      codes "c1 attach m1" ∷
      codes "c1 new element b" ∷
      codes "c1 ." ∷
      codes "c1.1 new element i" ∷
      codes "c1.1 append m0 m1" ∷
      codes "c1.1 new element u" ∷
      codes "c1.1 connected m1" ∷
      codes "c1.1 docof m1" ∷
      codes "c1.1 ." ∷
      codes "p adopt n2 n1" ∷
      codes "p ." ∷
      codes "c1.1 docof m1" ∷
      codes "c1.1 docof m0" ∷
      codes "c1.1 docof m2" ∷
      codes "c1.1 connected m1" ∷
      codes "c1.1 new element p" ∷
      codes "c1.1 docof m3" ∷
      codes "c1.1 ." ∷
      codes "c1 docof m1" ∷
      codes "c1 docof m2" ∷
      codes "c1 ." ∷
      codes "p append n2 n1" ∷
      codes "p ." ∷
      codes "c1.1 connected m1" ∷
      codes "c1 remove m1" ∷
      codes "c1.1 connected m1" ∷
      codes "c1.1 docof m1" ∷
      codes "p tree n2" ∷
      [];
  answers =
      codes "p ok n1" ∷
      codes "p ok" ∷
      codes "p ok c1" ∷
      codes "p ok n2" ∷
      codes "p ok" ∷
      codes "c1 ok m1" ∷
      codes "c1 ok" ∷
      codes "c1 ok c1.1" ∷
      codes "c1 ok m2" ∷
      codes "c1 ok" ∷
      codes "c1.1 ok m1" ∷
      codes "c1.1 ok" ∷
      codes "c1.1 ok m2" ∷
      codes "c1.1 ok true" ∷
      codes "c1.1 ok n0" ∷
      codes "c1.1 ok" ∷
      oks 2 ++
      codes "c1.1 ok n2" ∷
      codes "c1.1 ok n2" ∷
      codes "c1.1 ok n0" ∷
      codes "c1.1 ok false" ∷
      codes "c1.1 ok m3" ∷
      codes "c1.1 ok n2" ∷
      codes "c1.1 ok" ∷
      codes "c1 ok n2" ∷
      codes "c1 ok n0" ∷
      codes "c1 ok" ∷
      oks 2 ++
      codes "c1.1 ok true" ∷
      codes "c1 ok" ∷
      codes "c1.1 ok false" ∷
      codes "c1.1 ok n2" ∷
      codes "p ok (n2 document (n1 element div))" ∷
      [];
}

-- an event from a tree whose host is in no tree ends there, until the host is placed
abbrev pub detached_inner_host : Example
detached_inner_host = continued (continued host_in_component inner_component) (record {
  lines =
      codes "c1.1 dispatch m1 e composed" ∷
      codes "c1 append m0 m1" ∷
      codes "c1.1 dispatch m1 e composed" ∷
      [];
  answers =
      codes "c1.1 event c e phase=2 target=m1 current=m1 related=null path=[m1,m0,c1:m1]" ∷
      codes "c1 event b e phase=2 target=m1 current=m1 related=null path=[m1]" ∷
      codes "c1.1 ok true" ∷
      codes "c1 ok" ∷
      codes "c1.1 event c e phase=2 target=m1 current=m1 related=null path=[m1,m0,c1:m1,c1:m0,n1,n0]" ∷
      codes "c1 event b e phase=2 target=m1 current=m1 related=null path=[m1,m0,n1,n0]" ∷
      codes "p event a e phase=2 target=n1 current=n1 related=null path=[n1,n0]" ∷
      codes "c1.1 ok true" ∷
      [];
})
