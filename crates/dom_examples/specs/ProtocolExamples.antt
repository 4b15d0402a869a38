-- Owners, turns, refusals by spelling, and pairs of worlds. Scripts with their answers, which come from outside.
use Rattle.std.specs.Prelude.{codes, [], ◌∷◌, ◌++◌, replicate, List, ℕ}
use Rattle.dom_examples.specs.Example.{Example, continued, oks}
use Rattle.dom_examples.specs.EventExamples.{slotted_host, host_slotted_into_host, events_from_inside}

-- refusals by spelling and by look-up, and a component in an open turn of the page
abbrev pub refusals_and_busy_turns : Example
refusals_and_busy_turns = continued events_from_inside (record {
  lines =
      codes "c1 remove n1" ∷
      codes "c1 remove n999" ∷
      codes "p remove c1:m1" ∷
      codes "p remove n9" ∷
      codes "p set n0 id \"a\"" ∷
      codes "p tree n1" ∷
      codes "c1 tre m0" ∷
      codes "c1 tree m0" ∷
      codes "p ." ∷
      codes "c2 tree m0" ∷
      codes "c1 tree m0" ∷
      codes "c1 attach m1" ∷
      codes "x hello" ∷
      [];
  answers =
      codes "c1 ! foreign" ∷
      codes "c1 ! foreign" ∷
      codes "p ! foreign" ∷
      codes "p ! unknown" ∷
      codes "p ! wrong-kind" ∷
      codes "p ok (n1 element div)" ∷
      codes "c1 ! syntax" ∷
      codes "c1 ! busy" ∷
      codes "p ok" ∷
      codes "c2 ! unknown" ∷
      codes "c1 ok (m0 shadow (m1 element b) (m2 element i))" ∷
      codes "c1 ! not-supported" ∷
      codes "! owner" ∷
      [];
})

-- what the page does in both worlds, first
abbrev pub page_before : Example
page_before = record {
  lines =
      codes "p new element div" ∷
      codes "p append n0 n1" ∷
      codes "p attach n1" ∷
      codes "p observer" ∷
      codes "p observe o0 n1 attributes" ∷
      codes "p ." ∷
      [];
  answers =
      codes "p ok n1" ∷
      codes "p ok" ∷
      codes "p ok c1" ∷
      codes "p ok o0" ∷
      oks 2 ++
      [];
}

-- the page's lines behind those of the component
abbrev pub page_behind : List (List ℕ)
page_behind =
    codes "p new text \"x\"" ∷
    codes "p append n1 n2" ∷
    codes "p micro k" ∷
    codes "p set n1 id \"v\"" ∷
    codes "p ." ∷
    []

-- a component with a slot and a listener, which hears of a child of its host
abbrev pub with_component : Example
with_component = continued page_before (record {
  lines =
      codes "c1 new element slot" ∷
      codes "c1 append m0 m1" ∷
      codes "c1 listen m1 slotchange t log" ∷
      codes "c1 ." ∷
      page_behind;
  answers =
      codes "c1 ok m1" ∷
      replicate 3 (codes "c1 ok") ++
      codes "p ok n2" ∷
      oks 3 ++
      codes "c1 event t slotchange phase=2 target=m1 current=m1 related=null path=[m1,m0]" ∷
      codes "p micro k" ∷
      codes "p record o0 attributes n1 name=id old=null" ∷
      codes "p ok" ∷
      [];
})

-- the first example without the lines of the component: the lines of the page are equal
abbrev pub without_component : Example
without_component = continued page_before (record {
  lines = page_behind;
  answers =
      codes "p ok n2" ∷
      oks 3 ++
      codes "p micro k" ∷
      codes "p record o0 attributes n1 name=id old=null" ∷
      codes "p ok" ∷
      [];
})

-- two components, one slotted into the other
abbrev pub first_family : Example
first_family = continued host_slotted_into_host (record {
  lines =
      codes "c2 ." ∷
      [];
  answers =
      codes "c2 ok" ∷
      [];
})

-- the example of two families with other contents of the second component: the first one hears the same
abbrev pub second_family : Example
second_family = continued slotted_host (record {
  lines =
      codes "c2 new element u" ∷
      codes "c2 new element i" ∷
      codes "c2 append m0 m1" ∷
      codes "c2 append m1 m2" ∷
      codes "c2 dispatch m2 e bubbles composed" ∷
      codes "c2 ." ∷
      [];
  answers =
      codes "c2 ok m1" ∷
      codes "c2 ok m2" ∷
      codes "c2 ok" ∷
      codes "c2 ok" ∷
      codes "c1 event s e phase=3 target=n2 current=m1 related=null path=[n2,m1,m0,n1,n0]" ∷
      codes "c1 event r e phase=3 target=n2 current=m0 related=null path=[n2,m1,m0,n1,n0]" ∷
      codes "p event a e phase=3 target=n2 current=n1 related=null path=[n2,n1,n0]" ∷
      codes "p event d e phase=3 target=n2 current=n0 related=null path=[n2,n1,n0]" ∷
      codes "c2 ok true" ∷
      codes "c2 ok" ∷
      [];
})
