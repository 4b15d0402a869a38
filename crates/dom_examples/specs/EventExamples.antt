-- Slots, listeners, and events that are retargeted. Scripts with their answers, which come from outside.
use Rattle.std.specs.Prelude.{codes, [], ◌∷◌, ◌++◌, replicate}
use Rattle.dom_examples.specs.Example.{Example, continued, oks, first_nodes}

-- a slotted child of the page
abbrev pub slotted_child : Example
slotted_child = record {
  lines =
      codes "p new element div" ∷
      codes "p append n0 n1" ∷
      codes "p attach n1" ∷
      codes "p new element span" ∷
      codes "p append n1 n2" ∷
      codes "p listen n1 click a log" ∷
      codes "p listen n1 slotchange b log" ∷
      codes "p ." ∷
      codes "c1 new element slot" ∷
      codes "c1 append m0 m1" ∷
      codes "c1 listen m1 click s log" ∷
      codes "c1 listen m1 slotchange t log" ∷
      codes "c1 assigned m1" ∷
      codes "c1 ." ∷
      codes "p slot-of n2" ∷
      codes "p shadow-root n1" ∷
      codes "p dispatch n2 click bubbles" ∷
      [];
  answers =
      codes "p ok n1" ∷
      codes "p ok" ∷
      codes "p ok c1" ∷
      codes "p ok n2" ∷
      oks 4 ++
      codes "c1 ok m1" ∷
      replicate 3 (codes "c1 ok") ++
      codes "c1 ok [n2]" ∷
      codes "c1 event t slotchange phase=2 target=m1 current=m1 related=null path=[m1,m0]" ∷
      codes "c1 ok" ∷
      codes "p ok null" ∷
      codes "p ok null" ∷
      codes "c1 event s click phase=3 target=n2 current=m1 related=null path=[n2,m1,m0,n1,n0]" ∷
      codes "p event a click phase=3 target=n2 current=n1 related=null path=[n2,n1,n0]" ∷
      codes "p ok true" ∷
      [];
}

-- slots by name, and the first of two
abbrev pub slots_by_name : Example
slots_by_name = record {
  lines =
      codes "p new element div" ∷
      codes "p attach n1" ∷
      codes "p new element span" ∷
      codes "p set n2 slot \"a\"" ∷
      codes "p append n1 n2" ∷
      codes "p assigned n1" ∷
      codes "p ." ∷
      codes "c1 new element slot" ∷
      codes "c1 append m0 m1" ∷
      codes "c1 assigned m1" ∷
      codes "c1 set m1 name \"a\"" ∷
      codes "c1 assigned m1" ∷
      codes "c1 new element slot" ∷
      codes "c1 set m2 name \"a\"" ∷
      codes "c1 insert m0 m2 m1" ∷
      codes "c1 assigned m1" ∷
      codes "c1 assigned m2" ∷
      codes "c1 remove m2" ∷
      codes "c1 assigned m1" ∷
      codes "c1 assigned m0" ∷
      [];
  answers =
      codes "p ok n1" ∷
      codes "p ok c1" ∷
      codes "p ok n2" ∷
      oks 2 ++
      codes "p ! syntax" ∷
      codes "p ok" ∷
      codes "c1 ok m1" ∷
      codes "c1 ok" ∷
      codes "c1 ok []" ∷
      codes "c1 ok" ∷
      codes "c1 ok [n2]" ∷
      codes "c1 ok m2" ∷
      codes "c1 ok" ∷
      codes "c1 ok" ∷
      codes "c1 ok []" ∷
      codes "c1 ok [n2]" ∷
      codes "c1 ok" ∷
      codes "c1 ok [n2]" ∷
      codes "c1 ! wrong-kind" ∷
      [];
}

-- events from inside a shadow tree
abbrev pub events_from_inside : Example
events_from_inside = record {
  lines =
      codes "p new element div" ∷
      codes "p append n0 n1" ∷
      codes "p attach n1" ∷
      codes "p listen n1 ping a log" ∷
      codes "p ." ∷
      codes "c1 new element b" ∷
      codes "c1 new element i" ∷
      codes "c1 append m0 m1" ∷
      codes "c1 append m0 m2" ∷
      codes "c1 dispatch m1 ping composed" ∷
      codes "c1 dispatch m1 ping composed related m2" ∷
      codes "c1 dispatch m1 ping" ∷
      codes "c1 new element u" ∷
      codes "c1 dispatch m1 ping composed related m3" ∷
      [];
  answers =
      codes "p ok n1" ∷
      codes "p ok" ∷
      codes "p ok c1" ∷
      oks 2 ++
      codes "c1 ok m1" ∷
      codes "c1 ok m2" ∷
      codes "c1 ok" ∷
      codes "c1 ok" ∷
      codes "p event a ping phase=2 target=n1 current=n1 related=null path=[n1,n0]" ∷
      replicate 3 (codes "c1 ok true") ++
      codes "c1 ok m3" ∷
      codes "c1 ! type" ∷
      [];
}

-- a host in the tree of another host, and a slot that it is slotted into
abbrev pub slotted_host : Example
slotted_host = record {
  lines =
      codes "p new element section" ∷
      codes "p append n0 n1" ∷
      codes "p attach n1" ∷
      codes "p new element div" ∷
      codes "p append n1 n2" ∷
      codes "p attach n2" ∷
      codes "p listen n1 e a log" ∷
      codes "p listen n0 e d log" ∷
      codes "p ." ∷
      codes "c1 new element slot" ∷
      codes "c1 append m0 m1" ∷
      codes "c1 listen m1 e s log" ∷
      codes "c1 listen m0 e r log" ∷
      codes "c1 ." ∷
      [];
  answers =
      codes "p ok n1" ∷
      codes "p ok" ∷
      codes "p ok c1" ∷
      codes "p ok n2" ∷
      codes "p ok" ∷
      codes "p ok c2" ∷
      oks 3 ++
      codes "c1 ok m1" ∷
      replicate 4 (codes "c1 ok") ++
      [];
}

-- a host slotted into another host
abbrev pub host_slotted_into_host : Example
host_slotted_into_host = continued slotted_host (record {
  lines =
      codes "c2 new element i" ∷
      codes "c2 append m0 m1" ∷
      codes "c2 dispatch m1 e bubbles composed" ∷
      [];
  answers =
      codes "c2 ok m1" ∷
      codes "c2 ok" ∷
      codes "c1 event s e phase=3 target=n2 current=m1 related=null path=[n2,m1,m0,n1,n0]" ∷
      codes "c1 event r e phase=3 target=n2 current=m0 related=null path=[n2,m1,m0,n1,n0]" ∷
      codes "p event a e phase=3 target=n2 current=n1 related=null path=[n2,n1,n0]" ∷
      codes "p event d e phase=3 target=n2 current=n0 related=null path=[n2,n1,n0]" ∷
      codes "c2 ok true" ∷
      [];
})

-- once, passive and cancel
abbrev pub listener_words : Example
listener_words = record {
  lines =
      codes "p new element a" ∷
      codes "p listen n1 go h cancel capture once passive" ∷
      codes "p dispatch n1 go cancelable" ∷
      codes "p dispatch n1 go cancelable" ∷
      codes "p listen n1 go k cancel" ∷
      codes "p listen n1 go k log" ∷
      codes "p dispatch n1 go cancelable" ∷
      [];
  answers =
      codes "p ok n1" ∷
      codes "p ok" ∷
      codes "p event h go phase=2 target=n1 current=n1 related=null path=[n1]" ∷
      codes "p ok true" ∷
      codes "p ok true" ∷
      oks 2 ++
      codes "p event k go phase=2 target=n1 current=n1 related=null path=[n1]" ∷
      codes "p ok false" ∷
      [];
}

-- stop, stop-now and listeners by label
abbrev pub stops_and_labels : Example
stops_and_labels = record {
  lines =
      codes "p new element div" ∷
      codes "p new element a" ∷
      codes "p append n1 n2" ∷
      codes "p listen n2 e x stop-now" ∷
      codes "p listen n2 e y log" ∷
      codes "p listen n1 e z log" ∷
      codes "p dispatch n2 e bubbles" ∷
      codes "p unlisten n2 e x" ∷
      codes "p listen n2 e w stop" ∷
      codes "p dispatch n2 e bubbles" ∷
      codes "p listen n1 e z cancel" ∷
      codes "p dispatch n1 e cancelable" ∷
      [];
  answers =
      first_nodes 2 ++
      oks 4 ++
      codes "p event x e phase=2 target=n2 current=n2 related=null path=[n2,n1]" ∷
      codes "p ok true" ∷
      oks 2 ++
      codes "p event y e phase=2 target=n2 current=n2 related=null path=[n2,n1]" ∷
      codes "p event w e phase=2 target=n2 current=n2 related=null path=[n2,n1]" ∷
      codes "p ok true" ∷
      codes "p ok" ∷
      codes "p event z e phase=2 target=n1 current=n1 related=null path=[n1]" ∷
      codes "p ok true" ∷
      [];
}
