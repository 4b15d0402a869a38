-- Scripts of events under way, with the answers of a model apart from these definitions, and of a browser with JavaScript listeners in place of lines.
use Rattle.std.specs.Prelude.{codes, [], ◌∷◌}
use Rattle.dom_live.specs.Examples.{LiveExample}

-- a component cancels in its callback, and the page is shown it
abbrev pub cancelled_in_callback : LiveExample
cancelled_in_callback = record {
  lines =
      codes "p new element div" ∷
      codes "p append n0 n1" ∷
      codes "p attach n1" ∷
      codes "p listen n1 e a call" ∷
      codes "p ." ∷
      codes "c1 new element b" ∷
      codes "c1 append m0 m1" ∷
      codes "c1 listen m1 e x call" ∷
      codes "c1 dispatch m1 e bubbles cancelable composed" ∷
      codes "c1 prevent" ∷
      codes "c1 return" ∷
      codes "p prevented" ∷
      codes "p return" ∷
      codes "c1 ." ∷
      [];
  answers =
      codes "p ok n1" ∷
      codes "p ok" ∷
      codes "p ok c1" ∷
      codes "p ok" ∷
      codes "p ok" ∷
      codes "c1 ok m1" ∷
      codes "c1 ok" ∷
      codes "c1 ok" ∷
      codes "c1 event x e phase=2 target=m1 current=m1 related=null path=[m1,m0,n1,n0]" ∷
      codes "c1 call bubbles cancelable composed" ∷
      codes "c1 ok" ∷
      codes "c1 ok" ∷
      codes "p event a e phase=2 target=n1 current=n1 related=null path=[n1,n0]" ∷
      codes "p call bubbles cancelable composed prevented" ∷
      codes "p ok true" ∷
      codes "p ok" ∷
      codes "c1 ok false" ∷
      codes "c1 ok" ∷
      [];
}

-- an event goes out in the middle of a dispatch of the page
abbrev pub outward_within : LiveExample
outward_within = record {
  lines =
      codes "p new element div" ∷
      codes "p append n0 n1" ∷
      codes "p attach n1" ∷
      codes "p new element a" ∷
      codes "p append n1 n2" ∷
      codes "p listen n1 e over log capture" ∷
      codes "p listen n2 e at call" ∷
      codes "p listen n0 f root log" ∷
      codes "p ." ∷
      codes "c1 new element slot" ∷
      codes "c1 append m0 m1" ∷
      codes "c1 listen m1 e x call capture" ∷
      codes "c1 ." ∷
      codes "p dispatch n2 e bubbles" ∷
      codes "c1 dispatch m1 f bubbles composed" ∷
      codes "c1 return" ∷
      codes "p return" ∷
      codes "p ." ∷
      [];
  answers =
      codes "p ok n1" ∷
      codes "p ok" ∷
      codes "p ok c1" ∷
      codes "p ok n2" ∷
      codes "p ok" ∷
      codes "p ok" ∷
      codes "p ok" ∷
      codes "p ok" ∷
      codes "p ok" ∷
      codes "c1 ok m1" ∷
      codes "c1 ok" ∷
      codes "c1 ok" ∷
      codes "c1 ok" ∷
      codes "p event over e phase=1 target=n2 current=n1 related=null path=[n2,n1,n0]" ∷
      codes "c1 event x e phase=1 target=n2 current=m1 related=null path=[n2,m1,m0,n1,n0]" ∷
      codes "c1 call bubbles" ∷
      codes "p event root f phase=3 target=n1 current=n0 related=null path=[n1,n0]" ∷
      codes "c1 ok true" ∷
      codes "c1 ok" ∷
      codes "p event at e phase=2 target=n2 current=n2 related=null path=[n2,n1,n0]" ∷
      codes "p call bubbles" ∷
      codes "p ok" ∷
      codes "p ok true" ∷
      codes "p ok" ∷
      [];
}

-- listeners that are removed, removed and added again, added, and removed by an inner event
abbrev pub removed_and_added : LiveExample
removed_and_added = record {
  lines =
      codes "p new element div" ∷
      codes "p append n0 n1" ∷
      codes "p listen n1 e a call capture" ∷
      codes "p listen n1 e b log capture" ∷
      codes "p listen n1 e c log" ∷
      codes "p dispatch n1 e" ∷
      codes "p unlisten n1 e b capture" ∷
      codes "p listen n1 e b log capture" ∷
      codes "p listen n1 e d log capture" ∷
      codes "p listen n1 e f log" ∷
      codes "p unlisten n1 e c" ∷
      codes "p return" ∷
      codes "p ." ∷
      codes "p listen n1 g a call" ∷
      codes "p listen n1 g o log once" ∷
      codes "p dispatch n1 g" ∷
      codes "p unlisten n1 g a" ∷
      codes "p dispatch n1 g" ∷
      codes "p return" ∷
      [];
  answers =
      codes "p ok n1" ∷
      codes "p ok" ∷
      codes "p ok" ∷
      codes "p ok" ∷
      codes "p ok" ∷
      codes "p event a e phase=2 target=n1 current=n1 related=null path=[n1,n0]" ∷
      codes "p call" ∷
      codes "p ok" ∷
      codes "p ok" ∷
      codes "p ok" ∷
      codes "p ok" ∷
      codes "p ok" ∷
      codes "p ok" ∷
      codes "p event f e phase=2 target=n1 current=n1 related=null path=[n1,n0]" ∷
      codes "p ok true" ∷
      codes "p ok" ∷
      codes "p ok" ∷
      codes "p ok" ∷
      codes "p event a g phase=2 target=n1 current=n1 related=null path=[n1,n0]" ∷
      codes "p call" ∷
      codes "p ok" ∷
      codes "p event o g phase=2 target=n1 current=n1 related=null path=[n1,n0]" ∷
      codes "p ok true" ∷
      codes "p ok" ∷
      codes "p ok true" ∷
      [];
}

-- the path stays while the target moves and goes
abbrev pub path_stays : LiveExample
path_stays = record {
  lines =
      codes "p new element div" ∷
      codes "p append n0 n1" ∷
      codes "p new element a" ∷
      codes "p append n1 n2" ∷
      codes "p new element b" ∷
      codes "p listen n0 e top call capture" ∷
      codes "p listen n1 e mid log" ∷
      codes "p listen n3 e other log" ∷
      codes "p dispatch n2 e bubbles" ∷
      codes "p remove n1" ∷
      codes "p append n3 n2" ∷
      codes "p return" ∷
      codes "p tree n0" ∷
      [];
  answers =
      codes "p ok n1" ∷
      codes "p ok" ∷
      codes "p ok n2" ∷
      codes "p ok" ∷
      codes "p ok n3" ∷
      codes "p ok" ∷
      codes "p ok" ∷
      codes "p ok" ∷
      codes "p event top e phase=1 target=n2 current=n0 related=null path=[n2,n1,n0]" ∷
      codes "p call bubbles" ∷
      codes "p ok" ∷
      codes "p ok" ∷
      codes "p ok" ∷
      codes "p event mid e phase=3 target=n2 current=n1 related=null path=[n2,n1,n0]" ∷
      codes "p ok true" ∷
      codes "p ok (n0 document)" ∷
      [];
}

-- a passive listener, and an outer event of the owner's own
abbrev pub passive_and_outer : LiveExample
passive_and_outer = record {
  lines =
      codes "p new element div" ∷
      codes "p append n0 n1" ∷
      codes "p listen n1 e a call passive" ∷
      codes "p listen n1 f b call" ∷
      codes "p dispatch n1 e cancelable" ∷
      codes "p prevent" ∷
      codes "p prevented" ∷
      codes "p dispatch n1 f cancelable" ∷
      codes "p prevent 1" ∷
      codes "p prevent" ∷
      codes "p prevented 1" ∷
      codes "p stop-now 1" ∷
      codes "p return" ∷
      codes "p listen n1 e z log" ∷
      codes "p return" ∷
      [];
  answers =
      codes "p ok n1" ∷
      codes "p ok" ∷
      codes "p ok" ∷
      codes "p ok" ∷
      codes "p event a e phase=2 target=n1 current=n1 related=null path=[n1,n0]" ∷
      codes "p call cancelable" ∷
      codes "p ok" ∷
      codes "p ok false" ∷
      codes "p event b f phase=2 target=n1 current=n1 related=null path=[n1,n0]" ∷
      codes "p call cancelable" ∷
      codes "p ok" ∷
      codes "p ok" ∷
      codes "p ok false" ∷
      codes "p ok" ∷
      codes "p ok" ∷
      codes "p ok false" ∷
      codes "p ok" ∷
      codes "p ok" ∷
      codes "p ok true" ∷
      [];
}
