-- Scripts of live microtasks, observers and slots, and of the end of input, with the answers of a model apart from these definitions; those of the first
-- and of `slotchange` are also those of a browser with JavaScript callbacks in place of lines.
use Rattle.std.specs.Prelude.{codes, [], ◌∷◌}
use Rattle.dom_live.specs.Examples.{LiveExample}

-- microtasks wait for the checkpoint, and are live themselves, as observers are
abbrev pub tasks_wait : LiveExample
tasks_wait = record {
  lines =
      codes "p new element div" ∷
      codes "p append n0 n1" ∷
      codes "p observer call" ∷
      codes "p observer call" ∷
      codes "p observe o0 n1 attributes" ∷
      codes "p observe o1 n1 childList" ∷
      codes "p listen n1 e a call" ∷
      codes "p dispatch n1 e" ∷
      codes "p micro x call" ∷
      codes "p set n1 id \"1\"" ∷
      codes "p return" ∷
      codes "p ." ∷
      codes "p new element b" ∷
      codes "p append n1 n2" ∷
      codes "p micro y" ∷
      codes "p return" ∷
      codes "p return" ∷
      codes "p return" ∷
      [];
  answers =
      codes "p ok n1" ∷
      codes "p ok" ∷
      codes "p ok o0" ∷
      codes "p ok o1" ∷
      codes "p ok" ∷
      codes "p ok" ∷
      codes "p ok" ∷
      codes "p event a e phase=2 target=n1 current=n1 related=null path=[n1,n0]" ∷
      codes "p call" ∷
      codes "p ok" ∷
      codes "p ok" ∷
      codes "p ok" ∷
      codes "p ok true" ∷
      codes "p micro x" ∷
      codes "p call" ∷
      codes "p ok n2" ∷
      codes "p ok" ∷
      codes "p ok" ∷
      codes "p ok" ∷
      codes "p record o0 attributes n1 name=id old=null" ∷
      codes "p call o0" ∷
      codes "p ok" ∷
      codes "p record o1 childList n1 added=[n2] removed=[] prev=null next=null" ∷
      codes "p call o1" ∷
      codes "p ok" ∷
      codes "p micro y" ∷
      codes "p ok" ∷
      [];
}

-- the tasks of the page and of a component run in one queue
abbrev pub tasks_of_two : LiveExample
tasks_of_two = record {
  lines =
      codes "p new element div" ∷
      codes "p append n0 n1" ∷
      codes "p attach n1" ∷
      codes "p listen n1 e a call" ∷
      codes "p ." ∷
      codes "c1 micro m call" ∷
      codes "c1 dispatch m0 e composed" ∷
      codes "p micro x" ∷
      codes "p return" ∷
      codes "c1 micro y" ∷
      codes "p tree n1" ∷
      codes "c1 dispatch m0 e composed" ∷
      codes "p micro z" ∷
      codes "p return" ∷
      codes "c1 return" ∷
      codes "p ." ∷
      [];
  answers =
      codes "p ok n1" ∷
      codes "p ok" ∷
      codes "p ok c1" ∷
      codes "p ok" ∷
      codes "p ok" ∷
      codes "c1 ok" ∷
      codes "p event a e phase=2 target=n1 current=n1 related=null path=[n1,n0]" ∷
      codes "p call composed" ∷
      codes "p ok" ∷
      codes "p ok" ∷
      codes "c1 ok true" ∷
      codes "c1 ok" ∷
      codes "p ok (n1 element div)" ∷
      codes "p event a e phase=2 target=n1 current=n1 related=null path=[n1,n0]" ∷
      codes "p call composed" ∷
      codes "p ok" ∷
      codes "p ok" ∷
      codes "c1 ok true" ∷
      codes "c1 ! unknown" ∷
      codes "c1 micro m" ∷
      codes "c1 call" ∷
      codes "p micro x" ∷
      codes "c1 micro y" ∷
      codes "p micro z" ∷
      codes "p ok" ∷
      [];
}

-- a change in the callback of `slotchange` makes another notification
abbrev pub live_slotchange : LiveExample
live_slotchange = record {
  lines =
      codes "p new element div" ∷
      codes "p append n0 n1" ∷
      codes "p attach n1" ∷
      codes "p new element a" ∷
      codes "p append n1 n2" ∷
      codes "p ." ∷
      codes "c1 new element slot" ∷
      codes "c1 append m0 m1" ∷
      codes "c1 listen m1 slotchange s call" ∷
      codes "c1 ." ∷
      codes "c1 set m1 name \"k\"" ∷
      codes "c1 return" ∷
      codes "c1 return" ∷
      codes "c1 assigned m1" ∷
      [];
  answers =
      codes "p ok n1" ∷
      codes "p ok" ∷
      codes "p ok c1" ∷
      codes "p ok n2" ∷
      codes "p ok" ∷
      codes "p ok" ∷
      codes "c1 ok m1" ∷
      codes "c1 ok" ∷
      codes "c1 ok" ∷
      codes "c1 event s slotchange phase=2 target=m1 current=m1 related=null path=[m1,m0]" ∷
      codes "c1 call bubbles" ∷
      codes "c1 ok" ∷
      codes "c1 ok" ∷
      codes "c1 event s slotchange phase=2 target=m1 current=m1 related=null path=[m1,m0]" ∷
      codes "c1 call bubbles" ∷
      codes "c1 ok" ∷
      codes "c1 ok" ∷
      codes "c1 ok []" ∷
      [];
}

-- the end of input in a call
abbrev pub end_in_call : LiveExample
end_in_call = record {
  lines =
      codes "p new element div" ∷
      codes "p append n0 n1" ∷
      codes "p listen n1 e a call" ∷
      codes "p listen n1 e b log" ∷
      codes "p micro x" ∷
      codes "p dispatch n1 e cancelable" ∷
      codes "p prevent" ∷
      [];
  answers =
      codes "p ok n1" ∷
      codes "p ok" ∷
      codes "p ok" ∷
      codes "p ok" ∷
      codes "p ok" ∷
      codes "p event a e phase=2 target=n1 current=n1 related=null path=[n1,n0]" ∷
      codes "p call cancelable" ∷
      codes "p ok" ∷
      codes "p event b e phase=2 target=n1 current=n1 related=null path=[n1,n0]" ∷
      codes "p ok false" ∷
      codes "p micro x" ∷
      [];
}
