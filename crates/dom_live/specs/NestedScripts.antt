-- Scripts of calls within calls. Their answers were written by hand, after the DOM Standard (2.9 Dispatching events) and the rules of returns.
use Rattle.std.specs.Prelude.{codes, [], ◌∷◌}
use Rattle.dom_live.specs.Examples.{LiveExample}

-- in a callback of the page a component sends an event out, whose listener calls the page again
abbrev pub sent_out_within_call : LiveExample
sent_out_within_call = record {
  lines =
      codes "p new element div" ∷
      codes "p append n0 n1" ∷
      codes "p attach n1" ∷
      codes "p new element a" ∷
      codes "p append n1 n2" ∷
      codes "p listen n2 e at call" ∷
      codes "p listen n0 f root call" ∷
      codes "p listen n1 e over log" ∷
      codes "c1 new element b" ∷
      codes "c1 append m0 m1" ∷
      codes "p dispatch n2 e bubbles" ∷
      codes "c1 dispatch m1 f bubbles composed" ∷
      codes "c1 return" ∷
      codes "p prevented 1" ∷
      codes "p return" ∷
      codes "p return" ∷
      codes "p return" ∷
      [];
  answers =
      codes "p ok n1" ∷
      codes "p ok" ∷
      codes "p ok c1" ∷
      codes "p ok n2" ∷
      codes "p ok" ∷
      codes "p ok" ∷
      codes "p ok" ∷
      codes "p ok" ∷
      codes "c1 ok m1" ∷
      codes "c1 ok" ∷
      codes "p event at e phase=2 target=n2 current=n2 related=null path=[n2,n1,n0]" ∷
      codes "p call bubbles" ∷
      codes "p event root f phase=3 target=n1 current=n0 related=null path=[n1,n0]" ∷
      codes "p call bubbles composed" ∷
      codes "c1 ! unknown" ∷
      codes "p ok false" ∷
      codes "p ok" ∷
      codes "c1 ok true" ∷
      codes "p ok" ∷
      codes "p event over e phase=3 target=n2 current=n1 related=null path=[n2,n1,n0]" ∷
      codes "p ok true" ∷
      codes "p ! unknown" ∷
      [];
}

-- returns and checkpoints out of order are refused, and a call of another is returned first
abbrev pub out_of_turn : LiveExample
out_of_turn = record {
  lines =
      codes "p new element div" ∷
      codes "p append n0 n1" ∷
      codes "p attach n1" ∷
      codes "p listen n1 e at call" ∷
      codes "c1 listen m0 g in call" ∷
      codes "p dispatch n1 e" ∷
      codes "c1 dispatch m0 g cancelable" ∷
      codes "p return" ∷
      codes "p ." ∷
      codes "." ∷
      codes "c1 prevent" ∷
      codes "p micro x" ∷
      codes "c1 return" ∷
      codes "c1 ." ∷
      codes "p return" ∷
      codes "." ∷
      [];
  answers =
      codes "p ok n1" ∷
      codes "p ok" ∷
      codes "p ok c1" ∷
      codes "p ok" ∷
      codes "c1 ok" ∷
      codes "p event at e phase=2 target=n1 current=n1 related=null path=[n1,n0]" ∷
      codes "p call" ∷
      codes "c1 event in g phase=2 target=m0 current=m0 related=null path=[m0]" ∷
      codes "c1 call cancelable" ∷
      codes "p ! busy" ∷
      codes "p ! busy" ∷
      codes "! busy" ∷
      codes "c1 ok" ∷
      codes "p ok" ∷
      codes "c1 ok" ∷
      codes "c1 ok false" ∷
      codes "c1 ! busy" ∷
      codes "p ok" ∷
      codes "p ok true" ∷
      codes "p micro x" ∷
      [];
}

-- a listener is called again within its call; stop, prevent and `once` in the inner and the outer event
abbrev pub called_again : LiveExample
called_again = record {
  lines =
      codes "p new element div" ∷
      codes "p append n0 n1" ∷
      codes "p listen n1 e a call" ∷
      codes "p listen n1 e o call once" ∷
      codes "p listen n1 e z log" ∷
      codes "p dispatch n1 e cancelable" ∷
      codes "p dispatch n1 e" ∷
      codes "p stop-now" ∷
      codes "p return" ∷
      codes "p return" ∷
      codes "p dispatch n1 e" ∷
      codes "p prevent 1" ∷
      codes "p return" ∷
      codes "p return" ∷
      [];
  answers =
      codes "p ok n1" ∷
      codes "p ok" ∷
      codes "p ok" ∷
      codes "p ok" ∷
      codes "p ok" ∷
      codes "p event a e phase=2 target=n1 current=n1 related=null path=[n1,n0]" ∷
      codes "p call cancelable" ∷
      codes "p event a e phase=2 target=n1 current=n1 related=null path=[n1,n0]" ∷
      codes "p call" ∷
      codes "p ok" ∷
      codes "p ok" ∷
      codes "p ok true" ∷
      codes "p ok" ∷
      codes "p event o e phase=2 target=n1 current=n1 related=null path=[n1,n0]" ∷
      codes "p call cancelable" ∷
      codes "p event a e phase=2 target=n1 current=n1 related=null path=[n1,n0]" ∷
      codes "p call" ∷
      codes "p ok" ∷
      codes "p ok" ∷
      codes "p event z e phase=2 target=n1 current=n1 related=null path=[n1,n0]" ∷
      codes "p ok true" ∷
      codes "p ok" ∷
      codes "p event z e phase=2 target=n1 current=n1 related=null path=[n1,n0]" ∷
      codes "p ok false" ∷
      [];
}
