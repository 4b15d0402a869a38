-- The front so far and the bytes left are all bytes. What is left of the front stands there where the whole front stands in front of all.
use Rattle.dom_base.proofs.Std.{◌≡◌, ◌++◌, take, drop, nat_eq, starts_with}
use Rattle.dom_words.proofs.words.behind_front.Given as goal

abbrev pub invariant-loop-byte : goal.invariant-loop-byte
invariant-loop-byte l = record {
  front : l.bytes ≡ take l.byte-index l.front ++ l.rest;
  left : starts_with nat_eq l.rest (drop l.byte-index l.front) ≡ starts_with nat_eq l.bytes l.front;
}
