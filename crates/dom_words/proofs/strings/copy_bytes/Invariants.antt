-- The units so far are the bytes.
use Rattle.dom_base.proofs.Std.{◌≡◌, take}
use Rattle.dom_words.proofs.strings.copy_bytes.Given as goal

abbrev pub invariant-loop-place : goal.invariant-loop-place
invariant-loop-place l = take l.place l.units ≡ take l.place l.bytes
