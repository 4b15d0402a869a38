-- The names so far are the parts so far.
use Rattle.std.specs.Prelude.{◌≡◌, map, string_bytes}
use Rattle.std.specs.Str.Lossy.{utf8_lossy}
use Rattle.dom_calls.proofs.observing.names_of.Given as goal

abbrev pub invariant-loop-name : goal.invariant-loop-name
invariant-loop-name l = map string_bytes l.names.items ≡ map utf8_lossy (map (λ x. x.now) l.yielded)
