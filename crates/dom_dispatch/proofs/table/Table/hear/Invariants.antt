use Rattle.dom_dispatch.proofs.Cited.{◌≡◌, ◌++◌, filter, take, listeners_in, hears_at, picked}
use Rattle.dom_dispatch.proofs.table.Table.hear.Given as goal

abbrev pub invariant-loop-place : goal.invariant-loop-place
invariant-loop-place l = listeners_in l.heard.items ≡ listeners_in l.fn.heard.items ++ filter (hears_at l.node l.event l.capturing)
    (listeners_in (picked l.self.entries.items (take l.place-index l.places)))
