use Rattle.dom_ranges.proofs.Cited.{◌≡◌, ◌⊎◌, ℕ, ◌<◌, ◌≤◌, length, get_or, is_chosen, IsListed, IsMovedPart, RangeEnd}
use Rattle.dom_ranges.proofs.Parts.{up_to}
use Rattle.dom_ranges.proofs.moving.move_part.Given as goal

abbrev pub invariant-loop-i : goal.invariant-loop-i
invariant-loop-i g l = record {
  moved : IsMovedPart (g.C.Change.rule l.change) (g.C.Change.target l.change) l.initial.ends l.ends (is_chosen (up_to l.fn.part.first l.i) l.fn.skipped);
  listed : IsListed l.live l.ends;
  start : (l.i ≡ l.fn.part.first) ⊎ (l.i ≤ l.fn.part.behind);
  up : l.changed.behind ≤ l.i;
  within : l.changed.behind ≤ length l.initial.ends;
  nodes : (k : ℕ) (d : RangeEnd) → (k < l.changed.first) ⊎ (l.changed.behind ≤ k) → (get_or l.ends k d).node ≡ (get_or l.initial.ends k d).node;
}
