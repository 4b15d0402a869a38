use Rattle.dom_base.proofs.Std.{◌≡◌, ◌≤◌, ◌+◌, ◌-◌, length, nat_eq, option_map, position}
use Rattle.dom_slots.proofs.key_lists.behind_others.Given as goal

abbrev pub invariant-loop-list : goal.invariant-loop-list
invariant-loop-list l = record {
  within : length l.list ≤ length l.fn.list;
  place : position (λ other. nat_eq other l.node) l.fn.list ≡ option_map (λ at. length l.fn.list - length l.list + at)
      (position (λ other. nat_eq other l.node) l.list);
}

abbrev pub decreases-loop-list : goal.decreases-loop-list
decreases-loop-list l = length l.list
