use Rattle.dom_mutation.proofs.Cited.{◌≡◌, ◌+◌, ◌<◌, ◌^◌, ℕ, length, refl, ap, subst, ◌∙◌, arith, nat_eq, name_eq, after_join, join_at, index_of, length_of}
use Rattle.dom_mutation.proofs.Cited.{part_of, join-named, NamedTrees, name_at, AllTables, DocState, IsDoc, name_in, owner_in, trees_in, state_from, stepped}
use Rattle.dom_mutation.proofs.Cited.{all_tables}
use Rattle.dom_mutation.proofs.RangeRules.{join_rule}
use Rattle.dom_mutation.proofs.RangedStates.{MovesEnds, ends_moved, join_asks}
use Rattle.dom_mutation.proofs.Shown.{known, shown}
use Rattle.dom_mutation.proofs.parts.Parts.join_at.Goals as goal

-- a length that was read is a number of the code's
module _ (f : NamedTrees) {tables : AllTables} (held : IsDoc f.names f.trees tables) {d : DocState} (is_d : state_from f.names f.trees tables ≡ d) where
  few : (k n : ℕ) → n ≡ length_of f.trees (name_at f.names k) → n < 2 ^ 64 → length_of (trees_in d k) (name_in d k) < 2 ^ 64
  few k n is small = subst (λ (m : ℕ). m < 2 ^ 64) (shown f held is_d length_of (λ ns. n) k is (λ r. r.size)) small

pub on_join_child-requires-clause-fits : goal.on_join_child-requires-clause-fits
on_join_child-requires-clause-fits c =
    let f = c.self.inside.trees.forest in
    join_asks f c.self.invariant c.self.view_is c.args.first c.args.size c.args.next c.requires.first_is_node c.requires.next_owner c.requires.bounds
    c.requires.fits (few f c.self.invariant c.self.view_is c.args.first c.length-whole.result c.length-whole.ensures c.length-whole.type_inv)
    c.args.parent (index_of f.trees (name_at f.names c.args.next))

-- what the step leaves
left : (c : goal.After-on_join_child) → MovesEnds c.self.inside.trees.forest (all_tables c.self.inside) c.args.self.now c.on_join_child.new.self
    c.args.first (λ ns. join_at (name_at ns c.args.first) c.args.size (name_at ns c.args.next) (name_at ns c.args.parent)
    (index_of c.self.inside.trees.forest.trees (name_at c.self.inside.trees.forest.names c.args.next)))
left c =
    let f = c.self.inside.trees.forest in
    let x = name_at f.names c.args.first in
    let y = name_at f.names c.args.next in
    let p = name_at f.names c.args.parent in
    let at = index_of f.trees y in
    let next_owner = known f c.self.invariant c.self.view_is (λ e. owner_in e c.args.next ≡ owner_in e c.args.first) c.requires.next_owner in
    let parent_owner = known f c.self.invariant c.self.view_is (λ e. owner_in e c.args.parent ≡ owner_in e c.args.first) c.requires.parent_owner in
    ends_moved f c.self.invariant c.self.view_is c.law_nodes_stand_once.ensures.distinct c.args.first c.requires.first_is_node
    (after_join nat_eq c.args.first c.args.size c.args.next c.args.parent at) (after_join name_eq x c.args.size y p at)
    (λ ns. join_at (name_at ns c.args.first) c.args.size (name_at ns c.args.next) (name_at ns c.args.parent) at) tt refl
    (join-named f.names c.law_nodes_stand_once.ensures.distinct c.args.first c.args.size c.args.next c.args.parent at
    (known f c.self.invariant c.self.view_is (λ e. c.args.first < length e.names) c.requires.first_is_node)
    (known f c.self.invariant c.self.view_is (λ e. c.args.next < length e.names) c.requires.next_is_node)
    (known f c.self.invariant c.self.view_is (λ e. c.args.parent < length e.names) c.requires.parent_is_node))
    (join_rule x.owner p parent_owner at x c.args.size y refl next_owner) c.on_join_child.ensures
    (join_asks f c.self.invariant c.self.view_is c.args.first c.args.size c.args.next c.requires.first_is_node c.requires.next_owner c.requires.bounds
    c.requires.fits (few f c.self.invariant c.self.view_is c.args.first c.length-whole.result c.length-whole.ensures c.length-whole.type_inv) c.args.parent at)

pub invariant_of-self : goal.invariant_of-self
invariant_of-self c = (left c).held

pub returns-clause-state : goal.returns-clause-state
returns-clause-state c =
    let f = c.self.inside.trees.forest in
    let d = c.args.self.now in
    let at = index_of f.trees (name_at f.names c.args.next) in
    (left c).state
    ∙ ap (λ (i : ℕ). stepped (owner_in d c.args.first) (join_at (name_in d c.args.first) c.args.size (name_in d c.args.next) (name_in d c.args.parent) i) d)
    (shown f c.self.invariant c.self.view_is index_of (λ ns. at) c.args.next (λ j. at) (λ r. r.index)
    ∙ ap (λ o. index_of (part_of d.world o).trees (name_in d c.args.next)) c.requires.next_owner)

pub overflow_add-joined : goal.overflow_add-joined
overflow_add-joined c =
    let f = c.self.inside.trees.forest in
    let d = c.args.self.now in
    let next = shown f c.self.invariant c.self.view_is length_of (λ ns. c.length.result) c.args.next c.length.ensures (λ r. r.size) in
    let own = ap (λ o. length_of (part_of d.world o).trees (name_in d c.args.next)) c.requires.next_owner in
    let whole = shown f c.self.invariant c.self.view_is length_of (λ ns. c.length-whole.result) c.args.first c.length-whole.ensures (λ r. r.size) in
    let fits = c.requires.fits in
    let small = c.length-whole.type_inv in
    omega (arith, next, own, whole, fits, small)

pub returns-clause-joined : goal.returns-clause-joined
returns-clause-joined c =
    let f = c.self.inside.trees.forest in
    let d = c.args.self.now in
    ap (λ (n : ℕ). c.args.size + n)
    (shown f c.self.invariant c.self.view_is length_of (λ ns. c.length.result) c.args.next c.length.ensures (λ r. r.size) ∙
    ap (λ o. length_of (part_of d.world o).trees (name_in d c.args.next)) c.requires.next_owner)
