use Rattle.dom_mutation.proofs.Cited.{◌≡◌, ◌<◌, ℕ, length, Some, refl, subst, arith, nat_eq, same_Some, Owner, name_eq, after_split, split_at, EachRange}
use Rattle.dom_mutation.proofs.Cited.{BothEnds, ranges_of, split-named, name_at, owner_in, contents, all_tables}
use Rattle.dom_mutation.proofs.RangeRules.{split_rule}
use Rattle.dom_mutation.proofs.RangedFits.{split_fits}
use Rattle.dom_mutation.proofs.RangedStates.{MovesEnds, ends_moved}
use Rattle.dom_mutation.proofs.Shown.{known}
use Rattle.dom_mutation.proofs.parts.Parts.split_at.Goals as goal
use Rattle.dom_ranges.specs.Definitions.{Fits}

pub on_split-requires : goal.on_split-requires
on_split-requires c p is =
    let f = c.self.inside.trees.forest in
    subst (λ (p : ℕ × ℕ). (q : Owner) → EachRange (BothEnds (λ b. Fits (after_split nat_eq c.args.node c.args.offset c.args.new p.0 p.1 b)))
    (ranges_of c.self.inside.ranges q)) (same_Some (c.args.parent, c.args.index) p is)
    (split_fits (contents f.names f.trees (all_tables c.self.inside)) c.self.inside.ranges c.self.invariant.ranges
    (name_at f.names c.args.node).owner c.args.node c.args.offset c.args.new c.args.parent c.args.index (let few = c.requires.few in omega arith))

-- what the step leaves
left : (c : goal.After-on_split) → MovesEnds c.self.inside.trees.forest (all_tables c.self.inside) c.args.self.now c.on_split.new.self c.args.node
    (λ ns. split_at (name_at ns c.args.node) c.args.offset (name_at ns c.args.new) (name_at ns c.args.parent) c.args.index)
left c =
    let f = c.self.inside.trees.forest in
    let x = name_at f.names c.args.node in
    let y = name_at f.names c.args.new in
    let p = name_at f.names c.args.parent in
    let is_node = λ (k : ℕ) (k< : k < length c.args.self.now.names). known f c.self.invariant c.self.view_is (λ e. k < length e.names) k< in
    let own = λ (k : ℕ) (is : owner_in c.args.self.now k ≡ owner_in c.args.self.now c.args.node).
    known f c.self.invariant c.self.view_is (λ e. owner_in e k ≡ owner_in e c.args.node) is in
    ends_moved f c.self.invariant c.self.view_is c.law_nodes_stand_once.ensures.distinct c.args.node c.requires.node_is_node
    (after_split nat_eq c.args.node c.args.offset c.args.new c.args.parent c.args.index) (after_split name_eq x c.args.offset y p c.args.index)
    (λ ns. split_at (name_at ns c.args.node) c.args.offset (name_at ns c.args.new) (name_at ns c.args.parent) c.args.index) tt refl
    (split-named f.names c.law_nodes_stand_once.ensures.distinct c.args.node c.args.offset c.args.new c.args.parent c.args.index
    (is_node c.args.node c.requires.node_is_node) (is_node c.args.new c.requires.new_is_node) (is_node c.args.parent c.requires.parent_is_node))
    (split_rule x.owner p (own c.args.parent c.requires.parent_owner) c.args.index x c.args.offset y refl (own c.args.new c.requires.new_owner))
    (c.on_split.ensures.child (c.args.parent, c.args.index) (λ j. Some (c.args.parent, c.args.index)))
    (split_fits (contents f.names f.trees (all_tables c.self.inside)) c.self.inside.ranges c.self.invariant.ranges x.owner c.args.node c.args.offset
    c.args.new c.args.parent c.args.index (let few = c.requires.few in omega arith))

pub invariant_of-self : goal.invariant_of-self
invariant_of-self c = (left c).held

pub returns : goal.returns
returns c = (left c).state
