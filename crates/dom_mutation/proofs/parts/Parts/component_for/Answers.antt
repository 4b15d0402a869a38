use Rattle.dom_mutation.proofs.Cited.{◌<◌, ◌≤◌, ℕ, sym, ap, ◌∙◌, inl, inr, arith, is_some, eq-or-lt_of_le, NodeName, may_be_host, component_made}
use Rattle.dom_mutation.proofs.Cited.{name_at, all_tables}
use Rattle.dom_model.proofs.Model.{max_depth}
use Rattle.dom_mutation.proofs.Attachable.{refused_host, refused_name, refused_depth, refused_limit, taken, may_of_depth, components_of, count_at, next_is_for}
use Rattle.dom_mutation.proofs.parts.Parts.component_for.Goals as goal
use Rattle.dom_mutation.proofs.parts.Parts.component_for.Goals.{then-is_some-via-then-is_some, then-is_some-via-else-is_some+then-not-may_be_host}

-- the limit of depths is a number
shallow : (n : ℕ) → n < 8 → n < max_depth
unfolding max_depth
shallow n h = h

deep : (n : ℕ) → 8 ≤ n → max_depth ≤ n
unfolding max_depth
deep n h = h

pub returns-then-is_some-clause-refusal : goal.returns-then-is_some-clause-refusal
returns-then-is_some-clause-refusal c =
    elim c.then-is_some.branch [
      | then-is_some-via-then-is_some w ↦
          refused_host c.self.inside.trees.forest (all_tables c.self.inside) c.self.invariant c.law_nodes_stand_once.ensures.distinct c.args.self.now
          c.self.view_is c.args.host c.requires
          (sym (ap is_some c.root_of.ensures) ∙ (sym c.is_some.ensures ∙ w.if-is_some.true))
      | then-is_some-via-else-is_some+then-not-may_be_host w ↦
          refused_name c.self.inside.trees.forest (all_tables c.self.inside) c.self.invariant c.law_nodes_stand_once.ensures.distinct c.args.self.now
          c.self.view_is c.args.host c.requires
          (sym (ap is_some c.root_of.ensures) ∙ (sym c.is_some.ensures ∙ w.if-is_some.false))
          (ap may_be_host (sym w.element.ensures) ∙ (sym w.may_be_host.ensures ∙ w.if-not-may_be_host.true))
    ]

pub returns-then-depth-ge-MAX_DEPTH-clause-refusal : goal.returns-then-depth-ge-MAX_DEPTH-clause-refusal
returns-then-depth-ge-MAX_DEPTH-clause-refusal c =
    refused_depth c.self.inside.trees.forest (all_tables c.self.inside) c.self.invariant c.law_nodes_stand_once.ensures.distinct c.args.self.now
    c.self.view_is c.args.host c.requires
    (sym (ap is_some c.root_of.ensures) ∙ (sym c.is_some.ensures ∙ c.if-is_some.false))
    (ap may_be_host (sym c.element.ensures) ∙ (sym c.may_be_host.ensures ∙ c.if-not-may_be_host.false))
    c.name-maker.ensures.at c.depth.ensures (deep c.depth.result c.if-depth-ge-MAX_DEPTH.true)

pub count_made-number-requires-clause-deep : goal.count_made-number-requires-clause-deep
count_made-number-requires-clause-deep c =
    let short = shallow c.depth.result c.if-depth-ge-MAX_DEPTH.false in let depth = c.depth.ensures in omega (arith, short, depth)

pub count_made-number-requires-clause-run : goal.count_made-number-requires-clause-run
count_made-number-requires-clause-run c =
    components_of c.self.inside.trees.forest (all_tables c.self.inside) c.self.invariant c.law_nodes_stand_once.ensures.distinct c.args.self.now
    c.self.view_is c.args.host c.requires c.name-maker.ensures.at
    (may_of_depth c.self.inside.trees.forest (all_tables c.self.inside) c.self.invariant c.law_nodes_stand_once.ensures.distinct c.args.self.now
    c.self.view_is c.args.host c.requires c.name-maker.result c.name-maker.ensures.at c.depth.result c.depth.ensures
    (shallow c.depth.result c.if-depth-ge-MAX_DEPTH.false))

pub returns-then-number-eq-MAX_COMPONENTS-clause-refusal : goal.returns-then-number-eq-MAX_COMPONENTS-clause-refusal
returns-then-number-eq-MAX_COMPONENTS-clause-refusal c =
    let may = may_of_depth c.self.inside.trees.forest (all_tables c.self.inside) c.self.invariant c.law_nodes_stand_once.ensures.distinct c.args.self.now
    c.self.view_is c.args.host c.requires c.name-maker.result c.name-maker.ensures.at c.depth.result c.depth.ensures
    (shallow c.depth.result c.if-depth-ge-MAX_DEPTH.false) in
    let number = count_at c.self.inside.trees.forest (all_tables c.self.inside) c.self.invariant c.law_nodes_stand_once.ensures.distinct c.args.self.now
    c.self.view_is c.args.host c.requires c.name-maker.ensures.at may c.count_made-number.result
    c.count_made-number.ensures.made c.count_made-number.ensures.next c.count_made-number.ensures.few in
    refused_limit c.self.inside.trees.forest (all_tables c.self.inside) c.self.invariant c.law_nodes_stand_once.ensures.distinct c.args.self.now
    c.self.view_is c.args.host c.requires
    (sym (ap is_some c.root_of.ensures) ∙ (sym c.is_some.ensures ∙ c.if-is_some.false))
    (ap may_be_host (sym c.element.ensures) ∙ (sym c.may_be_host.ensures ∙ c.if-not-may_be_host.false))
    c.count_made-number.result number c.if-number-eq-MAX_COMPONENTS.true

pub component_made-requires-clause-deep : goal.component_made-requires-clause-deep
component_made-requires-clause-deep c =
    let short = shallow c.depth.result c.if-depth-ge-MAX_DEPTH.false in let depth = c.depth.ensures in omega (arith, short, depth)

pub returns-clause-component : goal.returns-clause-component
returns-clause-component c =
    let may = may_of_depth c.self.inside.trees.forest (all_tables c.self.inside) c.self.invariant c.law_nodes_stand_once.ensures.distinct c.args.self.now
    c.self.view_is c.args.host c.requires c.name-maker.result c.name-maker.ensures.at c.depth.result c.depth.ensures
    (shallow c.depth.result c.if-depth-ge-MAX_DEPTH.false) in
    let number = count_at c.self.inside.trees.forest (all_tables c.self.inside) c.self.invariant c.law_nodes_stand_once.ensures.distinct c.args.self.now
    c.self.view_is c.args.host c.requires c.name-maker.ensures.at may c.count_made-number.result
    c.count_made-number.ensures.made c.count_made-number.ensures.next c.count_made-number.ensures.few in
    c.component_made.ensures
    ∙ (ap (λ (y : NodeName). component_made y.owner c.count_made-number.result) (sym c.name-maker.ensures.at)
    ∙ (ap (component_made (name_at c.self.inside.trees.forest.names c.args.host).owner) number
    ∙ sym (next_is_for c.self.inside.trees.forest (all_tables c.self.inside) c.self.invariant c.law_nodes_stand_once.ensures.distinct c.args.self.now
    c.self.view_is c.args.host c.requires)))

pub returns-clause-refusal : goal.returns-clause-refusal
returns-clause-refusal c =
    let may = may_of_depth c.self.inside.trees.forest (all_tables c.self.inside) c.self.invariant c.law_nodes_stand_once.ensures.distinct c.args.self.now
    c.self.view_is c.args.host c.requires c.name-maker.result c.name-maker.ensures.at c.depth.result c.depth.ensures
    (shallow c.depth.result c.if-depth-ge-MAX_DEPTH.false) in
    let number = count_at c.self.inside.trees.forest (all_tables c.self.inside) c.self.invariant c.law_nodes_stand_once.ensures.distinct c.args.self.now
    c.self.view_is c.args.host c.requires c.name-maker.ensures.at may c.count_made-number.result
    c.count_made-number.ensures.made c.count_made-number.ensures.next c.count_made-number.ensures.few in
    taken c.self.inside.trees.forest (all_tables c.self.inside) c.self.invariant c.law_nodes_stand_once.ensures.distinct c.args.self.now
    c.self.view_is c.args.host c.requires
    (sym (ap is_some c.root_of.ensures) ∙ (sym c.is_some.ensures ∙ c.if-is_some.false))
    (ap may_be_host (sym c.element.ensures) ∙ (sym c.may_be_host.ensures ∙ c.if-not-may_be_host.false))
    may c.count_made-number.result number (let few = c.count_made-number.ensures.few in let other = c.if-number-eq-MAX_COMPONENTS.false in
    elim (eq-or-lt_of_le few) [ inl e ↦ absurd (other e) | inr h ↦ h ])
