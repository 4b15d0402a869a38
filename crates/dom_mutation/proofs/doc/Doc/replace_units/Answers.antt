use Rattle.dom_mutation.proofs.Cited.{◌≡◌, true, subst, sym, replacing_data, kind_of, has_data}
use Rattle.dom_mutation.specs.Definitions.{DocState, name_in, owner_in, planned, trees_in}
use Rattle.dom_mutation.proofs.ReadyCalls.{planned-done}
use Rattle.dom_mutation.proofs.ReadyPlans.{ready-data}
use Rattle.dom_mutation.proofs.doc.Doc.replace_units.Goals as goal

pub replacing_data-requires-clause-may_come : goal.replacing_data-requires-clause-may_come
replacing_data-requires-clause-may_come c some =
    let x = c.args.node in (
      (c.self.invariant _).bounds,
      subst (λ (d : DocState). has_data (kind_of (trees_in d x) (name_in d x)) ≡ true) (sym c.self.view_is)
          (c.requires.may_come some),
    )

pub invariant_of-self : goal.invariant_of-self
invariant_of-self c =
    planned-done c.self.inside.parts c.args.self.now c.replacing_data.new.parts c.self.view_is
    (record { alone = c.laws.ensures.alone; parts = c.laws.ensures.parts; stand = c.laws.ensures.stand }) c.args.node
    c.requires.node_is_node (λ a. replacing_data (name_in a c.args.node) c.args.change.offset c.args.change.count c.args.change.units.items)
    (λ l i r. ready-data _ i r (name_in c.args.self.now c.args.node) c.args.change.offset c.args.change.count c.args.change.units.items c.requires.may_come)
    c.in-Ok.ensures c.self.invariant

pub returns-in-Ok : goal.returns-in-Ok
returns-in-Ok c =
    let x = c.args.node in
    subst (λ (d : DocState). c.replacing_data.new.parts ≡ planned (owner_in d x)
    (replacing_data (name_in d x) c.args.change.offset c.args.change.count c.args.change.units.items) d)
    c.self.view_is c.in-Ok.ensures
