use Rattle.dom_mutation.proofs.ReadyCalls.{range-put}
use Rattle.dom_mutation.proofs.Cited.{rules, ◌∙◌, range_from, at, from_to, all_tables, state_from, with_live, name_in, ◌≡◌, stepped, set_range, named_range}
use Rattle.dom_mutation.proofs.RangeSteps.{put_held, put_made}
use Rattle.dom_mutation.proofs.RangeCommands.{range_is}
use Rattle.dom_mutation.proofs.doc.Doc.range_put.Goals as goal

pub write-requires : goal.write-requires
write-requires c = range_is c.parts.inside.trees.forest c.parts.invariant (c.parts.view_is ∙ c.self.view_is) c.args.owner c.args.number ∙ c.requires.there

pub invariant_of-parts : goal.invariant_of-parts
invariant_of-parts c =
    put_held c.parts.inside.trees.forest c.parts.invariant (c.parts.view_is ∙ c.self.view_is) c.args.owner c.args.number c.requires.there
    (range_from c.args.points) (
      record { node = c.requires.start_is_node; owner = c.requires.own_start; fits = search rules },
      record { node = c.requires.end_is_node; owner = c.requires.own_end; fits = search rules },
    )
    c.write.new.self c.write.ensures

-- the step that was made
made : (c : goal.After-write) → state_from c.parts.inside.trees.forest.names c.parts.inside.trees.forest.trees
    (with_live (all_tables c.parts.inside) c.write.new.self)
    ≡ stepped c.args.owner (set_range c.args.number (named_range c.args.self.now.names (range_from c.args.points))) c.args.self.now
made c =
    put_made c.parts.inside.trees.forest c.parts.invariant (c.parts.view_is ∙ c.self.view_is) c.args.owner c.args.number c.requires.there
    (range_from c.args.points) (
      record { node = c.requires.start_is_node; owner = c.requires.own_start; fits = search rules },
      record { node = c.requires.end_is_node; owner = c.requires.own_end; fits = search rules },
    )
    c.write.new.self c.write.ensures

pub returns : goal.returns
returns c = record { state = made c }

pub invariant_of-self : goal.invariant_of-self
invariant_of-self c =
    let d = c.args.self.now in
    let start = c.args.points.start in
    let end = c.args.points.end in
    range-put d (state_from c.parts.inside.trees.forest.names c.parts.inside.trees.forest.trees (with_live (all_tables c.parts.inside) c.write.new.self))
    (record { alone = c.laws.ensures.alone; parts = c.laws.ensures.parts; stand = c.laws.ensures.stand }) c.laws.ensures.ready c.args.owner
    c.args.number (from_to (at (name_in d start.0) start.1) (at (name_in d end.0) end.1)) (made c) c.requires.may_stand
