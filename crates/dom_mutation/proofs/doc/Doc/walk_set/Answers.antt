use Rattle.dom_mutation.proofs.Beside.{ready-beside}
use Rattle.dom_mutation.proofs.Cited.{◌≡◌, ◌<◌, length, slice_get, slice_set, Command, own, nothing, name_at, cursors_of, owner_in, all_tables, was_some, ◌∙◌}
use Rattle.dom_mutation.proofs.Cited.{refl}
use Rattle.dom_mutation.proofs.Shown.{known}
use Rattle.dom_mutation.proofs.Cursors.{walk_set_effect}
use Rattle.dom_mutation.proofs.CursorCommands.{there_walk, walk_there, writes, held_written, walk_moved}
use Rattle.dom_mutation.proofs.doc.Doc.walk_set.Goals as goal

pub set_walker-requires : goal.set_walker-requires
set_walker-requires c =
    let f = c.parts.inside.trees.forest in
    walk_there f c.parts.invariant (c.parts.view_is ∙ c.self.view_is) c.args.owner c.args.number c.requires.there

pub invariant_of-parts : goal.invariant_of-parts
invariant_of-parts c =
    let f = c.parts.inside.trees.forest in
    let there = there_walk f c.parts.invariant (c.parts.view_is ∙ c.self.view_is) c.args.owner c.args.number c.requires.there in
    let t = (all_tables c.parts.inside).each c.args.owner in
    let item = was_some (slice_get t.walkers c.args.number)
    (walk_there f c.parts.invariant (c.parts.view_is ∙ c.self.view_is) c.args.owner c.args.number c.requires.there) in
    let kept = (c.parts.invariant.own c.args.owner).walkers c.args.number item.0 item.1 in
    let current = known f c.parts.invariant (c.parts.view_is ∙ c.self.view_is) (λ e. c.args.current < length e.names) c.requires.current_is_node in
    let own_current = known f c.parts.invariant (c.parts.view_is ∙ c.self.view_is) (λ e. owner_in e c.args.current ≡ c.args.owner) c.requires.own in
    held_written f c.parts.invariant (c.parts.view_is ∙ c.self.view_is) c.args.owner there
    (cursors_of c.set_walker.new.self) (record t { walkers = slice_set t.walkers c.args.number (record item.0 { current = c.args.current }) })
    (c.set_walker.ensures item.0 item.1)
    (walk_moved f c.parts.invariant (c.parts.view_is ∙ c.self.view_is) c.args.owner
    c.args.number item.0 (record item.0 { current = c.args.current }) item.1
    (record { stands = record { root = kept.stands.root; current = current }; own = kept.own; own_current = own_current }))

pub returns-clause-world : goal.returns-clause-world
returns-clause-world c =
    let f = c.parts.inside.trees.forest in
    let there = there_walk f c.parts.invariant (c.parts.view_is ∙ c.self.view_is) c.args.owner c.args.number c.requires.there in
    let t = (all_tables c.parts.inside).each c.args.owner in
    let item = was_some (slice_get t.walkers c.args.number)
    (walk_there f c.parts.invariant (c.parts.view_is ∙ c.self.view_is) c.args.owner c.args.number c.requires.there) in
    let own_current = known f c.parts.invariant (c.parts.view_is ∙ c.self.view_is) (λ e. owner_in e c.args.current ≡ c.args.owner) c.requires.own in
    writes f c.parts.invariant (c.parts.view_is ∙ c.self.view_is) c.args.owner there
    (cursors_of c.set_walker.new.self) (record t { walkers = slice_set t.walkers c.args.number (record item.0 { current = c.args.current }) })
    (c.set_walker.ensures item.0 item.1)
    (λ ns. Command.walker_set c.args.number (own (name_at ns c.args.current).number)) (λ ns. nothing)
    (walk_set_effect f.names f.trees (all_tables c.parts.inside) c.parts.invariant c.args.owner there
    c.args.number item.0 c.args.current item.1 own_current)

pub invariant_of-self : goal.invariant_of-self
invariant_of-self c =
    ready-beside c.parts.inside.trees.forest (all_tables c.parts.inside) c.parts.view_is c.self.invariant
    (record (all_tables c.parts.inside) { each = cursors_of c.set_walker.new.self }) refl refl
