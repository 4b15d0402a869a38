use Rattle.std.proofs.Common.{◌≡◌, ℕ, true, false, List, Option, Some, refl, sym, subst, ◌∙◌}
use Rattle.std.specs.Option.{is_some}
use Rattle.node_arena.specs.declared.pool.Place.{Place}
use Rattle.node_arena.specs.declared.pool.Pool.{Pool}
use Rattle.node_arena.specs.declared.cell.Cell.{Cell}
use Rattle.node_arena.specs.declared.cell.Link.TheVariants.{Prev}
use Rattle.node_arena.specs.declared.cell.Sideways.{Sideways}
use Rattle.node_arena.specs.declared.cell.Sideways.TheVariants as side
use Rattle.node_arena.specs.declared.store.Store.TheInside.{Inside}
use Rattle.node_arena.specs.Owned.{turned_at}
use Rattle.node_arena.specs.Links.{Links, link_at, back_link, write_own, write_on, back_from}
use Rattle.node_arena.specs.Store.{pointer_in, mark_in, link_of, with_first, with_pointer}
use Rattle.node_arena.proofs.Linking.{within-set, At, Leads, Led, leads-some, leads-none, leads-to, back-led}
use Rattle.node_arena.proofs.Linking.{Held, held, held-kept, held-value, held-pointed, held-headed, held-own, at-key, links-lead}
use Rattle.node_arena.proofs.store.Store.put_before.Given.{Over}
use Rattle.node_arena.proofs.store.Store.put_before.Goals as goal
use Rattle.node_arena.proofs.store.Store.put_before.Goals.{in-true, in-false, After-set_own}

pub get-cell-requires : goal.get-cell-requires
get-cell-requires g c =
    let was = held c.self.inside c.self.invariant c.self.view_is in
    held-value was (at-key was.stored c.next.view_is c.requires.next_is_cell c.index-on.ensures)

pub set_own-requires : goal.set_own-requires
set_own-requires g c =
    let was = held c.self.inside c.self.invariant c.self.view_is in
    held-value was (at-key was.stored c.child.view_is c.requires.child_is_cell c.index-at.ensures)

-- the parts of the store, seen as cells with these links
abbrev Seen : (g : Over) (c : After-set_own g) → List Links → Inside g.row.T.Denot → Type 0
Seen g c links s = Held c.self.inside.list.items c.args.self.now.payloads links s

was : (g : Over) (c : After-set_own g) → Seen g c c.args.self.now.links c.self.inside
was g c = held c.self.inside c.self.invariant c.self.view_is

-- the places of the child, and of the one behind it
at : (g : Over) (c : After-set_own g) → At c.self.inside.list.items c.index-at.result.now.ptr c.args.child
at g c = at-key (was g c).stored c.child.view_is c.requires.child_is_cell c.index-at.ensures

next : (g : Over) (c : After-set_own g) → At c.self.inside.list.items c.index-on.result.now.ptr c.args.next
next g c = at-key (was g c).stored c.next.view_is c.requires.next_is_cell c.index-on.ensures

-- where the links of that one lead
leads : (g : Over) (c : After-set_own g) (link : Sideways) → Leads c.self.inside.list.items
    (pointer_in c.get-cell.result.now link, mark_in c.get-cell.result.now (link_of link)) (link_at c.args.self.now.links c.args.next (link_of link))
leads g c link = links-lead (was g c).stored (next g c) c.get-cell.ensures link

-- what stands before the child
abbrev before : (g : Over) (c : After-set_own g) → Option ℕ
before g c = link_at c.args.self.now.links c.args.next Prev

previous : (g : Over) (c : After-set_own g) → c.leads-has_prev.result ≡ true → Led c.self.inside.list.items c.get-cell.result.now.back (before g c)
previous g c is = leads-some (leads g c side.Prev) (sym c.leads-has_prev.ensures ∙ is)

-- the links with the child's own
abbrev own : (g : Over) (c : After-set_own g) → List Links
own g c =
    write_own c.args.self.now.links c.args.child (Some c.args.parent) (Some c.args.next) (back_link (is_some (before g c)))
    (back_from c.args.self.now.links c.args.child (before g c) (Some c.args.next))

owned : (g : Over) (c : After-set_own g) → Seen g c (own g c) (record c.self.inside { pool = c.set_own.new.pool })
owned g c =
    let links = c.args.self.now.links in
    let led = back-led c.get-cell.result.now.marks.back c.leads-has_prev.ensures c.leads-has_back.ensures c.back_link-own.ensures
    (leads g c side.Prev) (leads g c side.Back) (λ o. back_from links c.args.child o (Some c.args.next)) (λ j. refl) refl in
    subst (λ l. Seen g c (write_own links c.args.child (Some c.args.parent) (Some c.args.next) l
    (back_from links c.args.child (before g c) (Some c.args.next))) (record c.self.inside { pool = c.set_own.new.pool })) led.link_is
    (held-own (was g c) (at g c) c.args.parent (c.index-on.result.now, true) c.back_link-own.result
    (c.get-cell.result.now.back, c.leads-has_back.result) c.requires.parent_is_cell (leads-to _ (next g c)) led.leads c.set_own.ensures)

pub set_pointer-requires : goal.set_pointer-requires
set_pointer-requires g c =
    let had = (goal.at.set_pointer-requires g c).After-set_own in held-value (owned g had) (previous g had c.in-true.is).at

pub set_first-requires : goal.set_first-requires
set_first-requires g c =
    let had = (goal.at.set_first-requires g c).After-set_own in
    held-value (owned g had) (at-key (was g had).stored c.parent.view_is c.requires.parent_is_cell c.index-up.ensures)

-- the link on from before the child is set
abbrev On : (g : Over) (c : After-set_own g) → Inside g.row.T.Denot → Type 0
On g c s = Seen g c (write_on (own g c) c.args.parent (before g c) (Some c.args.child)) s

on-true : (g : Over) (c : After-set_own g) → c.leads-has_prev.result ≡ true → {s : Inside g.row.T.Denot} {pool : Pool (Cell g.row.T.Denot)} →
    pool ≡ record c.set_own.new.pool {
      cells = turned_at c.set_own.new.pool.cells c.get-cell.result.now.back.ptr
          (λ v. with_pointer v side.Next c.index-at.result.now true);
    } →
    s ≡ record c.self.inside { pool = pool } → On g c s
on-true g c has {s} {pool} is same =
    let led = previous g c has in
    subst (On g c) (sym same)
    (subst (λ o. Seen g c (write_on (own g c) c.args.parent o (Some c.args.child)) (record c.self.inside { pool = pool })) (sym led.is)
    (held-pointed (owned g c) led.at side.Next (c.index-at.result.now, true) (leads-to _ (at g c)) is))

on-false : (g : Over) (c : After-set_own g) → c.leads-has_prev.result ≡ false → {up : Place} → At c.self.inside.list.items up.ptr c.args.parent →
    {s : Inside g.row.T.Denot} {pool : Pool (Cell g.row.T.Denot)} →
    pool ≡ record c.set_own.new.pool { cells = turned_at c.set_own.new.pool.cells up.ptr (λ v. with_first v c.args.child true) } →
    s ≡ record c.self.inside { pool = pool } → On g c s
on-false g c has up {s} {pool} is same =
    let none = leads-none (leads g c side.Prev) (sym c.leads-has_prev.ensures ∙ has) in
    subst (On g c) (sym same)
    (subst (λ o. Seen g c (write_on (own g c) c.args.parent o (Some c.args.child)) (record c.self.inside { pool = pool })) (sym none)
    (held-headed (owned g c) up c.args.child true (within-set c.args.self.now.links c.args.child _ c.requires.child_is_cell) is))

pub set_pointer-requires-2 : goal.set_pointer-requires-2
set_pointer-requires-2 g c =
    let had = (goal.at.set_pointer-requires-2 g c).After-set_own in
    let seen : On g had c.if-has_prev.self-inside = elim c.if-has_prev.branch [
      | in-true w ↦ on-true g had w.in-true.is w.set_pointer.ensures w.self-inside-is
      | in-false w ↦
          let up = at-key (was g had).stored c.parent.view_is c.requires.parent_is_cell w.index-up.ensures in
          on-false g had w.in-false.is up w.set_first.ensures w.self-inside-is
    ] in
    held-value seen (next g had)

pub invariant_of-self : goal.invariant_of-self
invariant_of-self g c =
    let had = (goal.at.invariant_of-self g c).After-set_own in
    let seen : On g had c.if-has_prev.self-inside = elim c.if-has_prev.branch [
      | in-true w ↦ on-true g had w.in-true.is w.set_pointer.ensures w.self-inside-is
      | in-false w ↦
          let up = at-key (was g had).stored c.parent.view_is c.requires.parent_is_cell w.index-up.ensures in
          on-false g had w.in-false.is up w.set_first.ensures w.self-inside-is
    ] in
    held-kept (held-pointed seen (next g had) side.Prev (c.index-at.result.now, true) (leads-to _ (at g had)) c.set_pointer-2.ensures)

pub returns : goal.returns
returns g c =
    let had = (goal.at.returns g c).After-set_own in
    let seen : On g had c.if-has_prev.self-inside = elim c.if-has_prev.branch [
      | in-true w ↦ on-true g had w.in-true.is w.set_pointer.ensures w.self-inside-is
      | in-false w ↦
          let up = at-key (was g had).stored c.parent.view_is c.requires.parent_is_cell w.index-up.ensures in
          on-false g had w.in-false.is up w.set_first.ensures w.self-inside-is
    ] in
    (held-pointed seen (next g had) side.Prev (c.index-at.result.now, true) (leads-to _ (at g had)) c.set_pointer-2.ensures).stored.seen_as
