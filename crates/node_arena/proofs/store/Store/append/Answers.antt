use Rattle.std.proofs.Common.{◌≡◌, ℕ, true, false, List, length, get_or, Option, Some, None, sym, ap, subst, ◌∙◌}
use Rattle.std.specs.Option.{option_and_then}
use Rattle.node_arena.specs.declared.pool.Place.{Place}
use Rattle.node_arena.specs.declared.pool.Pool.{Pool}
use Rattle.node_arena.specs.declared.cell.Cell.{Cell}
use Rattle.node_arena.specs.declared.cell.Link.TheVariants.{First, Next, Prev, Back}
use Rattle.node_arena.specs.declared.cell.Sideways.TheVariants as side
use Rattle.node_arena.specs.declared.store.Store.TheInside.{Inside}
use Rattle.node_arena.specs.Owned.{value_at, turned_at}
use Rattle.node_arena.specs.LinkMarks.{is_back}
use Rattle.node_arena.specs.Links.{Links, link_at, last_at, write, write_own, write_back, placed, appended}
use Rattle.node_arena.specs.Store.{with_first, with_pointer, with_own_links}
use Rattle.node_arena.proofs.Linking.{within-set, At, Leads, Led, Keyed, keyed-none, leads-some, leads-none, leads-to, leads-nowhere}
use Rattle.node_arena.proofs.Linking.{Held, held, held-kept, held-value, held-pointed, held-headed, held-own}
use Rattle.node_arena.proofs.Linking.{at-key, links-lead, first-lead, keyed-listed, keyed-led}
use Rattle.node_arena.proofs.store.Store.append.Given.{Over}
use Rattle.node_arena.proofs.store.Store.append.Goals as goal
use Rattle.node_arena.proofs.store.Store.append.Goals.{then-leads+else-leads-2, else-leads, After-leads, After-set_own-2}

pub get-cell-requires : goal.get-cell-requires
get-cell-requires g c =
    let was = held c.self.inside c.self.invariant c.self.view_is in
    held-value was (at-key was.stored c.parent.view_is c.requires.parent_is_cell c.index-up.ensures)

-- the parts of the store, seen as cells with these links
abbrev Seen : (g : Over) (c : After-leads g) → List Links → Inside g.row.T.Denot → Type 0
Seen g c links s = Held c.self.inside.list.items c.args.self.now.payloads links s

was : (g : Over) (c : After-leads g) → Seen g c c.args.self.now.links c.self.inside
was g c = held c.self.inside c.self.invariant c.self.view_is

-- the places of the parent and of the child
up : (g : Over) (c : After-leads g) → At c.self.inside.list.items c.index-up.result.now.ptr c.args.parent
up g c = at-key (was g c).stored c.parent.view_is c.requires.parent_is_cell c.index-up.ensures

at : (g : Over) (c : After-leads g) → At c.self.inside.list.items c.index-at.result.now.ptr c.args.child
at g c = at-key (was g c).stored c.child.view_is c.requires.child_is_cell c.index-at.ensures

-- where the link to the first child leads
leads : (g : Over) (c : After-leads g) → Keyed (length c.args.self.now.links) c.get-cell.result.now.marks.first c.get-cell.result.now.first
    (link_at c.args.self.now.links c.args.parent First)
leads g c = first-lead (was g c).stored (up g c) c.get-cell.ensures

-- the place of the first child, where the list gives it
first : (g : Over) (c : After-leads g) → c.leads.result ≡ true → {q : Place} → q ≡ get_or c.self.inside.list.items c.get-cell.result.now.first q →
    Led c.self.inside.list.items q (link_at c.args.self.now.links c.args.parent First)
first g c has read = keyed-led (was g c).stored (leads g c) (sym c.leads.ensures ∙ has) read

pub place_of-first-requires : goal.place_of-first-requires
place_of-first-requires g c =
    let had = (goal.at.place_of-first-requires g c).After-leads in
    rw c.as_slice.ensures.value (keyed-listed (was g had).stored (leads g had) (sym c.leads.ensures ∙ c.if-leads.true))

pub get-cell-requires-then-leads : goal.get-cell-requires-then-leads
get-cell-requires-then-leads g c =
    let had = (goal.at.get-cell-requires-then-leads g c).After-leads in
    held-value (was g had) (first g had c.if-leads.true (rw c.as_slice.ensures.value at c.place_of-first.ensures)).at

pub set_own-requires : goal.set_own-requires
set_own-requires g c = let had = (goal.at.set_own-requires g c).After-leads in held-value (was g had) (at g had)

pub set_own-requires-2 : goal.set_own-requires-2
set_own-requires-2 g c =
    let had = (goal.at.set_own-requires-2 g c).After-leads in
    let same : c.if-leads.self-inside ≡ c.self.inside = elim c.if-leads.branch [
      | then-leads+else-leads-2 w ↦ w.self-inside-is
      | else-leads w ↦ w.self-inside-is
    ] in
    rw same (held-value (was g had) (at g had))

-- nothing is changed where it is found that the list is empty
unchanged : (g : Over) (c : After-set_own-2 g) → c.if-leads.self-inside ≡ c.self.inside
unchanged g c = elim c.if-leads.branch [ then-leads+else-leads-2 w ↦ w.self-inside-is | else-leads w ↦ w.self-inside-is ]

module _ (g : Over) (c : After-leads g) {head : Place}
    (f : Led c.self.inside.list.items head (link_at c.args.self.now.links c.args.parent First)) where
  -- where the first child's link back leads
  last : {d : Cell g.row.T.Denot} → value_at c.self.inside.pool.cells head.ptr ≡ Some d →
      Leads c.self.inside.list.items (d.back, is_back d.marks.back) (link_at c.args.self.now.links f.number Back)
  last value = links-lead (was g c).stored f.at value side.Back

  -- what stands last in the list
  lasts : {o : Option ℕ} → link_at c.args.self.now.links f.number Back ≡ o → last_at c.args.self.now.links c.args.parent ≡ o
  lasts is = ap (option_and_then (λ k. link_at c.args.self.now.links k Back)) f.is ∙ is

module _ (g : Over) (c : After-leads g) {head : Place}
    (f : Led c.self.inside.list.items head (link_at c.args.self.now.links c.args.parent First))
    {q : Place} (l : Led c.self.inside.list.items q (link_at c.args.self.now.links f.number Back)) {pool : Pool (Cell g.row.T.Denot)}
    (own : pool ≡ record c.self.inside.pool {
      cells = turned_at c.self.inside.pool.cells c.index-at.result.now.ptr
          (λ v. with_own_links v c.args.parent (c.nowhere-nowhere.result, false) side.Prev (q, true));
    }) where
  -- the links with the child's own, where others stand before it
  owned : Seen g c (write_own c.args.self.now.links c.args.child (Some c.args.parent) None Prev (Some l.number)) (record c.self.inside { pool = pool })
  owned =
      held-own (was g c) (at g c) c.args.parent (c.nowhere-nowhere.result, false) side.Prev (q, true)
      c.requires.parent_is_cell (leads-nowhere _) (leads-to _ l.at) own

  -- the link on from the last of these is set
  abbrev with_on : List Links
  with_on = write (write_own c.args.self.now.links c.args.child (Some c.args.parent) None Prev (Some l.number)) l.number Next (Some c.args.child)

  on : {pool_on : Pool (Cell g.row.T.Denot)} →
      pool_on ≡ record pool { cells = turned_at pool.cells q.ptr (λ v. with_pointer v side.Next c.index-at.result.now true) } →
      Seen g c with_on (record c.self.inside { pool = pool_on })
  on is = held-pointed owned l.at side.Next (c.index-at.result.now, true) (leads-to _ (at g c)) is

  -- and that of the first
  placed_last : {pool_on pool_back : Pool (Cell g.row.T.Denot)} →
      pool_on ≡ record pool { cells = turned_at pool.cells q.ptr (λ v. with_pointer v side.Next c.index-at.result.now true) } →
      pool_back ≡ record pool_on { cells = turned_at pool_on.cells head.ptr (λ v. with_pointer v side.Back c.index-at.result.now true) } →
      Seen g c (appended c.args.self.now.links c.args.parent c.args.child) (record c.self.inside { pool = pool_back })
  placed_last {pool_on} {pool_back} is also =
      subst (λ o. Seen g c (placed c.args.self.now.links c.args.parent c.args.child o None) (record c.self.inside { pool = pool_back }))
      (sym (lasts g c f l.is))
      (subst (λ o. Seen g c (write_back with_on o Back (Some c.args.child)) (record c.self.inside { pool = pool_back })) (sym f.is)
      (held-pointed (on is) f.at side.Back (c.index-at.result.now, true) (leads-to _ (at g c)) also))

module _ (g : Over) (c : After-leads g) {pool : Pool (Cell g.row.T.Denot)}
    (own : pool ≡ record c.self.inside.pool {
      cells = turned_at c.self.inside.pool.cells c.index-at.result.now.ptr
          (λ v. with_own_links v c.args.parent (c.nowhere-nowhere.result, false) side.Back (c.index-at.result.now, true));
    }) where
  -- the links with the child's own, where it stands alone
  owned_alone : Seen g c (write_own c.args.self.now.links c.args.child (Some c.args.parent) None Back (Some c.args.child))
      (record c.self.inside { pool = pool })
  owned_alone =
      held-own (was g c) (at g c) c.args.parent (c.nowhere-nowhere.result, false) side.Back (c.index-at.result.now, true)
      c.requires.parent_is_cell (leads-nowhere _) (leads-to _ (at g c)) own

  placed_alone : last_at c.args.self.now.links c.args.parent ≡ None → {pool_on : Pool (Cell g.row.T.Denot)} →
      pool_on ≡ record pool { cells = turned_at pool.cells c.index-up.result.now.ptr (λ v. with_first v c.args.child true) } →
      Seen g c (appended c.args.self.now.links c.args.parent c.args.child) (record c.self.inside { pool = pool_on })
  placed_alone none {pool_on} is =
      subst (λ o. Seen g c (placed c.args.self.now.links c.args.parent c.args.child o None) (record c.self.inside { pool = pool_on })) (sym none)
      (held-headed owned_alone (up g c) c.args.child true
      (within-set c.args.self.now.links c.args.child _ c.requires.child_is_cell) is)

pub set_pointer-requires : goal.set_pointer-requires
set_pointer-requires g c =
    let had = (goal.at.set_pointer-requires g c).After-leads in
    let f = first g had c.if-leads.true (rw c.as_slice.ensures.value at c.place_of-first.ensures) in
    let l = leads-some (last g had f c.get-cell-then-leads.ensures) (sym c.leads-then-leads.ensures ∙ c.if-leads-2.true) in
    held-value (owned g had f l c.set_own.ensures) l.at

pub set_pointer-requires-then-leads-2 : goal.set_pointer-requires-then-leads-2
set_pointer-requires-then-leads-2 g c =
    let had = (goal.at.set_pointer-requires-then-leads-2 g c).After-leads in
    let f = first g had c.if-leads.true (rw c.as_slice.ensures.value at c.place_of-first.ensures) in
    let l = leads-some (last g had f c.get-cell-then-leads.ensures) (sym c.leads-then-leads.ensures ∙ c.if-leads-2.true) in
    held-value (on g had f l c.set_own.ensures c.set_pointer.ensures) f.at

pub invariant_of-self : goal.invariant_of-self
invariant_of-self g c =
    let had = (goal.at.invariant_of-self g c).After-leads in
    let f = first g had c.if-leads.true (rw c.as_slice.ensures.value at c.place_of-first.ensures) in
    let l = leads-some (last g had f c.get-cell-then-leads.ensures) (sym c.leads-then-leads.ensures ∙ c.if-leads-2.true) in
    held-kept (placed_last g had f l c.set_own.ensures c.set_pointer.ensures c.set_pointer-then-leads-2.ensures)

pub returns-then-leads-2 : goal.returns-then-leads-2
returns-then-leads-2 g c =
    let had = (goal.at.returns-then-leads-2 g c).After-leads in
    let f = first g had c.if-leads.true (rw c.as_slice.ensures.value at c.place_of-first.ensures) in
    let l = leads-some (last g had f c.get-cell-then-leads.ensures) (sym c.leads-then-leads.ensures ∙ c.if-leads-2.true) in
    (placed_last g had f l c.set_own.ensures c.set_pointer.ensures c.set_pointer-then-leads-2.ensures).stored.seen_as

pub set_first-requires : goal.set_first-requires
set_first-requires g c =
    let had = (goal.at.set_first-requires g c).After-leads in
    let same = unchanged g (goal.at.set_first-requires g c).After-set_own-2 in
    held-value (owned_alone g had (rw same at c.set_own-2.ensures)) (up g had)

pub invariant_of-self-2 : goal.invariant_of-self-2
invariant_of-self-2 g c =
    let had = (goal.at.invariant_of-self-2 g c).After-leads in
    let none : last_at c.args.self.now.links c.args.parent ≡ None = elim c.if-leads.branch [
      | then-leads+else-leads-2 w ↦
          let f = first g had w.if-leads.true (rw w.as_slice.ensures.value at w.place_of-first.ensures) in
          lasts g had f (leads-none (last g had f w.get-cell-then-leads.ensures) (sym w.leads-then-leads.ensures ∙ w.if-leads-2.false))
      | else-leads w ↦
          ap (option_and_then (λ k. link_at c.args.self.now.links k Back)) (keyed-none (leads g had) (sym c.leads.ensures ∙ w.if-leads.false))
    ] in
    let same = unchanged g (goal.at.invariant_of-self-2 g c).After-set_own-2 in
    rw same (held-kept (placed_alone g had (rw same at c.set_own-2.ensures) none c.set_first.ensures))

pub returns : goal.returns
returns g c =
    let had = (goal.at.returns g c).After-leads in
    let none : last_at c.args.self.now.links c.args.parent ≡ None = elim c.if-leads.branch [
      | then-leads+else-leads-2 w ↦
          let f = first g had w.if-leads.true (rw w.as_slice.ensures.value at w.place_of-first.ensures) in
          lasts g had f (leads-none (last g had f w.get-cell-then-leads.ensures) (sym w.leads-then-leads.ensures ∙ w.if-leads-2.false))
      | else-leads w ↦
          ap (option_and_then (λ k. link_at c.args.self.now.links k Back)) (keyed-none (leads g had) (sym c.leads.ensures ∙ w.if-leads.false))
    ] in
    let same = unchanged g (goal.at.returns g c).After-set_own-2 in
    (placed_alone g had (rw same at c.set_own-2.ensures) none c.set_first.ensures).stored.seen_as
