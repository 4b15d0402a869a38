use Rattle.std.proofs.Common.{◌≡◌, ℕ, true, false, List, length, get_or, IsTrue, Option, Some, None, refl, sym, ap, subst, ◌∙◌}
use Rattle.std.specs.Option.{option_map}
use Rattle.std.proofs.lemmas.Option.{same_Some}
use Rattle.node_arena.specs.declared.pool.Pool.{Pool}
use Rattle.node_arena.specs.declared.cell.Cell.{Cell}
use Rattle.node_arena.specs.declared.pool.Place.{Place}
use Rattle.node_arena.specs.declared.cell.Sideways.{Sideways}
use Rattle.node_arena.specs.declared.cell.Sideways.TheVariants as side
use Rattle.node_arena.specs.Owned.{value_at, turned_at}
use Rattle.node_arena.specs.declared.cell.Link.TheVariants.{First, Next, Prev, Back}
use Rattle.node_arena.specs.declared.store.Store.TheInside.{Inside}
use Rattle.node_arena.specs.Links.{Links, link_at, parent_at, back_link, write, write_own, write_on, write_back, back_left, displaced, taken_out}
use Rattle.node_arena.specs.Store.{pointer_in, mark_in, link_of, with_first, with_pointer}
use Rattle.node_arena.proofs.Linking.{Leads, Led, Keyed, keyed-none, keyed-there, leads-some, leads-none, leads-to, back-led}
use Rattle.node_arena.proofs.Linking.{Held, held, held-kept, held-value, held-pointed, held-headed, held-head, held-cleared}
use Rattle.node_arena.proofs.Linking.{at-key, links-lead, parent-lead, first-lead, keyed-listed, keyed-led}
use Rattle.node_arena.proofs.store.Store.displace.Given.{Over}
use Rattle.node_arena.proofs.store.Store.displace.Goals as goal
use Rattle.node_arena.proofs.store.Store.displace.Goals.{in-true, in-false, After-clear_own}

pub get-cell-requires : goal.get-cell-requires
get-cell-requires g c =
    let was = held c.self.inside c.self.invariant c.self.view_is in
    held-value was (at-key was.stored c.child.view_is c.requires.child_is_cell c.index-at.ensures)

pub place_of-up-requires : goal.place_of-up-requires
place_of-up-requires g c =
    let was = held c.self.inside c.self.invariant c.self.view_is in
    let at = at-key was.stored c.child.view_is c.requires.child_is_cell c.index-at.ensures in
    let keyed = parent-lead was.stored at c.get-cell.ensures in
    rw c.as_slice.ensures.value (keyed-listed was.stored keyed (keyed-there keyed c.requires.has_parent))

pub get-parent-requires : goal.get-parent-requires
get-parent-requires g c =
    let was = held c.self.inside c.self.invariant c.self.view_is in
    let at = at-key was.stored c.child.view_is c.requires.child_is_cell c.index-at.ensures in
    let keyed = parent-lead was.stored at c.get-cell.ensures in
    held-value was (keyed-led was.stored keyed (keyed-there keyed c.requires.has_parent) (rw c.as_slice.ensures.value at c.place_of-up.ensures)).at

-- the parent
parent : (g : Over) (c : After-clear_own g) → Led c.self.inside.list.items c.place_of-up.result (parent_at c.args.self.now.links c.args.child)
parent g c =
    let was = held c.self.inside c.self.invariant c.self.view_is in
    let at = at-key was.stored c.child.view_is c.requires.child_is_cell c.index-at.ensures in
    let keyed = parent-lead was.stored at c.get-cell.ensures in
    keyed-led was.stored keyed (keyed-there keyed c.requires.has_parent) (rw c.as_slice.ensures.value at c.place_of-up.ensures)

-- where the links of the child lead
leads : (g : Over) (c : After-clear_own g) (link : Sideways) → Leads c.self.inside.list.items
    (pointer_in c.get-cell.result.now link, mark_in c.get-cell.result.now (link_of link)) (link_at c.args.self.now.links c.args.child (link_of link))
leads g c link =
    let was = held c.self.inside c.self.invariant c.self.view_is in
    links-lead was.stored (at-key was.stored c.child.view_is c.requires.child_is_cell c.index-at.ensures) c.get-cell.ensures link

-- the links without the child's own
abbrev own : (g : Over) (c : After-clear_own g) → List Links
own g c = write_own c.args.self.now.links c.args.child None None (back_link false) None

cleared : (g : Over) (c : After-clear_own g) → Held c.self.inside.list.items c.args.self.now.payloads (own g c)
    (record c.self.inside { pool = c.clear_own.new.pool })
cleared g c =
    let was = held c.self.inside c.self.invariant c.self.view_is in
    held-cleared was (at-key was.stored c.child.view_is c.requires.child_is_cell c.index-at.ensures) c.clear_own.ensures

-- the place of what stands before the child
previous : (g : Over) (c : After-clear_own g) → c.leads-has_prev.result ≡ true →
    Led c.self.inside.list.items c.get-cell.result.now.back (link_at c.args.self.now.links c.args.child Prev)
previous g c is = leads-some (leads g c side.Prev) (sym c.leads-has_prev.ensures ∙ is)

pub set_pointer-requires : goal.set_pointer-requires
set_pointer-requires g c =
    let before = (goal.at.set_pointer-requires g c).After-clear_own in held-value (cleared g before) (previous g before c.in-true.is).at

pub set_first-requires : goal.set_first-requires
set_first-requires g c =
    let before = (goal.at.set_first-requires g c).After-clear_own in held-value (cleared g before) (parent g before).at

pub key_at-head-requires : goal.key_at-head-requires
key_at-head-requires g c =
    let before = (goal.at.key_at-head-requires g c).After-clear_own in
    λ has. held-value (cleared g before) (leads-some (leads g before side.Next) (sym c.leads-has_next.ensures ∙ has)).at

-- the parts of the store, seen as cells with these links
abbrev Seen : (g : Over) (c : After-clear_own g) → List Links → Inside g.row.T.Denot → Type 0
Seen g c links s = Held c.self.inside.list.items c.args.self.now.payloads links s

-- what stands before and behind the child
abbrev before : (g : Over) (c : After-clear_own g) → Option ℕ
before g c = link_at c.args.self.now.links c.args.child Prev

abbrev behind : (g : Over) (c : After-clear_own g) → Option ℕ
behind g c = link_at c.args.self.now.links c.args.child Next

-- the link on from before the child is set
abbrev On : (g : Over) (c : After-clear_own g) → Inside g.row.T.Denot → Type 0
On g c s = Seen g c (write_on (own g c) (parent g c).number (before g c) (behind g c)) s

next-leads : (g : Over) (c : After-clear_own g) → Leads c.self.inside.list.items (c.get-cell.result.now.next, c.leads-has_next.result) (behind g c)
next-leads g c =
    subst (λ m. Leads c.self.inside.list.items (c.get-cell.result.now.next, m) (behind g c)) (sym c.leads-has_next.ensures) (leads g c side.Next)

on-true : (g : Over) (c : After-clear_own g) → c.leads-has_prev.result ≡ true → {s : Inside g.row.T.Denot} {pool : Pool (Cell g.row.T.Denot)} →
    pool ≡ record c.clear_own.new.pool {
      cells = turned_at c.clear_own.new.pool.cells c.get-cell.result.now.back.ptr
          (λ v. with_pointer v side.Next c.get-cell.result.now.next c.leads-has_next.result);
    } →
    s ≡ record c.self.inside { pool = pool } → On g c s
on-true g c has {s} {pool} is same =
    let led = previous g c has in
    subst (On g c) (sym same)
    (subst (λ o. Seen g c (write_on (own g c) (parent g c).number o (behind g c)) (record c.self.inside { pool = pool })) (sym led.is)
    (held-pointed (cleared g c) led.at side.Next (c.get-cell.result.now.next, c.leads-has_next.result) (next-leads g c) is))

on-false : (g : Over) (c : After-clear_own g) → c.leads-has_prev.result ≡ false → {head : ℕ} →
    (IsTrue c.leads-has_next.result → option_map (λ x. x.key) (value_at c.clear_own.new.pool.cells c.get-cell.result.now.next.ptr) ≡ Some head) →
    {s : Inside g.row.T.Denot} {pool : Pool (Cell g.row.T.Denot)} →
    pool ≡ record c.clear_own.new.pool {
      cells = turned_at c.clear_own.new.pool.cells c.place_of-up.result.ptr (λ v. with_first v head c.leads-has_next.result);
    } →
    s ≡ record c.self.inside { pool = pool } → On g c s
on-false g c has {head} read {s} {pool} is same =
    let none = leads-none (leads g c side.Prev) (sym c.leads-has_prev.ensures ∙ has) in
    let keyed = held-head (cleared g c) c.leads-has_next.result (next-leads g c) read in
    subst (On g c) (sym same)
    (subst (λ o. Seen g c (write_on (own g c) (parent g c).number o (behind g c)) (record c.self.inside { pool = pool })) (sym none)
    (subst (λ o. Seen g c (write (own g c) (parent g c).number First o) (record c.self.inside { pool = pool })) keyed.is
    (held-headed (cleared g c) (parent g c).at head c.leads-has_next.result keyed.within is)))

-- the child is taken out
abbrev Out : (g : Over) (c : After-clear_own g) → Inside g.row.T.Denot → Type 0
Out g c s = Seen g c (taken_out c.args.self.now.links (parent g c).number c.args.child) s

out : (g : Over) (c : After-clear_own g) {s : Inside g.row.T.Denot} {o n : Option ℕ} → before g c ≡ o → behind g c ≡ n →
    Seen g c (displaced c.args.self.now.links (parent g c).number c.args.child o n) s → Out g c s
out g c {s} {o} {n} before_is behind_is seen =
    subst (λ x. Seen g c (displaced c.args.self.now.links (parent g c).number c.args.child x (behind g c)) s) (sym before_is)
    (subst (λ x. Seen g c (displaced c.args.self.now.links (parent g c).number c.args.child o x) s) (sym behind_is) seen)

on-as : (g : Over) (c : After-clear_own g) {s : Inside g.row.T.Denot} {o n : Option ℕ} → before g c ≡ o → behind g c ≡ n → On g c s →
    Seen g c (write_on (own g c) (parent g c).number o n) s
on-as g c {s} {o} {n} before_is behind_is seen =
    subst (λ x. Seen g c (write_on (own g c) (parent g c).number o x) s) behind_is
    (subst (λ x. Seen g c (write_on (own g c) (parent g c).number x (behind g c)) s) before_is seen)

next : (g : Over) (c : After-clear_own g) → c.leads-has_next.result ≡ true → Led c.self.inside.list.items c.get-cell.result.now.next (behind g c)
next g c has = leads-some (leads g c side.Next) (sym c.leads-has_next.ensures ∙ has)

no-next : (g : Over) (c : After-clear_own g) → c.leads-has_next.result ≡ false → behind g c ≡ None
no-next g c has = leads-none (leads g c side.Next) (sym c.leads-has_next.ensures ∙ has)

module _ (g : Over) (c : After-clear_own g) where
  out-next : (has : c.leads-has_next.result ≡ true) {s : Inside g.row.T.Denot}
      {pool : Pool (Cell g.row.T.Denot)} → On g c s → (link : Sideways) → link_of link ≡ back_link c.leads-has_prev.result →
      pool ≡ record s.pool {
        cells = turned_at s.pool.cells c.get-cell.result.now.next.ptr
            (λ v. with_pointer v link c.get-cell.result.now.back c.leads-has_back.result);
      } →
      Out g c (record s { pool = pool })
  out-next has {s} {pool} seen link link_is is =
      let links = c.args.self.now.links in
      let led = back-led c.get-cell.result.now.marks.back c.leads-has_prev.ensures c.leads-has_back.ensures link_is (leads g c side.Prev) (leads g c side.Back)
      (back_left links c.args.child) (λ j. refl) refl in
      let i = (next g c has).number in
      let from = write_on (own g c) (parent g c).number (before g c) (Some i) in
      out g c refl (next g c has).is
      (subst (λ l. Seen g c (write from i l (back_left links c.args.child (before g c))) (record s { pool = pool })) led.link_is
      (held-pointed (on-as g c refl (next g c has).is seen) (next g c has).at link (c.get-cell.result.now.back, c.leads-has_back.result) led.leads is))

first : (g : Over) (c : After-clear_own g) → Keyed (length c.args.self.now.links) c.get-parent.result.now.marks.first c.get-parent.result.now.first
    (link_at c.args.self.now.links (parent g c).number First)
first g c = first-lead (held c.self.inside c.self.invariant c.self.view_is).stored (parent g c).at c.get-parent.ensures

out-alone : (g : Over) (c : After-clear_own g) → c.leads-has_next.result ≡ false → c.leads-has_prev.result ≡ false → {s : Inside g.row.T.Denot} →
    On g c s → Out g c s
out-alone g c last only seen =
    let none = leads-none (leads g c side.Prev) (sym c.leads-has_prev.ensures ∙ only) in
    out g c none (no-next g c last) (on-as g c none (no-next g c last) seen)

led-first : (g : Over) (c : After-clear_own g) → c.leads-has_first.result ≡ true → {head : Place} →
    head ≡ get_or c.self.inside.list.items c.get-parent.result.now.first head →
    Led c.self.inside.list.items head (link_at c.args.self.now.links (parent g c).number First)
led-first g c has read =
    keyed-led (held c.self.inside c.self.invariant c.self.view_is).stored (first g c) (sym c.leads-has_first.ensures ∙ has) read

module _ (g : Over) (c : After-clear_own g) where
  out-first : c.leads-has_next.result ≡ false → c.leads-has_prev.result ≡ true → {head : Place} →
      Led c.self.inside.list.items head (link_at c.args.self.now.links (parent g c).number First) →
      {s : Inside g.row.T.Denot} {pool : Pool (Cell g.row.T.Denot)} → On g c s →
      pool ≡ record s.pool { cells = turned_at s.pool.cells head.ptr (λ v. with_pointer v side.Back c.get-cell.result.now.back true) } →
      Out g c (record s { pool = pool })
  out-first last has f {s} {pool} seen is =
      let led = previous g c has in
      let from = write_on (own g c) (parent g c).number (Some led.number) None in
      out g c led.is (no-next g c last)
      (subst (λ o. Seen g c (write_back from o Back (Some led.number)) (record s { pool = pool })) (sym f.is)
      (held-pointed (on-as g c led.is (no-next g c last) seen) f.at side.Back (c.get-cell.result.now.back, true) (leads-to _ led.at) is))

out-headless : (g : Over) (c : After-clear_own g) → c.leads-has_next.result ≡ false → c.leads-has_prev.result ≡ true → c.leads-has_first.result ≡ false →
    {s : Inside g.row.T.Denot} → On g c s → Out g c s
out-headless g c last has none {s} seen =
    let led = previous g c has in
    out g c led.is (no-next g c last)
    (subst (λ o. Seen g c (write_back (write_on (own g c) (parent g c).number (Some led.number) None) o Back (Some led.number)) s)
    (sym (keyed-none (first g c) (sym c.leads-has_first.ensures ∙ none))) (on-as g c led.is (no-next g c last) seen))

pub set_pointer-requires-then-has_next : goal.set_pointer-requires-then-has_next
set_pointer-requires-then-has_next g c =
    let was = (goal.at.set_pointer-requires-then-has_next g c).After-clear_own in
    let seen : On g was c.if-has_prev.self-inside = elim c.if-has_prev.branch [
      | in-true w ↦ on-true g was w.in-true.is w.set_pointer.ensures w.self-inside-is
      | in-false w ↦ on-false g was w.in-false.is w.key_at-head.ensures w.set_first.ensures w.self-inside-is
    ] in
    held-value seen (next g was c.if-has_next.true).at

pub invariant_of-self : goal.invariant_of-self
invariant_of-self g c =
    let was = (goal.at.invariant_of-self g c).After-clear_own in
    let seen : On g was c.if-has_prev.self-inside = elim c.if-has_prev.branch [
      | in-true w ↦ on-true g was w.in-true.is w.set_pointer.ensures w.self-inside-is
      | in-false w ↦ on-false g was w.in-false.is w.key_at-head.ensures w.set_first.ensures w.self-inside-is
    ] in
    held-kept (out-next g was c.if-has_next.true seen c.back_link.result c.back_link.ensures c.set_pointer-then-has_next.ensures)

pub returns-then-has_next : goal.returns-then-has_next
returns-then-has_next g c =
    let was = (goal.at.returns-then-has_next g c).After-clear_own in
    let seen : On g was c.if-has_prev.self-inside = elim c.if-has_prev.branch [
      | in-true w ↦ on-true g was w.in-true.is w.set_pointer.ensures w.self-inside-is
      | in-false w ↦ on-false g was w.in-false.is w.key_at-head.ensures w.set_first.ensures w.self-inside-is
    ] in
    let gone = out-next g was c.if-has_next.true seen c.back_link.result c.back_link.ensures c.set_pointer-then-has_next.ensures in
    λ x is. gone.stored.seen_as
    ∙ ap (λ y. record { payloads = c.args.self.now.payloads; links = taken_out c.args.self.now.links y c.args.child })
    (same_Some (parent g was).number x (sym (parent g was).is ∙ is))

pub invariant_of-self-then-not-has_prev : goal.invariant_of-self-then-not-has_prev
invariant_of-self-then-not-has_prev g c =
    let was = (goal.at.invariant_of-self-then-not-has_prev g c).After-clear_own in
    let seen : On g was c.if-has_prev.self-inside = elim c.if-has_prev.branch [
      | in-true w ↦ on-true g was w.in-true.is w.set_pointer.ensures w.self-inside-is
      | in-false w ↦ on-false g was w.in-false.is w.key_at-head.ensures w.set_first.ensures w.self-inside-is
    ] in
    held-kept (out-alone g was c.if-has_next.false c.if-not-has_prev.true seen)

pub returns-then-not-has_prev : goal.returns-then-not-has_prev
returns-then-not-has_prev g c =
    let was = (goal.at.returns-then-not-has_prev g c).After-clear_own in
    let seen : On g was c.if-has_prev.self-inside = elim c.if-has_prev.branch [
      | in-true w ↦ on-true g was w.in-true.is w.set_pointer.ensures w.self-inside-is
      | in-false w ↦ on-false g was w.in-false.is w.key_at-head.ensures w.set_first.ensures w.self-inside-is
    ] in
    let gone = out-alone g was c.if-has_next.false c.if-not-has_prev.true seen in
    λ x is. gone.stored.seen_as
    ∙ ap (λ y. record { payloads = c.args.self.now.payloads; links = taken_out c.args.self.now.links y c.args.child })
    (same_Some (parent g was).number x (sym (parent g was).is ∙ is))

pub place_of-head-requires : goal.place_of-head-requires
place_of-head-requires g c =
    let was = (goal.at.place_of-head-requires g c).After-clear_own in
    let seen : On g was c.if-has_prev.self-inside = elim c.if-has_prev.branch [
      | in-true w ↦ on-true g was w.in-true.is w.set_pointer.ensures w.self-inside-is
      | in-false w ↦ on-false g was w.in-false.is w.key_at-head.ensures w.set_first.ensures w.self-inside-is
    ] in
    rw (c.as_slice-then-has_first.ensures.value ∙ seen.listed)
    (keyed-listed (held c.self.inside c.self.invariant c.self.view_is).stored (first g was) (sym c.leads-has_first.ensures ∙ c.if-has_first.true))

pub set_pointer-requires-then-has_first : goal.set_pointer-requires-then-has_first
set_pointer-requires-then-has_first g c =
    let was = (goal.at.set_pointer-requires-then-has_first g c).After-clear_own in
    let seen : On g was c.if-has_prev.self-inside = elim c.if-has_prev.branch [
      | in-true w ↦ on-true g was w.in-true.is w.set_pointer.ensures w.self-inside-is
      | in-false w ↦ on-false g was w.in-false.is w.key_at-head.ensures w.set_first.ensures w.self-inside-is
    ] in
    held-value seen (led-first g was c.if-has_first.true (rw (c.as_slice-then-has_first.ensures.value ∙ seen.listed) at c.place_of-head.ensures)).at

pub invariant_of-self-then-has_first : goal.invariant_of-self-then-has_first
invariant_of-self-then-has_first g c =
    let was = (goal.at.invariant_of-self-then-has_first g c).After-clear_own in
    let seen : On g was c.if-has_prev.self-inside = elim c.if-has_prev.branch [
      | in-true w ↦ on-true g was w.in-true.is w.set_pointer.ensures w.self-inside-is
      | in-false w ↦ on-false g was w.in-false.is w.key_at-head.ensures w.set_first.ensures w.self-inside-is
    ] in
    let head = led-first g was c.if-has_first.true (rw (c.as_slice-then-has_first.ensures.value ∙ seen.listed) at c.place_of-head.ensures) in
    held-kept (out-first g was c.if-has_next.false c.if-not-has_prev.false head seen c.set_pointer-then-has_first.ensures)

pub invariant_of-self-else-has_first : goal.invariant_of-self-else-has_first
invariant_of-self-else-has_first g c =
    let was = (goal.at.invariant_of-self-else-has_first g c).After-clear_own in
    let seen : On g was c.if-has_prev.self-inside = elim c.if-has_prev.branch [
      | in-true w ↦ on-true g was w.in-true.is w.set_pointer.ensures w.self-inside-is
      | in-false w ↦ on-false g was w.in-false.is w.key_at-head.ensures w.set_first.ensures w.self-inside-is
    ] in
    held-kept (out-headless g was c.if-has_next.false c.if-not-has_prev.false c.if-has_first.false seen)

pub returns-then-has_first : goal.returns-then-has_first
returns-then-has_first g c =
    let was = (goal.at.returns-then-has_first g c).After-clear_own in
    let seen : On g was c.if-has_prev.self-inside = elim c.if-has_prev.branch [
      | in-true w ↦ on-true g was w.in-true.is w.set_pointer.ensures w.self-inside-is
      | in-false w ↦ on-false g was w.in-false.is w.key_at-head.ensures w.set_first.ensures w.self-inside-is
    ] in
    let head = led-first g was c.if-has_first.true (rw (c.as_slice-then-has_first.ensures.value ∙ seen.listed) at c.place_of-head.ensures) in
    let gone = out-first g was c.if-has_next.false c.if-not-has_prev.false head seen c.set_pointer-then-has_first.ensures in
    λ x is. gone.stored.seen_as
    ∙ ap (λ y. record { payloads = c.args.self.now.payloads; links = taken_out c.args.self.now.links y c.args.child })
    (same_Some (parent g was).number x (sym (parent g was).is ∙ is))

pub returns-else-has_first : goal.returns-else-has_first
returns-else-has_first g c =
    let was = (goal.at.returns-else-has_first g c).After-clear_own in
    let seen : On g was c.if-has_prev.self-inside = elim c.if-has_prev.branch [
      | in-true w ↦ on-true g was w.in-true.is w.set_pointer.ensures w.self-inside-is
      | in-false w ↦ on-false g was w.in-false.is w.key_at-head.ensures w.set_first.ensures w.self-inside-is
    ] in
    let gone = out-headless g was c.if-has_next.false c.if-not-has_prev.false c.if-has_first.false seen in
    λ x is. gone.stored.seen_as
    ∙ ap (λ y. record { payloads = c.args.self.now.payloads; links = taken_out c.args.self.now.links y c.args.child })
    (same_Some (parent g was).number x (sym (parent g was).is ∙ is))
