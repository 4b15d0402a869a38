-- Writes at places of the cells: that these stay wired, and what is seen of them.
use Rattle.std.proofs.Common.{◌≡◌, ℕ, ◌<◌, inl, inr, Bool, true, false, true≢false, length, List, [], ◌∷◌}
use Rattle.std.proofs.Common.{map, get_or, set, Option, Some, None, refl, sym, ap, ◌∙◌, subst, arith, IsTrue}
use Rattle.std.proofs.lemmas.List.{length-map, length-set}
use Rattle.std.specs.Option.{IsSome, is_some, option_map}
use Rattle.std.proofs.lemmas.Bool.{cases_Bool}
use Rattle.std.proofs.lemmas.Option.{same_Some, slice_get_within}
use denote.RawPtr.{Ptr}
use Rattle.node_arena.specs.declared.pool.Place.{Place}
use Rattle.node_arena.specs.declared.cell.Cell.{Cell}
use Rattle.node_arena.specs.declared.link_marks.Back.{Back as BackMark}
use Rattle.node_arena.specs.declared.link_marks.Back.TheVariants as back
use Rattle.node_arena.specs.declared.pool.Pool.{Pool}
use Rattle.node_arena.specs.declared.store.Store.TheInside.{Inside}
use Rattle.node_arena.specs.declared.cell.Link.{Link}
use Rattle.node_arena.specs.declared.cell.Link.TheVariants.{Parent, First, Back}
use Rattle.node_arena.specs.declared.cell.Sideways.{Sideways}
use Rattle.node_arena.specs.declared.cell.Sideways.TheVariants as side
use Rattle.node_arena.specs.LinkMarks.{without_own, is_prev, is_back}
use Rattle.node_arena.specs.Links.{Links, Cells, unlinked, link_in, link_at, back_link, write, write_own}
use Rattle.node_arena.specs.Owned.{Placed, placed, same_ptr, value_at, set_at, turned_at}
use Rattle.node_arena.specs.Store.{key_at, led_at, kept_at, IsMarked, IsWithin, IsWired, places_of, links_of, seen, pointer_in, mark_in, link_of}
use Rattle.node_arena.specs.Store.{IsCell, with_first, with_pointer, with_own_links}
use Rattle.node_arena.proofs.Forests.{cases_Option}
use Rattle.node_arena.proofs.Numbers.{number-key, Found, found}
use Rattle.node_arena.proofs.StoreReads.{Seat, seat_of}
use Rattle.node_arena.proofs.StoreLemmas.{Turned, turned_parent, turned_first, turned_link, turned_again, turned_alone}
use Rattle.node_arena.proofs.StoreReads.{link_at-seen, sideways-seen, links-marked}
use Rattle.node_arena.proofs.StoreLemmas.{IsWired-set, seen-turned}

-- a value turned where it lies is another value set there
pub set-turned : {V : Type 0} (cells : List (Placed V)) (p : Ptr) (f : V → V) {v : V} → value_at cells p ≡ Some v → set_at cells p (f v) ≡ turned_at cells p f
set-turned [] p f h = refl
set-turned (n ∷ ns) p f {v} h = elim (cases_Bool (same_ptr n.at p)) [
  | inl e ↦
      let here : Some n.value ≡ Some v = rw e at h in
      rw e (ap (λ x. placed n.at (f x) ∷ ns) (sym (same_Some n.value v here)))
  | inr e ↦ let later : value_at ns p ≡ Some v = rw e at h in rw e (ap (λ ms. n ∷ ms) (set-turned ns p f later))
]

-- where the cells of a list of places lie
abbrev pub ptrs : List Place → List Ptr
ptrs list = map (λ p. p.ptr) list

-- there are as many cells where the links of one are set
pub within-set : (links : List Links) (k : ℕ) (l : Links) {j : ℕ} → j < length links → j < length (set links k l)
within-set links k l within = omega (arith, within, length-set links k l)

-- a place is that of the cell of a key
pub record At (list : List Place) (p : Ptr) (k : ℕ) : Type 0 where
  pub key : key_at (ptrs list) p ≡ Some k

-- a pointer and its mark lead to the cell of this key, or to none
pub record Leads (list : List Place) (to : Place × Bool) (key : Option ℕ) : Type 0 where
  pub marked : IsMarked (ptrs list) to.1 to.0.ptr
  pub led : led_at (ptrs list) to.1 to.0.ptr ≡ key

-- a marked pointer leads to some cell
pub record Led (list : List Place) (q : Place) (key : Option ℕ) : Type 0 where
  pub number : ℕ
  pub is : key ≡ Some number
  pub at : At list q.ptr number

pub leads-some : {list : List Place} {to : Place × Bool} {key : Option ℕ} → Leads list to key → to.1 ≡ true → Led list to.0 key
leads-some {list} {to} {key} leads marked =
    let ps = ptrs list in
    let q = to.0.ptr in
    let there : IsMarked ps true q = subst (λ m. IsMarked ps m q) marked leads.marked in
    let led : key_at ps q ≡ key = sym (ap (λ m. led_at ps m q) marked) ∙ leads.led in
    elim (cases_Option key) [
      | inl e ↦ absurd (true≢false (sym (rw (led ∙ e) at there)))
      | inr w ↦ record { number = w.0; is = w.1; at = record { key = led ∙ w.1 } }
    ]

-- where it is not marked it leads to none
pub leads-none : {list : List Place} {to : Place × Bool} {key : Option ℕ} → Leads list to key → to.1 ≡ false → key ≡ None
leads-none {list} {to} leads unmarked = sym leads.led ∙ ap (λ m. led_at (ptrs list) m to.0.ptr) unmarked

-- the pointer to a cell leads to it
pub leads-to : {list : List Place} (q : Place) {j : ℕ} → At list q.ptr j → Leads list (q, true) (Some j)
leads-to q at = record { marked = rw at.key refl; led = at.key }

-- that of no cell leads to none
pub leads-nowhere : {list : List Place} (q : Place) → Leads list (q, false) None
leads-nowhere q = record { marked = tt; led = refl }

-- a key and its mark lead to one of so many cells, or to none
pub record Keyed (n : ℕ) (mark : Bool) (k : ℕ) (key : Option ℕ) : Type 0 where
  pub within : IsWithin n mark k
  pub is : kept_at mark k ≡ key

-- where it is not marked it leads to none
pub keyed-none : {n k : ℕ} {mark : Bool} {key : Option ℕ} → Keyed n mark k key → mark ≡ false → key ≡ None
keyed-none {k = k} keyed unmarked = sym keyed.is ∙ ap (λ m. kept_at m k) unmarked

-- where it leads to some cell it is marked
pub keyed-there : {n k : ℕ} {mark : Bool} {key : Option ℕ} → Keyed n mark k key → IsSome key → mark ≡ true
keyed-there {mark = mark} keyed there = elim (cases_Bool mark) [ inl e ↦ e | inr e ↦ absurd (true≢false (sym (rw (keyed-none keyed e) at there))) ]

-- what is read of the link back of a child, where f tells where it leads by what stands before the child
pub record BackLed (list : List Place) (to : Place × Bool) (link : Link) (previous : Option ℕ) (f : Option ℕ → Option ℕ) : Type 0 where
  pub link_is : link ≡ back_link (is_some previous)
  pub leads : Leads list to (f previous)

module _ {list : List Place} (mark : BackMark) {q : Place} {has_prev has_back : Bool} {link : Link} {previous around : Option ℕ}
    (prev_is : has_prev ≡ is_prev mark) (back_is : has_back ≡ is_back mark) (link_is : link ≡ back_link has_prev) where
  pub back-led : Leads list (q, is_prev mark) previous → Leads list (q, is_back mark) around → (f : Option ℕ → Option ℕ) →
      ((j : ℕ) → f (Some j) ≡ Some j) → f None ≡ around → BackLed list (q, has_back) link previous f
  back-led before behind f some none =
      let by = cases mark before behind in
      record {
        link_is = link_is ∙ ap back_link (prev_is ∙ by.0);
        leads = subst (λ m. Leads list (q, m) (f previous)) (sym back_is) by.1;
      }
    where
      alone : (m : Bool) → Leads list (q, false) previous → Leads list (q, m) around → (false ≡ is_some previous) × Leads list (q, m) (f previous)
      alone m before behind =
          let is : previous ≡ None = leads-none before refl in
          (sym (ap is_some is), subst (Leads list (q, m)) (sym (ap f is ∙ none)) behind)

      cases : (mark : BackMark) → Leads list (q, is_prev mark) previous → Leads list (q, is_back mark) around →
          (is_prev mark ≡ is_some previous) × Leads list (q, is_back mark) (f previous)
      cases back.Nowhere before behind = alone false before behind
      cases back.Around before behind = alone true before behind
      cases back.Before before behind =
          let led = leads-some before refl in
          (sym (ap is_some led.is), subst (Leads list (q, true)) (sym (ap f led.is ∙ some led.number)) (leads-to q led.at))

module _ {T : Type 0} where
  -- the cells are wired, and seen so
  pub record Stored (list : List Place) (cells : List (Placed (Cell T))) (payloads : List T) (links : List Links) : Type 0 where
    pub wired : IsWired list cells
    pub seen_as : seen cells ≡ record { payloads = payloads; links = links }

  -- there is a cell where a place has a key
  found-at : {list : List Place} {cells : List (Placed (Cell T))} → IsWired list cells → {k : ℕ} {p : Ptr} → At list p k → Found cells k p
  found-at {list} {cells} wired {k} {p} at =
      found cells k p (number-key (places_of cells) p k (subst (λ ps. key_at ps p ≡ Some k) wired.places at.key))

  pub value-at : {list : List Place} {cells : List (Placed (Cell T))} → IsWired list cells → {k : ℕ} {p : Ptr} → At list p k → IsSome (value_at cells p)
  value-at wired at = let there = found-at wired at in rw there.value refl

  -- the place that the list gives for a key is that of the key's cell
  pub at-key : {list : List Place} {cells : List (Placed (Cell T))} {payloads : List T} {links : List Links} → Stored list cells payloads links →
      {n k : ℕ} → n ≡ k → {place : Place} → k < length links → place ≡ get_or list n place → At list place.ptr k
  at-key {list} {cells} {payloads} {links} stored {n} {k} same {place} within read =
      let long : length links ≡ length cells = ap length (sym (ap (λ (s : Cells T). s.links) stored.seen_as)) ∙ length-map cells (links_of (places_of cells)) in
      let seat : Seat cells k place.ptr = seat_of stored.wired k (omega (arith, long, within)) (read ∙ ap (λ i. get_or list i place) same) in
      record { key = subst (λ ps. key_at ps place.ptr ≡ Some k) (sym stored.wired.places) seat.key }

  -- there are as many places as links
  as-long : {list : List Place} {cells : List (Placed (Cell T))} {payloads : List T} {links : List Links} → Stored list cells payloads links →
      length (places_of cells) ≡ length links
  as-long {cells = cells} stored =
      length-map cells (λ n. n.at) ∙ sym (length-map cells (links_of (places_of cells))) ∙ ap length (ap (λ (s : Cells T). s.links) stored.seen_as)

  -- and as many as the list has
  pub list-long : {list : List Place} {cells : List (Placed (Cell T))} {payloads : List T} {links : List Links} → Stored list cells payloads links →
      length links ≡ length list
  list-long {list} stored = sym (as-long stored) ∙ ap length (sym stored.wired.places) ∙ length-map list (λ p. p.ptr)

  -- the key of a link that is marked has its place in the list
  pub keyed-listed : {list : List Place} {cells : List (Placed (Cell T))} {payloads : List T} {links : List Links} → Stored list cells payloads links →
      {k : ℕ} {mark : Bool} {key : Option ℕ} → Keyed (length links) mark k key → mark ≡ true → k < length list
  keyed-listed {links = links} stored {k} keyed marked =
      subst (λ n. k < n) (list-long stored) (subst (λ m. IsWithin (length links) m k) marked keyed.within)

  -- and a cell lies there
  pub keyed-led : {list : List Place} {cells : List (Placed (Cell T))} {payloads : List T} {links : List Links} → Stored list cells payloads links →
      {k : ℕ} {mark : Bool} {key : Option ℕ} → Keyed (length links) mark k key → mark ≡ true → {q : Place} → q ≡ get_or list k q → Led list q key
  keyed-led {links = links} stored {k} keyed marked read = record {
    number = k;
    is = sym (sym (ap (λ m. kept_at m k) marked) ∙ keyed.is);
    at = at-key stored refl (subst (λ m. IsWithin (length links) m k) marked keyed.within) read;
  }

  -- a cell that is read at a place is as it should be, and its links are what is seen of it
  pub record Read (cells : List (Placed (Cell T))) (links : List Links) (k : ℕ) (c : Cell T) : Type 0 where
    pub good : IsCell (places_of cells) k c
    pub as_placed : Placed (Cell T)
    pub is : as_placed.value ≡ c
    pub seen : (link : Link) → link_at links k link ≡ link_in (links_of (places_of cells) as_placed) link

  read-at : {list : List Place} {cells : List (Placed (Cell T))} {payloads : List T} {links : List Links} → Stored list cells payloads links →
      {k : ℕ} {p : Ptr} → At list p k → {c : Cell T} → value_at cells p ≡ Some c → Read cells links k c
  read-at {list} {cells} {payloads} {links} stored {k} {p} at {c} value =
      let there = found-at stored.wired at in
      let n : Placed (Cell T) = there.cell in
      let same : n.value ≡ c = same_Some n.value c (sym there.value ∙ value) in
      let seen_as : map (links_of (places_of cells)) cells ≡ links = ap (λ (s : Cells T). s.links) stored.seen_as in
      record {
        good = subst (λ (x : Cell T). IsCell (places_of cells) k x) same (stored.wired.placed.cell k n there.is);
        as_placed = n;
        is = same;
        seen = λ link. sym (ap (λ ls. link_at ls k link) seen_as) ∙ link_at-seen (places_of cells) cells k n link there.is;
      }

  -- each link sideways of it leads where it is seen to
  pub links-lead : {list : List Place} {cells : List (Placed (Cell T))} {payloads : List T} {links : List Links} → Stored list cells payloads links →
      {k : ℕ} {p : Ptr} → At list p k → {c : Cell T} → value_at cells p ≡ Some c → (link : Sideways) →
      Leads list (pointer_in c link, mark_in c (link_of link)) (link_at links k (link_of link))
  links-lead {list} {cells} {payloads} {links} stored {k} {p} at {c} value link =
      let read : Read cells links k c = read-at stored at value in
      let wired = stored.wired in
      record {
        marked = subst (λ (ps : List Ptr). IsMarked ps (mark_in c (link_of link)) (pointer_in c link).ptr) (sym wired.places) (links-marked read.good link);
        led = ap (λ (ps : List Ptr). led_at ps (mark_in c (link_of link)) (pointer_in c link).ptr) wired.places
            ∙ sym (read.seen (link_of link) ∙ sideways-seen (places_of cells) read.as_placed link
            ∙ ap (λ (x : Cell T). led_at (places_of cells) (mark_in x (link_of link)) (pointer_in x link).ptr) read.is);
      }

  -- and so do those up and down
  module _ {list : List Place} {cells : List (Placed (Cell T))} {payloads : List T} {links : List Links} (stored : Stored list cells payloads links)
      {k : ℕ} {p : Ptr} (at : At list p k) {c : Cell T} (value : value_at cells p ≡ Some c) where
    pub parent-lead : Keyed (length links) c.marks.parent c.parent (link_at links k Parent)
    parent-lead =
        let read : Read cells links k c = read-at stored at value in
        record {
          within = subst (λ n. IsWithin n c.marks.parent c.parent) (as-long stored) read.good.parent;
          is = sym (read.seen Parent ∙ ap (λ (x : Cell T). kept_at x.marks.parent x.parent) read.is);
        }

    pub first-lead : Keyed (length links) c.marks.first c.first (link_at links k First)
    first-lead =
        let read : Read cells links k c = read-at stored at value in
        record {
          within = subst (λ n. IsWithin n c.marks.first c.first) (as-long stored) read.good.first;
          is = sym (read.seen First ∙ ap (λ (x : Cell T). kept_at x.marks.first x.first) read.is);
        }

  -- a cell turned at its place
  turned-stored : {list : List Place} {cells : List (Placed (Cell T))} {payloads : List T} {links : List Links} → Stored list cells payloads links →
      {k : ℕ} {p : Ptr} → At list p k → (turn : Cell T → Cell T) {f : Links → Links} → ((c : Cell T) → Turned (places_of cells) k c (turn c) f) →
      Stored list (turned_at cells p turn) payloads (set links k (f (get_or links k unlinked)))
  turned-stored {list} {cells} {payloads} {links} stored {k} {p} at turn {f} turned =
      let there = found-at stored.wired at in
      let c : Cell T = there.cell.value in
      let good = stored.wired.placed.cell k there.cell there.is in
      let write : List Links → List Links = λ ls. set ls k (f (get_or ls k unlinked)) in
      subst (λ (ns : List (Placed (Cell T))). Stored list ns payloads (write links)) (set-turned cells p turn there.value)
      (record {
        wired = IsWired-set stored.wired p there ((turned c).good good);
        seen_as = seen-turned cells k p there (turned c)
            ∙ (λ i. record { payloads = (stored.seen_as i).payloads; links = write ((stored.seen_as i).links) });
      })

  -- what a pointer leads to, by the cells
  leads-now : {list : List Place} {cells : List (Placed (Cell T))} → IsWired list cells → {to : Place × Bool} {key : Option ℕ} → Leads list to key →
      IsMarked (places_of cells) to.1 to.0.ptr × (led_at (places_of cells) to.1 to.0.ptr ≡ key)
  leads-now wired {to} {key} leads =
      subst (λ ps. IsMarked ps to.1 to.0.ptr × (led_at ps to.1 to.0.ptr ≡ key)) wired.places (leads.marked, leads.led)

  module _ {list : List Place} {cells : List (Placed (Cell T))} {payloads : List T} {links : List Links} (stored : Stored list cells payloads links)
      {k : ℕ} {p : Ptr} (at : At list p k) where
    -- a pointer set at a place
    pub pointed : (link : Sideways) (to : Place × Bool) {key : Option ℕ} → Leads list to key →
        Stored list (turned_at cells p (λ c. with_pointer c link to.0 to.1)) payloads (write links k (link_of link) key)
    pointed link to {key} leads =
        turned-stored stored at (λ c. with_pointer c link to.0 to.1) (λ c. turned_link c link to (leads-now stored.wired leads))

    -- the key of the first child set at a place
    pub headed : (to : ℕ) (leads : Bool) → IsWithin (length links) leads to →
        Stored list (turned_at cells p (λ c. with_first c to leads)) payloads (write links k First (kept_at leads to))
    headed to leads within =
        turned-stored stored at (λ c. with_first c to leads)
        (λ c. turned_first c to leads (subst (λ n. IsWithin n leads to) (sym (as-long stored)) within))

    -- the links as a child set at a place
    module _ (parent : ℕ) (next : Place × Bool) (link : Sideways) (back : Place × Bool) where
      pub own-linked : {on from : Option ℕ} → parent < length links → Leads list next on → Leads list back from →
          Stored list (turned_at cells p (λ c. with_own_links c parent next link back)) payloads (write_own links k (Some parent) on (link_of link) from)
      own-linked within on from =
          turned-stored stored at (λ c. with_own_links c parent next link back)
          (λ c. turned_again (turned_again (turned_parent c parent (subst (λ n. parent < n) (sym (as-long stored)) within))
          (turned_link _ side.Next next (leads-now stored.wired on))) (turned_link _ link back (leads-now stored.wired from)))

    -- the links as a child taken away at a place
    pub cleared : Stored list (turned_at cells p (λ c. record c { marks = without_own c.marks })) payloads (write_own links k None None Back None)
    cleared = turned-stored stored at (λ c. record c { marks = without_own c.marks }) turned_alone

  -- the parts of a store whose list is this, and which is seen as these cells
  pub record Held (list : List Place) (payloads : List T) (links : List Links) (s : Inside T) : Type 0 where
    pub listed : s.list.items ≡ list
    pub heap : s.pool.heap ≡ s.bump
    pub stored : Stored list s.pool.cells payloads links

  -- a store's parts are so
  pub held : (s : Inside T) {a : Cells T} → (s.pool.heap ≡ s.bump) × IsWired s.list.items s.pool.cells → seen s.pool.cells ≡ a →
      Held s.list.items a.payloads a.links s
  held s kept is = record { listed = refl; heap = kept.0; stored = record { wired = kept.1; seen_as = is } }

  -- and parts that are so are a store's
  pub held-kept : {list : List Place} {payloads : List T} {links : List Links} {s : Inside T} → Held list payloads links s →
      (s.pool.heap ≡ s.bump) × IsWired s.list.items s.pool.cells
  held-kept {s = s} h = (h.heap, subst (λ (l : List Place). IsWired l s.pool.cells) (sym h.listed) h.stored.wired)

  -- the key of the cell to which a link leads is what is seen of the link, where it is said that it leads to one
  pub held-head : {list : List Place} {payloads : List T} {links : List Links} {s : Inside T} → Held list payloads links s →
      {q : Place} (mark : Bool) {key : Option ℕ} → Leads list (q, mark) key → {head : ℕ} →
      (IsTrue mark → option_map (λ c. c.key) (value_at s.pool.cells q.ptr) ≡ Some head) → Keyed (length links) mark head key
  held-head {list} {links = links} {s} h {q} true leads {head} read =
      let led : Led list q _ = leads-some leads refl in
      let there = found-at h.stored.wired led.at in
      let key : there.cell.value.key ≡ led.number = (h.stored.wired.placed.cell led.number there.cell there.is).key in
      let same : led.number ≡ head = same_Some led.number head (ap Some (sym key) ∙ ap (option_map (λ c. c.key)) (sym there.value) ∙ read refl) in
      let long : length s.pool.cells ≡ length links = sym (length-map s.pool.cells (λ n. n.at)) ∙ as-long h.stored in
      record {
        within = omega (arith, same, long, slice_get_within s.pool.cells led.number there.cell there.is);
        is = ap Some (sym same) ∙ sym led.is;
      }
  held-head h false leads read = record { within = tt; is = sym (leads-none leads refl) }

  module _ {list : List Place} {payloads : List T} {links : List Links} {s : Inside T} (h : Held list payloads links s)
      {k : ℕ} {p : Ptr} (at : At list p k) where
    -- a cell lies at the place
    pub held-value : IsSome (value_at s.pool.cells p)
    held-value = value-at h.stored.wired at

    -- a pointer set there
    pub held-pointed : (link : Sideways) (to : Place × Bool) {key : Option ℕ} → Leads list to key → {pool : Pool (Cell T)} →
        pool ≡ record s.pool { cells = turned_at s.pool.cells p (λ c. with_pointer c link to.0 to.1) } →
        Held list payloads (write links k (link_of link) key) (record s { pool = pool })
    held-pointed link to {key} leads is =
        subst (λ (q : Pool (Cell T)). Held list payloads (write links k (link_of link) key) (record s { pool = q })) (sym is)
        (record { listed = h.listed; heap = h.heap; stored = pointed h.stored at link to leads })

    -- the key of the first child set there
    pub held-headed : (to : ℕ) (leads : Bool) → IsWithin (length links) leads to → {pool : Pool (Cell T)} →
        pool ≡ record s.pool { cells = turned_at s.pool.cells p (λ c. with_first c to leads) } →
        Held list payloads (write links k First (kept_at leads to)) (record s { pool = pool })
    held-headed to leads within is =
        subst (λ (q : Pool (Cell T)). Held list payloads (write links k First (kept_at leads to)) (record s { pool = q })) (sym is)
        (record { listed = h.listed; heap = h.heap; stored = headed h.stored at to leads within })

    -- the links as a child set there
    module _ (parent : ℕ) (next : Place × Bool) (link : Sideways) (back : Place × Bool) where
      pub held-own : {on from : Option ℕ} → parent < length links → Leads list next on → Leads list back from → {pool : Pool (Cell T)} →
          pool ≡ record s.pool { cells = turned_at s.pool.cells p (λ c. with_own_links c parent next link back) } →
          Held list payloads (write_own links k (Some parent) on (link_of link) from) (record s { pool = pool })
      held-own {on} {from} within lead_on lead_from is =
          subst (λ (q : Pool (Cell T)). Held list payloads (write_own links k (Some parent) on (link_of link) from) (record s { pool = q })) (sym is)
          (record { listed = h.listed; heap = h.heap; stored = own-linked h.stored at parent next link back within lead_on lead_from })

    -- the links as a child taken away there
    pub held-cleared : {pool : Pool (Cell T)} → pool ≡ record s.pool { cells = turned_at s.pool.cells p (λ c. record c { marks = without_own c.marks }) } →
        Held list payloads (write_own links k None None Back None) (record s { pool = pool })
    held-cleared is =
        subst (λ (q : Pool (Cell T)). Held list payloads (write_own links k None None Back None) (record s { pool = q })) (sym is)
        (record { listed = h.listed; heap = h.heap; stored = cleared h.stored at })
