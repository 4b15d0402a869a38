-- What is read in the cells of a store, and what is seen of them.
use Rattle.std.proofs.Common.{◌≡◌, ℕ, ◌<◌, inl, inr, true, false, true≢false, List, map, length, get_or}
use Rattle.std.proofs.Common.{Some, None, slice_get, refl, sym, ap, ◌∙◌, subst, arith}
use Rattle.std.specs.Option.{option_map, IsSome}
use Rattle.std.proofs.lemmas.List.{length-map}
use Rattle.std.proofs.lemmas.Option.{slice_get_read, slice_get_within, slice_get-map, get_or_from_slice_get, same_Some}
use denote.RawPtr.{Ptr}
use Rattle.node_arena.specs.declared.pool.Place.{Place}
use Rattle.node_arena.specs.declared.cell.Cell.{Cell}
use Rattle.node_arena.specs.declared.link_marks.Back.{Back as BackMark}
use Rattle.node_arena.specs.declared.link_marks.Back.TheVariants as back
use Rattle.node_arena.specs.declared.cell.Link.{Link}
use Rattle.node_arena.specs.declared.cell.Link.TheVariants.{Parent, First, Next, Prev, Back}
use Rattle.node_arena.specs.declared.cell.Sideways.{Sideways}
use Rattle.node_arena.specs.declared.cell.Sideways.TheVariants as side
use Rattle.node_arena.specs.Links.{unlinked, link_in, link_at}
use Rattle.node_arena.specs.Owned.{Placed, placed, value_at}
use Rattle.node_arena.specs.LinkMarks.{unmarked, is_prev, is_back}
use Rattle.node_arena.specs.Store.{key_at, led_at, kept_at, IsMarked, IsWithin, IsListed, IsPlaceOf, IsCell, IsWired, IsCellOf}
use Rattle.node_arena.specs.Store.{places_of, payload_of, pointer_in, mark_in, link_of, links_of}
use Rattle.node_arena.proofs.Forests.{cases_Option}
use Rattle.node_arena.proofs.Numbers.{number-key, Found, found}

-- a link back that is marked as it should be is so too where it leads to a sibling before
prev-marked : (ps : List Ptr) (p : Ptr) (mark : BackMark) → IsMarked ps (is_back mark) p → IsMarked ps (is_prev mark) p
prev-marked ps p back.Nowhere h = tt
prev-marked ps p back.Around h = tt
prev-marked ps p back.Before h = h

module _ {T : Type 0} where
  -- the place that the list gives for a key is that of the key's cell
  pub record Seat (cells : List (Placed (Cell T))) (k : ℕ) (p : Ptr) : Type 0 where
    pub cell : Found cells k p
    pub key : key_at (places_of cells) p ≡ Some k
    pub good : IsCell (places_of cells) k cell.cell.value

  -- there are as many cells as places
  as-listed : {list : List Place} {cells : List (Placed (Cell T))} → IsWired list cells → length cells ≡ length list
  as-listed {list} {cells} wired = sym (length-map cells (λ n. n.at)) ∙ ap length (sym wired.places) ∙ length-map list (λ p. p.ptr)

  -- the seat of a key
  pub seat_of : {list : List Place} {cells : List (Placed (Cell T))} → IsWired list cells → (k : ℕ) {place : Place} → k < length cells →
      place ≡ get_or list k place → Seat cells k place.ptr
  seat_of {list} {cells} wired k {place} within read =
      let here : slice_get list k ≡ Some place = slice_get_read list (length cells) k place (as-listed wired) within read in
      let there : slice_get (places_of cells) k ≡ Some place.ptr =
      ap (λ ps. slice_get ps k) (sym wired.places) ∙ slice_get-map (λ p. p.ptr) list k ∙ ap (option_map (λ p. p.ptr)) here in
      let key : key_at (places_of cells) place.ptr ≡ Some k = wired.placed.led k place.ptr there in
      let cell : Found cells k place.ptr = found cells k place.ptr (number-key (places_of cells) place.ptr k key) in
      record { cell = cell; key = key; good = wired.placed.cell k cell.cell cell.is }

  -- there is a value to be read in the cell of a key, where something is seen of the cell
  pub value_kept : {list : List Place} {cells : List (Placed (Cell T))} → IsWired list cells → {X : Type 0} (of : Placed (Cell T) → X) (k : ℕ) {place : Place} →
      k < length (map of cells) → place ≡ get_or list k place → IsSome (value_at cells place.ptr)
  value_kept {cells} wired of k {place} within read =
      let seat : Seat cells k place.ptr = seat_of wired k (omega (arith, length-map cells of)) read in rw seat.cell.value refl

  -- what is seen of one link of a cell
  pub link_at-seen : (ps : List Ptr) (cells : List (Placed (Cell T))) (k : ℕ) (n : Placed (Cell T)) (link : Link) → slice_get cells k ≡ Some n →
      link_at (map (links_of ps) cells) k link ≡ link_in (links_of ps n) link
  link_at-seen ps cells k n link is =
      ap (λ l. link_in l link) (get_or_from_slice_get (map (links_of ps) cells) k (links_of ps n) unlinked
      (slice_get-map (links_of ps) cells k ∙ ap (option_map (links_of ps)) is))

  -- what is seen of a link sideways
  pub sideways-seen : (ps : List Ptr) (n : Placed (Cell T)) (link : Sideways) →
      link_in (links_of ps n) (link_of link) ≡ led_at ps (mark_in n.value (link_of link)) (pointer_in n.value link).ptr
  sideways-seen ps n side.Next = refl
  sideways-seen ps n side.Prev = refl
  sideways-seen ps n side.Back = refl

  -- where a link is not marked nothing is seen of it
  unmarked-seen : (ps : List Ptr) (n : Placed (Cell T)) (link : Link) → mark_in n.value link ≡ false → link_in (links_of ps n) link ≡ None
  unmarked-seen ps n Parent is = ap (λ m. kept_at m n.value.parent) is
  unmarked-seen ps n First is = ap (λ m. kept_at m n.value.first) is
  unmarked-seen ps n Next is = ap (λ m. led_at ps m n.value.next.ptr) is
  unmarked-seen ps n Prev is = ap (λ m. led_at ps m n.value.back.ptr) is
  unmarked-seen ps n Back is = ap (λ m. led_at ps m n.value.back.ptr) is

  -- each link sideways of a cell is marked as it should be
  pub links-marked : {ps : List Ptr} {k : ℕ} {c : Cell T} → IsCell ps k c → (link : Sideways) → IsMarked ps (mark_in c (link_of link)) (pointer_in c link).ptr
  links-marked good side.Next = good.next
  links-marked {ps} {c = c} good side.Prev = prev-marked ps c.back.ptr c.marks.back good.back
  links-marked good side.Back = good.back

  -- a cell of the store is as it should be
  good-in : {list : List Place} {cells : List (Placed (Cell T))} {c : Cell T} → IsCellOf list cells c → IsCell (places_of cells) c.key c
  good-in {list} {cells} {c} of =
      subst (λ (x : Cell T). IsCell (places_of cells) c.key x) of.value (of.wired.placed.cell c.key of.as_placed of.is)

  -- and its links are what is seen of it
  link-in : {list : List Place} {cells : List (Placed (Cell T))} {c : Cell T} (of : IsCellOf list cells c) → (link : Link) →
      link_at (map (links_of (places_of cells)) cells) c.key link ≡ link_in (links_of (places_of cells) (placed of.as_placed.at c)) link
  link-in {list} {cells} {c} of link =
      let ps : List Ptr = places_of cells in
      let n : Placed (Cell T) = of.as_placed in
      subst (λ (x : Cell T). link_at (map (links_of ps) cells) c.key link ≡ link_in (links_of ps (placed n.at x)) link) of.value
      (link_at-seen ps cells c.key n link of.is)

  -- its key is that of one of the cells
  pub within-cells : {list : List Place} {cells : List (Placed (Cell T))} {c : Cell T} → IsCellOf list cells c →
      c.key < length (map (links_of (places_of cells)) cells)
  within-cells {list} {cells} {c} of =
      omega (arith, slice_get_within cells c.key of.as_placed of.is, length-map cells (links_of (places_of cells)))

  -- where a link is not marked there is none
  pub read-none : {list : List Place} {cells : List (Placed (Cell T))} {c : Cell T} → IsCellOf list cells c → (link : Link) → mark_in c link ≡ false →
      None ≡ link_at (map (links_of (places_of cells)) cells) c.key link
  read-none {list} {cells} {c} of link unmarked =
      sym (link-in of link ∙ unmarked-seen (places_of cells) (placed of.as_placed.at c) link unmarked)

  -- a link up or down that is marked: its key is that of a cell, and is seen
  pub record Kept (list : List Place) (cells : List (Placed (Cell T))) (k : ℕ) (link : Link) (to : ℕ) : Type 0 where
    pub within : to < length cells
    pub seen : link_at (map (links_of (places_of cells)) cells) k link ≡ Some to

  pub kept-parent : {list : List Place} {cells : List (Placed (Cell T))} {c : Cell T} → IsCellOf list cells c → c.marks.parent ≡ true →
      Kept list cells c.key Parent c.parent
  kept-parent {list} {cells} {c} of marked =
      let bound : c.parent < length (places_of cells) = subst (λ m. IsWithin (length (places_of cells)) m c.parent) marked (good-in of).parent in
      record {
        within = omega (arith, bound, length-map cells (λ n. n.at));
        seen = link-in of Parent ∙ ap (λ m. kept_at m c.parent) marked;
      }

  pub kept-first : {list : List Place} {cells : List (Placed (Cell T))} {c : Cell T} → IsCellOf list cells c → c.marks.first ≡ true →
      Kept list cells c.key First c.first
  kept-first {list} {cells} {c} of marked =
      let bound : c.first < length (places_of cells) = subst (λ m. IsWithin (length (places_of cells)) m c.first) marked (good-in of).first in
      record {
        within = omega (arith, bound, length-map cells (λ n. n.at));
        seen = link-in of First ∙ ap (λ m. kept_at m c.first) marked;
      }

  pub kept-seen : {list : List Place} {cells : List (Placed (Cell T))} {k to : ℕ} {link : Link} → Kept list cells k link to →
      to < length (map (links_of (places_of cells)) cells)
  kept-seen {cells = cells} kept = omega (arith, kept.within, length-map cells (links_of (places_of cells)))

  -- a link that is marked has its place in the list, if it is a key
  pub listed : {list : List Place} {cells : List (Placed (Cell T))} {c : Cell T} → IsCellOf list cells c → (link : Link) → mark_in c link ≡ true →
      IsListed (length list) c link
  listed {c = c} of Parent marked = subst (λ n. c.parent < n) (as-listed of.wired) (kept-parent of marked).within
  listed {c = c} of First marked = subst (λ n. c.first < n) (as-listed of.wired) (kept-first of marked).within
  listed of Next marked = tt
  listed of Prev marked = tt
  listed of Back marked = tt

  -- a place to which a link of the cell of a key leads is that of a cell, whose key is what is seen of the link
  pub record Reading (cells : List (Placed (Cell T))) (k : ℕ) (link : Link) (q : Ptr) : Type 0 where
    pub number : ℕ
    pub cell : Found cells number q
    pub key : cell.cell.value.key ≡ number
    pub seen : link_at (map (links_of (places_of cells)) cells) k link ≡ Some number

  -- where a link sideways is marked its pointer is such
  pub reading-sideways : {list : List Place} {cells : List (Placed (Cell T))} {c : Cell T} → IsCellOf list cells c → (link : Sideways) →
      mark_in c (link_of link) ≡ true → {to : Place} → to ≡ pointer_in c link → Reading cells c.key (link_of link) to.ptr
  reading-sideways {list} {cells} {c} of link marked is =
      let ps : List Ptr = places_of cells in
      let q : Ptr = (pointer_in c link).ptr in
      let there : IsMarked ps true q = subst (λ m. IsMarked ps m q) marked (links-marked (good-in of) link) in
      let at = link-in of (link_of link) ∙ sideways-seen ps (placed of.as_placed.at c) link in
      subst (λ (p : Place). Reading cells c.key (link_of link) p.ptr) (sym is) (elim (cases_Option (key_at ps q)) [
        | inl e ↦ absurd (true≢false (sym (rw e at there)))
        | inr f ↦
            let cell : Found cells f.0 q = found cells f.0 q (number-key ps q f.0 f.1) in
            let seen = at ∙ ap (λ m. led_at ps m q) marked ∙ f.1 in
            record { number = f.0; cell = cell; key = (of.wired.placed.cell f.0 cell.cell cell.is).key; seen = seen }
      ])

  -- where a link up or down is marked the place of its key is such
  reading-kept : {list : List Place} {cells : List (Placed (Cell T))} {c : Cell T} → IsCellOf list cells c → (link : Link) (k : ℕ) →
      Kept list cells c.key link k → {to : Place} → to ≡ get_or list k to → Reading cells c.key link to.ptr
  reading-kept of link k kept {to} is =
      let seat = seat_of of.wired k {place = to} kept.within is in
      record { number = k; cell = seat.cell; key = seat.good.key; seen = kept.seen }

  -- so is the place of each link that is marked
  pub reading : {list : List Place} {cells : List (Placed (Cell T))} {c : Cell T} → IsCellOf list cells c → (link : Link) → mark_in c link ≡ true →
      {to : Place} → IsPlaceOf list c link to → Reading cells c.key link to.ptr
  reading of Parent marked is = reading-kept of Parent _ (kept-parent of marked) is
  reading of First marked is = reading-kept of First _ (kept-first of marked) is
  reading of Next marked is = reading-sideways of side.Next marked is
  reading of Prev marked is = reading-sideways of side.Prev marked is
  reading of Back marked is = reading-sideways of side.Back marked is

  -- the cell that is read there is that cell
  pub read-cell : {list : List Place} {cells : List (Placed (Cell T))} → IsWired list cells → {k : ℕ} {link : Link} {q : Ptr} → Reading cells k link q →
      {d : Cell T} → value_at cells q ≡ Some d → IsCellOf list cells d × (Some d.key ≡ link_at (map (links_of (places_of cells)) cells) k link)
  read-cell {list} {cells} wired at {d} value =
      let n : Placed (Cell T) = at.cell.cell in
      let same : n.value ≡ d = same_Some n.value d (sym at.cell.value ∙ value) in
      let key : d.key ≡ at.number = ap (λ c. c.key) (sym same) ∙ at.key in
      (record { wired = wired; as_placed = n; is = ap (slice_get cells) key ∙ at.cell.is; value = same }, ap Some key ∙ sym at.seen)

  -- the cell that is read at the place of a key is the key's
  pub seated : {list : List Place} {cells : List (Placed (Cell T))} → IsWired list cells → (k : ℕ) {place : Place} → k < length cells →
      place ≡ get_or list k place → {c : Cell T} → value_at cells place.ptr ≡ Some c → IsCellOf list cells c × (c.key ≡ k)
  seated {list} {cells} wired k {place} within read {c} value =
      let seat : Seat cells k place.ptr = seat_of wired k within read in
      let same : seat.cell.cell.value ≡ c = same_Some seat.cell.cell.value c (sym seat.cell.value ∙ value) in
      let key : c.key ≡ k = ap (λ x. x.key) (sym same) ∙ seat.good.key in
      (record { wired = wired; as_placed = seat.cell.cell; is = ap (slice_get cells) key ∙ seat.cell.is; value = same }, key)

  -- what is seen of the payload of a cell
  pub payload_at : (cells : List (Placed (Cell T))) (k : ℕ) (n : Placed (Cell T)) → slice_get cells k ≡ Some n →
      slice_get (map payload_of cells) k ≡ Some n.value.payload
  payload_at cells k n is = slice_get-map payload_of cells k ∙ ap (option_map payload_of) is

  -- what is read in the cell of a key: its payload is seen
  pub read-payload : {list : List Place} {cells : List (Placed (Cell T))} → IsWired list cells → (k : ℕ) {place : Place} → k < length (map payload_of cells) →
      place ≡ get_or list k place → {c : Cell T} → value_at cells place.ptr ≡ Some c → slice_get (map payload_of cells) k ≡ Some c.payload
  read-payload {cells} wired k {place} within read value =
      let seat : Seat cells k place.ptr = seat_of wired k (omega (arith, length-map cells payload_of)) read in
      payload_at cells k seat.cell.cell seat.cell.is ∙ ap (option_map (λ x. x.payload)) (sym seat.cell.value ∙ value)
