-- First children that are kept beside the links: what changes leave of them, and walks back to them.
use Rattle.std.proofs.Common.{◌≡◌, ◌≢◌, ◌⊎◌, inl, inr, ℕ, suc, ◌+◌, ◌-◌, ◌<◌, ◌≤◌, Bool, true, false, eqb, List, [], ◌∷◌, ◌++◌, map, length, set, get_or}
use Rattle.std.proofs.Common.{Option, Some, None, refl, sym, ap, subst, ◌∙◌, arith, append_assoc, append-nil, true≢false, not}
use Rattle.std.specs.Prelude.{slice_get, is_none}
use Rattle.std.specs.Option.{option_and_then}
use Rattle.std.proofs.lemmas.Bool.{eq-eqb, eqb-true, both_ways, or_left, or_right, or_parts, false_from_ne_true, cases_eq}
use Rattle.std.proofs.lemmas.Bool.Decides.{eqb_tells}
use Rattle.std.proofs.lemmas.List.{get_or-set_same, get_or-set_other}
use Rattle.std.proofs.lemmas.Option.{same_Some, none-some}
use Rattle.node_arena.specs.Nodes.{children_of, siblings_in, contains, parent_of, prev_of, prev_in, prev_from, next_in, head_of, last_from, last_of, place_in}
use Rattle.node_arena.specs.Nodes.{place_of, put_before, insert_before, without, IsOnce, IsForest}
use Rattle.node_arena.specs.Known.{AreFirst, IsBehind}
use Rattle.node_arena.specs.declared.first_children.FirstChildren.{FirstChildren}
use Rattle.node_arena.proofs.Lists.{contains-append, contains-last_of, IsOnce-append_left, IsOnce-append_right, IsOnce-apart, IsOnce-closed}
use Rattle.node_arena.proofs.Lists.{is, head_or, next_in_is, last_from-Some}
use Rattle.node_arena.proofs.Lists.{next_from-append, next_from_is, head_or-None, prev_from-append, without-absent}
use Rattle.node_arena.proofs.Forests.{cases_Option, contains-parent, children_of-without, parent_of_is}
use Rattle.node_arena.proofs.Indexes.{prev_place, first_place, no_prev, place_of-root, place_of-child}

-- ---- a key of a list, and one that it lacks

-- a list has a key or lacks it
pub cases_has : (xs : List ℕ) (k : ℕ) → (contains xs k ≡ true) ⊎ (contains xs k ≡ false)
cases_has xs k = by (contains xs k) refl
  where
    by : (b : Bool) → contains xs k ≡ b → (contains xs k ≡ true) ⊎ (contains xs k ≡ false)
    by true e = inl e
    by false e = inr e

-- a list of which no item is k
pub contains-none : (xs : List ℕ) (k : ℕ) → ((i : ℕ) → i < length xs → get_or xs i 0 ≢ k) → contains xs k ≡ false
contains-none [] k other = refl
contains-none (x ∷ xs) k other =
    let apart : eqb x k ≡ false = false_from_ne_true _ (λ same. other 0 (omega arith) (eqb-true x k same)) in
    rw apart (contains-none xs k (λ i l. other (suc i) (omega arith)))

-- a test for inequality that fails
pub same_from : (a b : ℕ) → false ≡ not (eqb a b) → a ≡ b
same_from a b e = elim (eqb_tells a b) [ inl h ↦ h.1 | inr h ↦ absurd (true≢false (sym (e ∙ ap not h.0))) ]

pub place_in-before : (xs rest : List ℕ) (k : ℕ) → contains xs k ≡ true → place_in (xs ++ rest) k ≡ place_in xs k
place_in-before [] rest k found = absurd (true≢false (sym found))
place_in-before (x ∷ xs) rest k found = elim (eqb_tells x k) [
  | inl h ↦ rw h.0
  | inr h ↦ rw h.0 (ap suc (place_in-before xs rest k (rw h.0 at found)))
]

pub place_in-behind : (xs rest : List ℕ) (k : ℕ) → contains xs k ≡ false → place_in (xs ++ rest) k ≡ length xs + place_in rest k
place_in-behind [] rest k absent = omega arith
place_in-behind (x ∷ xs) rest k absent =
    let parts = or_parts (eqb x k) (contains xs k) absent in
    rw parts.0 (omega (arith, place_in-behind xs rest k parts.1))

-- ---- what a change of a list leaves of its first items

pub put_before-before : (xs rest : List ℕ) (c b : ℕ) → contains xs b ≡ true → put_before (xs ++ rest) c b ≡ put_before xs c b ++ rest
put_before-before [] rest c b found = absurd (true≢false (sym found))
put_before-before (x ∷ xs) rest c b found = elim (eqb_tells x b) [
  | inl h ↦ rw h.0
  | inr h ↦ rw h.0 (ap (λ ys. x ∷ ys) (put_before-before xs rest c b (rw h.0 at found)))
]

pub put_before-behind : (xs rest : List ℕ) (c b : ℕ) → contains xs b ≡ false → put_before (xs ++ rest) c b ≡ xs ++ put_before rest c b
put_before-behind [] rest c b absent = refl
put_before-behind (x ∷ xs) rest c b absent =
    let parts = or_parts (eqb x b) (contains xs b) absent in
    rw parts.0 (ap (λ ys. x ∷ ys) (put_before-behind xs rest c b parts.1))

pub without-append : (k : ℕ) (xs rest : List ℕ) → without k (xs ++ rest) ≡ without k xs ++ without k rest
without-append k [] rest = refl
without-append k (x ∷ xs) rest = elim (eqb_tells x k) [
  | inl h ↦ rw h.0 (without-append k xs rest)
  | inr h ↦ rw h.0 (ap (λ ys. x ∷ ys) (without-append k xs rest))
]

pub first_none : (list : List ℕ) → AreFirst [] list
first_none list = (list, refl)

pub first_pushed : (xs list : List ℕ) (c : ℕ) → AreFirst xs list → AreFirst xs (list ++ c ∷ [])
first_pushed xs list c first = (first.0 ++ c ∷ [], ap (λ ys. ys ++ c ∷ []) first.1 ∙ append_assoc xs first.0 (c ∷ []))

pub first_put-there : (xs list : List ℕ) (c b : ℕ) → contains xs b ≡ true → AreFirst xs list → AreFirst (put_before xs c b) (put_before list c b)
first_put-there xs list c b found first = (first.0, ap (λ ys. put_before ys c b) first.1 ∙ put_before-before xs first.0 c b found)

pub first_put-behind : (xs list : List ℕ) (c b : ℕ) → contains xs b ≡ false → AreFirst xs list → AreFirst xs (put_before list c b)
first_put-behind xs list c b absent first =
    (put_before first.0 c b, ap (λ ys. put_before ys c b) first.1 ∙ put_before-behind xs first.0 c b absent)

pub first_without : (xs list : List ℕ) (c : ℕ) → AreFirst xs list → AreFirst (without c xs) (without c list)
first_without xs list c first = (without c first.0, ap (without c) first.1 ∙ without-append c xs first.0)

-- first items that were kept or given up
pub first_kept : {xs kept list : List ℕ} → (kept ≡ xs) ⊎ (kept ≡ []) → AreFirst xs list → AreFirst kept list
first_kept {list = list} (inl e) first = subst (λ ys. AreFirst ys list) (sym e) first
first_kept {list = list} (inr e) first = subst (λ ys. AreFirst ys list) (sym e) (first_none list)

-- what a list lacks is not among its first items
pub first_absent : (xs list : List ℕ) (c : ℕ) → contains list c ≡ false → AreFirst xs list → contains xs c ≡ false
first_absent xs list c absent first =
    (or_parts (contains xs c) (contains first.0 c) (sym (contains-append xs first.0 c) ∙ (ap (λ ys. contains ys c) (sym first.1) ∙ absent))).0

-- the item behind the first ones is none of them
pub first_other : (xs list : List ℕ) (c : ℕ) → IsOnce list → AreFirst (xs ++ c ∷ []) list → contains xs c ≡ false
first_other xs list c once first =
    let closed = IsOnce-closed xs [] c (IsOnce-append_left (xs ++ c ∷ []) first.0 (subst IsOnce first.1 once)) in
    ap (λ ys. contains ys c) (sym (append-nil xs)) ∙ closed.absent

-- ---- one more of the first items

-- the last item of a list, by its place
last_from-get : (x : ℕ) (xs : List ℕ) → last_from (Some x) xs ≡ slice_get (x ∷ xs) (length xs)
last_from-get x [] = refl
last_from-get x (y ∷ xs) = last_from-get y xs

pub last_of-get : (xs : List ℕ) → last_of xs ≡ slice_get xs (length xs - 1)
last_of-get [] = refl
last_of-get (x ∷ xs) = last_from-get x xs ∙ ap (slice_get (x ∷ xs)) (omega arith)

pub last_of-none : (xs : List ℕ) → last_of xs ≡ None → xs ≡ []
last_of-none [] e = refl
last_of-none (x ∷ xs) e = absurd (true≢false (ap is_none (sym e) ∙ last_from-Some x xs))

-- the last of the first children is a child
pub last_child : (xs list : List ℕ) (l : ℕ) → AreFirst xs list → last_of xs ≡ Some l → contains list l ≡ true
last_child xs list l first e =
    ap (λ ys. contains ys l) first.1 ∙ (contains-append xs first.0 l ∙ or_left (contains xs l) _ (contains-last_of xs l e))

-- what stands just after the last of the first items is the first of the others
next_behind : (xs rest : List ℕ) (l : ℕ) → IsOnce (xs ++ rest) → last_of xs ≡ Some l → next_in (xs ++ rest) l ≡ head_of rest
next_behind xs rest l once e =
    let here : is (last_of xs) l ≡ true = ap (λ o. is o l) e ∙ eq-eqb l l refl in
    next_in_is (xs ++ rest) l
    ∙ (next_from-append xs rest None l
    ∙ (rw (contains-last_of xs l e, next_from_is xs (head_or rest None) l (IsOnce-append_left xs rest once), here) (head_or-None rest)))

-- first items with the first of the others behind them
one_more : (xs rest : List ℕ) (c : ℕ) → head_of rest ≡ Some c → AreFirst (xs ++ c ∷ []) (xs ++ rest)
one_more xs [] c e = absurd (none-some c e)
one_more xs (y ∷ rest) c e = (rest, ap (λ z. xs ++ z ∷ rest) (same_Some y c e) ∙ sym (append_assoc xs (c ∷ []) rest))

pub first_more : (xs : List ℕ) {list : List ℕ} {l c : ℕ} → IsOnce list → AreFirst xs list → last_of xs ≡ Some l → next_in list l ≡ Some c →
    AreFirst (xs ++ c ∷ []) list
first_more xs {l} {c} once first last next =
    let beside = next_behind xs first.0 l (subst IsOnce first.1 once) last in
    subst (AreFirst (xs ++ c ∷ [])) (sym first.1) (one_more xs first.0 c (sym beside ∙ (ap (λ ys. next_in ys l) (sym first.1) ∙ next)))

pub first_begun : (xs list : List ℕ) (c : ℕ) → xs ≡ [] → head_of list ≡ Some c → AreFirst (xs ++ c ∷ []) list
first_begun xs list c none e = rw none (one_more [] list c e)

-- ---- a walk back from a node to the last of the first siblings that are known

module _ (known rest : List ℕ) (k : ℕ) where
  -- a node that stands just behind those known is the first of the others
  ends_in : (last : Option ℕ) → IsOnce (known ++ rest) → contains rest k ≡ true → last_of known ≡ last →
      prev_from last rest k ≡ last → place_in rest k ≡ 0
  ends_in None once found is e = first_place rest k found e
  ends_in (Some s) once found is e = elim (prev_place (Some s) rest k (IsOnce-append_right known rest once) found e) [
    | inl w ↦ w.0
    | inr w ↦ absurd (both_ways _ (IsOnce-apart known rest s once (contains-last_of known s is)) w.0)
  ]

  -- one step back among the others
  steps_in : (s : ℕ) → IsOnce (known ++ rest) → contains rest k ≡ true → prev_from (last_of known) rest k ≡ Some s →
      (last_of known ≡ Some s → ⊥) → (contains known s ≡ false) × (contains rest s ≡ true) × (place_in rest k ≡ suc (place_in rest s))
  steps_in s once found e other = elim (prev_place (last_of known) rest k (IsOnce-append_right known rest once) found e) [
    | inl w ↦ absurd (other w.1)
    | inr w ↦ (false_from_ne_true _ (λ t. both_ways _ (IsOnce-apart known rest s once t) w.0), w.0, w.1)
  ]

-- no list with items is the beginning of an empty one
nothing_first : (known rest : List ℕ) → [] ≡ known ++ rest → known ≡ []
nothing_first [] rest e = refl
nothing_first (x ∷ known) rest e = absurd (omega (arith, ap (length {A = ℕ}) e))

-- what a node behind those known is among the children of its parent
pub record Stands (lists : List (List ℕ)) (known : List ℕ) (k p : ℕ) : Type 0 where
  pub rest : List ℕ
  pub is : children_of lists p ≡ known ++ rest
  pub once : IsOnce (known ++ rest)
  pub found : contains rest k ≡ true
  pub prev : prev_of lists k ≡ prev_from (last_of known) rest k
  pub place : place_of lists k ≡ length known + place_in rest k

stands : {lists : List (List ℕ)} → IsForest lists → {known : List ℕ} {k p : ℕ} → parent_of lists k ≡ Some p → IsBehind lists known k → Stands lists known k p
stands {lists} forest {known} {k} {p} e behind =
    let first : AreFirst known (children_of lists p) = subst (λ (o : Option ℕ). AreFirst known (siblings_in lists o)) e behind.first in
    let child : contains (known ++ first.0) k ≡ true = ap (λ xs. contains xs k) (sym first.1) ∙ contains-parent lists k p e in
    record {
      rest = first.0;
      is = first.1;
      once = subst IsOnce first.1 (forest.once p);
      found = rw behind.absent at (sym (contains-append known first.0 k) ∙ child);
      prev = ap (option_and_then (λ q. prev_in (children_of lists q) k)) e ∙ (ap (λ xs. prev_in xs k) first.1 ∙
          (prev_from-append None known first.0 k ∙ rw behind.absent refl));
      place = place_of-child lists k p e ∙ (ap (λ xs. place_in xs k) first.1 ∙ place_in-behind known first.0 k behind.absent);
    }

-- of a root nothing is known
pub root_known : (lists : List (List ℕ)) (known : List ℕ) (k : ℕ) → parent_of lists k ≡ None → IsBehind lists known k → known ≡ []
root_known lists known k e behind =
    let first : AreFirst known [] = subst (λ (o : Option ℕ). AreFirst known (siblings_in lists o)) e behind.first in
    nothing_first known first.0 first.1

pub behind_least : (lists : List (List ℕ)) (known : List ℕ) (k : ℕ) → IsBehind lists known k → length known ≤ place_of lists k
unfolding place_of
behind_least lists known k behind =
    omega (arith, ap (λ xs. place_in xs k) behind.first.1 ∙ place_in-behind known behind.first.0 k behind.absent)

pub behind_ends : (lists : List (List ℕ)) → IsForest lists → (known : List ℕ) (k : ℕ) → IsBehind lists known k → prev_of lists k ≡ last_of known →
    place_of lists k ≡ length known
behind_ends lists forest known k behind ends = elim (cases_Option (parent_of lists k)) [
  | inl e ↦ place_of-root lists k e ∙ sym (ap (length {A = ℕ}) (root_known lists known k e behind))
  | inr w ↦
      let there = stands forest w.1 behind in
      let none = ends_in known there.rest k (last_of known) there.once there.found refl (sym there.prev ∙ ends) in
      omega (arith, there.place, none)
]

-- one step back from a node behind those known
pub behind_step : {lists : List (List ℕ)} → IsForest lists → {known : List ℕ} {k s : ℕ} → IsBehind lists known k → prev_of lists k ≡ Some s →
    (last_of known ≡ Some s → ⊥) → IsBehind lists known s × (place_of lists k ≡ suc (place_of lists s))
behind_step {lists} forest {known} {k} {s} behind prev other = elim (cases_Option (parent_of lists k)) [
  | inl e ↦ absurd (none-some s (ap (option_and_then (λ q. prev_in (children_of lists q) k)) (sym e) ∙ prev))
  | inr w ↦
      let there = stands forest w.1 behind in
      let step = steps_in known there.rest k s there.once there.found (sym there.prev ∙ prev) other in
      let child : contains (children_of lists w.0) s ≡ true =
      ap (λ xs. contains xs s) there.is ∙ (contains-append known there.rest s ∙ or_right (contains known s) _ step.1) in
      let same = parent_of_is lists forest.one_list w.0 s child in
      let next : IsBehind lists known s =
      record { first = subst (λ (o : Option ℕ). AreFirst known (siblings_in lists o)) (sym same) (there.rest, there.is); absent = step.0 } in
      let before : place_of lists s ≡ length known + place_in there.rest s =
      place_of-child lists s w.0 same ∙ (ap (λ xs. place_in xs s) there.is ∙ place_in-behind known there.rest s step.0) in
      (next, omega (arith, there.place, step.2, before))
]

-- a node without a sibling before it is behind none
pub behind_none : (lists : List (List ℕ)) → IsForest lists → (known : List ℕ) (k : ℕ) → IsBehind lists known k → prev_of lists k ≡ None → last_of known ≡ None
behind_none lists forest known k behind e = elim (cases_Option (parent_of lists k)) [
  | inl h ↦ ap last_of (root_known lists known k h behind)
  | inr w ↦
      let there = stands forest w.1 behind in
      by there.rest (last_of known) there.found (sym there.prev ∙ e)
]
  where
    by : (rest : List ℕ) (last : Option ℕ) → contains rest k ≡ true → prev_from last rest k ≡ None → last ≡ None
    by rest None found none = refl
    by rest (Some x) found none = absurd (no_prev x rest k found none)

-- the place of a node among the first siblings that are known is its place
pub known_place : (lists : List (List ℕ)) (known : List ℕ) (k : ℕ) → AreFirst known (siblings_in lists (parent_of lists k)) →
    contains known k ≡ true → place_in known k ≡ place_of lists k
unfolding place_of
known_place lists known k first found = sym (ap (λ xs. place_in xs k) first.1 ∙ place_in-before known first.0 k found)

-- a node without a parent is not among the children of one
pub root_absent : (lists : List (List ℕ)) → IsForest lists → (p c : ℕ) → parent_of lists c ≡ None → contains (children_of lists p) c ≡ false
root_absent lists forest p c root =
    false_from_ne_true _ (λ found. absurd (none-some p (sym root ∙ parent_of_is lists forest.one_list p c found)))

-- ---- what the changes of an arena leave of what is kept

-- what is kept once the children of p have changed: first children of the same node as before, of the new list where that is p, and else the same
pub record Keeps (p : ℕ) (f g : FirstChildren) (change : List ℕ → List ℕ) : Type 0 where
  pub parent : g.parent ≡ f.parent
  pub there : p ≡ f.parent → (siblings : List ℕ) → AreFirst f.keys siblings → AreFirst g.keys (change siblings)
  pub elsewhere : p ≢ f.parent → g.keys ≡ f.keys

pub first_linked : (lists : List (List ℕ)) {p : ℕ} (c : ℕ) (before : Option ℕ) {f g : FirstChildren} → p < length lists →
    AreFirst f.keys (children_of lists f.parent) → Keeps p f g (λ siblings. insert_before siblings c before) →
    AreFirst g.keys (children_of (set lists p (insert_before (children_of lists p) c before)) g.parent)
first_linked lists {p} c before {f} {g} node first keeps = elim (cases_eq p f.parent) [
  | inl e ↦
      subst (AreFirst g.keys) (sym (ap (children_of (set lists p (insert_before (children_of lists p) c before))) (keeps.parent ∙ sym e)
      ∙ get_or-set_same lists p (insert_before (children_of lists p) c before) [] node))
      (keeps.there e (children_of lists p) (subst (λ (q : ℕ). AreFirst f.keys (children_of lists q)) (sym e) first))
  | inr n ↦
      let left : children_of (set lists p (insert_before (children_of lists p) c before)) g.parent ≡ children_of lists f.parent =
      ap (children_of (set lists p (insert_before (children_of lists p) c before))) keeps.parent
      ∙ get_or-set_other lists p f.parent (insert_before (children_of lists p) c before) [] (λ e. n (sym e)) in
      subst (AreFirst g.keys) (sym left) (subst (λ (xs : List ℕ). AreFirst xs (children_of lists f.parent)) (sym (keeps.elsewhere n)) first)
]

pub first_unlinked : {lists : List (List ℕ)} → IsForest lists → (c : ℕ) {p : ℕ} {f g : FirstChildren} → parent_of lists c ≡ Some p →
    AreFirst f.keys (children_of lists f.parent) → Keeps p f g (without c) → AreFirst g.keys (children_of (map (without c) lists) g.parent)
first_unlinked {lists} forest c {p} {f} {g} child first keeps =
    subst (AreFirst g.keys) (sym (children_of-without lists c g.parent ∙ ap (λ q. without c (children_of lists q)) keeps.parent))
    (by (cases_eq p f.parent))
  where
    by : (p ≡ f.parent) ⊎ (p ≢ f.parent) → AreFirst g.keys (without c (children_of lists f.parent))
    by (inl e) = keeps.there e (children_of lists f.parent) first
    by (inr n) =
        let apart : contains (children_of lists f.parent) c ≡ false =
        false_from_ne_true _ (λ found. n (forest.one_list p f.parent c (contains-parent lists c p child) found)) in
        subst (AreFirst g.keys) (sym (without-absent c (children_of lists f.parent) apart))
        (subst (λ (xs : List ℕ). AreFirst xs (children_of lists f.parent)) (sym (keeps.elsewhere n)) first)
