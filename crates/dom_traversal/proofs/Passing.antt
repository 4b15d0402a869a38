-- The nodes among which nextNode and previousNode choose are those reached through nodes that are not passed over.
use Rattle.dom_traversal.proofs.Cited.{◌≡◌, Bool, true, false, not, ◌&&◌, List, Option, Some, refl, sym, ap, subst, ◌∙◌, filter, is_none, false_from_ne_true}
use Rattle.dom_traversal.proofs.Cited.{above-proper, accepts, ancestors, answer_at, behind, behind-next, beyond, filter-same, first_of, following_place, In}
use Rattle.dom_traversal.proofs.Cited.{inclusive_ancestors, is_in-from, is_inclusive_ancestor, is_reject, IsWithin, NodeName, Reject, rejects, Skip, stands_in}
use Rattle.dom_traversal.proofs.Cited.{Trees, Verdict, Walker, walker_nodes, is_passable}
use Rattle.dom_traversal.proofs.Opening.{reached, all-from, none-all}
use Rattle.dom_traversal.proofs.Forward.{Comes, Comes-skip, Comes-reject, Comes-apart, following-above, not_behind}

-- a node that is accepted and not hidden
abbrev pub passing : Trees → Walker → NodeName → Bool
passing ts w = reached ts (accepts ts w.filter) (is_passable ts w)

-- the nodes of a walker are those
pub walker_nodes-passing : (ts : Trees) (w : Walker) (ys : List NodeName) → walker_nodes ts w ys ≡ filter (passing ts w) ys
walker_nodes-passing ts w ys =
    filter-same _ (passing ts w) ys (λ y i. ap (λ b. accepts ts w.filter y && b)
    (none-all (λ a. rejects ts w.filter a && not (is_inclusive_ancestor ts a w.current)) (ancestors ts y)))

-- what the answer of a filter says
pub accepts-some : (ts : Trees) (w : Walker) (x : NodeName) (v : Verdict) → Some v ≡ answer_at ts w.filter x → accepts ts w.filter x ≡ false
accepts-some ts w x v e = ap is_none (sym e)

-- a skipped node may be passed
pub passable-skip : (ts : Trees) (w : Walker) (x : NodeName) → Some Skip ≡ answer_at ts w.filter x → is_passable ts w x ≡ true
passable-skip ts w x e = ap (λ o. not (is_reject o && not (is_inclusive_ancestor ts x w.current))) (sym e)

-- a rejected one may not, but for those above the current node
pub passable-reject : (ts : Trees) (w : Walker) (x : NodeName) → Some Reject ≡ answer_at ts w.filter x →
    is_inclusive_ancestor ts x w.current ≡ false → is_passable ts w x ≡ false
passable-reject ts w x e off = ap (λ o. not (is_reject o && not (is_inclusive_ancestor ts x w.current))) (sym e) ∙ ap (λ b. not (not b)) off

-- a node above the current one may
pub passable-above : (ts : Trees) (w : Walker) (a : NodeName) → In a (inclusive_ancestors ts w.current) → is_passable ts w a ≡ true
passable-above ts w a i = rw (is_in-from a (inclusive_ancestors ts w.current) i) (exempt (rejects ts w.filter a))
  where
    exempt : (b : Bool) → not (b && false) ≡ true
    exempt true = refl
    exempt false = refl

-- the search begins behind the current node
pub Comes-begin : (ts : Trees) (w : Walker) → IsWithin ts w.root w.current → (o : Option NodeName) → o ≡ first_of (behind ts w.root w.current)
    → Comes ts (accepts ts w.filter) (is_passable ts w) w.root w.current (first_of (walker_nodes ts w (behind ts w.root w.current))) o
Comes-begin ts w at o next =
    let zone = behind-next ts w.root w.current at o (sym next) in
    record {
      within = λ y e. (following_place ts w.root w.current y at (sym next ∙ e)).0;
      path = λ y e. all-from (is_passable ts w) (ancestors ts y)
          (λ a i. passable-above ts w a (subst (In a) (sym (above-proper ts w.current (stands_in ts w.root w.current at)))
          (following-above at (sym next ∙ e) a i)));
      apart = λ i. not_behind ts w.root w.current at (subst (In w.current) (sym zone) i);
      left = ap first_of (ap (filter (passing ts w)) (sym zone) ∙ sym (walker_nodes-passing ts w (behind ts w.root w.current)));
    }

-- the search of nextNode
abbrev pub ComesNext : Trees → Walker → Option NodeName → Type 0
ComesNext ts w o = Comes ts (accepts ts w.filter) (is_passable ts w) w.root w.current (first_of (walker_nodes ts w (behind ts w.root w.current))) o

-- a skipped node is entered
pub ComesNext-skip : {ts : Trees} {x : NodeName} {o : Option NodeName} (w : Walker) → ComesNext ts w (Some x) → Some Skip ≡ answer_at ts w.filter x →
    o ≡ first_of (behind ts w.root x) → ComesNext ts w o
ComesNext-skip {ts} {x} {o} w h answer next =
    Comes-skip ts (accepts ts w.filter) (is_passable ts w) w.root w.current _ x o h (accepts-some ts w x Skip answer) (passable-skip ts w x answer) next

-- a rejected one is passed with its tree
pub ComesNext-reject : {ts : Trees} {x : NodeName} {o : Option NodeName} (w : Walker) → IsWithin ts w.root w.current → ComesNext ts w (Some x) →
    Some Reject ≡ answer_at ts w.filter x → o ≡ first_of (beyond ts w.root x) → ComesNext ts w o
ComesNext-reject {ts} {x} {o} w at h answer next =
    let off = false_from_ne_true _ (Comes-apart ts (accepts ts w.filter) (is_passable ts w) w.root w.current _ x h at) in
    Comes-reject ts (accepts ts w.filter) (is_passable ts w) w.root w.current _ x o h (accepts-some ts w x Reject answer)
    (passable-reject ts w x answer off) next
