-- Loops that place nodes, or take them out, one after another.
use Rattle.dom_mutation.proofs.Cited.{get_or, drop-cons, add-one, suc, ◌+◌, ◌≡◌, ℕ, ◌<◌, false, List, [], ◌∷◌, drop, length, map, Option, Some, option_map}
use Rattle.dom_mutation.proofs.Cited.{refl, sym, ap, subst, ◌∙◌, AllByRecursion, ForSome, NodeName, name_eq, first_of, is_in, parent_of, inclusive_ancestors}
use Rattle.dom_mutation.proofs.Cited.{is_inclusive_ancestor, Plan, Observing, in_turn, placing, remove_plan, name_at, DocState, planned, name_in, owner_in}
use Rattle.dom_mutation.proofs.Cited.{trees_in, MayMove, IsChild, KeepsPaths, NoneAbove, IsAlone, all_drop, lacks_to, keeps-placing, keeps-removing}
use Rattle.dom_mutation.proofs.Placed.{Counted, before_lacks, removal_keeps}
use Rattle.dom_mutation.proofs.Made.{planned_turn, alone_made}
use Rattle.dom_mutation.proofs.OwnPlans.{own_moves}

-- ---- placing

-- a state e where what was asked of d still holds: the names are the same, and so are the paths that matter
pub record Stays (parent : ℕ) (before : Option ℕ) (d e : DocState) : Type 0 where
  pub names : e.names ≡ d.names
  pub parent_path : inclusive_ancestors (trees_in e parent) (name_in d parent) ≡ inclusive_ancestors (trees_in d parent) (name_in d parent)
  pub before_path : ForSome before (λ b. inclusive_ancestors (trees_in e parent) (name_in d b) ≡ inclusive_ancestors (trees_in d parent) (name_in d b))

module _ (parent : ℕ) (before : Option ℕ) (d e : DocState) (stays : Stays parent before d e) where
  pub may_now : (k : ℕ) → MayMove d parent before k → MayMove e parent before k
  may_now k may = record {
    node = subst (λ (ns : List NodeName). k < length ns) (sym stays.names) may.node;
    owner = subst (λ (ns : List NodeName). (name_at ns k).owner ≡ (name_at ns parent).owner) (sym stays.names) may.owner;
    not_above = subst (λ (ns : List NodeName). is_in name_eq (name_at ns k) (inclusive_ancestors (trees_in e parent) (name_at ns parent)) ≡ false)
        (sym stays.names)
        (ap (is_in name_eq (name_in d k)) stays.parent_path ∙ may.not_above);
    apart = λ b is. subst (λ (ns : List NodeName). name_eq (name_at ns k) (name_at ns b) ≡ false) (sym stays.names) (may.apart b is);
  }

  pub all_may_now : (ks : List ℕ) → AllByRecursion (MayMove d parent before) ks → AllByRecursion (MayMove e parent before) ks
  all_may_now [] h = tt
  all_may_now (k ∷ ks) h = (may_now k h.0, all_may_now ks h.1)

  pub child_now : ForSome before (IsChild d parent) → ForSome before (IsChild e parent)
  child_now child b is = record {
    node = subst (λ (ns : List NodeName). b < length ns) (sym stays.names) (child b is).node;
    owner = subst (λ (ns : List NodeName). (name_at ns b).owner ≡ (name_at ns parent).owner) (sym stays.names) (child b is).owner;
    child = subst (λ (ns : List NodeName). parent_of (trees_in e parent) (name_at ns b) ≡ Some (name_at ns parent)) (sym stays.names)
        (ap (λ path. first_of (drop 1 path)) (stays.before_path b is) ∙ (child b is).child);
  }

-- where the trees are the same
pub stays_same : (parent : ℕ) (before : Option ℕ) (d e : DocState) → e.names ≡ d.names → trees_in e parent ≡ trees_in d parent → Stays parent before d e
stays_same parent before d e names trees = record {
  names = names;
  parent_path = ap (λ t. inclusive_ancestors t (name_in d parent)) trees;
  before_path = λ b is. ap (λ t. inclusive_ancestors t (name_in d b)) trees;
}

-- how far a loop has come that places nodes: the state d when it began, and e now, with these nodes left
pub record Places (parent : ℕ) (before : Option ℕ) (all : List ℕ) (d : DocState) (rest : List ℕ) (e : DocState) : Type 0 where
  pub stays : Stays parent before d e
  pub alone : IsAlone e.world (owner_in d parent)
  pub state : let turn = λ (ks : List ℕ). in_turn (placing (name_in d parent) (option_map (name_in d) before)) (map (name_in d) ks) in
      planned (owner_in d parent) (turn rest) e ≡ planned (owner_in d parent) (turn all) d

pub places_first : (parent : ℕ) (before : Option ℕ) (all : List ℕ) (d : DocState) → IsAlone d.world (owner_in d parent) → Places parent before all d all d
places_first parent before all d alone = record { stays = stays_same parent before d d refl refl; alone = alone; state = refl }

module _ (parent : ℕ) (before : Option ℕ) (all : List ℕ) (d : DocState) where
  -- a step of it
  pub places_next : {k : ℕ} {rest : List ℕ} {e f : DocState}
      → Places parent before all d (k ∷ rest) e → MayMove d parent before k →
      ForSome before (λ b. is_inclusive_ancestor (trees_in d parent) (name_in d k) (name_in d b) ≡ false)
      → f ≡ planned (owner_in e parent) (placing (name_in e parent) (option_map (name_in e) before) (name_in e k)) e → KeepsPaths parent (name_in e k) e f
      → Places parent before all d rest f
  places_next {k} {rest} {e} {f} places may off is keeps =
      let o = owner_in d parent in
      let turn : NodeName → Plan = placing (name_in d parent) (option_map (name_in d) before) in
      let at : f ≡ planned (owner_in d parent) (turn (name_in d k)) e =
      subst (λ (ns : List NodeName). f ≡ planned (name_at ns parent).owner
      (placing (name_at ns parent) (option_map (name_at ns) before) (name_at ns k)) e) places.stays.names is in
      let kept = subst (λ (ns : List NodeName). (y : NodeName) → is_in name_eq (name_at ns k) (inclusive_ancestors (trees_in e parent) y) ≡ false →
      inclusive_ancestors (trees_in f parent) y ≡ inclusive_ancestors (trees_in e parent) y) places.stays.names keeps in
      record {
        stays = record {
          names = ap (λ (s : DocState). s.names) at ∙ places.stays.names;
          parent_path = kept (name_in d parent) (ap (is_in name_eq (name_in d k)) places.stays.parent_path ∙ may.not_above) ∙ places.stays.parent_path;
          before_path = λ b h. kept (name_in d b) (ap (is_in name_eq (name_in d k)) (places.stays.before_path b h) ∙ off b h) ∙ places.stays.before_path b h;
        };
        alone = subst (λ (s : DocState). IsAlone s.world o) (sym at)
            (alone_made o (turn (name_in d k)) e.world places.alone
            (keeps-placing (own_moves o) (name_in d parent) (option_map (name_in d) before) (name_in d k) may.owner));
        state = ap (planned o (in_turn turn (map (name_in d) rest))) at ∙ planned_turn o turn (name_in d k) (map (name_in d) rest) e places.alone
            (keeps-placing (own_moves o) (name_in d parent) (option_map (name_in d) before) (name_in d k) may.owner) ∙ places.state;
      }

  -- nodes that may be placed
  module _ (counted : Counted d) (may : AllByRecursion (MayMove d parent before) all) (child : ForSome before (IsChild d parent)) where
    -- a step of it, by its index
    pub places_on : (i : ℕ) {k : ℕ} {e f : DocState} → i < length all → k ≡ get_or all i k → Places parent before all d (drop i all) e
        → f ≡ planned (owner_in e parent) (placing (name_in e parent) (option_map (name_in e) before) (name_in e k)) e → KeepsPaths parent (name_in e k) e f
        → Places parent before all d (drop (i + 1) all) f
    places_on i {k} {e} {f} i< is places made keeps =
        let now : drop i all ≡ k ∷ drop (suc i) all = drop-cons all i k i< ∙ ap (λ j. j ∷ drop (suc i) all) (sym is) in
        let here = (subst (AllByRecursion (MayMove d parent before)) now (all_drop (MayMove d parent before) i all may)).0 in
        subst (λ j. Places parent before all d (drop j all) f) (sym (add-one i))
        (places_next (subst (λ ks. Places parent before all d ks e) now places) here
        (λ b at. lacks_to (name_in d k) (inclusive_ancestors (trees_in d parent) (name_in d b))
        (before_lacks counted here child at)) made keeps)

-- ---- taking out

-- the item of a loop over some keys, and its index
pub record IsItem (all : List ℕ) (i k : ℕ) : Type 0 where
  pub below : i < length all
  pub item : k ≡ get_or all i k

-- how far a loop has come that takes nodes out
pub record Empties (how : Observing) (top : ℕ) (all : List ℕ) (d : DocState) (rest : List ℕ) (e : DocState) : Type 0 where
  pub names : e.names ≡ d.names
  pub alone : IsAlone e.world (owner_in d top)
  pub state : planned (owner_in d top) (in_turn (remove_plan how) (map (name_in d) rest)) e ≡ planned (owner_in d top)
      (in_turn (remove_plan how) (map (name_in d) all)) d
  pub paths : (y : NodeName) → NoneAbove d top y all → (inclusive_ancestors (trees_in e top) y ≡ inclusive_ancestors (trees_in d top) y) ×
      NoneAbove d top y rest

pub empties_first : (how : Observing) (top : ℕ) (all : List ℕ) (d : DocState) → IsAlone d.world (owner_in d top) → Empties how top all d all d
empties_first how top all d alone = record { names = refl; alone = alone; state = refl; paths = λ y h. (refl, h) }

module _ (how : Observing) (top : ℕ) (all : List ℕ) (d : DocState) where
  -- a step of it
  pub empties_next : {k : ℕ} {rest : List ℕ} {e f : DocState} → owner_in d k ≡ owner_in d top
      → Empties how top all d (k ∷ rest) e → f ≡ planned (owner_in e k) (remove_plan how (name_in e k)) e → KeepsPaths k (name_in e k) e f →
      Empties how top all d rest f
  empties_next {k} {rest} {e} {f} owner empties is keeps =
      let own : owner_in e k ≡ owner_in d top = ap (λ (ns : List NodeName). (name_at ns k).owner) empties.names ∙ owner in
      let at : f ≡ planned (owner_in d top) (remove_plan how (name_in d k)) e =
      is ∙ ap (λ o. planned o (remove_plan how (name_in e k)) e) own ∙
      ap (λ (ns : List NodeName). planned (owner_in d top) (remove_plan how (name_at ns k)) e) empties.names in
      let names = ap (λ (s : DocState). s.names) at in
      let trees_e = ap (λ o. (Rattle.dom_model.specs.World.part_of e.world o).trees)
      (own ∙ ap (λ (ns : List NodeName). (name_at ns top).owner) (sym empties.names)) in
      let trees_f = ap (λ o. (Rattle.dom_model.specs.World.part_of f.world o).trees)
      (ap (λ (ns : List NodeName). (name_at ns k).owner) (names ∙ empties.names) ∙ owner ∙
      ap (λ (ns : List NodeName). (name_at ns top).owner) (sym (names ∙ empties.names))) in
      record {
        names = names ∙ empties.names;
        alone = subst (λ (s : DocState). IsAlone s.world (owner_in d top)) (sym at)
            (alone_made (owner_in d top) (remove_plan how (name_in d k)) e.world empties.alone (keeps-removing (own_moves (owner_in d top)) how (name_in d k)));
        state = ap (planned (owner_in d top) (in_turn (remove_plan how) (map (name_in d) rest))) at ∙ planned_turn (owner_in d top) (remove_plan how)
            (name_in d k) (map (name_in d) rest) e empties.alone (keeps-removing (own_moves (owner_in d top)) how (name_in d k)) ∙ empties.state;
        paths = λ y h.
            let was = empties.paths y h in
            let off = ap (λ (ns : List NodeName). is_in name_eq (name_at ns k) (inclusive_ancestors (trees_in e k) y)) empties.names
            ∙ ap (λ t. is_in name_eq (name_in d k) (inclusive_ancestors t y)) trees_e ∙ ap (is_in name_eq (name_in d k)) was.0 ∙ was.1.0 in
            (ap (λ t. inclusive_ancestors t y) (sym trees_f) ∙ keeps y off ∙ ap (λ t. inclusive_ancestors t y) trees_e ∙ was.0, was.1.1);
      }

  -- a step of it, by its index
  pub empties_on : (i : ℕ) {k : ℕ} {e f : DocState} → Counted e
      → IsItem all i k → AllByRecursion (λ j. (j < length d.names) × (owner_in d j ≡ owner_in d top)) all →
      Empties how top all d (drop i all) e
      → f ≡ planned (owner_in e k) (remove_plan how (name_in e k)) e → Empties how top all d (drop (i + 1) all) f
  empties_on i {k} {e} {f} counted at nodes empties made =
      let now : drop i all ≡ k ∷ drop (suc i) all = drop-cons all i k at.below ∙ ap (λ j. j ∷ drop (suc i) all) (sym at.item) in
      let here = (subst (AllByRecursion (λ j. (j < length d.names) × (owner_in d j ≡ owner_in d top))) now
      (all_drop (λ j. (j < length d.names) × (owner_in d j ≡ owner_in d top)) i all nodes)).0 in
      subst (λ j. Empties how top all d (drop j all) f) (sym (add-one i))
      (empties_next here.1 (subst (λ ks. Empties how top all d ks e) now empties) made
      (removal_keeps e counted k (subst (IsAlone e.world) (sym (ap (λ (ns : List NodeName). (name_at ns k).owner) empties.names ∙ here.1))
      empties.alone) how made))
