use Rattle.dom_base.proofs.Std.{◌≡◌, ◌<◌, ◌∷◌, ◌++◌, [], ℕ, Bool, true, false, List, All, Option, None, Some, length, map, refl, sym, ap, subst, ◌∙◌, arith}
use Rattle.dom_base.proofs.Std.{true≢false, filter, if◌then◌else◌, option_map, option_map_or, append-nil, All-push}
use Rattle.dom_model.proofs.Model.{NodeName, DomString, name_eq, items_after, Node, node_in, children_of}
use Rattle.dom_tree.specs.Definitions.{name_at}
use Rattle.dom_tree.proofs.Standing.{Once-forest, Has-forest}
use Rattle.dom_slots.specs.Definitions.{looks_for, waiting_under, is_wanted}
use Rattle.dom_slots.proofs.Firsts.{text_true}
use Rattle.dom_slots.proofs.Siblings.{from_item, first_step, goes-on}
use Rattle.dom_slots.proofs.Walks.{collect-yes, collect-no}
use Rattle.dom_slots.proofs.waiting.waiting_below.Goals.{then-is_wanted+in_ok-add, else-is_wanted}
use Rattle.dom_slots.proofs.waiting.waiting_below.Goals as goal

-- a child is added to those that are found, or passed
module _ (names : List NodeName) (p : NodeName → Bool) (found : List ℕ) (k : ℕ) (node : k < length names) (xs all : List NodeName)
    (nodes : All (λ j. j < length names) found) (left : map (name_at names) found ++ filter p (name_at names k ∷ xs) ≡ all) where
  added : (b : Bool) → p (name_at names k) ≡ b → (new : List ℕ) → new ≡ (if b then found ++ k ∷ [] else found) →
      map (name_at names) new ++ filter p xs ≡ all
  added true hit new e = (collect-yes names p found k node xs all nodes left new e hit).1
  added false miss new e = (collect-no names p found k node xs all nodes left new e miss).1

-- those that are found stay nodes
module _ (n : ℕ) (found : List ℕ) (k : ℕ) (node : k < n) (nodes : All (λ j. j < n) found) where
  still-nodes : (b : Bool) (new : List ℕ) → new ≡ (if b then found ++ k ∷ [] else found) → All (λ j. j < n) new
  still-nodes true new e = subst (All (λ j. j < n)) (sym e) (All-push (λ j. j < n) found k nodes node)
  still-nodes false new e = subst (All (λ j. j < n)) (sym e) nodes

-- who does not look for the name that is wanted looks for no name that is
unwanted : (wanted : Option DomString) (name : DomString) (n : Node) → is_wanted wanted name ≡ true →
    option_map_or (λ a. looks_for a n) wanted true ≡ false → looks_for name n ≡ false
unwanted None name n w e = absurd (true≢false e)
unwanted (Some a) name n w e = ap (λ b. looks_for b n) (text_true name a w) ∙ e

pub loop-at-init : goal.loop-at-init
loop-at-init c =
    let f = c.args.forest.now in
    let h = name_at f.names c.args.host in
    let e = c.law_nodes_stand_once.ensures in
    let step = first_step f (Once-forest f e.once e.only) h (Has-forest f e.once c.args.host c.requires) c.first-at.result
    c.first-at.ensures.value c.first-at.ensures.node in
    record {
      child = step.1;
      nodes = λ name. subst (All (λ j. j < length f.names)) (sym (c.new-waiting.ensures name)) (λ k d i. absurd (omega arith));
      left = λ name w. ap (λ ks. map (name_at f.names) ks ++ filter (λ y. looks_for name (node_in f.trees y))
          (from_item (children_of f.trees h) (option_map (name_at f.names) c.first-at.result))) (c.new-waiting.ensures name) ∙
          ap (filter (λ y. looks_for name (node_in f.trees y))) step.0;
    }

pub add-requires : goal.add-requires
add-requires c = (c.loop-at.invariant.child c.in-Some.child c.in-Some.is).node

pub next-at-requires : goal.next-at-requires
next-at-requires c = (c.loop-at.invariant.child c.in-Some.child c.in-Some.is).node

pub loop-at-smaller : goal.loop-at-smaller
loop-at-smaller c =
    let e = c.law_nodes_stand_once.ensures in
    (goes-on c.args.forest.now e.once e.only c.args.host c.requires c.in-Some.is c.loop-at.invariant.child c.next-at.ensures.value
    c.next-at.ensures.node).less

pub loop-at-preserved : goal.loop-at-preserved
loop-at-preserved c =
    let f = c.args.forest.now in
    let e = c.law_nodes_stand_once.ensures in
    let k = c.in-Some.child in
    let node = (c.loop-at.invariant.child k c.in-Some.is).node in
    let step = goes-on f e.once e.only c.args.host c.requires c.in-Some.is c.loop-at.invariant.child c.next-at.ensures.value
    c.next-at.ensures.node in
    let all = children_of f.trees (name_at f.names c.args.host) in
    let xs = items_after name_eq (name_at f.names k) all in
    let test : List ℕ → NodeName → Bool = λ name y. looks_for name (node_in f.trees y) in
    let wanted = option_map (λ a. a.now) c.args.wanted in
    let was = c.loop-at.waiting in
    let next = c.if-is_wanted.waiting in
    let left : (name : List ℕ) → is_wanted wanted name ≡ true → map (name_at f.names) (waiting_under was name) ++ filter (test name)
    (name_at f.names k ∷ xs) ≡ filter (test name) all =
    λ name w.
    ap (λ o. map (name_at f.names) (waiting_under was name) ++ filter (test name) (from_item all (option_map (name_at f.names) o)))
    (sym c.in-Some.is) ∙ c.loop-at.invariant.left name w in
    let now : ((name : List ℕ) → All (λ j. j < length f.names) (waiting_under next name)) × ((name : List ℕ) → is_wanted wanted name ≡ true →
    map (name_at f.names) (waiting_under next name) ++ filter (test name) xs ≡ filter (test name) all) = elim c.if-is_wanted.branch [
      | then-is_wanted+in_ok-add w ↦ (
        λ name.
            still-nodes (length f.names) (waiting_under was name) k node (c.loop-at.invariant.nodes name) (test name (name_at f.names k))
            (waiting_under next name) (ap (λ v. waiting_under v name) w.waiting-is ∙ w.in_ok-add.ensures name),
        λ name sought.
            added f.names (test name) (waiting_under was name) k node xs (filter (test name) all) (c.loop-at.invariant.nodes name) (left name sought)
            (test name (name_at f.names k)) refl (waiting_under next name) (ap (λ v. waiting_under v name) w.waiting-is ∙ w.in_ok-add.ensures name),
      )
      | else-is_wanted w ↦ (
        λ name. subst (λ v. All (λ j. j < length f.names) (waiting_under v name)) (sym w.waiting-is) (c.loop-at.invariant.nodes name),
        λ name sought.
            added f.names (test name) (waiting_under was name) k node xs (filter (test name) all) (c.loop-at.invariant.nodes name) (left name sought)
            false (unwanted wanted name (node_in f.trees (name_at f.names k)) sought (sym w.if-is_wanted.ensures)) (waiting_under next name)
            (ap (λ v. waiting_under v name) w.waiting-is),
      )
    ] in
    record {
      child = step.child;
      nodes = now.0;
      left = λ name w. ap (λ ys. map (name_at f.names) (waiting_under next name) ++ filter (test name) ys) (sym step.left) ∙ now.1 name w;
    }

pub returns-clause-names : goal.returns-clause-names
returns-clause-names c = λ name w.
    let f = c.args.forest.now in
    let h = name_at f.names c.args.host in
    sym (append-nil (map (name_at f.names) (waiting_under c.loop-at.waiting name)))
    ∙ (ap (λ o. map (name_at f.names) (waiting_under c.loop-at.waiting name) ++ filter (λ y. looks_for name (node_in f.trees y))
    (from_item (children_of f.trees h) (option_map (name_at f.names) o))) (sym c.in_default.is) ∙ c.loop-at.invariant.left name w)
