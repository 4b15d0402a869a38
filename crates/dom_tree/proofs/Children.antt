-- Walks over the children of a node.
use Rattle.dom_base.proofs.Std.{◌≡◌, ◌≢◌, ◌⊎◌, inl, inr, ℕ, suc, ◌+◌, ◌<◌, Bool, true, false, not, cond, ◌&&◌, ◌||◌, eqb, List, [], ◌∷◌, map, length, Option}
use Rattle.dom_base.proofs.Std.{Some, None, refl, sym, ap, subst, ◌∙◌, arith, true≢false, list_any, eqb_tells, option_eq, option_map, option_map_or, ForSome}
use Rattle.dom_base.proofs.Std.{eq-eqb, ne_eqb, eqb-true, cases_Bool, both_ways, or_parts, false_from_ne_true, sum_by-append}
use Rattle.node_arena.specs.contracts.key.KeyPartialEq.TheImpl as KeyImpl
use Rattle.dom_model.proofs.Model.{Owner, Node, is_element, is_text, kind_of, node_in, child_nodes, trees_below, subtree, is_given, without_given}
use Rattle.dom_model.proofs.Model.{element_count, has_text}
use Rattle.node_arena.specs.Nodes.{contains, children_of, IsForest, IsOnce, head_of, next_in, next_of}
use Rattle.node_arena.proofs.Lists.{contains-next_in}
use Rattle.dom_tree.specs.Definitions.{Stored, node_at, trees_of, NamedTrees, IsKept, stored_names, nodes_of, name_at}
use Rattle.dom_tree.proofs.Rows.{name_of_key}
use Rattle.dom_tree.proofs.Reach.{roots-Stands, trees_below-Stands}
use Rattle.dom_tree.proofs.Changes.{IsWhole, subtree_here}
use Rattle.dom_tree.proofs.Reading.{name_of_key-eq, node_in-at}
use Rattle.dom_tree.proofs.Kept.{seen, IsWhole-kept, name_at-same, names_option, within}
use Rattle.dom_tree.proofs.Walks.{next_child}

-- a list from one of its members on
abbrev pub suffix_from : List ℕ → ℕ → List ℕ
suffix_from [] k = []
suffix_from (x ∷ xs) k = cond (eqb x k) (x ∷ xs) (suffix_from xs k)

abbrev pub rest_of : List ℕ → Option ℕ → List ℕ
rest_of xs at = option_map_or (suffix_from xs) at []

pub rest_of-head : (xs : List ℕ) (r : Option ℕ) → r ≡ head_of xs → rest_of xs r ≡ xs
rest_of-head [] r is = rw is refl
rest_of-head (x ∷ xs) r is = rw (is, eq-eqb x x refl) refl

rest_of-step : (xs : List ℕ) (k : ℕ) → IsOnce xs → contains xs k ≡ true → rest_of xs (Some k) ≡ k ∷ rest_of xs (next_in xs k)
rest_of-step [] k once found = absurd (true≢false (sym found))
rest_of-step (x ∷ xs) k once found = elim (cases_Bool (eqb x k)) [
  | inl h ↦ rw h (by xs once (eqb-true x k h))
  | inr h ↦ rw h (rest_of-step xs k once.1 (rw h at found) ∙ ap (λ ys. k ∷ ys) (more (next_in xs k) refl))
]
  where
    by : (ys : List ℕ) → IsOnce (x ∷ ys) → x ≡ k → x ∷ ys ≡ k ∷ option_map_or (suffix_from (x ∷ ys)) (head_of ys) []
    by [] once' e = ap (λ j. j ∷ []) e
    by (y ∷ ys) once' e =
        let parts = or_parts (eqb y x) (contains ys x) once'.0 in
        let apart : eqb x y ≡ false = ne_eqb x y (λ same. both_ways _ parts.0 (eq-eqb y x (sym same))) in
        rw (apart, eq-eqb y y refl) (ap (λ j. j ∷ y ∷ ys) e)

    more : (o : Option ℕ) → next_in xs k ≡ o → option_map_or (suffix_from xs) o [] ≡ option_map_or (suffix_from (x ∷ xs)) o []
    more None e = refl
    more (Some s) e =
        let apart : eqb x s ≡ false = false_from_ne_true _ (λ same. both_ways _ once.0 (ap (contains xs) (eqb-true x s same) ∙ contains-next_in xs k s e)) in
        rw apart refl

-- the children from one on are that one and those from the next on
pub rest_of-next : {lists : List (List ℕ)} → IsForest lists → (p : ℕ) {at next : Option ℕ} → ForSome at (λ k. contains (children_of lists p) k ≡ true) →
    (k : ℕ) → at ≡ Some k → next ≡ next_of lists k → rest_of (children_of lists p) at ≡ k ∷ rest_of (children_of lists p) next
rest_of-next {lists} forest p among k is step =
    ap (rest_of (children_of lists p)) is ∙ rest_of-step (children_of lists p) k (forest.once p) (among k is) ∙
    ap (λ o. k ∷ rest_of (children_of lists p) o) (sym (next_child forest p among k is step))

-- what is counted of a list of keys
abbrev pub tally : (ℕ → Bool) → List ℕ → ℕ
tally p [] = 0
tally p (k ∷ ks) = cond (p k) 1 0 + tally p ks

pub tally-yes : (p : ℕ → Bool) (k : ℕ) (ks : List ℕ) → p k ≡ true → tally p (k ∷ ks) ≡ 1 + tally p ks
tally-yes p k ks e = rw e refl

pub tally-no : (p : ℕ → Bool) (k : ℕ) (ks : List ℕ) → p k ≡ false → tally p (k ∷ ks) ≡ tally p ks
tally-no p k ks e = rw e (omega arith)

pub tally-length : (p : ℕ → Bool) (ks : List ℕ) → tally p ks < suc (length ks)
tally-length p [] = omega arith
tally-length p (k ∷ ks) = elim (cases_Bool (p k)) [
  | inl h ↦ omega (arith, tally-yes p k ks h, tally-length p ks)
  | inr h ↦ omega (arith, tally-no p k ks h, tally-length p ks)
]

-- the tests
pub is_counted : List Node → Option ℕ → ℕ → Bool
is_counted nodes apart k = is_element (node_at nodes k).kind && not (is_given (option_map (name_of_key nodes) apart) (name_of_key nodes k))

pub is_text_key : List Node → ℕ → Bool
is_text_key nodes k = is_text (node_at nodes k).kind

element_count-map : (nodes : List Node) (apart : Option ℕ) (ks : List ℕ) →
    element_count (without_given (option_map (name_of_key nodes) apart) (map (node_at nodes) ks)) ≡ tally (is_counted nodes apart) ks
unfolding is_counted
element_count-map nodes apart [] = refl
element_count-map nodes apart (k ∷ ks) =
    let rest = element_count-map nodes apart ks in
    let others : List Node = without_given (option_map (name_of_key nodes) apart) (map (node_at nodes) ks) in
    elim (cases_Bool (is_given (option_map (name_of_key nodes) apart) (name_of_key nodes k))) [
      | inl h ↦ rw h (rest ∙ dropped (is_element (node_at nodes k).kind) (tally (is_counted nodes apart) ks))
      | inr h ↦ rw h ((sum_by-append (λ (n : Node). cond (is_element n.kind) 1 0) (node_at nodes k ∷ []) others ∙
          ap (λ n. (0 + cond (is_element (node_at nodes k).kind) 1 0) + n) rest) ∙ kept (is_element (node_at nodes k).kind)
          (tally (is_counted nodes apart) ks))
    ]
  where
    dropped : (b : Bool) (n : ℕ) → n ≡ cond (b && false) 1 0 + n
    dropped true n = omega arith
    dropped false n = omega arith

    kept : (b : Bool) (n : ℕ) → (0 + cond b 1 0) + n ≡ cond (b && true) 1 0 + n
    kept true n = omega arith
    kept false n = omega arith

has_text-map : (nodes : List Node) (ks : List ℕ) → has_text (map (node_at nodes) ks) ≡ list_any (is_text_key nodes) ks
unfolding is_text_key
has_text-map nodes [] = refl
has_text-map nodes (k ∷ ks) = ap (λ b. is_text (node_at nodes k).kind || b) (has_text-map nodes ks)

pub child_nodes-at : (nodes : List Node) (lists : List (List ℕ)) → IsWhole nodes lists → (x : ℕ) → x < length lists →
    child_nodes (trees_of nodes lists) (name_of_key nodes x) ≡ map (node_at nodes) (children_of lists x)
child_nodes-at nodes lists whole x node =
    roots-Stands nodes lists (trees_below (subtree (trees_of nodes lists) (name_of_key nodes x))) (children_of lists x)
    (trees_below-Stands nodes lists (subtree (trees_of nodes lists) (name_of_key nodes x)) x (subtree_here nodes lists whole x node))

pub shows_element_count : {f : NamedTrees} {ps : List Stored} {lists : List (List ℕ)} {keys : Owner → List ℕ} → seen ps lists ≡ f → IsKept ps lists keys
    → (x : ℕ) (apart : Option ℕ) → x < length f.names →
    tally (is_counted (nodes_of ps) apart) (children_of lists x) ≡ element_count
    (without_given (option_map (name_at f.names) apart) (child_nodes f.trees (name_at f.names x)))
shows_element_count {f = f} {ps = ps} {lists = lists} {keys = keys} is kept x apart node =
    let inside = within is kept x node in
    subst (λ (g : NamedTrees). tally (is_counted (nodes_of ps) apart) (children_of lists x) ≡ element_count
    (without_given (option_map (name_at g.names) apart) (child_nodes g.trees (name_at g.names x)))) is
    (sym (element_count-map (nodes_of ps) apart (children_of lists x))
    ∙ (ap (λ ns. element_count (without_given (option_map (name_of_key (nodes_of ps)) apart) ns))
    (sym (child_nodes-at (nodes_of ps) lists (IsWhole-kept kept) x (omega (arith, kept.paired))))
    ∙ (ap (λ o. element_count (without_given o (child_nodes (trees_of (nodes_of ps) lists) (name_of_key (nodes_of ps) x)))) (sym (names_option ps apart))
    ∙ ap (λ y. element_count (without_given (option_map (name_at (stored_names ps)) apart) (child_nodes (trees_of (nodes_of ps) lists) y)))
    (sym (name_at-same (stored_names ps) ps x)))))

pub shows_has_text : {f : NamedTrees} {ps : List Stored} {lists : List (List ℕ)} {keys : Owner → List ℕ} → seen ps lists ≡ f → IsKept ps lists keys
    → (x : ℕ) → x < length f.names → list_any (is_text_key (nodes_of ps)) (children_of lists x) ≡ has_text (child_nodes f.trees (name_at f.names x))
shows_has_text {f = f} {ps = ps} {lists = lists} {keys = keys} is kept x node =
    let inside = within is kept x node in
    subst (λ (g : NamedTrees). list_any (is_text_key (nodes_of ps)) (children_of lists x) ≡ has_text (child_nodes g.trees (name_at g.names x))) is
    (sym (has_text-map (nodes_of ps) (children_of lists x))
    ∙ (ap has_text (sym (child_nodes-at (nodes_of ps) lists (IsWhole-kept kept) x (omega (arith, kept.paired))))
    ∙ ap (λ y. has_text (child_nodes (trees_of (nodes_of ps) lists) y)) (sym (name_at-same (stored_names ps) ps x))))

-- the tests, as a caller sees them
pub shows_text : {f : NamedTrees} {ps : List Stored} {lists : List (List ℕ)} {keys : Owner → List ℕ} → seen ps lists ≡ f → IsKept ps lists keys
    → (k : ℕ) → k < length ps → is_text (kind_of f.trees (name_at f.names k)) ≡ is_text_key (nodes_of ps) k
unfolding is_text_key
shows_text {f = f} {ps = ps} {lists = lists} {keys = keys} is kept k node =
    subst (λ (g : NamedTrees). is_text (kind_of g.trees (name_at g.names k)) ≡ is_text (node_at (nodes_of ps) k).kind) is
    (ap (λ y. is_text (kind_of (trees_of (nodes_of ps) lists) y)) (name_at-same (stored_names ps) ps k)
    ∙ ap (λ (n : Node). is_text n.kind) (node_in-at (nodes_of ps) lists (IsWhole-kept kept) k (omega (arith, kept.paired))))

pub is_counted-split : {f : NamedTrees} {ps : List Stored} {lists : List (List ℕ)} {keys : Owner → List ℕ} → seen ps lists ≡ f → IsKept ps lists keys
    → (k : ℕ) (apart : Option ℕ) → k < length ps → ((j : ℕ) → apart ≡ Some j → j < length f.names)
    → is_counted (nodes_of ps) apart k ≡ (is_element (kind_of f.trees (name_at f.names k)) && not (option_map_or (λ j. eqb k j) apart false))
unfolding is_counted
is_counted-split {f = f} {ps = ps} {lists = lists} {keys = keys} is kept k apart node inside =
    subst (λ (g : NamedTrees). is_counted (nodes_of ps) apart
    k ≡ (is_element (kind_of g.trees (name_at g.names k)) && not (option_map_or (λ j. eqb k j) apart false))) is
    (by apart (λ j e. let below = within is kept j (inside j e) in omega (arith, kept.paired))
    ∙ ap (λ (n : Node). is_element n.kind && not (option_map_or (λ j. eqb k j) apart false))
    (sym (ap (node_in (trees_of (nodes_of ps) lists)) (name_at-same (stored_names ps) ps k) ∙
    node_in-at (nodes_of ps) lists (IsWhole-kept kept) k (omega (arith, kept.paired)))))
  where
    by : (o : Option ℕ) → ((j : ℕ) → o ≡ Some j → j < length lists) →
        (is_element (node_at (nodes_of ps) k).kind && not (is_given (option_map (name_of_key (nodes_of ps)) o) (name_of_key (nodes_of ps) k))) ≡
        (is_element (node_at (nodes_of ps) k).kind && not (option_map_or (λ j. eqb k j) o false))
    by None inside' = refl
    by (Some j) inside' =
        ap (λ b. is_element (node_at (nodes_of ps) k).kind && not b)
        (name_of_key-eq (IsWhole-kept kept) k j (omega (arith, kept.paired)) (inside' j refl))

-- whether the one set apart is this one, as the code tests it
pub apart_test : (o : Option ℕ) (k : ℕ) → option_eq KeyImpl.ghosts.eq o (Some k) ≡ option_map_or (λ j. eqb k j) o false
apart_test None k = refl
apart_test (Some j) k = turned (eqb_tells j k)
  where
    turned : ((eqb j k ≡ true) × (j ≡ k)) ⊎ ((eqb j k ≡ false) × (j ≢ k)) → eqb j k ≡ eqb k j
    turned (inl h) = h.0 ∙ sym (eq-eqb k j (sym h.1))
    turned (inr h) = h.0 ∙ sym (ne_eqb k j (λ e. h.1 (sym e)))
