-- Selectors match an owner's nodes in the trees of all owners as they do in the owner's own trees; and what was read of a
-- selector's text.
use Rattle.dom_query_commands.proofs.Cited.{◌≡◌, ℕ, inl, inr, Bool, true, false, not, ◌&&◌, ◌||◌, List, [], ◌∷◌, Option, Some, None, refl, sym, ap, subst, ◌∙◌}
use Rattle.dom_query_commands.proofs.Cited.{codes, filter, drop, is_some, is_none, unwrap_or, option_to_list, if◌then◌else◌, list_any, list_all, ForSome}
use Rattle.dom_query_commands.proofs.Cited.{option_map_or, Fault, Refused, Refusal, Selector, Owner, NodeName, name_eq, text_eq, is_empty, last_of}
use Rattle.dom_query_commands.proofs.Cited.{items_before, items_after, Trees, Node, kind_of, is_element, attribute_value, parent_of, children_of, siblings}
use Rattle.dom_query_commands.proofs.Cited.{inclusive_ancestors, descendants, inclusive_descendants, Simple, of_type, of_any_type, of_id, of_class, with_value}
use Rattle.dom_query_commands.proofs.Cited.{first_child, last_child, CompoundPart, simple, is_not, Combinator, descendant, child, next, later, Complex, alone}
use Rattle.dom_query_commands.proofs.Cited.{joined, equals, has_word, attribute_passes, elements_before, elements_behind, simple_matches, part_matches}
use Rattle.dom_query_commands.proofs.Cited.{compound_matches, combined_with, complex_matches, selector_matches, query_all, parse_selectors, selectors_of}
use Rattle.dom_query_commands.proofs.Cited.{first_refusal, with_attribute, IsRefusalWhere, AreOwned, trees_of_owner, read_own, stays_own, In, is_in-from}
use Rattle.dom_query_commands.proofs.Cited.{In-right, before-in, after-in, filter-same, last_split}

-- ---- tests that agree

any_alike : {X : Type 0} (p q : X → Bool) → ((x : X) → p x ≡ q x) → (xs : List X) → list_any p xs ≡ list_any q xs
any_alike p q h [] = refl
any_alike p q h (x ∷ xs) = ap (λ b. b || list_any p xs) (h x) ∙ ap (λ b. q x || b) (any_alike p q h xs)

all_alike : {X : Type 0} (p q : X → Bool) → ((x : X) → p x ≡ q x) → (xs : List X) → list_all p xs ≡ list_all q xs
all_alike p q h [] = refl
all_alike p q h (x ∷ xs) = ap (λ b. b && list_all p xs) (h x) ∙ ap (λ b. q x && b) (all_alike p q h xs)

-- on the names of a list
any_among : (p q : NodeName → Bool) (xs : List NodeName) → ((y : NodeName) → In y xs → p y ≡ q y) → list_any p xs ≡ list_any q xs
any_among p q [] h = refl
any_among p q (x ∷ xs) h = ap (λ b. b || list_any p xs) (h x (inl refl)) ∙ ap (λ b. q x || b) (any_among p q xs (λ y i. h y (inr i)))

-- ---- who is in a part of a list

in_drop : (y : NodeName) (xs : List NodeName) → In y (drop 1 xs) → In y xs
in_drop y [] i = i
in_drop y (x ∷ xs) i = inr i

in_filter : (p : NodeName → Bool) (y : NodeName) (xs : List NodeName) → In y (filter p xs) → In y xs
in_filter p y [] i = i
in_filter p y (x ∷ xs) i = by (p x) i (in_filter p y xs)
  where
    by : (b : Bool) → In y (if b then x ∷ filter p xs else filter p xs) → (In y (filter p xs) → In y xs) → In y (x ∷ xs)
    by true i deeper = elim i [ inl e ↦ inl e | inr j ↦ inr (deeper j) ]
    by false i deeper = inr (deeper i)

in_last : (y : NodeName) (xs : List NodeName) (q : Option NodeName) → last_of xs ≡ q → In y (option_to_list q) → In y xs
in_last y xs None e i = absurd i
in_last y xs (Some z) e i = let split = last_split xs z e in subst (In y) (sym split.1) (In-right y split.0 (z ∷ []) i)

-- ---- an owner's nodes

module _ (ts : Trees) (owned : AreOwned ts) (o : Owner) where
  -- the kind of one
  kind_own : (x : NodeName) → x.owner ≡ o → is_element (kind_of ts x) ≡ is_element (kind_of (trees_of_owner o ts) x)
  kind_own x own = ap (λ (n : Node). is_element n.kind) (read_own ts owned o x own).node

  -- the one node of an option
  in_option : (y : NodeName) (q : Option NodeName) → ForSome q (λ z. z.owner ≡ o) → In y (option_to_list q) → y.owner ≡ o
  in_option y None h i = absurd i
  in_option y (Some z) h i = elim i [ inl e ↦ ap (λ (n : NodeName). n.owner) e ∙ h z refl | inr never ↦ absurd never ]

  -- the siblings are the owner's
  beside : (x y : NodeName) → x.owner ≡ o → (q : Option NodeName) → ForSome q (λ z. z.owner ≡ o) →
      In y (option_map_or (children_of ts) q (x ∷ [])) → y.owner ≡ o
  beside x y own None h i = elim i [ inl e ↦ ap (λ (n : NodeName). n.owner) e ∙ own | inr never ↦ absurd never ]
  beside x y own (Some z) h i = (stays_own ts owned o z (h z refl)).children y (is_in-from y (children_of ts z) i)

  sibling_own : (x y : NodeName) → x.owner ≡ o → In y (siblings ts x) → y.owner ≡ o
  sibling_own x y own = beside x y own (parent_of ts x) (stays_own ts owned o x own).parent

  -- the elements among some of its siblings
  elements_own : (some : List NodeName → List NodeName) → ((y : NodeName) (ys : List NodeName) → In y (some ys) → In y ys) → (x : NodeName) →
      x.owner ≡ o → filter (λ y. is_element (kind_of ts y)) (some (siblings ts x))
      ≡ filter (λ y. is_element (kind_of (trees_of_owner o ts) y)) (some (siblings (trees_of_owner o ts) x))
  elements_own some among x own =
      filter-same (λ y. is_element (kind_of ts y)) (λ y. is_element (kind_of (trees_of_owner o ts) y)) (some (siblings ts x))
      (λ y i. kind_own y (sibling_own x y own (among y (siblings ts x) i)))
      ∙ ap (λ (ys : List NodeName). filter (λ y. is_element (kind_of (trees_of_owner o ts) y)) (some ys)) (read_own ts owned o x own).sibling_list

  -- those before one, and those behind
  before_own : (x : NodeName) → x.owner ≡ o → elements_before ts x ≡ elements_before (trees_of_owner o ts) x
  before_own x own = elements_own (items_before name_eq x) (before-in x) x own

  behind_own : (x : NodeName) → x.owner ≡ o → elements_behind ts x ≡ elements_behind (trees_of_owner o ts) x
  behind_own x own = elements_own (items_after name_eq x) (after-in x) x own

  -- simple selectors
  simple_own : (x : NodeName) → x.owner ≡ o → (s : Simple) → simple_matches ts x s ≡ simple_matches (trees_of_owner o ts) x s
  simple_own x own (of_type a) = ap (λ (n : Node). text_eq n.element a) (read_own ts owned o x own).node
  simple_own x own of_any_type = refl
  simple_own x own (of_id v) = ap (λ (n : Node). attribute_passes n (codes "id") equals v) (read_own ts owned o x own).node
  simple_own x own (of_class v) = ap (λ (n : Node). attribute_passes n (codes "class") has_word v) (read_own ts owned o x own).node
  simple_own x own (with_attribute a) = ap (λ (n : Node). is_some (attribute_value n a)) (read_own ts owned o x own).node
  simple_own x own (with_value a t v) = ap (λ (n : Node). attribute_passes n a t v) (read_own ts owned o x own).node
  simple_own x own first_child = ap is_empty (before_own x own)
  simple_own x own last_child = ap is_empty (behind_own x own)

  -- the parts of a compound
  part_own : (x : NodeName) → x.owner ≡ o → (c : CompoundPart) → part_matches ts x c ≡ part_matches (trees_of_owner o ts) x c
  part_own x own (simple s) = simple_own x own s
  part_own x own (is_not ss) = ap not (all_alike (simple_matches ts x) (simple_matches (trees_of_owner o ts) x) (simple_own x own) ss)

  -- compounds
  compound_own : (c : List CompoundPart) (x : NodeName) → x.owner ≡ o → compound_matches ts c x ≡ compound_matches (trees_of_owner o ts) c x
  compound_own c x own =
      ap (λ b. b && list_all (part_matches ts x) c) (kind_own x own)
      ∙ ap (λ b. is_element (kind_of (trees_of_owner o ts) x) && b) (all_alike (part_matches ts x) (part_matches (trees_of_owner o ts) x) (part_own x own) c)

  -- who stands to one as a combinator says
  combined_own : (how : Combinator) (x : NodeName) → x.owner ≡ o → combined_with ts how x ≡ combined_with (trees_of_owner o ts) how x
  combined_own descendant x own = ap (drop 1) (read_own ts owned o x own).path
  combined_own child x own = ap option_to_list (read_own ts owned o x own).parent
  combined_own next x own = ap (λ (ys : List NodeName). option_to_list (last_of ys)) (before_own x own)
  combined_own later x own = before_own x own

  in_before : (x y : NodeName) → x.owner ≡ o → In y (elements_before ts x) → y.owner ≡ o
  in_before x y own i = sibling_own x y own
      (before-in x y (siblings ts x) (in_filter (λ z. is_element (kind_of ts z)) y (items_before name_eq x (siblings ts x)) i))

  in_combined : (how : Combinator) (x y : NodeName) → x.owner ≡ o → In y (combined_with ts how x) → y.owner ≡ o
  in_combined descendant x y own i = (stays_own ts owned o x own).path y (is_in-from y (inclusive_ancestors ts x) (in_drop y (inclusive_ancestors ts x) i))
  in_combined child x y own i = in_option y (parent_of ts x) (stays_own ts owned o x own).parent i
  in_combined next x y own i = in_before x y own (in_last y (elements_before ts x) (last_of (elements_before ts x)) refl i)
  in_combined later x y own i = in_before x y own i

  -- complex selectors
  complex_own : (c : Complex) (x : NodeName) → x.owner ≡ o → complex_matches ts c x ≡ complex_matches (trees_of_owner o ts) c x
  complex_own (alone c) x own = compound_own c x own
  complex_own (joined left how c) x own =
      ap (λ b. b && list_any (complex_matches ts left) (combined_with ts how x)) (compound_own c x own)
      ∙ ap (λ b. compound_matches (trees_of_owner o ts) c x && b)
      (any_among (complex_matches ts left) (complex_matches (trees_of_owner o ts) left) (combined_with ts how x)
      (λ y i. complex_own left y (in_combined how x y own i))
      ∙ ap (list_any (complex_matches (trees_of_owner o ts) left)) (combined_own how x own))

  -- lists of them
  pub selector_own : (s : List Complex) (x : NodeName) → x.owner ≡ o → selector_matches ts s x ≡ selector_matches (trees_of_owner o ts) s x
  selector_own s x own = any_alike (λ c. complex_matches ts c x) (λ c. complex_matches (trees_of_owner o ts) c x) (λ c. complex_own c x own) s

  -- queries
  pub query_own : (s : List Complex) (x : NodeName) → x.owner ≡ o → query_all ts s x ≡ query_all (trees_of_owner o ts) s x
  query_own s x own =
      filter-same (selector_matches ts s) (selector_matches (trees_of_owner o ts) s) (descendants ts x)
      (λ y i. selector_own s y ((stays_own ts owned o x own).inside y (is_in-from y (inclusive_descendants ts x) (in_drop y (inclusive_descendants ts x) i))))
      ∙ ap (λ (ys : List NodeName). filter (selector_matches (trees_of_owner o ts) s) (drop 1 ys)) (read_own ts owned o x own).inside

-- ---- what was read

-- a text that is no selector is refused
pub unread : {text units : List ℕ} (f : Fault) → units ≡ text → IsRefusalWhere (parse_selectors units ≡ None) f → (r : Refusal) → f ≡ Refused r →
    first_refusal ((is_none (parse_selectors text), Selector) ∷ []) ≡ Some r
unread {text = text} {units = units} f same none r e =
    let h = subst (IsRefusalWhere (parse_selectors units ≡ None)) e none in
    ap (λ (b : Bool). first_refusal ((b, Selector) ∷ [])) (ap (λ (u : List ℕ). is_none (parse_selectors u)) (sym same) ∙ ap is_none h.1) ∙ ap Some (sym h.0)

module _ (text units : List ℕ) (s : List Complex) (same : units ≡ text) (read : parse_selectors units ≡ Some s) where
  -- one that is read is not
  pub read_none : first_refusal ((is_none (parse_selectors text), Selector) ∷ []) ≡ None
  read_none = ap (λ (u : List ℕ). first_refusal ((is_none (parse_selectors u), Selector) ∷ [])) (sym same) ∙
      ap (λ (q : Option (List Complex)). first_refusal ((is_none q, Selector) ∷ [])) read

  -- and says what is read
  pub read_as : s ≡ selectors_of text
  read_as = sym (ap selectors_of (sym same) ∙ ap (λ (q : Option (List Complex)). unwrap_or q []) read)
