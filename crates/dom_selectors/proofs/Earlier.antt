-- The elements before a node among its siblings: how they split, and what stands above them.
use Rattle.dom_selectors.proofs.Cited.{◌≡◌, inl, inr, ℕ, ◌<◌, Bool, true, false, List, [], ◌∷◌, ◌++◌, length, Option, Some, None, refl, ap, sym, subst, ◌∙◌}
use Rattle.dom_selectors.proofs.Cited.{arith, append_assoc, length-append, true≢false, ◌||◌, filter, list_any, find, option_map, ForSome, none-some, same_Some}
use Rattle.dom_selectors.proofs.Cited.{unwrap_or, cases_Bool, or_left, or_right, or_cases, and_parts, list_any-append, NodeName, name_eq, last_of, items_before}
use Rattle.dom_selectors.proofs.Cited.{items_after, Trees, Node, nodes, names_of, no_node, is_element, kind_of, ancestors, inclusive_ancestors, parent_of}
use Rattle.dom_selectors.proofs.Cited.{compound_matches, elements_before, CompoundPart, name_eq-other, NamedTrees, name_at, In, split_at, last_split, no_last}
use Rattle.dom_selectors.proofs.Cited.{filter-yes, filter-no, Has, has_or_not, Has-above, above-proper, proper-parent, Once, Has-names, above-split, StandOnce}
use Rattle.dom_selectors.proofs.Cited.{StandAlone, Once-forest, Has-forest, elements_to}
use Rattle.dom_selectors.proofs.Beside.{before_list, before-at}
use Rattle.dom_selectors.proofs.JoinedLaws.{from_above, above-parent}
use Rattle.dom_base.proofs.Std.{or-false}

-- ---- tests of some member

-- a member that passes
pub record Passes (p : NodeName → Bool) (xs : List NodeName) : Type 0 where
  pub node : NodeName
  pub among : In node xs
  pub passes : p node ≡ true

-- some member passes
pub any-passes : (p : NodeName → Bool) (xs : List NodeName) → list_any p xs ≡ true → Passes p xs
any-passes p [] e = absurd (true≢false (sym e))
any-passes p (x ∷ xs) e = elim (or_cases (p x) _ e) [
  | inl here ↦ record { node = x; among = inl refl; passes = here }
  | inr there ↦ let w = any-passes p xs there in record { node = w.node; among = inr w.among; passes = w.passes }
]

-- and the other way round
pub passes-any : (p : NodeName → Bool) (xs : List NodeName) (x : NodeName) → In x xs → p x ≡ true → list_any p xs ≡ true
passes-any p [] x i e = absurd i
passes-any p (y ∷ ys) x (inl same) e = or_left (p y) _ (ap p (sym same) ∙ e)
passes-any p (y ∷ ys) x (inr i) e = or_right (p y) _ (passes-any p ys x i e)

-- ---- a filtered list splits where the list does

record Parts (p : NodeName → Bool) (xs : List NodeName) (x : NodeName) (front back : List NodeName) : Type 0 where
  ahead : List NodeName
  behind : List NodeName
  split : xs ≡ ahead ++ x ∷ behind
  kept : filter p ahead ≡ front

-- no list with an item is empty
not_nothing : (front : List NodeName) (x : NodeName) (back : List NodeName) → [] ≡ front ++ x ∷ back → ⊥
not_nothing [] x back e = cc
not_nothing (y ∷ ys) x back e = cc

filter-parts : (p : NodeName → Bool) (xs : List NodeName) (x : NodeName) (front back : List NodeName) → filter p xs ≡ front ++ x ∷ back →
    Parts p xs x front back
filter-parts p [] x front back e = absurd (not_nothing front x back e)
filter-parts p (y ∷ ys) x front back e = elim (cases_Bool (p y)) [
  | inl hit ↦ here hit (λ before f. filter-parts p ys x before back f) front (sym (filter-yes p y ys hit) ∙ e)
  | inr miss ↦
      let w = filter-parts p ys x front back (sym (filter-no p y ys miss) ∙ e) in
      record { ahead = y ∷ w.ahead; behind = w.behind; split = ap (λ zs. y ∷ zs) w.split; kept = filter-no p y w.ahead miss ∙ w.kept }
]
  where
    here : p y ≡ true → ((before : List NodeName) → filter p ys ≡ before ++ x ∷ back → Parts p ys x before back) → (before : List NodeName) →
        y ∷ filter p ys ≡ before ++ x ∷ back → Parts p (y ∷ ys) x before back
    here hit deeper [] f = record { ahead = []; behind = ys; split = ap (λ z. z ∷ ys) cc; kept = refl }
    here hit deeper (z ∷ zs) f =
        let w = deeper zs cc in
        record {
          ahead = y ∷ w.ahead;
          behind = w.behind;
          split = ap (λ vs. y ∷ vs) w.split;
          kept = filter-yes p y w.ahead hit ∙ (ap (λ vs. y ∷ vs) w.kept ∙ ap (λ v. v ∷ zs) cc);
        }

-- ---- nodes that stand

-- a name that stands nowhere is not found
not_found : (x : NodeName) (ns : List Node) → (In x (names_of ns) → ⊥) → find (λ n. name_eq n.name x) ns ≡ None
not_found x [] off = refl
not_found x (n ∷ ns) off = rw (name_eq-other n.name x (λ e. off (inl (sym e)))) (not_found x ns (λ i. off (inr i)))

-- a node that matches a compound stands in the trees
pub stands-matching : (ts : Trees) (c : List CompoundPart) (x : NodeName) → compound_matches ts c x ≡ true → Has ts x
stands-matching ts c x e = elim (has_or_not ts x) [
  | inl h ↦ h
  | inr off ↦
      let nowhere : kind_of ts x ≡ (no_node x).kind =
      ap (λ (o : Option Node). (unwrap_or o (no_node x)).kind) (not_found x (nodes ts) (λ i. off (Has-names ts x i))) in
      absurd (true≢false (sym (and_parts (is_element (kind_of ts x)) _ e).0 ∙ ap is_element nowhere))
]

-- ---- an element before a node

-- the elements before it, what stands above it, and that it stands in the trees
pub record IsEarlier (ts : Trees) (s x : NodeName) (front : List NodeName) : Type 0 where
  pub before : elements_before ts s ≡ front
  pub parent : parent_of ts s ≡ parent_of ts x
  pub above : ancestors ts s ≡ ancestors ts x
  pub stands : Has ts s

-- one of them
pub record Earlier (ts : Trees) (s x : NodeName) : Type 0 where
  pub behind : List NodeName
  pub split : elements_before ts x ≡ elements_before ts s ++ s ∷ behind
  pub its : IsEarlier ts s x (elements_before ts s)

module _ (ts : Trees) (s x : NodeName) (once : Once ts) (h : Has ts x) where
  -- where the elements before a node split
  pub earlier-at : (front back : List NodeName) → elements_before ts x ≡ front ++ s ∷ back → IsEarlier ts s x front
  earlier-at front back split =
      let p : NodeName → Bool = λ y. is_element (kind_of ts y) in
      let w = filter-parts p (before_list ts x) s front back split in
      let its = before-at ts x once h s w.ahead w.behind w.split in
      record {
        before = ap (filter p) its.before ∙ w.kept;
        parent = its.parent;
        above = above-parent ts s once (parent_of ts s) refl ∙ (ap (from_above ts) its.parent ∙ sym
            (above-parent ts x once (parent_of ts x) refl));
        stands = its.stands;
      }

  -- each of them is one
  pub earlier-in : In s (elements_before ts x) → Earlier ts s x
  earlier-in i =
      let front = items_before name_eq s (elements_before ts x) in
      let back = items_after name_eq s (elements_before ts x) in
      let split = split_at s (elements_before ts x) i in
      let its = earlier-at front back split in
      record {
        behind = back;
        split = split ∙ ap (λ xs. xs ++ s ∷ back) (sym its.before);
        its = record { before = refl; parent = its.parent; above = its.above; stands = its.stands };
      }

  -- the nearest of them
  pub nearest : last_of (elements_before ts x) ≡ Some s → (elements_before ts x ≡ elements_to ts s) × IsEarlier ts s x (elements_before ts s)
  nearest e =
      let front = last_split (elements_before ts x) s e in
      let its = earlier-at front.0 [] front.1 in (
        front.1 ∙ ap (λ xs. xs ++ s ∷ []) (sym its.before),
        record { before = refl; parent = its.parent; above = its.above; stands = its.stands },
      )

-- ---- an ancestor of a node

pub record IsAncestor (ts : Trees) (a x : NodeName) : Type 0 where
  pub front : List NodeName
  pub above : ancestors ts x ≡ front ++ ancestors ts a

pub ancestor-in : (ts : Trees) (a x : NodeName) → Once ts → Has ts x → In a (ancestors ts x) → IsAncestor ts a x
ancestor-in ts a x once h i = by (parent_of ts x) refl
  where
    by : (o : Option NodeName) → parent_of ts x ≡ o → IsAncestor ts a x
    by None e = absurd (subst (In a) (above-parent ts x once None e) i)
    by (Some p) e =
        let up = proper-parent ts x p once h e in
        let path : ancestors ts x ≡ inclusive_ancestors ts p = up.0 ∙ sym (above-proper ts p up.1) in
        let at = subst (In a) path i in
        let below = items_before name_eq a (inclusive_ancestors ts p) in
        record {
          front = below ++ a ∷ [];
          above = path ∙ (above-split ts a p once up.1 at ∙
              (ap (λ xs. below ++ xs) (above-proper ts a (Has-above ts a p once up.1 at)) ∙ sym (append_assoc below (a ∷ []) (ancestors ts a))));
        }

-- ---- steps to the nearest element before, by keys

-- the elements up to a node; none where there is no node
abbrev pub elements_upto : Trees → Option NodeName → List NodeName
elements_upto ts None = []
elements_upto ts (Some x) = elements_to ts x

module _ (f : NamedTrees) where
  -- the elements before a node are those up to the nearest one, which has the same ancestors
  pub earlier_step : StandOnce f → StandAlone f → (k : ℕ) (o : Option ℕ) → k < length f.names →
      option_map (name_at f.names) o ≡ last_of (elements_before f.trees (name_at f.names k)) →
      (elements_before f.trees (name_at f.names k) ≡ elements_upto f.trees (option_map (name_at f.names) o)) × ForSome o
      (λ j. ancestors f.trees (name_at f.names j) ≡ ancestors f.trees (name_at f.names k))
  earlier_step once only k o node is = by o is
    where
      x : NodeName
      x = name_at f.names k

      at : (j : ℕ) → Some (name_at f.names j) ≡ last_of (elements_before f.trees x) →
          (elements_before f.trees x ≡ elements_to f.trees (name_at f.names j)) ×
          IsEarlier f.trees (name_at f.names j) x (elements_before f.trees (name_at f.names j))
      at j e = nearest f.trees (name_at f.names j) x (Once-forest f once only) (Has-forest f once k node) (sym e)

      by : (p : Option ℕ) → option_map (name_at f.names) p ≡ last_of (elements_before f.trees x)
          → (elements_before f.trees x ≡ elements_upto f.trees (option_map (name_at f.names) p)) ×
          ForSome p (λ j. ancestors f.trees (name_at f.names j) ≡ ancestors f.trees x)
      by None e = (no_last (elements_before f.trees x) (sym e), λ j h. absurd (none-some j h))
      by (Some j) e = ((at j e).0, λ i h. ap (λ m. ancestors f.trees (name_at f.names m)) (sym (same_Some j i h)) ∙ (at j e).1.above)

  -- there are fewer before a node than up to it
  pub earlier_less : (k : ℕ) (at o : Option ℕ) → at ≡ Some k →
      elements_before f.trees (name_at f.names k) ≡ elements_upto f.trees (option_map (name_at f.names) o) →
      length (elements_upto f.trees (option_map (name_at f.names) o)) < length (elements_upto f.trees (option_map (name_at f.names) at))
  earlier_less k at o is e =
      let front = elements_before f.trees (name_at f.names k) in
      let longer : length (elements_upto f.trees (option_map (name_at f.names) at)) ≡ length (front ++ name_at f.names k ∷ []) =
      ap (λ o'. length (elements_upto f.trees (option_map (name_at f.names) o'))) is in
      omega (arith, longer, length-append front (name_at f.names k ∷ []), ap (length {A = NodeName}) e)

-- an element that fails a test is passed by
pub earlier_passed : {k : ℕ} {at : Option ℕ} (f : NamedTrees) (p : NodeName → Bool) (o : Option ℕ) → at ≡ Some k → p (name_at f.names k) ≡ false →
    elements_before f.trees (name_at f.names k) ≡ elements_upto f.trees (option_map (name_at f.names) o) →
    list_any p (elements_upto f.trees (option_map (name_at f.names) o)) ≡ list_any p (elements_upto f.trees (option_map (name_at f.names) at))
earlier_passed {k} {at = at} f p o is miss e =
    let front = elements_before f.trees (name_at f.names k) in
    ap (list_any p) (sym e)
    ∙ sym (ap (λ o'. list_any p (elements_upto f.trees (option_map (name_at f.names) o'))) is
    ∙ (list_any-append p front (name_at f.names k ∷ []) ∙ (ap (λ b. list_any p front || (b || false)) miss ∙ or-false (list_any p front))))
