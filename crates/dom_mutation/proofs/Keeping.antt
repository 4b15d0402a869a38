-- What holds of owners' tables stays so when trees change.
use Rattle.dom_mutation.proofs.Cited.{◌≡◌, ◌≢◌, ℕ, zero, suc, ◌<◌, inl, inr, true, false, List, [], ◌∷◌, ◌++◌, length, map, refl, sym, ap, subst, ◌∙◌, arith}
use Rattle.dom_mutation.proofs.Cited.{slice_get, cases_Bool, length_push, none-some, same_Some, get_or-append, NodeName, Owner, Page, node_of, Trees, Node}
use Rattle.dom_mutation.proofs.Cited.{is_inclusive_ancestor, with_node, Iterator, Walker, adjusted_iterator, NamedTrees, name_at, AreOwned, trees_of_owner}
use Rattle.dom_mutation.proofs.Cited.{stays_own, KeyedIterator, iterator_view, IsIteratorOf, HasLeft, with_taken_out, KeyedWalker, walker_view, KeyedTables}
use Rattle.dom_mutation.proofs.Cited.{EachItem, IsLeft, AreLeft, TablesOf, named_tables, IsKey, SpeaksOf, same_tables, speaks_more, tables_with, tables_view}
use Rattle.dom_mutation.proofs.Cited.{IsOwnIterator, IsOwnWalker, AreTablesOf, named_trees, KeepsAbove, above_added}
use Rattle.dom_mutation.proofs.OwnNodes.{adjusted_own}

-- ---- where nothing that stands above a node ceases to

iterator_kept : (names : List NodeName) (ts us : Trees) → KeepsAbove ts us → {o : Owner} {i : KeyedIterator} →
    IsOwnIterator (named_trees names ts) o i → IsOwnIterator (named_trees names us) o i
iterator_kept names ts us keeps {i} h = record {
  stands = record {
    root = h.stands.root;
    reference = record { node = h.stands.reference.node; within = keeps (name_at names i.root) (name_at names i.reference) h.stands.reference.within };
  };
  own = h.own;
}

walker_kept : (names : List NodeName) (ts us : Trees) (o : Owner) (w : KeyedWalker) → IsOwnWalker (named_trees names ts) o w →
    IsOwnWalker (named_trees names us) o w
walker_kept names ts us o w h = record { stands = record { root = h.stands.root; current = h.stands.current }; own = h.own; own_current = h.own_current }

pub tables_kept : (names : List NodeName) (ts us : Trees) → KeepsAbove ts us → {o : Owner} {t : KeyedTables} →
    AreTablesOf (named_trees names ts) o t → AreTablesOf (named_trees names us) o t
tables_kept names ts us keeps {o} h = record {
  iterators = λ k i e. iterator_kept names ts us keeps (h.iterators k i e);
  walkers = λ k w e. walker_kept names ts us o w (h.walkers k w e);
  few_iterators = h.few_iterators;
  few_walkers = h.few_walkers;
}

-- ---- a node more

module _ (names : List NodeName) (x : NodeName) where
  -- the names of the others
  name_before : (k : ℕ) → k < length names → name_at (names ++ x ∷ []) k ≡ name_at names k
  name_before k less = get_or-append names (x ∷ []) (node_of Page 0) k less

  iterators_same : (P : KeyedIterator → Type 0) → ((i : KeyedIterator) → P i → iterator_view (names ++ x ∷ []) i ≡ iterator_view names i) →
      (is : List KeyedIterator) → EachItem P is
      → map (iterator_view (names ++ x ∷ [])) is ≡ map (iterator_view names) is
  iterators_same P same [] all = refl
  iterators_same P same (i ∷ is) all = ap (λ j. j ∷ map (iterator_view (names ++ x ∷ [])) is) (same i (all 0 i refl)) ∙
      ap (λ js. iterator_view names i ∷ js) (iterators_same P same is (λ k. all (suc k)))

  walkers_same : (P : KeyedWalker → Type 0) → ((w : KeyedWalker) → P w → walker_view (names ++ x ∷ []) w ≡ walker_view names w) →
      (ws : List KeyedWalker) → EachItem P ws
      → map (walker_view (names ++ x ∷ [])) ws ≡ map (walker_view names) ws
  walkers_same P same [] all = refl
  walkers_same P same (w ∷ ws) all = ap (λ v. v ∷ map (walker_view (names ++ x ∷ [])) ws) (same w (all 0 w refl)) ∙
      ap (λ vs. walker_view names w ∷ vs) (walkers_same P same ws (λ k. all (suc k)))

  iterator_same : (f : Trees) (o : Owner) (i : KeyedIterator) → IsOwnIterator (named_trees names f) o i →
      iterator_view (names ++ x ∷ []) i ≡ iterator_view names i
  iterator_same f o i h =
      ap (λ y. made y (name_at (names ++ x ∷ []) i.reference)) (name_before i.root h.stands.root) ∙
      ap (made (name_at names i.root)) (name_before i.reference h.stands.reference.node)
    where
      made : NodeName → NodeName → Iterator
      made y z = record { root = y; reference = z; before = i.before; filter = i.filter }

  walker_same : (f : Trees) (o : Owner) (w : KeyedWalker) → IsOwnWalker (named_trees names f) o w → walker_view (names ++ x ∷ []) w ≡ walker_view names w
  walker_same f o w h =
      ap (λ y. made y (name_at (names ++ x ∷ []) w.current)) (name_before w.root h.stands.root) ∙
      ap (made (name_at names w.root)) (name_before w.current h.stands.current)
    where
      made : NodeName → NodeName → Walker
      made y z = record { root = y; current = z; filter = w.filter }

  -- the tables in names are the same
  pub view_same : (ts : Trees) (o : Owner) (t : KeyedTables) (r : TablesOf ℕ) → AreTablesOf (named_trees names ts) o t →
      SpeaksOf (IsKey names) r → tables_view (names ++ x ∷ []) t r ≡ tables_view names t r
  view_same ts o t r h speaks =
      ap (λ is. tables_with is (map (walker_view (names ++ x ∷ [])) t.walkers) (named_tables (name_at (names ++ x ∷ [])) r))
      (iterators_same (IsOwnIterator (named_trees names ts) o) (iterator_same ts o) t.iterators h.iterators)
      ∙ ap (λ ws. tables_with (map (iterator_view names) t.iterators) ws (named_tables (name_at (names ++ x ∷ [])) r))
      (walkers_same (IsOwnWalker (named_trees names ts) o) (walker_same ts o) t.walkers h.walkers)
      ∙ ap (tables_with (map (iterator_view names) t.iterators) (map (walker_view names) t.walkers))
      (same_tables (IsKey names) (name_at (names ++ x ∷ [])) (name_at names) name_before r speaks)

  -- registrations and records still name nodes
  pub speaks_grown : (r : TablesOf ℕ) → SpeaksOf (IsKey names) r → SpeaksOf (IsKey (names ++ x ∷ [])) r
  speaks_grown r = speaks_more (IsKey names) (IsKey (names ++ x ∷ [])) (λ k less. let longer = length_push names x in omega arith) r

  -- and what holds of them stays so, where the name is a new one
  pub tables_more : (ts : Trees) (n : Node) → n.name ≡ x → ((k : ℕ) → k < length names → name_at names k ≢ x) → {o : Owner} {t : KeyedTables}
      → AreTablesOf (named_trees names ts) o t → AreTablesOf (named_trees (names ++ x ∷ []) (with_node n ts)) o t
  tables_more ts n is new {o} h = record {
    iterators = λ k i e. iterator_more i (h.iterators k i e);
    walkers = λ k w e. walker_more w (h.walkers k w e);
    few_iterators = h.few_iterators;
    few_walkers = h.few_walkers;
  }
    where
      more : (k : ℕ) → k < length names → k < length (names ++ x ∷ [])
      more k less = let longer = length_push names x in omega arith

      iterator_more : (i : KeyedIterator) → IsOwnIterator (named_trees names ts) o i → IsOwnIterator (named_trees (names ++ x ∷ []) (with_node n ts)) o i
      iterator_more i g = record {
        stands = record {
          root = more i.root g.stands.root;
          reference = record {
            node = more i.reference g.stands.reference.node;
            within = subst (λ y. is_inclusive_ancestor (with_node n ts) y (name_at (names ++ x ∷ []) i.reference) ≡ true)
                (sym (name_before i.root g.stands.root))
                (subst (λ y. is_inclusive_ancestor (with_node n ts) (name_at names i.root) y ≡ true) (sym (name_before i.reference g.stands.reference.node))
                (above_added n ts (name_at names i.root) (name_at names i.reference)
                (λ same. new i.reference g.stands.reference.node (sym same ∙ is)) g.stands.reference.within));
          };
        };
        own = ap (λ (y : NodeName). y.owner) (name_before i.root g.stands.root) ∙ g.own;
      }

      walker_more : (w : KeyedWalker) → IsOwnWalker (named_trees names ts) o w → IsOwnWalker (named_trees (names ++ x ∷ []) (with_node n ts)) o w
      walker_more w g = record {
        stands = record { root = more w.root g.stands.root; current = more w.current g.stands.current };
        own = ap (λ (y : NodeName). y.owner) (name_before w.root g.stands.root) ∙ g.own;
        own_current = ap (λ (y : NodeName). y.owner) (name_before w.current g.stands.current) ∙ g.own_current;
      }

-- ---- a removal

-- what `law_iterators_stay` says of a forest
abbrev pub Stays : NamedTrees → Type 0
Stays f = (i : KeyedIterator) (node : ℕ) → node < length f.names → IsIteratorOf f i → HasLeft f i node → IsIteratorOf (with_taken_out f node) i

-- nothing of one owner stands above a node of another one
pub apart_above : (ts : Trees) → AreOwned ts → (x y : NodeName) → x.owner ≢ y.owner → is_inclusive_ancestor ts x y ≡ false
apart_above ts owned x y other = elim (cases_Bool (is_inclusive_ancestor ts x y))
    [ inl e ↦ absurd (other ((stays_own ts owned y.owner y refl).path x e)) | inr e ↦ e ]

module _ (f : NamedTrees) (owned : AreOwned f.trees) (stay : Stays f) (node : ℕ) (at_node : node < length f.names) where
  -- an iterator of the node's owner that has left its tree
  iterator_left : (o : Owner) (was now : KeyedIterator) → IsOwnIterator f o was → IsLeft f node was now → IsOwnIterator (with_taken_out f node) o now
  iterator_left o was now h left = record { stands = stay now node at_node left.kept left.left; own = ap (λ k. (name_at f.names k).owner) left.root ∙ h.own }

  iterators_left : (o : Owner) (was now : List KeyedIterator) → EachItem (IsOwnIterator f o) was → AreLeft f node was now →
      EachItem (IsOwnIterator (with_taken_out f node) o) now
  iterators_left o was [] all left k i e = absurd (none-some i e)
  iterators_left o [] (j ∷ now) all left k i e = absurd (left 0)
  iterators_left o (h ∷ was) (j ∷ now) all left zero i e =
      subst (IsOwnIterator (with_taken_out f node) o) (same_Some j i e) (iterator_left o h j (all 0 h refl) (left 0))
  iterators_left o (h ∷ was) (j ∷ now) all left (suc k) i e = iterators_left o was now (λ n. all (suc n)) (λ n. left (suc n)) k i e

  length_left : (was now : List KeyedIterator) → AreLeft f node was now → length now ≡ length was
  length_left [] [] left = refl
  length_left [] (j ∷ now) left = absurd (left 0)
  length_left (h ∷ was) [] left = absurd (left 0)
  length_left (h ∷ was) (j ∷ now) left = ap suc (length_left was now (λ n. left (suc n)))

  -- they are the adjusted ones, by their owner's trees
  pub views_left : (o : Owner) → (name_at f.names node).owner ≡ o → (was now : List KeyedIterator) → EachItem (IsOwnIterator f o) was → AreLeft f node was now
      → map (iterator_view f.names) now ≡ map (adjusted_iterator (trees_of_owner o f.trees) (name_at f.names node)) (map (iterator_view f.names) was)
  views_left o own [] [] all left = refl
  views_left o own [] (j ∷ now) all left = absurd (left 0)
  views_left o own (h ∷ was) [] all left = absurd (left 0)
  views_left o own (h ∷ was) (j ∷ now) all left =
      let here = all 0 h refl in
      ap (λ v. v ∷ map (iterator_view f.names) now)
      ((left 0).value ∙ adjusted_own f.trees owned o (name_at f.names node) (iterator_view f.names h) own here.own here.stands.reference.within)
      ∙ ap (λ vs. adjusted_iterator (trees_of_owner o f.trees) (name_at f.names node) (iterator_view f.names h) ∷ vs)
      (views_left o own was now (λ n. all (suc n)) (λ n. left (suc n)))

  -- the owner's tables
  pub tables_left : (o : Owner) (t u : KeyedTables) → AreTablesOf f o t → AreLeft f node t.iterators u.iterators → u.walkers ≡ t.walkers →
      AreTablesOf (with_taken_out f node) o u
  tables_left o t u h left same = record {
    iterators = iterators_left o t.iterators u.iterators h.iterators left;
    walkers = λ k w e. let here = h.walkers k w (ap (λ ws. slice_get ws k) (sym same) ∙ e) in
        record { stands = record { root = here.stands.root; current = here.stands.current }; own = here.own; own_current = here.own_current };
    few_iterators = let less = h.few_iterators in let longer = length_left t.iterators u.iterators left in omega arith;
    few_walkers = let less = h.few_walkers in let longer = ap (length {A = KeyedWalker}) same in omega arith;
  }

  -- another owner's
  pub tables_apart : (q : Owner) → (name_at f.names node).owner ≢ q → (t : KeyedTables) → AreTablesOf f q t → AreTablesOf (with_taken_out f node) q t
  tables_apart q other t h = record {
    iterators = λ k i e. iterator_apart i (h.iterators k i e);
    walkers = λ k w e. let here = h.walkers k w e in
        record { stands = record { root = here.stands.root; current = here.stands.current }; own = here.own; own_current = here.own_current };
    few_iterators = h.few_iterators;
    few_walkers = h.few_walkers;
  }
    where
      iterator_apart : (i : KeyedIterator) → IsOwnIterator f q i → IsOwnIterator (with_taken_out f node) q i
      iterator_apart i g =
          let reference = name_at f.names i.reference in
          let same : (name_at f.names i.root).owner ≡ reference.owner =
          (stays_own f.trees owned reference.owner reference refl).path (name_at f.names i.root) g.stands.reference.within in
          record {
            stands = stay i node at_node g.stands
                (λ off. apart_above f.trees owned (name_at f.names node) reference (λ e. other (e ∙ sym same ∙ g.own)));
            own = g.own;
          }
