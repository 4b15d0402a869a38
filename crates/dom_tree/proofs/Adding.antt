-- What a new node does to a `Forest`.
use Rattle.dom_base.proofs.Std.{◌≡◌, ◌⊎◌, inl, inr, ℕ, suc, ◌+◌, ◌^◌, ◌<◌, ◌≤◌, true, false, cond, List, [], ◌∷◌, ◌++◌, length, Some, None, refl, sym, ap}
use Rattle.dom_base.proofs.Std.{subst, ◌∙◌, arith, zero-add, slice_get, option_map, cases_Bool, length-map, length_push, map-append, get_or_append_left}
use Rattle.dom_base.proofs.Std.{sum_by-append}
use Rattle.dom_model.proofs.Model.{Owner, NodeName, owner_eq, Node, with_node, owner_eq-true, owner_eq-same}
use Rattle.node_arena.proofs.Numbers.{slice_get-push as pushed}
use Rattle.node_arena.specs.Nodes.{Nodes, IsSound}
use Rattle.node_arena.proofs.Forests.{cases_Option}
use Rattle.dom_tree.specs.Definitions.{Contents, Stored, trees_of, IsKept, stored_names, nodes_with, nodes_of, name_at, node_with, count_of, next_name}
use Rattle.dom_tree.proofs.Names.{same_parts}
use Rattle.dom_tree.proofs.Rows.{IsNamed}
use Rattle.dom_tree.proofs.Changes.{IsWhole, slice_get-pushed, slice_get-push, trees_of-push}
use Rattle.dom_tree.proofs.Kept.{IsWhole-kept}

-- keys that are the same
pub IsKept-keys : (ps : List Stored) (lists : List (List ℕ)) (keys more : Owner → List ℕ) → IsKept ps lists keys →
    ((o : Owner) → more o ≡ keys o) → IsKept ps lists more
IsKept-keys ps lists keys more kept same = record {
  paired = kept.paired;
  forest = kept.forest;
  few = kept.few;
  found = λ x k e. kept.found x k (ap (λ ks. slice_get ks x.number) (sym (same x.owner)) ∙ e);
  kept = λ x k e. ap (λ ks. slice_get ks x.number) (same x.owner) ∙ kept.kept x k e;
  counted = λ o. ap (length {A = ℕ}) (same o) ∙ kept.counted o;
  limited = kept.limited;
  documents = kept.documents;
}

-- an element of a list with one more
pub push_cases : {X : Type 0} (xs : List X) (x y : X) (k : ℕ) → slice_get (xs ++ x ∷ []) k ≡ Some y → (slice_get xs k ≡ Some y) ⊎ ((k ≡ length xs) × (x ≡ y))
push_cases xs x y k e = elim (pushed xs k x y e) [ inl h ↦ inr (h.0, sym h.1) | inr h ↦ inl h ]

-- the names with one node more
stored_names-push : (ps : List Stored) (s : Stored) → stored_names (ps ++ s ∷ []) ≡ stored_names ps ++ s.name ∷ []
stored_names-push ps s = map-append (λ t. t.name) ps (s ∷ [])

-- how many names an owner has, with one more
count_of-push : (o : Owner) (names : List NodeName) (x : NodeName) → count_of o (names ++ x ∷ []) ≡ count_of o names + cond (owner_eq x.owner o) 1 0
count_of-push o names x = sum_by-append (λ y. cond (owner_eq y.owner o) 1 0) names (x ∷ []) ∙
    ap (λ n. count_of o names + n) (zero-add (cond (owner_eq x.owner o) 1 0))

-- the node that is added
pub record Adds (ps : List Stored) (lists : List (List ℕ)) (keys more : Owner → List ℕ) (o : Owner) (s : Stored) : Type 0 where
  pub kept : IsKept ps lists keys
  pub free : (count_of o (stored_names ps) ≡ 1000000) → ⊥
  pub name_is : s.name ≡ next_name o (stored_names ps)
  pub fits : length ps < 2 ^ 64
  pub document : (d : ℕ) → s.node.document ≡ Some d → d < length ps
  pub pushed : (p : Owner) → more p ≡ cond (owner_eq o p) (keys p ++ length ps ∷ []) (keys p)

module _ (ps : List Stored) (lists : List (List ℕ)) (keys more : Owner → List ℕ) (o : Owner) (s : Stored) (adds : Adds ps lists keys more o s) where
  names_long : length (stored_names ps) ≡ length ps
  names_long = length-map ps (λ t. t.name)

  same_owner : s.name.owner ≡ o
  same_owner = ap (λ x. x.owner) adds.name_is

  -- the keys of the node's owner, and of others
  pushed_here : (p : Owner) → owner_eq o p ≡ true → more p ≡ keys p ++ length ps ∷ []
  pushed_here p h = adds.pushed p ∙ ap (λ b. cond b (keys p ++ length ps ∷ []) (keys p)) h

  pushed_elsewhere : (p : Owner) → owner_eq o p ≡ false → more p ≡ keys p
  pushed_elsewhere p h = adds.pushed p ∙ ap (λ b. cond b (keys p ++ length ps ∷ []) (keys p)) h

  pub IsKept-add : (after : Nodes Stored) → IsSound after → after.payloads ≡ ps ++ s ∷ [] → IsKept after.payloads after.children more
  IsKept-add after sound payloads = subst (λ (qs : List Stored). IsKept qs after.children more) (sym payloads) (record {
    paired = ap length (sym payloads) ∙ sound.paired;
    forest = sound.forest;
    few = let one_more = length_push ps s in let below = adds.fits in omega arith;
    found = λ x k e. subst (λ (ns : List NodeName). slice_get ns k ≡ Some x) (sym (stored_names-push ps s)) (found_at x k e);
    kept = λ x k e. kept_at x k (push_cases (stored_names ps) s.name x k (subst (λ (ns : List NodeName). slice_get ns k ≡ Some x) (stored_names-push ps s) e));
    counted = λ p. counted_at p ∙ ap (count_of p) (sym (stored_names-push ps s));
    limited = λ p. subst (λ (ns : List NodeName). count_of p ns ≤ 1000000) (sym (stored_names-push ps s)) (limited_at p);
    documents = λ t k d at e. documents_at t k d (push_cases ps s t k at) e;
  })
    where
      found_at : (x : NodeName) (k : ℕ) → slice_get (more x.owner) x.number ≡ Some k → slice_get (stored_names ps ++ s.name ∷ []) k ≡ Some x
      found_at x k e = elim (cases_Bool (owner_eq o x.owner)) [
        | inl h ↦ found_here x k (owner_eq-true o x.owner h)
            (push_cases (keys x.owner) (length ps) k x.number (ap (λ ks. slice_get ks x.number) (sym (pushed_here x.owner h)) ∙ e))
        | inr h ↦ slice_get-push (stored_names ps) s.name x k (adds.kept.found x k (ap (λ ks. slice_get ks x.number) (sym (pushed_elsewhere x.owner h)) ∙ e))
      ]
        where
          found_here : (x : NodeName) (k : ℕ) → o ≡ x.owner → (slice_get (keys x.owner) x.number ≡ Some k) ⊎
              ((x.number ≡ length (keys x.owner)) × (length ps ≡ k)) → slice_get (stored_names ps ++ s.name ∷ []) k ≡ Some x
          found_here x k owner (inl at) = slice_get-push (stored_names ps) s.name x k (adds.kept.found x k at)
          found_here x k owner (inr at) =
              let number : x.number ≡ count_of o (stored_names ps) = at.0 ∙ (adds.kept.counted x.owner ∙ ap (λ p. count_of p (stored_names ps)) (sym owner)) in
              let is : x ≡ s.name = same_parts x (next_name o (stored_names ps)) (sym owner) number ∙ sym adds.name_is in
              ap (slice_get (stored_names ps ++ s.name ∷ [])) (sym (names_long ∙ at.1)) ∙ (slice_get-pushed (stored_names ps) s.name ∙ ap Some (sym is))

      kept_at : (x : NodeName) (k : ℕ) → (slice_get (stored_names ps) k ≡ Some x) ⊎ ((k ≡ length (stored_names ps)) × (s.name ≡ x)) →
          slice_get (more x.owner) x.number ≡ Some k
      kept_at x k (inl at) = elim (cases_Bool (owner_eq o x.owner)) [
        | inl h ↦ ap (λ ks. slice_get ks x.number) (pushed_here x.owner h) ∙ slice_get-push (keys x.owner) (length ps) k x.number (adds.kept.kept x k at)
        | inr h ↦ ap (λ ks. slice_get ks x.number) (pushed_elsewhere x.owner h) ∙ adds.kept.kept x k at
      ]
      kept_at x k (inr at) =
          let is : x ≡ next_name o (stored_names ps) = sym at.1 ∙ adds.name_is in
          let owner : x.owner ≡ o = ap (λ (y : NodeName). y.owner) is in
          let number : x.number ≡ length (keys x.owner) =
          ap (λ (y : NodeName). y.number) is ∙ (ap (λ p. count_of p (stored_names ps)) (sym owner) ∙ sym (adds.kept.counted x.owner)) in
          ap (λ ks. slice_get ks x.number) (pushed_here x.owner (ap (owner_eq o) owner ∙ owner_eq-same o))
          ∙ (ap (slice_get (keys x.owner ++ length ps ∷ [])) number ∙ (slice_get-pushed (keys x.owner) (length ps) ∙ ap Some (sym (at.0 ∙ names_long))))

      counted_at : (p : Owner) → length (more p) ≡ count_of p (stored_names ps ++ s.name ∷ [])
      counted_at p =
          let known = adds.kept.counted p in
          let counts = count_of-push p (stored_names ps) s.name ∙ ap (λ q. count_of p (stored_names ps) + cond (owner_eq q p) 1 0) same_owner in
          elim (cases_Bool (owner_eq o p)) [
            | inl h ↦
                let long = ap (length {A = ℕ}) (pushed_here p h) ∙ length_push (keys p) (length ps) in
                let one_more = counts ∙ ap (λ b. count_of p (stored_names ps) + cond b 1 0) h in
                omega (arith, long, one_more)
            | inr h ↦
                let long = ap (length {A = ℕ}) (pushed_elsewhere p h) in
                let no_more = counts ∙ ap (λ b. count_of p (stored_names ps) + cond b 1 0) h in
                omega (arith, long, no_more)
          ]

      limited_at : (p : Owner) → count_of p (stored_names ps ++ s.name ∷ []) ≤ 1000000
      limited_at p =
          let pushed = count_of-push p (stored_names ps) s.name ∙ ap (λ q. count_of p (stored_names ps) + cond (owner_eq q p) 1 0) same_owner in
          elim (cases_Bool (owner_eq o p)) [
            | inl h ↦
                let is : count_of o (stored_names ps) ≡ count_of p (stored_names ps) = ap (λ q. count_of q (stored_names ps)) (owner_eq-true o p h) in
                let more_of_p : count_of p (stored_names ps ++ s.name ∷ []) ≡ count_of p (stored_names ps) + 1 =
                pushed ∙ ap (λ b. count_of p (stored_names ps) + cond b 1 0) h in
                omega (arith, is, more_of_p, adds.free, adds.kept.limited p)
            | inr h ↦
                let more_of_p : count_of p (stored_names ps ++ s.name ∷ []) ≡ count_of p (stored_names ps) + 0 =
                pushed ∙ ap (λ b. count_of p (stored_names ps) + cond b 1 0) h in
                omega (arith, more_of_p, adds.kept.limited p)
          ]

      documents_at : (t : Stored) (k d : ℕ) → (slice_get ps k ≡ Some t) ⊎ ((k ≡ length ps) × (s ≡ t)) → t.node.document ≡ Some d → d < length (ps ++ s ∷ [])
      documents_at t k d (inl at) e = omega (arith, adds.kept.documents t k d at e, length_push ps s)
      documents_at t k d (inr at) e = omega (arith, adds.document d (ap (λ (u : Stored). u.node.document) at.1 ∙ e), length_push ps s)

  -- a document is named as before
  node_with-push : (x : NodeName) (d : Contents) → ((k : ℕ) → d.document ≡ Some k → k < length ps) →
      node_with (stored_names ps ++ s.name ∷ []) x d ≡ node_with (stored_names ps) x d
  node_with-push x d within = ap (λ o. record {
    name = x;
    kind = d.kind;
    element = (node_with (stored_names ps) x d).element;
    attributes = (node_with (stored_names ps) x d).attributes;
    text = d.text;
    document = o;
  }) (by (cases_Option d.document))
    where
      by : (d.document ≡ None) ⊎ ((k : ℕ) × (d.document ≡ Some k)) →
          option_map (name_at (stored_names ps ++ s.name ∷ [])) d.document ≡ option_map (name_at (stored_names ps)) d.document
      by (inl e) = rw e
      by (inr w) = rw w.1 (ap Some (get_or_append_left (stored_names ps) (s.name ∷ []) _ w.0 (omega (arith, within w.0 w.1, names_long))))

  nodes_with-push : (qs : List Stored) → ((t : Stored) (k d : ℕ) → slice_get qs k ≡ Some t → t.node.document ≡ Some d → d < length ps) →
      nodes_with (stored_names ps ++ s.name ∷ []) qs ≡ nodes_with (stored_names ps) qs
  nodes_with-push [] within = refl
  nodes_with-push (t ∷ qs) within =
      let here = node_with-push t.name t.node (λ d e. within t 0 d refl e) in
      let rest = nodes_with-push qs (λ u k d at e. within u (suc k) d at e) in
      cc

  pub nodes_of-push : nodes_of (ps ++ s ∷ []) ≡ nodes_of ps ++ node_with (stored_names ps) (next_name o (stored_names ps)) s.node ∷ []
  nodes_of-push =
      ap (λ ns. nodes_with ns (ps ++ s ∷ [])) (stored_names-push ps s)
      ∙ (map-append (λ t. node_with (stored_names ps ++ s.name ∷ []) t.name t.node) ps (s ∷ [])
      ∙ (ap (λ ns. ns ++ node_with (stored_names ps ++ s.name ∷ []) s.name s.node ∷ []) (nodes_with-push ps adds.kept.documents)
      ∙ ap (λ n. nodes_of ps ++ n ∷ []) (node_with-push s.name s.node adds.document ∙ ap (λ x. node_with (stored_names ps) x s.node) adds.name_is)))

  pub trees_of-add : (after : Nodes Stored) → IsSound after → after ≡ record { payloads = ps ++ s ∷ []; children = lists ++ [] ∷ [] }
      → trees_of (nodes_of after.payloads) after.children ≡ with_node (node_with (stored_names ps) (next_name o (stored_names ps)) s.node)
      (trees_of (nodes_of ps) lists)
  trees_of-add after sound e =
      ap (λ a. trees_of (nodes_of a.payloads) a.children) e
      ∙ (ap (λ ns. trees_of ns (lists ++ [] ∷ [])) nodes_of-push
      ∙ trees_of-push (nodes_of ps) lists (node_with (stored_names ps) (next_name o (stored_names ps)) s.node) (IsWhole-kept adds.kept) named)
    where
      whole_after : IsWhole (nodes_of after.payloads) after.children
      whole_after = IsWhole-kept (IsKept-add after sound (ap (λ a. a.payloads) e))

      named : IsNamed (nodes_of ps ++ node_with (stored_names ps) (next_name o (stored_names ps)) s.node ∷ [])
      named = subst (λ (ns : List Node). IsNamed ns) (ap (λ a. nodes_of a.payloads) e ∙ nodes_of-push) whole_after.named

-- what the code gives of a node that is added: its owner's next number and the next key, with the tables before and after
pub record Given (ps : List Stored) (lists : List (List ℕ)) (keys more : Owner → List ℕ) (o : Owner) (number : ℕ) (d : Contents) : Type 0 where
  pub kept : IsKept ps lists keys
  pub next_number : number ≡ length (keys o)
  pub free : number ≡ 1000000 → ⊥
  pub document : (k : ℕ) → d.document ≡ Some k → k < length ps
  pub key : ℕ
  pub next_key : key ≡ length ps
  pub fits : key < 2 ^ 64
  pub roomy : Owner → List ℕ
  pub held : (p : Owner) → roomy p ≡ keys p
  pub pushed : (p : Owner) → more p ≡ cond (owner_eq o p) (roomy p ++ key ∷ []) (roomy p)

-- how the code gives what a node that is added asks
pub adds_from : {ps : List Stored} {lists : List (List ℕ)} {keys more : Owner → List ℕ} {o : Owner} {number : ℕ} {d : Contents}
    → Given ps lists keys more o number d → Adds ps lists keys more o (record { name = record { owner = o; number = number }; node = d })
adds_from {ps = ps} {keys = keys} {o = o} {number = number} given =
    let counted : number ≡ count_of o (stored_names ps) = given.next_number ∙ given.kept.counted o in
    let new = given.next_key in
    record {
      kept = given.kept;
      free = λ e. given.free (counted ∙ e);
      name_is = ap (λ n. record { owner = o; number = n }) counted;
      fits = omega (arith, new, given.fits);
      document = given.document;
      pushed = λ p. given.pushed p ∙ (ap (λ ks. cond (owner_eq o p) (ks ++ given.key ∷ []) ks) (given.held p) ∙
          ap (λ k. cond (owner_eq o p) (keys p ++ k ∷ []) (keys p)) new);
    }
