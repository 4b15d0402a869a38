-- The list of a slot is renewed.
use Rattle.dom_base.proofs.Std.{◌≡◌, inl, inr, ℕ, ◌<◌, Bool, true, false, not, ◌&&◌, ◌||◌, List, [], ◌∷◌, ◌++◌, All, map, fold, filter, length, refl, ◌+◌, take}
use Rattle.dom_base.proofs.Std.{get_or, append_assoc, sym, ap, subst, ◌∙◌, true≢false, nat_eq, if◌then◌else◌, and_parts, or_parts, or_left, or_right, eqb-true}
use Rattle.dom_base.proofs.Std.{append-nil, map-append, take_more, All-nil, filter-append, list_any-append}
use Rattle.dom_model.proofs.Model.{NodeName, name_eq, list_eq, is_in, append_once, name_eq-turned, name_eq-true}
use Rattle.dom_tree.specs.Definitions.{NamedTrees, name_at, TellApart}
use Rattle.dom_laws.proofs.Laws.{In, In-parts, In-from, is_in-from, filter-yes, filter-no, filter-none}
use Rattle.dom_slots.specs.Definitions.{ShadowHost, AreRenewed, Renews, AreRight, shadows, assigned_at, SlotTable, list_of}
use Rattle.dom_slots.proofs.Entering.{entered_nodes, entered_beyond}
use Rattle.dom_slots.proofs.Hosted.{key-test}
use Rattle.dom_slots.proofs.OwnSignals.{again_added, passing, passes}
use Rattle.dom_slots.proofs.Signalled.{list_eq-self, list_eq-named, one_signalled, node_added}

-- keys that are the same one by one
pub same_keys : (js ks : List ℕ) → list_eq nat_eq js ks ≡ true → js ≡ ks
same_keys [] [] e = refl
same_keys [] (k ∷ ks) e = absurd (true≢false (sym e))
same_keys (j ∷ js) [] e = absurd (true≢false (sym e))
same_keys (j ∷ js) (k ∷ ks) e =
    let parts = and_parts (nat_eq j k) (list_eq nat_eq js ks) e in
    ap (λ i. i ∷ js) (eqb-true j k parts.0) ∙ ap (λ is. k ∷ is) (same_keys js ks parts.1)

module _ (f : NamedTrees) (apart : TellApart f.names) (hosts : List ShadowHost) (p : NodeName → Bool) (old : SlotTable)
    (done told : List NodeName) (table : SlotTable) (keys : List ℕ) (r : AreRenewed f hosts p old done told table keys)
    (k : ℕ) (node : k < length f.names) (list : List ℕ) (right : map (name_at f.names) list ≡ assigned_at (shadows f hosts) (name_at f.names k))
    (inside : All (λ j. j < length f.names) list) where
  abbrev x : NodeName
  x = name_at f.names k

  abbrev differs : Bool
  differs = not (list_eq nat_eq (list_of table k) list)

  differs-named : differs ≡ not (list_eq name_eq (map (name_at f.names) (list_of table k)) (assigned_at (shadows f hosts) x))
  differs-named = ap not (list_eq-named f.names apart (list_of table k) list (r.nodes k) inside ∙
      ap (list_eq name_eq (map (name_at f.names) (list_of table k))) right)

  -- a list that was renewed is no other
  renewed-same : is_in name_eq x done ≡ true → differs ≡ false
  renewed-same i =
      differs-named ∙ (ap (λ ys. not (list_eq name_eq ys (assigned_at (shadows f hosts) x))) (r.renewed k node i) ∙
      ap not (list_eq-self (assigned_at (shadows f hosts) x)))

  -- one that was not is another one just where p says so
  kept-other : is_in name_eq x done ≡ false → differs ≡ p x
  kept-other i = differs-named ∙ (ap (λ ks. not (list_eq name_eq (map (name_at f.names) ks) (assigned_at (shadows f hosts) x)))
      (r.kept k node i) ∙ sym (r.others k node))

  in_longer : (y : NodeName) → is_in name_eq y (done ++ x ∷ []) ≡ (is_in name_eq y done || (name_eq y x || false))
  in_longer y = list_any-append (name_eq y) done (x ∷ [])

  key-turned : (j : ℕ) → j < length f.names → nat_eq k j ≡ name_eq (name_at f.names j) x
  key-turned j h = key-test f.names apart k j node h ∙ name_eq-turned x (name_at f.names j)

  or_none : (a b : Bool) → b ≡ false → (a || (b || false)) ≡ true → a ≡ true
  or_none true b e h = refl
  or_none false true e h = absurd (true≢false e)
  or_none false false e h = absurd (true≢false (sym h))

  module _ (new : SlotTable) (lists : (j : ℕ) → list_of new j ≡ (if nat_eq k j then list else list_of table j)) (next : List ℕ) where
    elsewhere : (j : ℕ) → nat_eq k j ≡ false → list_of new j ≡ list_of table j
    elsewhere j e = lists j ∙ ap (λ (b : Bool). if b then list else list_of table j) e

    renewed_so : (j : ℕ) → j < length f.names → is_in name_eq (name_at f.names j) (done ++ x ∷ []) ≡ true →
        map (name_at f.names) (list_of new j) ≡ assigned_at (shadows f hosts) (name_at f.names j)
    renewed_so j h i = by (nat_eq k j) refl
      where
        by : (b : Bool) → nat_eq k j ≡ b → map (name_at f.names) (list_of new j) ≡ assigned_at (shadows f hosts) (name_at f.names j)
        by true e = ap (map (name_at f.names)) (lists j ∙ ap (λ (b : Bool). if b then list else list_of table j) e) ∙
            (right ∙ ap (λ m. assigned_at (shadows f hosts) (name_at f.names m)) (eqb-true k j e))
        by false e =
            ap (map (name_at f.names)) (elsewhere j e)
            ∙ r.renewed j h (or_none (is_in name_eq (name_at f.names j) done) (name_eq (name_at f.names j) x) (sym (key-turned j h) ∙ e)
            (sym (in_longer (name_at f.names j)) ∙ i))

    kept_so : (j : ℕ) → j < length f.names → is_in name_eq (name_at f.names j) (done ++ x ∷ []) ≡ false → list_of new j ≡ list_of old j
    kept_so j h i =
        let parts = or_parts (is_in name_eq (name_at f.names j) done) _ (sym (in_longer (name_at f.names j)) ∙ i) in
        elsewhere j (key-turned j h ∙ (or_parts (name_eq (name_at f.names j) x) false parts.1).0) ∙ r.kept j h parts.0

    among_so : (y : NodeName) → is_in name_eq y (done ++ x ∷ []) ≡ true → p y ≡ true → is_in name_eq y (told ++ filter p (x ∷ [])) ≡ true
    among_so y i pass = list_any-append (name_eq y) told (filter p (x ∷ [])) ∙ by (is_in name_eq y done) refl
      where
        by : (b : Bool) → is_in name_eq y done ≡ b → (is_in name_eq y told || is_in name_eq y (filter p (x ∷ []))) ≡ true
        by true e = or_left (is_in name_eq y told) _ (r.among y e pass)
        by false e =
            let same : name_eq y x ≡ true = sym (or-none (name_eq y x)) ∙ (ap (λ b. b || (name_eq y x || false)) (sym e) ∙ (sym (in_longer y) ∙ i)) in
            let hit : p x ≡ true = ap p (sym (name_eq-true y x same)) ∙ pass in
            or_right (is_in name_eq y told) _ (ap (is_in name_eq y) (filter-yes p x [] hit) ∙ (ap (λ b. b || false) same))
          where
            or-none : (b : Bool) → (false || (b || false)) ≡ b
            or-none true = refl
            or-none false = refl

    keys_so : next ≡ (if differs then append_once nat_eq keys k else keys) →
        map (name_at f.names) next ≡ fold (append_once name_eq) [] (told ++ filter p (x ∷ []))
    keys_so is = by (is_in name_eq x done) refl (p x) refl
      where
        stays : differs ≡ false → map (name_at f.names) next ≡ fold (append_once name_eq) [] told
        stays e = ap (map (name_at f.names)) (is ∙ ap (λ (b : Bool). if b then append_once nat_eq keys k else keys) e) ∙ r.keys_are

        by : (a : Bool) → is_in name_eq x done ≡ a → (b : Bool) → p x ≡ b →
            map (name_at f.names) next ≡ fold (append_once name_eq) [] (told ++ filter p (x ∷ []))
        by true i b e =
            stays (renewed-same i)
            ∙ sym (again_added told (filter p (x ∷ []))
            (λ y j. let w = passing p y (x ∷ []) j in elim w.0 [ inl same ↦ r.among y (ap (λ z. is_in name_eq z done) same ∙ i) w.1 | inr none ↦ absurd none ]))
        by false i true e =
            (one_signalled f.names apart told keys k record { nodes = r.keys_nodes; are = r.keys_are } node
            (is ∙ ap (λ (b : Bool). if b then append_once nat_eq keys k else keys) (kept-other i ∙ e))).are
            ∙ ap (λ ys. fold (append_once name_eq) [] (told ++ ys)) (sym (filter-yes p x [] e))
        by false i false e = stays (kept-other i ∙ e) ∙
            ap (fold (append_once name_eq) []) (sym (append-nil told) ∙ ap (λ ys. told ++ ys) (sym (filter-no p x [] e)))

    nodes_so : next ≡ (if differs then append_once nat_eq keys k else keys) → All (λ j. j < length f.names) next
    nodes_so is = subst (All (λ j. j < length f.names)) (sym is) (by differs)
      where
        by : (b : Bool) → All (λ j. j < length f.names) (if b then append_once nat_eq keys k else keys)
        by true = node_added (length f.names) keys k r.keys_nodes node
        by false = r.keys_nodes

    -- one list more is renewed
    pub renewed-more : next ≡ (if differs then append_once nat_eq keys k else keys) →
        AreRenewed f hosts p old (done ++ x ∷ []) (told ++ filter p (x ∷ [])) new next
    renewed-more is = record {
      others = r.others;
      renewed = renewed_so;
      kept = kept_so;
      nodes = entered_nodes f k list table new lists inside r.nodes;
      beyond = λ j far. entered_beyond f k list table new lists node j far ∙ r.beyond j far;
      keys_nodes = nodes_so is;
      keys_are = keys_so is;
      among = among_so;
    }

  -- a list that is no other stays
  pub renewed-stays : differs ≡ false → (next : List ℕ) → next ≡ keys → AreRenewed f hosts p old (done ++ x ∷ []) (told ++ filter p (x ∷ [])) table next
  renewed-stays e next is = renewed-more table (λ j. by j (nat_eq k j) refl) next
      (is ∙ ap (λ (b : Bool). if b then append_once nat_eq keys k else keys) (sym e))
    where
      same : list_of table k ≡ list
      same = same_keys (list_of table k) list (turned (list_eq nat_eq (list_of table k) list) e)
        where
          turned : (b : Bool) → not b ≡ false → b ≡ true
          turned true h = refl
          turned false h = absurd (true≢false h)

      by : (j : ℕ) (b : Bool) → nat_eq k j ≡ b → list_of table j ≡ (if b then list else list_of table j)
      by j true h = ap (list_of table) (sym (eqb-true k j h)) ∙ same
      by j false h = refl

-- The renewal may be taken up anew: of the table that it left no list that was renewed is another one.
pub renewed-anew : {f : NamedTrees} {hosts : List ShadowHost} {p : NodeName → Bool} {old : SlotTable} {done told : List NodeName}
    {table : SlotTable} {keys : List ℕ} → AreRenewed f hosts p old done told table keys
    → AreRenewed f hosts (λ y. p y && not (is_in name_eq y done)) table [] [] table []
renewed-anew {f} {hosts} {p} {old} {done} {told} {table} r = record {
  others = λ k within. by k within (is_in name_eq (name_at f.names k) done) refl;
  renewed = λ k within i. absurd (true≢false (sym i));
  kept = λ k within i. refl;
  nodes = r.nodes;
  beyond = r.beyond;
  keys_nodes = All-nil (λ k. k < length f.names);
  keys_are = refl;
  among = λ y i. absurd (true≢false (sym i));
}
  where
    and_false : (b : Bool) → (b && false) ≡ false
    and_false true = refl
    and_false false = refl

    and_true : (b : Bool) → (b && true) ≡ b
    and_true true = refl
    and_true false = refl

    by : (k : ℕ) → k < length f.names → (b : Bool) → is_in name_eq (name_at f.names k) done ≡ b
        → (p (name_at f.names k) && not (is_in name_eq (name_at f.names k) done)) ≡ not
        (list_eq name_eq (map (name_at f.names) (list_of table k)) (assigned_at (shadows f hosts) (name_at f.names k)))
    by k within true i =
        ap (λ b. p (name_at f.names k) && not b) i
        ∙ (and_false (p (name_at f.names k))
        ∙ sym (ap (λ xs. not (list_eq name_eq xs (assigned_at (shadows f hosts) (name_at f.names k)))) (r.renewed k within i) ∙
        ap not (list_eq-self (assigned_at (shadows f hosts) (name_at f.names k)))))
    by k within false i =
        ap (λ b. p (name_at f.names k) && not b) i
        ∙ (and_true (p (name_at f.names k))
        ∙ (r.others k within ∙ ap (λ ks. not (list_eq name_eq (map (name_at f.names) ks) (assigned_at (shadows f hosts) (name_at f.names k))))
        (sym (r.kept k within i))))

-- slots that were renewed already add nothing
pub renewed-again : {f : NamedTrees} {hosts : List ShadowHost} {p : NodeName → Bool} {old : SlotTable} {done told : List NodeName} {table : SlotTable}
    {keys : List ℕ} → AreRenewed f hosts p old done told table keys → (ys : List NodeName) → ((y : NodeName) → In y ys → is_in name_eq y done ≡ true)
    → AreRenewed f hosts p old (done ++ ys) (told ++ filter p ys) table keys
renewed-again {f} {hosts} {p} {old} {done} {told} {table} r ys there = record {
  others = r.others;
  renewed = λ k within i. r.renewed k within (in_done (name_at f.names k) i);
  kept = λ k within i.
      r.kept k within (or_parts (is_in name_eq (name_at f.names k) done) _ (sym (list_any-append (name_eq (name_at f.names k)) done ys) ∙ i)).0;
  nodes = r.nodes;
  beyond = r.beyond;
  keys_nodes = r.keys_nodes;
  keys_are = r.keys_are ∙ sym (again_added told (filter p ys) (λ y i. let w = passing p y ys i in r.among y (there y w.0) w.1));
  among = λ y i pass. list_any-append (name_eq y) told (filter p ys) ∙ or_left (is_in name_eq y told) _ (r.among y (in_done y i) pass);
}
  where
    in_done : (y : NodeName) → is_in name_eq y (done ++ ys) ≡ true → is_in name_eq y done ≡ true
    in_done y i = elim (In-parts y done ys (In-from y (done ++ ys) i)) [ inl j ↦ is_in-from y done j | inr j ↦ there y j ]

-- and of those whose lists are right none is signalled
pub renewed-right : {f : NamedTrees} {hosts : List ShadowHost} {q : NodeName → Bool} {old : SlotTable} → (ys : List NodeName) →
    ((y : NodeName) → In y ys → (k : ℕ) × (k < length f.names) × (name_at f.names k ≡ y)) → AreRight f hosts ys old →
    AreRenewed f hosts q old [] [] old [] → AreRenewed f hosts q old ys (filter q ys) old []
renewed-right {f} {hosts} {q} {old} ys nodes right start = record {
  others = start.others;
  renewed = right;
  kept = λ k within i. refl;
  nodes = start.nodes;
  beyond = start.beyond;
  keys_nodes = start.keys_nodes;
  keys_are = ap (fold (append_once name_eq) []) (sym (filter-none q ys quiet));
  among = λ y i pass. is_in-from y (filter q ys) (passes q y ys (In-from y ys i) pass);
}
  where
    quiet : (y : NodeName) → In y ys → q y ≡ false
    quiet y i =
        let w = nodes y i in
        let k = w.0 in
        ap q (sym w.2) ∙ (start.others k w.1
        ∙ (ap (λ xs. not (list_eq name_eq xs (assigned_at (shadows f hosts) (name_at f.names k))))
        (right k w.1 (ap (λ z. is_in name_eq z ys) w.2 ∙ is_in-from y ys i)) ∙ ap not (list_eq-self (assigned_at (shadows f hosts) (name_at f.names k)))))

-- Slots are renewed one after another.
module _ {f : NamedTrees} {hosts : List ShadowHost} {table : SlotTable} {keys : List ℕ} where
  -- none
  pub renews-none : Renews f hosts [] table keys table keys
  renews-none p old done told r = subst (λ ds. AreRenewed f hosts p old ds (told ++ []) table keys) (sym (append-nil done))
      (subst (λ ts. AreRenewed f hosts p old done ts table keys) (sym (append-nil told)) r)

  -- these, and then others
  pub renews-then : (xs ys : List NodeName) {mid new : SlotTable} {more next : List ℕ} → Renews f hosts xs table keys mid more →
      Renews f hosts ys mid more new next → Renews f hosts (xs ++ ys) table keys new next
  renews-then xs ys {mid} {new} {more} {next} first second p old done told r =
      subst (λ ts. AreRenewed f hosts p old (done ++ (xs ++ ys)) ts new next)
      (append_assoc told (filter p xs) (filter p ys) ∙ ap (λ zs. told ++ zs) (sym (filter-append p xs ys)))
      (subst (λ ds. AreRenewed f hosts p old ds ((told ++ filter p xs) ++ filter p ys) new next) (append_assoc done xs ys)
      (second p old (done ++ xs) (told ++ filter p xs) (first p old done told r)))

  -- one more of a list
  module _ (slots : List ℕ) (i s : ℕ) (at : s ≡ get_or slots i s) (within : i < length slots) where
    pub renews-next : {hs : List ShadowHost} {mid new : SlotTable} {more next : List ℕ} → hs ≡ hosts →
        Renews f hosts (map (name_at f.names) (take i slots)) table keys mid more → Renews f hs (name_at f.names s ∷ []) mid more new next →
        Renews f hosts (map (name_at f.names) (take (i + 1) slots)) table keys new next
    renews-next {hs} {mid} {new} {more} {next} same first second =
        subst (λ xs. Renews f hosts xs table keys new next) (sym longer)
        (renews-then (map (name_at f.names) (take i slots)) (name_at f.names s ∷ []) first
        (subst (λ hosts. Renews f hosts (name_at f.names s ∷ []) mid more new next) same second))
      where
        longer : map (name_at f.names) (take (i + 1) slots) ≡ map (name_at f.names) (take i slots) ++ name_at f.names s ∷ []
        longer = ap (map (name_at f.names)) (take_more slots i s within ∙ ap (λ j. take i slots ++ j ∷ []) (sym at)) ∙
            map-append (name_at f.names) (take i slots) (s ∷ [])

-- Slots were renewed.
module _ {f : NamedTrees} {hosts : List ShadowHost} {p : NodeName → Bool} {old : SlotTable} {done told : List NodeName} {table : SlotTable}
    {keys : List ℕ} (r : AreRenewed f hosts p old done told table keys) where
  -- a slot more is signalled, whatever its list
  pub told-more : TellApart f.names → (next : List ℕ) (k : ℕ) → k < length f.names → next ≡ append_once nat_eq keys k →
      AreRenewed f hosts p old done (told ++ name_at f.names k ∷ []) table next
  told-more apart next k node is =
      let more = one_signalled f.names apart told keys k record { nodes = r.keys_nodes; are = r.keys_are } node is in
      record {
        others = r.others;
        renewed = r.renewed;
        kept = r.kept;
        nodes = r.nodes;
        beyond = r.beyond;
        keys_nodes = more.nodes;
        keys_are = more.are;
        among = λ y i pass. list_any-append (name_eq y) told (name_at f.names k ∷ []) ∙ or_left (is_in name_eq y told) _ (r.among y i pass);
      }
