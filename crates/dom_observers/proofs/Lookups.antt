-- An owner's tables in those of all owners.
use Rattle.dom_base.proofs.Std.{◌≡◌, ℕ, Bool, true, false, cond, ltb, List, [], ◌∷◌, length, map, Option, Some, None, refl, sym, ap, ◌∙◌, subst, arith}
use Rattle.dom_base.proofs.Std.{unwrap_or, option_map, option_map_or, IsSome, lookup, get, cond-true, cond-false, false_from_ne_true, ltb-true}
use Rattle.dom_model.proofs.Model.{Owner, owner_eq, owner_eq-true, same_owner}
use Rattle.dom_base.specs.contracts.OwnerPartialEq.TheImpl as OwnerImpl
use Rattle.dom_base.specs.declared.Owner.TheVariants.{Page, Component}
use Rattle.dom_base.specs.declared.OwnerPath.{OwnerPath}
use Rattle.dom_observers.specs.declared.observers.Observers.TheInside.{Inside}
use Rattle.dom_observers.specs.declared.table.Table.{Table}
use Rattle.dom_observers.specs.declared.by_owner.ByOwner.{ByOwner}
use Rattle.dom_observers.specs.Definitions.{table_at, tables_in, Writes}
use Rattle.dom_observers.specs.Definitions.{TablesOf, no_tables, table_of, TablesByOwner, tables_of, all_tables, ChangesTables, KeepsTables}

-- a look-up among images, by a test that agrees
lookup-map : {K X Y : Type 0} (f : X → Y) (p q : K → Bool) → ((k : K) → p k ≡ q k) → (es : List (K × X)) →
    lookup p (map (λ e. (e.0, f e.1)) es) ≡ option_map f (lookup q es)
lookup-map f p q same [] = refl
lookup-map f p q same (e ∷ es) = by (p e.0) (q e.0) (same e.0) (lookup-map f p q same es)
  where
    by : (b c : Bool) → b ≡ c → lookup p (map (λ d. (d.0, f d.1)) es) ≡ option_map f (lookup q es) →
        cond b (Some (f e.1)) (lookup p (map (λ d. (d.0, f d.1)) es)) ≡ option_map f (cond c (Some e.1) (lookup q es))
    by true true i rest = refl
    by true false i rest = cc
    by false true i rest = cc
    by false false i rest = rest

-- nothing is found where there is nothing
none-empty : {K X : Type 0} (p : K → Bool) (es : List (K × X)) → length es ≡ 0 → None ≡ lookup p es
none-empty p [] e = refl
none-empty p (x ∷ es) e = absurd (omega (arith, e))

-- an owner's tables, by the table that is held of it
pub tables_of-at : (q : Inside) (o : Owner) → tables_of (all_tables q) o ≡ tables_in q.tables o
tables_of-at q Page = refl
tables_of-at q (Component k) =
    ap (λ found. unwrap_or found no_tables)
    (lookup-map table_of (owner_eq (Component k)) (OwnerImpl.ghosts.eq (Component k)) (λ p. sym (same_owner (Component k) p)) q.tables.components.entries)
    ∙ by (get OwnerImpl.ghosts.eq q.tables.components (Component k))
  where
    by : (found : Option Table) → unwrap_or (option_map table_of found) no_tables ≡ option_map_or table_of found no_tables
    by None = refl
    by (Some t) = refl

-- an owner that is there, and one that is not
tables_of-some : (q : Inside) (o : Owner) (t : Table) → table_at q.tables o ≡ Some t → tables_of (all_tables q) o ≡ table_of t
tables_of-some q o t e = tables_of-at q o ∙ ap (λ found. option_map_or table_of found no_tables) e

tables_of-none : (q : Inside) (o : Owner) → table_at q.tables o ≡ None → tables_of (all_tables q) o ≡ no_tables
tables_of-none q o e = tables_of-at q o ∙ ap (λ found. option_map_or table_of found no_tables) e

-- a table that is written for an owner
at-written : (q r : ByOwner) (o : Owner) (t : Table) → ((p : Owner) → table_at r p ≡ cond (owner_eq o p) (Some t) (table_at q p)) →
    (p : Owner) → tables_in r p ≡ cond (owner_eq o p) (table_of t) (tables_in q p)
at-written q r o t at p = ap (λ found. option_map_or table_of found no_tables) (at p) ∙ by (owner_eq o p) (table_at q p)
  where
    by : (b : Bool) (old : Option Table) →
        option_map_or table_of (cond b (Some t) old) no_tables ≡ cond b (table_of t) (option_map_or table_of old no_tables)
    by true old = refl
    by false old = refl

written : (q r : Inside) (o : Owner) (t : Table) → ((p : Owner) → table_at r.tables p ≡ cond (owner_eq o p) (Some t) (table_at q.tables p))
    → ChangesTables o (table_of t) (all_tables q) (all_tables r)
written q r o t at p =
    tables_of-at r p
    ∙ (at-written q.tables r.tables o t at p ∙ ap (cond (owner_eq o p) (table_of t)) (sym (tables_of-at q p)))

-- What one owner's tables become.
module _ (o : Owner) where
  -- tables under another name
  changes-same : {t u : TablesOf ℕ} (old new : TablesByOwner) → t ≡ u → ChangesTables o t old new → ChangesTables o u old new
  changes-same old new e h = subst (λ (v : TablesOf ℕ). ChangesTables o v old new) e h

  -- tables that stay as they are
  pub kept-changes : (old new : TablesByOwner) → KeepsTables old new → ChangesTables o (tables_of old o) old new
  kept-changes old new kept p = by (owner_eq o p) refl
    where
      by : (b : Bool) → owner_eq o p ≡ b → tables_of new p ≡ cond (owner_eq o p) (tables_of old o) (tables_of old p)
      by true e =
          kept p
          ∙ (ap (tables_of old) (sym (owner_eq-true o p e)) ∙ sym (cond-true (owner_eq o p) (tables_of old o) (tables_of old p) e))
      by false e = kept p ∙ sym (cond-false (owner_eq o p) (tables_of old o) (tables_of old p) e)

  -- and where what is written is what was there
  pub changes-kept : (old new : TablesByOwner) → ChangesTables o (tables_of old o) old new → KeepsTables old new
  changes-kept old new changes p = by (owner_eq o p) refl
    where
      by : (b : Bool) → owner_eq o p ≡ b → tables_of new p ≡ tables_of old p
      by true e = changes p ∙ (cond-true (owner_eq o p) (tables_of old o) (tables_of old p) e ∙ ap (tables_of old) (owner_eq-true o p e))
      by false e = changes p ∙ cond-false (owner_eq o p) (tables_of old o) (tables_of old p) e

  -- what changes after a call that keeps all changes what was there before it
  pub changes-before : (f : TablesOf ℕ → TablesOf ℕ) (old mid new : TablesByOwner) → KeepsTables old mid →
      ChangesTables o (f (tables_of mid o)) mid new → ChangesTables o (f (tables_of old o)) old new
  changes-before f old mid new kept h p =
      h p ∙ (ap (λ t. cond (owner_eq o p) (f t) (tables_of mid p)) (kept o) ∙ ap (cond (owner_eq o p) (f (tables_of old o))) (kept p))

-- ---- the map q before a call, by the value that it had

module _ (q : Inside) {all : TablesByOwner} (view : all_tables q ≡ all) where
  -- a call that leaves the map as it is
  pub untouched : (r : Inside) → r.tables ≡ q.tables → KeepsTables all (all_tables r)
  untouched r e p = ap (λ (v : TablesByOwner). tables_of v p) (ap (λ (m : ByOwner). all_tables (record q { tables = m })) e ∙ view)

  -- and one that changes nothing of what is read of the tables
  pub kept-in : (r : Inside) → ((p : Owner) → tables_in r.tables p ≡ tables_in q.tables p) → KeepsTables all (all_tables r)
  kept-in r same p = tables_of-at r p ∙ (same p ∙ (sym (tables_of-at q p) ∙ ap (λ (v : TablesByOwner). tables_of v p) view))

  -- what is read of all, by what is held
  pub had-in : (o : Owner) → tables_of all o ≡ tables_in q.tables o
  had-in o = ap (λ (v : TablesByOwner). tables_of v o) (sym view) ∙ tables_of-at q o

  module _ (o : Owner) where
    -- what a call on an owner's table does to all, where the owner has a table
    pub rewritten : (r : Inside) {t : Table} (w : Table) (f : TablesOf ℕ → TablesOf ℕ) → Some t ≡ table_at q.tables o → Writes q.tables o r.tables w
        → table_of w ≡ f (table_of t) → ChangesTables o (f (tables_of all o)) all (all_tables r)
    rewritten r {t = t} w f there at e =
        subst (λ (old : TablesByOwner). ChangesTables o (f (tables_of old o)) old (all_tables r)) view
        (changes-same o (all_tables q) (all_tables r) (e ∙ ap f (sym (tables_of-some q o t (sym there))))
        (written q r o w (at (subst IsSome there refl))))

    -- what is read of the owner's table
    pub had : (t : Table) → Some t ≡ table_at q.tables o → tables_of all o ≡ table_of t
    had t there = ap (λ (v : TablesByOwner). tables_of v o) (sym view) ∙ tables_of-some q o t (sym there)

    pub had-none : None ≡ table_at q.tables o → tables_of all o ≡ no_tables
    had-none off = ap (λ (v : TablesByOwner). tables_of v o) (sym view) ∙ tables_of-none q o (sym off)

    -- a call that leaves the map as it is does nothing to one who has nothing
    pub untouched-changes : (r : Inside) (f : TablesOf ℕ → TablesOf ℕ) → None ≡ table_at q.tables o → r.tables ≡ q.tables →
        f no_tables ≡ no_tables → ChangesTables o (f (tables_of all o)) all (all_tables r)
    untouched-changes r f off e stays =
        let none = had-none off in
        changes-same o all (all_tables r) (none ∙ sym (ap f none ∙ stays))
        (kept-changes o all (all_tables r) (untouched r e))

-- ---- the map of the components

module _ (q r : ByOwner) (o : Owner) where
  -- what was written into it for one of them
  pub put : {k : OwnerPath} (t : Table) → o ≡ Component k → r.page ≡ q.page →
      ((p : Owner) → get OwnerImpl.ghosts.eq r.components p ≡ cond (OwnerImpl.ghosts.eq o p) (Some t) (get OwnerImpl.ghosts.eq q.components p)) →
      (p : Owner) → table_at r p ≡ cond (owner_eq o p) (Some t) (table_at q p)
  put t is page at Page = ap (λ x. Some x) page ∙ sym (ap (λ a. cond (owner_eq a Page) (Some t) (Some q.page)) is)
  put t is page at (Component j) =
      at (Component j) ∙ ap (λ b. cond b (Some t) (get OwnerImpl.ghosts.eq q.components (Component j))) (same_owner o (Component j))

  -- a table that says nothing, for an owner that had none
  pub put-none : (t : Table) → None ≡ table_at q o → table_of t ≡ no_tables →
      ((p : Owner) → table_at r p ≡ cond (owner_eq o p) (Some t) (table_at q p)) → (p : Owner) → tables_in r p ≡ tables_in q p
  put-none t off new at p = at-written q r o t at p ∙ by (owner_eq o p) refl
    where
      by : (b : Bool) → owner_eq o p ≡ b → cond b (table_of t) (tables_in q p) ≡ tables_in q p
      by true e = new ∙ (ap (λ found. option_map_or table_of found no_tables) off ∙ ap (tables_in q) (owner_eq-true o p e))
      by false e = refl

-- a component's table is that of the map, and it has none where the map is empty
pub in-map : (q : ByOwner) (o : Owner) {k : OwnerPath} → o ≡ Component k → table_at q o ≡ get OwnerImpl.ghosts.eq q.components o
in-map q o is = subst (λ p. table_at q p ≡ get OwnerImpl.ghosts.eq q.components p) (sym is) refl

pub none-in-map : (q : ByOwner) (o : Owner) {k : OwnerPath} → o ≡ Component k → length q.components.entries ≡ 0 → None ≡ table_at q o
none-in-map q o is e = none-empty (OwnerImpl.ghosts.eq o) q.components.entries e ∙ sym (in-map q o is)

-- who has no table is a component
pub is-component : (q : ByOwner) (o : Owner) → None ≡ table_at q o → (k : OwnerPath) × (o ≡ Component k)
is-component q Page e = cc
is-component q (Component k) e = (k, refl)

-- no number is below 0
pub below_none : (k : ℕ) → ltb k 0 ≡ false
below_none k = false_from_ne_true (ltb k 0) (λ e. let h = ltb-true k 0 e in omega arith)
