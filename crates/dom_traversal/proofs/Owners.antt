-- An owner's cursors in the tables of all owners.
use Rattle.dom_traversal.proofs.Cited.{◌≡◌, ◌≢◌, ℕ, Bool, true, false, cond, Option, Some, None, refl, sym, ap, ◌∙◌, unwrap_or, Result, Ok, Err}
use Rattle.dom_traversal.proofs.Cited.{arith, IsErrAnd, List, [], ◌∷◌, length, lookup, get, subst, Fault, Limit, Memory, ne-owner_eq, Owner, owner_eq}
use Rattle.dom_traversal.proofs.Cited.{owner_eq-same, owner_eq-true, Refused}
use Rattle.dom_traversal.proofs.Cited.{same_owner, AllCursors, ByOwner, cursors_in, cursors_of, entries_of, KeyedTables, no_keyed_tables, table_at}
use Rattle.dom_traversal.proofs.Cited.{with_cursors}
use Rattle.dom_base.specs.contracts.OwnerPartialEq.TheImpl as OwnerImpl
use Rattle.dom_base.specs.declared.Owner.TheVariants.{Page, Component}
use Rattle.dom_base.specs.declared.OwnerPath.{OwnerPath}

-- what a look-up finds
looked : (q : ByOwner) (o : Owner) → lookup (owner_eq o) (entries_of q) ≡ table_at q o
looked q Page = refl
looked q (Component k) = ap (λ (test : Owner → Bool). lookup test q.components.entries) (λ i p. sym (same_owner (Component k) p) i)

-- what all owners have, read from the tables and from what a contract sees of them
pub seen : (q : ByOwner) {all : AllCursors} → entries_of q ≡ all → cursors_in q ≡ cursors_of all
seen q {all} view = (λ i p. at p i)
  where
    at : (p : Owner) → cursors_in q p ≡ cursors_of all p
    at p = ap (λ found. unwrap_or found no_keyed_tables) (sym (looked q p) ∙ ap (lookup (owner_eq p)) view)

-- the cursors of an owner that has some, and of one that has none
pub had : (q : ByOwner) (all : AllCursors) (o : Owner) (t : KeyedTables) → entries_of q ≡ all → Some t ≡ table_at q o → cursors_of all o ≡ t
had q all o t view there = ap (λ each. each o) (sym (seen q view)) ∙ ap (λ found. unwrap_or found no_keyed_tables) (sym there)

pub had-none : (q : ByOwner) (all : AllCursors) (o : Owner) → entries_of q ≡ all → None ≡ table_at q o → cursors_of all o ≡ no_keyed_tables
had-none q all o view off = ap (λ each. each o) (sym (seen q view)) ∙ ap (λ found. unwrap_or found no_keyed_tables) (sym off)

-- what is written is the owner's then
pub with-own : (each : Owner → KeyedTables) (o : Owner) (t : KeyedTables) → with_cursors each o t o ≡ t
with-own each o t = ap (λ b. cond b t (each o)) (owner_eq-same o)

-- and that of no other one
pub with-other : (each : Owner → KeyedTables) (o : Owner) (t : KeyedTables) (p : Owner) → p ≢ o → with_cursors each o t p ≡ each p
with-other each o t p other = ap (λ b. cond b t (each p)) (ne-owner_eq o p (λ e. other (sym e)))

-- what is written is what was there
pub with-same : (each : Owner → KeyedTables) (o : Owner) (t : KeyedTables) → each o ≡ t → with_cursors each o t ≡ each
with-same each o t e = (λ i p. at p i)
  where
    at : (p : Owner) → with_cursors each o t p ≡ each p
    at p = by (owner_eq o p) refl
      where
        by : (b : Bool) → owner_eq o p ≡ b → cond b t (each p) ≡ each p
        by true same = sym e ∙ ap each (owner_eq-true o p same)
        by false same = refl

module _ (q r : ByOwner) (o : Owner) (t : KeyedTables) where
  -- cursors that are written for an owner
  pub rewritten : ((p : Owner) → table_at r p ≡ cond (owner_eq o p) (Some t) (table_at q p)) → cursors_in r ≡ with_cursors (cursors_in q) o t
  rewritten at = (λ i p. each p i)
    where
      by : (b : Bool) (old : Option KeyedTables) → unwrap_or (cond b (Some t) old) no_keyed_tables ≡ cond b t (unwrap_or old no_keyed_tables)
      by true old = refl
      by false old = refl

      each : (p : Owner) → cursors_in r p ≡ with_cursors (cursors_in q) o t p
      each p = ap (λ m. unwrap_or m no_keyed_tables) (at p) ∙ by (owner_eq o p) (table_at q p)

  -- and where what is written for an owner without cursors is nothing
  pub rewritten-none : None ≡ table_at q o → t ≡ no_keyed_tables → ((p : Owner) → table_at r p ≡ cond (owner_eq o p) (Some t) (table_at q p)) →
      cursors_in r ≡ cursors_in q
  rewritten-none off new at =
      rewritten at ∙ with-same (cursors_in q) o t (ap (λ found. unwrap_or found no_keyed_tables) (sym off) ∙ sym new)

  -- the same by what a contract sees
  pub written : {all : AllCursors} → entries_of q ≡ all → ((p : Owner) → table_at r p ≡ cond (owner_eq o p) (Some t) (table_at q p)) →
      cursors_of (entries_of r) ≡ with_cursors (cursors_of all) o t
  written view at = sym (seen r refl) ∙ rewritten at ∙ ap (λ each. with_cursors each o t) (seen q view)

-- the same where the tables were changed before, and the cursors are as they were
module _ (q : ByOwner) (old : AllCursors) (o : Owner) (keeps : cursors_in q ≡ cursors_of old) where
  pub had-kept : {t : KeyedTables} → Some t ≡ table_at q o → cursors_of old o ≡ t
  had-kept there = ap (λ each. each o) (sym keeps) ∙ ap (λ found. unwrap_or found no_keyed_tables) (sym there)

  pub written-kept : (r : ByOwner) (t : KeyedTables) → ((p : Owner) → table_at r p ≡ cond (owner_eq o p) (Some t) (table_at q p)) →
      cursors_of (entries_of r) ≡ with_cursors (cursors_of old) o t
  written-kept r t at = written q r o t refl at ∙ ap (λ each. with_cursors each o t) (sym (seen q refl) ∙ keeps)

-- what was written into the map of the components for one of them
module _ (q r : ByOwner) (o : Owner) where
  pub put : {k : OwnerPath} (t : KeyedTables) → o ≡ Component k → r.page ≡ q.page →
      ((p : Owner) → get OwnerImpl.ghosts.eq r.components p ≡ cond (OwnerImpl.ghosts.eq o p) (Some t) (get OwnerImpl.ghosts.eq q.components p)) →
      (p : Owner) → table_at r p ≡ cond (owner_eq o p) (Some t) (table_at q p)
  put t is page at Page = ap (λ x. Some x) page ∙ sym (ap (λ a. cond (owner_eq a Page) (Some t) (Some q.page)) is)
  put t is page at (Component j) =
      at (Component j) ∙ ap (λ b. cond b (Some t) (get OwnerImpl.ghosts.eq q.components (Component j))) (same_owner o (Component j))

-- a component's tables are those of the map, and it has none where the map is empty
pub in-map : (q : ByOwner) (o : Owner) {k : OwnerPath} → o ≡ Component k → table_at q o ≡ get OwnerImpl.ghosts.eq q.components o
in-map q o is = subst (λ p. table_at q p ≡ get OwnerImpl.ghosts.eq q.components p) (sym is) refl

none-empty : {K X : Type 0} (p : K → Bool) (es : List (K × X)) → length es ≡ 0 → None ≡ lookup p es
none-empty p [] e = refl
none-empty p (x ∷ es) e = absurd (omega (arith, e))

pub none-in-map : (q : ByOwner) (o : Owner) {k : OwnerPath} → o ≡ Component k → length q.components.entries ≡ 0 → None ≡ table_at q o
none-in-map q o is e = none-empty (OwnerImpl.ghosts.eq o) q.components.entries e ∙ sym (in-map q o is)

-- who has no tables is a component
pub is-component : (q : ByOwner) (o : Owner) → None ≡ table_at q o → (k : OwnerPath) × (o ≡ Component k)
is-component q Page e = cc
is-component q (Component k) e = (k, refl)

-- want of memory is no limit
pub not_limit : (r : Result ℕ Fault) → IsErrAnd r (λ f. f ≡ Memory) → r ≡ Err (Refused Limit) → ⊥
not_limit (Ok k) h e = cc
not_limit (Err f) h e = cc
