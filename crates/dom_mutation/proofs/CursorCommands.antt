-- The commands on an owner's iterators and walkers: what their calls ask, what holds after them, and that they do what the model says of
-- the command.
use Rattle.dom_mutation.proofs.Cited.{◌≡◌, ◌≢◌, ℕ, ◌<◌, ◌≤◌, Bool, true, List, [], ◌∷◌, ◌++◌, length, Option, Some, None, Result, Ok, Err, option_map, refl}
use Rattle.dom_mutation.proofs.Cited.{sym, ap, subst, ◌∙◌, arith, is_some, slice_get, slice_set, IfOk, OnOk, OnErr, ◌↔◌, on_err_weaker, length-set, length-map}
use Rattle.dom_mutation.proofs.Cited.{length_push, Fault, Refused, Limit, NodeName, Owner, Move, Command, Filter, own, effect, Iterator, Walker, walker_move}
use Rattle.dom_mutation.proofs.Cited.{Value, an_iterator, a_walker, past_limit, part_of, is_there, Effect, node_or_null, NamedTrees, name_at, AreOwned}
use Rattle.dom_mutation.proofs.Cited.{KeyedIterator, IsIteratorOf, iterator_view, iterator_at, KeyedWalker, IsWalkerOf, walker_view, walker_at, KeyedTables}
use Rattle.dom_mutation.proofs.Cited.{EachItem, with_cursors, StandOnce, above-itself, was_some, IsOwnIterator, IsOwnWalker, AreTablesOf, AllTables}
use Rattle.dom_mutation.proofs.Cited.{DocState, ForSome, name_in, owner_in, world_from, state_from, IsDoc, Makes, set_items, push_items}
use Rattle.dom_mutation.proofs.OwnNodes.{moved_own}
use Rattle.dom_mutation.proofs.Limits.{limit_count}
use Rattle.dom_mutation.proofs.Cursors.{iterators_in, walkers_in, iterator_effect_new, walker_effect_new, has_iterator, has_walker, there_iterator}
use Rattle.dom_mutation.proofs.Cursors.{there_walker, with_own, with_iterator, with_walker, walk_effect, makes_read, makes_set, held_set}

module _ (f : NamedTrees) {tables : AllTables} (held : IsDoc f.names f.trees tables) {d : DocState}
    (is_d : state_from f.names f.trees tables ≡ d) (o : Owner) where
  -- whoever has a cursor is there
  pub there_iter : (k : ℕ) → is_some (slice_get (part_of d.world o).iterators k) ≡ true → is_there (world_from f.names f.trees tables) o ≡ true
  there_iter k h =
      there_iterator f.names f.trees tables held o k (subst (λ (e : DocState). is_some (slice_get (part_of e.world o).iterators k) ≡ true) (sym is_d) h)

  pub there_walk : (k : ℕ) → is_some (slice_get (part_of d.world o).walkers k) ≡ true → is_there (world_from f.names f.trees tables) o ≡ true
  there_walk k h =
      there_walker f.names f.trees tables held o k (subst (λ (e : DocState). is_some (slice_get (part_of e.world o).walkers k) ≡ true) (sym is_d) h)

  -- whether an owner has an iterator, or a walker, of a number
  pub iter_is : (k : ℕ) → is_some (slice_get (tables.each o).iterators k) ≡ is_some (slice_get (part_of d.world o).iterators k)
  iter_is k =
      subst (λ (e : DocState). is_some (slice_get (tables.each o).iterators k) ≡ is_some (slice_get (part_of e.world o).iterators k)) is_d
      (sym (has_iterator f.names f.trees tables held o k))

  pub walk_is : (k : ℕ) → is_some (slice_get (tables.each o).walkers k) ≡ is_some (slice_get (part_of d.world o).walkers k)
  walk_is k =
      subst (λ (e : DocState). is_some (slice_get (tables.each o).walkers k) ≡ is_some (slice_get (part_of e.world o).walkers k)) is_d
      (sym (has_walker f.names f.trees tables held o k))

  pub iter_there : (k : ℕ) → is_some (slice_get (part_of d.world o).iterators k) ≡ true → is_some (slice_get (tables.each o).iterators k) ≡ true
  iter_there k h = iter_is k ∙ h

  pub walk_there : (k : ℕ) → is_some (slice_get (part_of d.world o).walkers k) ≡ true → is_some (slice_get (tables.each o).walkers k) ≡ true
  walk_there k h = walk_is k ∙ h

  -- the iterator of a number, and the walker
  pub the_iterator : (k : ℕ) → is_some (slice_get (part_of d.world o).iterators k) ≡ true →
      (i : KeyedIterator) × (slice_get (tables.each o).iterators k ≡ Some i)
  the_iterator k h = was_some (slice_get (tables.each o).iterators k) (iter_there k h)

  pub the_walker : (k : ℕ) → is_some (slice_get (part_of d.world o).walkers k) ≡ true → (w : KeyedWalker) × (slice_get (tables.each o).walkers k ≡ Some w)
  the_walker k h = was_some (slice_get (tables.each o).walkers k) (walk_there k h)

  pub iters_of : EachItem (IsIteratorOf f) (tables.each o).iterators
  iters_of k i e = ((held.own o).iterators k i e).stands

  pub walks_of : EachItem (IsWalkerOf f) (tables.each o).walkers
  walks_of k w e = ((held.own o).walkers k w e).stands

  module _ (there : is_there (world_from f.names f.trees tables) o ≡ true) where
    -- a command that reads
    pub reads : (c : List NodeName → Command) (v : List NodeName → Value) →
        effect (with_own f.names f.trees tables held o there (tables.each o)) (c f.names) ≡
        Effect.tables (with_own f.names f.trees tables held o there (tables.each o)) []
        (v f.names) → Makes o (c d.names) (v d.names) d.world d.world
    reads c v is = subst (λ (e : DocState). Makes o (c e.names) (v e.names) e.world e.world) is_d
        (makes_read f.names f.trees tables held o there (c f.names) (v f.names) is)

    -- a command that writes
    module _ (each : Owner → KeyedTables) (w : KeyedTables) (is_each : each ≡ with_cursors tables.each o w) where
      pub writes : (c : List NodeName → Command) (v : List NodeName → Value) →
          effect (with_own f.names f.trees tables held o there (tables.each o)) (c f.names) ≡ Effect.tables (with_own f.names f.trees tables held o there w) []
          (v f.names)
          → Makes o (c d.names) (v d.names) d.world (world_from f.names f.trees (record tables { each = each }))
      writes c v is =
          subst (λ (e : DocState). Makes o (c e.names) (v e.names) e.world (world_from f.names f.trees (record tables { each = each }))) is_d
          (subst (λ (x : Owner → KeyedTables). Makes o (c f.names) (v f.names) (world_from f.names f.trees tables)
          (world_from f.names f.trees (record tables { each = x }))) (sym is_each)
          (makes_set f.names f.trees tables held o there w (c f.names) (v f.names) is))

      pub held_written : AreTablesOf f o w → IsDoc f.names f.trees (record tables { each = each })
      held_written h =
          subst (λ (x : Owner → KeyedTables). IsDoc f.names f.trees (record tables { each = x })) (sym is_each)
          (held_set f.names f.trees tables held o there w h)

  -- ---- what holds of the tables written

  pub iter_moved : (k : ℕ) (i : KeyedIterator) (before : Bool) (r : Option ℕ) → slice_get (tables.each o).iterators k ≡ Some i →
      IsIteratorOf f (iterator_at i before r) →
      AreTablesOf f o (record (tables.each o) { iterators = slice_set (tables.each o).iterators k (iterator_at i before r) })
  iter_moved k i before r e kept =
      let h = held.own o in
      record {
        iterators = set_items (IsOwnIterator f o) (tables.each o).iterators k (iterator_at i before r) h.iterators
            (record { stands = kept; own = ap (λ n. (name_at f.names n).owner) (same_root r) ∙ (h.iterators k i e).own });
        walkers = h.walkers;
        few_iterators = let same = length-set (tables.each o).iterators k (iterator_at i before r) in let few = h.few_iterators in omega arith;
        few_walkers = h.few_walkers;
      }
    where
      same_root : (r : Option ℕ) → (iterator_at i before r).root ≡ i.root
      same_root None = refl
      same_root (Some j) = refl

  pub walk_moved : (k : ℕ) (w v : KeyedWalker) → slice_get (tables.each o).walkers k ≡ Some w → IsOwnWalker f o v →
      AreTablesOf f o (record (tables.each o) { walkers = slice_set (tables.each o).walkers k v })
  walk_moved k w v e kept =
      let h = held.own o in
      record {
        iterators = h.iterators;
        walkers = set_items (IsOwnWalker f o) (tables.each o).walkers k v h.walkers kept;
        few_iterators = h.few_iterators;
        few_walkers = let same = length-set (tables.each o).walkers k v in let few = h.few_walkers in omega arith;
      }

  pub iter_pushed : (i : KeyedIterator) → IsOwnIterator f o i → length (tables.each o).iterators ≢ 1000000 →
      AreTablesOf f o (record (tables.each o) { iterators = (tables.each o).iterators ++ i ∷ [] })
  iter_pushed i kept room =
      let h = held.own o in
      record {
        iterators = push_items (IsOwnIterator f o) (tables.each o).iterators i h.iterators kept;
        walkers = h.walkers;
        few_iterators = let more = length_push (tables.each o).iterators i in let few = h.few_iterators in omega arith;
        few_walkers = h.few_walkers;
      }

  pub walk_pushed : (w : KeyedWalker) → IsOwnWalker f o w → length (tables.each o).walkers ≢ 1000000 →
      AreTablesOf f o (record (tables.each o) { walkers = (tables.each o).walkers ++ w ∷ [] })
  walk_pushed w kept room =
      let h = held.own o in
      record {
        iterators = h.iterators;
        walkers = push_items (IsOwnWalker f o) (tables.each o).walkers w h.walkers kept;
        few_iterators = h.few_iterators;
        few_walkers = let more = length_push (tables.each o).walkers w in let few = h.few_walkers in omega arith;
      }

  -- a node of the forest is one of the state
  pub name_known : (k : ℕ) → k < length f.names → k < length d.names
  name_known k less = subst (λ (e : DocState). k < length e.names) is_d less

-- a walker that moved is one of its owner
pub walk_stays : {f : NamedTrees} → AreOwned f.trees → {o : Owner} {w : KeyedWalker} → IsOwnWalker f o w → (m : Move) (r : Option ℕ) →
    option_map (name_at f.names) r ≡ walker_move f.trees (walker_view f.names w) m
    → IsWalkerOf f (walker_at w r) → IsOwnWalker f o (walker_at w r)
walk_stays owned h m None value kept = record { stands = kept; own = h.own; own_current = h.own_current }
walk_stays {f} owned {o} {w} h m (Some j) value kept =
    record {
      stands = kept;
      own = h.own;
      own_current = moved_own f.trees owned o (walker_view f.names w) h.own h.own_current m (name_at f.names j) (sym value);
    }

-- what a command that moves an owner's cursor leaves: what is held, and what the call says
pub record Moves (f : NamedTrees) (tables : AllTables) (d : DocState) (o : Owner) (each : Owner → KeyedTables) (c : Command) (r : Option ℕ) :
    Type 0 where
  pub held : IsDoc f.names f.trees (record tables { each = each })
  pub names : f.names ≡ d.names
  pub node : ForSome r (λ j. j < length d.names)
  pub world : Makes o c (node_or_null (option_map (name_in d) r)) d.world (world_from f.names f.trees (record tables { each = each }))

module _ (f : NamedTrees) {tables : AllTables} (held : IsDoc f.names f.trees tables) {d : DocState}
    (is_d : state_from f.names f.trees tables ≡ d) (o : Owner) (k : ℕ) (each : Owner → KeyedTables) {r : Option ℕ} where
  pub iter_moves : (h : is_some (slice_get (part_of d.world o).iterators k) ≡ true) (before : Bool) (c : Command)
      → each ≡ with_cursors tables.each o (with_iterator f.names f.trees tables held o (there_iter f held is_d o k h) k
      (iterator_at (the_iterator f held is_d o k h).0 before r))
      → IsIteratorOf f (iterator_at (the_iterator f held is_d o k h).0 before r)
      → effect (with_own f.names f.trees tables held o (there_iter f held is_d o k h) (tables.each o)) c
      ≡ Effect.tables (with_own f.names f.trees tables held o (there_iter f held is_d o k h) (with_iterator f.names f.trees tables held o
      (there_iter f held is_d o k h) k (iterator_at (the_iterator f held is_d o k h).0 before r))) []
      (node_or_null (option_map (name_at f.names) r))
      → Moves f tables d o each c r
  iter_moves h before c state kept does =
      let there = there_iter f held is_d o k h in
      let item = the_iterator f held is_d o k h in
      let w = with_iterator f.names f.trees tables held o there k (iterator_at item.0 before r) in
      record {
        held = held_written f held is_d o there each w state (iter_moved f held is_d o k item.0 before r item.1 kept);
        names = ap (λ (e : DocState). e.names) is_d;
        node = λ j e. name_known f held is_d o j (subst (λ q. IsIteratorOf f (iterator_at item.0 before q)) e kept).reference.node;
        world = writes f held is_d o there each w state (λ ns. c) (λ ns. node_or_null (option_map (name_at ns) r)) does;
      }

  pub walk_moves : (h : is_some (slice_get (part_of d.world o).walkers k) ≡ true) (m : Move)
      → each ≡ with_cursors tables.each o (with_walker f.names f.trees tables held o (there_walk f held is_d o k h) k
      (walker_at (the_walker f held is_d o k h).0 r))
      → IsWalkerOf f (walker_at (the_walker f held is_d o k h).0 r)
      → option_map (name_at f.names) r ≡ walker_move f.trees (walker_view f.names (the_walker f held is_d o k h).0) m
      → Moves f tables d o each (Command.walk k m) r
  walk_moves h m state kept value =
      let there = there_walk f held is_d o k h in
      let item = the_walker f held is_d o k h in
      let w = with_walker f.names f.trees tables held o there k (walker_at item.0 r) in
      record {
        held = held_written f held is_d o there each w state
            (walk_moved f held is_d o k item.0 (walker_at item.0 r) item.1
            (walk_stays held.owned ((held.own o).walkers k item.0 item.1) m r value kept));
        names = ap (λ (e : DocState). e.names) is_d;
        node = λ j e. name_known f held is_d o j (subst (λ q. IsWalkerOf f (walker_at item.0 q)) e kept).current;
        world = writes f held is_d o there each w state (λ ns. Command.walk k m) (λ ns. node_or_null (option_map (name_at ns) r))
            (walk_effect f.names f.trees tables held o there k item.0 m r item.1 value);
      }

-- ---- cursors that are made

-- an owner's cursors with an iterator more, and with a walker more
abbrev pub one_iterator : KeyedTables → ℕ → Filter → KeyedTables
one_iterator t root filter = record t { iterators = t.iterators ++ record { root = root; reference = root; before = true; filter = filter } ∷ [] }

abbrev pub one_walker : KeyedTables → ℕ → Filter → KeyedTables
one_walker t root filter = record t { walkers = t.walkers ++ record { root = root; current = root; filter = filter } ∷ [] }

module _ (f : NamedTrees) {tables : AllTables} (held : IsDoc f.names f.trees tables) {d : DocState}
    (is_d : state_from f.names f.trees tables ≡ d) (o : Owner) where
  full : (n m : ℕ) → m ≡ n → n ≤ 1000000 → {P : Type 0} → (P ↔ (n ≡ 1000000)) → P ↔ (past_limit m 1 ≡ true)
  full n m same few limit = let both = limit_count n m same few in (λ p. both.0 (limit.0 p), λ e. limit.1 (both.1 e))

  pub iter_limit : {P : Type 0} → (P ↔ (length (tables.each o).iterators ≡ 1000000)) → P ↔ (past_limit (length (part_of d.world o).iterators) 1 ≡ true)
  iter_limit {P} limit =
      subst (λ (e : DocState). P ↔ (past_limit (length (part_of e.world o).iterators) 1 ≡ true)) is_d
      (full (length (tables.each o).iterators) (length (part_of (world_from f.names f.trees tables) o).iterators)
      (ap (length {A = Iterator}) (iterators_in f.names f.trees tables held o) ∙ length-map (tables.each o).iterators (iterator_view f.names))
      (held.own o).few_iterators limit)

  pub walk_limit : {P : Type 0} → (P ↔ (length (tables.each o).walkers ≡ 1000000)) → P ↔ (past_limit (length (part_of d.world o).walkers) 1 ≡ true)
  walk_limit {P} limit =
      subst (λ (e : DocState). P ↔ (past_limit (length (part_of e.world o).walkers) 1 ≡ true)) is_d
      (full (length (tables.each o).walkers) (length (part_of (world_from f.names f.trees tables) o).walkers)
      (ap (length {A = Walker}) (walkers_in f.names f.trees tables held o) ∙ length-map (tables.each o).walkers (walker_view f.names))
      (held.own o).few_walkers limit)

  -- where none is made the state stays
  pub none_made : (each : Owner → KeyedTables) (r : Result ℕ Fault) → OnErr r (each ≡ tables.each) →
      OnErr r (state_from f.names f.trees (record tables { each = each }) ≡ d)
  none_made each r same = on_err_weaker r (λ e. ap (λ (x : Owner → KeyedTables). state_from f.names f.trees (record tables { each = x })) e ∙ is_d) same

  module _ (root : ℕ) (filter : Filter) (is_node : root < length d.names) (is_own : owner_in d root ≡ o) where
    node : root < length f.names
    node = subst (λ (e : DocState). root < length e.names) (sym is_d) is_node

    own_root : (name_at f.names root).owner ≡ o
    own_root = subst (λ (e : DocState). owner_in e root ≡ o) (sym is_d) is_own

    there : is_there (world_from f.names f.trees tables) o ≡ true
    there = subst (λ p. is_there (world_from f.names f.trees tables) p ≡ true) own_root (held.present root node)

    pub iter_made : StandOnce f → (each : Owner → KeyedTables) {r : Result ℕ Fault} →
        OnOk r (each ≡ with_cursors tables.each o (one_iterator (tables.each o) root filter))
        → ((r ≡ Err (Refused Limit)) ↔ (length (tables.each o).iterators ≡ 1000000))
        → OnErr r (each ≡ tables.each) → IsDoc f.names f.trees (record tables { each = each })
    iter_made once each {r = Ok n} is limit same =
        held_written f held is_d o there each
        (one_iterator (tables.each o) root filter) is
        (iter_pushed f held is_d o (record { root = root; reference = root; before = true; filter = filter })
        (record {
          stands = record {
            root = node;
            reference = record { node = node; within = above-itself f.trees (name_at f.names root) (once root node) };
          };
          own = own_root;
        })
        (λ e. let h = limit.1 e in cc))
    iter_made once each {r = Err e} is limit same = subst (λ (x : Owner → KeyedTables). IsDoc f.names f.trees (record tables { each = x })) (sym same) held

    pub walk_made : (each : Owner → KeyedTables) (r : Result ℕ Fault) →
        OnOk r (each ≡ with_cursors tables.each o (one_walker (tables.each o) root filter))
        → ((r ≡ Err (Refused Limit)) ↔ (length (tables.each o).walkers ≡ 1000000))
        → OnErr r (each ≡ tables.each) → IsDoc f.names f.trees (record tables { each = each })
    walk_made each (Ok n) is limit same =
        held_written f held is_d o there each
        (one_walker (tables.each o) root filter) is
        (walk_pushed f held is_d o (record { root = root; current = root; filter = filter })
        (record { stands = record { root = node; current = node }; own = own_root; own_current = own_root })
        (λ e. let h = limit.1 e in cc))
    walk_made each (Err e) is limit same = subst (λ (x : Owner → KeyedTables). IsDoc f.names f.trees (record tables { each = x })) (sym same) held

    -- what was made is what the command makes
    module _ (each : Owner → KeyedTables) (w : KeyedTables) (n : ℕ) where
      made_writes : (r : Result ℕ Fault) (c : List NodeName → Command) (v : ℕ → Value)
          → effect (with_own f.names f.trees tables held o there (tables.each o)) (c f.names)
          ≡ Effect.tables (with_own f.names f.trees tables held o there w) [] (v n) → OnOk r (each ≡ with_cursors tables.each o w) →
          IfOk r (λ m. m ≡ n) → IfOk r (λ m. Makes o (c d.names) (v m) d.world (world_from f.names f.trees (record tables { each = each })))
      made_writes (Ok m) c v does is number =
          subst (λ k. Makes o (c d.names) (v k) d.world (world_from f.names f.trees (record tables { each = each }))) (sym number)
          (writes f held is_d o there each w is c (λ ns. v n) does)
      made_writes (Err e) c v does is number = tt

    pub iter_made_writes : (each : Owner → KeyedTables) (r : Result ℕ Fault) →
        OnOk r (each ≡ with_cursors tables.each o (one_iterator (tables.each o) root filter)) →
        IfOk r (λ n. n ≡ length (tables.each o).iterators)
        → IfOk r (λ n. Makes o (Command.iterator_new (own (name_at d.names root).number) filter) (an_iterator n) d.world
        (world_from f.names f.trees (record tables { each = each })))
    iter_made_writes each r =
        made_writes each (one_iterator (tables.each o) root filter) (length (tables.each o).iterators) r
        (λ ns. Command.iterator_new (own (name_at ns root).number) filter) an_iterator
        (iterator_effect_new f.names f.trees tables held o there root filter own_root)

    pub walk_made_writes : (each : Owner → KeyedTables) (r : Result ℕ Fault) →
        OnOk r (each ≡ with_cursors tables.each o (one_walker (tables.each o) root filter)) →
        IfOk r (λ n. n ≡ length (tables.each o).walkers)
        → IfOk r (λ n. Makes o (Command.walker_new (own (name_at d.names root).number) filter) (a_walker n) d.world
        (world_from f.names f.trees (record tables { each = each })))
    walk_made_writes each r =
        made_writes each (one_walker (tables.each o) root filter) (length (tables.each o).walkers) r
        (λ ns. Command.walker_new (own (name_at ns root).number) filter) a_walker
        (walker_effect_new f.names f.trees tables held o there root filter own_root)
