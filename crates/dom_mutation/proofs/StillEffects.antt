-- What a command that changes its owner's tables alone leaves there.
use Rattle.dom_mutation.proofs.Cited.{◌≡◌, ℕ, Bool, true, false, [], ◌∷◌, Option, Some, None, refl, slice_get, option_map, ⊤, option_map_or, NodeName, Command}
use Rattle.dom_mutation.proofs.Cited.{effect, named, Effect, tables, changes, answers, moves_iterator, sets_walker, node_or_null, with_range, collapsed_to}
use Rattle.dom_mutation.proofs.Cited.{both_at, Value, nothing, a_node, a_string, boundaries, reference, Part, first_node, range_at, range_text_of, Range, at}
use Rattle.dom_mutation.proofs.Cited.{with_start, with_end, Iterator, Walker, iterator_next_node, iterator_previous_node, moved_to, walker_move, HasStillTables}
use Rattle.dom_mutation.proofs.Cited.{DropsNone}
use Rattle.dom_mutation.proofs.StillParts.{tables-same, still-set, still-more, still-longer, still-mapped}

-- the trees stay, and all is there that was
pub record KeepsTables (p q : Part) : Type 0 where
  pub trees : q.trees ≡ p.trees
  pub tables : HasStillTables p q

-- of an effect
abbrev pub KeepsEffect : Part → Effect → Type 0
KeepsEffect p (tables q lines v) = KeepsTables p q
KeepsEffect p (changes steps v) = ⊤

module _ (p : Part) where
  -- nothing that is counted changes
  same : (q : Part) → q.trees ≡ p.trees → q.ranges ≡ p.ranges → q.iterators ≡ p.iterators → q.walkers ≡ p.walkers → q.record_queues ≡ p.record_queues →
      KeepsTables p q
  same q t r i w o = record { trees = t; tables = tables-same p q r i w o }

  -- of a thing that may not be there
  of-some : {X : Type 0} (o : Option X) (f : X → Effect) (d : Effect) → ((x : X) → KeepsEffect p (f x)) → KeepsEffect p d → KeepsEffect p (option_map_or f o d)
  of-some None f d h g = g
  of-some (Some x) f d h g = h x

  -- an iterator that moves, and a walker that is set
  iterator-moved : (k : ℕ) (before : Bool) (i : Iterator) (x : Option NodeName) → KeepsEffect p (moves_iterator p k before i x)
  iterator-moved k before i x =
      record {
        trees = refl;
        tables = record { ranges = λ j h. h; iterators = still-set p.iterators k (moved_to i before x); walkers = λ j h. h; observers = λ j h. h };
      }

  walker-set : (k : ℕ) (w : Walker) (o : Option NodeName) (v : Value) → KeepsEffect p (sets_walker p k w o v)
  walker-set k w None v = same p refl refl refl refl refl
  walker-set k w (Some x) v =
      record {
        trees = refl;
        tables = record { ranges = λ j h. h; iterators = λ j h. h; walkers = still-set p.walkers k (record w { current = x }); observers = λ j h. h };
      }

  -- a live range that gets other ends, if it is there
  range-changed : (k : ℕ) (f : Range NodeName → Range NodeName) → KeepsTables p (with_range p k (option_map f (range_at p k)))
  range-changed k f =
      record {
        trees = refl;
        tables = record { ranges = still-mapped p.ranges k f; iterators = λ j h. h; walkers = λ j h. h; observers = λ j h. h };
      }

  -- so does each command but the one that drops a live range
  pub effect-still : (c : Command) → DropsNone c → KeepsEffect p (effect p c)
  effect-still Command.range_new d =
      record {
        trees = refl;
        tables = record {
          ranges = still-longer p.ranges (Some (both_at (at (first_node p) 0)) ∷ []);
          iterators = λ j h. h;
          walkers = λ j h. h;
          observers = λ j h. h;
        };
      }
  effect-still (Command.range_start k x j) d = range-changed k (with_start p.trees (at (named p x) j))
  effect-still (Command.range_end k x j) d = range-changed k (with_end p.trees (at (named p x) j))
  effect-still (Command.range_collapse k b) d = range-changed k (collapsed_to b)
  effect-still (Command.range_drop k) d = absurd d
  effect-still (Command.range_get k) d =
      of-some (range_at p k) (λ (r : Range NodeName). answers p (boundaries r.start r.end)) (answers p nothing)
      (λ r. same p refl refl refl refl refl) (same p refl refl refl refl refl)
  effect-still (Command.range_text k) d =
      of-some (range_at p k) (λ (r : Range NodeName). answers p (a_string (range_text_of p.trees r))) (answers p nothing)
      (λ r. same p refl refl refl refl refl) (same p refl refl refl refl refl)
  effect-still (Command.iterator_new x f) d =
      record { trees = refl; tables = record { ranges = λ j h. h; iterators = still-more p.iterators _; walkers = λ j h. h; observers = λ j h. h } }
  effect-still (Command.walker_new x f) d =
      record { trees = refl; tables = record { ranges = λ j h. h; iterators = λ j h. h; walkers = still-more p.walkers _; observers = λ j h. h } }
  effect-still (Command.iterator_next k) d =
      of-some (slice_get p.iterators k) (λ i. moves_iterator p k false i (iterator_next_node p.trees i)) (answers p nothing)
      (λ i. iterator-moved k false i (iterator_next_node p.trees i)) (same p refl refl refl refl refl)
  effect-still (Command.iterator_previous k) d =
      of-some (slice_get p.iterators k) (λ i. moves_iterator p k true i (iterator_previous_node p.trees i)) (answers p nothing)
      (λ i. iterator-moved k true i (iterator_previous_node p.trees i)) (same p refl refl refl refl refl)
  effect-still (Command.iterator_at k) d =
      of-some (slice_get p.iterators k) (λ (i : Iterator). answers p (reference i.reference i.before)) (answers p nothing)
      (λ i. same p refl refl refl refl refl) (same p refl refl refl refl refl)
  effect-still (Command.walk k m) d =
      of-some (slice_get p.walkers k) (λ w. sets_walker p k w (walker_move p.trees w m) (node_or_null (walker_move p.trees w m)))
      (answers p nothing)
      (λ w. walker-set k w (walker_move p.trees w m) (node_or_null (walker_move p.trees w m))) (same p refl refl refl refl refl)
  effect-still (Command.walker_at k) d =
      of-some (slice_get p.walkers k) (λ (w : Walker). answers p (a_node w.current)) (answers p nothing)
      (λ w. same p refl refl refl refl refl) (same p refl refl refl refl refl)
  effect-still (Command.walker_set k x) d =
      of-some (slice_get p.walkers k) (λ w. sets_walker p k w (Some (named p x)) nothing) (answers p nothing)
      (λ w. walker-set k w (Some (named p x)) nothing) (same p refl refl refl refl refl)
  effect-still Command.observer d =
      record { trees = refl; tables = record { ranges = λ j h. h; iterators = λ j h. h; walkers = λ j h. h; observers = still-more p.record_queues _ } }
  effect-still (Command.disconnect k) d =
      record { trees = refl; tables = record { ranges = λ j h. h; iterators = λ j h. h; walkers = λ j h. h; observers = still-set p.record_queues k [] } }
  effect-still (Command.take k) d =
      record { trees = refl; tables = record { ranges = λ j h. h; iterators = λ j h. h; walkers = λ j h. h; observers = still-set p.record_queues k [] } }
  effect-still c d = search (same)
