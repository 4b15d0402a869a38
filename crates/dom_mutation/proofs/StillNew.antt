-- What was made is there under the number that was answered.
use Rattle.dom_mutation.proofs.Cited.{◌≡◌, ℕ, true, List, [], ◌∷◌, ◌++◌, length, Option, Some, refl, subst, slice_get, is_some, option_flatten, NodeName, Owner}
use Rattle.dom_mutation.proofs.Cited.{Page, Command, Filter, NodeWord, named, Effect, tables, changes, new_iterator, new_walker, both_at, Value, a_range}
use Rattle.dom_mutation.proofs.Cited.{an_iterator, a_walker, an_observer, Part, empty_part, first_node, range_at, Range, at, World, part_of, Makes}

-- the part that an effect leaves, and the number that it answers
abbrev part_in : Effect → Part
part_in (tables q lines v) = q
part_in (changes steps v) = empty_part Page

abbrev number_of : Value → ℕ
number_of (a_range k) = k
number_of (an_iterator k) = k
number_of (a_walker k) = k
number_of (an_observer k) = k
number_of v = 0

abbrev answer_in : Effect → ℕ
answer_in (tables q lines v) = number_of v
answer_in (changes steps v) = 0

-- the last one of a list that got one more
pushed : {X : Type 0} (xs : List X) (x : X) → is_some (slice_get (xs ++ x ∷ []) (length xs)) ≡ true
pushed [] x = refl
pushed (y ∷ xs) x = pushed xs x

pushed-range : (rs : List (Option (Range NodeName))) (r : Range NodeName) → is_some (option_flatten (slice_get (rs ++ Some r ∷ []) (length rs))) ≡ true
pushed-range [] r = refl
pushed-range (x ∷ rs) r = pushed-range rs r

module _ (was now : World) (o : Owner) where
  -- A live range, an iterator, a walker and an observer.
  pub new-range : (number : ℕ) → Makes o Command.range_new (a_range number) was now → is_some (range_at (part_of now o) number) ≡ true
  new-range number m =
      let p = part_of was o in
      subst (λ (g : Effect). is_some (range_at (part_in g) (answer_in g)) ≡ true) m.0 (pushed-range p.ranges (both_at (at (first_node p) 0)))

  pub new-iterator : (x : NodeWord) (f : Filter) (number : ℕ) → Makes o (Command.iterator_new x f) (an_iterator number) was now →
      is_some (slice_get (part_of now o).iterators number) ≡ true
  new-iterator x f number m =
      let p = part_of was o in
      subst (λ (g : Effect). is_some (slice_get (part_in g).iterators (answer_in g)) ≡ true) m.0 (pushed p.iterators (new_iterator (named p x) f))

  pub new-walker : (x : NodeWord) (f : Filter) (number : ℕ) → Makes o (Command.walker_new x f) (a_walker number) was now →
      is_some (slice_get (part_of now o).walkers number) ≡ true
  new-walker x f number m =
      let p = part_of was o in
      subst (λ (g : Effect). is_some (slice_get (part_in g).walkers (answer_in g)) ≡ true) m.0 (pushed p.walkers (new_walker (named p x) f))

  pub new-observer : (number : ℕ) → Makes o Command.observer (an_observer number) was now → is_some (slice_get (part_of now o).record_queues number) ≡ true
  new-observer number m =
      let p = part_of was o in
      subst (λ (g : Effect). is_some (slice_get (part_in g).record_queues (answer_in g)) ≡ true) m.0 (pushed p.record_queues [])
