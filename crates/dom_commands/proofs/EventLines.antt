-- The lines of a dispatch name nodes, and are printed by names.
use Rattle.dom_commands.proofs.Cited.{◌≡◌, ℕ, ◌<◌, Bool, true, false, List, [], ◌∷◌, ◌++◌, filter, fold, length, map, reverse, arith, refl, ap, nat_eq, ◌||◌}
use Rattle.dom_commands.proofs.Cited.{All, AllByRecursion, All-cons, ForSome, all-append, all-filter, all-map, all-reverse, all-then, either_way, ShowsNodes}
use Rattle.dom_commands.proofs.Cited.{LogLine, line_in, line_named, NamesNodes, line_shown}
use Rattle.dom_model.proofs.Model.{Action, Log, NodeName, EventWords, visit_of, visits_of, is_at_target, event_output, Listener, Visit, Dispatching}
use Rattle.dom_model.proofs.Model.{after_action, may_cancel, line_of, kept_after, after_inner_invoke, hears, after_invoke, begun, Output, View}

-- what holds of each item
pub every : {X : Type 0} (P : X → Type 0) (xs : List X) → AllByRecursion P xs → All P xs
every P [] h = λ k d within. absurd (omega arith)
every P (x ∷ xs) h = All-cons P x xs h.0 (every P xs h.1)

module _ (names : List NodeName) (e : EventWords) where
  -- what a visit shows are nodes
  record VisitsNodes (v : Visit ℕ) : Type 0 where
    target : v.target < length names
    current : v.current < length names
    related : ForSome v.related (λ k. k < length names)
    path : All (λ k. k < length names) v.path

  visit-nodes : (capturing : Bool) (v : View ℕ) → ShowsNodes names v → VisitsNodes (visit_of nat_eq capturing v)
  visit-nodes capturing v h = record { target = h.target; current = h.node; related = h.related; path = every (λ k. k < length names) v.path h.path }

  visits-nodes : (bubbles : Bool) (vs : List (View ℕ)) → AllByRecursion (ShowsNodes names) vs → AllByRecursion VisitsNodes (visits_of nat_eq bubbles vs)
  visits-nodes bubbles vs h =
      let shows = ShowsNodes names in
      let up = filter (λ v. bubbles || is_at_target nat_eq v) vs in
      all-append VisitsNodes (map (visit_of nat_eq true) (reverse vs)) (map (visit_of nat_eq false) up)
      (all-map VisitsNodes (visit_of nat_eq true) (reverse vs)
      (all-then shows (λ v. VisitsNodes (visit_of nat_eq true v)) (visit-nodes true) (reverse vs) (all-reverse shows vs h)))
      (all-map VisitsNodes (visit_of nat_eq false) up
      (all-then shows (λ v. VisitsNodes (visit_of nat_eq false v)) (visit-nodes false) up
      (all-filter shows (λ v. bubbles || is_at_target nat_eq v) vs h)))

  action-lines : (a : Action) (cancels : Bool) (d : Dispatching ℕ) → AllByRecursion (NamesNodes names) d.lines →
      AllByRecursion (NamesNodes names) (after_action a cancels d).lines
  action-lines Log cancels d h = h
  action-lines a cancels d h = h

  called-lines : (v : Visit ℕ) → VisitsNodes v → (d : Dispatching ℕ) (l : Listener ℕ) → AllByRecursion (NamesNodes names) d.lines →
      AllByRecursion (NamesNodes names) (after_inner_invoke nat_eq e v d l).lines
  called-lines v at d l h =
      let lines = d.lines ++ line_of v l.words ∷ [] in
      let next : Dispatching ℕ = record d { listeners = kept_after nat_eq l d.listeners; lines = lines } in
      let more = all-append (NamesNodes names) d.lines (line_of v l.words ∷ []) h
      (record { target = at.target; current = at.current; related = at.related; path = at.path }, tt) in
      either_way (λ (s : Dispatching ℕ). AllByRecursion (NamesNodes names) s.lines) d.stopped_now d
      (after_action l.words.action (may_cancel e l.words) next) h (action-lines l.words.action (may_cancel e l.words) next more)

  calls-lines : (v : Visit ℕ) → VisitsNodes v → (ls : List (Listener ℕ)) (d : Dispatching ℕ) → AllByRecursion (NamesNodes names) d.lines →
      AllByRecursion (NamesNodes names) (fold (after_inner_invoke nat_eq e v) d ls).lines
  calls-lines v at [] d h = h
  calls-lines v at (l ∷ ls) d h = calls-lines v at ls (after_inner_invoke nat_eq e v d l) (called-lines v at d l h)

  visits-lines : (vs : List (Visit ℕ)) → AllByRecursion VisitsNodes vs → (d : Dispatching ℕ) → AllByRecursion (NamesNodes names) d.lines →
      AllByRecursion (NamesNodes names) (fold (after_invoke nat_eq e) d vs).lines
  visits-lines [] at d h = h
  visits-lines (v ∷ vs) at d h =
      let hearing = filter (hears nat_eq e v) d.listeners in
      visits-lines vs at.1 (after_invoke nat_eq e d v)
      (either_way (λ (s : Dispatching ℕ). AllByRecursion (NamesNodes names) s.lines) d.stopped d (fold (after_inner_invoke nat_eq e v) d hearing) h
      (calls-lines v at.0 hearing d h))

  -- the lines of a dispatch along what a path shows
  pub dispatch-lines : (ls : List (Listener ℕ)) (shown : List (View ℕ)) → AllByRecursion (ShowsNodes names) shown →
      AllByRecursion (NamesNodes names) (fold (after_invoke nat_eq e) (begun ls) (visits_of nat_eq e.bubbles shown)).lines
  dispatch-lines ls shown at = visits-lines (visits_of nat_eq e.bubbles shown) (visits-nodes e.bubbles shown at) (begun ls) tt

-- the lines of an outcome are those of keys
pub line_nodes : (names : List NodeName) (ls : List LogLine) → AllByRecursion (NamesNodes names) (map line_in ls) →
    AllByRecursion (λ l. NamesNodes names (line_in l)) ls
line_nodes names [] h = tt
line_nodes names (l ∷ ls) h = (h.0, line_nodes names ls h.1)

-- and are printed by names
pub lines_shown : (names : List NodeName) (ls : List LogLine) → map (line_shown names) ls ≡ map event_output (map (line_named names) (map line_in ls))
lines_shown names [] = refl
lines_shown names (l ∷ ls) = ap (λ (os : List Output). line_shown names l ∷ os) (lines_shown names ls)
