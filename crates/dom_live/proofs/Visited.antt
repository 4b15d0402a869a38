-- Who is visited by an event is there.
use Rattle.dom_base.proofs.Std.{◌≡◌, true, List, [], ◌∷◌, fold, Option, sym, ap, ◌∙◌, subst, AllByRecursion, is_some}
use Rattle.dom_model.proofs.Model.{Owner, NodeName, World, Task, EventWords, Visit, View, views, visits_of, name_eq, world_visit, begun, part_of}
use Rattle.dom_model.proofs.Model.{is_there, find-put, owner-part_of}
use Rattle.dom_worlds.specs.Definitions.{IsWorld}
use Rattle.dom_worlds.proofs.ListLemmas.{all-then}
use Rattle.dom_worlds.proofs.OwnerLemmas.{people-dispatch, there-listed, has_owner}
use Rattle.dom_worlds.proofs.TurnLemmas.{InWorld, there-visits, with_listeners}
use Rattle.dom_live.proofs.Rested.{with_rest, views-rested}

-- the owner of a visited node is there
abbrev pub IsThereIn : World → Visit NodeName → Type 0
IsThereIn w v = is_there w v.current.owner ≡ true

-- at the end
visited-there : (e : EventWords) (vs : List (Visit NodeName)) (s : InWorld) → AllByRecursion (IsThereIn (fold (world_visit e) s vs).0) vs
visited-there e [] s = tt
visited-there e (v ∷ vs) s =
    let o = v.current.owner in
    let q = with_listeners (part_of s.0 o) (world_visit e s v).1.listeners in
    (there-visits e vs (world_visit e s v) o (ap is_some (find-put s.0.parts q o (owner-part_of s.0 o))), visited-there e vs (world_visit e s v))

module _ (w : World) (i : IsWorld w) where
  -- before
  visits-there : (x : NodeName) (r : Option NodeName) (e : EventWords) → AllByRecursion (IsThereIn w) (visits_of name_eq e.bubbles (views w x r e.composed))
  visits-there x r e =
      let vs = visits_of name_eq e.bubbles (views w x r e.composed) in
      let end = fold (world_visit e) (w, begun []) vs in
      all-then (IsThereIn end.0) (IsThereIn w)
      (λ v t. there-listed w.parts v.current.owner ∙ ap (λ os. has_owner os v.current.owner) (sym (people-dispatch w i x r e))
      ∙ sym (there-listed end.0.parts v.current.owner) ∙ t) vs (visited-there e vs (w, begun []))

  -- whatever tasks wait, and whosever turn is open
  pub there-rested : (ts : List Task) (t : Option Owner) (x : NodeName) (r : Option NodeName) (e : EventWords) →
      AllByRecursion (IsThereIn (with_rest w ts t)) (visits_of name_eq e.bubbles (views (with_rest w ts t) x r e.composed))
  there-rested ts t x r e =
      subst (λ (vs : List (View NodeName)). AllByRecursion (IsThereIn w) (visits_of name_eq e.bubbles vs)) (sym (views-rested w ts t x r e.composed))
      (visits-there x r e)
