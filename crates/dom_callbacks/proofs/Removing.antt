-- Listeners that are removed.
use Rattle.dom_base.proofs.Std.{◌≡◌, Bool, true, not, ◌&&◌, List, map, filter, length, length-map, refl, sym, ap, ◌∙◌}
use Rattle.dom_base.specs.declared.NodeName.{NodeName}
use Rattle.dom_model.specs.Command.{ListenerWords}
use Rattle.dom_model.specs.Names.{Word, name_eq}
use Rattle.dom_model.specs.Listeners.{Listener, is_listener, with_listener_removed}
use Rattle.dom_worlds.proofs.ListLemmas.{filter-map}
use Rattle.std.proofs.lemmas.List.Elements.{filter_agree}
use Rattle.dom_live.specs.Frames.{Visiting, without_call}
use Rattle.dom_callbacks.specs.Views.{is_of_words}

-- a listener of a node
abbrev at : NodeName → ListenerWords → Listener NodeName
at x w = record { node = x; words = w }

-- of one node's listeners those go that have the words
module _ {X : Type 0} (f : X → ListenerWords) (y x : NodeName) (event label : Word) (capture : Bool) where
  pub removed-at : name_eq y x ≡ true → (xs : List X) → map (λ w. at y (f w)) (filter (λ w. not (is_of_words event label capture (f w))) xs)
      ≡ with_listener_removed name_eq x event label capture (map (λ w. at y (f w)) xs)
  removed-at e xs =
      let test : Listener NodeName → Bool = λ l. not (is_listener name_eq x event label capture l) in
      sym (filter-map test (λ (w : X). at y (f w)) xs
      ∙ ap (map (λ (w : X). at y (f w))) (filter_agree (λ w. test (at y (f w))) (λ w. not (is_of_words event label capture (f w)))
      (λ w. ap (λ b. not (b && is_of_words event label capture (f w))) e) xs))

-- a visit without these calls
module _ (v : Visiting) (x : NodeName) (event label : Word) (capture : Bool) (calls : List (Listener NodeName)) where
  pub visit-without : name_eq v.visit.current x ≡ true → calls ≡ with_listener_removed name_eq x event label capture v.calls →
      record v { calls = calls } ≡ without_call x event label capture v
  visit-without e h = rw (e, h) refl

-- where the views are changed one by one, there are as many
pub as-many : {X Y : Type 0} (view : X → Y) (change : Y → Y) (xs ys : List X) → map view ys ≡ map change (map view xs) → length ys ≡ length xs
as-many view change xs ys e = sym (length-map ys view) ∙ ap length e ∙ length-map (map view xs) change ∙ length-map xs view
