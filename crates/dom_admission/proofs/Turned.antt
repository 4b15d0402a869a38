-- Steps do in a world with an open turn what they do in the world alone.
use Rattle.dom_admission.proofs.Cited.{◌≡◌, ℕ, zero, suc, Bool, true, false, List, [], ◌∷◌, Option, Some, None, fold, flat_map, filter_map, refl, ap, ◌∙◌}
use Rattle.dom_admission.proofs.Cited.{with_turn}
use Rattle.dom_model.proofs.Model.{Owner, NodeName, max_depth, parent_of, inclusive_descendants, Step, place, take_out, set_document, set_attribute}
use Rattle.dom_model.proofs.Model.{queue_record, is_taken, signals, with_signal, World, part_of, component_at, components_below, shadow_root_of}
use Rattle.dom_model.proofs.Model.{trees_with, world_step, world_after, stepped, with_removal_signals, with_notify_if, with_shadow_document}

module _ (t : Option Owner) where
  signals_turned : (w : World) (ss : List NodeName) → fold with_signal (with_turn t w) ss ≡ with_turn t (fold with_signal w ss)
  signals_turned w [] = refl
  signals_turned w (s ∷ ss) = signals_turned (with_signal w s) ss

  documents_turned : (d : NodeName) (w : World) (cs : List Owner) →
      fold (with_shadow_document d) (with_turn t w) cs ≡ with_turn t (fold (with_shadow_document d) w cs)
  documents_turned d w [] = refl
  documents_turned d w (c ∷ cs) = documents_turned d (with_shadow_document d w c) cs

  components_turned : (depth : ℕ) (w : World) (x : NodeName) → components_below depth (with_turn t w) x ≡ components_below depth w x
  components_turned zero w x = refl
  components_turned (suc depth) w x =
      λ j. flat_map (λ c. c ∷ components_turned depth w (shadow_root_of c) j) (filter_map (component_at w) (inclusive_descendants (trees_with w x) x))

  removal_turned : (was now : World) (x : NodeName) (parent : Option NodeName) →
      with_removal_signals (with_turn t was) (with_turn t now) x parent ≡ with_turn t (with_removal_signals was now x parent)
  removal_turned was now x None = refl
  removal_turned was now x (Some parent) = signals_turned now (signals was now x parent true)

  notify_turned : (b : Bool) (o : Owner) (w : World) → with_notify_if b o (with_turn t w) ≡ with_turn t (with_notify_if b o w)
  notify_turned true o w = refl
  notify_turned false o w = refl

  step_turned : (o : Owner) (w : World) (s : Step) → world_step o (with_turn t w) s ≡ with_turn t (world_step o w s)
  step_turned o w (place x parent before) = signals_turned (stepped o w (place x parent before)) (signals w (stepped o w (place x parent before)) x parent true)
  step_turned o w (take_out x) = removal_turned w (stepped o w (take_out x)) x (parent_of (part_of w o).trees x)
  step_turned o w (set_document x d) =
      ap (fold (with_shadow_document d) (with_turn t (stepped o w (set_document x d)))) (components_turned max_depth w x)
      ∙ documents_turned d (stepped o w (set_document x d)) (components_below max_depth w x)
  step_turned o w (set_attribute x a v) = signals_turned (stepped o w (set_attribute x a v)) (signals w (stepped o w (set_attribute x a v)) x x false)
  step_turned o w (queue_record c) = notify_turned (is_taken (part_of w o) c) o (stepped o w (queue_record c))
  step_turned o w s = refl

  -- the steps of an owner
  pub after_turned : (o : Owner) (w : World) (steps : List Step) → world_after o (with_turn t w) steps ≡ with_turn t (world_after o w steps)
  after_turned o w [] = refl
  after_turned o w (s ∷ steps) = ap (λ (v : World). world_after o v steps) (step_turned o w s) ∙ after_turned o (world_step o w s) steps
