-- Plans made one after another in a world, by an owner whose own steps do in its part what they do in a part alone.
use Rattle.dom_mutation.proofs.Cited.{◌≡◌, List, ◌∷◌, ◌++◌, sym, ap, subst, ◌∙◌, AllByRecursion, Owner, Step, after, Part, World, part_of, world_after, Plan}
use Rattle.dom_mutation.proofs.Cited.{◌and_then◌, in_turn, owner-part_of, AreOf, DocState, made, planned, SetsOwnDocuments, IsOwnPart, PlansOwn, IsAlone}
use Rattle.dom_mutation.proofs.Cited.{after-append}
use Rattle.dom_mutation.proofs.OwnSteps.{after_more, made_then_alone}
use Rattle.dom_mutation.proofs.OwnPlans.{own_moves}
use Rattle.dom_worlds.proofs.ListLemmas.{all-append}
use Rattle.dom_worlds.proofs.PlanLemmas.{kept-after}

abbrev state_with : DocState → World → DocState
state_with d w = record d { world = w }

module _ (o : Owner) where
  own_part : (w : World) → IsAlone w o → IsOwnPart o (part_of w o)
  own_part w alone = record { owner = owner-part_of w o; own = alone.own }

  -- after own steps it is so still
  pub alone_after : (steps : List Step) (w : World) → IsAlone w o → AllByRecursion (SetsOwnDocuments o) steps → IsAlone (world_after o w steps) o
  alone_after steps w alone own =
      let is = alone.steps steps own in
      record {
        own = subst (λ (p : Part). AreOf o p.trees) (sym is) (kept-after (own_moves o) (part_of w o) steps (own_part w alone) own).own;
        steps = λ more h.
            ap (λ v. part_of v o) (sym (after_more o w steps more))
            ∙ (alone.steps (steps ++ more) (all-append (SetsOwnDocuments o) steps more own h)
            ∙ (after-append (part_of w o) steps more ∙ ap (λ p. after p more) (sym is)));
      }

  -- a plan
  pub plan_alone : (f : Plan) (w : World) → IsAlone w o → PlansOwn o f → part_of (made o f w) o ≡ after (part_of w o) (f (part_of w o))
  plan_alone f w alone own = alone.steps (f (part_of w o)) (own (part_of w o) (own_part w alone))

  -- after it
  pub alone_made : (f : Plan) (w : World) → IsAlone w o → PlansOwn o f → IsAlone (made o f w) o
  alone_made f w alone own = alone_after (f (part_of w o)) w alone (own (part_of w o) (own_part w alone))

  -- one plan and then another
  pub made_then : (f g : Plan) (w : World) → IsAlone w o → PlansOwn o f → made o (f and_then g) w ≡ made o g (made o f w)
  made_then f g w alone own = made_then_alone o f g w (plan_alone f w alone own)

  -- a plan for each item
  pub made_turn : {A : Type 0} (f : A → Plan) (x : A) (xs : List A) (w : World) → IsAlone w o → PlansOwn o (f x) →
      made o (in_turn f (x ∷ xs)) w ≡ made o (in_turn f xs) (made o (f x) w)
  made_turn f x xs w alone own = made_then (f x) (in_turn f xs) w alone own

  -- a plan behind another one, on states
  pub planned_then : (f g : Plan) (d : DocState) → IsAlone d.world o → PlansOwn o f → planned o g (planned o f d) ≡ planned o (f and_then g) d
  planned_then f g d alone own = ap (λ w. state_with d w) (sym (made_then f g d.world alone own))

  pub planned_turn : {A : Type 0} (f : A → Plan) (x : A) (xs : List A) (d : DocState) → IsAlone d.world o → PlansOwn o (f x) →
      planned o (in_turn f xs) (planned o (f x) d) ≡ planned o (in_turn f (x ∷ xs)) d
  planned_turn f x xs d alone own = ap (λ w. state_with d w) (sym (made_turn f x xs d.world alone own))

  -- the trees after a plan
  pub trees_after : (f : Plan) (d : DocState) → IsAlone d.world o → PlansOwn o f →
      (part_of (planned o f d).world o).trees ≡ (after (part_of d.world o) (f (part_of d.world o))).trees
  trees_after f d alone own = ap (λ (p : Part). p.trees) (plan_alone f d.world alone own)
