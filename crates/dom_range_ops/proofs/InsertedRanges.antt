-- A live range is there after any steps that it was there before, and a range's owner's nodes are few.
use Rattle.dom_range_ops.proofs.Cited.{◌≡◌, ◌≤◌, ◌<◌, ℕ, ◌+◌, true, false, List, length, is_some, sym, subst, arith, ltb-false, NodeName, Owner, Plan}
use Rattle.dom_range_ops.proofs.Cited.{past_limit, Part, range_at, Step, after, has_data, kind_of, length_of, World, part_of, IsPart, DocState, made, owner_in}
use Rattle.dom_range_ops.proofs.Cited.{PlansOwn, IsAlone, HasLaws, part-planned, KeepReady, keeps-steps, length_few, plan_alone}

-- after some steps
steps_there : (p : Part) (steps : List Step) (k : ℕ) → is_some (range_at p k) ≡ true → is_some (range_at (after p steps) k) ≡ true
steps_there p steps k h = (keeps-steps p steps).tables.ranges k h

-- The plan of an owner, by a key of one of its nodes.
module _ (d : DocState) (k : ℕ) (o : Owner) (plan : Plan) (now : World) (laws : HasLaws d) (there : k < length d.names) (own : owner_in d k ≡ o) where
  -- after a plan that keeps the owner's part ready
  pub range-there : now ≡ made o plan d.world → KeepReady (part_of d.world o) (plan (part_of d.world o)) → (j : ℕ) → is_some (range_at (part_of d.world o) j)
      ≡ true → is_some (range_at (part_of now o) j) ≡ true
  range-there e keep j h =
      subst (λ (p : Part). is_some (range_at p j) ≡ true) (sym (part-planned d k o plan now laws there own e keep.made))
      (steps_there (part_of d.world o) (plan (part_of d.world o)) j h)

-- after a plan of its owner
pub range-kept : {o : Owner} (f : Plan) {v w : World} → IsAlone v o → PlansOwn o f → w ≡ made o f v → (k : ℕ) →
    is_some (range_at (part_of v o) k) ≡ true → is_some (range_at (part_of w o) k) ≡ true
range-kept {o} f {v} alone own is k h =
    subst (λ (u : World). is_some (range_at (part_of u o) k) ≡ true) (sym is)
    (subst (λ (p : Part). is_some (range_at p k) ≡ true) (sym (plan_alone o f v alone own)) (steps_there (part_of v o) (f (part_of v o)) k h))

-- a node without data is no longer than its owner may have nodes
pub length-limited : (p : Part) → IsPart p → past_limit p.node_count 0 ≡ false → (x : NodeName) → has_data (kind_of p.trees x) ≡ false →
    length_of p.trees x ≤ 1000000
length-limited p part limited x plain = let few = length_few p part x plain in let most = ltb-false 1000000 (p.node_count + 0) limited in omega arith
