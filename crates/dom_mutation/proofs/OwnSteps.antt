-- An owner's steps do in its own part what they do in a part alone, where they set the node documents of its own nodes.
use Rattle.dom_mutation.proofs.Cited.{◌≡◌, List, [], ◌∷◌, ◌++◌, refl, sym, ap, ◌∙◌, AllByRecursion, NodeName, Owner, Trees, none, tree, Node, subtree}
use Rattle.dom_mutation.proofs.Cited.{Plan, ◌and_then◌, Part, Step, make, set_document, part_step, after, World, part_of, world_step, world_after}
use Rattle.dom_mutation.proofs.Cited.{owner-part_of, part_of-own_step, Ground, ground-world_step, part-own_step, AreOf, made, SetsOwnDocuments}
use Rattle.dom_worlds.proofs.TreeLemmas.{NewHas, nodes-step, nodes-subtree}
use Rattle.dom_worlds.specs.Definitions.{AllNodes}

-- ---- a step keeps nodes an owner's

module _ (o : Owner) where
  -- a node of the owner
  abbrev IsOwn : Node → Type 0
  IsOwn n = n.name.owner ≡ o

  pub own_each : (ts : Trees) → AreOf o ts → AllNodes IsOwn ts
  own_each none h = tt
  own_each (tree n c r) h = (h.0, own_each c h.1, own_each r h.2)

  each_own : (ts : Trees) → AllNodes IsOwn ts → AreOf o ts
  each_own none h = tt
  each_own (tree n c r) h = (h.0, each_own c h.1, each_own r h.2)

  pub own_subtree : (ts : Trees) (x : NodeName) → AreOf o ts → AreOf o (subtree ts x)
  own_subtree ts x h = each_own (subtree ts x) (nodes-subtree IsOwn ts x (own_each ts h))

  pub own_step : (p : Part) (s : Step) → p.owner ≡ o → AreOf o p.trees → AreOf o (part_step p s).trees
  own_step p s is own = each_own (part_step p s).trees
      (nodes-step IsOwn (λ n m e k i. ap (λ (x : NodeName). x.owner) e ∙ i) p s (own_each p.trees own) (new s))
    where
      new : (s : Step) → NewHas IsOwn p s
      new (make n) = is
      new s = tt

-- ---- the steps

-- a step does in its owner's part what it does in a part alone: the components below a node are deeper than its owner
pub step_alone : (o : Owner) (w : World) → Ground w → (s : Step) → SetsOwnDocuments o s → part_of (world_step o w s) o ≡ part_step (part_of w o) s
step_alone o w ground (set_document x d) h = part-own_step o w (set_document x d) ground (h ∙ sym (owner-part_of w o))
step_alone o w ground s h = part_of-own_step o w s tt

-- steps after others
pub after_more : (o : Owner) (w : World) (steps more : List Step) → world_after o w (steps ++ more) ≡ world_after o (world_after o w steps) more
after_more o w [] more = refl
after_more o w (s ∷ steps) more = after_more o (world_step o w s) steps more

-- many steps
pub steps_alone : (o : Owner) (steps : List Step) (w : World) → Ground w → AllByRecursion (SetsOwnDocuments o) steps →
    part_of (world_after o w steps) o ≡ after (part_of w o) steps
steps_alone o [] w ground h = refl
steps_alone o (s ∷ steps) w ground h = steps_alone o steps (world_step o w s) (ground-world_step o w s ground) h.1 ∙
    ap (λ p. after p steps) (step_alone o w ground s h.0)

-- one plan and then another, where the first one's steps do in the owner's part what they do in a part alone
pub made_then_alone : (o : Owner) (f g : Plan) (w : World) →
    part_of (world_after o w (f (part_of w o))) o ≡ after (part_of w o) (f (part_of w o)) → made o (f and_then g) w ≡ made o g (made o f w)
made_then_alone o f g w alone =
    let steps = f (part_of w o) in
    after_more o w steps (g (after (part_of w o) steps)) ∙ ap (λ p. world_after o (world_after o w steps) (g p)) (sym alone)
