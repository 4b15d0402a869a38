-- What the caller of a `Doc` has in hand is still there after a call.
use Rattle.std.proofs.Common.{◌≡◌, ◌<◌, ℕ, true, List, [], ◌++◌, length, Option, Some, None, is_some, refl, ap, sym, subst, ◌∙◌, true≢false, append-nil}
use Rattle.dom_base.specs.declared.Kind.TheVariants.{Text}
use Rattle.dom_base.specs.declared.NodeName.{NodeName}
use Rattle.dom_base.specs.declared.Owner.{Owner}
use Rattle.dom_callers.specs.Editing.{IsNodeOf, IsTextOf, IsRangeOf}
use Rattle.dom_model.specs.Changes.{Plan}
use Rattle.dom_model.specs.Tree.{kind_of}
use Rattle.dom_mutation.specs.Definitions.{DocState, made, name_in, owner_in, trees_in, HasNodes, HasStillAll}

-- an option that has a value is that value
pub the_value : {X : Type 0} (o : Option X) → is_some o ≡ true → (x : X) × (o ≡ Some x)
the_value None is = absurd (true≢false (sym is))
the_value (Some x) is = (x, refl)

pub node-still : {d e : DocState} {o : Owner} {k : ℕ} → HasStillAll d e → IsNodeOf d o k → IsNodeOf e o k
node-still {k = k} s n = record { node = s.nodes.nodes k n.node; owner = ap (λ (x : NodeName). x.owner) (s.nodes.names k n.node) ∙ n.owner }

pub text-still : {d e : DocState} {o : Owner} {k : ℕ} → HasStillAll d e → IsTextOf d o k → IsTextOf e o k
text-still {k = k} s t = record { node = node-still s t.node; kind = s.nodes.kinds k t.node.node ∙ t.kind }

pub range-still : {d e : DocState} (o : Owner) (number : ℕ) → HasStillAll d e → IsRangeOf d o number → IsRangeOf e o number
range-still o number s r = (s.tables o).ranges number r

-- a Text that a call made has the next key
pub text-new : {o : Owner} {k n : ℕ} (e : DocState) → k ≡ n → n < length e.names → owner_in e n ≡ o → kind_of (trees_in e n) (name_in e n) ≡ Text →
    IsTextOf e o k
text-new {o = o} e same there owner kind =
    subst (IsTextOf e o) (sym same) (record { node = record { node = there; owner = owner }; kind = kind })

-- a plan was made for an owner, and no node
pub record MakesNoNode (was now : DocState) (o : Owner) (plan : Plan) : Type 0 where
  pub before : HasNodes was
  pub after : HasNodes now
  pub names : now.names ≡ was.names
  pub world : now.world ≡ made o plan was.world

-- The law's clause on plans, where no node is made.
pub still-same : ((was now : DocState) (o : Owner) (plan : Plan) (more : List NodeName) → HasNodes was → HasNodes now → now.names ≡ was.names ++ more →
    now.world ≡ made o plan was.world → HasStillAll was now) →
    (was now : DocState) (o : Owner) (plan : Plan) → MakesNoNode was now o plan → HasStillAll was now
still-same law was now o plan m = law was now o plan [] m.before m.after (m.names ∙ sym (append-nil was.names)) m.world
