use Rattle.dom_range_ops.proofs.Cited.{◌≡◌, ◌<◌, ℕ, List, length, Option, option_map, refl, sym, ap, subst, ◌∙◌, slice_get, ForSome}
use Rattle.dom_range_ops.proofs.Cited.{NodeName, Owner, children_of, part_of, owner-part_of, IsPart, children-childs, child-parent, child-there_in}
use Rattle.dom_range_ops.proofs.Cited.{IfSome, all-get, DocState, name_in, owner_in, trees_in, IsChild, read_own, NamedTrees, name_at, AreOwned, trees_of_owner}
use Rattle.dom_worlds.proofs.TreeLemmas.{IsChild as IsBelow}
use Rattle.dom_range_ops.proofs.inserting.nth_child.Goals as goal

module _ (d : DocState) (f : NamedTrees) (names : f.names ≡ d.names) (trees : (o : Owner) → trees_of_owner o f.trees ≡ (part_of d.world o).trees)
    (owned : AreOwned f.trees) (node index : ℕ) (child : Option ℕ)
    (found : option_map (name_at f.names) child ≡ slice_get (children_of f.trees (name_at f.names node)) index) where
  abbrev o : Owner
  o = owner_in d node

  abbrev x : NodeName
  x = name_in d node

  -- it is the one in the owner's trees
  nth-value : option_map (name_in d) child ≡ slice_get (children_of (trees_in d node) (name_in d node)) index
  nth-value =
      subst (λ (ns : List NodeName). option_map (name_at ns) child ≡ slice_get (children_of f.trees (name_at ns node)) index) names found
      ∙ ap (λ xs. slice_get xs index) ((read_own f.trees owned o x refl).children ∙ ap (λ us. children_of us x) (trees o))

  -- and a child
  nth-child : IsPart (part_of d.world (owner_in d node)) → ForSome child (λ k. k < length f.names) → ForSome child (IsChild d node)
  nth-child part key b is =
      let p = part_of d.world o in
      let below : IsBelow (name_in d b) x p =
      subst (IfSome (λ z. IsBelow z x p)) (sym nth-value ∙ ap (option_map (name_in d)) is)
      (all-get (λ z. IsBelow z x p) (children_of p.trees x) index (children-childs p.trees x)) in
      record {
        node = subst (λ (ns : List NodeName). b < length ns) names (key b is);
        owner = part.owned (name_in d b) (child-there_in p (name_in d b) x part below) ∙ owner-part_of d.world o;
        child = child-parent p (name_in d b) x part below;
      }

pub returns-clause-value : goal.returns-clause-value
returns-clause-value c = nth-value c.args.doc.now c.forest.result.now c.forest.ensures.names c.forest.ensures.trees
    c.forest.ensures.owned c.args.node c.args.index c.child.result c.child.ensures.value

pub returns-clause-child : goal.returns-clause-child
returns-clause-child c =
    let d = c.args.doc.now in
    nth-child d c.forest.result.now c.forest.ensures.names c.forest.ensures.trees c.forest.ensures.owned c.args.node
    c.args.index c.child.result c.child.ensures.value (c.laws.ensures.parts (owner_in d c.args.node))
    c.child.ensures.node
