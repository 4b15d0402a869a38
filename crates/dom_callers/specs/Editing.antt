-- What the caller of a `Doc` keeps in hand between its calls.
use Rattle.std.specs.Prelude.{◌≡◌, ℕ, ◌<◌, length, true, is_some}
use Rattle.std.specs.Option.{ForSome}
use Rattle.dom_base.specs.declared.Kind.TheVariants.{Text}
use Rattle.dom_base.specs.declared.Owner.{Owner}
use Rattle.dom_model.specs.Part.{range_at}
use Rattle.dom_model.specs.Tree.{kind_of}
use Rattle.dom_model.specs.World.{part_of}
use Rattle.dom_mutation.specs.Doc.{DocState, HoldsNode, name_in, owner_in, trees_in}
use Rattle.dom_tree.specs.declared.data.NodeData.{NodeData}

-- a node of an owner (own rule)
pub record IsNodeOf (d : DocState) (o : Owner) (k : ℕ) : Type 0 where
  pub node : k < length d.names
  pub owner : owner_in d k ≡ o

-- a Text of an owner (DOM Standard, interface Text)
pub record IsTextOf (d : DocState) (o : Owner) (k : ℕ) : Type 0 where
  pub node : IsNodeOf d o k
  pub kind : kind_of (trees_in d k) (name_in d k) ≡ Text

-- what may be added as a Text (own rule)
pub record IsTextToAdd (d : DocState) (n : NodeData) : Type 0 where
  pub kind : n.kind ≡ Text
  pub document : ForSome n.document (HoldsNode d)

-- a live range of an owner is there (own rule)
abbrev pub IsRangeOf : DocState → Owner → ℕ → Type 0
IsRangeOf d o number = is_some (range_at (part_of d.world o) number) ≡ true
