-- Rules of plans where something is asked of a few steps alone.
use Rattle.dom_base.proofs.Std.{ℕ, List, Option, AllByRecursion, ⊤}
use Rattle.dom_model.proofs.Model.{NodeName, Word, DomString, Node, node_in, children_of, with_name, Change, child_list, character_data, Part, next_name, Range}
use Rattle.dom_model.proofs.Model.{Step, part_step, new_text_node, pieces_of, clone_part, new_fragment_node}
use Rattle.dom_worlds.proofs.PartSteps.{Asked}
use Rattle.dom_worlds.proofs.Plans.{AllWhole, IsKept}

-- What is asked where the steps are those of which `Asked` asks something: of the nodes that plans make and clone, and of what they record.
pub record AreRules (Inv : Part → Type 0) (Makes : Node → Type 0) (MayPlace : NodeName → Type 0) (Sets : Word → Type 0) (Tells : Change NodeName → Type 0)
    : Type 0 where
  pub step : (p : Part) (s : Step) → Inv p → Asked Makes MayPlace Sets Tells s → Inv (part_step p s)
  pub children_told : (x : NodeName) (added removed : List NodeName) (previous next : Option NodeName) → Tells (child_list x added removed previous next)
  pub data_told : (x : NodeName) (old : Option DomString) → Tells (character_data x old)
  pub new_text : (x : NodeName) (d : Option NodeName) (text : DomString) → Makes (new_text_node x d text)
  pub new_fragment : (x : NodeName) (d : Option NodeName) → Makes (new_fragment_node x d)
  pub clone : (p : Part) (x y : NodeName) → Inv p → MayPlace x → Makes (with_name y (node_in p.trees x))
  pub clone_part : (p : Part) (x y : NodeName) (from to : ℕ) → Inv p → MayPlace x → Makes (clone_part y from to (node_in p.trees x))
  pub new_node : (p : Part) → Inv p → MayPlace (next_name p)
  pub children : (p : Part) → Inv p → (x : NodeName) → AllByRecursion MayPlace (children_of p.trees x)
  pub wholes : (p : Part) → Inv p → (range : Range NodeName) → AllWhole MayPlace (pieces_of p.trees range)

-- other steps of plans are free
pub rules-kept : {Inv : Part → Type 0} {Makes : Node → Type 0} {MayPlace : NodeName → Type 0} {Sets : Word → Type 0} {Tells : Change NodeName → Type 0} →
    AreRules Inv Makes MayPlace Sets Tells → IsKept Inv (Asked Makes MayPlace Sets Tells) MayPlace (λ x. ⊤)
rules-kept r =
    record {
      moves = record {
        step = r.step;
        placing = λ x parent before h. h;
        making_room = λ parent index count. tt;
        taking_out = λ x. tt;
        document = λ x d h. tt;
        placed_set = λ x h. tt;
        children_told = r.children_told;
        children = r.children;
      };
      data_replaced = λ x offset count new. tt;
      split = λ x offset new parent index. tt;
      join = λ x size next parent index. tt;
      range = λ k range. tt;
      data_told = r.data_told;
      new_text = r.new_text;
      new_fragment = r.new_fragment;
      clone = r.clone;
      clone_part = r.clone_part;
      new_node = r.new_node;
      wholes = r.wholes;
    }
