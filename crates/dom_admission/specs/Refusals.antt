-- The refusals that come before those of a command's own: the tests in their order (own rules).
use Rattle.std.specs.Prelude.{◌≡◌, ℕ, Bool, true, false, not, ◌&&◌, ◌||◌, codes, List, [], ◌∷◌, slice_get, Option, Some, None, is_some}
use Rattle.std.specs.List.{list_any, list_all}
use Rattle.std.specs.Option.{ForSome, option_map_or}
use Rattle.dom_base.specs.declared.Owner.{Owner}
use Rattle.dom_base.specs.declared.NodeName.{NodeName}
use Rattle.dom_base.specs.declared.Kind.{Kind}
use Rattle.dom_base.specs.declared.Refusal.{Refusal}
use Rattle.dom_base.specs.declared.Refusal.TheVariants.{Busy, Foreign, Unknown, WrongKind}
use Rattle.dom_model.specs.Names.{Word, text_eq, node_of}
use Rattle.dom_model.specs.Tree.{Node, node_in, has_node, is_element, is_text, is_document, has_data}
use Rattle.dom_model.specs.Command.{NodeWord, own, foreign}
use Rattle.dom_model.specs.CommandNames.{named, is_foreign}
use Rattle.dom_model.specs.Part.{Part, range_at}
use Rattle.dom_model.specs.Validity.{first_refusal}
use Rattle.dom_model.specs.World.{World, part_of, is_there}
use Rattle.dom_model.specs.DocumentMachine.{is_busy}
use Rattle.dom_mutation.specs.Doc.{DocState, HoldsNode, name_in, trees_in}
use Rattle.dom_reader.specs.declared.line.NodeWord as line
use Rattle.dom_reader.specs.Views.{word_view}
use Rattle.dom_admission.specs.declared.admission.Operand.{Operand}
use Rattle.dom_admission.specs.declared.admission.Operand.TheVariants as names

-- the number of an owner's node as its line names it; a foreign name reads as that of the first node
abbrev pub number_in : NodeWord → ℕ
number_in (own k) = k
number_in foreign = 0

-- the node that is named, if it is a node
abbrev pub node_named : Operand → Option line.NodeWord
node_named (names.Any x) = Some x
node_named (names.Element x) = Some x
node_named (names.Text x) = Some x
node_named (names.Document x) = Some x
node_named (names.Data x) = Some x
node_named (names.Child x) = Some x
node_named (names.Parent x) = Some x
node_named (names.Slottable x) = Some x
node_named (names.Slot x) = Some x
node_named (names.Range k) = None
node_named (names.Iterator k) = None
node_named (names.Walker k) = None
node_named (names.Observer k) = None

-- whether a node of this kind, an element of this name if it is one, is what is asked for
abbrev pub accepts : Operand → Kind → Word → Bool
accepts (names.Any x) kind name = true
accepts (names.Element x) kind name = is_element kind
accepts (names.Text x) kind name = is_text kind
accepts (names.Document x) kind name = is_document kind
accepts (names.Data x) kind name = has_data kind
accepts (names.Child x) kind name = is_element kind || has_data kind
accepts (names.Parent x) kind name = not (has_data kind)
accepts (names.Slottable x) kind name = is_element kind || is_text kind
accepts (names.Slot x) kind name = is_element kind && text_eq name (codes "slot")
accepts (names.Range k) kind name = true
accepts (names.Iterator k) kind name = true
accepts (names.Walker k) kind name = true
accepts (names.Observer k) kind name = true

-- whether a node is
abbrev pub accepts_node : Operand → Node → Bool
accepts_node n node = accepts n node.kind node.element

-- whether a node is named that is spelled as another owner's
abbrev pub is_others : Operand → Bool
is_others n = option_map_or (λ x. is_foreign (word_view x)) (node_named n) false

-- whether an owner's range, iterator, walker or observer is there
abbrev pub is_counted : Part → Operand → Bool
is_counted p (names.Range k) = is_some (range_at p k)
is_counted p (names.Iterator k) = is_some (slice_get p.iterators k)
is_counted p (names.Walker k) = is_some (slice_get p.walkers k)
is_counted p (names.Observer k) = is_some (slice_get p.record_queues k)
is_counted p _ = false

-- whether what is named is there
abbrev pub is_there_as : Part → Operand → Bool
is_there_as p n = option_map_or (λ x. has_node p.trees (named p (word_view x))) (node_named n) (is_counted p n)

-- whether a node is of the kind that is asked for; a range, an iterator, a walker or an observer always is
abbrev pub is_fit : Part → Operand → Bool
is_fit p n = option_map_or (λ x. accepts_node n (node_in p.trees (named p (word_view x)))) (node_named n) true

-- whether one of the nodes is spelled as another owner's
abbrev pub has_foreign : List Operand → Bool
has_foreign ns = list_any is_others ns

-- whether all that is named is there
abbrev pub are_there : Part → List Operand → Bool
are_there p ns = list_all (is_there_as p) ns

-- whether the nodes are of the kinds that are asked for
abbrev pub are_fitting : Part → List Operand → Bool
are_fitting p ns = list_all (is_fit p) ns

-- the name of the node that is named; of a range, an iterator, a walker or an observer that of the owner's first node
abbrev pub name_named : Part → Operand → NodeName
name_named p n = option_map_or (λ x. named p (word_view x)) (node_named n) (node_of p.owner 0)

-- whether the node of a key is of the kind that is asked for
abbrev pub is_kind_at : DocState → Operand → ℕ → Bool
is_kind_at s n key = accepts_node n (node_in (trees_in s key) (name_in s key))

-- a key of the node that an owner's line names
pub record IsNamedBy (s : DocState) (o : Owner) (n : Operand) (key : ℕ) : Type 0 where
  pub node : HoldsNode s key
  pub name : name_in s key ≡ name_named (part_of s.world o) n
  pub owner : is_there s.world o ≡ true

-- the look-up of the node that an owner's line names gave this
pub record IsLookedUp (s : DocState) (o : Owner) (n : Operand) (r : Option ℕ) : Type 0 where
  pub there : is_some r ≡ is_there_as (part_of s.world o) n
  pub found : ForSome r (IsNamedBy s o n)

-- a key of the node that an owner's line names, which is of the kind that is asked for
pub record IsKeyOf (s : DocState) (o : Owner) (n : Operand) (key : ℕ) : Type 0 where
  pub node : HoldsNode s key
  pub name : name_in s key ≡ name_named (part_of s.world o) n
  pub kind : is_kind_at s n key ≡ true

-- the refusal of a line by whether it comes when it may not, names another owner's node, and names what is there and of the kinds
-- that are asked for
abbrev pub four_tests : Bool → Bool → Bool → Bool → Option Refusal
four_tests busy others present fits = first_refusal ((busy, Busy) ∷ (others, Foreign) ∷ (not present, Unknown) ∷ (not fits, WrongKind) ∷ [])

-- the refusal of a line of an owner that names these, if there is one
abbrev pub early_refusal : World → Owner → List Operand → Option Refusal
early_refusal w o ns =
    first_refusal (
    (is_busy w o, Busy)
    ∷ (has_foreign ns, Foreign)
    ∷ (not (is_there w o), Unknown)
    ∷ (not (are_there (part_of w o) ns), Unknown)
    ∷ (not (are_fitting (part_of w o) ns), WrongKind)
    ∷ [])
