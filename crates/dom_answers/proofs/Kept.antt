-- What is said by parts of arrays is said after these grew.
use Rattle.dom_base.proofs.Std.{◌≡◌, ℕ, List, [], ◌∷◌, ◌++◌, map, refl, ap, sym, subst, ◌∙◌, append-nil, Option, Some, None}
use Rattle.std.specs.List.{AllByRecursion}
use Rattle.std.specs.Option.{option_map}
use Rattle.dom_base.specs.declared.NodeName.{NodeName}
use Rattle.dom_model.specs.Output as model
use Rattle.dom_model.specs.Tree as model_tree
use Rattle.dom_text.specs.Text as text
use Rattle.dom_answers.specs.declared.items.Span.{Span}
use Rattle.dom_answers.specs.declared.items.AttributeSpans.{AttributeSpans}
use Rattle.dom_answers.specs.declared.items.NodeRow.{NodeRow}
use Rattle.dom_answers.specs.declared.items.Row.{Row}
use Rattle.dom_answers.specs.declared.items.Row.TheVariants as rows
use Rattle.dom_answers.specs.declared.items.Reply.{Reply}
use Rattle.dom_answers.specs.declared.items.Reply.TheVariants as replies
use Rattle.dom_answers.specs.declared.items.Call.{Call}
use Rattle.dom_answers.specs.declared.items.Mutation.{Mutation}
use Rattle.dom_answers.specs.declared.items.Mutation.TheVariants as mutations
use Rattle.dom_answers.specs.declared.items.Said.{Said}
use Rattle.dom_answers.specs.declared.items.Said.TheVariants as things
use Rattle.dom_answers.specs.declared.items.Item.{Item}
use Rattle.dom_answers.specs.declared.items.Item.TheVariants as items
use Rattle.dom_answers.specs.Arrays.{AreSound, Arrays, Grows, IsAttribute, IsCall, IsItem, IsMutation, IsNode, IsOld, IsReply, IsRow, IsSaid}
use Rattle.dom_answers.specs.Parts.{IsPart}
use Rattle.dom_answers.specs.Arrays.{attribute_of, call_of, change_of, node_of, output_of, said_of, step_of, trees_of, value_of}
use Rattle.dom_answers.specs.Parts.{part}
use Rattle.dom_answers.proofs.Parts.{all-append, all-part, all-weaker, grows-attributes, grows-rows, map-alike}

-- ---- what the parts give

abbrev attribute_with : List ℕ → List ℕ → model_tree.Attribute
attribute_with name value = record { name = name; value = value }

abbrev node_with : NodeRow → List ℕ → List model_tree.Attribute → List ℕ → model_tree.Node
node_with row element attributes text =
    record { name = row.name; kind = row.kind; element = element; attributes = attributes; text = text; document = None }

abbrev call_with : Call → List ℕ → List ℕ → List NodeName → model.EventLine NodeName
call_with call label event path = record {
  label = label;
  event = event;
  phase = call.phase;
  target = call.target;
  current = call.current;
  related = call.related;
  path = path;
}

-- Arrays that grew into others.
module _ (a b : Arrays) (grows : Grows a b) where
  -- ---- trees

  pub attribute-within : (spans : AttributeSpans) → IsAttribute a spans → IsAttribute b spans
  attribute-within spans h = ((grows.bytes spans.name h.0).0, (grows.units spans.value h.1).0)

  pub attribute-kept : (spans : AttributeSpans) → IsAttribute a spans → attribute_of b spans ≡ attribute_of a spans
  attribute-kept spans h =
      ap (λ (name : List ℕ). attribute_with name (part b.units spans.value)) (grows.bytes spans.name h.0).1
      ∙ ap (attribute_with (part a.bytes spans.name)) (grows.units spans.value h.1).1

  node-within : (row : NodeRow) → IsNode a row → IsNode b row
  node-within row h = record {
    element = (grows.bytes row.element h.element).0;
    attributes = (grows.attributes row.attributes h.attributes).0;
    text = (grows.units row.text h.text).0;
  }

  node-kept : (row : NodeRow) → AreSound a → IsNode a row → node_of b row ≡ node_of a row
  node-kept row sound h =
      let attributes : map (attribute_of b) (part b.attributes row.attributes) ≡ map (attribute_of a) (part a.attributes row.attributes) =
      ap (map (attribute_of b)) (grows.attributes row.attributes h.attributes).1
      ∙ map-alike (attribute_of b) (attribute_of a) (IsAttribute a) attribute-kept (part a.attributes row.attributes)
      (all-part (IsAttribute a) a.attributes row.attributes sound.attributes) in
      ap (λ (element : List ℕ). node_with row element (map (attribute_of b) (part b.attributes row.attributes)) (part b.units row.text))
      (grows.bytes row.element h.element).1
      ∙ ap (λ (all : List model_tree.Attribute). node_with row (part a.bytes row.element) all (part b.units row.text)) attributes
      ∙ ap (node_with row (part a.bytes row.element) (map (attribute_of a) (part a.attributes row.attributes))) (grows.units row.text h.text).1

  pub row-within : (row : Row) → IsRow a row → IsRow b row
  row-within (rows.Opens row) h = node-within row h
  row-within rows.Closes h = tt

  pub row-kept : AreSound a → (row : Row) → IsRow a row → step_of b row ≡ step_of a row
  row-kept sound (rows.Opens row) h = ap text.opens (node-kept row sound h)
  row-kept sound rows.Closes h = refl

  -- rows that lay within the arrays
  pub rows-kept : AreSound a → (rows : List Row) → AllByRecursion (IsRow a) rows → map (step_of b) rows ≡ map (step_of a) rows
  rows-kept sound rows h = map-alike (step_of b) (step_of a) (IsRow a) (row-kept sound) rows h

  -- and attributes
  pub attributes-kept : (all : List AttributeSpans) → AllByRecursion (IsAttribute a) all → map (attribute_of b) all ≡ map (attribute_of a) all
  attributes-kept all h = map-alike (attribute_of b) (attribute_of a) (IsAttribute a) attribute-kept all h

  -- those with some more
  pub rows-within : AreSound a → (more : List Row) → b.rows ≡ a.rows ++ more → AllByRecursion (IsRow b) more → AllByRecursion (IsRow b) b.rows
  rows-within sound more e h =
      subst (AllByRecursion (IsRow b)) (sym e) (all-append (IsRow b) a.rows more (all-weaker (IsRow a) (IsRow b) row-within a.rows sound.rows) h)

  pub attributes-within : AreSound a → (more : List AttributeSpans) → b.attributes ≡ a.attributes ++ more → AllByRecursion (IsAttribute b) more
      → AllByRecursion (IsAttribute b) b.attributes
  attributes-within sound more e h =
      subst (AllByRecursion (IsAttribute b)) (sym e)
      (all-append (IsAttribute b) a.attributes more (all-weaker (IsAttribute a) (IsAttribute b) attribute-within a.attributes sound.attributes) h)

  -- ---- items

  tree-kept : AreSound a → (span : Span) → IsPart a.rows span → map (step_of b) (part b.rows span) ≡ map (step_of a) (part a.rows span)
  tree-kept sound span h =
      ap (map (step_of b)) (grows.rows span h).1 ∙ rows-kept sound (part a.rows span) (all-part (IsRow a) a.rows span sound.rows)

  pub reply-within : (reply : Reply) → IsReply a reply → IsReply b reply
  reply-within (replies.List span) h = (grows.nodes span h).0
  reply-within (replies.Str span) h = (grows.units span h).0
  reply-within (replies.Tree span) h = (grows.rows span h).0
  reply-within replies.Nothing h = tt
  reply-within replies.Null h = tt
  reply-within (replies.Node node) h = tt
  reply-within (replies.Component owner) h = tt
  reply-within (replies.Range number) h = tt
  reply-within (replies.Iterator number) h = tt
  reply-within (replies.Walker number) h = tt
  reply-within (replies.Observer number) h = tt
  reply-within (replies.Truth truth) h = tt
  reply-within (replies.Count count) h = tt
  reply-within (replies.Boundaries start end) h = tt
  reply-within (replies.Reference node before) h = tt

  pub reply-kept : AreSound a → (reply : Reply) → IsReply a reply → value_of b reply ≡ value_of a reply
  reply-kept sound (replies.List span) h = ap model.a_list (grows.nodes span h).1
  reply-kept sound (replies.Str span) h = ap model.a_string (grows.units span h).1
  reply-kept sound (replies.Tree span) h = ap (λ (steps : List text.TreeStep). model.a_tree (trees_of steps)) (tree-kept sound span h)
  reply-kept sound replies.Nothing h = refl
  reply-kept sound replies.Null h = refl
  reply-kept sound (replies.Node node) h = refl
  reply-kept sound (replies.Component owner) h = refl
  reply-kept sound (replies.Range number) h = refl
  reply-kept sound (replies.Iterator number) h = refl
  reply-kept sound (replies.Walker number) h = refl
  reply-kept sound (replies.Observer number) h = refl
  reply-kept sound (replies.Truth truth) h = refl
  reply-kept sound (replies.Count count) h = refl
  reply-kept sound (replies.Boundaries start end) h = refl
  reply-kept sound (replies.Reference node before) h = refl

  call-within : (call : Call) → IsCall a call → IsCall b call
  call-within call h = record {
    label = (grows.bytes call.label h.label).0;
    event = (grows.bytes call.event h.event).0;
    path = (grows.nodes call.path h.path).0;
  }

  call-kept : (call : Call) → IsCall a call → call_of b call ≡ call_of a call
  call-kept call h =
      ap (λ (label : List ℕ). call_with call label (part b.bytes call.event) (part b.nodes call.path)) (grows.bytes call.label h.label).1
      ∙ ap (λ (event : List ℕ). call_with call (part a.bytes call.label) event (part b.nodes call.path)) (grows.bytes call.event h.event).1
      ∙ ap (call_with call (part a.bytes call.label) (part a.bytes call.event)) (grows.nodes call.path h.path).1

  old-within : (old : Option Span) → IsOld a old → IsOld b old
  old-within None h = tt
  old-within (Some span) h = (grows.units span h).0

  old-kept : (old : Option Span) → IsOld a old → option_map (part b.units) old ≡ option_map (part a.units) old
  old-kept None h = refl
  old-kept (Some span) h = ap Some (grows.units span h).1

  mutation-within : (mutation : Mutation) → IsMutation a mutation → IsMutation b mutation
  mutation-within (mutations.ChildList target added removed previous next) h = ((grows.nodes added h.0).0, (grows.nodes removed h.1).0)
  mutation-within (mutations.Attributes target name old) h = ((grows.bytes name h.0).0, old-within old h.1)
  mutation-within (mutations.CharacterData target old) h = old-within old h

  mutation-kept : (mutation : Mutation) → IsMutation a mutation → change_of b mutation ≡ change_of a mutation
  mutation-kept (mutations.ChildList target added removed previous next) h =
      ap (λ (nodes : List NodeName). model.child_list target nodes (part b.nodes removed) previous next) (grows.nodes added h.0).1
      ∙ ap (λ (nodes : List NodeName). model.child_list target (part a.nodes added) nodes previous next) (grows.nodes removed h.1).1
  mutation-kept (mutations.Attributes target name old) h =
      ap (λ (word : List ℕ). model.attributes target word (option_map (part b.units) old)) (grows.bytes name h.0).1
      ∙ ap (model.attributes target (part a.bytes name)) (old-kept old h.1)
  mutation-kept (mutations.CharacterData target old) h = ap (model.character_data target) (old-kept old h)

  pub said-within : (said : Said) → IsSaid a said → IsSaid b said
  said-within (things.Replied reply) h = reply-within reply h
  said-within (things.Refused refusal) h = tt
  said-within (things.Event call) h = call-within call h
  said-within (things.Record number mutation) h = mutation-within mutation h
  said-within (things.Microtask label) h = (grows.bytes label h).0

  pub said-kept : AreSound a → (said : Said) → IsSaid a said → said_of b said ≡ said_of a said
  said-kept sound (things.Replied reply) h = ap model.replied (reply-kept sound reply h)
  said-kept sound (things.Refused refusal) h = refl
  said-kept sound (things.Event call) h = ap model.event_seen (call-kept call h)
  said-kept sound (things.Record number mutation) h = ap (model.recorded number) (mutation-kept mutation h)
  said-kept sound (things.Microtask label) h = ap model.micro_ran (grows.bytes label h).1

  item-within : (item : Item) → IsItem a item → IsItem b item
  item-within items.NoOwner h = tt
  item-within (items.Says owner said) h = said-within said h

  item-kept : AreSound a → (item : Item) → IsItem a item → output_of b item ≡ output_of a item
  item-kept sound items.NoOwner h = refl
  item-kept sound (items.Says owner said) h = ap (model.says owner) (said-kept sound said h)

  -- items that lay within the arrays
  pub items-within : (all : List Item) → AllByRecursion (IsItem a) all → AllByRecursion (IsItem b) all
  items-within all h = all-weaker (IsItem a) (IsItem b) item-within all h

  pub items-kept : AreSound a → (all : List Item) → AllByRecursion (IsItem a) all → map (output_of b) all ≡ map (output_of a) all
  items-kept sound all h = map-alike (output_of b) (output_of a) (IsItem a) (item-kept sound) all h

-- arrays with one attribute more
pub sound-attribute : (a : Arrays) (spans : AttributeSpans) (all : List AttributeSpans) → AreSound a → IsAttribute a spans
    → all ≡ a.attributes ++ spans ∷ [] → AreSound (record a { attributes = all })
sound-attribute a spans all sound within e =
    let b : Arrays = record a { attributes = all } in
    let grows = grows-attributes a b (spans ∷ []) (ap (λ (l : List AttributeSpans). record a { attributes = l }) e) in
    record {
      attributes = attributes-within a b grows sound (spans ∷ []) e (within, tt);
      rows = rows-within a b grows sound [] (sym (append-nil a.rows)) tt;
    }

-- with one row more
pub sound-row : (a : Arrays) (row : Row) (all : List Row) → AreSound a → IsRow a row → all ≡ a.rows ++ row ∷ [] → AreSound (record a { rows = all })
sound-row a row all sound within e =
    let b : Arrays = record a { rows = all } in
    let grows = grows-rows a b (row ∷ []) (ap (λ (l : List Row). record a { rows = l }) e) in
    record {
      attributes = attributes-within a b grows sound [] (sym (append-nil a.attributes)) tt;
      rows = rows-within a b grows sound (row ∷ []) e (row-within a b grows row within, tt);
    }
