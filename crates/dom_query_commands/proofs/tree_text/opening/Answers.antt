-- What is told of a node is what is shown of it, for each kind.
use Rattle.dom_query_commands.proofs.Cited.{◌≡◌, ◌⊎◌, inl, inr, List, [], sym, ap, ◌∙◌, None, get_or_from_slice_get, Page, NodeName, Kind, Word, DomString}
use Rattle.dom_query_commands.proofs.Cited.{node_of, Node, node_in, name_at, NodeContent, attributes_in, data_in, shown, shown_as}
use Rattle.dom_model.proofs.Model.{Attribute}
use Rattle.dom_printer.specs.Steps.{name_in}
use Rattle.dom_query_commands.proofs.tree_text.opening.Goals.{in-Element+in_ok-attributes-in-Element, in-Text, in-Document}
use Rattle.dom_base.specs.declared.Kind.TheVariants as kinds
use Rattle.dom_query_commands.proofs.tree_text.opening.Goals as goal
use Rattle.dom_worlds.proofs.CommandLemmas.{name-node_in}

-- an opening as a node
abbrev told : NodeName → Kind → Word → List Attribute → DomString → Node
told x k e a t = record { name = x; kind = k; element = e; attributes = a; text = t; document = None }

-- an opening with these words as a node
abbrev told_by : NodeName → Kind → NodeContent → Node
told_by x k w = told x k (name_in w) (attributes_in w) (data_in w)

-- the opening of an element
shown-element : {k : Kind} {e : Word} {a : List Attribute} (n : Node) → k ≡ kinds.Element → k ≡ n.kind → e ≡ n.element → a ≡ n.attributes →
    told n.name k e a [] ≡ shown n
shown-element {k = k} {e = e} {a = a} n is kind element attributes =
    ap (λ j. told n.name j e a []) is
    ∙ (ap (λ f. told n.name kinds.Element f a []) element ∙
    (ap (λ b. told n.name kinds.Element n.element b []) attributes ∙ ap (λ j. shown_as j n) (sym is ∙ kind)))

-- of a Text or a Comment
shown-data : (n : Node) (k : Kind) (t : DomString) → (k ≡ kinds.Text) ⊎ (k ≡ kinds.Comment) → k ≡ n.kind → t ≡ n.text → told n.name k [] [] t ≡ shown n
shown-data n k t (inl is) kind text = ap (λ j. told n.name j [] [] t) is ∙ (ap (told n.name kinds.Text [] []) text ∙ ap (λ j. shown_as j n) (sym is ∙ kind))
shown-data n k t (inr is) kind text = ap (λ j. told n.name j [] [] t) is ∙ (ap (told n.name kinds.Comment [] []) text ∙ ap (λ j. shown_as j n) (sym is ∙ kind))

-- of another node
shown-plain : (n : Node) (k : Kind) → (k ≡ kinds.Document) ⊎ ((k ≡ kinds.Fragment) ⊎ (k ≡ kinds.Shadow)) → k ≡ n.kind → told n.name k [] [] [] ≡ shown n
shown-plain n k (inl is) kind = ap (λ j. told n.name j [] [] []) is ∙ ap (λ j. shown_as j n) (sym is ∙ kind)
shown-plain n k (inr (inl is)) kind = ap (λ j. told n.name j [] [] []) is ∙ ap (λ j. shown_as j n) (sym is ∙ kind)
shown-plain n k (inr (inr is)) kind = ap (λ j. told n.name j [] [] []) is ∙ ap (λ j. shown_as j n) (sym is ∙ kind)

pub returns : goal.returns
returns c =
    let names = c.args.forest.now.names in
    let node = node_in c.args.forest.now.trees (name_at names c.args.key) in
    let kind = c.kind-kind.result in
    let name : c.name.result ≡ node.name =
    sym (get_or_from_slice_get names c.args.key c.name.result (node_of Page 0) c.name.ensures.value) ∙
    sym (name-node_in c.args.forest.now.trees (name_at names c.args.key)) in
    ap (λ x. told_by x kind c.match-kind.words) name ∙ elim c.match-kind.branch [
      | in-Element+in_ok-attributes-in-Element w ↦
          ap (told_by node.name kind) w.words-is
          ∙ shown-element node w.in-Element.is c.kind-kind.ensures w.element.ensures w.in_ok-attributes-in-Element.ensures
      | in-Text w ↦ ap (told_by node.name kind) w.words-is ∙ shown-data node kind w.text.result.now w.in-Text.is c.kind-kind.ensures w.text.ensures
      | in-Document w ↦ ap (told_by node.name kind) w.words-is ∙ shown-plain node kind w.in-Document.is c.kind-kind.ensures
    ]
