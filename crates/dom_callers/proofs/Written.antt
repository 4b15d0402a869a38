-- What is written into a forest, call by call.
use Rattle.std.proofs.Common.{◌≡◌, ℕ, List, [], ◌∷◌, ◌++◌, length, Some, None, ap, ◌∙◌, codes}
use Rattle.std.proofs.Math.Seq.{get_or-append_seam}
use Rattle.dom_base.specs.declared.Kind.TheVariants.{Document, Element}
use Rattle.dom_base.specs.declared.NodeName.{NodeName}
use Rattle.dom_base.specs.declared.Owner.TheVariants.{Page}
use Rattle.dom_model.specs.Names.{Word, node_of}
use Rattle.dom_model.specs.Tree.{Trees, none, Node}
use Rattle.dom_model.specs.TreeChanges.{with_node, placed}
use Rattle.dom_tree.specs.Definitions.{NamedTrees, name_at, next_name}
use Rattle.dom_callers.specs.Notes.{node_with, with_document, appended, written_note}

-- a forest with these names and trees
with-parts : (f : NamedTrees) (ns : List NodeName) (ts : Trees) → f.names ≡ ns → f.trees ≡ ts → f ≡ record { names = ns; trees = ts }
with-parts f ns ts names trees =
    let first : f ≡ record { names = ns; trees = f.trees } = ap (λ xs. record { names = xs; trees = f.trees }) names in
    let second : record { names = ns; trees = f.trees } ≡ record { names = ns; trees = ts } = ap (λ us. record { names = ns; trees = us }) trees in
    first ∙ second

-- A new element is linked behind its siblings: the forest between, where it is alone, its key and its node.
pub record ComesLast (f h : NamedTrees) (document parent : ℕ) (word : Word) : Type 0 where
  pub alone : NamedTrees
  pub key : ℕ
  pub node : Node
  pub key_is : key ≡ length f.names
  pub names : alone.names ≡ f.names ++ next_name Page f.names ∷ []
  pub trees : alone.trees ≡ with_node node f.trees
  pub node_is : node ≡ node_with (next_name Page f.names) Element word (Some (name_at f.names document))
  pub parent_is : name_at alone.names parent ≡ name_at f.names parent
  pub names_then : h.names ≡ alone.names
  pub trees_then : h.trees ≡ placed (name_at alone.names key) (name_at alone.names parent) None alone.trees

-- the forest has one more element then
pub appended-is : (f h : NamedTrees) (document parent : ℕ) (word : Word) → ComesLast f h document parent word → h ≡ appended document parent word f
appended-is f h document parent word last =
    let x = next_name Page f.names in
    let g = last.alone in
    let named : name_at g.names last.key ≡ x =
    ap (λ (ns : List NodeName). name_at ns last.key) last.names ∙ ap (name_at (f.names ++ x ∷ [])) last.key_is
    ∙ get_or-append_seam f.names x [] (node_of Page 0) in
    with-parts h (f.names ++ x ∷ [])
    (placed x (name_at f.names parent) None (with_node (node_with x Element word (Some (name_at f.names document))) f.trees))
    (last.names_then ∙ last.names)
    (last.trees_then ∙ ap (λ (y : NodeName). placed y (name_at g.names parent) None g.trees) named
    ∙ ap (λ (y : NodeName). placed x y None g.trees) last.parent_is ∙ ap (placed x (name_at f.names parent) None) last.trees
    ∙ ap (λ (m : Node). placed x (name_at f.names parent) None (with_node m f.trees)) last.node_is)

-- A note is written into a forest, call by call: what the calls before the last one leave, the document's node, and the keys of
-- the document and of the article.
pub record WritesNote (before last : NamedTrees) : Type 0 where
  pub first : NamedTrees
  pub second : NamedTrees
  pub third : NamedTrees
  pub node : Node
  pub document : ℕ
  pub article : ℕ
  pub new : before ≡ record { names = []; trees = none }
  pub document_is : document ≡ length before.names
  pub names : first.names ≡ before.names ++ next_name Page before.names ∷ []
  pub trees : first.trees ≡ with_node node before.trees
  pub node_is : node ≡ node_with (next_name Page before.names) Document [] None
  pub article_is : article ≡ length first.names
  pub second_is : second ≡ appended document document (codes "article") first
  pub third_is : third ≡ appended document article (codes "h1") second
  pub last_is : last ≡ appended document article (codes "p") third

-- the whole note
pub note-is : (before last : NamedTrees) → WritesNote before last → last ≡ written_note
note-is before last n =
    let none_yet : NamedTrees = record { names = []; trees = none } in
    let one : n.first ≡ with_document before =
    with-parts n.first (before.names ++ next_name Page before.names ∷ [])
    (with_node (node_with (next_name Page before.names) Document [] None) before.trees) n.names
    (n.trees ∙ ap (λ (m : Node). with_node m before.trees) n.node_is) in
    let alone : n.first ≡ with_document none_yet = one ∙ ap with_document n.new in
    let at_0 : n.document ≡ 0 = n.document_is ∙ ap (λ (f : NamedTrees). length f.names) n.new in
    let at_1 : n.article ≡ 1 = n.article_is ∙ ap (λ (f : NamedTrees). length f.names) alone in
    let two : n.second ≡ appended 0 0 (codes "article") (with_document none_yet) =
    n.second_is ∙ ap (λ k. appended k k (codes "article") n.first) at_0 ∙ ap (appended 0 0 (codes "article")) alone in
    let three : n.third ≡ appended 0 1 (codes "h1") (appended 0 0 (codes "article") (with_document none_yet)) =
    n.third_is ∙ ap (λ k. appended k n.article (codes "h1") n.second) at_0 ∙ ap (λ k. appended 0 k (codes "h1") n.second) at_1
    ∙ ap (appended 0 1 (codes "h1")) two in
    n.last_is ∙ ap (λ k. appended k n.article (codes "p") n.third) at_0 ∙ ap (λ k. appended 0 k (codes "p") n.third) at_1
    ∙ ap (appended 0 1 (codes "p")) three
