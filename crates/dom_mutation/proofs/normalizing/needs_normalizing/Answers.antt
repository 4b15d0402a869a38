use Rattle.dom_mutation.proofs.Cited.{◌==◌, ◌||◌, not, length, refl, sym, ap, ◌∙◌, is_empty, is_text, kind_of, siblings, items_after, name_eq}
use Rattle.dom_mutation.proofs.Cited.{contiguous_texts_after, name_at}
use Rattle.dom_tree.specs.Definitions.{NamedTrees}
use Rattle.dom_mutation.proofs.Joined.{none_while, some_while}
use Rattle.dom_mutation.proofs.normalizing.needs_normalizing.Goals as goal

pub returns-then-is_empty : goal.returns-then-is_empty
returns-then-is_empty c =
    let f = c.args.text.now.whole in
    ap (λ b. b || not (is_empty (contiguous_texts_after f.trees (name_at f.names c.args.text.now.key))))
    (c.if-is_empty.ensures ∙ ap (λ s. length s == 0) c.text.ensures)

pub returns-in-Some : goal.returns-in-Some
returns-in-Some c =
    let f = c.args.text.now.whole in
    let x = name_at f.names c.args.text.now.key in
    let y = name_at f.names c.in-Some.next.key in
    c.is_text_at.ensures ∙ (ap (λ (g : NamedTrees). is_text (kind_of g.trees (name_at g.names c.in-Some.next.key))) (c.in-Some.ensures.same c.in-Some.next refl)
    ∙ (some_while (λ z. is_text (kind_of f.trees z)) (items_after name_eq x (siblings f.trees x)) y (sym c.in-Some.ensures.value)
    ∙ ap (λ b. b || not (is_empty (contiguous_texts_after f.trees x))) (c.if-is_empty.ensures ∙ ap (λ s. length s == 0) c.text.ensures)))

pub returns-in-None : goal.returns-in-None
returns-in-None c =
    let f = c.args.text.now.whole in
    let x = name_at f.names c.args.text.now.key in
    none_while (λ z. is_text (kind_of f.trees z)) (items_after name_eq x (siblings f.trees x)) (sym c.in-None.ensures.value)
    ∙ ap (λ b. b || not (is_empty (contiguous_texts_after f.trees x))) (c.if-is_empty.ensures ∙ ap (λ s. length s == 0) c.text.ensures)
