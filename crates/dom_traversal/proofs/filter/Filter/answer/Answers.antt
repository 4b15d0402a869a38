use Rattle.dom_traversal.proofs.Cited.{◌≡◌, ℕ, Bool, true, false, List, Option, Some, None, refl, ap, ◌∙◌, if◌then◌else◌, option_map, is_element, is_shown}
use Rattle.dom_traversal.proofs.Cited.{name_at, NameFilter, Node, node_in, Show, Skip, text_eq, verdict_at, name_filter_of, show_of}
use Rattle.dom_traversal.proofs.filter.Filter.answer.Goals as goal

-- what a named filter answers at an element that is shown
named_answer : {f : NameFilter} {named : Option NameFilter} {same : Bool} (s : Show) (n : Node) → true ≡ is_shown s n.kind → true ≡ is_element n.kind →
    Some f ≡ named → same ≡ text_eq n.element f.name
    → (if same then Some f.verdict else None) ≡ (if is_shown s n.kind then verdict_at named n else Some Skip)
named_answer s n shown is_one is_named is_same = rw (← shown, ← is_named, ← is_one, ← is_same) refl

-- texts that are the same compare as those do
text_eq-same : {a b c d : List ℕ} → a ≡ b → c ≡ d → text_eq a c ≡ text_eq b d
text_eq-same {b = b} {c = c} e h = ap (λ (xs : List ℕ). text_eq xs c) e ∙ ap (text_eq b) h

pub returns-then-is_same_text : goal.returns-then-is_same_text
returns-then-is_same_text c =
    let n = node_in c.args.forest.now.trees (name_at c.args.forest.now.names c.args.key) in
    let s = show_of c.args.self.now.show in
    named_answer {f = name_filter_of c.in_ok-name.field-0.now} {same = true} s n (c.if-not-is_shown.ensures ∙ ap (is_shown s) c.kind-kind.ensures)
    (c.if-not-is_element.ensures ∙ ap is_element c.kind-kind.ensures) (ap (option_map name_filter_of) c.in_ok-name.ensures.value)
    (c.if-is_same_text.ensures.text ∙ text_eq-same c.element.ensures c.as_str.ensures.value)

pub returns-else-is_same_text : goal.returns-else-is_same_text
returns-else-is_same_text c =
    let n = node_in c.args.forest.now.trees (name_at c.args.forest.now.names c.args.key) in
    let s = show_of c.args.self.now.show in
    named_answer {f = name_filter_of c.in_ok-name.field-0.now} {same = false} s n (c.if-not-is_shown.ensures ∙ ap (is_shown s) c.kind-kind.ensures)
    (c.if-not-is_element.ensures ∙ ap is_element c.kind-kind.ensures) (ap (option_map name_filter_of) c.in_ok-name.ensures.value)
    (c.if-is_same_text.ensures.text ∙ text_eq-same c.element.ensures c.as_str.ensures.value)
