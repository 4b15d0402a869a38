-- The texts of a call, those of its place and of what it is shown together, have the text of its line.
use Rattle.dom_base.proofs.Std.{rules, ◌≡◌, ◌++◌, ℕ, List, ap, ◌∙◌, append_assoc, codes, decimal, on_ok_weaker}
use Rattle.dom_text.specs.Definitions.{node_text, node_or_null}
use Rattle.dom_printer.specs.Records.{places_text, shown_text}
use Rattle.dom_printer.proofs.records.put_call.Goals as goal

-- a text with the text in front of it
abbrev Part : Type 0
Part = List ℕ × List ℕ

-- the texts in a row
in_a_row : (old space : List ℕ) (call : Part × Part) (place : Part × Part × Part) (shown : Part × Part) →
    (old ++ (space ++ call.0.0) ++ call.0.1 ++ call.1.0 ++ call.1.1 ++ (place.0.0 ++ place.0.1 ++ place.1.0 ++ place.1.1 ++ place.2.0 ++ place.2.1))
    ++ (shown.0.0 ++ shown.0.1 ++ shown.1.0 ++ shown.1.1) ≡ old ++ space ++ (call.0.0 ++ call.0.1 ++ call.1.0 ++ call.1.1 ++ place.0.0 ++ place.0.1
    ++ place.1.0 ++ place.1.1 ++ place.2.0 ++ place.2.1 ++ shown.0.0 ++ shown.0.1 ++ shown.1.0 ++ shown.1.1)
in_a_row old space call place shown = simp append_assoc

pub returns-clause-ok : goal.returns-clause-ok
returns-clause-ok c =
    let viewer = c.args.viewer.now in
    let call = c.args.call.now in
    let old = c.args.out.now.items in
    let placed : c.put_places.new.out.items ≡ old ++ codes " event " ++ call.label.now ++ codes " " ++ call.event.now ++ places_text viewer call =
    search rules in
    on_ok_weaker c.put_shown.result (λ put. put ∙ ap (λ (text : List ℕ). text ++ shown_text viewer call) placed
    ∙ in_a_row old (codes " ") ((codes "event ", call.label.now), (codes " ", call.event.now))
    ((codes " phase=", decimal call.phase), (codes " target=", node_text viewer call.target), (codes " current=", node_text viewer call.current))
    ((codes " related=", node_or_null viewer call.related), (codes " path=", call.path.now))) c.put_shown.ensures.ok
