use Rattle.dom_base.proofs.Std.{◌≡◌, ℕ, List, ◌++◌, nat_eq, filter, map, ap, ◌∙◌, subst, sym, filter_map-append}
use Rattle.dom_model.proofs.Model.{Registration, registrations_on, transients_for}
use Rattle.dom_observers.specs.Definitions.{path_keys, registration_of, unless_gone, those_there, AreNoted, AreKept}
use Rattle.dom_observers.proofs.Keeping.{kept-append}
use Rattle.dom_observers.proofs.Once.{AreOnce, once-copies}
use Rattle.dom_observers.proofs.Watching.{noted-now, all-now, copied}
use Rattle.dom_observers.proofs.registrations.Registrations.add_transients.Goals.{After-drop-copies-2}
use Rattle.dom_observers.proofs.registrations.Registrations.add_transients.Goals as goal

-- what is noted is so of the list
noted : (c : After-drop-copies-2) → AreNoted c.note.new.self c.self.inside.list.items
noted c = noted-now c.as_slice.ensures.value c.note.ensures.noted c.self.invariant.noted

-- the copies are those of the rule
same : (c : After-drop-copies-2) → map registration_of c.in_ok-copies.copies.items
    ≡ transients_for nat_eq c.args.node (path_keys c.args.forest.now c.args.parent) (those_there c.self.inside.list.items)
same c =
    c.in_ok-copies.ensures.copies
    ∙ copied (noted c) (all-now c.as_slice.ensures.value c.in_ok-note.ensures.all) c.as_slice-2.ensures.value
    c.args.node (path_keys c.args.forest.now c.args.parent)

pub invariant_of-self-2 : goal.invariant_of-self-2
invariant_of-self-2 c =
    let items = c.self.inside.list.items in
    let path = path_keys c.args.forest.now c.args.parent in
    subst (AreKept c.note.new.self c.self.inside.gone) (sym c.in_ok-append.ensures.items)
    (kept-append (record { noted = noted c; counted = c.self.invariant.counted; once = c.self.invariant.once }) c.in_ok-copies.copies.items
    c.in_ok-copies.ensures.there
    (subst (λ (ts : List (Registration ℕ)). AreOnce (those_there items ++ ts)) (sym (same c))
    (once-copies c.args.node (those_there items) (filter (λ r. r.options.subtree) (registrations_on nat_eq path (those_there items)))
    c.self.invariant.once)))

pub returns-clause-ok : goal.returns-clause-ok
returns-clause-ok c =
    let items = c.self.inside.list.items in
    ap those_there c.in_ok-append.ensures.items
    ∙ (filter_map-append unless_gone items c.in_ok-copies.copies.items
    ∙ (ap (λ xs. those_there items ++ xs) (c.in_ok-copies.ensures.there ∙ same c)
    ∙ ap (λ xs. xs ++ transients_for nat_eq c.args.node (path_keys c.args.forest.now c.args.parent) xs) c.self.view_is))
