use Rattle.dom_dispatch.proofs.Cited.{◌≡◌, ◌||◌, true, subst, sym, bytes_eq, string_bytes, list_any, btree_set_updates_text, text_eq}
use Rattle.std.specs.BTreeSet.{contains_text}
use Rattle.dom_dispatch.proofs.Listing.{text-same}
use Rattle.dom_dispatch.proofs.Typed.{later-kept, type-last}
use Rattle.dom_dispatch.proofs.types.TypeSet.note.Goals as goal

pub returns-in_ok-push-clause-noted : goal.returns-in_ok-push-clause-noted
returns-in_ok-push-clause-noted c =
    let event = c.args.event.now in
    let types = c.args.self.now.first.items in
    let later = contains_text c.args.self.now.later event in
    let same : string_bytes c.in_ok-text.text ≡ event = c.in_ok-text.ensures.ok in
    subst (λ these. (list_any (λ t. text_eq (string_bytes t) event) these || later) ≡ true) (sym c.in_ok-push.ensures.items)
    (type-last event types c.in_ok-text.text later (subst (λ s. text_eq s event ≡ true) (sym same) (text-same event)))

pub returns-in_ok-insert-clause-kept : goal.returns-in_ok-insert-clause-kept
returns-in_ok-insert-clause-kept c = λ text.
    let key = string_bytes c.in_ok-text.text in
    later-kept (list_any (λ t. text_eq (string_bytes t) text) c.args.self.now.first.items) (bytes_eq key text) (contains_text c.args.self.now.later text)
    (contains_text c.insert.new.self text) (btree_set_updates_text key c.args.self.now.later c.insert.new.self true c.in_ok-insert.ensures.updates text)
