use Rattle.dom_dispatch.proofs.Cited.{◌≡◌, ◌&&◌, ◌++◌, ◌∷◌, [], ℕ, List, nat_eq, Some, length, sym, ap, subst, ◌∙◌, arith, rules, filter_map-append, text_eq}
use Rattle.dom_dispatch.proofs.Cited.{listener_of}
use Rattle.dom_dispatch.proofs.Cited.{present, is_of_type, places_at, MayPut, IsIndexed}
use Rattle.dom_dispatch.proofs.Taking.{indexed-more, put-same}
use Rattle.dom_dispatch.proofs.table.Table.push.Goals as goal

pub returns-clause-indexed : goal.returns-clause-indexed
returns-clause-indexed c =
    let e = c.args.entry in
    let room = c.make_room.new.self in
    let es = room.entries.items in
    let new = c.push.new.self in
    let place : c.len.result ≡ length es = omega (arith, c.len.ensures, room.entries.ok) in
    let named : c.as_str-event.result.now ≡ (listener_of e).words.event = search rules in
    let put : (k : ℕ) (t : List ℕ) → MayPut (is_of_type k t (listener_of e)) (length es) (places_at room.places k t) (places_at new k t) =
    λ k t. put-same (ap (λ text. nat_eq e.node k && text_eq text t) named) place (c.in_ok-push.ensures.ok k t) in
    subst (IsIndexed new) (sym c.push_reserved.ensures.items) (indexed-more es e room.places new c.make_room.ensures.indexed put)

pub returns-clause-ok : goal.returns-clause-ok
returns-clause-ok c =
    let after = Some c.args.entry ∷ [] in
    ap present c.push_reserved.ensures.items ∙ filter_map-append (λ o. o) c.make_room.new.self.entries.items after ∙
    ap (λ xs. xs ++ c.args.entry ∷ []) c.make_room.ensures.present
