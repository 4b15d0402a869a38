-- A dispatch with one list of all owners' listeners is the dispatch in the world.
use Rattle.dom_dispatch.proofs.Cited.{◌≡◌, ◌≢◌, true, false, not, ◌&&◌, List, [], ◌∷◌, filter, fold, map, refl, sym, ap, subst, ◌∙◌, true≢false, nat_eq, beq}
use Rattle.dom_dispatch.proofs.Cited.{and_left, and_parts, Owner, NodeName, owner_eq, name_eq, text_eq, EventWords, Listener, Visit, Dispatching, after_invoke}
use Rattle.dom_dispatch.proofs.Cited.{begun, hears, is_listener, world_visit, visits_of, event_output, Part, views, World, part_of, with_part, owner_eq-true}
use Rattle.dom_dispatch.proofs.Cited.{owner_eq-same, ne-owner_eq, part_of-with_part, part_of-with_part-other, owner-part_of, by_cases, is_of_owner}
use Rattle.dom_dispatch.proofs.Cited.{DispatchedAmong, DispatchedAlong, dispatch_along, dispatch_among, listener_named, dispatching_named}
use Rattle.dom_dispatch.proofs.Naming.{dispatched-named}
use Rattle.dom_dispatch.proofs.Narrowing.{narrowed, visited-narrow, visited-apart}

-- The world and the list are as far as one another.
record IsAsFar (e : EventWords) (from w : World) (d s : Dispatching NodeName) : Type 0 where
  parts : (o : Owner) → part_of w o ≡ record (part_of from o) { listeners = filter (is_of_owner o) s.listeners }
  stopped : d.stopped ≡ s.stopped
  stopped_now : d.stopped_now ≡ s.stopped_now
  cancelled : d.cancelled ≡ s.cancelled
  lines : d.lines ≡ s.lines

module _ (e : EventWords) (from : World) where
  module _ (v : Visit NodeName) where
    -- who hears is of the visit's owner
    hears-own : (l : Listener NodeName) → hears name_eq e v l ≡ true → is_of_owner v.current.owner l ≡ true
    hears-own l h = (and_parts (owner_eq l.node.owner v.current.owner) (nat_eq l.node.number v.current.number)
        (and_parts (name_eq l.node v.current) (text_eq l.words.event e.event && beq l.words.capture v.capturing) h).0).0

    -- and is none of another owner's
    hears-apart : (o : Owner) → v.current.owner ≢ o → (l m : Listener NodeName) → hears name_eq e v l ≡ true → is_of_owner o m ≡ true →
        is_listener name_eq l.node l.words.event l.words.label l.words.capture m ≡ false
    hears-apart o other l m h k =
        let own : l.node.owner ≡ v.current.owner = owner_eq-true l.node.owner v.current.owner (hears-own l h) in
        let its : m.node.owner ≡ o = owner_eq-true m.node.owner o k in
        and_left (name_eq m.node l.node) (text_eq m.words.event l.words.event && (text_eq m.words.label l.words.label && beq m.words.capture l.words.capture))
        (and_left (owner_eq m.node.owner l.node.owner) (nat_eq m.node.number l.node.number)
        (ne-owner_eq m.node.owner l.node.owner (λ same. other (sym own ∙ sym same ∙ its))))

  -- one visit
  visit-among : (w : World) (d s : Dispatching NodeName) (v : Visit NodeName) → IsAsFar e from w d s
      → IsAsFar e from (world_visit e (w, d) v).0 (world_visit e (w, d) v).1 (after_invoke name_eq e s v)
  visit-among w d s v far =
      let o = v.current.owner in
      let p = part_of w o in
      let begins : record d { listeners = p.listeners } ≡ narrowed name_eq e (is_of_owner o) s = λ j. record {
        listeners = (ap (λ (q : Part). q.listeners) (far.parts o)) j;
        stopped = far.stopped j;
        stopped_now = far.stopped_now j;
        cancelled = far.cancelled j;
        lines = far.lines j;
      } in
      let heard = after_invoke name_eq e (record d { listeners = p.listeners }) v in
      let next = after_invoke name_eq e s v in
      let is : heard ≡ narrowed name_eq e (is_of_owner o) next =
      ap (λ x. after_invoke name_eq e x v) begins ∙ sym (visited-narrow name_eq e (is_of_owner o) v (hears-own v) s) in
      let new : Part = record p { listeners = heard.listeners } in
      let P : Owner → Type 0 = λ a. part_of (with_part w new) a ≡ record (part_of from a) { listeners = filter (is_of_owner a) next.listeners } in
      let own : P o = part_of-with_part w new o (owner-part_of w o) ∙
      (λ j. record (far.parts o j) { listeners = (ap (λ (x : Dispatching NodeName). x.listeners) is) j }) in
      record {
        parts = λ a. by_cases (owner_eq o a)
            (λ t. subst P (owner_eq-true o a t) own)
            (λ t. let other : o ≢ a = λ same. true≢false (sym (ap (owner_eq o) (sym same) ∙ owner_eq-same o) ∙ t) in
            part_of-with_part-other w new a (λ same. other (sym (owner-part_of w o) ∙ same))
            ∙ far.parts a
            ∙ ap (λ ls. record (part_of from a) { listeners = ls }) (sym (visited-apart name_eq e (is_of_owner a) v (hears-apart v a other) s)));
        stopped = ap (λ (x : Dispatching NodeName). x.stopped) is;
        stopped_now = ap (λ (x : Dispatching NodeName). x.stopped_now) is;
        cancelled = ap (λ (x : Dispatching NodeName). x.cancelled) is;
        lines = ap (λ (x : Dispatching NodeName). x.lines) is;
      }

  -- all visits
  visits-among : (vs : List (Visit NodeName)) (w : World) (d s : Dispatching NodeName) → IsAsFar e from w d s
      → IsAsFar e from (fold (world_visit e) (w, d) vs).0 (fold (world_visit e) (w, d) vs).1 (fold (after_invoke name_eq e) s vs)
  visits-among [] w d s far = far
  visits-among (v ∷ vs) w d s far =
      let next = world_visit e (w, d) v in
      visits-among vs next.0 next.1 (after_invoke name_eq e s v) (visit-among w d s v far)

-- the law
pub dispatched-among : DispatchedAmong
dispatched-among w ls has target related e =
    let far = visits-among e w (visits_of name_eq e.bubbles (views w target related e.composed)) w (begun []) (begun ls) (record {
      parts = λ o j. record (part_of w o) { listeners = has o j };
      stopped = refl;
      stopped_now = refl;
      cancelled = refl;
      lines = refl;
    }) in
    (far.parts, ap (map event_output) far.lines, ap not far.cancelled)

-- the law of keys
pub dispatched-along : DispatchedAlong
dispatched-along names apart ls at vs shown w has target related e path =
    let all = dispatch_along ls e vs in
    let same : dispatch_among w (map (listener_named names) ls) target related e ≡ dispatching_named names all =
    ap (λ xs. fold (after_invoke name_eq e) (begun (map (listener_named names) ls)) (visits_of name_eq e.bubbles xs)) (sym path) ∙
    sym (dispatched-named names apart e ls at vs shown) in
    let far = dispatched-among w (map (listener_named names) ls) has target related e in (
      λ o. far.0 o ∙ ap (λ (d : Dispatching NodeName). record (part_of w o) { listeners = filter (is_of_owner o) d.listeners }) same,
      far.1 ∙ ap (λ (d : Dispatching NodeName). map event_output d.lines) same,
      far.2 ∙ ap (λ (d : Dispatching NodeName). not d.cancelled) same,
    )
