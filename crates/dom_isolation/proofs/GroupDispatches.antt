-- A dispatch as a group has it, whatever others' listeners do: it is that of the silent run, as far as others let the event come; without a view at a node of
-- the group it is nothing, and of another node it is the outward event at its host.
use Rattle.dom_base.proofs.Std.{◌≡◌, ℕ, Bool, true, false, [], ◌∷◌, ◌++◌, filter, Option, Some, None, option_map, refl, sym, ap, ◌∙◌, subst, append-nil, ◌⊎◌}
use Rattle.dom_base.proofs.Std.{inl, inr, not, ◌||◌, List, fold, map, true≢false, option_to_list, if◌then◌else◌, is_some, option_and_then, AllByRecursion}
use Rattle.dom_base.proofs.Std.{list_any, filter-append}
use Rattle.dom_model.proofs.Model.{Owner, NodeName, name_eq, owner_depth, owner_eq, EventWords, Output, EventLine, views, View, Run, run_then, run_each, World}
use Rattle.dom_model.proofs.Model.{root_at, host_of, host_above, some_if, shadow_root_of, find_part, part_of, is_there, Dispatched, dispatch_in, world_visit}
use Rattle.dom_model.proofs.Model.{visits_of, event_output, KeepsMakers, group_world, group_outputs, group_run, outward_words, outward_in, OutwardEvent, is_of}
use Rattle.dom_model.proofs.Model.{owner_of_output, boundary_host, outward_of, Page, Visit, begun, Part, is_page_task, is_page_turn, find-put, owner-part_of}
use Rattle.dom_worlds.specs.Definitions.{IsWorld, IsForeignTo, Invariant}
use Rattle.dom_isolation.specs.Definitions.{untouched, interference_at, Interference, is_own_visit, dispatch_under, outward_under, OwnIsThere, first_visits}
use Rattle.dom_worlds.proofs.ShadowTreeLemmas.{below-host, hosts-alone}
use Rattle.dom_worlds.proofs.ListLemmas.{by_cases, all-then, all-passed}
use Rattle.dom_worlds.proofs.OwnerLemmas.{people-dispatch, AreAlike, world-alike}
use Rattle.dom_worlds.proofs.TurnLemmas.{there-visits, InWorld, part_of-visits, rest-visits, with_listeners}
use Rattle.dom_isolation.proofs.GroupSlots.{in_node, ground-of}
use Rattle.dom_isolation.proofs.OwnVisits.{in_view, in_line, group_going, visit-in, group_visits, outputs-event_lines, group_dispatched}
use Rattle.dom_isolation.proofs.GroupPaths.{views-in}
use Rattle.dom_isolation.proofs.OutsideViews.{has-exit, exit-away, views-exit, views-kept_in, views-far, views-related}
use Rattle.dom_isolation.proofs.GroupSteps.{IsSameGround}
use Rattle.dom_isolation.proofs.Touches.{all-first, first-none, alike-start, visits-touched}

-- Two worlds as they should be, whatever their listeners do, of which a group has the same.
pub record IsSameWorld (g : Owner → Bool) (w v : World) : Type 0 where
  pub first : Invariant false w
  pub second : Invariant false v
  pub same : group_world g w ≡ group_world g v

-- nothing is asked of listeners
pub any_world : {w : World} → IsWorld w → Invariant false w
any_world i = record { world = i; logs = λ e. absurd (true≢false (sym e)) }

-- who is there is told by the owners of the parts
any-there : (ps : List Part) (o : Owner) → is_some (find_part ps o) ≡ list_any (λ a. owner_eq a o) (map (λ (p : Part). p.owner) ps)
any-there [] o = refl
any-there (p ∷ ps) o = from (owner_eq p.owner o) (any-there ps o)
  where
    from : (t : Bool) → is_some (find_part ps o) ≡ list_any (λ a. owner_eq a o) (map (λ (p : Part). p.owner) ps) →
        is_some (if t then Some p else find_part ps o) ≡ (t || list_any (λ a. owner_eq a o) (map (λ (p : Part). p.owner) ps))
    from true h = refl
    from false h = h

-- who is visited is there at the end
visited-there : (e : EventWords) (vs : List (Visit NodeName)) (s : InWorld) →
    AllByRecursion (λ (v : Visit NodeName). is_there (fold (world_visit e) s vs).0 v.current.owner ≡ true) vs
visited-there e [] s = tt
visited-there e (v ∷ vs) s =
    let o = v.current.owner in
    let p = part_of s.0 o in
    let q = with_listeners p (world_visit e s v).1.listeners in
    (there-visits e vs (world_visit e s v) o (ap is_some (find-put s.0.parts q o (owner-part_of s.0 o))), visited-there e vs (world_visit e s v))

-- visits keep what holds of the world
pub world-visits : (e : EventWords) (vs : List (Visit NodeName)) (s : InWorld) → IsWorld s.0 → IsWorld (fold (world_visit e) s vs).0
world-visits e vs s i =
    let end = fold (world_visit e) s vs in
    let rest = rest-visits e vs s in
    let alike : AreAlike end.0 s.0 = λ o. let is = part_of-visits e vs s o in
    record { trees = ap (λ (p : Part). p.trees) is; count = ap (λ (p : Part). p.node_count) is; attached = ap (λ (p : Part). p.attached) is } in
    world-alike end.0 alike (there-visits e vs s Page)
    (subst (λ (v : World). AllByRecursion (IsForeignTo Page) v.signalled) (sym rest) i.signalled)
    (subst (λ (v : World). is_page_turn v.turn ≡ false → filter is_page_task v.tasks ≡ []) (sym rest) i.tasks) i

module _ (g : Owner → Bool) where
  -- so the owners of visits are there
  own-there : (w : World) → IsWorld w → (x : NodeName) (r : Option NodeName) (e : EventWords) →
      AllByRecursion (OwnIsThere g w) (visits_of name_eq e.bubbles (views w x r e.composed))
  own-there w i x r e =
      let vs = visits_of name_eq e.bubbles (views w x r e.composed) in
      let end = fold (world_visit e) (w, begun []) vs in
      all-then (λ (v : Visit NodeName). is_there end.0 v.current.owner ≡ true) (OwnIsThere g w)
      (λ v t own. any-there w.parts v.current.owner
      ∙ ap (list_any (λ a. owner_eq a v.current.owner)) (sym (people-dispatch w i x r e))
      ∙ sym (any-there end.0.parts v.current.owner) ∙ t) vs (visited-there e vs (w, begun []))

  -- visits at nodes of the group, in two dispatches that the group has alike
  own-visits : (e : EventWords) (vs : List (Visit NodeName)) (s t : InWorld) → AllByRecursion (λ v. is_own_visit g v ≡ true) vs →
      group_going g s ≡ group_going g t → group_going g (fold (world_visit e) s vs) ≡ group_going g (fold (world_visit e) t vs)
  own-visits e [] s t h same = same
  own-visits e (v ∷ vs) s t h same =
      own-visits e vs (world_visit e s v) (world_visit e t v) h.1
      (visit-in g e s v h.0 ∙ ap (λ r. group_going g (world_visit e r v)) same ∙ sym (visit-in g e t v h.0))

  -- how a dispatch ends whose event others may have cancelled
  abbrev end_under : Bool → InWorld → Dispatched World
  end_under cancelled t = record { run = (t.0, map event_output t.1.lines); answer = not (cancelled || t.1.cancelled) }

  -- the first visits at nodes of the group, of some views
  abbrev first_of_views : Interference → EventWords → List (View NodeName) → List (Visit NodeName)
  first_of_views i e vs = first_visits i.reached (visits_of name_eq e.bubbles vs)

  -- the visits of views at the group's nodes are such visits
  own-first : (i : Interference) (e : EventWords) (vs : List (View NodeName)) →
      AllByRecursion (λ v. is_own_visit g v ≡ true) (first_of_views i e (filter (in_view g) vs))
  own-first i e vs =
      all-first (λ v. is_own_visit g v ≡ true) i.reached (visits_of name_eq e.bubbles (filter (in_view g) vs))
      (subst (AllByRecursion (λ v. is_own_visit g v ≡ true)) (group_visits g e.bubbles vs)
      (all-passed (λ v. is_own_visit g v ≡ true) (is_own_visit g) (λ v h. h) (visits_of name_eq e.bubbles vs)))

  -- A dispatch shows the group what the first visits of the views at its nodes show, as many as others let the event come to.
  touched-ends : (w : World) → IsWorld w → (x : NodeName) (r : Option NodeName) (e : EventWords) →
      let i = interference_at g w x r e in
      group_dispatched g (dispatch_in w x r e)
      ≡ end_under i.cancelled (group_going g (fold (world_visit e) (w, begun []) (first_of_views i e (filter (in_view g) (views w x r e.composed)))))
  touched-ends w j x r e =
      let i = interference_at g w x r e in
      let start : InWorld = (w, begun []) in
      let vs = visits_of name_eq e.bubbles (views w x r e.composed) in
      let all = fold (world_visit e) start vs in
      let own = fold (world_visit e) start (first_visits i.reached (filter (is_own_visit g) vs)) in
      let ends = visits-touched g e vs start (alike-start g w) (own-there w j x r e) in
      ap (λ ls. record { run = (group_world g all.0, ls); answer = not all.1.cancelled }) (outputs-event_lines g all.1.lines)
      ∙ ap (λ u. record { run = (u, map event_output (filter (in_line g) all.1.lines)); answer = not all.1.cancelled }) ends.world
      ∙ ap (λ (ls : List (EventLine NodeName)). record { run = (group_world g own.0, map event_output ls); answer = not all.1.cancelled }) ends.lines
      ∙ ap (λ c. record { run = (group_world g own.0, map event_output (filter (in_line g) own.1.lines)); answer = not c }) ends.cancelled
      ∙ ap (λ us. end_under i.cancelled (group_going g (fold (world_visit e) start (first_visits i.reached us)))) (group_visits g e.bubbles
      (views w x r e.composed))

  -- without a view at its nodes it shows nothing
  pub no_dispatch : (w : World) → IsWorld w → (x : NodeName) (r : Option NodeName) (e : EventWords) →
      filter (in_view g) (views w x r e.composed) ≡ [] → group_run g (dispatch_in w x r e).run ≡ (group_world g w, [])
  no_dispatch w j x r e none =
      let i = interference_at g w x r e in
      ap (λ (d : Dispatched World). d.run)
      (touched-ends w j x r e
      ∙ ap (λ vs. end_under i.cancelled (group_going g (fold (world_visit e) (w, begun []) (first_of_views i e vs)))) none
      ∙ ap (λ us. end_under i.cancelled (group_going g (fold (world_visit e) (w, begun []) us))) (first-none i.reached))

  -- a dispatch of the silent run keeps what holds of the world
  pub world-dispatch_under : (i : Interference) (v : World) → IsWorld v → (x : NodeName) (r : Option NodeName) (e : EventWords) →
      IsWorld (dispatch_under g i v x r e).run.0
  world-dispatch_under i v j x r e =
      world-visits e (first_visits i.reached (filter (is_own_visit g) (visits_of name_eq e.bubbles (views v x r e.composed)))) (v, begun []) j

  -- Two worlds of which the group has the same: the dispatch in the one is that of the silent run in the other, where the views at its nodes are the same.
  module _ {w v : World} (s : IsSameWorld g w v) (e : EventWords) where
    -- from a target to a target
    pub touched-by : (x : NodeName) (r : Option NodeName) (y : NodeName) (q : Option NodeName) →
        filter (in_view g) (views w x r e.composed) ≡ filter (in_view g) (views v y q e.composed) →
        group_dispatched g (dispatch_in w x r e) ≡ group_dispatched g (dispatch_under g (interference_at g w x r e) v y q e)
    touched-by x r y q h =
        let i = interference_at g w x r e in
        let shown = filter (in_view g) (views v y q e.composed) in
        let us = first_of_views i e shown in
        let own = filter (is_own_visit g) (visits_of name_eq e.bubbles (views v y q e.composed)) in
        let end = fold (world_visit e) (v, begun []) (first_visits i.reached own) in
        touched-ends w s.first.world x r e
        ∙ ap (λ vs. end_under i.cancelled (group_going g (fold (world_visit e) (w, begun []) (first_of_views i e vs)))) h
        ∙ ap (end_under i.cancelled) (own-visits e us (w, begun []) (v, begun []) (own-first i e (views v y q e.composed)) (ap (λ u. (u, begun [])) s.same))
        ∙ ap (λ vs. end_under i.cancelled (group_going g (fold (world_visit e) (v, begun []) (first_visits i.reached vs))))
        (sym (group_visits g e.bubbles (views v y q e.composed)))
        ∙ sym (ap (λ ls. record { run = (group_world g end.0, ls); answer = not (i.cancelled || end.1.cancelled) }) (outputs-event_lines g end.1.lines))

    -- at a node of the group
    pub touched-in : KeepsMakers g → (x : NodeName) (r : Option NodeName) → in_node g x ≡ true → AllByRecursion (λ y. in_node g y ≡ true) (option_to_list r) →
        group_dispatched g (dispatch_in w x r e) ≡ group_dispatched g (dispatch_under g (interference_at g w x r e) v x r e)
    touched-in closed x r h k =
        touched-by x r x r
        (views-in g closed w s.first.world x r h k e.composed ∙ ap (λ u. views u x r e.composed) s.same
        ∙ sym (views-in g closed v s.second.world x r h k e.composed))

-- the host of a root, where that is the owner's shadow root
abbrev pub above_as : World → NodeName → Owner → Option NodeName
above_as w r o = option_and_then (some_if (name_eq r (shadow_root_of o))) (host_of w o)

-- nodes with one root have one host above
pub above-sibling : {host : NodeName} (w : World) (x y : NodeName) → host_above w x ≡ Some host → y.owner ≡ x.owner → root_at w y ≡ root_at w x →
    host_above w y ≡ Some host
above-sibling w x y h e r = ap (above_as w (root_at w y)) e ∙ ap (λ z. above_as w z x.owner) r ∙ h

-- The outward event of a dispatch of an owner outside a group, in the words of its parts: the target, and whether there is a related node.
abbrev pub outward_at : (Owner → Bool) → World → NodeName → EventWords → Option NodeName → Option OutwardEvent
outward_at group w x e None = if e.composed then option_map (outward_of e) (boundary_host group w x) else None
outward_at group w x e (Some y) = None

-- an event that is not composed stays inside
pub no_outward-kept : (group : Owner → Bool) (w : World) (x : NodeName) (e : EventWords) (r : Option NodeName) → e.composed ≡ false →
    outward_at group w x e r ≡ None
no_outward-kept group w x e None c = ap (λ b. if b then option_map (outward_of e) (boundary_host group w x) else None) c
no_outward-kept group w x e (Some y) c = refl

-- a composed one is seen at the boundary host
pub outward-composed : (group : Owner → Bool) (w : World) (x : NodeName) (e : EventWords) → e.composed ≡ true →
    outward_at group w x e None ≡ option_map (outward_of e) (boundary_host group w x)
outward-composed group w x e c = ap (λ b. if b then option_map (outward_of e) (boundary_host group w x) else None) c

-- where a related node is given, it has the target's root
abbrev pub HasSameRoot : World → NodeName → Option NodeName → Type 0
HasSameRoot w x related = AllByRecursion (λ y. (y.owner ≡ x.owner) × (root_at w y ≡ root_at w x)) (option_to_list related)

-- an outward event, if there is one
abbrev pub outward_run : World → Option OutwardEvent → Run World
outward_run w o = run_each outward_in w (option_to_list o)

-- one item alone
pub run_each-one : {S A : Type 0} (f : S → A → Run S) (s : S) (x : A) → run_each f s (x ∷ []) ≡ f s x
run_each-one f s x = ap (λ ls. ((f s x).0, ls)) (append-nil (f s x).1)

-- steps may be made in them
pub same-ground : {g : Owner → Bool} {w v : World} → IsSameWorld g w v → IsSameGround g w v
same-ground {w} {v} a = record { first = ground-of w a.first.world; second = ground-of v a.second.world; same = a.same }

module _ (g : Owner → Bool) (closed : KeepsMakers g) where
  -- Two runs of which the group has the same, and then two more.
  pub runs-then : (r s : Run World) (f h : World → Run World) → group_run g r ≡ group_run g s → group_run g (f r.0) ≡ group_run g (h s.0) →
      group_run g (run_then r f) ≡ group_run g (run_then s h)
  runs-then r s f h a b =
      let test : Output → Bool = λ l. is_of g (owner_of_output l) in
      ap (λ ls. (group_world g (f r.0).0, ls)) (filter-append test r.1 (f r.0).1)
      ∙ ap (λ (q : Run World). (q.0, group_outputs g r.1 ++ q.1)) b
      ∙ ap (λ (q : Run World). (group_world g (h s.0).0, q.1 ++ group_outputs g (h s.0).1)) a
      ∙ sym (ap (λ ls. (group_world g (h s.0).0, ls)) (filter-append test s.1 (h s.0).1))

  -- a run that shows nothing comes first
  pub quiet-then : (r : Run World) (w : World) (f : World → Run World) (s : Run World) → group_run g r ≡ (group_world g w, []) →
      group_run g (f r.0) ≡ group_run g s → group_run g (run_then r f) ≡ group_run g s
  quiet-then r w f s a b =
      let test : Output → Bool = λ l. is_of g (owner_of_output l) in
      ap (λ ls. (group_world g (f r.0).0, ls)) (filter-append test r.1 (f r.0).1)
      ∙ ap (λ (q : Run World). (group_world g (f r.0).0, q.1 ++ group_outputs g (f r.0).1)) a ∙ b

  -- no view at a node of the group
  abbrev NoView : World → NodeName → Option NodeName → Bool → Type 0
  NoView w x r composed = filter (in_view g) (views w x r composed) ≡ []

  -- What an event of another node comes to: no outward event, and it shows the group nothing,
  pub record StaysAway (w : World) (x : NodeName) (r : Option NodeName) (e : EventWords) : Type 0 where
    pub none : outward_at g w x e r ≡ None
    pub unseen : NoView w x r e.composed

  -- or an outward event, which shows the group what one at its boundary host shows.
  pub record GoesOut (w : World) (x : NodeName) (r : Option NodeName) (e : EventWords) : Type 0 where
    pub host : NodeName
    pub inside : in_node g host ≡ true
    pub event : outward_at g w x e r ≡ Some (outward_of e host)
    pub words : e ≡ outward_words (outward_of e host)
    pub shown : filter (in_view g) (views w x r e.composed) ≡ filter (in_view g) (views w host None e.composed)

  -- one of the two
  pub comes_to : {w : World} → IsWorld w → (x : NodeName) (r : Option NodeName) (e : EventWords) → in_node g x ≡ false → HasSameRoot w x r →
      StaysAway w x r e ⊎ GoesOut w x r e
  comes_to {w} i x r e h same = by_cases e.composed (λ c. sent c r same) kept
    where
      kept : e.composed ≡ false → StaysAway w x r e ⊎ GoesOut w x r e
      kept c = inl (record { none = no_outward-kept g w x e r c; unseen = subst (NoView w x r) (sym c) (views-kept_in g closed w i x r h) })

      alone : e.composed ≡ true → (b : Option NodeName) → boundary_host g w x ≡ b → StaysAway w x None e ⊎ GoesOut w x None e
      alone c None t =
          inl (record {
            none = outward-composed g w x e c ∙ ap (option_map (outward_of e)) t;
            unseen = views-far g closed w i x None e.composed (exit-away g closed w i x t);
          })
      alone c (Some host) t =
          let k = has-exit g closed w i x host t in
          inr (record {
            host = host;
            inside = k.inside;
            event = outward-composed g w x e c ∙ ap (option_map (outward_of e)) t;
            words = ap (λ b. record e { composed = b }) c;
            shown = subst (λ b. filter (in_view g) (views w x None b) ≡ filter (in_view g) (views w host None b)) (sym c)
                (views-exit g closed w i x host k);
          })

      near : (y : NodeName) → e.composed ≡ true → HasSameRoot w x (Some y) → (o : Option NodeName) → host_above w x ≡ o → NoView w x (Some y) e.composed
      near y c s None k =
          views-far g closed w i x (Some y) e.composed
          (subst (AllByRecursion (λ y. in_node g y ≡ false)) (sym (hosts-alone (owner_depth x.owner) w x k)) (h, tt))
      near y c s (Some host) k =
          subst (NoView w x (Some y)) (sym c)
          (views-related g closed w i x y host h (below-host w i x host k) (below-host w i y host (above-sibling w x y k s.0.0 s.0.1)))

      sent : e.composed ≡ true → (r : Option NodeName) → HasSameRoot w x r → StaysAway w x r e ⊎ GoesOut w x r e
      sent c None s = alone c (boundary_host g w x) refl
      sent c (Some y) s = inl (record { none = refl; unseen = near y c s (host_above w x) refl })

  -- What outward events do in the silent run that is told how far others let them come.
  abbrev pub outward_told : Option ℕ → World → Option OutwardEvent → Run World
  outward_told reached v o = run_each (outward_under g reached) v (option_to_list o)

  -- a dispatch at another node, whatever others' listeners do
  pub touched-out : {w v : World} → IsSameWorld g w v → (x : NodeName) (r : Option NodeName) (e : EventWords) → in_node g x ≡ false → HasSameRoot w x r →
      group_run g (dispatch_in w x r e).run ≡ group_run g (outward_told (interference_at g w x r e).reached v (outward_at g w x e r))
  touched-out {w} {v} s x r e h same =
      let reached = (interference_at g w x r e).reached in
      elim (comes_to s.first.world x r e h same) [
        | inl k ↦ no_dispatch g w s.first.world x r e k.unseen ∙ ap (λ u. (u, [])) s.same ∙ sym (ap (λ o. group_run g (outward_told reached v o)) k.none)
        | inr k ↦ ap (λ (d : Dispatched World). d.run)
            (touched-by g s e x r k.host None
            (k.shown ∙ views-in g closed w s.first.world k.host None k.inside tt e.composed ∙ ap (λ u. views u k.host None e.composed) s.same
            ∙ sym (views-in g closed v s.second.world k.host None k.inside tt e.composed)))
            ∙ ap (λ e. group_run g (dispatch_under g (record untouched { reached = reached }) v k.host None e).run) k.words
            ∙ sym (ap (group_run g) (run_each-one (outward_under g reached) v (outward_of e k.host)))
            ∙ sym (ap (λ o. group_run g (outward_told reached v o)) k.event)
      ]
