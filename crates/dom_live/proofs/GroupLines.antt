-- What commands do to a group that keeps makers: its own what they do in the run in which all others are silent, and others' nothing, but for the visits of
-- their outward events.
use Rattle.dom_base.proofs.Std.{◌≡◌, Bool, true, false, List, [], ◌∷◌, ◌++◌, length, map, filter, Option, Some, None, option_map, unwrap_or, last_or, refl, sym}
use Rattle.dom_base.proofs.Std.{ap, ◌∙◌, true≢false, AllByRecursion, append-nil, filter-append, option_to_list}
use Rattle.dom_model.proofs.Model.{Owner, Page, Component, NodeName, Shadow, last_of, node_in, is_document, kind_of, Command, NodeWord}
use Rattle.dom_model.proofs.Model.{EventWords, effect, Value, Said, says, replied, nothing, a_component}
use Rattle.dom_model.proofs.Model.{a_list, a_truth, Part, Run, answering, named, Effect, tables}
use Rattle.dom_model.proofs.Model.{changes, World, micro_task, part_of, with_part}
use Rattle.dom_model.proofs.Model.{kind_at, is_connected, component_made, shadow_including_ancestors, world_after}
use Rattle.dom_model.proofs.Model.{assigned_nodes, effect_in, attaching, part_with_root, perform, KeepsMakers, group_world, group_outputs, group_run}
use Rattle.dom_model.proofs.Model.{is_task_of, owner-part_of, is_of, owner_of_output, views, visits_of, name_eq}
use Rattle.dom_worlds.proofs.OwnerLemmas.{owner-named}
use Rattle.dom_worlds.proofs.CommandLemmas.{KeepsBase, base-effect, accepted-facts, attach-may, Holds, holds-effect}
use Rattle.dom_worlds.proofs.ListLemmas.{by_cases}
use Rattle.dom_isolation.proofs.GroupSlots.{in_node, part-in, part-out, with_part-in, with_part-out, filter-here, filter-away, filter-twice, IsGround}
use Rattle.dom_isolation.proofs.GroupSlots.{assigned-in, group-twice, made-outside}
use Rattle.dom_isolation.proofs.GroupSteps.{IsSameGround, steps-out}
use Rattle.dom_isolation.proofs.GroupPaths.{In, including-in, including-inside, views-in}
use Rattle.dom_isolation.proofs.GroupDispatches.{quiet-then}
use Rattle.dom_isolation.proofs.GroupCommands.{refusal-in, effect-in}
use Rattle.dom_isolation.proofs.OwnVisits.{group_visits, in_view}
use Rattle.dom_model.proofs.Model.{empty_part, MayAttach}
use Rattle.dom_base.proofs.Std.{◌<◌, subst, arith}
use Rattle.dom_worlds.specs.Definitions.{IsPart, IsOf}
use Rattle.dom_live.specs.Documents.{world_visits, silent_documents}
use Rattle.dom_live.specs.Groups.{is_own_visit}
use Rattle.dom_live.specs.Laws.{IsLiveWorld}
use Rattle.dom_live.proofs.OtherLines.{is_still, LeavesOthers, Takes, Shows}
use Rattle.dom_live.proofs.OwnLines.{ObeysOwn}
use Rattle.dom_live.proofs.OutwardLines.{own-visits, dispatch-shows}
use Rattle.dom_live.proofs.Turned.{turned, views-turned}
use Rattle.dom_model.specs.Groups.{group_turn}

-- what holds of all holds of the last, or of another
last-holds : (P : NodeName → Type 0) (d : Option NodeName) (xs : List NodeName) (x : NodeName) → AllByRecursion P xs → P (unwrap_or d x) →
    P (unwrap_or (last_or d xs) x)
last-holds P d [] x a h = h
last-holds P d (y ∷ ys) x a h = last-holds P (Some y) ys x a.1 a.0

module _ (g : Owner → Bool) (closed : KeepsMakers g) where
  -- what the group has of a live world is such ground
  ground-view : (w : World) → IsLiveWorld w → IsGround (group_world g w)
  ground-view w i = record {
    parts = λ o. by_cases (g o) (λ h. subst IsPart (sym (part-in g w o h)) (i.parts o)) (λ h. subst IsPart (sym (part-out g w o h)) (empty o));
    hosts = λ o. by_cases (g o) (λ h. subst (λ (p : Part). AllByRecursion (IsOf o) p.attached) (sym (part-in g w o h)) (i.hosts o))
        (λ h. subst (λ (p : Part). AllByRecursion (IsOf o) p.attached) (sym (part-out g w o h)) tt);
    makers = λ o. by_cases (g o) (λ h. subst (λ (p : Part). 0 < length p.attached → MayAttach o) (sym (part-in g w o h)) (i.makers o))
        (λ h. subst (λ (p : Part). 0 < length p.attached → MayAttach o) (sym (part-out g w o h)) (λ k. absurd (omega (arith, k))));
  }
    where
      empty : (o : Owner) → IsPart (empty_part o)
      empty o = record { unique = λ x. omega arith; owned = λ x h. absurd (omega (arith, h)); numbered = λ x h. absurd (omega (arith, h)) }

  -- so steps may be made in both
  both-grounds : (w : World) → IsLiveWorld w → IsSameGround g w (group_world g w)
  both-grounds w i = record {
    first = record { parts = i.parts; hosts = i.hosts; makers = i.makers };
    second = ground-view w i;
    same = sym (group-twice g w);
  }

  -- Events in a live world.
  module _ (w : World) (i : IsLiveWorld w) where
    -- what an event at a node of the group visits of it is what it visits where no others are
    visits-in : (x : NodeName) (r : Option NodeName) → g x.owner ≡ true →
        AllByRecursion (λ y. in_node g y ≡ true) (option_to_list r) → (words : EventWords) →
        filter (is_own_visit g) (world_visits w x r words) ≡ (silent_documents g).visits (group_world g w) x r words
    visits-in x r h k words =
        let v = group_world g w in
        let inside : filter (in_view g) (views (turned w (Some Page)) x r words.composed) ≡ views v x r words.composed =
        views-in g closed (turned w (Some Page)) i x r h k words.composed ∙ views-turned v (group_turn g (Some Page)) x r words.composed in
        own-visits g w x r words
        ∙ ap (visits_of name_eq words.bubbles)
        (sym (filter-twice (in_view g) (views (turned w (Some Page)) x r words.composed)) ∙ ap (filter (in_view g)) inside)
        ∙ sym (group_visits g words.bubbles (views v x r words.composed))

  -- a reply in two worlds of which the group has the same
  answered : (o : Owner) (a : Value) (u v : World) → group_world g u ≡ group_world g v → group_run g (answering o a u) ≡ group_run g (answering o a v)
  answered o a u v same = ap (λ x. (x, group_outputs g (says o (replied a) ∷ []))) same

  -- ---- commands of members

  module _ (w : World) (i : IsLiveWorld w) (o : Owner) (h : g o ≡ true) where
    -- what the group has
    abbrev v : World
    v = group_world g w

    -- their part is in it
    own-part : part_of v o ≡ part_of w o
    own-part = part-in g w o h

    -- a word of theirs names a node of the group
    named-own : (a : NodeWord) → in_node g (named (part_of w o) a) ≡ true
    named-own a = ap g (owner-named (part_of w o) a ∙ owner-part_of w o) ∙ h

    -- an attach writes the part of the member, and the new component's, which may be of the group or outside
    attach-own : (x : NodeName) → group_run g (attaching w o x) ≡ group_run g (attaching v o x)
    attach-own x =
        let p = part_of w o in
        let c = component_made o (length p.attached) in
        let q : Part = record p { attached = p.attached ++ x ∷ [] } in
        let root = part_with_root c Shadow (node_in p.trees x).document in
        let made : Part → Run World = λ p. answering o (a_component (component_made o (length p.attached)))
        (with_part (with_part v (record p { attached = p.attached ++ x ∷ [] }))
        (part_with_root (component_made o (length p.attached)) Shadow (node_in p.trees x).document)) in
        let mine = ap g (owner-part_of w o) ∙ h in
        let marked : group_world g (with_part w q) ≡ group_world g (with_part v q) =
        with_part-in g w q mine ∙ ap (λ u. with_part u q) (sym (group-twice g w)) ∙ sym (with_part-in g v q mine) in
        answered o (a_component c) (with_part (with_part w q) root) (with_part (with_part v q) root)
        (by_cases (g c)
        (λ t. with_part-in g (with_part w q) root t ∙ ap (λ u. with_part u root) marked ∙ sym (with_part-in g (with_part v q) root t))
        (λ t. with_part-out g (with_part w q) root t ∙ marked ∙ sym (with_part-out g (with_part v q) root t)))
        ∙ ap (λ p. group_run g (made p)) (sym own-part)

    -- whether a node is connected
    connected-own : (x : NodeName) → in_node g x ≡ true → is_connected v x ≡ is_connected w x
    connected-own x k =
        let ground : IsGround w = record { parts = i.parts; hosts = i.hosts; makers = i.makers } in
        let last = unwrap_or (last_of (shadow_including_ancestors w x)) x in
        ap (λ xs. is_document (kind_at v (unwrap_or (last_of xs) x))) (including-in g closed w ground x k)
        ∙ ap (λ (p : Part). is_document (kind_of p.trees last))
        (part-in g w last.owner (last-holds (In g closed w ground) None (shadow_including_ancestors w x) x (including-inside g closed w ground x k) k))

    -- what is asked of a node
    asked-own : {A : Type 0} (say : A → Value) (ask : World → NodeName → A) (a : NodeWord) →
        ask v (named (part_of w o) a) ≡ ask w (named (part_of w o) a) →
        group_run g (answering o (say (ask w (named (part_of w o) a))) w) ≡ group_run g (answering o (say (ask v (named (part_of v o) a))) v)
    asked-own say ask a same =
        answered o (say (ask w (named (part_of w o) a))) w v (sym (group-twice g w))
        ∙ ap (λ b. group_run g (answering o (say b) v)) (sym same)
        ∙ ap (λ p. group_run g (answering o (say (ask v (named p a))) v)) (sym own-part)

    -- any without an event
    performs-own : (c : Command) → is_still c ≡ true → group_run g (perform w o c) ≡ group_run g (perform v o c)
    performs-own (Command.attach a) q = attach-own (named (part_of w o) a) ∙ ap (λ p. group_run g (attaching v o (named p a))) (sym own-part)
    performs-own (Command.connected a) q = asked-own a_truth is_connected a (connected-own (named (part_of w o) a) (named-own a))
    performs-own (Command.assigned a) q =
        asked-own a_list assigned_nodes a
        (assigned-in g closed w (record { parts = i.parts; hosts = i.hosts; makers = i.makers }) (named (part_of w o) a) (named-own a))
    performs-own (Command.dispatch a e r) q = absurd (true≢false (sym q))
    performs-own (Command.micro label) q =
        let more : (u : World) → group_world g (record u { tasks = u.tasks ++ micro_task o label ∷ [] })
        ≡ record (group_world g u) { tasks = (group_world g u).tasks ++ micro_task o label ∷ [] } = λ u.
        ap (λ ts. record (group_world g u) { tasks = ts }) (filter-append (is_task_of g) u.tasks (micro_task o label ∷ [])
        ∙ ap (λ ts. filter (is_task_of g) u.tasks ++ ts) (filter-here (is_task_of g) (micro_task o label) [] h)) in
        answered o nothing _ _ (more w ∙ ap (λ (u : World). record u { tasks = u.tasks ++ micro_task o label ∷ [] }) (sym (group-twice g w)) ∙ sym (more v))
    performs-own Command.end_turn q = absurd (true≢false (sym q))
    performs-own c q =
        effect-in g closed (both-grounds w i) o h (effect (part_of w o) c) (base-effect (part_of w o) c)
        ∙ ap (λ p. group_run g (effect_in v o (effect p c))) (sym own-part)

  -- Members obey.
  pub group-obeys : ObeysOwn g (group_world g) (silent_documents g)
  group-obeys = record {
    refuses = λ w o c s. refusal-in g closed (group_world g w) w (group-twice g w) o s.side c;
    performs = λ w o c t q. performs-own w t.stands.world o t.stands.side c q;
    visits = λ w o x words r s. visits-in w s.world (named (part_of w o) x) (option_map (named (part_of w o)) r) (named-own w s.world o s.side x)
        (near w o s.side s.world r) words;
  }
    where
      near : (w : World) (o : Owner) → g o ≡ true → IsLiveWorld w → (r : Option NodeWord) →
          AllByRecursion (λ y. in_node g y ≡ true) (option_to_list (option_map (named (part_of w o)) r))
      near w o h i None = tt
      near w o h i (Some a) = (named-own w i o h a, tt)

  -- ---- commands of others

  -- a run of which the group has nothing
  abbrev ShowsNothing : World → Run World → Type 0
  ShowsNothing w r = group_run g r ≡ (group_world g w, [])

  module _ (w : World) (o : Owner) (other : g o ≡ false) where
    -- a reply
    answered-out : (a : Value) (u : World) → group_world g u ≡ group_world g w → ShowsNothing w (answering o a u)
    answered-out a u same =
        ap (λ x. (x, group_outputs g (says o (replied a) ∷ []))) same
        ∙ ap (λ ls. (group_world g w, ls)) (filter-away (λ l. is_of g (owner_of_output l)) (says o (replied a)) [] other)

    -- lines
    says-out : (ls : List Said) → group_outputs g (map (says o) ls) ≡ []
    says-out [] = refl
    says-out (s ∷ ls) = filter-away (λ l. is_of g (owner_of_output l)) (says o s) (map (says o) ls) other ∙ says-out ls

    -- an effect
    effect-out : IsGround w → (e : Effect) → KeepsBase (part_of w o) e → Holds (part_of w o) e → ShowsNothing w (effect_in w o e)
    effect-out i (tables p lines a) k f =
        let here = with_part-out g w p (ap g (k.0 ∙ owner-part_of w o) ∙ other) in
        quiet-then g closed (with_part w p, map (says o) lines) w (answering o a) (w, [])
        (ap (λ u. (u, group_outputs g (map (says o) lines))) here ∙ ap (λ ls. (group_world g w, ls)) (says-out lines))
        (answered-out a (with_part w p) here)
    effect-out i (changes steps a) k f = answered-out a (world_after o w steps) (steps-out g closed o other steps w i f)

    -- an attach writes two parts outside
    attach-out : (x : NodeName) → g (component_made o (length (part_of w o).attached)) ≡ false → ShowsNothing w (attaching w o x)
    attach-out x t =
        let p = part_of w o in
        let c = component_made o (length p.attached) in
        let q : Part = record p { attached = p.attached ++ x ∷ [] } in
        let root = part_with_root c Shadow (node_in p.trees x).document in
        answered-out (a_component c) (with_part (with_part w q) root)
        (with_part-out g (with_part w q) root t ∙ with_part-out g w q (ap g (owner-part_of w o) ∙ other))

  -- any without an event
  performs-out : (w : World) (o : Owner) (c : Command) → Takes g false w o c → is_still c ≡ true → ShowsNothing w (perform w o c)
  performs-out w o (Command.attach a) t q =
      let known = accepted-facts w o (Command.attach a) t.accepted in
      attach-out w o t.stands.side (named (part_of w o) a)
      (made-outside g closed o (length (part_of w o).attached) (attach-may w o a known.part) t.stands.side)
  performs-out w o (Command.connected a) t q = answered-out w o t.stands.side _ w refl
  performs-out w o (Command.assigned a) t q = answered-out w o t.stands.side _ w refl
  performs-out w o (Command.dispatch a e r) t q = absurd (true≢false (sym q))
  performs-out w o (Command.micro label) t q =
      answered-out w o t.stands.side nothing (record w { tasks = w.tasks ++ micro_task o label ∷ [] })
      (ap (λ ts. record (group_world g w) { tasks = ts })
      (filter-append (is_task_of g) w.tasks (micro_task o label ∷ [])
      ∙ ap (λ ts. filter (is_task_of g) w.tasks ++ ts) (filter-away (is_task_of g) (micro_task o label) [] t.stands.side)
      ∙ append-nil (filter (is_task_of g) w.tasks)))
  performs-out w o Command.end_turn t q = absurd (true≢false (sym q))
  performs-out w o c t q =
      let known = accepted-facts w o c t.accepted in
      let p = part_of w o in
      let i = t.stands.world in
      let k = t.stands.whole.whole in
      effect-out w o t.stands.side (record { parts = i.parts; hosts = i.hosts; makers = i.makers }) (effect p c) (base-effect p c)
      (holds-effect p (i.parts o) (k.tables o) (k.first o known.there) c known.part)

  -- Others leave the group as it is.
  pub group-leaves : LeavesOthers g (group_world g) (silent_documents g)
  group-leaves = record {
    performs = λ w o c t q. let h = performs-out w o c t q in (ap (λ (r : Run World). r.0) h, ap (λ (r : Run World). r.1) h);
    dispatches = dispatches;
  }
    where
      dispatches : (w : World) (o : Owner) (x : NodeWord) (words : EventWords) (r : Option NodeWord) →
          Takes g false w o (Command.dispatch x words r) → Shows g (group_world g) (silent_documents g) w o x words r
      dispatches w Page x words r t = absurd (true≢false (sym closed.page ∙ t.stands.side))
      dispatches w (Component k) x words r t = dispatch-shows closed w k x words r t (silent_documents g)
          (λ host h words. visits-in w t.stands.world host None h tt words)
