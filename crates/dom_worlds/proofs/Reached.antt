-- What holds of every world that the machine reaches, all in one; and what follows of shadow roots, hosts, slots and who is there.
use Rattle.dom_base.proofs.Std.{◌≡◌, ◌≢◌, ℕ, suc, Bool, false, List, [], ◌∷◌, ◌++◌, length, filter, Some, refl, sym, ap, ◌∙◌, arith, subst, append-nil}
use Rattle.dom_base.proofs.Std.{length-append, ◌≤◌, true, true≢false, not, map, zero, ◌+◌, ◌<◌, position, Option, None, option_map, is_none, option_to_list}
use Rattle.dom_base.proofs.Std.{is_some, slice_get, nat_lt, cond, drop, option_map_or, option_and_then, cond-true, cond-false, false_from_ne_true, and_parts}
use Rattle.dom_base.proofs.Std.{not-true, lt-ltb, filter-append, AllByRecursion, position_or_len, or_right, or_left}
use Rattle.dom_model.proofs.Model.{Owner, Page, Component, NodeName, Shadow, owner_eq, first_of, name_eq, is_in, node_in, names_of, roots, trees_below, subtree}
use Rattle.dom_model.proofs.Model.{children_of, times_in, Trees, none, tree, nodes, has_node, inclusive_ancestors, on_top, named, first_world, part_with_root}
use Rattle.dom_model.proofs.Model.{effect_in, attaching, step, run_lines, finish, Effect, tables, changes, Part, World, micro_task, part_of, with_part}
use Rattle.dom_model.proofs.Model.{is_there, component_made, made_by, MayAttach, trees_with, some_if, root_at, shadow_root_of, host_of, ne-owner_eq}
use Rattle.dom_model.proofs.Model.{made_by-made, component_made-other, owner_eq-true, owner_eq-false, name_eq-same, made_by-is, word-made, name_eq-turned}
use Rattle.dom_model.proofs.Model.{owner-part_of, Line, effect, slottables_of, is_assigned_to, line_may_stop, no_component_stops_from, ending_turn}
use Rattle.dom_model.proofs.Model.{ending_other_turn}
use Rattle.dom_worlds.specs.Definitions.{Invariant, IsReached, FirstIsReached, StepKeepsReached, EndingKeepsReached, FinishKeepsReached, ScriptsReach}
use Rattle.dom_worlds.specs.Definitions.{QuietScriptsReach, AssignedAreSiblings, ShadowRootsAreRoots, NoOtherShadowRoots, AttachedAreThere, OwnersHaveWords}
use Rattle.dom_worlds.specs.Definitions.{HostsAreTheirs, owners_in, IsThere, task_owner, components_of, is_made_by, is_unmade, HasOwners, IsWorld, IsOf}
use Rattle.dom_worlds.specs.Definitions.{IsShadowOf, MayBeShadow, times_among}
use Rattle.dom_worlds.proofs.Effects.{KeepsBase, base-effect, attach-may}
use Rattle.dom_worlds.proofs.StepKeeps.{quiet-first, quiet-attaching, by_owner, attached-maker, attached-new, attached-other, attached-there, OkFor, quiet-step}
use Rattle.dom_worlds.proofs.StepKeeps.{any-line, quiet-keeps}
use Rattle.dom_worlds.proofs.Invariants.{Keeps, Any, both-keep, kept-ending_other, kept-ending_turn, kept-finish, kept-lines, kept-step}
use Rattle.dom_worlds.proofs.Lists.{all-append, all-then, all-filter, by_cases, or-later, by_some_is}
use Rattle.dom_worlds.proofs.OwnerSteps.{IsPresent, IsPeopled, same-people, peopled-with_part, peopled-world_after, peopled-dispatch, peopled-told, people}
use Rattle.dom_worlds.proofs.Turns.{at_end, quiet-ending_turn, quiet-ending_other}
use Rattle.dom_worlds.proofs.Owners.{has_owner, there-listed, owners-put, owners-put_new, absent-part, made_by-told, next-absent, owner-named, hosted}
use Rattle.dom_worlds.proofs.Owners.{hosted-owned, hosted-maker, hosted-there, there-hosted}
use Rattle.dom_worlds.proofs.ShadowTrees.{owned-in}
use Rattle.dom_worlds.proofs.KindLines.{all-kinds, AllKinds, kinds-first, kinds-keeps}
use Rattle.dom_laws.proofs.Laws.{times_subtree, once_parts, Once, times-elsewhere, path_none}
use Rattle.dom_worlds.proofs.TreeChangeLaws.{times-below, HasRoot}
use Rattle.dom_worlds.proofs.InsideAncestors.{roots-there, in-later}
use Rattle.dom_base.specs.Owners.{has_word}
use Rattle.dom_worlds.proofs.PartSteps.{node-read, name-node_in, fragment-no_shadow}
use Rattle.dom_worlds.proofs.ShadowRoots.{kind-root}
use Rattle.dom_worlds.proofs.Trees.{root-there}
use Rattle.dom_worlds.proofs.WorldSteps.{own-part}

-- The first world, and attaching.
pub peopled-first : IsPeopled first_world
peopled-first =
    record {
      owners = record { first = refl; unmade = refl; made = none_made; turn = tt; tasks = tt; signalled = tt };
      makers = (quiet-first {only_log = false}).world.makers;
    }
  where
    none_made : (o : Owner) → filter (is_made_by o) (owners_in first_world) ≡ components_of o (length (part_of first_world o).attached)
    none_made Page = refl
    none_made (Component k) = refl

-- a component that an owner made is added to the owners of a world
record AddsOwner (w v : World) (c o : Owner) (n : ℕ) : Type 0 where
  named : made_by c ≡ Some (o, n)
  owners : owners_in v ≡ owners_in w ++ c ∷ []

-- where one is added that another owner made, an owner's components stay
none-more : {w v : World} {c o : Owner} {n : ℕ} → AddsOwner w v c o n → HasOwners w → (a : Owner) → a ≢ o → (part_of v a).attached ≡ (part_of w a).attached →
    filter (is_made_by a) (owners_in v) ≡ components_of a (length (part_of v a).attached)
none-more {w} {v} {c} {o} adds i a f same =
    let other : is_made_by a c ≡ false = ap (λ x. option_map_or (λ (m : Owner × ℕ). owner_eq m.0 a) x false) adds.named ∙ ne-owner_eq o a (λ e. f (sym e)) in
    ap (filter (is_made_by a)) adds.owners ∙ filter-append (is_made_by a) (owners_in w) (c ∷ [])
    ∙ ap (λ os. filter (is_made_by a) (owners_in w) ++ os) (cond-false (is_made_by a c) (c ∷ []) [] other)
    ∙ append-nil (filter (is_made_by a) (owners_in w)) ∙ i.made a ∙ sym (ap (λ (hs : List NodeName). components_of a (length hs)) same)

-- attaching adds the new component
peopled-attaching : {w : World} {o : Owner} (x : NodeName) → MayAttach o → x.owner ≡ o → IsPresent w o → Invariant false w → IsPeopled (attaching w o x).0
peopled-attaching {w} {o} x may h k q =
    let p = part_of w o in
    let n = length p.attached in
    let c = component_made o n in
    let more = record p { attached = p.attached ++ x ∷ [] } in
    let marked = with_part w more in
    let v = (attaching w o x).0 in
    let absent : IsThere w c → ⊥ = next-absent w k.people.makers k.people.owners o may in
    let marked_owners : owners_in marked ≡ owners_in w = owners-put w.parts more (subst (IsThere w) (sym (owner-part_of w o)) k.there) in
    let off : has_owner (owners_in marked) c ≡ false =
    ap (λ os. has_owner os c) marked_owners ∙ sym (there-listed w.parts c) ∙ false_from_ne_true (is_there w c) absent in
    let owners : owners_in v ≡ owners_in w ++ c ∷ [] =
    owners-put_new marked.parts (part_with_root c Shadow (node_in p.trees x).document) off ∙ ap (λ os. os ++ c ∷ []) marked_owners in
    let named : made_by c ≡ Some (o, n) = made_by-made o n may in
    let adds : AddsOwner w v c o n = record { named = named; owners = owners } in
    let filtered : (f : Owner → Bool) → filter f (owners_in v) ≡ filter f (owners_in w) ++ filter f (c ∷ []) =
    λ f. ap (filter f) owners ∙ filter-append f (owners_in w) (c ∷ []) in
    let stays : (a : Owner) → IsThere w a → IsThere v a = attached-there w o x may in
    record {
      owners = record {
        first = ap first_of owners ∙ first-more (owners_in w) (c ∷ []) k.people.owners.first;
        unmade = filtered is_unmade ∙ ap (λ os. os ++ filter is_unmade (c ∷ [])) k.people.owners.unmade
            ∙ ap (λ os. Page ∷ os) (cond-false (is_unmade c) (c ∷ []) [] (ap is_none named));
        made = by_owner (λ a. filter (is_made_by a) (owners_in v) ≡ components_of a (length (part_of v a).attached)) o c (record {
          first = let longer = length-append p.attached (x ∷ []) in
              let count : length (part_of v o).attached ≡ suc n = ap (λ (q : Part). length q.attached) (attached-maker w o x may) ∙ omega (arith, longer) in
              filtered (is_made_by o) ∙ ap (λ os. os ++ filter (is_made_by o) (c ∷ [])) (k.people.owners.made o)
              ∙ ap (λ os. components_of o n ++ os) (cond-true (is_made_by o c) (c ∷ []) [] (made_by-told c o n named))
              ∙ sym (ap (components_of o) count);
          second = none-more adds k.people.owners c (component_made-other o n)
              (ap (λ (q : Part). q.attached) (attached-new w o x may) ∙ sym (ap (λ (q : Part). q.attached) (absent-part w c absent)));
          others = λ a f g. none-more adds k.people.owners a f (ap (λ (q : Part). q.attached) (attached-other w o x may a f g));
        });
        turn = all-then (IsThere w) (IsThere v) stays (option_to_list w.turn) k.people.owners.turn;
        tasks = all-then (λ t. IsThere w (task_owner t)) (λ t. IsThere v (task_owner t)) (λ t. stays (task_owner t)) w.tasks k.people.owners.tasks;
        signalled = all-then (λ (s : NodeName). IsThere w s.owner) (λ s. IsThere v s.owner) (λ s. stays s.owner) w.signalled k.people.owners.signalled;
      };
      makers = (quiet-attaching w o x may h q).world.makers;
    }
  where
    first-more : (os more : List Owner) → first_of os ≡ Some Page → first_of (os ++ more) ≡ Some Page
    first-more [] more e = cc
    first-more (a ∷ os) more e = e

-- Other commands.
peopled-effect : {w : World} {o : Owner} (e : Effect) → IsPresent w o → KeepsBase (part_of w o) e → IsPeopled (effect_in w o e).0
peopled-effect {w} {o} (tables p lines v) h base = peopled-with_part w p o (base.0 ∙ owner-part_of w o) h.there base.1.attached h.people
peopled-effect {w} {o} (changes steps v) h base = peopled-world_after o steps w h

-- what lines consist of keeps who is there
pub peopled-keeps : Keeps (OkFor false) (Invariant false) IsPeopled
peopled-keeps =
    record {
      turns = record {
        dispatch = λ w x related e q i. peopled-dispatch w q.world x related e i;
        at_end = λ w q i. same-people (at_end w) (refl, λ x. refl) tt tt i.owners.signalled i;
        told = λ w o t q i. peopled-told w o t i;
      };
      turned = λ w o e t q i. same-people (record w { turn = Some o }) (refl, λ x. refl) (t, tt) i.owners.tasks i.owners.signalled i;
      attach = λ w o x m q i. peopled-attaching (named (part_of w o) x) (attach-may w o x m.part) (owner-named (part_of w o) x ∙ owner-part_of w o)
          (record { there = m.there; people = i }) q;
      micro = λ w o label m q i. same-people (record w { tasks = w.tasks ++ micro_task o label ∷ [] }) (refl, λ x. refl) i.owners.turn
          (all-append (λ t. IsThere w (task_owner t)) w.tasks (micro_task o label ∷ []) i.owners.tasks (m.there, tt)) i.owners.signalled i;
      effect = λ w o c m q i. peopled-effect (effect (part_of w o) c) (record { there = m.there; people = i }) (base-effect (part_of w o) c);
    }

-- what the laws ask for
pub sound : {only_log : Bool} (w : World) → IsReached only_log w → Invariant only_log w
sound w r = record { world = r.world; logs = r.logs }

-- whatever the listeners do
pub any-reached : {only_log : Bool} (w : World) → IsReached only_log w → IsReached false w
any-reached w r = record { world = r.world; kinds = r.kinds; owners = r.owners; logs = λ e. absurd (true≢false (sym e)) }

-- The three invariants of reached worlds.
abbrev pub IsSound : World → Type 0
IsSound w = (Invariant false w × IsPeopled w) × AllKinds w

-- they hold of a reached world
pub sound-of : {only_log : Bool} (w : World) → IsReached only_log w → IsSound w
sound-of w r = ((sound w (any-reached w r), people w r), all-kinds w r.kinds)

-- and with what holds of the listeners they are all
pub reached-of : {only_log : Bool} (w : World) → Invariant only_log w → IsSound w → IsReached only_log w
reached-of w q s = record { world = q.world; kinds = s.1.parts; owners = s.0.1.owners; logs = q.logs }

-- what lines consist of keeps them
pub sound-keeps : Keeps (OkFor false) Any IsSound
sound-keeps = both-keep (both-keep quiet-keeps peopled-keeps) kinds-keeps

-- and so does the end of a turn
pub sound-ending_turn : (w : World) → IsSound w → IsSound (ending_turn w).0
sound-ending_turn = kept-ending_turn sound-keeps.turns (λ w s. s.0.1.owners.tasks)

-- the first world
pub first-is_reached : FirstIsReached
first-is_reached b = reached-of first_world quiet-first ((quiet-first, peopled-first), kinds-first)

-- a line
pub step-keeps_reached : StepKeepsReached
step-keeps_reached b w l r h =
    reached-of (step w l).0 (quiet-step w l (sound w r) h) (kept-step sound-keeps sound-ending_turn w l (any-line w l) (sound-of w r))

-- the ending of another component's turn
pub ending-keeps_reached : EndingKeepsReached
ending-keeps_reached b w o r =
    reached-of (ending_other_turn w o).0 (quiet-ending_other w (sound w r) o) (kept-ending_other sound-ending_turn w o (sound-of w r))

-- at the end of input
pub finish-keeps_reached : FinishKeepsReached
finish-keeps_reached b w r =
    reached-of (finish w).0 (kept-finish quiet-ending_turn w (sound w r)) (kept-finish sound-ending_turn w (sound-of w r))

-- Scripts.
module _ {L : Type 0} (read : L → Line) where
  -- from the first one on
  pub scripts-reach : ScriptsReach read
  scripts-reach ls =
      let s = kept-lines sound-keeps sound-ending_turn any-line read ls first_world (sound-of first_world (first-is_reached false)) in
      reached-of (run_lines first_world (map read ls)).0 s.0.0 s

  -- where no component listener stops or cancels
  quiet_lines-reach : (ls : List L) (w : World) → no_component_stops_from read w ls ≡ true → IsReached true w → IsReached true (run_lines w (map read ls)).0
  quiet_lines-reach [] w h r = r
  quiet_lines-reach (l ∷ ls) w h r =
      let both = and_parts (not (line_may_stop w (read l))) (no_component_stops_from read (step w (read l)).0 ls) h in
      quiet_lines-reach ls (step w (read l)).0 both.1 (step-keeps_reached true w (read l) r (λ e. not-true (line_may_stop w (read l)) both.0))

  -- from the first world on
  pub quiet_scripts-reach : QuietScriptsReach read
  quiet_scripts-reach ls h = quiet_lines-reach ls first_world h (first-is_reached true)

-- the children in a world
children-owned : (w : World) → IsWorld w → (x : NodeName) → AllByRecursion (IsOf x.owner) (children_of (trees_with w x) x)
children-owned w i x =
    let ts = trees_with w x in
    let below = trees_below (subtree ts x) in
    all-then (λ y. 1 ≤ times_in below y) (IsOf x.owner)
    (λ y h. owned-in w i x.owner y (let a = times-below (subtree ts x) y in let b = times_subtree ts x y in omega arith))
    (names_of (roots below)) (roots-there below)

-- so the assigned nodes are of the host's owner
pub assigned-are_siblings : AssignedAreSiblings
assigned-are_siblings b w r s host e =
    subst (λ o. AllByRecursion (IsOf host.owner)
    (option_map_or (slottables_of w s) (option_and_then (some_if (name_eq (root_at w s) (shadow_root_of s.owner))) o) [])) (sym e)
    (if_so (name_eq (root_at w s) (shadow_root_of s.owner)))
  where
    if_so : (t : Bool) → AllByRecursion (IsOf host.owner) (option_map_or (slottables_of w s) (some_if t host) [])
    if_so true = all-filter (IsOf host.owner) (is_assigned_to w s) (children_of (trees_with w host) host) (children-owned w r.world host)
    if_so false = tt

-- and so a node of the trees
root-has_node : (ts : Trees) (x : NodeName) → HasRoot ts x → has_node ts x ≡ true
root-has_node none x h = h
root-has_node (tree n c r) x h =
    by_cases (name_eq x n.name) (λ e. or_left (name_eq x n.name) (is_in name_eq x (names_of (nodes c ++ nodes r))) e)
    (λ e. or_right (name_eq x n.name) (is_in name_eq x (names_of (nodes c ++ nodes r)))
    (in-later x (nodes c) (nodes r) (root-has_node r x (or-later (name_eq x n.name) (is_in name_eq x (names_of (roots r))) e h))))

-- a root is its only ancestor
pub root-alone : (ts : Trees) → Once ts → (x : NodeName) → HasRoot ts x → inclusive_ancestors ts x ≡ x ∷ []
root-alone none u x h = absurd (true≢false (sym h))
root-alone (tree n c r) u x h =
    by_cases (name_eq n.name x) (λ e. cond-true (name_eq n.name x) (x ∷ []) (on_top (inclusive_ancestors c x) n.name (inclusive_ancestors r x)) e)
    (λ e. let later = or-later (name_eq x n.name) (is_in name_eq x (names_of (roots r))) (name_eq-turned x n.name ∙ e) h in
    let there = root-there r x later in
    let once = u x in
    let g = times-elsewhere n c r x e in
    cond-false (name_eq n.name x) (x ∷ []) (on_top (inclusive_ancestors c x) n.name (inclusive_ancestors r x)) e
    ∙ ap (λ p. on_top p n.name (inclusive_ancestors r x)) (path_none c x (omega arith)) ∙ root-alone r (once_parts n c r u).after x later)

-- the shadow root of an attached component
pub shadow_roots-are_roots : ShadowRootsAreRoots
shadow_roots-are_roots b w r o h =
    let x = shadow_root_of o in
    let root = r.world.shadow_roots o h in (
      root-has_node (part_of w o).trees x root.alone,
      kind-root x (part_of w o) (own-part w r.world o h),
      ap (λ path. first_of (drop 1 path)) (root-alone (part_of w o).trees (r.world.parts o).unique x root.alone),
    )

-- a node that is read as a shadow root is its owner's
pub no_other_shadow_roots : NoOtherShadowRoots
no_other_shadow_roots b w r x h =
    let p = part_of w x.owner in
    let k = r.kinds x.owner in
    let at : MayBeShadow p.owner x = subst (MayBeShadow p.owner) (name-node_in p.trees x)
    (node-read (IsShadowOf p.owner) x (λ t. absurd (fragment-no_shadow t)) p.trees k.shadows h) in
    subst (λ o. MayBeShadow o x) (owner-part_of w x.owner) at

-- who is there
pub attached-are_there : AttachedAreThere
attached-are_there b w r o f =
    by_cases (is_some (host_of w o)) (λ h. hosted-there w r.owners o h ∙ sym h)
    (λ h. false_from_ne_true (is_there w o) (λ t. true≢false (sym (there-hosted w r.world.makers r.owners o f t) ∙ h)) ∙ sym h)

-- The place of a host among those that are there once.
got-among : (xs : List NodeName) (k : ℕ) (x : NodeName) → slice_get xs k ≡ Some x → 1 ≤ times_among xs x
got-among [] k x e = cc
got-among (y ∷ ys) zero x e =
    let same : Some y ≡ Some x = e in
    let is : y ≡ x = cc in
    let one : times_among (y ∷ ys) x ≡ 1 + times_among ys x =
    ap (λ n. n + times_among ys x) (cond-true (name_eq y x) 1 0 (ap (name_eq y) (sym is) ∙ name_eq-same y)) in omega arith
got-among (y ∷ ys) (suc k) x e = let later = got-among ys k x e in omega arith

-- before a host there is no other of its name
place-of : (xs : List NodeName) (k : ℕ) (x : NodeName) → slice_get xs k ≡ Some x → times_among xs x ≤ 1 → (position_or_len (name_eq x) xs ≡ k) × (k < length xs)
place-of [] k x e u = cc
place-of (y ∷ ys) zero x e u =
    let same : Some y ≡ Some x = e in
    let is : y ≡ x = cc in
    (cond-false (not (name_eq x y)) (1 + position_or_len (name_eq x) ys) 0 (ap not (ap (name_eq x) is ∙ name_eq-same x)), omega arith)
place-of (y ∷ ys) (suc k) x e u =
    let later = got-among ys k x e in
    let other : name_eq x y ≡ false =
    by_cases (name_eq x y) (λ t. absurd (let one : times_among (y ∷ ys) x ≡ 1 + times_among ys x = ap (λ n. n + times_among ys x)
    (cond-true (name_eq y x) 1 0 (name_eq-turned y x ∙ t)) in omega arith)) (λ t. t) in
    let at = place-of ys k x e (omega arith) in
    let next : position_or_len (name_eq x) (y ∷ ys) ≡ 1 + position_or_len (name_eq x) ys =
    cond-true (not (name_eq x y)) (1 + position_or_len (name_eq x) ys) 0 (ap not other) in
    (let first = at.0 in omega arith, let second = at.1 in omega arith)

-- so it is found at its place
position-of : (xs : List NodeName) (k : ℕ) (x : NodeName) → slice_get xs k ≡ Some x → times_among xs x ≤ 1 → position (name_eq x) xs ≡ Some k
position-of xs k x e u =
    let at = place-of xs k x e u in
    ap (λ n. cond (nat_lt n (length xs)) (Some n) None) at.0 ∙ cond-true (nat_lt k (length xs)) (Some k) None (lt-ltb k (length xs) at.1)

-- the component of that place is at the host
pub hosts-are_theirs : HostsAreTheirs
hosts-are_theirs b w r o x e =
    let k = hosted w o x e in
    ap (λ m. option_map (component_made m) (position (name_eq x) (part_of w m).attached)) (hosted-owned w r.world o x k)
    ∙ ap (option_map (component_made k.maker)) (position-of (part_of w k.maker).attached k.number x k.found ((r.kinds k.maker).once x))
    ∙ ap Some (made_by-is o k.maker k.number k.named)

-- a component's word is its maker's with one number more
hosted-word : (w : World) → IsWorld w → (o : Owner) → is_some (host_of w o) ≡ true → has_word o ≡ true
hosted-word w i o h =
    by_some_is (λ (m : Option NodeName). is_some m ≡ true → has_word o ≡ true) (host_of w o) (λ e g. absurd (true≢false (sym g)))
    (λ x e g. let k = hosted w o x e in
    subst (λ c. has_word c ≡ true) (made_by-is o k.maker k.number k.named) (word-made k.maker k.number (hosted-maker w i.makers o x k))) h

-- who is there has a word
pub owners-have_words : OwnersHaveWords
owners-have_words b w r o h =
    by_cases (owner_eq o Page) (λ e. ap has_word (owner_eq-true o Page e))
    (λ e. hosted-word w r.world o (there-hosted w r.world.makers r.owners o (owner_eq-false o Page e) h))
