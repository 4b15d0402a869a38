-- Every line keeps the kinds of nodes: no command makes a shadow root, and `attach` makes hosts of elements alone.
use Rattle.dom_base.proofs.Std.{◌≡◌, ◌≢◌, Bool, true, false, None, sym, ap, ◌∙◌, true≢false, subst, ◌+◌, ◌≤◌, not, ◌||◌, List, [], ◌∷◌, ◌++◌, length, find}
use Rattle.dom_base.proofs.Std.{unwrap_or, Option, Some, refl, arith, ⊤, nat_lt, AllByRecursion, option_or, cond-true, cond-false, and_parts, or_parts}
use Rattle.dom_base.proofs.Std.{find-append}
use Rattle.dom_model.proofs.Model.{Owner, Page, Component, NodeName, Kind, Document, Shadow, Element, Text, Comment, ComponentName, name_eq, is_in, node_in}
use Rattle.dom_model.proofs.Model.{children_of, is_element, is_text, is_document, Trees, none, tree, Node, nodes, names_of, kind_of, has_node, no_node}
use Rattle.dom_model.proofs.Model.{times_in, Command, NodeWord, own_refusal, part_refusal, effect, nodes_exist, may_be_host, effect_in, first_world}
use Rattle.dom_model.proofs.Model.{part_with_root, attaching, Effect, tables, changes, pieces_of, Part, Step, World, part_of, shadow_root_of, with_part}
use Rattle.dom_model.proofs.Model.{component_made, micro_task, name_eq-same, component_made-no_page, name_eq-turned, name_eq-true, owner-part_of}
use Rattle.dom_model.proofs.Model.{owner-part_step, Component-IsNoPage, NotSupported, Limit, MAX_COMPONENTS, may_attach, named, is_element-is, dispatch_in}
use Rattle.dom_worlds.specs.Definitions.{Invariant, MayBeShadow, HasKinds, AllNodes, IsElementAt, IsHost, times_among}
use Rattle.dom_worlds.proofs.Turns.{AreAlike, alike-dispatch, alike-told, told_in, at_end}
use Rattle.dom_worlds.proofs.Effects.{KeepsBase, Makes, MayDo, made-effect, base-effect, next-test, part-accepted}
use Rattle.dom_worlds.proofs.Lists.{all-then, all-from, all-append, by_cases}
use Rattle.dom_worlds.proofs.PartSteps.{MakesNoShadow, kinds-step, kinds-alike, fragment-no_shadow, read-no_shadow, Allowed, IsOwn, own-step, next-other}
use Rattle.dom_worlds.proofs.OwnerSteps.{IsPresent, IsPeopled}
use Rattle.dom_worlds.proofs.Owners.{there-hosted}
use Rattle.dom_worlds.proofs.Plans.{IsKept}
use Rattle.dom_worlds.proofs.Rules.{rules-kept}
use Rattle.dom_worlds.proofs.ShadowRoots.{any-whole, IsOther, shadow-rules, may-do, found-absent, found-there}
use Rattle.dom_worlds.proofs.WorldSteps.{HoldsIn, IsKeptIn, holds-with_part, holds-world_after, own-part}
use Rattle.dom_worlds.proofs.TreeChangeLaws.{nodes-listed, nodes-then}
use Rattle.dom_laws.proofs.Laws.{Once, by_times, times-here, times-elsewhere, times-more}
use Rattle.dom_worlds.proofs.Invariants.{Keeps}
use Rattle.dom_worlds.proofs.StepKeeps.{OkFor}

-- What is made is of another kind.
element-no_shadow : Element ≢ Shadow
element-no_shadow e = true≢false (ap is_element e)

-- a Text is none
text-no_shadow : Text ≢ Shadow
text-no_shadow e = true≢false (ap is_text e)

-- a Comment is none
comment-no_shadow : Comment ≢ Shadow
comment-no_shadow e = true≢false (ap is_comment e)
  where
    is_comment : Kind → Bool
    is_comment Comment = true
    is_comment k = false

-- a document is none
pub document-no_shadow : Document ≢ Shadow
document-no_shadow e = true≢false (ap is_document e)

-- The rules of plans, for the page.
abbrev PageKinds : Part → Type 0
PageKinds p = (p.owner ≡ Page) × HasKinds p

-- the page has no shadow root
page-read : (p : Part) → PageKinds p → (x : NodeName) → (node_in p.trees x).kind ≢ Shadow
page-read p i x = read-no_shadow p x i.1 (λ b. subst (λ o. MayBeShadow o x) i.0 b)

-- the rules hold
page-rules : IsKept PageKinds MakesNoShadow (λ x. ⊤) (λ x. ⊤)
page-rules =
    rules-kept (record {
      step = λ p s i m. (owner-part_step p s ∙ i.0, kinds-step p s i.1 m);
      children_told = λ x added removed previous next. tt;
      data_told = λ x old. tt;
      new_text = λ x d text. text-no_shadow;
      new_fragment = λ x d. fragment-no_shadow;
      clone = λ p x y i m. page-read p i x;
      clone_part = λ p x y from to i m. page-read p i x;
      new_node = λ p i. tt;
      children = λ p i x. all-from (λ y. ⊤) (λ y. tt) (children_of p.trees x);
      wholes = λ p i range. any-whole (pieces_of p.trees range);
    })

-- The rules of plans, for a component with its shadow root.
record ComponentKinds (k : ComponentName) (p : Part) : Type 0 where
  owner : p.owner ≡ Component k
  pub own : IsOwn (shadow_root_of (Component k)) p
  pub kinds : HasKinds p

-- a step that places and makes no shadow root
abbrev MayMake : NodeName → Step → Type 0
MayMake r s = Allowed r s × MakesNoShadow s

-- a node that is not the shadow root is none
component-read : (k : ComponentName) (p : Part) → ComponentKinds k p → (x : NodeName) → IsOther (shadow_root_of (Component k)) x →
    (node_in p.trees x).kind ≢ Shadow
component-read k p i x m =
    let r = shadow_root_of (Component k) in
    read-no_shadow p x i.kinds (λ b. let same : x ≡ r = subst (λ o. MayBeShadow o x) i.owner b in true≢false
    (sym (name_eq-same r) ∙ ap (λ y. name_eq y r) (sym same) ∙ m))

-- the rules hold
component-rules : (k : ComponentName) → IsKept (ComponentKinds k) (MayMake (shadow_root_of (Component k))) (IsOther (shadow_root_of (Component k))) (λ x. ⊤)
component-rules k =
    let r = shadow_root_of (Component k) in
    let root = shadow-rules r in
    record {
      moves = record {
        step = λ p s i m. record { owner = owner-part_step p s ∙ i.owner; own = own-step r p s i.own m.0; kinds = kinds-step p s i.kinds m.1 };
        placing = λ x parent before h. (h, tt);
        making_room = λ parent index count. (tt, tt);
        taking_out = λ x. (tt, tt);
        document = λ x d h. (tt, tt);
        placed_set = λ x h. tt;
        children_told = λ x added removed previous next. (tt, tt);
        children = λ p i x. root.moves.children p i.own x;
      };
      data_replaced = λ x offset count new. (tt, tt);
      split = λ x offset new parent index. (tt, tt);
      join = λ x size next parent index. (tt, tt);
      range = λ k range. (tt, tt);
      data_told = λ x old. (tt, tt);
      new_text = λ x d text. (tt, text-no_shadow);
      new_fragment = λ x d. (tt, fragment-no_shadow);
      clone = λ p x y i m. (tt, component-read k p i x m);
      clone_part = λ p x y from to i m. (tt, component-read k p i x m);
      new_node = λ p i. next-other r p i.own;
      wholes = λ p i range. root.wholes p i.own range;
    }

-- What commands make.
page-may_do : (p : Part) (c : Command) → MayDo MakesNoShadow (λ x. ⊤) p c
page-may_do p (Command.new_element a) = element-no_shadow
page-may_do p (Command.new_text a) = text-no_shadow
page-may_do p (Command.new_comment a) = comment-no_shadow
page-may_do p Command.new_fragment = fragment-no_shadow
page-may_do p Command.new_document = document-no_shadow
page-may_do p (Command.set_attribute a b c) = ((λ old. tt), tt)
page-may_do p (Command.unset_attribute a b) = ((λ old. tt), tt)
page-may_do p (Command.insert_node a b) = λ range e. tt
page-may_do p c = tt

-- of a component
component-may_do : (r : NodeName) (p : Part) (c : Command) → MayDo (Allowed r) (IsOther r) p c → MayDo (MayMake r) (IsOther r) p c
component-may_do r p (Command.new_element a) h = (tt, element-no_shadow)
component-may_do r p (Command.new_text a) h = (tt, text-no_shadow)
component-may_do r p (Command.new_comment a) h = (tt, comment-no_shadow)
component-may_do r p Command.new_fragment h = (tt, fragment-no_shadow)
component-may_do r p Command.new_document h = (tt, document-no_shadow)
component-may_do r p (Command.set_attribute a b c) h = ((λ old. (tt, tt)), (tt, tt))
component-may_do r p (Command.unset_attribute a b) h = ((λ old. (tt, tt)), (tt, tt))
component-may_do r p c h = search

-- what is made so makes no shadow root
no_shadow-made : (r : NodeName) (e : Effect) → Makes (MayMake r) e → Makes MakesNoShadow e
no_shadow-made r (tables p lines v) h = tt
no_shadow-made r (changes steps v) h = all-then (MayMake r) MakesNoShadow (λ s m. m.1) steps h

-- Worlds.
abbrev pub AllKinds : World → Type 0
AllKinds w = HoldsIn HasKinds (λ t. ⊤) w

-- steps keep the kinds
pub kind-steps : IsKeptIn HasKinds MakesNoShadow (λ t. ⊤)
kind-steps = record { step = kinds-step; document = λ x d. tt; notify = λ o. tt }

-- the kinds of all parts
pub all-kinds : (w : World) → ((o : Owner) → HasKinds (part_of w o)) → AllKinds w
all-kinds w h = record { parts = h; tasks = all-from (λ t. ⊤) (λ t. tt) w.tasks }

-- worlds with the same trees, counts and hosts
pub kinds-same : (v w : World) → AreAlike v w → AllKinds w → AllKinds v
kinds-same v w a h = all-kinds v (λ o. kinds-alike (part_of v o) (part_of w o) (owner-part_of v o ∙ sym (owner-part_of w o)) (a o) (h.parts o))

-- no command makes a shadow root
pub no_shadow-steps : {w : World} {o : Owner} (c : Command) → Invariant false w → IsPresent w o → AllKinds w → own_refusal (part_of w o) c ≡ None →
    Makes MakesNoShadow (effect (part_of w o) c)
no_shadow-steps {w} {o = Page} c q k h r = made-effect page-rules (part_of w Page) (owner-part_of w Page, h.parts Page) c (page-may_do (part_of w Page) c)
no_shadow-steps {w} {o = Component k} c q m h r =
    let root = shadow_root_of (Component k) in
    let p = part_of w (Component k) in
    let own = own-part w q.world (Component k) (there-hosted w m.people.makers m.people.owners (Component k) (Component-IsNoPage k) m.there) in
    no_shadow-made root (effect p c) (made-effect (component-rules k) p
    (record { owner = owner-part_of w (Component k); own = own; kinds = h.parts (Component k) }) c
    (component-may_do root p c (may-do root p own c r)))

-- an effect keeps the kinds
pub kinds-effect : (w : World) (o : Owner) (e : Effect) → KeepsBase (part_of w o) e → Makes MakesNoShadow e → AllKinds w → AllKinds (effect_in w o e).0
kinds-effect w o (tables p lines v) base m h =
    holds-with_part kind-steps w p h (kinds-alike p (part_of w o) base.0 base.1 (h.parts o))
kinds-effect w o (changes steps v) base m h = holds-world_after kind-steps o steps w h m

-- Attaching: the nodes of the element's name are elements.
pub absent-any : (P : Node → Type 0) (ts : Trees) (x : NodeName) → times_in ts x ≡ 0 → AllNodes (λ n. name_eq n.name x ≡ true → P n) ts
absent-any P none x h = tt
absent-any P (tree n c r) x h =
    let more = times-more n c r x in
    ((λ e. absurd (let g = times-here n c r x e in omega arith)), absent-any P c x (omega arith), absent-any P r x (omega arith))

-- all nodes of a name are the one that is found
pub all-found : (ts : Trees) (x : NodeName) (m : Node) → times_in ts x ≤ 1 → find (λ n. name_eq n.name x) (nodes ts) ≡ Some m →
    AllNodes (λ n. name_eq n.name x ≡ true → n ≡ m) ts
all-found none x m u e = tt
all-found (tree n c r) x m u e =
    by_cases (name_eq n.name x)
    (λ t. let g = times-here n c r x t in
    let is : Some n ≡ Some m = sym (cond-true (name_eq n.name x) (Some n) (find (λ n. name_eq n.name x) (nodes c ++ nodes r)) t) ∙ e in
    ((λ s. cc), absent-any (λ k. k ≡ m) c x (omega arith), absent-any (λ k. k ≡ m) r x (omega arith)))
    (λ t. let g = times-elsewhere n c r x t in
    let later : option_or (find (λ n. name_eq n.name x) (nodes c)) (find (λ n. name_eq n.name x) (nodes r)) ≡ Some m =
    sym (cond-false (name_eq n.name x) (Some n) (find (λ n. name_eq n.name x) (nodes c ++ nodes r)) t ∙
    find-append (λ (n : Node). name_eq n.name x) (nodes c) (nodes r)) ∙ e in
    let here : name_eq n.name x ≡ true → n ≡ m = λ s. absurd (true≢false (sym s ∙ t)) in
    by_times (times_in c x)
    (λ z. (
      here,
      absent-any (λ k. k ≡ m) c x z,
      all-found r x m (omega arith)
          (ap (λ o. option_or o (find (λ n. name_eq n.name x) (nodes r))) (sym (found-absent c x z)) ∙ later),
    ))
    (λ z. let at = found-there c x z in
    let is : Some at.0 ≡ Some m = ap (λ o. option_or o (find (λ n. name_eq n.name x) (nodes r))) (sym at.1) ∙ later in
    (here, all-found c x m (omega arith) (at.1 ∙ is), absent-any (λ k. k ≡ m) r x (omega arith))))

-- so all nodes of an element's name are elements
elements-at : (ts : Trees) (x : NodeName) → Once ts → 1 ≤ times_in ts x → is_element (kind_of ts x) ≡ true → AllNodes (IsElementAt x) ts
elements-at ts x u h e =
    let at = found-there ts x h in
    let kind : at.0.kind ≡ Element = is_element-is at.0.kind (ap (λ (o : Option Node). is_element (unwrap_or o (no_node x)).kind) (sym at.1) ∙ e) in
    nodes-then (λ n. name_eq n.name x ≡ true → n ≡ at.0) (IsElementAt x) (λ n f s. ap (λ (m : Node). m.kind) (f s) ∙ kind) ts (all-found ts x at.0 (u x) at.1)

-- a node that is there is counted
not_listed : (x : NodeName) (ns : List Node) → AllByRecursion (λ n. name_eq n.name x ≡ false) ns → is_in name_eq x (names_of ns) ≡ false
not_listed x [] h = refl
not_listed x (n ∷ ns) h = rw (name_eq-turned x n.name ∙ h.0) (not_listed x ns h.1)

-- a node that is there is counted, by how often it is there
pub has_node-times : (ts : Trees) (x : NodeName) → has_node ts x ≡ true → 1 ≤ times_in ts x
has_node-times ts x h =
    by_times (times_in ts x)
    (λ z. let none_named = nodes-then (λ n. name_eq n.name x ≡ true → ⊥) (λ n. name_eq n.name x ≡ false)
    (λ n f. by_cases (name_eq n.name x) (λ e. absurd (f e)) (λ e. e)) ts (absent-any (λ n. ⊥) ts x z) in
    absurd (true≢false (sym h ∙ not_listed x (nodes ts) (nodes-listed (λ n. name_eq n.name x ≡ false) ts none_named)))) (λ z. z)

-- each host once
times_among-push : (xs : List NodeName) (x y : NodeName) → times_among (xs ++ x ∷ []) y ≡ times_among xs y + times_among (x ∷ []) y
times_among-push [] x y = omega arith
times_among-push (z ∷ zs) x y = let h = times_among-push zs x y in omega arith

-- a node that is not among others
absent-among : (xs : List NodeName) (x : NodeName) → is_in name_eq x xs ≡ false → times_among xs x ≡ 0
absent-among [] x h = refl
absent-among (y ∷ ys) x h =
    by_cases (name_eq y x) (λ e. absurd (true≢false (sym (ap (λ b. b || is_in name_eq x ys) (name_eq-turned x y ∙ e)) ∙ h)))
    (λ e. let none_here : times_among (y ∷ ys) x ≡ 0 + times_among ys x = ap (λ k. k + times_among ys x) (cond-false (name_eq y x) 1 0 e) in
    let later = absent-among ys x (sym (ap (λ b. b || is_in name_eq x ys) (name_eq-turned x y ∙ e)) ∙ h) in omega arith)

-- one more that was not there
once-push : (xs : List NodeName) (x y : NodeName) → is_in name_eq x xs ≡ false → times_among xs y ≤ 1 → times_among (xs ++ x ∷ []) y ≤ 1
once-push xs x y h u =
    let sum = times_among-push xs x y in
    by_cases (name_eq x y)
    (λ e. let none_before : times_among xs y ≡ 0 = subst (λ z. times_among xs z ≡ 0) (name_eq-true x y e) (absent-among xs x h) in
    let one : times_among (x ∷ []) y ≡ 1 + 0 = ap (λ k. k + 0) (cond-true (name_eq x y) 1 0 e) in omega arith)
    (λ e. let zero_more : times_among (x ∷ []) y ≡ 0 + 0 = ap (λ k. k + 0) (cond-false (name_eq x y) 1 0 e) in omega arith)

-- what an accepted `attach` knows of its element
pub record IsFree (p : Part) (x : NodeName) : Type 0 where
  pub there : 1 ≤ times_in p.trees x
  pub element : is_element (kind_of p.trees x) ≡ true
  pub free : is_in name_eq x p.attached ≡ false

-- its element is there, and is no host yet
pub attach-free : (p : Part) (x : NodeWord) → part_refusal p (Command.attach x) ≡ None → IsFree p (named p x)
attach-free p x h =
    let a = part-accepted p (Command.attach x) h in
    let own = next-test (is_in name_eq (named p x) p.attached || not (may_be_host (node_in p.trees (named p x)).element)) NotSupported
    ((nat_lt MAX_COMPONENTS (length p.attached + 1) || not (may_attach p.owner), Limit) ∷ []) a.own in
    record {
      there = has_node-times p.trees (named p x)
          ((and_parts (has_node p.trees (named p x)) true (and_parts (nodes_exist p (Command.attach x)) true a.exist).0).0);
      element = (and_parts (is_element (kind_of p.trees (named p x))) true a.fit).0;
      free = (or_parts (is_in name_eq (named p x) p.attached) (not (may_be_host (node_in p.trees (named p x)).element)) own.0).0;
    }

-- a component's first node may be a shadow root
may-shadow : (c : Owner) → c ≢ Page → MayBeShadow c (shadow_root_of c)
may-shadow Page f = absurd (f refl)
may-shadow (Component k) f = refl

-- a new component's part
kinds-root : (c : Owner) (d : Option NodeName) → c ≢ Page → HasKinds (part_with_root c Shadow d)
kinds-root c d f = record { shadows = ((λ e. may-shadow c f), tt, tt); hosts = tt; once = λ x. omega arith }

-- attaching keeps the kinds
kinds-attaching : (w : World) (o : Owner) (x : NodeName) → IsFree (part_of w o) x → Invariant false w → AllKinds w → AllKinds (attaching w o x).0
kinds-attaching w o x f q h =
    let p = part_of w o in
    let k = h.parts o in
    let n = length p.attached in
    let more = record p { attached = p.attached ++ x ∷ [] } in
    let root = part_with_root (component_made o n) Shadow (node_in p.trees x).document in
    let part = q.world.parts o in
    let host : IsHost more x = record { made = part.numbered x f.there; element = elements-at p.trees x part.unique f.there f.element } in
    let marked : HasKinds more =
    record {
      shadows = k.shadows;
      hosts = all-append (IsHost more) p.attached (x ∷ [])
          (all-then (IsHost p) (IsHost more) (λ y i. record { made = i.made; element = i.element }) p.attached k.hosts) (host, tt);
      once = λ y. once-push p.attached x y f.free (k.once y);
    } in
    holds-with_part kind-steps (with_part w more) root (holds-with_part kind-steps w more h marked)
    (kinds-root (component_made o n) (node_in p.trees x).document (component_made-no_page o n))

-- What lines consist of keeps the kinds, where it keeps who is there.
pub kinds-keeps : Keeps (OkFor false) (λ w. Invariant false w × IsPeopled w) AllKinds
kinds-keeps =
    record {
      turns = record {
        dispatch = λ w x related e k h. kinds-same (dispatch_in w x related e).run.0 w (alike-dispatch w x related e) h;
        at_end = λ w k h. all-kinds (at_end w) h.parts;
        told = λ w o t k h. kinds-same (told_in w o) w (alike-told w o) h;
      };
      turned = λ w o e t k h. all-kinds (record w { turn = Some o }) h.parts;
      attach = λ w o x m k h. kinds-attaching w o (named (part_of w o) x) (attach-free (part_of w o) x m.part) k.0 h;
      micro = λ w o label m k h. all-kinds (record w { tasks = w.tasks ++ micro_task o label ∷ [] }) h.parts;
      effect = λ w o c m k h. kinds-effect w o (effect (part_of w o) c) (base-effect (part_of w o) c)
          (no_shadow-steps c k.0 (record { there = m.there; people = k.1 }) h (part-accepted (part_of w o) c m.part).own) h;
    }

-- the first world
pub kinds-first : AllKinds first_world
kinds-first = record { parts = parts; tasks = tt }
  where
    parts : (o : Owner) → HasKinds (part_of first_world o)
    parts Page = record { shadows = ((λ e. absurd (document-no_shadow e)), tt, tt); hosts = tt; once = λ x. omega arith }
    parts (Component k) = record { shadows = tt; hosts = tt; once = λ x. omega arith }
