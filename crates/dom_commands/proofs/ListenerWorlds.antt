-- What is read and what is done in a world is read and done in it with listeners, but by what goes to them.
use Rattle.dom_commands.proofs.Cited.{◌≡◌, ℕ, zero, suc, Bool, true, false, not, ◌&&◌, List, [], ◌∷◌, ◌++◌, filter, filter_map, flat_map, fold, map, position}
use Rattle.dom_commands.proofs.Cited.{Option, Some, None, refl, sym, ap, ◌∙◌, true≢false, is_some, option_map, option_to_list, unwrap_or, slice_get}
use Rattle.dom_commands.proofs.Cited.{if◌then◌else◌, option_and_then, option_map_or, owners_in, there-with_part, by_cases, hearing, heard}
use Rattle.dom_model.proofs.Model.{Owner, NodeName, Listener, owner_eq, name_eq, max_depth, owner_depth, is_in, is_empty, distinct, list_eq, last_of, Part}
use Rattle.dom_model.proofs.Model.{empty_part, is_slot_element, slot_in, slots_among, assigned_nodes, signals, with_signal, Step, make, make_room}
use Rattle.dom_model.proofs.Model.{place, take_out, set_document, set_attribute, replace_data, split_at, join_at, set_range, queue_record, part_step, leave}
use Rattle.dom_model.proofs.Model.{is_taken, Trees, node_in, parent_of, root_of, children_of, subtree, inclusive_ancestors, inclusive_descendants, is_document}
use Rattle.dom_model.proofs.Model.{World, find_part, put_part, part_of, with_part, is_there, component_at, component_made, made_by, shadow_root_of, some_if}
use Rattle.dom_model.proofs.Model.{host_above, hosts_from, ancestors_at, kind_at, is_connected, components_below, world_step, world_after, stepped}
use Rattle.dom_model.proofs.Model.{with_signals, with_removal_signals, with_notify_if, with_shadow_document}

-- ---- readings, by the trees and the hosts of all owners

module _ (T : Owner → Trees) (A : Owner → List NodeName) where
  -- the component at a node
  abbrev component_from : NodeName → Option Owner
  component_from x = option_map (component_made x.owner) (position (name_eq x) (A x.owner))

  -- the slot of a node
  abbrev slot_from : NodeName → Option NodeName
  slot_from x = option_and_then (λ c. slot_in (subtree (T c) (shadow_root_of c)) (node_in (T x.owner) x))
      (option_and_then component_from (parent_of (T x.owner) x))

  -- the host of a component, and that above a node
  abbrev host_from : Owner → Option NodeName
  host_from o = option_and_then (λ (maker, k). slice_get (A maker) k) (made_by o)

  abbrev host_above_from : NodeName → Option NodeName
  host_above_from x = option_and_then (some_if (name_eq (root_of (T x.owner) x) (shadow_root_of x.owner))) (host_from x.owner)

  -- the nodes assigned to a slot
  abbrev assigned_from : NodeName → List NodeName
  assigned_from s = option_map_or (λ host. filter (λ x. is_in name_eq s (option_to_list (slot_from x))) (children_of (T host.owner) host))
      (host_above_from s) []

  -- the chain of hosts
  abbrev hosts_up : ℕ → NodeName → List NodeName
  hosts_up zero x = x ∷ []
  hosts_up (suc depth) x = x ∷ flat_map (hosts_up depth) (option_to_list (host_above_from x))

  -- the components below a node
  abbrev components_from : ℕ → NodeName → List Owner
  components_from zero x = []
  components_from (suc depth) x = flat_map (λ c. c ∷ components_from depth (shadow_root_of c)) (filter_map component_from (inclusive_descendants (T x.owner) x))

  -- whether a node is connected
  abbrev connected_from : NodeName → Bool
  connected_from x =
      let last = unwrap_or (last_of (flat_map (λ (y : NodeName). inclusive_ancestors (T y.owner) y) (hosts_up (owner_depth x.owner) x))) x in
      is_document (node_in (T last.owner) last).kind

-- the signals of a step
module _ (T : Owner → Trees) (A : Owner → List NodeName) (U : Owner → Trees) (B : Owner → List NodeName) where
  abbrev changed_from : NodeName → Bool
  changed_from s = not (list_eq name_eq (assigned_from T A s) (assigned_from U B s))

  abbrev signals_from : NodeName → NodeName → Bool → List NodeName
  signals_from x around is_move =
      let bare_slot = is_slot_element (node_in (U around.owner) around) && (is_some (host_above_from U B around) && is_empty (assigned_from U B around)) in
      let bare = if is_move && bare_slot then around ∷ [] else [] in
      distinct name_eq (filter changed_from (option_to_list (slot_from T A x) ++ option_to_list (slot_from U B x)) ++ bare
      ++ filter changed_from (slots_among (subtree (U around.owner) (root_of (U around.owner) around)) ++ slots_among (subtree (U x.owner) x)))

-- the trees and the hosts of a world
abbrev trees_in : World → Owner → Trees
trees_in w o = (part_of w o).trees

abbrev hosts_in : World → Owner → List NodeName
hosts_in w o = (part_of w o).attached

-- hosts are read from these alone
hosts_up-read : (w : World) (depth : ℕ) (x : NodeName) → hosts_from depth w x ≡ hosts_up (trees_in w) (hosts_in w) depth x
hosts_up-read w zero x = refl
hosts_up-read w (suc depth) x = ap (λ (f : NodeName → List NodeName). x ∷ flat_map f (option_to_list (host_above w x))) (λ j y. hosts_up-read w depth y j)

components-read : (w : World) (depth : ℕ) (x : NodeName) → components_below depth w x ≡ components_from (trees_in w) (hosts_in w) depth x
components-read w zero x = refl
components-read w (suc depth) x =
    ap (λ (f : NodeName → List Owner). flat_map (λ c. c ∷ f (shadow_root_of c))
    (filter_map (component_at w) (inclusive_descendants (part_of w x.owner).trees x))) (λ j y. components-read w depth y j)

connected-read : (w : World) (x : NodeName) → is_connected w x ≡ connected_from (trees_in w) (hosts_in w) x
connected-read w x =
    ap (λ (xs : List NodeName). is_document (kind_at w (unwrap_or (last_of (flat_map (ancestors_at w) xs)) x))) (hosts_up-read w (owner_depth x.owner) x)

-- ---- a world with listeners

module _ (of : Owner → List (Listener NodeName)) where
  -- whoever is not there has no listeners
  abbrev pub FitsIn : World → Type 0
  FitsIn w = (o : Owner) → is_there w o ≡ false → of o ≡ []

  find-heard : (ps : List Part) (o : Owner) → find_part (map (hearing of) ps) o ≡ option_map (hearing of) (find_part ps o)
  find-heard [] o = refl
  find-heard (p ∷ ps) o = cases (owner_eq p.owner o) (find-heard ps o)
    where
      cases : (b : Bool) → find_part (map (hearing of) ps) o ≡ option_map (hearing of) (find_part ps o)
          → (if b then Some (hearing of p) else find_part (map (hearing of) ps) o) ≡ option_map (hearing of) (if b then Some p else find_part ps o)
      cases true more = refl
      cases false more = more

  -- the same owners are there
  pub there-heard : (w : World) (o : Owner) → is_there (heard of w) o ≡ is_there w o
  there-heard w o = ap is_some (find-heard w.parts o) ∙ by (find_part w.parts o)
    where
      by : (p : Option Part) → is_some (option_map (hearing of) p) ≡ is_some p
      by None = refl
      by (Some p) = refl

  pub owners-heard : (w : World) → owners_in (heard of w) ≡ owners_in w
  owners-heard w = by w.parts
    where
      by : (ps : List Part) → map (λ (p : Part). p.owner) (map (hearing of) ps) ≡ map (λ (p : Part). p.owner) ps
      by [] = refl
      by (p ∷ ps) = ap (λ (os : List Owner). p.owner ∷ os) (by ps)

  -- with their parts, which hear
  pub part-heard : (w : World) → FitsIn w → (o : Owner) → part_of (heard of w) o ≡ hearing of (part_of w o)
  part-heard w fits o = ap (λ (p : Option Part). unwrap_or p (empty_part o)) (find-heard w.parts o) ∙ by (find_part w.parts o) (fits o)
    where
      by : (p : Option Part) → (is_some p ≡ false → of o ≡ []) → unwrap_or (option_map (hearing of) p) (empty_part o) ≡ hearing of (unwrap_or p (empty_part o))
      by None f = ap (λ (ls : List (Listener NodeName)). record (empty_part o) { listeners = ls }) (sym (f refl))
      by (Some p) f = refl

  put-heard : (ps : List Part) (p : Part) → put_part (map (hearing of) ps) (hearing of p) ≡ map (hearing of) (put_part ps p)
  put-heard [] p = refl
  put-heard (q ∷ qs) p = cases (owner_eq q.owner p.owner) (put-heard qs p)
    where
      cases : (b : Bool) → put_part (map (hearing of) qs) (hearing of p) ≡ map (hearing of) (put_part qs p)
          → (if b then hearing of p ∷ map (hearing of) qs else hearing of q ∷ put_part (map (hearing of) qs) (hearing of p)) ≡ map (hearing of)
          (if b then p ∷ qs else q ∷ put_part qs p)
      cases true more = refl
      cases false more = ap (λ (ps : List Part). hearing of q ∷ ps) more

  -- a part is written
  pub with_part-heard : (w : World) (p : Part) → with_part (heard of w) (hearing of p) ≡ heard of (with_part w p)
  with_part-heard w p = ap (λ (ps : List Part). record { parts = ps; signalled = w.signalled; tasks = w.tasks; turn = w.turn }) (put-heard w.parts p)

  -- who is there stays there
  pub fits-with_part : (w : World) (p : Part) → FitsIn w → FitsIn (with_part w p)
  fits-with_part w p fits o off =
      fits o (by_cases (is_there w o) (λ there. absurd (true≢false (sym (there-with_part w p o there) ∙ off))) (λ e. e))

  module _ (w : World) (fits : FitsIn w) where
    trees-same : trees_in (heard of w) ≡ trees_in w
    trees-same = λ j o. (part-heard w fits o j).trees

    hosts-same : hosts_in (heard of w) ≡ hosts_in w
    hosts-same = λ j o. (part-heard w fits o j).attached

    -- whether a node is connected, what is assigned to a slot, and which components stand below a node
    pub component-heard : (x : NodeName) → component_at (heard of w) x ≡ component_at w x
    component-heard x = λ j. component_from (trees-same j) (hosts-same j) x

    pub assigned-heard : (s : NodeName) → assigned_nodes (heard of w) s ≡ assigned_nodes w s
    assigned-heard s = λ j. assigned_from (trees-same j) (hosts-same j) s

    pub connected-heard : (x : NodeName) → is_connected (heard of w) x ≡ is_connected w x
    connected-heard x = connected-read (heard of w) x ∙ (λ j. connected_from (trees-same j) (hosts-same j) x) ∙ sym (connected-read w x)

    pub components-heard : (depth : ℕ) (x : NodeName) → components_below depth (heard of w) x ≡ components_below depth w x
    components-heard depth x = components-read (heard of w) depth x ∙ (λ j. components_from (trees-same j) (hosts-same j) depth x) ∙
        sym (components-read w depth x)

  -- ---- steps

  -- a step in a part
  pub step-hearing : (p : Part) (s : Step) → part_step (hearing of p) s ≡ hearing of (part_step p s)
  step-hearing p (take_out x) = by (parent_of p.trees x)
    where
      by : (o : Option NodeName) → option_map_or (leave (hearing of p) x) o (hearing of p) ≡ hearing of (option_map_or (leave p x) o p)
      by None = refl
      by (Some parent) = refl
  step-hearing p s = refl

  stepped-heard : (o : Owner) (w : World) (s : Step) → FitsIn w → stepped o (heard of w) s ≡ heard of (stepped o w s)
  stepped-heard o w s fits =
      ap (λ (p : Part). with_part (heard of w) (part_step p s)) (part-heard w fits o) ∙
      ap (with_part (heard of w)) (step-hearing (part_of w o) s) ∙ with_part-heard w (part_step (part_of w o) s)

  signal-heard : (w : World) (ss : List NodeName) → fold with_signal (heard of w) ss ≡ heard of (fold with_signal w ss)
  signal-heard w [] = refl
  signal-heard w (s ∷ ss) = signal-heard (with_signal w s) ss

  fits-signals : (w : World) (ss : List NodeName) → FitsIn w → FitsIn (fold with_signal w ss)
  fits-signals w [] fits = fits
  fits-signals w (s ∷ ss) fits = fits-signals (with_signal w s) ss fits

  documents-heard : (d : NodeName) (w : World) (cs : List Owner) → FitsIn w →
      fold (with_shadow_document d) (heard of w) cs ≡ heard of (fold (with_shadow_document d) w cs)
  documents-heard d w [] fits = refl
  documents-heard d w (c ∷ cs) fits =
      let s = set_document (shadow_root_of c) d in
      ap (λ (v : World). fold (with_shadow_document d) v cs) (stepped-heard c w s fits) ∙
      documents-heard d (stepped c w s) cs (fits-with_part w (part_step (part_of w c) s) fits)

  fits-documents : (d : NodeName) (w : World) (cs : List Owner) → FitsIn w → FitsIn (fold (with_shadow_document d) w cs)
  fits-documents d w [] fits = fits
  fits-documents d w (c ∷ cs) fits = fits-documents d (with_shadow_document d w c) cs
      (fits-with_part w (part_step (part_of w c) (set_document (shadow_root_of c) d)) fits)

  -- The signals of a node and of that around it.
  module _ (x around : NodeName) (is_move : Bool) where
    signals-heard : (was now : World) → FitsIn was → FitsIn now →
        signals (heard of was) (heard of now) x around is_move ≡ signals was now x around is_move
    signals-heard was now before after =
        λ j. signals_from (trees-same was before j) (hosts-same was before j) (trees-same now after j) (hosts-same now after j) x around is_move

    -- behind a step
    with_signals-heard : (o : Owner) (w : World) (s : Step) → FitsIn w →
        with_signals (heard of w) (stepped o (heard of w) s) x around is_move ≡ heard of (with_signals w (stepped o w s) x around is_move)
    with_signals-heard o w s fits =
        let now = stepped o w s in
        ap (λ (v : World). with_signals (heard of w) v x around is_move) (stepped-heard o w s fits)
        ∙ ap (fold with_signal (heard of now)) (signals-heard w now fits (fits-with_part w (part_step (part_of w o) s) fits))
        ∙ signal-heard now (signals w now x around is_move)

  removal-heard : (o : Owner) (w : World) (s : Step) → FitsIn w → (x : NodeName) (parent : Option NodeName) →
      with_removal_signals (heard of w) (stepped o (heard of w) s) x parent ≡ heard of (with_removal_signals w (stepped o w s) x parent)
  removal-heard o w s fits x None = stepped-heard o w s fits
  removal-heard o w s fits x (Some parent) = with_signals-heard x parent true o w s fits

  notify-heard : (b : Bool) (o : Owner) (w : World) → with_notify_if b o (heard of w) ≡ heard of (with_notify_if b o w)
  notify-heard true o w = refl
  notify-heard false o w = refl

  step-heard : (o : Owner) (w : World) (s : Step) → FitsIn w → world_step o (heard of w) s ≡ heard of (world_step o w s)
  step-heard o w (make n) fits = stepped-heard o w (make n) fits
  step-heard o w (make_room parent index count) fits = stepped-heard o w (make_room parent index count) fits
  step-heard o w (place x parent before) fits = with_signals-heard x parent true o w (place x parent before) fits
  step-heard o w (take_out x) fits =
      ap (λ (p : Part). with_removal_signals (heard of w) (stepped o (heard of w) (take_out x)) x (parent_of p.trees x)) (part-heard w fits o) ∙
      removal-heard o w (take_out x) fits x (parent_of (part_of w o).trees x)
  step-heard o w (set_document x d) fits =
      let s = set_document x d in
      ap (fold (with_shadow_document d) (stepped o (heard of w) s)) (components-heard w fits max_depth x)
      ∙ ap (λ (v : World). fold (with_shadow_document d) v (components_below max_depth w x)) (stepped-heard o w s fits)
      ∙ documents-heard d (stepped o w s) (components_below max_depth w x) (fits-with_part w (part_step (part_of w o) s) fits)
  step-heard o w (set_attribute x a v) fits = with_signals-heard x x false o w (set_attribute x a v) fits
  step-heard o w (replace_data x offset count new) fits = stepped-heard o w (replace_data x offset count new) fits
  step-heard o w (split_at x offset new parent index) fits = stepped-heard o w (split_at x offset new parent index) fits
  step-heard o w (join_at first size next parent index) fits = stepped-heard o w (join_at first size next parent index) fits
  step-heard o w (set_range k r) fits = stepped-heard o w (set_range k r) fits
  step-heard o w (queue_record c) fits =
      ap (λ (v : World). with_notify_if (is_taken (part_of (heard of w) o) c) o v) (stepped-heard o w (queue_record c) fits)
      ∙ ap (λ (p : Part). with_notify_if (is_taken p c) o (heard of (stepped o w (queue_record c)))) (part-heard w fits o)
      ∙ notify-heard (is_taken (part_of w o) c) o (stepped o w (queue_record c))

  fits-removal : (was now : World) (x : NodeName) (parent : Option NodeName) → FitsIn now → FitsIn (with_removal_signals was now x parent)
  fits-removal was now x None fits = fits
  fits-removal was now x (Some parent) fits = fits-signals now (signals was now x parent true) fits

  fits-notify : (b : Bool) (o : Owner) (w : World) → FitsIn w → FitsIn (with_notify_if b o w)
  fits-notify true o w fits = fits
  fits-notify false o w fits = fits

  fits-step : (o : Owner) (w : World) (s : Step) → FitsIn w → FitsIn (world_step o w s)
  fits-step o w s fits = by s (fits-with_part w (part_step (part_of w o) s) fits)
    where
      by : (s : Step) → FitsIn (stepped o w s) → FitsIn (world_step o w s)
      by (place x parent before) now = fits-signals (stepped o w (place x parent before)) (signals w (stepped o w (place x parent before)) x parent true) now
      by (take_out x) now = fits-removal w (stepped o w (take_out x)) x (parent_of (part_of w o).trees x) now
      by (set_attribute x a v) now = fits-signals (stepped o w (set_attribute x a v)) (signals w (stepped o w (set_attribute x a v)) x x false) now
      by (set_document x d) now = fits-documents d (stepped o w (set_document x d)) (components_below max_depth w x) now
      by (queue_record c) now = fits-notify (is_taken (part_of w o) c) o (stepped o w (queue_record c)) now
      by s now = now

  -- the steps of an owner
  pub after-heard : (o : Owner) (steps : List Step) (w : World) → FitsIn w → world_after o (heard of w) steps ≡ heard of (world_after o w steps)
  after-heard o [] w fits = refl
  after-heard o (s ∷ steps) w fits = ap (λ (v : World). world_after o v steps) (step-heard o w s fits) ∙
      after-heard o steps (world_step o w s) (fits-step o w s fits)
