-- What the line of an event names is not hidden from the node at which it is heard; and what is hidden goes by trees and hosts alone, which the ending of a
-- turn leaves as they are.
use Rattle.dom_base.proofs.Std.{◌≡◌, ℕ, zero, suc, Bool, true, false, not, ◌&&◌, List, [], ◌∷◌, ◌++◌, filter, find, flat_map, map, fold, reverse, Option, Some}
use Rattle.dom_base.proofs.Std.{None, unwrap_or, option_to_list, refl, sym, ap, ◌∙◌, subst, true≢false, AllByRecursion, is_some, not-true, option_and_then}
use Rattle.dom_base.proofs.Std.{◌||◌}
use Rattle.dom_model.proofs.Model.{NodeName, EventWords, name_eq, owner_depth, Action, Log, Listener, Visit, Dispatching}
use Rattle.dom_model.proofs.Model.{after_action, may_cancel, kept_after, line_of, begun, EventLine, event_output, inclusive_ancestors, root_of, is_in}
use Rattle.dom_model.proofs.Model.{World, part_of, root_at, ancestors_at, host_of, host_above, hosts_from, host_chain, some_if, shadow_root_of}
use Rattle.dom_model.proofs.Model.{shadow_including_ancestors, is_in_shadow_tree, is_hidden_from, retarget, retarget_related, event_path, view_at, views, View}
use Rattle.dom_model.proofs.Model.{visit_of, visits_of, is_at_target, world_visit, dispatch_in}
use Rattle.dom_worlds.specs.Definitions.{IsWorld}
use Rattle.dom_worlds.proofs.ListLemmas.{all-append, all-from, all-filter, all-map, all-passed, all-reverse, all-then}
use Rattle.dom_worlds.proofs.OwnerLemmas.{AreAlike, host_of-same}
use Rattle.dom_worlds.proofs.ShadowTreeLemmas.{has-chain}
use Rattle.dom_worlds.proofs.TurnLemmas.{InWorld, call}
use Rattle.dom_isolation.specs.Definitions.{NamesSeen}
use Rattle.dom_isolation.proofs.OwnVisits.{kept-visited}
use Rattle.dom_isolation.proofs.OutsideViews.{found-passes, none-found}

-- What is hidden goes by trees and hosts.
module _ (v w : World) (alike : AreAlike v w) where
  -- hosts
  host-alike : (x : NodeName) → host_above v x ≡ host_above w x
  host-alike x =
      ap (λ ts. option_and_then (some_if (name_eq (root_of ts x) (shadow_root_of x.owner))) (host_of v x.owner)) (alike x.owner).trees
      ∙ ap (option_and_then (some_if (name_eq (root_at w x) (shadow_root_of x.owner)))) (host_of-same v w (λ o. (alike o).attached) x.owner)

  -- chains of hosts
  chain-alike : (depth : ℕ) (x : NodeName) → hosts_from depth v x ≡ hosts_from depth w x
  chain-alike zero x = refl
  chain-alike (suc depth) x = ap (λ o. x ∷ flat_map (hosts_from depth v) (option_to_list o)) (host-alike x) ∙ from (host_above w x) (chain-alike depth)
    where
      from : (o : Option NodeName) → ((y : NodeName) → hosts_from depth v y ≡ hosts_from depth w y) →
          (x ∷ flat_map (hosts_from depth v) (option_to_list o)) ≡ x ∷ flat_map (hosts_from depth w) (option_to_list o)
      from None deeper = refl
      from (Some host) deeper = ap (λ ys. x ∷ (ys ++ [])) (deeper host)

  -- shadow-including ancestors
  including-alike : (xs : List NodeName) → flat_map (ancestors_at v) xs ≡ flat_map (ancestors_at w) xs
  including-alike [] = refl
  including-alike (x ∷ xs) =
      ap (λ ts. inclusive_ancestors ts x ++ flat_map (ancestors_at v) xs) (alike x.owner).trees ∙ ap (λ ys. ancestors_at w x ++ ys) (including-alike xs)

  -- what is hidden
  pub hidden-alike : (x y : NodeName) → is_hidden_from v x y ≡ is_hidden_from w x y
  hidden-alike x y =
      ap (λ o. is_some o && not (is_in name_eq (root_at v y) (shadow_including_ancestors v x))) (host-alike y)
      ∙ ap (λ ts. is_in_shadow_tree w y && not (is_in name_eq (root_of ts y) (shadow_including_ancestors v x))) (alike y.owner).trees
      ∙ ap (λ xs. is_in_shadow_tree w y && not (is_in name_eq (root_at w y) xs))
      (ap (flat_map (ancestors_at v)) (chain-alike (owner_depth x.owner) x) ∙ including-alike (host_chain w x))

-- where the last one passes, what is found passes
last-passes : (test : NodeName → Bool) (xs : List NodeName) (last d : NodeName) → test last ≡ true → test (unwrap_or (find test (xs ++ last ∷ [])) d) ≡ true
last-passes test xs last d h = from (find test (xs ++ last ∷ [])) refl
  where
    at_end : (ys : List NodeName) → AllByRecursion (λ x. test x ≡ false) (ys ++ last ∷ []) → test last ≡ false
    at_end [] a = a.0
    at_end (y ∷ ys) a = at_end ys a.1

    from : (o : Option NodeName) → find test (xs ++ last ∷ []) ≡ o → test (unwrap_or o d) ≡ true
    from None e = absurd (true≢false (sym h ∙ at_end xs (none-found test (xs ++ last ∷ []) e)))
    from (Some y) e = found-passes test (xs ++ last ∷ []) y e

module _ (w : World) (i : IsWorld w) where
  -- a node is not hidden from another one
  abbrev pub IsShown : NodeName → NodeName → Type 0
  IsShown x n = is_hidden_from w x n ≡ false

  -- What a node sees in place of another one is not hidden from it,
  seen-retarget : (a x : NodeName) → IsShown x (retarget w a x)
  seen-retarget a x =
      let k = has-chain w i a in
      let seen : NodeName → Bool = λ z. not (is_hidden_from w x z) in
      let last : seen k.last ≡ true = ap (λ (o : Option NodeName).
      not (is_some o && not (is_in name_eq (root_at w k.last) (shadow_including_ancestors w x)))) k.out in
      not-true (is_hidden_from w x (retarget w a x))
      (ap (λ xs. seen (unwrap_or (find seen xs) a)) k.chain ∙ last-passes seen k.inner k.last a last)

  -- nor what it sees of a related node
  seen-related : (r : Option NodeName) (x : NodeName) → AllByRecursion (IsShown x) (option_to_list (retarget_related w r x))
  seen-related None x = tt
  seen-related (Some a) x = (seen-retarget a x, tt)

  -- What a visit shows is not hidden from its node.
  abbrev IsShownAt : Visit NodeName → Type 0
  IsShownAt v = AllByRecursion (IsShown v.current) (v.target ∷ (option_to_list v.related ++ v.path))

  -- a view
  abbrev IsClear : View NodeName → Type 0
  IsClear v = AllByRecursion (IsShown v.node) (v.target ∷ (option_to_list v.related ++ v.path))

  -- of an event
  view-clear : (target : NodeName) (related : Option NodeName) (path : List NodeName) (x : NodeName) → IsClear (view_at w target related path x)
  view-clear target related path x = (
    seen-retarget target x,
    all-append (IsShown x) (option_to_list (retarget_related w related x)) (filter (λ y. not (is_hidden_from w x y)) path) (seen-related related x)
        (all-passed (IsShown x) (λ y. not (is_hidden_from w x y)) (λ y e. not-true (is_hidden_from w x y) e) path),
  )

  -- all visits
  visits-clear : (x : NodeName) (r : Option NodeName) (e : EventWords) → AllByRecursion IsShownAt (visits_of name_eq e.bubbles (views w x r e.composed))
  visits-clear x r e =
      let path = event_path w x r e.composed in
      let shown = views w x r e.composed in
      let clear : AllByRecursion IsClear shown =
      all-map IsClear (view_at w x r path) path (all-from (λ y. IsClear (view_at w x r path y)) (view-clear x r path) path) in
      let up = filter (λ v. e.bubbles || is_at_target name_eq v) shown in
      all-append IsShownAt (map (visit_of name_eq true) (reverse shown)) (map (visit_of name_eq false) up)
      (all-map IsShownAt (visit_of name_eq true) (reverse shown) (all-reverse IsClear shown clear))
      (all-map IsShownAt (visit_of name_eq false) up (all-filter IsClear (λ v. e.bubbles || is_at_target name_eq v) shown clear))

  -- a line of a call
  abbrev IsClearLine : EventLine NodeName → Type 0
  IsClearLine l = AllByRecursion (IsShown l.current) (l.target ∷ (option_to_list l.related ++ l.path))

  -- no action adds a line
  same-lines : (a : Action) (c : Bool) (d : Dispatching NodeName) → (after_action a c d).lines ≡ d.lines
  same-lines Log c d = refl
  same-lines a c d = refl

  -- a call adds the line of its visit
  clear-call : (e : EventWords) (v : Visit NodeName) → IsShownAt v → (d : Dispatching NodeName) (l : Listener NodeName) →
      AllByRecursion IsClearLine d.lines → AllByRecursion IsClearLine (call e v d l).lines
  unfolding call
  clear-call e v s d l h =
      subst (AllByRecursion IsClearLine) (sym (same-lines l.words.action (may_cancel e l.words)
      (record d { listeners = kept_after name_eq l d.listeners; lines = d.lines ++ line_of v l.words ∷ [] })))
      (all-append IsClearLine d.lines (line_of v l.words ∷ []) h (s, tt))

  -- visits
  clear-visits : (e : EventWords) (vs : List (Visit NodeName)) → AllByRecursion IsShownAt vs → (s : InWorld) → AllByRecursion IsClearLine s.1.lines →
      AllByRecursion IsClearLine (fold (world_visit e) s vs).1.lines
  clear-visits e [] a s h = h
  clear-visits e (v ∷ vs) a s h =
      clear-visits e vs a.1 (world_visit e s v)
      (kept-visited (λ c. AllByRecursion IsClearLine c.lines) e v (clear-call e v a.0) (record s.1 { listeners = (part_of s.0 v.current.owner).listeners }) h)

  -- so the lines of a dispatch
  pub clear-dispatch : (x : NodeName) (r : Option NodeName) (e : EventWords) → AllByRecursion (NamesSeen w) (dispatch_in w x r e).run.1
  clear-dispatch x r e =
      let vs = visits_of name_eq e.bubbles (views w x r e.composed) in
      let lines = (fold (world_visit e) (w, begun []) vs).1.lines in
      all-map (NamesSeen w) event_output lines
      (all-then IsClearLine (λ l. NamesSeen w (event_output l)) (λ l h. (refl, h)) lines (clear-visits e vs (visits-clear x r e) (w, begun []) tt))
