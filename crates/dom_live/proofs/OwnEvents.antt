-- What a group has of an event under way: in a visit at its own node, in one at another's node, and between visits; and what calls do to it.
use Rattle.dom_base.proofs.Std.{◌≡◌, Bool, true, false, ◌&&◌, ◌||◌, List, [], ◌∷◌, ◌++◌, filter, Option, Some, None}
use Rattle.dom_base.proofs.Std.{refl, sym, ap, ◌∙◌, true≢false, if◌then◌else◌, list_any, list_any-append}
use Rattle.dom_base.proofs.Std.{or-true, or-false}
use Rattle.dom_model.proofs.Model.{Owner, NodeName, owner_eq, name_eq, name_eq-true, is_in, Visit, group_turn, is_of, owner_eq-true, Action, Log, Stop}
use Rattle.dom_model.proofs.Model.{StopNow, Cancel}
use Rattle.dom_model.specs.Names.{append_once}
use Rattle.dom_worlds.proofs.ListLemmas.{by_cases}
use Rattle.dom_isolation.proofs.GroupSlots.{added-in, added-out, any-kept}
use Rattle.dom_live.specs.Frames.{Visiting, UnderWay, an_event, acted, told_to, known_by, stopped_visit}
use Rattle.dom_live.specs.Groups.{is_own_visit, is_own_node, is_own_event, own_event, own_frame}
use Rattle.dom_live.specs.Laws.{IsVisitAt}

-- an event that is cancelled, or not
abbrev pub cancelled_as : Bool → UnderWay → UnderWay
cancelled_as c u = record u { cancelled = c }

module _ (g : Owner → Bool) where
  -- what the group has of an event between visits, or in a visit at its own node
  abbrev pub seen_event : UnderWay → Option Visiting → UnderWay
  seen_event u m = record {
    event = u.event;
    by = group_turn g u.by;
    nodes = filter (is_own_node g) u.nodes;
    visits = filter (is_own_visit g) u.visits;
    visiting = m;
    stopped = u.stopped;
    cancelled = list_any g u.knowing;
    knowing = filter g u.knowing;
  }

  -- in a visit at another's node
  abbrev pub hidden_event : UnderWay → UnderWay
  hidden_event u = record (seen_event u None) { stopped = false }

  -- in a visit at a node of the group
  pub event-own : (u : UnderWay) (v : Visiting) → is_own_visit g v.visit ≡ true → own_event g (record u { visiting = Some v }) ≡ seen_event u (Some v)
  event-own u v h = ap (λ b. record (seen_event u None) { visiting = if b then Some v else None; stopped = b && u.stopped }) h

  -- at another's
  pub event-other : (u : UnderWay) (v : Visiting) → is_own_visit g v.visit ≡ false → own_event g (record u { visiting = Some v }) ≡ hidden_event u
  event-other u v h = ap (λ b. record (seen_event u None) { visiting = if b then Some v else None; stopped = b && u.stopped }) h

  -- the owners who know, with a member
  pub knowing-in : (ks : List Owner) (o : Owner) → g o ≡ true → filter g (append_once owner_eq ks o) ≡ append_once owner_eq (filter g ks) o
  knowing-in ks o h =
      added-in g ks o (is_in owner_eq o ks) (is_in owner_eq o (filter g ks))
      (any-kept (owner_eq o) g (λ x e. ap g (sym (owner_eq-true o x e)) ∙ h) ks) h

  -- with another
  pub knowing-out : (ks : List Owner) (o : Owner) → g o ≡ false → filter g (append_once owner_eq ks o) ≡ filter g ks
  knowing-out ks o h = added-out g ks o (is_in owner_eq o ks) h

  -- whether a member is among them
  any-in : (ks : List Owner) (o : Owner) → g o ≡ true → (b : Bool) → (b ≡ true → list_any g ks ≡ true) → list_any g (if b then ks else ks ++ o ∷ []) ≡ true
  any-in ks o h true k = k refl
  any-in ks o h false k = list_any-append g ks (o ∷ []) ∙ ap (λ b. list_any g ks || (b || false)) h ∙ or-true (list_any g ks)

  -- with a member one is
  pub any-knowing_in : (ks : List Owner) (o : Owner) → g o ≡ true → list_any g (append_once owner_eq ks o) ≡ true
  any-knowing_in ks o h = any-in ks o h (is_in owner_eq o ks) (known ks)
    where
      known : (ks : List Owner) → is_in owner_eq o ks ≡ true → list_any g ks ≡ true
      known [] e = absurd (true≢false (sym e))
      known (k ∷ ks) e =
          by_cases (owner_eq o k)
          (λ m. ap (λ b. b || list_any g ks) (sym (ap g (owner_eq-true o k m)) ∙ h))
          (λ m. ap (λ b. g k || b) (known ks (sym (ap (λ b. b || is_in owner_eq o ks) m) ∙ e)) ∙ or-true (g k))

  -- with another it is as before
  pub any-knowing_out : (ks : List Owner) (o : Owner) → g o ≡ false → list_any g (append_once owner_eq ks o) ≡ list_any g ks
  any-knowing_out ks o h = by_test (is_in owner_eq o ks)
    where
      by_test : (b : Bool) → list_any g (if b then ks else ks ++ o ∷ []) ≡ list_any g ks
      by_test true = refl
      by_test false = list_any-append g ks (o ∷ []) ∙ ap (λ b. list_any g ks || (b || false)) h ∙ or-false (list_any g ks)

  -- ---- calls at another's node leave what the group has of the event

  -- what is left as it is
  pub record IsHidden (u w : UnderWay) : Type 0 where
    pub event : u.event ≡ w.event
    pub by : u.by ≡ w.by
    pub nodes : u.nodes ≡ w.nodes
    pub visits : filter (is_own_visit g) u.visits ≡ filter (is_own_visit g) w.visits
    pub knowing : filter g u.knowing ≡ filter g w.knowing
    pub cancelled : list_any g u.knowing ≡ list_any g w.knowing

  -- so the group has the same
  pub hidden-same : (u w : UnderWay) → IsHidden u w → hidden_event u ≡ hidden_event w
  hidden-same u w k =
      ap (λ x. record (hidden_event u) { event = x }) k.event
      ∙ ap (λ x. record (hidden_event u) { event = w.event; by = group_turn g x }) k.by
      ∙ ap (λ x. record (hidden_event u) { event = w.event; by = group_turn g w.by; nodes = filter (is_own_node g) x }) k.nodes
      ∙ ap (λ x. record (hidden_event w) { visits = x; cancelled = list_any g u.knowing; knowing = filter g u.knowing }) k.visits
      ∙ ap (λ x. record (hidden_event w) { cancelled = list_any g u.knowing; knowing = x }) k.knowing
      ∙ ap (λ x. record (hidden_event w) { cancelled = x }) k.cancelled

  -- and the same frame, or none
  module _ (u w : UnderWay) (r v : Visiting) where
    -- in visits at others' nodes
    pub frame-hidden : IsHidden u w → is_own_visit g r.visit ≡ false → is_own_visit g v.visit ≡ false →
        own_frame g (an_event (record u { visiting = Some r })) ≡ own_frame g (an_event (record w { visiting = Some v }))
    frame-hidden k f h =
        let event = own_event g (record u { visiting = Some r }) in
        ap (λ (o : Option Owner). if is_of g o || list_any (is_own_node g) u.nodes then an_event event ∷ [] else []) k.by
        ∙ ap (λ xs. if is_of g w.by || list_any (is_own_node g) xs then an_event event ∷ [] else []) k.nodes
        ∙ ap (λ (x : UnderWay). if is_own_event g w then an_event x ∷ [] else [])
        (event-other u r f ∙ hidden-same u w k ∙ sym (event-other w v h))

  -- an event that an outsider knows to be cancelled
  known-hidden : (u : UnderWay) (o : Owner) → g o ≡ false → IsHidden (known_by o u) u
  known-hidden u o h = record {
    event = refl;
    by = refl;
    nodes = refl;
    visits = refl;
    knowing = knowing-out u.knowing o h;
    cancelled = any-knowing_out u.knowing o h;
  }

  -- the same event
  pub same-hidden : (u : UnderWay) → IsHidden u u
  same-hidden u = record { event = refl; by = refl; nodes = refl; visits = refl; knowing = refl; cancelled = refl }

  -- one that is stopped
  stopped-hidden : (u : UnderWay) → IsHidden (record u { stopped = true }) u
  stopped-hidden u = record { event = refl; by = refl; nodes = refl; visits = refl; knowing = refl; cancelled = refl }

  -- one that an outsider cancelled
  cancelled-hidden : (u : UnderWay) (o : Owner) → g o ≡ false → IsHidden (known_by o (record u { cancelled = true })) u
  cancelled-hidden u o h = let k = known-hidden u o h in record {
    event = refl;
    by = refl;
    nodes = refl;
    visits = refl;
    knowing = k.knowing;
    cancelled = k.cancelled;
  }

  -- A visit at another's node, of an outsider.
  module _ (u : UnderWay) (r v : Visiting) (o : Owner) (h : g o ≡ false) (f : is_own_visit g r.visit ≡ false) (j : is_own_visit g v.visit ≡ false) where
    -- the event as the group has it
    abbrev same_frame : UnderWay → Type 0
    same_frame x = own_frame g (an_event x) ≡ own_frame g (an_event (record u { visiting = Some v }))

    -- it is called
    pub told-hidden : same_frame (told_to o (record u { visiting = Some r }))
    told-hidden = by_flag u.cancelled
      where
        by_flag : (c : Bool) → same_frame (if c then known_by o (record u { visiting = Some r }) else record u { visiting = Some r })
        by_flag true = frame-hidden (known_by o u) u r v (known-hidden u o h) f j
        by_flag false = frame-hidden u u r v (same-hidden u) f j

    -- it acts
    pub acted-hidden : (may : Bool) (act : Action) → same_frame (acted o may act (record u { visiting = Some r }))
    acted-hidden may Log = frame-hidden u u r v (same-hidden u) f j
    acted-hidden may Stop = frame-hidden (record u { stopped = true }) u r v (stopped-hidden u) f j
    acted-hidden may StopNow = frame-hidden (record u { stopped = true }) u (stopped_visit r) v (stopped-hidden u) f j
    acted-hidden true Cancel = frame-hidden (known_by o (record u { cancelled = true })) u r v (cancelled-hidden u o h) f j
    acted-hidden false Cancel = frame-hidden u u r v (same-hidden u) f j

  -- ---- calls at a node of the group

  -- a member's action
  module _ (u : UnderWay) (v : Visiting) (o : Owner) (h : g o ≡ true) (k : is_own_visit g v.visit ≡ true) where
    -- on the event
    pub acted-own : (may : Bool) (act : Action) →
        own_event g (acted o may act (record u { visiting = Some v })) ≡ acted o may act (seen_event u (Some v))
    acted-own may Log = event-own u v k
    acted-own may Stop = event-own (record u { stopped = true }) v k
    acted-own may StopNow = event-own (record u { stopped = true }) (stopped_visit v) k
    acted-own true Cancel =
        event-own (known_by o (record u { cancelled = true })) v k
        ∙ ap (λ c. record (seen_event u (Some v)) { cancelled = c; knowing = filter g (append_once owner_eq u.knowing o) }) (any-knowing_in u.knowing o h)
        ∙ ap (λ ks. record (seen_event u (Some v)) { cancelled = true; knowing = ks }) (knowing-in u.knowing o h)
    acted-own false Cancel = event-own u v k

  -- a member is called, and told whether the event is cancelled
  pub told-own : (u : UnderWay) (v : Visiting) (o : Owner) → g o ≡ true → is_own_visit g v.visit ≡ true → (u.cancelled ≡ false → u.knowing ≡ []) →
      own_event g (told_to o (record u { visiting = Some v })) ≡ told_to o (cancelled_as u.cancelled (seen_event u (Some v)))
  told-own u v o h k i = by_flag u.cancelled i
    where
      by_flag : (c : Bool) → (c ≡ false → u.knowing ≡ []) →
          own_event g (if c then known_by o (record u { cancelled = c; visiting = Some v }) else record u { cancelled = c; visiting = Some v })
          ≡ (if c then known_by o (cancelled_as c (seen_event u (Some v))) else cancelled_as c (seen_event u (Some v)))
      by_flag true i =
          event-own (known_by o (record u { cancelled = true })) v k
          ∙ ap (λ c. record (seen_event u (Some v)) { cancelled = c; knowing = filter g (append_once owner_eq u.knowing o) }) (any-knowing_in u.knowing o h)
          ∙ ap (λ ks. record (seen_event u (Some v)) { cancelled = true; knowing = ks }) (knowing-in u.knowing o h)
      by_flag false i = event-own u v k ∙ ap (λ ks. record (seen_event u (Some v)) { cancelled = list_any g ks }) (i refl)

  -- ---- whose an event is

  -- the visits of an event of others are at others' nodes
  pub visit-outside : (nodes : List NodeName) (v : Visit NodeName) → list_any (is_own_node g) nodes ≡ false → IsVisitAt nodes v → is_own_visit g v ≡ false
  visit-outside [] v h k = absurd (true≢false (sym k))
  visit-outside (x ∷ xs) v h k =
      by_cases (is_own_node g x)
      (λ o. absurd (true≢false (sym (ap (λ b. b || list_any (is_own_node g) xs) o) ∙ h)))
      (λ o. by_cases (name_eq v.current x)
      (λ e. ap (λ (y : NodeName). g y.owner) (name_eq-true v.current x e) ∙ o)
      (λ e. visit-outside xs v (sym (ap (λ b. b || list_any (is_own_node g) xs) o) ∙ h) (sym (ap (λ b. b || is_in name_eq v.current xs) e) ∙ k)))
