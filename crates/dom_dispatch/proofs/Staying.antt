-- Listeners stay at nodes.
use Rattle.dom_dispatch.proofs.Cited.{ℕ, Bool, true, false, not, List, [], ◌∷◌, ◌++◌, filter, fold, sym, subst, arith, nat_eq, if◌then◌else◌, list_any}
use Rattle.dom_dispatch.proofs.Cited.{length-append, NodeName, EventWords, visits_of, Listener, Visit, Dispatching, after_action, may_cancel, line_of}
use Rattle.dom_dispatch.proofs.Cited.{is_listener, with_listener_removed, kept_after, after_inner_invoke, hears, after_invoke, begun, all-filter, IsListenerAt}
use Rattle.dom_dispatch.proofs.Cited.{AreAtNodes, NoneStay, MoreStay, ListenedStay, UnlistenedStay, DispatchedStay}
use Rattle.dom_dispatch.proofs.Narrowing.{acted-listeners}

-- the state in which a listener acts
abbrev pub heard_by : Visit ℕ → Dispatching ℕ → Listener ℕ → Dispatching ℕ
heard_by v s l = record s { listeners = kept_after nat_eq l s.listeners; lines = s.lines ++ line_of v l.words ∷ [] }

module _ (names : List NodeName) where
  -- those that are left once one was called are listeners of these nodes
  kept-at : (l : Listener ℕ) (ls : List (Listener ℕ)) → AreAtNodes names ls → AreAtNodes names (kept_after nat_eq l ls)
  kept-at l ls h = by l.words.once
    where
      by : (b : Bool) → AreAtNodes names (if b then with_listener_removed nat_eq l.node l.words.event l.words.label l.words.capture ls else ls)
      by true = all-filter (IsListenerAt names) (λ m. not (is_listener nat_eq l.node l.words.event l.words.label l.words.capture m)) ls h
      by false = h

  module _ (e : EventWords) where
    -- so are they after one call,
    pub called-at : (v : Visit ℕ) (s : Dispatching ℕ) (l : Listener ℕ) → AreAtNodes names s.listeners → AreAtNodes names
        (after_inner_invoke nat_eq e v s l).listeners
    called-at v s l h = by s.stopped_now
      where
        by : (b : Bool) → AreAtNodes names (if b then s else after_action l.words.action (may_cancel e l.words) (heard_by v s l)).listeners
        by true = h
        by false = subst (AreAtNodes names) (sym (acted-listeners l.words.action (may_cancel e l.words) (heard_by v s l))) (kept-at l s.listeners h)

    -- after some,
    calls-at : (v : Visit ℕ) (heard : List (Listener ℕ)) (s : Dispatching ℕ) → AreAtNodes names s.listeners →
        AreAtNodes names (fold (after_inner_invoke nat_eq e v) s heard).listeners
    calls-at v [] s h = h
    calls-at v (l ∷ heard) s h = calls-at v heard (after_inner_invoke nat_eq e v s l) (called-at v s l h)

    -- after one visit,
    pub visited-at : (v : Visit ℕ) (s : Dispatching ℕ) → AreAtNodes names s.listeners → AreAtNodes names (after_invoke nat_eq e s v).listeners
    visited-at v s h = by s.stopped
      where
        by : (b : Bool) → AreAtNodes names (if b then s else fold (after_inner_invoke nat_eq e v) s (filter (hears nat_eq e v) s.listeners)).listeners
        by true = h
        by false = calls-at v (filter (hears nat_eq e v) s.listeners) s h

    -- and after all
    visits-at : (vs : List (Visit ℕ)) (s : Dispatching ℕ) → AreAtNodes names s.listeners → AreAtNodes names (fold (after_invoke nat_eq e) s vs).listeners
    visits-at [] s h = h
    visits-at (v ∷ vs) s h = visits-at vs (after_invoke nat_eq e s v) (visited-at v s h)

-- ---- the calls

pub none-stay : NoneStay
none-stay names = tt

pub more-stay : MoreStay
more-stay names more [] h = tt
more-stay names more (l ∷ ls) h = (let n = h.0 in let e = length-append names more in omega arith, more-stay names more ls h.1)

pub listened-stay : ListenedStay
listened-stay names ls h x at words = by (list_any (is_listener nat_eq x words.event words.label words.capture) ls)
  where
    behind : (ms : List (Listener ℕ)) → AreAtNodes names ms → AreAtNodes names (ms ++ record { node = x; words = words } ∷ [])
    behind [] g = (at, tt)
    behind (m ∷ ms) g = (g.0, behind ms g.1)

    by : (b : Bool) → AreAtNodes names (if b then ls else ls ++ record { node = x; words = words } ∷ [])
    by true = h
    by false = behind ls h

pub unlistened-stay : UnlistenedStay
unlistened-stay names ls h x event label capture = all-filter (IsListenerAt names) (λ l. not (is_listener nat_eq x event label capture l)) ls h

pub dispatched-stay : DispatchedStay
dispatched-stay f hosts before after target related e outcome h is =
    subst (AreAtNodes f.names) (sym is.listeners) (visits-at f.names e (visits_of nat_eq e.bubbles is.shown) (begun before) h)
