-- A dispatch by keys, in a state with listeners, is the dispatch in its world.
use Rattle.dom_commands.proofs.Cited.{◌≡◌, ℕ, false, List, map, Option, option_map, sym, ap, subst, ◌∙◌, AllByRecursion, nat_eq, IsReached, IsWhole}
use Rattle.dom_commands.proofs.Cited.{host_of-same, NamedTrees, name_at, ShadowHost, ShadowTrees, shadows, IsShownBy, DocState, IsWorldOf, Outcome}
use Rattle.dom_commands.proofs.Cited.{IsDispatchedAlong, IsDispatchedIn, IsListenerAt, heard, own_listeners, MachineNow, machine_now, IsAtRest, line_shown}
use Rattle.dom_model.proofs.Model.{NodeName, Owner, EventWords, dispatch_in, visits_of, Listener, begun, World, shadow_root_of}
use Rattle.dom_commands.proofs.Dispatching.{dispatched-heard}
use Rattle.dom_commands.proofs.EventLines.{lines_shown}
use Rattle.dom_commands.proofs.ListenerWorlds.{FitsIn, part-heard, component-heard}
use Rattle.dom_commands.proofs.Listening.{OwnersAreThere, fits-own, has-own, after-visits}

-- a world with listeners has the same trees and hosts
pub shown-heard : (of : Owner → List (Listener NodeName)) (s : ShadowTrees) (w : World) → FitsIn of w → IsShownBy s w → IsShownBy s (heard of w)
shown-heard of s w fits is =
    record {
      trees = λ o. ap (λ p. p.trees) (part-heard of w fits o) ∙ is.trees o;
      owned = is.owned;
      roots = λ x. is.roots x ∙ ap (option_map shadow_root_of) (sym (component-heard of w fits x));
      hosts = λ o. is.hosts o ∙ sym (host_of-same (heard of w) w (λ a. ap (λ p. p.attached) (part-heard of w fits a)) o);
      only = is.only;
    }

-- The dispatch, and what it leaves.
module _ (f : NamedTrees) (hosts : List ShadowHost) (ls now : List (Listener ℕ)) (w : World) (there : OwnersAreThere f.names w)
    (at : AllByRecursion (IsListenerAt f.names) ls)
    (shown : IsShownBy (shadows f hosts) w) (reached : IsReached false (heard (own_listeners f.names ls) w))
    (whole : IsWhole (heard (own_listeners f.names ls) w))
    (target : ℕ) (related : Option ℕ) (e : EventWords) (outcome : Outcome) (keys : IsDispatchedAlong f.names ls now e outcome) where
  -- listeners stay at nodes
  pub fired_at : AllByRecursion (IsListenerAt f.names) now
  fired_at = subst (AllByRecursion (IsListenerAt f.names)) (sym keys.listeners)
      (after-visits nat_eq (IsListenerAt f.names) e (visits_of nat_eq e.bubbles keys.shown) (begun ls) at)

  -- and the world is the dispatch's
  pub fired_world : (IsDispatchedIn f hosts ls now target related e outcome) →
      heard (own_listeners f.names now) w ≡
      (dispatch_in (heard (own_listeners f.names ls) w) (name_at f.names target) (option_map (name_at f.names) related) e).run.0
  fired_world done =
      let of = own_listeners f.names ls in
      let fits : FitsIn of w = fits-own f.names w there ls at in
      let is : IsWorldOf f hosts (heard of w) = record { shown = shown-heard of (shadows f hosts) w fits shown; reached = reached; whole = whole } in
      sym (dispatched-heard of (own_listeners f.names now) w fits (fits-own f.names w there now fired_at) reached (name_at f.names target)
      (option_map (name_at f.names) related) e (done (heard of w) is (has-own f.names w ls fits)).0)

-- what a dispatch is to have done: the listeners, the world, the lines and the answer
abbrev Fires : List NodeName → DocState → MachineNow → List (Listener ℕ) → ℕ → Option ℕ → EventWords → Outcome → Type 0
Fires names t m now target related e outcome =
    let d = dispatch_in m.world (name_at m.names target) (option_map (name_at m.names) related) e in
    AllByRecursion (IsListenerAt t.names) now × ((machine_now t now).world ≡ d.run.0) × (map (line_shown names) outcome.lines.items ≡ d.run.1) ×
    (outcome.answer ≡ d.answer)

-- A state with these listeners is seen as a machine at rest, and its trees and hosts are these.
pub record IsShownAtRest (s : DocState) (ls : List (Listener ℕ)) (m : MachineNow) (f : NamedTrees) (hosts : List ShadowHost) : Type 0 where
  pub seen : machine_now s ls ≡ m
  pub sound : IsAtRest m
  pub names : f.names ≡ s.names
  pub there : OwnersAreThere s.names s.world
  pub shown : IsShownBy (shadows f hosts) s.world

-- in a machine that is seen so
module _ (target : ℕ) (related : Option ℕ) where
  pub fired : {f : NamedTrees} {hosts : List ShadowHost} {ls now : List (Listener ℕ)} {e : EventWords} {outcome : Outcome}
      (s : DocState) (m : MachineNow) → IsDispatchedAlong f.names ls now e outcome →
      (AllByRecursion (IsListenerAt f.names) ls → IsDispatchedIn f hosts ls now target related e outcome) → IsShownAtRest s ls m f hosts →
      Fires f.names s m now target related e outcome
  fired {f = f} {hosts = hosts} {ls = ls} {now = now} {e = e} {outcome = outcome} s m keys names is =
      subst (λ (n : MachineNow). Fires f.names s n now target related e outcome) is.seen
      (subst (λ (t : DocState). IsAtRest (machine_now t ls) → OwnersAreThere t.names t.world → IsShownBy (shadows f hosts) t.world →
      Fires f.names t (machine_now t ls) now target related e outcome)
      (ap (λ (xs : List NodeName). state xs) is.names) from (subst IsAtRest (sym is.seen) is.sound) is.there is.shown)
    where
      state : List NodeName → DocState
      state xs = record { names = xs; world = s.world }

      from : IsAtRest (machine_now (state f.names) ls) → OwnersAreThere f.names s.world → IsShownBy (shadows f hosts) s.world →
          Fires f.names (state f.names) (machine_now (state f.names) ls) now target related e outcome
      from sound there shown =
          let at = sound.listeners in
          let done = names at in
          let of = own_listeners f.names ls in
          let fits : FitsIn of s.world = fits-own f.names s.world there ls at in
          let is : IsWorldOf f hosts (heard of s.world) =
          record { shown = shown-heard of (shadows f hosts) s.world fits shown; reached = sound.reached; whole = sound.whole } in
          let end = done (heard of s.world) is (has-own f.names s.world ls fits) in (
            fired_at f hosts ls now s.world there at shown sound.reached sound.whole target related e outcome keys,
            fired_world f hosts ls now s.world there at shown sound.reached sound.whole target related e outcome keys done,
            lines_shown f.names outcome.lines.items ∙ sym end.1,
            sym end.2,
          )
