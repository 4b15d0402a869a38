-- What is done in a state is done in the machine around it.
use Rattle.dom_commands.proofs.Cited.{◌≡◌, ℕ, true, false, List, [], ◌∷◌, None, Result, Ok, Err, length, arith, sym, ap, subst, ◌∙◌, true≢false}
use Rattle.dom_commands.proofs.Cited.{AllByRecursion, is_some, slice_get, slice_get_past, IsBounded, IsReached, IsWhole, accepted-facts, attach-may}
use Rattle.dom_commands.proofs.Cited.{first-is_bounded, step-keeps_bounds, first-is_reached, step-keeps_reached, attached-are_there, first-is_whole}
use Rattle.dom_commands.proofs.Cited.{step-keeps_whole, host_of-made, DocState, IsListenerAt, IsHandled, BeginsWith, KeepsNames, heard, own_listeners}
use Rattle.dom_commands.proofs.Cited.{MachineNow, machine_now, OnOk, IsAtRest, AreAtNodes, KeepsListeners, HasFirstNodes, is_plain, opened-part}
use Rattle.dom_model.proofs.Model.{Fault, Refused, Memory, NodeName, Owner, Page, Command, Line, Listener, first_world, refusal, step, node_of, opening_turn}
use Rattle.dom_model.proofs.Model.{Output, Part, World, part_of, is_there, component_made, MayAttach, component_made-no_page}
use Rattle.dom_commands.proofs.Bounded.{first_nodes-unheard}
use Rattle.dom_commands.proofs.ListenerWorlds.{FitsIn, there-heard, part-heard}
use Rattle.dom_commands.proofs.HeardCommands.{IsNew, IsHeardPlain, handled-heard}
use Rattle.dom_commands.proofs.Listening.{OwnersAreThere, fits-own, at-kept, own-kept}

-- A world that is reached, with the listeners of its owners.
module _ (of : Owner → List (Listener NodeName)) (w : World) (fits : FitsIn of w) (reached : IsReached false (heard of w)) where
  -- The component that an owner's next attach makes was not there.
  next_absent : (o : Owner) → MayAttach o → is_there w (component_made o (length (part_of w o).attached)) ≡ false
  next_absent o may =
      let hosts = (part_of w o).attached in
      let c = component_made o (length hosts) in
      sym (there-heard of w c) ∙ attached-are_there false (heard of w) reached c (component_made-no_page o (length hosts))
      ∙ ap is_some (host_of-made (heard of w) o (length hosts) may)
      ∙ ap (λ (p : Part). is_some (slice_get p.attached (length hosts))) (part-heard of w fits o) ∙
      ap is_some (slice_get_past hosts (length hosts) (omega arith))

  -- so the component that a command makes has no listeners
  made_new : (o : Owner) (c : Command) → refusal w o c ≡ None → IsNew of (opening_turn w o) o c
  made_new o (Command.attach x) passes =
      let may = attach-may w o x (accepted-facts w o (Command.attach x) passes).part in
      ap (λ (p : Part). of (component_made o (length p.attached))) (sym (opened-part w o)) ∙
      fits (component_made o (length (part_of w o).attached)) (next_absent o may)
  made_new o c passes = tt

-- What an owner's command did from one state to another: it kept the names of nodes, and is handled in the world of the documents.
pub record IsCarriedOut {S : Type 0} (adds : S → List Output → S → Type 0) (s t : DocState) (o : Owner) (c : Command) (before after : S)
    (r : Result (Unit {0}) Fault) : Type 0 where
  pub names : KeepsNames s.names t.names r
  pub handled : IsHandled adds o c s.world t.world before after r

module _ (s t : DocState) (ls : List (Listener ℕ)) (there : OwnersAreThere s.names s.world) (at : AllByRecursion (IsListenerAt s.names) ls) where
  -- listeners hear in the state behind as before
  pub heard_kept : BeginsWith s.names t.names → heard (own_listeners s.names ls) t.world ≡ (machine_now t ls).world
  heard_kept kept = ap (λ of. heard of t.world) (sym (own-kept s.names t.names kept ls at))

  -- such a command
  pub plain_handled : {S : Type 0} (adds : S → List Output → S → Type 0) {o : Owner} {c : Command} {before after : S} {r : Result (Unit {0}) Fault} →
      IsCarriedOut adds s t o c before after r → IsReached false (machine_now s ls).world → is_plain c ≡ true →
      IsHandled adds o c (machine_now s ls).world (machine_now t ls).world before after r
  plain_handled adds {o = o} {c = c} {before = before} {after = after} {r = r} done reached plain =
      by r done.names (handled-heard of adds t.world heard_plain before after r done.handled)
    where
      of : Owner → List (Listener NodeName)
      of = own_listeners s.names ls

      fits : FitsIn of s.world
      fits = fits-own s.names s.world there ls at

      heard_plain : IsHeardPlain of s.world o c
      heard_plain = record { fits = fits; plain = plain; new = λ e. made_new of s.world fits reached o c e }

      by : (r : Result (Unit {0}) Fault) → KeepsNames s.names t.names r → IsHandled adds o c (heard of s.world) (heard of t.world) before after r →
          IsHandled adds o c (machine_now s ls).world (machine_now t ls).world before after r
      by (Ok x) kept h = subst (λ (w : World). IsHandled adds o c (heard of s.world) w before after (Ok x)) (heard_kept kept) h
      by (Err (Refused q)) kept h = subst (λ (w : World). IsHandled adds o c (heard of s.world) w before after (Err (Refused q))) (heard_kept kept) h
      by (Err Memory) kept h = tt

  -- the listeners stay at nodes
  pub kept_at : (r : Result (Unit {0}) Fault) → KeepsNames s.names t.names r → KeepsListeners (machine_now t ls) r
  kept_at (Ok x) kept = at-kept s.names t.names kept ls at
  kept_at (Err (Refused q)) kept = at-kept s.names t.names kept ls at
  kept_at (Err Memory) kept = tt

-- what holds of the listeners of a machine that is seen so
pub seen_at : (s : DocState) (ls : List (Listener ℕ)) (m : MachineNow) → machine_now s ls ≡ m → IsAtRest m → AllByRecursion (IsListenerAt s.names) ls
seen_at s ls m seen sound = (subst IsAtRest (sym seen) sound).listeners

-- and of its world
pub seen_reached : (s : DocState) (ls : List (Listener ℕ)) (m : MachineNow) → machine_now s ls ≡ m → IsAtRest m → IsReached false (machine_now s ls).world
seen_reached s ls m seen sound = (subst IsAtRest (sym seen) sound).reached

-- and of the world of its documents
module _ (s : DocState) (ls : List (Listener ℕ)) (m : MachineNow) (seen : machine_now s ls ≡ m) (sound : IsAtRest m)
    (there : OwnersAreThere s.names s.world) where
  rest : IsAtRest (machine_now s ls)
  rest = subst IsAtRest (sym seen) sound

  fits : FitsIn (own_listeners s.names ls) s.world
  fits = fits-own s.names s.world there ls rest.listeners

  -- each owner that is there has its first node
  pub seen_first_nodes : HasFirstNodes s.world
  seen_first_nodes = first_nodes-unheard (own_listeners s.names ls) s.world fits rest.whole.first

-- ---- lines

-- a line, where it was carried out
pub line_sound : {T E : Type 0} {m : MachineNow} (r : Result T E) (n : MachineNow) (l : Line) → IsAtRest m → OnOk r (n.world ≡ (step m.world l).0) →
    OnOk r (AreAtNodes n) → OnOk r (IsAtRest n)
line_sound (Err e) n l sound is at = tt
line_sound {m = m} (Ok x) n l sound is at =
    record {
      listeners = at;
      reached = subst (IsReached false) (sym is) (step-keeps_reached false m.world l sound.reached (λ e. absurd (true≢false (sym e))));
      whole = subst IsWhole (sym is) (step-keeps_whole false m.world l sound.reached sound.whole);
      bounds = subst IsBounded (sym is) (step-keeps_bounds false m.world l sound.reached sound.whole sound.bounds);
    }

-- the first machine
pub first_sound : (s : DocState) → s ≡ record { names = node_of Page 0 ∷ []; world = first_world } → IsAtRest (machine_now s [])
first_sound s is = subst (λ (t : DocState). IsAtRest (machine_now t [])) (sym is)
    (record { listeners = tt; reached = first-is_reached false; whole = first-is_whole; bounds = first-is_bounded })

-- listeners that are at nodes are so however a command ends
pub always_at : (m : MachineNow) (r : Result (Unit {0}) Fault) → AreAtNodes m → KeepsListeners m r
always_at m (Ok x) at = at
always_at m (Err (Refused q)) at = at
always_at m (Err Memory) at = tt
