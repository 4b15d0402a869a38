-- The commands on listeners, in a world with listeners.
use Rattle.dom_commands.proofs.Cited.{◌≡◌, ◌≢◌, ℕ, ◌<◌, Bool, true, false, List, [], ◌∷◌, length, Option, Some, None, Result, Ok, Err, refl, sym, ap}
use Rattle.dom_commands.proofs.Cited.{subst, ◌∙◌, true≢false, nat_eq, is_some, IsErrAnd, AllByRecursion, IsReached, IsWhole, which_way, either_way}
use Rattle.dom_commands.proofs.Cited.{name_at, TellApart, IsListenerAt, IsDone, IsHandled, heard, own_listeners, MachineNow, machine_now, IsAtRest}
use Rattle.dom_commands.proofs.Cited.{KeepsListeners, DocState, owner-named, MayAct, opened-there}
use Rattle.dom_model.proofs.Model.{Fault, Refused, Memory, NodeName, Owner, Command, NodeWord, own, foreign, ListenerWords, own_refusal, effect, named, refusal}
use Rattle.dom_model.proofs.Model.{accepted, effect_in, keeps, Listener, with_listener_added, with_listener_removed, Word, name_eq, node_of, says, replied}
use Rattle.dom_model.proofs.Model.{nothing, Output, Part, Run, opening_turn, is_page_turn, World, part_of, is_there, owner-part_of}
use Rattle.dom_commands.proofs.Dispatching.{written-heard}
use Rattle.dom_commands.proofs.ListenerWorlds.{FitsIn, part-heard, there-heard}
use Rattle.dom_commands.proofs.HeardCommands.{refusal-heard, opening-heard, fits-opening}
use Rattle.dom_commands.proofs.Listening.{OwnersAreThere, fits-own, own-listened, others-listened, own-unlistened, others-unlistened, at-listened}
use Rattle.dom_commands.proofs.Listening.{at-unlistened}
use Rattle.dom_commands.proofs.Machines.{seen_at, seen_reached, always_at}

-- ---- the turn that a command opens

-- a world stays one that is reached
pub reached-opening : (w : World) (o : Owner) → is_there w o ≡ true → IsReached false w → IsReached false (opening_turn w o)
reached-opening w o there r =
    which_way (IsReached false) (is_some w.turn) w (record w { turn = Some o }) (λ e. r) (λ e. record {
      world = record {
        page = r.world.page;
        parts = r.world.parts;
        hosts = r.world.hosts;
        makers = r.world.makers;
        shadow_roots = r.world.shadow_roots;
        signalled = r.world.signalled;
        tasks = λ h. r.world.tasks (closed w.turn e);
      };
      kinds = r.kinds;
      owners = record {
        first = r.owners.first;
        unmade = r.owners.unmade;
        made = r.owners.made;
        turn = (there, tt);
        tasks = r.owners.tasks;
        signalled = r.owners.signalled;
      };
      logs = λ e. absurd (true≢false (sym e));
    })
  where
    closed : (t : Option Owner) → is_some t ≡ false → is_page_turn t ≡ false
    closed None e = refl
    closed (Some x) e = absurd (true≢false e)

-- and its tables whole
pub whole-opening : (w : World) (o : Owner) → IsWhole w → IsWhole (opening_turn w o)
whole-opening w o h = either_way IsWhole (is_some w.turn) w (record w { turn = Some o }) h
    (record { tables = h.tables; records = h.records; first = h.first; signalled = h.signalled })

-- ---- refusals

-- In a machine at rest that is seen as this state with these listeners, a command of an owner.
module _ (s : DocState) (ls : List (Listener ℕ)) (m : MachineNow) (seen : machine_now s ls ≡ m) (sound : IsAtRest m)
    (there : OwnersAreThere s.names s.world) (o : Owner) (c : Command) where
  pub refusal-seen : refusal m.world o c ≡ refusal s.world o c
  refusal-seen =
      ap (λ (n : MachineNow). refusal n.world o c) (sym seen) ∙
      refusal-heard (own_listeners s.names ls) s.world (fits-own s.names s.world there ls (seen_at s ls m seen sound)) o c

  -- it is refused before it begins
  pub stopped : {S : Type 0} (adds : S → List Output → S → Type 0) (told : S) (f : Fault) (q : Result (Unit {0}) Fault) → IsErrAnd q (λ e. e ≡ f) →
      IsHandled adds o c s.world s.world told told q → IsHandled adds o c m.world m.world told told q
  stopped adds told f (Ok x) err h = absurd err
  stopped adds told f (Err (Refused r)) err h = (refusal-seen ∙ h.0, refl, refl)
  stopped adds told f (Err Memory) err h = tt

  -- it may act, and has no refusal of its own
  pub unrefused : MayAct s.world o c → own_refusal (part_of s.world o) c ≡ None → refusal m.world o c ≡ None
  unrefused may none = refusal-seen ∙ may.own ∙ none

-- ---- listeners

-- A command that passes and changes its owner's listeners alone, in a world where the listeners by keys are these, and then those.
pub record ChangesListeners (names : List NodeName) (ls now : List (Listener ℕ)) (w : World) (o : Owner) (c : Command) : Type 0 where
  -- these and those are at nodes, whose owners are there in a world that is reached
  pub there : OwnersAreThere names w
  pub at : AllByRecursion (IsListenerAt names) ls
  pub at_now : AllByRecursion (IsListenerAt names) now
  pub reached : IsReached false (heard (own_listeners names ls) w)
  -- the command may act, and has no refusal of its own
  pub may : MayAct w o c
  pub none : own_refusal (part_of w o) c ≡ None
  -- its effect is this change, which makes those of these, and leaves other owners' as they are
  pub change : List (Listener NodeName) → List (Listener NodeName)
  pub runs : (v : World) → accepted v o c ≡ effect_in (opening_turn v o) o (effect (part_of (opening_turn v o) o) c)
  pub does : (p : Part) → p.owner ≡ o → effect p c ≡ keeps (record p { listeners = change p.listeners }) nothing
  pub mine : own_listeners names now o ≡ change (own_listeners names ls o)
  pub others : (q : Owner) → o ≢ q → own_listeners names now q ≡ own_listeners names ls q

-- such a command is handled in the world with listeners
module _ {S : Type 0} (adds : S → List Output → S → Type 0) where
  pub listens : {names : List NodeName} {ls now : List (Listener ℕ)} {w : World} {o : Owner} {c : Command} →
      ChangesListeners names ls now w o c → (end : World) (before after : S) (r : Result (Unit {0}) Fault) →
      IsDone adds None (opening_turn w o, says o (replied nothing) ∷ []) w end before after r →
      IsHandled adds o c (heard (own_listeners names ls) w) (heard (own_listeners names now) end) before after r
  listens changing end before after (Err (Refused q)) done = let no : None ≡ Some q = done.0 in absurd cc
  listens changing end before after (Err Memory) done = tt
  listens {names = names} {ls = ls} {now = now} {w = w} {o = o} {c = c} changing end before after (Ok x) done =
      let of = own_listeners names ls in
      let to = own_listeners names now in
      let here = changing.may.there in
      let v = opening_turn w o in
      let fits : FitsIn of w = fits-own names w changing.there ls changing.at in
      let fits_v : FitsIn of v = fits-opening of w o fits in
      let fits_to : FitsIn to v = fits-opening to w o (fits-own names w changing.there now changing.at_now) in
      let reached_v : IsReached false (heard of v) =
      subst (IsReached false) (opening-heard of w o) (reached-opening (heard of w) o (there-heard of w o ∙ here) changing.reached) in
      let p = part_of (heard of v) o in
      let hears : p.listeners ≡ of o = ap (λ (q : Part). q.listeners) (part-heard of v fits_v o) ∙ ap of (owner-part_of v o) in
      let run : accepted (heard of w) o c ≡ (heard to v, says o (replied nothing) ∷ []) =
      changing.runs (heard of w) ∙ ap (λ (u : World). effect_in u o (effect (part_of u o) c)) (opening-heard of w o) ∙
      ap (effect_in (heard of v) o) (changing.does p (owner-part_of (heard of v) o))
      ∙ ap (λ (u : World). (u, says o (replied nothing) ∷ []))
      (written-heard of to v fits_v fits_to reached_v o (opened-there w o here) (changing.change p.listeners) (changing.mine ∙ ap changing.change (sym hears))
      changing.others) in (
        refusal-heard of w fits o c ∙ changing.may.own ∙ changing.none,
        ap (heard to) done.1 ∙ sym (ap (λ (q : Run World). q.0) run),
        subst (λ (q : Run World). adds before q.1 after) (sym run) done.2,
      )

-- so it is in machines that are seen as these states with these listeners
module _ (s t : DocState) (ls ms : List (Listener ℕ)) {now : List (Listener ℕ)} {o : Owner} {c : Command}
    (changing : ChangesListeners s.names ls now s.world o c) (kept : t.names ≡ s.names) (is : ms ≡ now) where
  module _ {S : Type 0} (adds : S → List Output → S → Type 0) where
    pub listens_in : (m : MachineNow) → machine_now s ls ≡ m → (before after : S)
        (r : Result (Unit {0}) Fault) →
        IsDone adds None (opening_turn s.world o, says o (replied nothing) ∷ []) s.world t.world before after r →
        IsHandled adds o c m.world (machine_now t ms).world before after r
    listens_in m seen before after r done =
        let Done : MachineNow → List NodeName → List (Listener ℕ) → Type 0 =
        λ n names xs. IsHandled adds o c n.world (heard (own_listeners names xs) t.world) before after r in
        let here : Done (machine_now s ls) s.names now = listens adds changing t.world before after r done in
        subst (λ (n : MachineNow). Done n t.names ms) seen (subst (λ (names : List NodeName). Done (machine_now s ls) names ms) (sym kept)
        (subst (λ (xs : List (Listener ℕ)). Done (machine_now s ls) s.names xs) (sym is) here))

  -- and the listeners stay at nodes
  pub listens_at : (r : Result (Unit {0}) Fault) → KeepsListeners (machine_now t ms) r
  listens_at r =
      always_at (machine_now t ms) r (subst (λ (names : List NodeName). AllByRecursion (IsListenerAt names) ms) (sym kept)
      (subst (AllByRecursion (IsListenerAt s.names)) (sym is) changing.at_now))

-- an owner's parts read a spelling alike
pub named_alike : (p q : Part) (x : NodeWord) → p.owner ≡ q.owner → named p x ≡ named q x
named_alike p q (own k) e = ap (λ (o : Owner). node_of o k) e
named_alike p q foreign e = ap (λ (o : Owner). node_of o 0) e

-- The node of a key, in a machine at rest that is seen as this state with these listeners.
module _ (s : DocState) (ls : List (Listener ℕ)) (m : MachineNow) (seen : machine_now s ls ≡ m) (sound : IsAtRest m) (apart : TellApart s.names)
    (there : OwnersAreThere s.names s.world) (o : Owner) (x : NodeWord) (k : ℕ) (within : k < length s.names)
    (name : name_at s.names k ≡ named (part_of s.world o) x) where
  its_owner : (name_at s.names k).owner ≡ o
  its_owner = ap (λ (y : NodeName). y.owner) name ∙ owner-named s.world o x

  its_name : (p : Part) → p.owner ≡ o → named p x ≡ name_at s.names k
  its_name p e = named_alike p (part_of s.world o) x (e ∙ sym (owner-part_of s.world o)) ∙ sym name

  -- `listen`
  pub listening : (words : ListenerWords) → MayAct s.world o (Command.listen x words) →
      ChangesListeners s.names ls (with_listener_added nat_eq k words ls) s.world o (Command.listen x words)
  listening words may =
      let y = name_at s.names k in
      record {
        there = there;
        at = seen_at s ls m seen sound;
        at_now = at-listened s.names apart ls (seen_at s ls m seen sound) k within words;
        reached = seen_reached s ls m seen sound;
        may = may;
        none = refl;
        change = with_listener_added name_eq y words;
        runs = λ v. refl;
        does = λ p e. ap (λ (z : NodeName). keeps (record p { listeners = with_listener_added name_eq z words p.listeners }) nothing) (its_name p e);
        mine = subst (λ (a : Owner). own_listeners s.names (with_listener_added nat_eq k words ls) a ≡ with_listener_added name_eq y words
            (own_listeners s.names ls a)) its_owner
            (own-listened s.names apart ls (seen_at s ls m seen sound) k within words);
        others = λ q other. others-listened s.names apart ls (seen_at s ls m seen sound) k within words q (λ e. other (sym its_owner ∙ e));
      }

  -- `unlisten`
  pub unlistening : (event label : Word) (capture : Bool) → MayAct s.world o (Command.unlisten x event label capture) →
      ChangesListeners s.names ls (with_listener_removed nat_eq k event label capture ls) s.world o (Command.unlisten x event label capture)
  unlistening event label capture may =
      let y = name_at s.names k in
      let less = with_listener_removed nat_eq k event label capture ls in
      record {
        there = there;
        at = seen_at s ls m seen sound;
        at_now = at-unlistened s.names apart ls (seen_at s ls m seen sound) k within event label capture;
        reached = seen_reached s ls m seen sound;
        may = may;
        none = refl;
        change = with_listener_removed name_eq y event label capture;
        runs = λ v. refl;
        does = λ p e. ap (λ (z : NodeName). keeps (record p { listeners = with_listener_removed name_eq z event label capture p.listeners }) nothing)
            (its_name p e);
        mine = subst (λ (a : Owner). own_listeners s.names less a ≡ with_listener_removed name_eq y event label capture (own_listeners s.names ls a)) its_owner
            (own-unlistened s.names apart ls (seen_at s ls m seen sound) k within event label capture);
        others = λ q other. others-unlistened s.names apart ls (seen_at s ls m seen sound) k within event label capture q (λ e. other (sym its_owner ∙ e));
      }
