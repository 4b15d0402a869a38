-- The turn that a dispatch opens, and what the dispatch is to the document machine.
use Rattle.dom_commands.proofs.Cited.{◌≡◌, ℕ, Bool, true, false, List, [], ◌∷◌, ◌++◌, Option, Some, None, Ok, refl, sym, ap, subst, ◌∙◌, append_assoc}
use Rattle.dom_commands.proofs.Cited.{option_map, AllByRecursion, IsBounded, IsReached, IsWhole, Joins, DocState, word_view, IsListenerAt, IsHandled}
use Rattle.dom_commands.proofs.Cited.{heard, own_listeners, machine_now, IsAtRest}
use Rattle.dom_model.proofs.Model.{NodeName, Owner, Command, NodeWord, EventWords, named, Dispatched, dispatch_in, refusal, Listener, says, replied, a_truth}
use Rattle.dom_model.proofs.Model.{opening_turn, Output, World, part_of, is_there, owner-part_of}
use Rattle.dom_commands.proofs.Bounded.{bounded-opening}
use Rattle.dom_commands.proofs.EventCommands.{named_alike, reached-opening, whole-opening}
use Rattle.dom_commands.proofs.HeardCommands.{opening-heard}
use Rattle.dom_reader.specs.declared.line.NodeWord as line

-- An owner's turn is opened in a state.
pub record IsOpened (s t : DocState) (o : Owner) : Type 0 where
  pub names : t.names ≡ s.names
  pub world : t.world ≡ opening_turn s.world o

-- a machine stays sound when a turn is opened
pub opened_sound : {s t : DocState} {o : Owner} (ls : List (Listener ℕ)) → IsOpened s t o → is_there (machine_now s ls).world o ≡ true →
    IsAtRest (machine_now s ls) → IsAtRest (machine_now t ls)
opened_sound {s = s} {t = t} {o = o} ls opened there sound =
    let of = own_listeners s.names ls in
    let is : opening_turn (heard of s.world) o ≡ (machine_now t ls).world =
    opening-heard of s.world o ∙ ap (heard of) (sym opened.world) ∙ ap (λ (ns : List NodeName). heard (own_listeners ns ls) t.world) (sym opened.names) in
    record {
      listeners = subst (λ (ns : List NodeName). AllByRecursion (IsListenerAt ns) ls) (sym opened.names) sound.listeners;
      reached = subst (IsReached false) is (reached-opening (heard of s.world) o there sound.reached);
      whole = subst IsWhole is (whole-opening (heard of s.world) o sound.whole);
      bounds = subst IsBounded is (bounded-opening (heard of s.world) o sound.bounds);
    }

-- spellings read alike when a turn is open
pub opened_name : (w v : World) (o : Owner) (x : NodeWord) → named (part_of w o) x ≡ named (part_of (opening_turn v o) o) x
opened_name w v o x = named_alike (part_of w o) (part_of (opening_turn v o) o) x (owner-part_of w o ∙ sym (owner-part_of (opening_turn v o) o))

pub opened_names : (w v : World) (o : Owner) (r : Option line.NodeWord) →
    option_map (λ x. named (part_of w o) (word_view x)) r ≡ option_map (named (part_of (opening_turn v o) o)) (option_map word_view r)
opened_names w v o None = refl
opened_names w v o (Some x) = ap Some (opened_name w v o (word_view x))

-- What a dispatch did in its owner's turn: its world, what it tells, up to the middle, and then its answer.
pub record HasDispatched {S : Type 0} (adds : S → List Output → S → Type 0) (w : World) (o : Owner) (x : NodeWord) (e : EventWords)
    (related : Option NodeWord) (end : World) (before after : S) : Type 0 where
  pub dispatched : Dispatched World
  pub same : dispatched ≡ dispatch_in (opening_turn w o) (named (part_of (opening_turn w o) o) x)
      (option_map (named (part_of (opening_turn w o) o)) related) e
  pub middle : S
  pub answer : Bool
  pub world : end ≡ dispatched.run.0
  pub told : adds before dispatched.run.1 middle
  pub truth : answer ≡ dispatched.answer
  pub ending : adds middle (says o (replied (a_truth answer)) ∷ []) after

-- it is handled, where it is not refused
pub dispatch_handled : {S : Type 0} (adds : S → List Output → S → Type 0) {w : World} {o : Owner} {x : NodeWord} {e : EventWords} {related : Option NodeWord}
    {end : World} {before after : S} → Joins adds → HasDispatched adds w o x e related end before after →
    refusal w o (Command.dispatch x e related) ≡ None → IsHandled adds o (Command.dispatch x e related) w end before after (Ok tt)
dispatch_handled adds {o = o} {before = before} {after = after} more done none =
    let run = done.dispatched.run in
    let reply : Bool → List Output = λ b. says o (replied (a_truth b)) ∷ [] in (
      none,
      done.world ∙ ap (λ (q : Dispatched World). q.run.0) done.same,
      subst (λ (q : Dispatched World). adds before (q.run.1 ++ reply q.answer) after) done.same
          (more before done.middle after run.1 (reply done.dispatched.answer) done.told
          (subst (λ (b : Bool). adds done.middle (reply b) after) done.truth done.ending)),
    )
