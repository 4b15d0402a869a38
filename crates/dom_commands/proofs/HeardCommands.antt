-- Commands do in a world with listeners what they do in the world, but for those that ask for listeners.
use Rattle.dom_commands.proofs.Cited.{◌≡◌, ℕ, Bool, true, false, not, ◌&&◌, List, [], ◌∷◌, ◌++◌, length, map, Option, Some, None, Result, Ok, Err, refl, sym}
use Rattle.dom_commands.proofs.Cited.{ap, ◌∙◌, slice_get, is_some, if◌then◌else◌, option_or, option_map_or, subst, IsHandled, hearing, heard, is_plain}
use Rattle.dom_model.proofs.Model.{Fault, Refused, Memory, Shadow, NodeName, Owner, Page, Component, Refusal, Syntax, Busy, Foreign, Unknown, WrongKind}
use Rattle.dom_model.proofs.Model.{Command, NodeWord, names_foreign, nodes_exist, thing_exists, nodes_fit, is_command_of, part_refusal, effect, named, of_range}
use Rattle.dom_model.proofs.Model.{related_refusal, is_busy, refusal, effect_in, perform, accepted, part_with_root, Effect, tables, changes, answers}
use Rattle.dom_model.proofs.Model.{plan_of_range, of_iterator, of_walker, moves_iterator, sets_walker, node_or_null, Plan, extracting, Listener, Value, says}
use Rattle.dom_model.proofs.Model.{replied, nothing, a_node, a_string, boundaries, reference, a_truth, a_list, a_component, Part, next_name, range_at, deleting}
use Rattle.dom_model.proofs.Model.{inserting_into_range, range_text_of, Range, Run, answering, Step, Iterator, Walker, iterator_next_node}
use Rattle.dom_model.proofs.Model.{iterator_previous_node, walker_move, node_in, opening_turn, first_refusal, World, part_of, with_part, is_there}
use Rattle.dom_model.proofs.Model.{component_made, is_connected, assigned_nodes, Output}
use Rattle.dom_worlds.proofs.PlanLemmas.{blind-pre_inserting, blind-replacing, blind-adopting, blind-splitting, blind-normalizing, blind-setting_text}
use Rattle.dom_worlds.proofs.PlanLemmas.{blind-deleting, blind-into_range, blind-extracting}
use Rattle.dom_commands.proofs.ListenerWorlds.{FitsIn, there-heard, part-heard, step-hearing, with_part-heard, assigned-heard, connected-heard, after-heard}

-- an effect with listeners
abbrev hearing_effect : (Owner → List (Listener NodeName)) → Effect → Effect
hearing_effect of (tables p lines v) = tables (hearing of p) lines v
hearing_effect of (changes steps v) = changes steps v

module _ (of : Owner → List (Listener NodeName)) where
  -- ---- in a part

  -- its refusals
  related-hearing : (o : Owner) (p : Part) (x : NodeName) (related : Option NodeWord) →
      related_refusal o (hearing of p) x related ≡ related_refusal o p x related
  related-hearing Page p x related = refl
  related-hearing (Component k) p x related = refl

  refusal-hearing : (p : Part) (c : Command) → part_refusal (hearing of p) c ≡ part_refusal p c
  refusal-hearing p (Command.new_element a) = refl
  refusal-hearing p (Command.dispatch x e related) =
      let c = Command.dispatch x e related in
      ap (option_or (first_refusal ((not (nodes_exist p c && thing_exists p c), Unknown) ∷ (not (nodes_fit p c), WrongKind) ∷ [])))
      (related-hearing p.owner p (named p x) related)
  refusal-hearing p c = refl

  -- of a range, an iterator or a walker
  of_range-hearing : (p : Part) (k : ℕ) (f : Range NodeName → Plan) → ((r : Range NodeName) → f r (hearing of p) ≡ f r p) →
      plan_of_range (hearing of p) k f ≡ plan_of_range p k f
  of_range-hearing p k f same = λ j. of_range p k [] (λ r. same r j)

  found-hearing : {A : Type 0} (p : Part) (f g : A → Effect) → ((a : A) → f a ≡ hearing_effect of (g a)) → (a : Option A) →
      option_map_or f a (answers (hearing of p) nothing) ≡ hearing_effect of (option_map_or g a (answers p nothing))
  found-hearing p f g same None = refl
  found-hearing p f g same (Some a) = same a

  range-hearing : (p : Part) (k : ℕ) (f : Range NodeName → Effect) →
      of_range (hearing of p) k (answers (hearing of p) nothing) (λ r. hearing_effect of (f r)) ≡ hearing_effect of
      (of_range p k (answers p nothing) f)
  range-hearing p k f = found-hearing p (λ r. hearing_effect of (f r)) f (λ r. refl) (range_at p k)

  iterator-hearing : (p : Part) (k : ℕ) (f g : Iterator → Effect) → ((i : Iterator) → f i ≡ hearing_effect of (g i)) →
      of_iterator (hearing of p) k f ≡ hearing_effect of (of_iterator p k g)
  iterator-hearing p k f g same = found-hearing p f g same (slice_get p.iterators k)

  walker-hearing : (p : Part) (k : ℕ) (f g : Walker → Effect) → ((w : Walker) → f w ≡ hearing_effect of (g w)) →
      of_walker (hearing of p) k f ≡ hearing_effect of (of_walker p k g)
  walker-hearing p k f g same = found-hearing p f g same (slice_get p.walkers k)

  set-hearing : (p : Part) (k : ℕ) (w : Walker) (x : Option NodeName) (v : Value) →
      sets_walker (hearing of p) k w x v ≡ hearing_effect of (sets_walker p k w x v)
  set-hearing p k w None v = refl
  set-hearing p k w (Some x) v = refl

  -- its effects
  effect-hearing : (p : Part) (c : Command) → is_plain c ≡ true → effect (hearing of p) c ≡ hearing_effect of (effect p c)
  effect-hearing p (Command.new_element a) plain = refl
  effect-hearing p (Command.append a x) plain =
      ap (λ (steps : List Step). changes steps nothing) (blind-pre_inserting (hearing of) (step-hearing of) (named p x) (named p a) None p)
  effect-hearing p (Command.insert a x c) plain =
      ap (λ (steps : List Step). changes steps nothing) (blind-pre_inserting (hearing of) (step-hearing of) (named p x) (named p a) (Some (named p c)) p)
  effect-hearing p (Command.replace a x c) plain =
      ap (λ (steps : List Step). changes steps nothing) (blind-replacing (hearing of) (step-hearing of) (named p a) (named p x) (named p c) p)
  effect-hearing p (Command.adopt d x) plain =
      ap (λ (steps : List Step). changes steps nothing) (blind-adopting (hearing of) (step-hearing of) (named p d) (named p x) p)
  effect-hearing p (Command.normalize x) plain =
      ap (λ (steps : List Step). changes steps nothing) (blind-normalizing (hearing of) (step-hearing of) (named p x) p)
  effect-hearing p (Command.split x i) plain =
      ap (λ (steps : List Step). changes steps (a_node (next_name p))) (blind-splitting (hearing of) (step-hearing of) (named p x) i p)
  effect-hearing p (Command.set_text x s) plain =
      ap (λ (steps : List Step). changes steps nothing) (blind-setting_text (hearing of) (step-hearing of) (named p x) s p)
  effect-hearing p (Command.range_get r) plain = range-hearing p r (λ range. answers p (boundaries range.start range.end))
  effect-hearing p (Command.range_text r) plain = range-hearing p r (λ range. answers p (a_string (range_text_of p.trees range)))
  effect-hearing p (Command.extract r) plain =
      ap (λ (steps : List Step). changes steps (a_node (next_name p))) (of_range-hearing p r (extracting r)
      (λ range. blind-extracting (hearing of) (step-hearing of) r range p))
  effect-hearing p (Command.delete r) plain =
      ap (λ (steps : List Step). changes steps nothing) (of_range-hearing p r (deleting r)
      (λ range. blind-deleting (hearing of) (step-hearing of) r range p))
  effect-hearing p (Command.insert_node r x) plain =
      ap (λ (steps : List Step). changes steps nothing)
      (of_range-hearing p r (λ range. inserting_into_range r range (named p x))
      (λ range. blind-into_range (hearing of) (step-hearing of) r range (named p x) p))
  effect-hearing p (Command.iterator_next i) plain =
      iterator-hearing p i (λ it. moves_iterator (hearing of p) i false it (iterator_next_node p.trees it))
      (λ it. moves_iterator p i false it (iterator_next_node p.trees it)) (λ it. refl)
  effect-hearing p (Command.iterator_previous i) plain =
      iterator-hearing p i (λ it. moves_iterator (hearing of p) i true it (iterator_previous_node p.trees it))
      (λ it. moves_iterator p i true it (iterator_previous_node p.trees it)) (λ it. refl)
  effect-hearing p (Command.iterator_at i) plain =
      iterator-hearing p i (λ it. answers (hearing of p) (reference it.reference it.before)) (λ it. answers p (reference it.reference it.before))
      (λ it. refl)
  effect-hearing p (Command.walk i m) plain =
      walker-hearing p i (λ w. sets_walker (hearing of p) i w (walker_move p.trees w m) (node_or_null (walker_move p.trees w m)))
      (λ w. sets_walker p i w (walker_move p.trees w m) (node_or_null (walker_move p.trees w m)))
      (λ w. set-hearing p i w (walker_move p.trees w m) (node_or_null (walker_move p.trees w m)))
  effect-hearing p (Command.walker_at i) plain =
      walker-hearing p i (λ w. answers (hearing of p) (a_node w.current)) (λ w. answers p (a_node w.current)) (λ w. refl)
  effect-hearing p (Command.walker_set i x) plain =
      walker-hearing p i (λ w. sets_walker (hearing of p) i w (Some (named p x)) nothing) (λ w. sets_walker p i w (Some (named p x)) nothing)
      (λ w. refl)
  effect-hearing p (Command.listen x words) plain = absurd cc
  effect-hearing p (Command.unlisten x e l c) plain = absurd cc
  effect-hearing p c plain = refl

  -- ---- in the world

  -- a refusal
  pub refusal-heard : (w : World) → FitsIn of w → (o : Owner) (c : Command) → refusal (heard of w) o c ≡ refusal w o c
  refusal-heard w fits o c =
      let rest : Bool → Option Refusal → Option Refusal =
      λ there own. option_or (first_refusal
      ((not (is_command_of o c), Syntax) ∷ (is_busy w o, Busy) ∷ (names_foreign c, Foreign) ∷ (not there, Unknown) ∷ [])) own in
      ap (λ (b : Bool). rest b (part_refusal (part_of (heard of w) o) c)) (there-heard of w o)
      ∙ ap (λ (p : Part). rest (is_there w o) (part_refusal p c)) (part-heard of w fits o)
      ∙ ap (rest (is_there w o)) (refusal-hearing (part_of w o) c)

  -- the turn that is opened
  pub opening-heard : (w : World) (o : Owner) → opening_turn (heard of w) o ≡ heard of (opening_turn w o)
  opening-heard w o = by (is_some w.turn)
    where
      by : (b : Bool) → (if b then heard of w else record (heard of w) { turn = Some o }) ≡ heard of (if b then w else record w { turn = Some o })
      by true = refl
      by false = refl

  pub fits-opening : (w : World) (o : Owner) → FitsIn of w → FitsIn of (opening_turn w o)
  fits-opening w o fits = by (is_some w.turn)
    where
      by : (b : Bool) → FitsIn of (if b then w else record w { turn = Some o })
      by true = fits
      by false = fits

  -- a run with listeners
  abbrev pub heard_run : Run World → Run World
  heard_run r = (heard of r.0, r.1)

  effect_in-heard : (w : World) → FitsIn of w → (o : Owner) (e : Effect) → effect_in (heard of w) o (hearing_effect of e) ≡ heard_run (effect_in w o e)
  effect_in-heard w fits o (tables p lines v) = ap (λ (u : World). (u, map (says o) lines ++ says o (replied v) ∷ [])) (with_part-heard of w p)
  effect_in-heard w fits o (changes steps v) = ap (λ (u : World). (u, says o (replied v) ∷ [])) (after-heard of o steps w fits)

  -- the component of an attach has no listeners
  abbrev pub IsNew : World → Owner → Command → Type 0
  IsNew w o (Command.attach x) = of (component_made o (length (part_of w o).attached)) ≡ []
  IsNew w o _ = Unit {0}

  -- what an accepted command of one part does
  effected-heard : (w : World) → FitsIn of w → (o : Owner) (c : Command) → is_plain c ≡ true →
      effect_in (heard of w) o (effect (part_of (heard of w) o) c) ≡ heard_run (effect_in w o (effect (part_of w o) c))
  effected-heard w fits o c plain =
      ap (λ (p : Part). effect_in (heard of w) o (effect p c)) (part-heard of w fits o) ∙
      ap (effect_in (heard of w) o) (effect-hearing (part_of w o) c plain) ∙ effect_in-heard w fits o (effect (part_of w o) c)

  pub perform-heard : (w : World) → FitsIn of w → (o : Owner) (c : Command) → is_plain c ≡ true → IsNew w o c →
      perform (heard of w) o c ≡ heard_run (perform w o c)
  perform-heard w fits o (Command.new_element a) plain new = effected-heard w fits o (Command.new_element a) plain
  perform-heard w fits o (Command.attach x) plain new =
      let p = part_of w o in
      let c = component_made o (length p.attached) in
      let y = named p x in
      let d = (node_in p.trees y).document in
      let marked = record p { attached = p.attached ++ y ∷ [] } in
      ap (λ (q : Part). answering o (a_component (component_made o (length q.attached)))
      (with_part (with_part (heard of w) (record q { attached = q.attached ++ named q x ∷ [] }))
      (part_with_root (component_made o (length q.attached)) Shadow (node_in q.trees (named q x)).document))) (part-heard of w fits o)
      ∙ ap (λ (u : World). answering o (a_component c) (with_part u (part_with_root c Shadow d))) (with_part-heard of w marked)
      ∙ ap (λ (ls : List (Listener NodeName)). answering o (a_component c)
      (with_part (heard of (with_part w marked)) (record (part_with_root c Shadow d) { listeners = ls }))) (sym new)
      ∙ ap (answering o (a_component c)) (with_part-heard of (with_part w marked) (part_with_root c Shadow d))
  perform-heard w fits o (Command.connected x) plain new =
      ap (λ (p : Part). answering o (a_truth (is_connected (heard of w) (named p x))) (heard of w)) (part-heard of w fits o)
      ∙ ap (λ b. answering o (a_truth b) (heard of w)) (connected-heard of w fits (named (part_of w o) x))
  perform-heard w fits o (Command.assigned x) plain new =
      ap (λ (p : Part). answering o (a_list (assigned_nodes (heard of w) (named p x))) (heard of w)) (part-heard of w fits o)
      ∙ ap (λ xs. answering o (a_list xs) (heard of w)) (assigned-heard of w fits (named (part_of w o) x))
  perform-heard w fits o (Command.listen x words) plain new = absurd cc
  perform-heard w fits o (Command.unlisten x e l c) plain new = absurd cc
  perform-heard w fits o (Command.dispatch x e related) plain new = absurd cc
  perform-heard w fits o (Command.micro label) plain new = refl
  perform-heard w fits o Command.end_turn plain new = absurd cc
  perform-heard w fits o c plain new = effected-heard w fits o c plain

  -- accepted commands
  pub accepted-heard : (w : World) → FitsIn of w → (o : Owner) (c : Command) → is_plain c ≡ true → IsNew (opening_turn w o) o c →
      accepted (heard of w) o c ≡ heard_run (accepted w o c)
  accepted-heard w fits o Command.end_turn plain new = absurd cc
  accepted-heard w fits o c plain new = by c plain new
    where
      through : (c : Command) → is_plain c ≡ true → IsNew (opening_turn w o) o c →
          perform (opening_turn (heard of w) o) o c ≡ heard_run (perform (opening_turn w o) o c)
      through c plain new = ap (λ (u : World). perform u o c) (opening-heard w o) ∙ perform-heard (opening_turn w o) (fits-opening w o fits) o c plain new

      by : (c : Command) → is_plain c ≡ true → IsNew (opening_turn w o) o c → accepted (heard of w) o c ≡ heard_run (accepted w o c)
      by Command.end_turn plain new = absurd cc
      by c plain new = through c plain new

  -- A plain command in a world that these listeners fit: if it is accepted, the component that it makes has none.
  pub record IsHeardPlain (w : World) (o : Owner) (c : Command) : Type 0 where
    pub fits : FitsIn of w
    pub plain : is_plain c ≡ true
    pub new : refusal w o c ≡ None → IsNew (opening_turn w o) o c

  -- what is handled in a world is handled in it with listeners
  module _ {S : Type 0} (adds : S → List Output → S → Type 0) where
    pub handled-heard : {w : World} {o : Owner} {c : Command} (v : World) → IsHeardPlain w o c →
        (before after : S) (r : Result (Unit {0}) Fault) → IsHandled adds o c w v before after r → IsHandled adds o c (heard of w) (heard of v) before after r
    handled-heard {w = w} {o = o} {c = c} v is before after (Ok x) h =
        let same = accepted-heard w is.fits o c is.plain (is.new h.0) in (
          refusal-heard w is.fits o c ∙ h.0,
          ap (heard of) h.1 ∙ sym (ap (λ (q : Run World). q.0) same),
          subst (λ (q : Run World). adds before q.1 after) (sym same) h.2,
        )
    handled-heard {w = w} {o = o} {c = c} v is before after (Err (Refused r)) h = (refusal-heard w is.fits o c ∙ h.0, ap (heard of) h.1, h.2)
    handled-heard v is before after (Err Memory) h = tt
