-- One small step as a group has it: by what frames ask of documents, of which the group has a view.
use Rattle.dom_base.proofs.Std.{◌≡◌, Bool, true, false, not, ◌&&◌, List, [], filter, map, None}
use Rattle.dom_base.proofs.Std.{refl, sym, ap, ◌∙◌, true≢false, if◌then◌else◌}
use Rattle.dom_model.proofs.Model.{Owner, NodeName, Word, name_eq, name_eq-true, ListenerWords, Part, with_listener_removed}
use Rattle.dom_model.proofs.Model.{Task, is_task_of}
use Rattle.dom_model.proofs.Model.{is_listener}
use Rattle.dom_model.specs.Names.{text_eq}
use Rattle.std.specs.Bool.{beq}
use Rattle.dom_model.specs.Turns.{slotchange}
use Rattle.dom_worlds.proofs.ListLemmas.{by_cases, filter-filter}
use Rattle.dom_isolation.proofs.GroupSlots.{filter-sub}
use Rattle.dom_live.specs.Frames.{without_calls}
use Rattle.dom_live.specs.Documents.{Documents, Live}
use Rattle.dom_live.specs.SmallSteps.{without_listener, after_once}
use Rattle.dom_live.specs.Groups.{is_own_visit, own_frames}
use Rattle.dom_live.specs.Groups.{own_live, is_own_listener}
use Rattle.dom_live.proofs.OwnFrames.{sift-frames, away-frames}

-- a node of the group is no node of another
apart : (g : Owner → Bool) (y x : NodeName) → g y.owner ≡ true → g x.owner ≡ false → name_eq y x ≡ false
apart g y x o h =
    by_cases (name_eq y x) (λ k. absurd (true≢false (sym o ∙ ap (λ (z : NodeName). g z.owner) (name_eq-true y x k) ∙ h))) (λ k. k)

-- What a group has of documents by a view, as far as frames ask; P is what is asked of the documents.
pub record Agrees (g : Owner → Bool) {S V : Type 0} (P : S → Type 0) (d : Documents S) (view : S → V) (e : Documents V) : Type 0 where
  pub owner : (s : S) (o : Owner) → (d.part s o).owner ≡ o
  pub part : (s : S) (o : Owner) → g o ≡ true → e.part (view s) o ≡ d.part s o
  pub part_in : (s : S) (p : Part) → g p.owner ≡ true → view (d.with_part s p) ≡ e.with_part (view s) p
  pub part_out : (s : S) (p : Part) → g p.owner ≡ false → view (d.with_part s p) ≡ view s
  pub visits_in : (s : S) → P s → (x : NodeName) → g x.owner ≡ true →
      filter (is_own_visit g) (d.visits s x None slotchange) ≡ e.visits (view s) x None slotchange
  pub visits_out : (s : S) → P s → (x : NodeName) → g x.owner ≡ false → filter (is_own_visit g) (d.visits s x None slotchange) ≡ []
  pub tasks : (s : S) → e.tasks (view s) ≡ filter (is_task_of g) (d.tasks s)
  pub with_tasks : (s : S) (ts : List Task) → view (d.with_tasks s ts) ≡ e.with_tasks (view s) (filter (is_task_of g) ts)
  pub tasks_same : (s : S) → e.with_tasks (view s) (filter (is_task_of g) (d.tasks s)) ≡ view s
  pub tasks_put : (s : S) (ts : List Task) → P s → P (d.with_tasks s ts)
  pub slots_in : (s : S) → P s → (o : Owner) → g o ≡ true → e.slots (view s) o ≡ d.slots s o
  pub signals_in : (s : S) (o : Owner) → g o ≡ true → view (d.without_slots s o) ≡ e.without_slots (view s) o
  pub signals_out : (s : S) (o : Owner) → g o ≡ false → view (d.without_slots s o) ≡ view s

module _ {g : Owner → Bool} {S V : Type 0} {P : S → Type 0} {d : Documents S} {view : S → V} {e : Documents V} (a : Agrees g P d view e) where
  -- Removal of a listener of the group,
  pub without-in : (x : NodeName) (event label : Word) (capture : Bool) (s : Live S) → g x.owner ≡ true →
      own_live g view (without_listener d x event label capture s) ≡ without_listener e x event label capture (own_live g view s)
  without-in x event label capture s h =
      let p = d.part s.documents x.owner in
      let sifted : Part → Part = λ p. record p { listeners = with_listener_removed name_eq x event label capture p.listeners } in
      let t = own_live g view s in
      let rest = filter (is_own_listener g) (with_listener_removed name_eq x event label capture s.live_listeners) in
      let frames = own_frames g (map (without_calls x event label capture) s.frames) in
      ap (λ w. record t { documents = w; live_listeners = rest; frames = frames })
      (a.part_in s.documents (sifted p) (ap g (a.owner s.documents x.owner) ∙ h)
      ∙ ap (λ p. e.with_part (view s.documents) (sifted p)) (sym (a.part s.documents x.owner h)))
      ∙ ap (λ ls. record (without_listener e x event label capture t) { live_listeners = ls; frames = frames })
      (filter-filter (is_own_listener g) _ s.live_listeners)
      ∙ ap (λ fs. record (without_listener e x event label capture t) { frames = fs }) (sift-frames g x event label capture s.frames)

  -- and of another
  pub without-out : (x : NodeName) (event label : Word) (capture : Bool) (s : Live S) → g x.owner ≡ false →
      own_live g view (without_listener d x event label capture s) ≡ own_live g view s
  without-out x event label capture s h =
      let p = d.part s.documents x.owner in
      let t = own_live g view s in
      let kept = filter (is_own_listener g) (with_listener_removed name_eq x event label capture s.live_listeners) in
      let frames = own_frames g (map (without_calls x event label capture) s.frames) in
      ap (λ w. record t { documents = w; live_listeners = kept; frames = frames })
      (a.part_out s.documents (record p { listeners = with_listener_removed name_eq x event label capture p.listeners })
      (ap g (a.owner s.documents x.owner) ∙ h))
      ∙ ap (λ ls. record t { live_listeners = ls; frames = frames })
      (filter-sub (is_own_listener g) (λ l. not (is_listener name_eq x event label capture l))
      (λ l o. ap (λ b. not (b && (text_eq l.words.event event && (text_eq l.words.label label && beq l.words.capture capture)))) (apart g l.node x o h))
      s.live_listeners)
      ∙ ap (λ fs. record t { frames = fs }) (away-frames g x event label capture h s.frames)

  -- One that is for once, as it is called.
  pub once-in : (x : NodeName) (w : ListenerWords) (s : Live S) → g x.owner ≡ true →
      own_live g view (after_once d x w s) ≡ after_once e x w (own_live g view s)
  once-in x w s h = by_test w.once
    where
      by_test : (b : Bool) → own_live g view (if b then without_listener d x w.event w.label w.capture s else s)
          ≡ (if b then without_listener e x w.event w.label w.capture (own_live g view s) else own_live g view s)
      by_test true = without-in x w.event w.label w.capture s h
      by_test false = refl

  -- another's
  pub once-out : (x : NodeName) (w : ListenerWords) (s : Live S) → g x.owner ≡ false → own_live g view (after_once d x w s) ≡ own_live g view s
  once-out x w s h = by_test w.once
    where
      by_test : (b : Bool) → own_live g view (if b then without_listener d x w.event w.label w.capture s else s) ≡ own_live g view s
      by_test true = without-out x w.event w.label w.capture s h
      by_test false = refl
