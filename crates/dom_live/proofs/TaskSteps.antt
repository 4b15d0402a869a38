-- One small step of a notification, a microtask or a checkpoint, as a group has it.
use Rattle.dom_base.proofs.Std.{◌≡◌, ℕ, Bool, true, false, ◌||◌, List, [], ◌∷◌, ◌++◌, filter, find, map, Option, Some, None}
use Rattle.dom_base.proofs.Std.{refl, sym, ap, ◌∙◌, true≢false, cond-true, cond-false, if◌then◌else◌, list_any}
use Rattle.dom_base.proofs.Std.{option_map_or}
use Rattle.dom_model.proofs.Model.{Owner, NodeName, owner_eq-true, Visit, Part, Task, micro_task, notify_task, is_task_of, says}
use Rattle.dom_model.specs.Output.{Change, recorded, micro_ran}
use Rattle.dom_worlds.proofs.ListLemmas.{by_cases}
use Rattle.dom_isolation.proofs.GroupSlots.{filter-here, filter-away}
use Rattle.dom_live.specs.Lines.{LiveOutput, written, calls, at_microtask}
use Rattle.dom_live.specs.Frames.{Notification, a_notification, a_microtask}
use Rattle.dom_live.specs.Documents.{Documents, Live, is_entry_of, first_is_live, without_first}
use Rattle.dom_live.specs.SmallSteps.{pushed, starting}
use Rattle.dom_live.specs.Groups.{is_own_visit, is_own_node, own_live, own_run, own_outputs, is_own_output}
use Rattle.dom_live.specs.Groups.{is_own_entry}
use Rattle.dom_live.proofs.OwnFrames.{pushed-in, pushed-out}
use Rattle.dom_live.proofs.OwnSteps.{Agrees}

-- the first item that passes a test, which holds of none that fails another
find-kept : {X : Type 0} (p t : X → Bool) → ((x : X) → p x ≡ true → t x ≡ true) → (xs : List X) → find p (filter t xs) ≡ find p xs
find-kept p t f [] = refl
find-kept p t f (x ∷ xs) =
    by_cases (t x)
    (λ h. ap (find p) (filter-here t x xs h) ∙ ap (λ m. if p x then Some x else m) (find-kept p t f xs))
    (λ h. ap (find p) (filter-away t x xs h) ∙ find-kept p t f xs
    ∙ sym (cond-false (p x) (Some x) (find p xs) (by_cases (p x) (λ k. absurd (true≢false (sym (f x k) ∙ h))) (λ k. k))))

-- no visit is at a node of the group where none is left of them
pub none-own : (g : Owner → Bool) (vs : List (Visit NodeName)) → filter (is_own_visit g) vs ≡ [] → list_any (is_own_node g) (map (λ v. v.current) vs) ≡ false
none-own g [] h = refl
none-own g (v ∷ vs) h =
    by_cases (is_own_visit g v)
    (λ k. let some : v ∷ filter (is_own_visit g) vs ≡ [] = sym (filter-here (is_own_visit g) v vs k) ∙ h in cc)
    (λ k. ap (λ b. b || list_any (is_own_node g) (map (λ v. v.current) vs)) k ∙ none-own g vs (sym (filter-away (is_own_visit g) v vs k) ∙ h))

module _ (g : Owner → Bool) where
  -- the microtasks of a member that wait
  entry-in : (o : Owner) → g o ≡ true → (e : Owner × Bool) → is_entry_of o e ≡ true → is_own_entry g e ≡ true
  entry-in o h e k = ap g (owner_eq-true e.0 o k) ∙ h

  -- whether the first is live
  first-in : (o : Owner) → g o ≡ true → (es : List (Owner × Bool)) → first_is_live o (filter (is_own_entry g) es) ≡ first_is_live o es
  first-in o h es = ap (λ (m : Option (Owner × Bool)). option_map_or (λ e. e.1) m false) (find-kept (is_entry_of o) (is_own_entry g) (entry-in o h) es)

  -- without it
  rest-in : (o : Owner) → g o ≡ true → (es : List (Owner × Bool)) → filter (is_own_entry g) (without_first o es) ≡ without_first o (filter (is_own_entry g) es)
  rest-in o h [] = refl
  rest-in o h (e ∷ es) =
      by_cases (is_entry_of o e)
      (λ k. ap (filter (is_own_entry g)) (cond-true (is_entry_of o e) es (e ∷ without_first o es) k)
      ∙ sym (ap (without_first o) (filter-here (is_own_entry g) e es (entry-in o h e k))
      ∙ cond-true (is_entry_of o e) (filter (is_own_entry g) es) (e ∷ without_first o (filter (is_own_entry g) es)) k))
      (λ k. ap (filter (is_own_entry g)) (cond-false (is_entry_of o e) es (e ∷ without_first o es) k)
      ∙ by_cases (is_own_entry g e)
      (λ m. filter-here (is_own_entry g) e (without_first o es) m ∙ ap (λ xs. e ∷ xs) (rest-in o h es)
      ∙ sym (ap (without_first o) (filter-here (is_own_entry g) e es m)
      ∙ cond-false (is_entry_of o e) (filter (is_own_entry g) es) (e ∷ without_first o (filter (is_own_entry g) es)) k))
      (λ m. filter-away (is_own_entry g) e (without_first o es) m ∙ rest-in o h es ∙ sym (ap (without_first o) (filter-away (is_own_entry g) e es m))))

  -- those of a member, without another's
  rest-out : (o : Owner) → g o ≡ false → (es : List (Owner × Bool)) → filter (is_own_entry g) (without_first o es) ≡ filter (is_own_entry g) es
  rest-out o h [] = refl
  rest-out o h (e ∷ es) =
      by_cases (is_entry_of o e)
      (λ k. ap (filter (is_own_entry g)) (cond-true (is_entry_of o e) es (e ∷ without_first o es) k)
      ∙ sym (filter-away (is_own_entry g) e es (ap g (owner_eq-true e.0 o k) ∙ h)))
      (λ k. ap (filter (is_own_entry g)) (cond-false (is_entry_of o e) es (e ∷ without_first o es) k)
      ∙ by_cases (is_own_entry g e)
      (λ m. filter-here (is_own_entry g) e (without_first o es) m ∙ ap (λ xs. e ∷ xs) (rest-out o h es) ∙ sym (filter-here (is_own_entry g) e es m))
      (λ m. filter-away (is_own_entry g) e (without_first o es) m ∙ rest-out o h es ∙ sym (filter-away (is_own_entry g) e es m)))

  -- lines of a member, and those of another
  module _ (o : Owner) (k : ℕ) where
    -- records
    abbrev pub told_lines : List (Change NodeName) → List LiveOutput
    told_lines cs = map written (map (λ c. says o (recorded k c)) cs)

    -- a member's
    pub lines-in : g o ≡ true → (cs : List (Change NodeName)) (more : List LiveOutput) →
        own_outputs g (told_lines cs ++ more) ≡ told_lines cs ++ own_outputs g more
    lines-in h [] more = refl
    lines-in h (c ∷ cs) more =
        filter-here (is_own_output g) (written (says o (recorded k c))) (told_lines cs ++ more) h
        ∙ ap (λ ls. written (says o (recorded k c)) ∷ ls) (lines-in h cs more)

    -- another's
    pub lines-out : g o ≡ false → (cs : List (Change NodeName)) (more : List LiveOutput) → own_outputs g (told_lines cs ++ more) ≡ own_outputs g more
    lines-out h [] more = refl
    lines-out h (c ∷ cs) more = filter-away (is_own_output g) (written (says o (recorded k c))) (told_lines cs ++ more) h ∙ lines-out h cs more

module _ {g : Owner → Bool} {S V : Type 0} {P : S → Type 0} {d : Documents S} {view : S → V} {e : Documents V} (a : Agrees g P d view e) where
  -- A task begins: one of the group,
  pub starting-in : (t : Task) (s : Live S) → P s.documents → is_task_of g t ≡ true → own_run g view (starting d t s) ≡ starting e t (own_live g view s)
  starting-in (micro_task o label) s p h =
      by_cases (first_is_live o s.live_tasks)
      (λ k. ap (own_run g view) (cond-true (first_is_live o s.live_tasks) _ _ k)
      ∙ ap (λ t. (t, own_outputs g (ran ∷ calls o at_microtask ∷ []))) (pushed-in g view (a_microtask o) rest h
      ∙ ap (λ es. pushed (a_microtask o) (record (own_live g view s) { live_tasks = es })) (rest-in g o h s.live_tasks))
      ∙ ap (λ ls. (pushed (a_microtask o) fewer, ls))
      (filter-here (is_own_output g) ran (calls o at_microtask ∷ []) h ∙ ap (λ ls. ran ∷ ls) (filter-here (is_own_output g) (calls o at_microtask) [] h))
      ∙ sym (cond-true (first_is_live o (filter (is_own_entry g) s.live_tasks)) _ _ (first-in g o h s.live_tasks ∙ k)))
      (λ k. ap (own_run g view) (cond-false (first_is_live o s.live_tasks) _ _ k)
      ∙ ap (λ es. (record (own_live g view s) { live_tasks = es }, own_outputs g (ran ∷ []))) (rest-in g o h s.live_tasks)
      ∙ ap (λ ls. (fewer, ls)) (filter-here (is_own_output g) ran [] h)
      ∙ sym (cond-false (first_is_live o (filter (is_own_entry g) s.live_tasks)) _ _ (first-in g o h s.live_tasks ∙ k)))
    where
      ran : LiveOutput
      ran = written (says o (micro_ran label))

      rest : Live S
      rest = record s { live_tasks = without_first o s.live_tasks }

      fewer : Live V
      fewer = record (own_live g view s) { live_tasks = without_first o (filter (is_own_entry g) s.live_tasks) }
  starting-in (notify_task o) s p h =
      let q = d.part s.documents o in
      let t = own_live g view s in
      let n : Notification = record { owner = o; observers = q.pending; slots = d.slots s.documents o; called = None } in
      let begun : List NodeName → Part → Live V = λ slots q. pushed
      (a_notification (record { owner = o; observers = q.pending; slots = slots; called = None }))
      (record t { documents = e.with_part (e.without_slots (view s.documents) o) (record q { pending = [] }) }) in
      ap (λ t. (t, [])) (pushed-in g view (a_notification n)
      (record s { documents = d.with_part (d.without_slots s.documents o) (record q { pending = [] }) }) h
      ∙ ap (λ w. pushed (a_notification n) (record t { documents = w }))
      (a.part_in (d.without_slots s.documents o) (record q { pending = [] }) (ap g (a.owner s.documents o) ∙ h)
      ∙ ap (λ w. e.with_part w (record q { pending = [] })) (a.signals_in s.documents o h))
      ∙ ap (λ xs. begun xs q) (sym (a.slots_in s.documents p o h))
      ∙ ap (begun (e.slots (view s.documents) o)) (sym (a.part s.documents o h)))

  -- and another's.
  pub starting-out : (t : Task) (s : Live S) → is_task_of g t ≡ false → own_run g view (starting d t s) ≡ (own_live g view s, [])
  starting-out (micro_task o label) s h =
      by_cases (first_is_live o s.live_tasks)
      (λ k. ap (own_run g view) (cond-true (first_is_live o s.live_tasks) _ _ k)
      ∙ ap (λ t. (t, own_outputs g (ran ∷ calls o at_microtask ∷ []))) (pushed-out g view (a_microtask o) rest h ∙ same)
      ∙ ap (λ ls. (own_live g view s, ls))
      (filter-away (is_own_output g) ran (calls o at_microtask ∷ []) h ∙ filter-away (is_own_output g) (calls o at_microtask) [] h))
      (λ k. ap (own_run g view) (cond-false (first_is_live o s.live_tasks) _ _ k)
      ∙ ap (λ t. (t, own_outputs g (ran ∷ []))) same ∙ ap (λ ls. (own_live g view s, ls)) (filter-away (is_own_output g) ran [] h))
    where
      ran : LiveOutput
      ran = written (says o (micro_ran label))

      rest : Live S
      rest = record s { live_tasks = without_first o s.live_tasks }

      same : own_live g view rest ≡ own_live g view s
      same = ap (λ es. record (own_live g view s) { live_tasks = es }) (rest-out g o h s.live_tasks)
  starting-out (notify_task o) s h =
      let q = d.part s.documents o in
      let t = own_live g view s in
      ap (λ t. (t, [])) (pushed-out g view (a_notification (record { owner = o; observers = q.pending; slots = d.slots s.documents o; called = None }))
      (record s { documents = d.with_part (d.without_slots s.documents o) (record q { pending = [] }) }) h
      ∙ ap (λ w. record t { documents = w }) (a.part_out (d.without_slots s.documents o) (record q { pending = [] }) (ap g (a.owner s.documents o) ∙ h)
      ∙ a.signals_out s.documents o h))
