-- Other tasks: what holds of a `Doc` then, and its state.
use Rattle.dom_mutation.proofs.Cited.{◌≡◌, Bool, true, false, List, [], ◌∷◌, ◌++◌, fold, Result, Ok, Err, sym, ap, subst, ◌∙◌, OnOk, OnErr, if◌then◌else◌}
use Rattle.dom_mutation.proofs.Cited.{AllByRecursion, list_any, NodeName, Owner, World, Task, notify_task, is_there, is_notify_of, queued_notify, NamedTrees}
use Rattle.dom_mutation.proofs.Cited.{AllTables, with_queue, DocState, IsDoc, IsDue, world_from, state_from, with_tasks}
use Rattle.dom_mutation.proofs.DocInvariant.{held_tasks}

-- ---- tasks that are due

module _ (w : World) where
  due_push : (ts : List Task) (t : Task) → AllByRecursion (IsDue w) ts → IsDue w t → AllByRecursion (IsDue w) (ts ++ t ∷ [])
  due_push [] t all h = (h, tt)
  due_push (u ∷ ts) t all h = (all.0, due_push ts t all.1 h)

  -- a notification more
  pub due_notified : (o : Owner) → is_there w o ≡ true → (ts : List Task) → AllByRecursion (IsDue w) ts → AllByRecursion (IsDue w) (queued_notify o ts)
  due_notified o there ts all = by (list_any (is_notify_of o) ts)
    where
      by : (b : Bool) → AllByRecursion (IsDue w) (if b then ts else ts ++ notify_task o ∷ [])
      by true = all
      by false = due_push ts (notify_task o) all there

  -- the notifications of the owners of signalled slots are due
  pub due_signalled : (slots : List NodeName) → AllByRecursion (λ (s : NodeName). is_there w s.owner ≡ true) slots → (ts : List Task) →
      AllByRecursion (IsDue w) ts
      → AllByRecursion (IsDue w) (fold (λ (us : List Task) (s : NodeName). queued_notify s.owner us) ts slots)
  due_signalled [] there ts all = all
  due_signalled (s ∷ slots) there ts all = due_signalled slots there.1 (queued_notify s.owner ts) (due_notified s.owner there.0 ts all)

module _ (f : NamedTrees) {tables : AllTables} (held : IsDoc f.names f.trees tables) {d : DocState} (is_d : state_from f.names f.trees tables ≡ d) where
  -- the tasks
  pub tasks_are : tables.tasks ≡ d.world.tasks
  tasks_are = ap (λ (e : DocState). e.world.tasks) is_d

  -- the state with others
  pub queued : (tasks : List Task) (g : List Task → List Task) → tasks ≡ g tables.tasks →
      state_from f.names f.trees (with_queue tables tasks) ≡ with_tasks (g d.world.tasks) d
  queued tasks g is =
      subst (λ (e : DocState). state_from f.names f.trees (with_queue tables tasks) ≡ with_tasks (g e.world.tasks) e) is_d
      (ap (λ ts. state_from f.names f.trees (with_queue tables ts)) is)

  -- a call that may fail
  module _ {T E : Type 0} (tasks : List Task) where
    pub pushed : (g : List Task → List Task) (r : Result T E) → OnOk r (tasks ≡ g tables.tasks) →
        OnOk r (state_from f.names f.trees (with_queue tables tasks) ≡ with_tasks (g d.world.tasks) d)
    pushed g (Ok x) is = queued tasks g is
    pushed g (Err e) is = tt

    pub pushed_none : (r : Result T E) → OnErr r (tasks ≡ tables.tasks) → OnErr r (state_from f.names f.trees (with_queue tables tasks) ≡ d)
    pushed_none (Ok x) is = tt
    pushed_none (Err e) is = ap (λ ts. state_from f.names f.trees (with_queue tables ts)) is ∙ is_d

    pub held_pushed : (t : Task) → IsDue (world_from f.names f.trees tables) t → (r : Result T E) → OnOk r (tasks ≡ tables.tasks ++ t ∷ []) →
        OnErr r (tasks ≡ tables.tasks) → IsDoc f.names f.trees (with_queue tables tasks)
    held_pushed t due (Ok x) is same = held_tasks f.names f.trees tables held tasks
        (subst (AllByRecursion (IsDue (world_from f.names f.trees tables))) (sym is)
        (due_push (world_from f.names f.trees tables) tables.tasks t held.due due))
    held_pushed t due (Err e) is same = held_tasks f.names f.trees tables held tasks
        (subst (AllByRecursion (IsDue (world_from f.names f.trees tables))) (sym same) held.due)
