-- One small step, as the page has it and as a group has it.
use Rattle.dom_base.proofs.Std.{◌≡◌, ◌≢◌, List, ℕ, true, false, not, [], ◌∷◌, filter, None, Some, refl, sym, ap, ◌∙◌, true≢false, AllByRecursion}
use Rattle.dom_base.proofs.Std.{Bool}
use Rattle.dom_model.proofs.Model.{Owner, Page, NodeName, name_eq, World, part_of, Task, micro_task, notify_task, is_task_of, group_world, KeepsMakers}
use Rattle.dom_model.proofs.Model.{is_page, page_of, group_turn, owner_eq-true, owner-part_of, part_of-with_part, part_of-with_part-other, views, visits_of}
use Rattle.dom_model.specs.Turns.{is_owned_by}
use Rattle.dom_model.specs.PageMachine.{is_page_task}
use Rattle.dom_worlds.proofs.ListLemmas.{by_cases, filter-filter, filter_none, filter_same, all-then}
use Rattle.dom_isolation.proofs.GroupSlots.{part-in, with_part-in, with_part-out, filter-sub, filter-twice}
use Rattle.dom_isolation.proofs.OwnVisits.{group_visits, in_view}
use Rattle.dom_isolation.proofs.GroupPaths.{views-in}
use Rattle.dom_isolation.proofs.OutsideViews.{views-kept_in}
use Rattle.dom_isolation.proofs.PagePaths.{views-page}
use Rattle.dom_isolation.proofs.Families.{page-is_group}
use Rattle.dom_live.specs.Lines.{LiveLine}
use Rattle.dom_model.proofs.Model.{Part, put_part, is_there}
use Rattle.dom_base.proofs.Std.{◌||◌, if◌then◌else◌}
use Rattle.dom_isolation.proofs.GroupSlots.{there-in}
use Rattle.dom_live.specs.Documents.{written, world_documents, page_documents, silent_documents}
use Rattle.dom_live.specs.Groups.{is_own_visit}
use Rattle.dom_live.specs.Laws.{PageStepAgrees, GroupStepAgrees, IsLiveWorld}
use Rattle.dom_live.proofs.FrameSteps.{small_step-agrees}
use Rattle.dom_live.proofs.OwnSteps.{Agrees}
use Rattle.dom_live.proofs.Turned.{views-turned}

-- with other tasks it is such a world too
tasks-put : (w : World) (ts : List Task) → IsLiveWorld w → IsLiveWorld (record w { tasks = ts })
tasks-put w ts i = record {
  page = i.page;
  parts = i.parts;
  hosts = i.hosts;
  makers = i.makers;
  shadow_roots = i.shadow_roots;
  signalled = i.signalled;
  tasks = λ h. absurd (true≢false h);
}

-- A part that is written, of the group,
written-in : (g : Owner → Bool) (w : World) (p : Part) → g p.owner ≡ true → group_world g (written w p) ≡ written (group_world g w) p
written-in g w p h =
    from (is_page p.owner || is_there w p.owner)
    ∙ ap (λ b. record (group_world g w) { parts = if is_page p.owner || b then put_part (group_world g w).parts p else (group_world g w).parts })
    (sym (there-in g w p.owner h))
  where
    from : (b : Bool) → group_world g (record w { parts = if b then put_part w.parts p else w.parts })
        ≡ record (group_world g w) { parts = if b then put_part (group_world g w).parts p else (group_world g w).parts }
    from true = with_part-in g w p h
    from false = refl

-- and of another
written-out : (g : Owner → Bool) (w : World) (p : Part) → g p.owner ≡ false → group_world g (written w p) ≡ group_world g w
written-out g w p h = from (is_page p.owner || is_there w p.owner)
  where
    from : (b : Bool) → group_world g (record w { parts = if b then put_part w.parts p else w.parts }) ≡ group_world g w
    from true = with_part-out g w p h
    from false = refl

-- the page's part, written
written-page : (w : World) (p : Part) → is_page p.owner ≡ true → page_of (written w p) ≡ record (page_of w) { part = p }
written-page w p h =
    ap (λ b. page_of (record w { parts = if b || is_there w p.owner then put_part w.parts p else w.parts })) h
    ∙ ap (λ q. record (page_of w) { part = q }) (part_of-with_part w p Page (owner_eq-true p.owner Page h))

-- another's
written-component : (w : World) (p : Part) → is_page p.owner ≡ false → page_of (written w p) ≡ page_of w
written-component w p h = from (is_page p.owner || is_there w p.owner)
  where
    from : (b : Bool) → page_of (record w { parts = if b then put_part w.parts p else w.parts }) ≡ page_of w
    from true = ap (λ q. record (page_of w) { part = q }) (part_of-with_part-other w p Page (λ k. true≢false (sym (ap is_page k) ∙ h)))
    from false = refl

module _ (g : Owner → Bool) (closed : KeepsMakers g) where
  -- the event of a slot outside visits none of the group's nodes
  slot-visits_out : (w : World) → IsLiveWorld w → (x : NodeName) → g x.owner ≡ false →
      filter (is_own_visit g) (visits_of name_eq true (views w x None false)) ≡ []
  slot-visits_out w i x h =
      group_visits g true (views w x None false)
      ∙ ap (λ vs. visits_of name_eq true (filter (in_view g) vs)) (sym (views-turned w (Some Page) x None false))
      ∙ ap (visits_of name_eq true) (views-kept_in g closed (record w { turn = Some Page }) i x None h)

  -- that of a slot of the group visits those that it visits where no others are
  slot-visits_in : (w : World) → IsLiveWorld w → (x : NodeName) → g x.owner ≡ true →
      filter (is_own_visit g) (visits_of name_eq true (views w x None false))
      ≡ filter (is_own_visit g) (visits_of name_eq true (views (group_world g w) x None false))
  slot-visits_in w i x h =
      let inside : filter (in_view g) (views w x None false) ≡ views (group_world g w) x None false =
      ap (filter (in_view g)) (sym (views-turned w (Some Page) x None false)) ∙ views-in g closed (record w { turn = Some Page }) i x None h tt false
      ∙ views-turned (group_world g w) (group_turn g (Some Page)) x None false in
      group_visits g true (views w x None false)
      ∙ ap (visits_of name_eq true) (sym (filter-twice (in_view g) (views w x None false)) ∙ ap (filter (in_view g)) inside)
      ∙ sym (group_visits g true (views (group_world g w) x None false))

  -- A group has the world by what it has of a world.
  pub group-agrees : Agrees g IsLiveWorld world_documents (group_world g) (silent_documents g)
  group-agrees = record {
    owner = owner-part_of;
    part = λ w o h. part-in g w o h;
    part_in = λ w p h. written-in g w p h;
    part_out = λ w p h. written-out g w p h;
    visits_in = λ w i x h. slot-visits_in w i x h;
    visits_out = λ w i x h. slot-visits_out w i x h;
    tasks = λ w. filter-twice (is_task_of g) w.tasks;
    with_tasks = λ w ts. refl;
    tasks_same = λ w. refl;
    tasks_put = tasks-put;
    slots_in = λ w i o h. filter-sub (is_owned_by o) (λ x. g x.owner) (λ x k. ap g (owner_eq-true x.owner o k) ∙ h) w.signalled;
    signals_in = λ w o h. ap (λ xs. record (group_world g w) { signalled = xs }) (filter-filter (λ x. g x.owner) (λ x. not (is_owned_by o x)) w.signalled);
    signals_out = λ w o h. ap (λ xs. record (group_world g w) { signalled = xs })
        (filter-sub (λ x. g x.owner) (λ x. not (is_owned_by o x)) (λ x k. by_cases (is_owned_by o x)
        (λ m. absurd (true≢false (sym k ∙ ap g (owner_eq-true x.owner o m) ∙ h))) (λ m. ap not m)) w.signalled);
  }

-- the page's tasks
page-tasks : (ts : List Task) → filter is_page_task ts ≡ filter (is_task_of is_page) ts
page-tasks ts = filter_same is_page_task (is_task_of is_page) ts (all ts)
  where
    same : (t : Task) → is_page_task t ≡ is_task_of is_page t
    same (micro_task o label) = refl
    same (notify_task o) = refl

    all : (ts : List Task) → AllByRecursion (λ t. is_page_task t ≡ is_task_of is_page t) ts
    all [] = tt
    all (t ∷ ts) = (same t, all ts)

-- The page has it by its part.
pub page-agrees : Agrees is_page IsLiveWorld world_documents page_of page_documents
page-agrees = record {
  owner = owner-part_of;
  part = λ w o h. ap (part_of w) (sym (owner_eq-true o Page h));
  part_in = λ w p h. written-page w p h;
  part_out = λ w p h. written-component w p h;
  visits_in = λ w i x h. group_visits is_page true (views w x None false)
      ∙ ap (λ vs. visits_of name_eq true (filter (in_view is_page) vs)) (sym (views-turned w (Some Page) x None false))
      ∙ ap (visits_of name_eq true) (views-page i x None false (owner_eq-true x.owner Page h) tt);
  visits_out = λ w i x h. slot-visits_out is_page page-is_group w i x h;
  tasks = λ w. page-tasks w.tasks;
  with_tasks = λ w ts. ap (λ us. record (page_of w) { tasks = us }) (page-tasks ts);
  tasks_same = λ w. ap (λ us. record (page_of w) { tasks = us }) (sym (page-tasks w.tasks));
  tasks_put = tasks-put;
  slots_in = λ w i o h. sym (filter_none (is_owned_by o) w.signalled (all-then (λ x. x.owner ≢ Page) (λ x. is_owned_by o x ≡ false)
      (λ x k. by_cases (is_owned_by o x) (λ m. absurd (k (owner_eq-true x.owner o m ∙ owner_eq-true o Page h))) (λ m. m)) w.signalled i.signalled));
  signals_in = λ w o h. refl;
  signals_out = λ w o h. refl;
}

pub page-step_agrees : (read : List ℕ → LiveLine) → PageStepAgrees read
page-step_agrees read s i = small_step-agrees page-agrees read s i.world i.frames

pub group-step_agrees : (read : List ℕ → LiveLine) → GroupStepAgrees read
group-step_agrees read g closed s i = small_step-agrees (group-agrees g closed) read s i.world i.frames
