-- Tasks that come after others.
use Rattle.dom_base.proofs.Std.{◌≡◌, Bool, true, false, ◌||◌, List, [], ◌∷◌, ◌++◌, fold, list_any, refl, sym, ap, ◌∙◌, true≢false, if◌then◌else◌, or-true}
use Rattle.std.proofs.lemmas.List.Folds.{list_any-append}
use Rattle.std.proofs.lemmas.List.Sums.{fold-append}
use Rattle.dom_model.proofs.Model.{Owner, Task, micro_task, notify_task, Word, is_notify_of, queued_notify, owner_eq-true}
use Rattle.dom_worlds.proofs.ListLemmas.{by_cases, or-later}
use Rattle.dom_engine.specs.Documents.{with_task, queued}
use Rattle.dom_engine.proofs.OtherTasks.{KeepsQueues}

-- a task comes after those that are there
stays-queued : (o : Owner) (q : List Task) (more : List Task) → list_any (is_notify_of o) q ≡ true → list_any (is_notify_of o) (q ++ more) ≡ true
stays-queued o q more h = list_any-append (is_notify_of o) q more ∙ ap (λ b. b || list_any (is_notify_of o) more) h

stays-with_task : (o : Owner) (q : List Task) (t : Task) → list_any (is_notify_of o) q ≡ true → list_any (is_notify_of o) (with_task q t) ≡ true
stays-with_task o q (micro_task x label) h = stays-queued o q (micro_task x label ∷ []) h
stays-with_task o q (notify_task x) h =
    from (list_any (is_notify_of x) q)
  where
    from : (b : Bool) → list_any (is_notify_of o) (if b then q else q ++ notify_task x ∷ []) ≡ true
    from true = h
    from false = stays-queued o q (notify_task x ∷ []) h

stays-all : (o : Owner) (ts q : List Task) → list_any (is_notify_of o) q ≡ true → list_any (is_notify_of o) (queued q ts) ≡ true
stays-all o [] q h = h
stays-all o (t ∷ ts) q h = stays-all o ts (with_task q t) (stays-with_task o q t h)

-- a notification that comes after others is there
has-with_task : (o : Owner) (q : List Task) (t : Task) → is_notify_of o t ≡ true → list_any (is_notify_of o) (with_task q t) ≡ true
has-with_task o q (micro_task x label) h = absurd (true≢false (sym h))
has-with_task o q (notify_task x) h = from (list_any (is_notify_of x) q) refl
  where
    from : (b : Bool) → list_any (is_notify_of x) q ≡ b → list_any (is_notify_of o) (if b then q else q ++ notify_task x ∷ []) ≡ true
    from true e = ap (λ y. list_any (is_notify_of y) q) (sym (owner_eq-true x o h)) ∙ e
    from false e =
        list_any-append (is_notify_of o) q (notify_task x ∷ []) ∙ ap (λ b. list_any (is_notify_of o) q || (b || false)) h ∙
        or-true (list_any (is_notify_of o) q)

-- so are all that do
has-all : (o : Owner) (ts q : List Task) → list_any (is_notify_of o) ts ≡ true → list_any (is_notify_of o) (queued q ts) ≡ true
has-all o [] q h = absurd (true≢false (sym h))
has-all o (t ∷ ts) q h =
    by_cases (is_notify_of o t) (λ e. stays-all o ts (with_task q t) (has-with_task o q t e)) (λ e. has-all o ts (with_task q t) (or-later (is_notify_of o t)
    (list_any (is_notify_of o) ts) e h))

-- What is queued after tasks that come after others comes after all of them.
pub queued-keeps : (q : List Task) → KeepsQueues (queued q)
queued-keeps q = record { notify = notify; micro = λ o label ts. fold-append with_task q ts (micro_task o label ∷ []) }
  where
    notify : (o : Owner) (ts : List Task) → queued q (queued_notify o ts) ≡ queued_notify o (queued q ts)
    notify o ts =
        by_cases (list_any (is_notify_of o) ts)
        (λ e. ap (λ b. queued q (if b then ts else ts ++ notify_task o ∷ [])) e
        ∙ sym (ap (λ b. if b then queued q ts else queued q ts ++ notify_task o ∷ []) (has-all o ts q e)))
        (λ e. ap (λ b. queued q (if b then ts else ts ++ notify_task o ∷ [])) e ∙ fold-append with_task q ts (notify_task o ∷ []))

-- what is queued, where nothing is changed
pub same-keeps : KeepsQueues (λ ts. ts)
same-keeps = record { notify = λ o ts. refl; micro = λ o label ts. refl }
