-- Whether an owner's notification is queued, and how often, by the number that is kept of the owner.
use Rattle.dom_base.proofs.Std.{◌≡◌, ◌≢◌, ◌+◌, ◌++◌, ◌∷◌, [], ℕ, Bool, true, false, cond, List, inl, inr, refl, sym, ap, ◌∙◌, arith, count_by}
use Rattle.dom_base.proofs.Std.{list_any, cases_Bool, or_from, or_parts, sum_by-cons, sum_by-append}
use Rattle.dom_model.proofs.Model.{Owner, owner_eq, Task, notify_task, is_notify_of}
use Rattle.dom_microtasks.specs.declared.Queue.TheInside.{Inside}
use Rattle.dom_microtasks.specs.OwnerNumbers.{number_at}
use Rattle.dom_microtasks.specs.Tasks.{tasks_of, WaitsOnce}

-- a place is counted or not
unfoldable pub one : Bool → ℕ
one b = cond b 1 0

-- what is not counted is not there
any_none : {X : Type 0} (p : X → Bool) (xs : List X) → count_by p xs ≡ 0 → list_any p xs ≡ false
unfolding one
any_none p [] e = refl
any_none p (x ∷ xs) e =
    let parts : count_by p (x ∷ xs) ≡ one (p x) + count_by p xs = sum_by-cons (λ y. one (p y)) x xs in
    elim (cases_Bool (p x)) [
      | inl h ↦ let counted : one (p x) ≡ 1 = ap one h in absurd (omega (arith, parts, e, counted))
      | inr h ↦ or_from (p x) (list_any p xs) h (any_none p xs (omega (arith, parts, e)))
    ]

-- what is not there is not counted
pub count_none : {X : Type 0} (p : X → Bool) (xs : List X) → list_any p xs ≡ false → count_by p xs ≡ 0
unfolding one
count_none p [] e = refl
count_none p (x ∷ xs) e =
    let parts : count_by p (x ∷ xs) ≡ one (p x) + count_by p xs = sum_by-cons (λ y. one (p y)) x xs in
    let both = or_parts (p x) (list_any p xs) e in
    let here : one (p x) ≡ 0 = ap one both.0 in
    let after = count_none p xs both.1 in
    omega (arith, parts, here, after)

-- a notification is queued where its owner has a number
pub queued : (q : Inside) → WaitsOnce q → (o : Owner) → number_at q.waiting o ≢ 0 → list_any (is_notify_of o) (tasks_of q) ≡ true
queued q once o some = elim (cases_Bool (list_any (is_notify_of o) (tasks_of q))) [
  | inl h ↦ h
  | inr h ↦ absurd (some (sym (once o).0 ∙ count_none (is_notify_of o) (tasks_of q) h))
]

-- and else it is not
pub not_queued : (q : Inside) → WaitsOnce q → (o : Owner) → number_at q.waiting o ≡ 0 → list_any (is_notify_of o) (tasks_of q) ≡ false
not_queued q once o none = any_none (is_notify_of o) (tasks_of q) ((once o).0 ∙ none)

-- a notification more is counted for its owner alone
pub counted-more : (o p : Owner) (ts : List Task) → count_by (is_notify_of p) (ts ++ notify_task o ∷ []) ≡ count_by (is_notify_of p) ts + one (owner_eq o p)
unfolding one
counted-more o p ts =
    sum_by-append (λ t. one (is_notify_of p t)) ts (notify_task o ∷ [])
    ∙ ap (λ n. count_by (is_notify_of p) ts + n) (sum_by-cons (λ t. one (is_notify_of p t)) (notify_task o) [] ∙ none_more (one (owner_eq o p)))
  where
    none_more : (n : ℕ) → n + 0 ≡ n
    none_more n = omega arith
