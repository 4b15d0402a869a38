use Rattle.dom_base.proofs.Std.{◌≡◌, ◌≤◌, ◌+◌, ◌++◌, ◌∷◌, [], ℕ, Bool, true, false, List, refl, sym, ap, ◌∙◌, subst, arith, count_by, map}
use Rattle.dom_base.proofs.Std.{if◌then◌else◌, common_steps, list_any}
use Rattle.dom_model.proofs.Model.{owner_eq, owner_eq-true, Task, notify_task, is_notify_of}
use Rattle.dom_microtasks.specs.OwnerNumbers.{number_at}
use Rattle.dom_microtasks.specs.Tasks.{task_of, tasks_of}
use Rattle.dom_microtasks.proofs.Waiting.{one, count_none, counted-more}
use Rattle.dom_microtasks.proofs.Queue.push_first_notify.Goals as goal

pub invariant_of-self-2 : goal.invariant_of-self-2
unfolding one
invariant_of-self-2 c p =
    let o = c.args.owner in
    let was = tasks_of c.self.inside in
    let last : map task_of c.push_back.new.self.items ≡ was ++ notify_task o ∷ [] = grind (arith, common_steps) in
    let now = ap (count_by (is_notify_of p)) last ∙ counted-more o p was in
    let there : number_at c.set.new.self p ≡ (if owner_eq o p then 1 else number_at c.self.inside.waiting p) = c.in_ok-set.ensures.ok p in
    by (owner_eq o p) refl (c.self.invariant p).0 (c.self.invariant p).1 now there
  where
    by : (b : Bool) → owner_eq c.args.owner p ≡ b → {n : ℕ} → n ≡ number_at c.self.inside.waiting p → number_at c.self.inside.waiting p ≤ 1 →
        {m : ℕ} → m ≡ n + one b → {k : ℕ} → k ≡ (if b then 1 else number_at c.self.inside.waiting p) → (m ≡ k) × (k ≤ 1)
    by false e is most counted kept = (omega (arith, is, counted, kept), omega (arith, most, kept))
    by true e is most counted kept =
        let off = subst (λ (ts : List Task). list_any (is_notify_of c.args.owner) ts ≡ false) (sym c.self.view_is) c.requires in
        let none : number_at c.self.inside.waiting p ≡ 0 =
        ap (number_at c.self.inside.waiting) (sym (owner_eq-true c.args.owner p e))
        ∙ (sym (c.self.invariant c.args.owner).0 ∙ count_none (is_notify_of c.args.owner) (tasks_of c.self.inside) off) in
        (omega (arith, is, none, counted, kept), omega (arith, kept))
