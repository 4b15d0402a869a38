-- Where there are no registrations no record is taken.
use Rattle.dom_mutation.proofs.Cited.{◌≡◌, ℕ, false, not, List, [], ◌∷◌, ◌++◌, map, filter, fold, ap, ◌∙◌, slice_set, nat_eq, NodeName, name_eq, distinct}
use Rattle.dom_mutation.proofs.Cited.{append_once, is_empty, inclusive_ancestors, Registration, target_of, fits, interested, Change, Part, queue_of}
use Rattle.dom_mutation.proofs.Cited.{queue_record, part_step, interested_in, is_taken, record_in, registrations_none}

-- no observer is interested
none_interested : (p : Part) → p.registrations ≡ [] → (c : Change NodeName) → interested_in p c ≡ []
none_interested p none c =
    let path = inclusive_ancestors p.trees (target_of c) in
    ap (λ (rs : List (Registration NodeName)). interested name_eq path rs c) none
    ∙ ap (λ (rs : List (Registration NodeName)). distinct nat_eq (map (λ r. r.observer) (filter (fits name_eq c) rs))) (registrations_none path)

-- so no observer takes the record
pub untaken : (p : Part) → p.registrations ≡ [] → (c : Change NodeName) → is_taken p c ≡ false
untaken p none c = ap (λ ks. not (is_empty ks)) (none_interested p none c)

told_by : Part → Change NodeName → List ℕ → Part
told_by p c ks =
    let add : List (List (Change NodeName)) → ℕ → List (List (Change NodeName)) = λ queues k. slice_set queues k (queue_of queues k ++ record_in p c k ∷ []) in
    record p { record_queues = fold add p.record_queues ks; pending = fold (append_once nat_eq) p.pending ks }

-- and the part stays as it is
pub untold_part : (p : Part) → p.registrations ≡ [] → (c : Change NodeName) → part_step p (queue_record c) ≡ p
unfolding told_by
untold_part p none c = ap (λ ks. told_by p c ks) (none_interested p none c)
