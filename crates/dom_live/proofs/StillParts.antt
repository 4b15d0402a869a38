-- A part that is written for an owner who is there, and written again.
use Rattle.dom_base.proofs.Std.{◌≡◌, true, List, [], ◌∷◌, Option, Some, None, refl, sym, ap, ◌∙◌, true≢false, cond-true, cond-false}
use Rattle.dom_base.proofs.Std.{◌||◌, or-true, is_some, unwrap_or}
use Rattle.dom_model.proofs.Model.{Owner, World, Part, part_of, with_part, put_part, find_part, is_there, is_page, owner_eq, owner_eq-same}
use Rattle.dom_model.proofs.Model.{find-put, owner-part_of, empty_part}
use Rattle.dom_worlds.proofs.ListLemmas.{by_cases}
use Rattle.dom_live.specs.Documents.{written}

-- a part is found again where it was written
put-found : (ps : List Part) (p : Part) (o : Owner) → p.owner ≡ o → find_part ps o ≡ Some p → put_part ps p ≡ ps
put-found [] p o e h = absurd (clash h)
  where
    clash : find_part [] o ≡ Some p → ⊥
    clash h = cc
put-found (q ∷ qs) p o e h =
    by_cases (owner_eq q.owner p.owner)
    (λ k. cond-true (owner_eq q.owner p.owner) (p ∷ qs) (q ∷ put_part qs p) k
    ∙ ap (λ x. x ∷ qs) (sym (same (sym (cond-true (owner_eq q.owner o) (Some q) (find_part qs o) (ap (owner_eq q.owner) (sym e) ∙ k)) ∙ h))))
    (λ k. cond-false (owner_eq q.owner p.owner) (p ∷ qs) (q ∷ put_part qs p) k
    ∙ ap (λ xs. q ∷ xs) (put-found qs p o e (sym (cond-false (owner_eq q.owner o) (Some q) (find_part qs o) (ap (owner_eq q.owner) (sym e) ∙ k)) ∙ h)))
  where
    same : Some q ≡ Some p → q ≡ p
    same h = ap (λ m. unwrap_or m q) h

-- the last part that is written for an owner stands
put-twice : (ps : List Part) (p q : Part) (o : Owner) → p.owner ≡ o → q.owner ≡ o → put_part (put_part ps p) q ≡ put_part ps q
put-twice [] p q o i j =
    let e = i ∙ sym j in
    cond-true (owner_eq p.owner q.owner) (q ∷ []) (p ∷ put_part [] q) (ap (λ o. owner_eq o q.owner) e ∙ owner_eq-same q.owner)
put-twice (r ∷ rs) p q o i j =
    let e = i ∙ sym j in
    by_cases (owner_eq r.owner p.owner)
    (λ k. ap (λ ps. put_part ps q) (cond-true (owner_eq r.owner p.owner) (p ∷ rs) (r ∷ put_part rs p) k)
    ∙ cond-true (owner_eq p.owner q.owner) (q ∷ rs) (p ∷ put_part rs q) (ap (λ o. owner_eq o q.owner) e ∙ owner_eq-same q.owner)
    ∙ sym (cond-true (owner_eq r.owner q.owner) (q ∷ rs) (r ∷ put_part rs q) (ap (owner_eq r.owner) (sym e) ∙ k)))
    (λ k. ap (λ ps. put_part ps q) (cond-false (owner_eq r.owner p.owner) (p ∷ rs) (r ∷ put_part rs p) k)
    ∙ cond-false (owner_eq r.owner q.owner) (q ∷ put_part rs p) (r ∷ put_part (put_part rs p) q) (ap (owner_eq r.owner) (sym e) ∙ k)
    ∙ ap (λ xs. r ∷ xs) (put-twice rs p q o i j)
    ∙ sym (cond-false (owner_eq r.owner q.owner) (q ∷ rs) (r ∷ put_part rs q) (ap (owner_eq r.owner) (sym e) ∙ k)))

-- where an owner is there its part is found
part-found : (w : World) (o : Owner) → is_there w o ≡ true → find_part w.parts o ≡ Some (part_of w o)
part-found w o h = by (find_part w.parts o) h
  where
    by : (m : Option Part) → is_some m ≡ true → m ≡ Some (unwrap_or m (empty_part o))
    by None h = absurd (true≢false (sym h))
    by (Some p) h = refl

-- its part written again changes nothing
pub part-again : (w : World) (o : Owner) → is_there w o ≡ true → put_part w.parts (part_of w o) ≡ w.parts
part-again w o h = put-found w.parts (part_of w o) o (owner-part_of w o) (part-found w o h)

-- a part that is written is there
pub there-written : (w : World) (p : Part) (o : Owner) → p.owner ≡ o → is_there (with_part w p) o ≡ true
there-written w p o e = ap is_some (find-put w.parts p o e)

-- a part of an owner who is there is written
pub written-there : (w : World) (p : Part) (o : Owner) → p.owner ≡ o → is_there w o ≡ true → written w p ≡ with_part w p
written-there w p o e h =
    ap (λ ps. record w { parts = ps })
    (cond-true (is_page p.owner || is_there w p.owner) (put_part w.parts p) w.parts
    (ap (λ b. is_page p.owner || b) (ap (is_there w) e ∙ h) ∙ or-true (is_page p.owner)))

-- a part of an owner, and then another
pub written-twice : (w : World) (p q : Part) (o : Owner) → p.owner ≡ o → q.owner ≡ o → written (with_part w p) q ≡ with_part w q
written-twice w p q o e f =
    written-there (with_part w p) q o f (there-written w p o e) ∙ ap (λ ps. record w { parts = ps }) (put-twice w.parts p q o e f)
