-- Where the links back lead.
use Rattle.std.proofs.Common.{◌≡◌, ◌≢◌, ℕ, true, false, ◌&&◌, cond, eqb, List, [], ◌∷◌, ◌++◌, Option, Some, None, refl, sym, ap, subst, ◌∙◌, inl, inr}
use Rattle.std.proofs.Common.{append-nil}
use Rattle.std.specs.Option.{is_some, option_and_then}
use Rattle.std.proofs.lemmas.Bool.{eq-eqb, ne_eqb, both_ways, or_right, true_from_ne_false, false_from_ne_true}
use Rattle.node_arena.specs.declared.cell.Link.TheVariants.{First, Back}
use Rattle.node_arena.specs.Nodes.{IsForest, children_of, contains, head_of, last_from, last_of, prev_from, prev_in}
use Rattle.node_arena.specs.Links.{Links, link_at, last_at, follower, back_from, back_left}
use Rattle.node_arena.specs.Cells.{back_in, Holds}
use Rattle.node_arena.proofs.Lists.{is, head_or, contains-append, is-head_of, IsOnce-apart, last_from-append, prev_from_is, prev_from-append, Beside}
use Rattle.node_arena.proofs.Lists.{absent_front, choice_in_first, choice_in_second, prev-between, prev-closed, contains-prev_from, contains-last_of}
use Rattle.node_arena.proofs.Lists.{contains-head}
use Rattle.node_arena.proofs.Forests.{parent_of_is}
use Rattle.node_arena.proofs.Writes.{prev_by}

-- the link back of the first leads to the last
pub back_in-first : (x : ℕ) (xs : List ℕ) → back_in (x ∷ xs) x ≡ last_of (x ∷ xs)
back_in-first x xs = rw (eq-eqb x x refl)

pub contains-back_in : (xs : List ℕ) (k s : ℕ) → back_in xs k ≡ Some s → contains xs s ≡ true
contains-back_in xs k s e = elim (contains-prev_from (last_of xs) xs k s e) [ inl at ↦ contains-last_of xs s at | inr found ↦ found ]

pub head_is_in : (xs : List ℕ) (k : ℕ) → is (head_of xs) k ≡ true → contains xs k ≡ true
head_is_in xs k h = true_from_ne_false (contains xs k) (λ absent. both_ways (is (head_of xs) k) (is-head_of xs k absent) h)

-- so the last child of a cell is found
pub last_is : {links : List Links} {lists : List (List ℕ)} → Holds links lists → IsForest lists → (p : ℕ) →
    last_at links p ≡ last_of (children_of lists p)
last_is {links} {lists} holds forest p =
    ap (option_and_then (λ f. link_at links f Back)) (holds.first p) ∙ by (children_of lists p) refl
  where
    by : (xs : List ℕ) → children_of lists p ≡ xs → option_and_then (λ f. link_at links f Back) (head_of xs) ≡ last_of xs
    by [] e = refl
    by (x ∷ xs) e =
        let parent = parent_of_is lists forest.one_list p x (rw e (contains-head x xs)) in
        holds.back x ∙ rw (parent, e) (back_in-first x xs)

-- ---- the place between two parts of a list

-- whose link back leads to the place
abbrev pub follower_in : List ℕ → List ℕ → Option ℕ
follower_in front back = head_or back (head_of front)

-- where the link back of c leads once it stands there
abbrev pub back_between : List ℕ → List ℕ → ℕ → Option ℕ
back_between front back c = last_from (last_from (Some c) back) front

some_last : (x : ℕ) (xs : List ℕ) → is_some (last_from (Some x) xs) ≡ true
some_last x [] = refl
some_last x (y ∷ xs) = some_last y xs

-- the last of the front stands before the place, where there is one
pub prev_by-last : (front : List ℕ) (o : Option ℕ) → last_of front ≡ prev_by (is_some (last_of front)) (last_from o front)
prev_by-last [] o = refl
prev_by-last (x ∷ front) o = rw (some_last x front)

pub contains-follower : (front back : List ℕ) (k : ℕ) → is (follower_in front back) k ≡ true → contains (front ++ back) k ≡ true
contains-follower front [] k h = rw (append-nil front) (head_is_in front k h)
contains-follower front (x ∷ back) k h =
    contains-append front (x ∷ back) k ∙ or_right (contains front k) (contains (x ∷ back) k) (head_is_in (x ∷ back) k h)

-- the links lead to these
pub follower_is : (links : List Links) (p : ℕ) (front back rest : List ℕ) → link_at links p First ≡ head_of (front ++ rest) →
    follower links p (last_of front) (head_of back) ≡ follower_in front back
follower_is links p [] [] rest first = refl
follower_is links p (x ∷ front) [] rest first = rw (some_last x front) first
follower_is links p front (x ∷ back) rest first = refl

pub back_from_is : (links : List Links) (c : ℕ) (front back : List ℕ) →
    ((k : ℕ) → is (head_of back) k ≡ true → link_at links k Back ≡ back_in (front ++ back) k) →
    back_from links c (last_of front) (head_of back) ≡ back_between front back c
back_from_is links c [] [] first = refl
back_from_is links c [] (x ∷ back) first = first x (eq-eqb x x refl) ∙ back_in-first x back
back_from_is links c (x ∷ front) back first = by (last_from (Some x) front) (some_last x front)
  where
    by : (o : Option ℕ) → is_some o ≡ true → back_from links c o (head_of back) ≡ o
    by (Some y) some = refl
    by None some = absurd (both_ways false refl some)

pub back_left_is : (links : List Links) (c : ℕ) (front back : List ℕ) → link_at links c Back ≡ back_between front back c →
    back_left links c (last_of front) ≡ back_between front back c
back_left_is links c [] back leads = leads
back_left_is links c (x ∷ front) back leads = by (last_from (Some x) front) (some_last x front)
  where
    by : (o : Option ℕ) → is_some o ≡ true → back_left links c o ≡ o
    by (Some y) some = refl
    by None some = absurd (both_ways false refl some)

-- ---- c put between the two parts, or taken out

module _ (front back : List ℕ) (c : ℕ) (beside : Beside front back c) where
  pub follower_apart : is (follower_in front back) c ≡ false
  follower_apart = false_from_ne_true _ (λ h. both_ways (contains (front ++ back) c) beside.absent (contains-follower front back c h))

  last_around : last_of (front ++ c ∷ back) ≡ last_from (Some c) back
  last_around = last_from-append None front (c ∷ back)

  last_both : last_of (front ++ back) ≡ last_from (last_of front) back
  last_both = last_from-append None front back

  around_it : (o : Option ℕ) → prev_from o (front ++ c ∷ back) c ≡ last_from o front
  around_it o = rw (prev_from-append o front (c ∷ back) c, absent_front front back c beside, eq-eqb c c refl)

  pub back-placed : back_in (front ++ c ∷ back) c ≡ back_between front back c
  back-placed = around_it (last_of (front ++ c ∷ back)) ∙ ap (λ o. last_from o front) last_around

  module _ (k : ℕ) where
    both : (o : Option ℕ) → prev_from o (front ++ back) k ≡
        cond (contains front k) (cond (is (head_of front) k) o (prev_in front k)) (cond (is (head_of back) k) (last_from o front) (prev_in back k))
    both o = rw (prev_from-append o front back k, prev_from_is o front k, prev_from_is (last_from o front) back k)

    around : c ≢ k → (o : Option ℕ) → prev_from o (front ++ c ∷ back) k ≡
        cond (contains front k) (cond (is (head_of front) k) o (prev_in front k)) (cond (is (head_of back) k) (Some c) (prev_in back k))
    around other o = rw (prev_from-append o front (c ∷ back) k, prev_from_is o front k, ne_eqb c k other, prev_from_is (Some c) back k)

    both_in : back_in (front ++ back) k ≡ cond (contains front k) (cond (is (head_of front) k) (last_from (last_of front) back) (prev_in front k))
        (cond (is (head_of back) k) (last_from (last_from (last_of front) back) front) (prev_in back k))
    both_in = ap (λ o. prev_from o (front ++ back) k) last_both ∙ both (last_from (last_of front) back)

    around_in : c ≢ k → back_in (front ++ c ∷ back) k ≡
        cond (contains front k) (cond (is (head_of front) k) (last_from (Some c) back) (prev_in front k)) (cond (is (head_of back) k) (Some c) (prev_in back k))
    around_in other = ap (λ o. prev_from o (front ++ c ∷ back) k) last_around ∙ around other (last_from (Some c) back)

-- only the follower's link back leads elsewhere
pub back-between : (front back : List ℕ) (c : ℕ) → Beside front back c → (k : ℕ) → c ≢ k →
    back_in (front ++ c ∷ back) k ≡ cond (is (follower_in front back) k) (Some c) (back_in (front ++ back) k)
back-between front [] c beside k other = around_in front [] c beside k other
    ∙ choice_in_first (contains front k) (Some c) (last_of front) (prev_in front k) None (is-head_of front k)
    ∙ ap (cond (is (head_of front) k) (Some c)) (sym (both_in front [] c beside k))
back-between front (x ∷ back) c beside k other = around_in front (x ∷ back) c beside k other
    ∙ choice_in_second (contains front k) (Some c) (last_from (last_from (Some x) back) front) _ (prev_in (x ∷ back) k)
    (λ found. is-head_of (x ∷ back) k (IsOnce-apart front (x ∷ back) k beside.once found))
    ∙ ap (cond (eqb x k) (Some c)) (sym (both_in front (x ∷ back) c beside k))

pub back-closed : (front back : List ℕ) (c : ℕ) → Beside front back c → (k : ℕ) → c ≢ k →
    back_in (front ++ back) k ≡ cond (is (follower_in front back) k) (back_between front back c) (back_in (front ++ c ∷ back) k)
back-closed [] [] c beside k other = rw (ne_eqb c k other)
back-closed (x ∷ front) [] c beside k other = both_in (x ∷ front) [] c beside k
    ∙ choice_in_first (contains (x ∷ front) k) (last_of (x ∷ front)) (Some c) (prev_in (x ∷ front) k) None (is-head_of (x ∷ front) k)
    ∙ ap (cond (eqb x k) (last_of (x ∷ front))) (sym (around_in (x ∷ front) [] c beside k other))
back-closed front (x ∷ back) c beside k other = both_in front (x ∷ back) c beside k
    ∙ choice_in_second (contains front k) (last_from (last_from (Some x) back) front) (Some c) _ (prev_in (x ∷ back) k)
    (λ found. is-head_of (x ∷ back) k (IsOnce-apart front (x ∷ back) k beside.once found))
    ∙ ap (cond (eqb x k) (last_from (last_from (Some x) back) front)) (sym (around_in front (x ∷ back) c beside k other))

-- only before the follower stands another than did
pub prev-between_follower : (front back : List ℕ) (c : ℕ) → Beside front back c → (k : ℕ) → c ≢ k →
    prev_in (front ++ c ∷ back) k ≡ cond (is (follower_in front back) k) (prev_by (is_some (head_of back)) (Some c)) (prev_in (front ++ back) k)
prev-between_follower front [] c beside k other = prev-between front [] c beside k other
    ∙ subst (λ xs. prev_in xs k ≡ cond (is (head_of front) k) None (prev_in xs k)) (sym (append-nil front)) (prev_from_is None front k)
prev-between_follower front (x ∷ back) c beside k other = prev-between front (x ∷ back) c beside k other

pub prev-closed_follower : (front back : List ℕ) (c : ℕ) → Beside front back c → (k : ℕ) → c ≢ k → prev_in (front ++ back) k ≡
    cond (is (follower_in front back) k) (prev_by (is_some (head_of back) && is_some (last_of front)) (back_between front back c))
    (prev_in (front ++ c ∷ back) k)
prev-closed_follower [] [] c beside k other = prev-closed [] [] c beside k other
prev-closed_follower (x ∷ front) [] c beside k other = prev-closed (x ∷ front) [] c beside k other ∙ prev_from_is None (x ∷ front ++ c ∷ []) k
prev-closed_follower front (x ∷ back) c beside k other = prev-closed front (x ∷ back) c beside k other
    ∙ ap (λ o. cond (eqb x k) o (prev_in (front ++ c ∷ x ∷ back) k)) (prev_by-last front (last_from (Some x) back))
