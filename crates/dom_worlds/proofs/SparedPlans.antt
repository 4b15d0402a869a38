-- Normalization of the Texts that it changes is that of all: it leaves the others as they are.
use Rattle.dom_base.proofs.Std.{◌≡◌, ◌≤◌, ℕ, ◌+◌, ◌-◌, ◌==◌, ◌&&◌, not, min, Bool, true, false, List, [], ◌∷◌, ◌++◌, filter, take_while, length}
use Rattle.dom_base.proofs.Std.{Option, Some, None, refl, sym, ap, ◌∙◌, subst, arith, if◌then◌else◌, cond-true, cond-false, option_map_or, flat_map}
use Rattle.dom_base.proofs.Std.{AllByRecursion, true≢false}
use Rattle.dom_model.proofs.Model.{NodeName, name_eq, items_after, is_empty, Trees, none, tree, Node, node_in, kind_of, is_text, has_data, names_of}
use Rattle.dom_model.proofs.Model.{roots, subtree, trees_below, times_in, children_of, parent_of, siblings, length_of, DomString, name_eq-true}
use Rattle.dom_model.proofs.Model.{name_eq-same, Part, Step, after, in_turn, observed, remove_plan, take_out, replacing_data, with_data_replaced}
use Rattle.dom_model.proofs.Model.{contiguous_texts_after, joins, joining, normalizing_text, part_step, join_at}
use Rattle.dom_worlds.proofs.Lists.{by_cases, either_way, all-dropped, all-then, by_some_is, take_while-no, take_while-yes}
use Rattle.dom_laws.proofs.Laws.{Once, by_times, times_subtree, times-here, times-more}
use Rattle.dom_worlds.proofs.PlanTexts.{descend-there, leads-normalizing_text}
use Rattle.dom_worlds.specs.Definitions.{IsPart, needs_normalizing}
use Rattle.dom_worlds.proofs.TreeChangeLaws.{times-map_nodes, times-below}
use Rattle.dom_model.proofs.Model.{descendants, inclusive_descendants, normalizing, index_of, removal_record, removing_from, name_eq-turned}
use Rattle.dom_worlds.proofs.TextBounds.{text-data}
use Rattle.dom_worlds.proofs.Bounds.{data-there}
use Rattle.dom_worlds.proofs.Roots.{node-taken_out, node-map_nodes, length-data}
use Rattle.dom_worlds.proofs.Insides.{times-taken_out_all}
use Rattle.dom_worlds.proofs.ChildPairs.{childs-parent}
use Rattle.dom_worlds.proofs.PartSteps.{name-node_in, data_put, data_put-keeps}
use Rattle.dom_worlds.proofs.PlanPlaces.{after-append, taken-step, telling-trees}
use Rattle.dom_worlds.proofs.TableRecords.{after-all}
use Rattle.dom_worlds.proofs.Spared.{leads, leads-childs, leads-below, leads-taken_out, leads-map_nodes, none_led, led_none, behind}

-- ---- lists

-- two tests that say the same of some names
take_same : (p q : NodeName → Bool) (xs : List NodeName) → AllByRecursion (λ x. p x ≡ q x) xs → take_while p xs ≡ take_while q xs
take_same p q [] h = refl
take_same p q (x ∷ xs) h =
    by_cases (p x)
    (λ e. take_while-yes p x xs e ∙ ap (λ ys. x ∷ ys) (take_same p q xs h.1) ∙ sym (take_while-yes q x xs (sym h.0 ∙ e)))
    (λ e. take_while-no p x xs e ∙ sym (take_while-no q x xs (sym h.0 ∙ e)))

-- what is taken passes the test
taken : (test : NodeName → Bool) (xs : List NodeName) → AllByRecursion (λ y. test y ≡ true) (take_while test xs)
taken test [] = tt
taken test (y ∷ xs) =
    by_cases (test y) (λ e. subst (AllByRecursion (λ z. test z ≡ true)) (sym (take_while-yes test y xs e)) (e, taken test xs))
    (λ e. subst (AllByRecursion (λ z. test z ≡ true)) (sym (take_while-no test y xs e)) tt)

-- ---- a Text x that is normalized, where it is known which names are those of Texts

module _ (text : NodeName → Bool) (x : NodeName) where
  -- no node has a Text behind it that had none, and the others stay
  record Spares (ts us : Trees) : Type 0 where
    times : (u : NodeName) → times_in us u ≡ times_in ts u
    fewer : (q y : NodeName) → leads text us q y ≤ leads text ts q y
    others : (y : NodeName) → name_eq x y ≡ false → 1 ≤ times_in ts y → node_in us y ≡ node_in ts y

  spares-same : (ts : Trees) → Spares ts ts
  spares-same ts = record { times = λ u. refl; fewer = λ q y. omega arith; others = λ y e h. refl }

  spares-then : {ts us vs : Trees} → Spares ts us → Spares us vs → Spares ts vs
  spares-then a b = record {
    times = λ u. b.times u ∙ a.times u;
    fewer = λ q y. let f = a.fewer q y in let g = b.fewer q y in omega arith;
    others = λ y e h. b.others y e (let t = a.times y in omega arith) ∙ a.others y e h;
  }

  once-spared : {ts us : Trees} → Spares ts us → Once ts → Once us
  once-spared s once u = let t = s.times u in let o = once u in omega arith

  spares-more : (p : Part) (xs ys : List Step) → Spares p.trees (after p xs).trees → Spares (after p xs).trees (after (after p xs) ys).trees →
      Spares p.trees (after p (xs ++ ys)).trees
  spares-more p xs ys a b = subst (λ (q : Part). Spares p.trees q.trees) (sym (after-append p xs ys)) (spares-then a b)

  -- a Text that leaves
  spares-removing : (z : NodeName) (p : Part) → Once p.trees → text z ≡ true → Spares p.trees (after p (remove_plan observed z p)).trees
  spares-removing z p once is =
      by_some_is (λ (o : Option NodeName). Spares p.trees (after p (option_map_or (removing_from observed z p.trees) o [])).trees) (parent_of p.trees z)
      (λ e. spares-same p.trees)
      (λ parent e. subst (Spares p.trees) (sym (telling-trees observed (removal_record p.trees parent z) (part_step p (take_out z)) ∙
      ap (λ (q : Part). q.trees) (taken-step p z parent e)))
      (record {
        times = λ u. times-taken_out_all p.trees z u once;
        fewer = λ q y. leads-taken_out text z is p.trees q y;
        others = λ y d h. node-taken_out p.trees z y once h;
      }))

  spares-removals : (zs : List NodeName) (p : Part) → Once p.trees → AllByRecursion (λ z. text z ≡ true) zs →
      Spares p.trees (after p (in_turn (remove_plan observed) zs p)).trees
  spares-removals [] p once is = spares-same p.trees
  spares-removals (z ∷ zs) p once is =
      let q = after p (remove_plan observed z p) in
      let a = spares-removing z p once is.0 in
      spares-more p (remove_plan observed z p) (in_turn (remove_plan observed) zs q) a (spares-removals zs q (once-spared a once) is.1)

  -- boundaries that are carried change no trees
  joins-trees : (ts : Trees) (parent : NodeName) (size : ℕ) (zs : List NodeName) (p : Part) → (after p (joins ts x parent size zs)).trees ≡ p.trees
  joins-trees ts parent size [] p = refl
  joins-trees ts parent size (z ∷ zs) p = joins-trees ts parent (size + length_of ts z) zs (part_step p (join_at x size z parent (index_of ts z)))

  -- the Text's data
  spares-replacing : (size : ℕ) (all : DomString) (p : Part) → Spares p.trees (after p (replacing_data x size 0 all p)).trees
  spares-replacing size all p =
      let few = min 0 (length (node_in p.trees x).text - size) in
      let f = data_put x size few all in
      let keeps : (n : Node) → (f n).name ≡ n.name = λ n. (data_put-keeps x size few all n).0 in
      record {
        times = λ u. times-map_nodes f keeps p.trees u;
        fewer = λ q y. let s = leads-map_nodes text f keeps p.trees q y in omega arith;
        others = λ y e h. node-map_nodes f keeps p.trees y h ∙
            cond-false (name_eq (node_in p.trees y).name x) (with_data_replaced size few all (node_in p.trees y)) (node_in p.trees y)
            (ap (λ z. name_eq z x) (name-node_in p.trees y) ∙ name_eq-turned y x ∙ e);
      }

  spares-joining : (parent : NodeName) (nexts : List NodeName) (p : Part) → Once p.trees → AllByRecursion (λ z. text z ≡ true) nexts →
      Spares p.trees (after p (joining x parent nexts p)).trees
  spares-joining parent nexts p once is =
      let size = length_of p.trees x in
      let all = flat_map (λ y. (node_in p.trees y).text) nexts in
      let one = replacing_data x size 0 all p in
      let two = joins p.trees x parent size nexts in
      let a = spares-more p one two (spares-replacing size all p)
      (subst (Spares (after p one).trees) (sym (joins-trees p.trees parent size nexts (after p one))) (spares-same (after p one).trees)) in
      spares-more p (one ++ two) (in_turn (remove_plan observed) nexts (after p (one ++ two))) a
      (spares-removals nexts (after p (one ++ two)) (once-spared a once) is)

-- ---- a part in which it is known which names are those of Texts

record Tells (text : NodeName → Bool) (p : Part) : Type 0 where
  part : IsPart p
  kinds : (u : NodeName) → 1 ≤ times_in p.trees u → is_text (kind_of p.trees u) ≡ text u

module _ {text : NodeName → Bool} {p : Part} (tells : Tells text p) where
  -- a Text is there
  told : (u : NodeName) → is_text (kind_of p.trees u) ≡ true → text u ≡ true
  told u e = sym (tells.kinds u (data-there p.trees u (text-data (kind_of p.trees u) e))) ∙ e

  spares-normalizing : (x : NodeName) → text x ≡ true → Spares text x p.trees (after p (normalizing_text x p)).trees
  spares-normalizing x is =
      let once = tells.part.unique in
      either_way (λ steps. Spares text x p.trees (after p steps).trees) (length_of p.trees x == 0) (remove_plan observed x p)
      (option_map_or join (parent_of p.trees x) []) (spares-removing text x x p once is) (from (parent_of p.trees x))
    where
      nexts : List NodeName
      nexts = contiguous_texts_after p.trees x

      join : NodeName → List Step
      join parent = if is_empty nexts then [] else joining x parent nexts p

      from : (a : Option NodeName) → Spares text x p.trees (after p (option_map_or join a [])).trees
      from None = spares-same text x p.trees
      from (Some parent) = either_way (λ steps. Spares text x p.trees (after p steps).trees) (is_empty nexts) [] (joining x parent nexts p)
          (spares-same text x p.trees)
          (spares-joining text x parent nexts p tells.part.unique
          (all-then (λ z. is_text (kind_of p.trees z) ≡ true) (λ z. text z ≡ true) told nexts
          (taken (λ z. is_text (kind_of p.trees z)) (items_after name_eq x (siblings p.trees x)))))

  -- it is known then too
  tells-next : (x : NodeName) → text x ≡ true → 1 ≤ times_in p.trees x → Tells text (after p (normalizing_text x p))
  tells-next x is there =
      let c = (leads-normalizing_text p x tells.part there).changed in
      let s = spares-normalizing x is in
      record {
        part = c.part;
        kinds = λ u h. let t : 1 ≤ times_in p.trees u = let t = s.times u in omega arith in ap is_text (c.kinds u t) ∙ tells.kinds u t;
      }

  -- the Texts behind a child
  behind_child : (y q : NodeName) → parent_of p.trees y ≡ Some q → contiguous_texts_after p.trees y ≡ behind text y (trees_below (subtree p.trees q))
  behind_child y q e =
      ap (λ (o : Option NodeName). take_while (λ z. is_text (kind_of p.trees z)) (items_after name_eq y (option_map_or (children_of p.trees) o (y ∷ [])))) e
      ∙ take_same (λ z. is_text (kind_of p.trees z)) text (items_after name_eq y (children_of p.trees q))
      (after-all (λ z. is_text (kind_of p.trees z) ≡ text z) y (children_of p.trees q)
      (roots-there (trees_below (subtree p.trees q))
      (λ u h. let a = times-below (subtree p.trees q) u in let b = times_subtree p.trees q u in tells.kinds u (omega arith))))
    where
      roots-there : (ts : Trees) → ((u : NodeName) → 1 ≤ times_in ts u → is_text (kind_of p.trees u) ≡ text u) →
          AllByRecursion (λ z. is_text (kind_of p.trees z) ≡ text z) (names_of (roots ts))
      roots-there none f = tt
      roots-there (tree n c r) f = (
        f n.name (let g = times-here n c r n.name (name_eq-same n.name) in omega arith),
        roots-there r (λ u h. f u (let m = times-more n c r u in omega arith)),
      )

-- ---- a Text that stays as it is

record Stays (text : NodeName → Bool) (p : Part) (y : NodeName) : Type 0 where
  there : 1 ≤ times_in p.trees y
  is : text y ≡ true
  full : (length_of p.trees y == 0) ≡ false
  last : (q : NodeName) → leads text p.trees q y ≡ 0

module _ {text : NodeName → Bool} {p : Part} (tells : Tells text p) (y : NodeName) where
  -- what its plan says
  stays_first : 1 ≤ times_in p.trees y → text y ≡ true → (length_of p.trees y == 0) ≡ false → contiguous_texts_after p.trees y ≡ [] →
      Stays text p y
  stays_first there is full alone = record {
    there = there;
    is = is;
    full = full;
    last = λ q. by_times (leads text p.trees q y) (λ z. z) (λ k.
        let c = leads-childs text p.trees q y in
        let up = childs-parent p.trees y q tells.part.unique (omega arith) in
        sym (leads-below text p.trees q y tells.part.unique) ∙
        led_none text y (trees_below (subtree p.trees q))
        (let a = times-below (subtree p.trees q) y in let b = times_subtree p.trees q y in let u = tells.part.unique y in omega arith)
        (sym (behind_child tells y q up) ∙ alone));
  }

  stays_plan : Stays text p y → normalizing_text y p ≡ []
  stays_plan s =
      cond-false (length_of p.trees y == 0) (remove_plan observed y p) (option_map_or join (parent_of p.trees y) []) s.full ∙
      by_some_is (λ (o : Option NodeName). option_map_or join o [] ≡ []) (parent_of p.trees y) (λ e. refl)
      (λ q e. cond-true (is_empty nexts) [] (joining y q nexts p)
      (ap is_empty (behind_child tells y q e ∙
      none_led text y (trees_below (subtree p.trees q)) (leads-below text p.trees q y tells.part.unique ∙ s.last q))))
    where
      nexts : List NodeName
      nexts = contiguous_texts_after p.trees y

      join : NodeName → List Step
      join parent = if is_empty nexts then [] else joining y parent nexts p

  -- while another one is normalized
  stays_next : (x : NodeName) → text x ≡ true → 1 ≤ times_in p.trees x → name_eq x y ≡ false → Stays text p y →
      Stays text (after p (normalizing_text x p)) y
  stays_next x is there other s =
      let q = after p (normalizing_text x p) in
      let t = spares-normalizing tells x is in
      let node = t.others y other s.there in
      let has = text-data (kind_of p.trees y) (tells.kinds y s.there ∙ s.is) in
      let same : length_of q.trees y ≡ length_of p.trees y =
      length-data q.trees y (ap (λ (n : Node). has_data n.kind) node ∙ has) ∙ ap (λ (n : Node). length n.text) node ∙ sym (length-data p.trees y has) in
      record {
        there = let k = t.times y in let h = s.there in omega arith;
        is = s.is;
        full = ap (λ n. n == 0) same ∙ s.full;
        last = λ q. let f = t.fewer q y in let l = s.last q in omega arith;
      }

-- ---- those that are changed, in turn

module _ (text changed : NodeName → Bool) where
  -- Texts that are there, of which those stay as they are that are not changed
  abbrev Are : Part → NodeName → Type 0
  Are p y = (1 ≤ times_in p.trees y) × (text y ≡ true) × (changed y ≡ false → Stays text p y)

  are-next : {p : Part} (x : NodeName) → Tells text p → Are p x → changed x ≡ true → (y : NodeName) → Are p y →
      Are (after p (normalizing_text x p)) y
  are-next {p} x tells is c y a = (
    (let t = (spares-normalizing tells x is.1).times y in let h = a.0 in omega arith),
    a.1,
    λ e. stays_next tells y x is.1 is.0
        (by_cases (name_eq x y) (λ g. absurd (true≢false (sym c ∙ ap changed (name_eq-true x y g) ∙ e))) (λ g. g)) (a.2 e),
  )

  turns-changed : (xs : List NodeName) (p : Part) → Tells text p → AllByRecursion (Are p) xs →
      in_turn normalizing_text (filter changed xs) p ≡ in_turn normalizing_text xs p
  turns-changed [] p tells are = refl
  turns-changed (x ∷ xs) p tells are =
      let q = after p (normalizing_text x p) in
      by_cases (changed x)
      (λ e. ap (λ ys. in_turn normalizing_text ys p) (cond-true (changed x) (x ∷ filter changed xs) (filter changed xs) e) ∙
      ap (λ steps. normalizing_text x p ++ steps)
      (turns-changed xs q (tells-next tells x are.0.1 are.0.0) (all-then (Are p) (Are q) (are-next x tells are.0 e) xs are.1)))
      (λ e. ap (λ ys. in_turn normalizing_text ys p) (cond-false (changed x) (x ∷ filter changed xs) (filter changed xs) e) ∙
      turns-changed xs p tells are.1 ∙
      ap (λ steps. steps ++ in_turn normalizing_text xs (after p steps)) (sym (stays_plan tells x (are.0.2 e))))

-- both tests, one after the other
filter-both : (a b : NodeName → Bool) (xs : List NodeName) → filter (λ y. a y && b y) xs ≡ filter b (filter a xs)
filter-both a b [] = refl
filter-both a b (x ∷ xs) =
    by_cases (a x) (λ e. by_cases (b x) (λ f. rw (e, f) (ap (λ ys. x ∷ ys) (filter-both a b xs))) (λ f. rw (e, f) (filter-both a b xs)))
    (λ e. rw e (filter-both a b xs))

-- those that need it
needed_turns : (p : Part) → IsPart p → (xs : List NodeName) → AllByRecursion (λ y. 1 ≤ times_in p.trees y) xs →
    in_turn normalizing_text (filter (λ y. is_text (kind_of p.trees y) && needs_normalizing p.trees y) xs) p ≡
    in_turn normalizing_text (filter (λ y. is_text (kind_of p.trees y)) xs) p
needed_turns p i xs there =
    let text = λ (y : NodeName). is_text (kind_of p.trees y) in
    let tells : Tells text p = record { part = i; kinds = λ u h. refl } in
    ap (λ ys. in_turn normalizing_text ys p) (filter-both text (needs_normalizing p.trees) xs) ∙
    turns-changed text (needs_normalizing p.trees) (filter text xs) p tells (are xs there)
  where
    are : (xs : List NodeName) → AllByRecursion (λ y. 1 ≤ times_in p.trees y) xs →
        AllByRecursion (Are (λ y. is_text (kind_of p.trees y)) (needs_normalizing p.trees) p) (filter (λ y. is_text (kind_of p.trees y)) xs)
    are [] h = tt
    are (y ∷ xs) h =
        by_cases (is_text (kind_of p.trees y))
        (λ e. rw e ((h.0, e, λ c. stays_first (record { part = i; kinds = λ u h. refl }) y h.0 e (left e c) (right c)), are xs h.1))
        (λ e. rw e (are xs h.1))
      where
        empty : (ys : List NodeName) → not (is_empty ys) ≡ false → ys ≡ []
        empty [] e = refl
        empty (z ∷ ys) e = absurd (true≢false e)

        left : is_text (kind_of p.trees y) ≡ true → needs_normalizing p.trees y ≡ false → (length_of p.trees y == 0) ≡ false
        left e c =
            ap (λ n. n == 0) (length-data p.trees y (text-data (kind_of p.trees y) e)) ∙
            by_cases (length (node_in p.trees y).text == 0) (λ f. absurd (true≢false (sym (rw f refl) ∙ c))) (λ f. f)

        right : needs_normalizing p.trees y ≡ false → contiguous_texts_after p.trees y ≡ []
        right c =
            by_cases (length (node_in p.trees y).text == 0) (λ f. absurd (true≢false (sym (rw f refl) ∙ c)))
            (λ f. empty (contiguous_texts_after p.trees y) (rw f at c))

-- So the plan of those below a node that need it is that of all.
pub normalizing-needed : (x : NodeName) (p : Part) → IsPart p →
    in_turn normalizing_text (filter (λ y. is_text (kind_of p.trees y) && needs_normalizing p.trees y) (descendants p.trees x)) p ≡ normalizing x p
normalizing-needed x p i =
    needed_turns p i (descendants p.trees x)
    (all-dropped (λ y. 1 ≤ times_in p.trees y) (inclusive_descendants p.trees x) (descend-there p.trees x))
