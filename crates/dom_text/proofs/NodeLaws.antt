-- The words of components, nodes and owners: they are just the texts of the grammar, and a component's say the numbers of a path.
use Rattle.dom_base.proofs.Std.{◌≡◌, ℕ, cond, eqb, List, [], ◌∷◌, ◌++◌, Option, Some, None, refl, sym, ap, ◌∙◌, append_assoc, arith, inl, inr, ◌≢◌, suc, ◌+◌}
use Rattle.dom_base.proofs.Std.{◌*◌, ◌<◌, ◌≤◌, true, false, Bool, not, ltb, length, take, fold, codes, option_map, AllByRecursion, join_with_byte, IsInRange}
use Rattle.dom_base.proofs.Std.{eqb-true, lt-ltb, ltb-true, false_from_ne_true, take-suc-set, append-nil, length-append, length-set, All-from_recursion}
use Rattle.dom_base.proofs.Std.{slice_split_none, slice_split_at, length-slice_split, join_with_byte-slice_split}
use Rattle.dom_model.proofs.Model.{Owner, Page, Component, ComponentName, NodeWord, own, foreign, MAX_DEPTH, no_path, longer_path}
use Rattle.dom_text.specs.Definitions.{IsWordByte, IsWord, IsNumber, IsNumbered, IsComponent, IsFullName, IsNode, IsOwner, IsPositive, ArePositive, path_from}
use Rattle.dom_text.specs.Definitions.{node, ◌>>=◌, at_end, number_of, behind, component_of, owner_of, page_node, inner_node, is_no_colon, full_name_of}
use Rattle.dom_text.specs.Definitions.{node_word_of, only_if, positive_of, between_dots, path_onto}
use Rattle.dom_text.proofs.WordLaws.{bind_then, some_is, at_end_some, run, behind_run, run_sound, run_complete, chosen, only_if_some, each_from, Passes}
use Rattle.dom_text.proofs.PartLaws.{SaysPart}
use Rattle.dom_text.proofs.NumberLaws.{number_sound, number_complete, IsNumber-word_bytes, word_from, behind_sound, positive_of_sound}
use Rattle.dom_text.proofs.NumberLaws.{positive_of_complete, IsPositive-bytes, each-append}
use Rattle.dom_text.proofs.NameLaws.{word_append}

-- ---- paths by their numbers

-- the numbers of a path, behind which further ones are put
path-onto : (ns : List ℕ) (q : ComponentName) → q.depth + length ns ≤ length q.parts → ((fold longer_path q ns).depth ≡ q.depth + length ns)
    × (take (q.depth + length ns) (fold longer_path q ns).parts ≡ take q.depth q.parts ++ ns)
path-onto [] q h =
    let same : q.depth + 0 ≡ q.depth = omega arith in
    (sym same, ap (λ d. take d q.parts) same ∙ sym (append-nil (take q.depth q.parts)))
path-onto (n ∷ ns) q h =
    let p = longer_path q n in
    let long : length p.parts ≡ length q.parts = length-set q.parts q.depth n in
    let more = path-onto ns p (omega (arith, h, long)) in
    let same : q.depth + length (n ∷ ns) ≡ p.depth + length ns = omega arith in (
      more.0 ∙ sym same,
      ap (λ d. take d (fold longer_path p ns).parts) same ∙ more.1
          ∙ ap (λ (xs : List ℕ). xs ++ ns) (take-suc-set q.parts q.depth n (omega (arith, h))) ∙ append_assoc (take q.depth q.parts) (n ∷ []) ns,
    )

-- a path from its numbers has them
pub path_from-numbers : (ns : List ℕ) (q : ComponentName) → length ns ≤ MAX_DEPTH → q ≡ path_from ns → take q.depth q.parts ≡ ns
path_from-numbers ns q few is =
    let at = path-onto ns no_path (omega (arith, few)) in
    ap (λ (p : ComponentName). take p.depth p.parts) is ∙ ap (λ d. take d (path_from ns).parts) at.0 ∙ at.1

-- ---- the words are the texts of the grammar

onto-sound : (texts : List (List ℕ)) (q p : ComponentName) → path_onto q texts ≡ Some p → (ns : List ℕ) × ArePositive ns texts
    × (length ns ≡ length texts) × (p ≡ fold longer_path q ns) × (q.depth ≤ MAX_DEPTH → q.depth + length ns ≤ MAX_DEPTH)
onto-sound [] q p e = ([], tt, refl, sym (some_is e), λ l. omega (arith, l))
onto-sound (text ∷ texts) q p e =
    bind_then (positive_of text) (λ n. only_if (ltb q.depth MAX_DEPTH) (longer_path q n) >>= λ r. path_onto r texts) p e λ n en more.
    bind_then (only_if (ltb q.depth MAX_DEPTH) (longer_path q n)) (λ r. path_onto r texts) p more λ r er rest.
    let test = only_if_some (ltb q.depth MAX_DEPTH) (longer_path q n) r er in
    let deep : suc q.depth ≡ r.depth = ap (λ (s : ComponentName). s.depth) test.1 in
    let room = ltb-true q.depth MAX_DEPTH test.0 in
    let h = onto-sound texts r p rest in (
      n ∷ h.0,
      (positive_of_sound text n en, h.1),
      ap suc h.2,
      h.3 ∙ ap (λ (s : ComponentName). fold longer_path s h.0) (sym test.1),
      λ l. let fits = h.4 (omega (arith, deep, room)) in omega (arith, fits, deep),
    )

pub component_sound : (w : List ℕ) (q : ComponentName) → component_of w ≡ Some q → IsComponent q w
component_sound [] q e = absurd cc
component_sound (b ∷ text) q e = elim (chosen (eqb b 99) (path_onto no_path (between_dots text)) None (Some q) e) [
  | inl h ↦
      let s = onto-sound (between_dots text) no_path q h.1 in
      let counted = length-slice_split (λ b. eqb b 46) text in
      let same = s.2 in
      let few = s.4 (omega arith) in (
        s.0,
        between_dots text,
        s.1,
        omega (arith, same, counted),
        omega (arith, few),
        s.3,
        ap (λ (x : ℕ). x ∷ text) (eqb-true b 99 h.0) ∙ ap (λ (t : List ℕ). 99 ∷ t) (sym (join_with_byte-slice_split 46 text)),
      )
  | inr h ↦ absurd (let no' = h.1 in cc)
]

onto-complete : (ns : List ℕ) (texts : List (List ℕ)) (q : ComponentName) → ArePositive ns texts → q.depth + length ns ≤ MAX_DEPTH →
    path_onto q texts ≡ Some (fold longer_path q ns)
onto-complete [] [] q h l = refl
onto-complete [] (text ∷ texts) q h l = absurd h
onto-complete (n ∷ ns) [] q h l = absurd h
onto-complete (n ∷ ns) (text ∷ texts) q h l =
    ap (λ (o : Option ℕ). o >>= λ m. only_if (ltb q.depth MAX_DEPTH) (longer_path q m) >>= λ r. path_onto r texts) (positive_of_complete text n h.0)
    ∙ ap (λ (t : Bool). only_if t (longer_path q n) >>= λ r. path_onto r texts) (lt-ltb q.depth MAX_DEPTH (omega (arith, l)))
    ∙ onto-complete ns texts (longer_path q n) h.1 (omega (arith, l))

-- no byte is a dot
abbrev NoDot : List ℕ → Type 0
NoDot text = AllByRecursion (λ b. eqb b 46 ≡ false) text

no_dot : (b : ℕ) → IsInRange 48 57 b → eqb b 46 ≡ false
no_dot b h = false_from_ne_true (eqb b 46) (λ e. let same = eqb-true b 46 e in omega (arith, same, h))

positive_no_dot : (n : ℕ) (text : List ℕ) → IsPositive n text → NoDot text
positive_no_dot n text h = each_from no_dot text (IsPositive-bytes n text h)

-- numbers with dots are parted again
parted : (ns : List ℕ) (texts : List (List ℕ)) → 0 < length ns → ArePositive ns texts → between_dots (join_with_byte 46 texts) ≡ texts
parted [] texts l h = absurd (omega (arith, l))
parted (n ∷ ns) [] l h = absurd h
parted (n ∷ []) (text ∷ []) l h =
    slice_split_none (λ b. eqb b 46) text (All-from_recursion (λ b. eqb b 46 ≡ false) text (positive_no_dot n text h.0))
parted (n ∷ []) (text ∷ next ∷ texts) l h = absurd h.1
parted (n ∷ m ∷ ns) (text ∷ []) l h = absurd h.1
parted (n ∷ m ∷ ns) (text ∷ next ∷ texts) l h =
    slice_split_at (λ b. eqb b 46) text 46 (join_with_byte 46 (next ∷ texts))
    (All-from_recursion (λ b. eqb b 46 ≡ false) text (positive_no_dot n text h.0)) refl
    ∙ ap (λ (x : List (List ℕ)). text ∷ x) (parted (m ∷ ns) (next ∷ texts) (omega arith) h.1)

pub component_complete : (q : ComponentName) (w : List ℕ) → IsComponent q w → component_of w ≡ Some q
component_complete q w h =
    let few = h.4 in
    ap component_of h.6 ∙ ap (path_onto no_path) (parted h.0 h.1 h.3 h.2) ∙ onto-complete h.0 h.1 no_path h.2 (omega (arith, few)) ∙ ap Some (sym h.5)

-- ---- their bytes

-- digits and dots
numbers-bytes : (ns : List ℕ) (texts : List (List ℕ)) → ArePositive ns texts → AllByRecursion (IsInRange 46 57) (join_with_byte 46 texts)
numbers-bytes [] [] h = tt
numbers-bytes [] (text ∷ texts) h = absurd h
numbers-bytes (n ∷ ns) [] h = absurd h
numbers-bytes (n ∷ ns) (text ∷ []) h = each_from (λ b p. (omega (arith, p), omega (arith, p))) text (IsPositive-bytes n text h.0)
numbers-bytes (n ∷ ns) (text ∷ next ∷ texts) h =
    each-append (IsInRange 46 57) text (46 ∷ join_with_byte 46 (next ∷ texts))
    (each_from (λ b p. (omega (arith, p), omega (arith, p))) text (IsPositive-bytes n text h.0))
    ((omega arith, omega arith), numbers-bytes ns (next ∷ texts) h.1)

pub component_is_word : (q : ComponentName) (w : List ℕ) → IsComponent q w → IsWord w
component_is_word q w h =
    rw (h.6) (word_from 99 (join_with_byte 46 h.1) (omega arith, omega arith)
    (each_from (λ b p. (omega (arith, p), omega (arith, p))) (join_with_byte 46 h.1) (numbers-bytes h.0 h.1 h.2)))

-- it has no colon
no_colon : (b : ℕ) → b ≢ 58 → is_no_colon b ≡ true
no_colon b h = ap not (false_from_ne_true (eqb b 58) (λ e. h (eqb-true b 58 e)))

pub component_passes : (q : ComponentName) (w : List ℕ) → IsComponent q w → Passes is_no_colon w
component_passes q w h =
    rw (h.6) (refl, each_from (λ b p. no_colon b (λ e. omega (arith, e, p))) (join_with_byte 46 h.1) (numbers-bytes h.0 h.1 h.2))

-- it is short
positive_short : (n : ℕ) (text : List ℕ) → IsPositive n text → length text ≤ 9
positive_short n [] h = omega arith
positive_short n (d ∷ ds) h = omega (arith, h.2)

numbers_short : (ns : List ℕ) (texts : List (List ℕ)) → ArePositive ns texts → length (join_with_byte 46 texts) ≤ 10 * length ns
numbers_short [] [] h = omega arith
numbers_short [] (text ∷ texts) h = absurd h
numbers_short (n ∷ ns) [] h = absurd h
numbers_short (n ∷ ns) (text ∷ []) h = let one = positive_short n text h.0 in omega (arith, one)
numbers_short (n ∷ ns) (text ∷ next ∷ texts) h =
    let one = positive_short n text h.0 in
    let more = numbers_short ns (next ∷ texts) h.1 in
    let all = length-append text (46 ∷ join_with_byte 46 (next ∷ texts)) in
    omega (arith, one, more, all)

pub component_short : (q : ComponentName) (w : List ℕ) → IsComponent q w → length w ≤ 81
component_short q w h = let all = numbers_short h.0 h.1 h.2 in let few = h.4 in let long = ap length h.6 in omega (arith, all, few, long)

-- a full name
full_name_sound : (w : List ℕ) (s : NodeWord) → full_name_of w ≡ Some s → (s ≡ foreign) × IsFullName w
full_name_sound w s e =
    let component = run is_no_colon w in
    let rest = behind_run is_no_colon w in
    bind_then (component_of component) (λ k. behind (codes ":m") rest >>= λ node. number_of node >>= λ j. Some foreign) s e λ k ek more.
    bind_then (behind (codes ":m") rest) (λ node. number_of node >>= λ j. Some foreign) s more λ node en more'.
    bind_then (number_of node) (λ j. Some foreign) s more' λ j ej same.
    let parted : w ≡ component ++ (codes ":m" ++ node) =
    (run_sound is_no_colon w).1 ∙ ap (λ (x : List ℕ). component ++ x) (behind_sound (codes ":m") rest node en) in
    let whole : w ≡ component ++ codes ":m" ++ node = parted ∙ sym (append_assoc component (codes ":m") node) in
    (cc, (k, j, component, node, component_sound component k ek, number_sound node j ej, whole))

full_name_parts : (component text : List ℕ) (q : ComponentName) (j : ℕ) → IsComponent q component → IsNumber j text →
    (component_of component >>= λ i. behind (codes ":m") (codes ":m" ++ text) >>= λ rest. number_of rest >>= λ l. Some foreign) ≡ Some foreign
full_name_parts component text q j hq hj = rw (component_complete q component hq, number_complete text j hj) refl

full_name_complete : (w : List ℕ) → IsFullName w → full_name_of w ≡ Some foreign
full_name_complete w h =
    let parted : w ≡ h.2 ++ (codes ":m" ++ h.3) = h.6 ∙ append_assoc h.2 (codes ":m") h.3 in
    let r = run_complete is_no_colon h.2 (codes ":m" ++ h.3) (component_passes h.0 h.2 h.4) refl in
    let front : run is_no_colon w ≡ h.2 = ap (run is_no_colon) parted ∙ r.0 in
    let back : behind_run is_no_colon w ≡ codes ":m" ++ h.3 = ap (behind_run is_no_colon) parted ∙ r.1 in
    rw (front, back) (full_name_parts h.2 h.3 h.0 h.1 h.4 h.5)

option_map_some : {A B : Type 0} (f : A → B) (o : Option A) (y : B) → option_map f o ≡ Some y → (x : A) × (o ≡ Some x) × (f x ≡ y)
option_map_some f (Some x) y e = (x, refl, some_is e)
option_map_some f None y e = absurd cc

page_node_is : (o : Owner) (n : ℕ) (text : List ℕ) → IsNumber n text → IsNode o (page_node o n) (110 ∷ text)
page_node_is Page n text h = (text, h, refl)
page_node_is (Component k) n text h = inl (n, (text, h, refl))

inner_node_is : (o : Owner) (n : ℕ) (text : List ℕ) → IsNumber n text → IsNode o (inner_node o n) (109 ∷ text)
inner_node_is Page n text h = inl (n, (text, h, refl))
inner_node_is (Component k) n text h = (text, h, refl)

full_name_is : (o : Owner) (text : List ℕ) → IsFullName text → IsNode o foreign text
full_name_is Page text h = inr h
full_name_is (Component k) text h = inr h

node_sound : (o : Owner) (w : List ℕ) (s : NodeWord) → node_word_of o w ≡ Some s → IsNode o s w
node_sound o [] s e = absurd cc
node_sound o (b ∷ text) s e =
    let others = cond (eqb b 109) (option_map (inner_node o) (number_of text)) (full_name_of (b ∷ text)) in
    elim (chosen (eqb b 110) (option_map (page_node o) (number_of text)) others (Some s) e) [
      | inl h ↦
          let m = option_map_some (page_node o) (number_of text) s h.1 in
          let b_is : b ≡ 110 = eqb-true b 110 h.0 in
          rw (b_is, ← m.2) (page_node_is o m.0 text (number_sound text m.0 m.1))
      | inr h ↦ elim (chosen (eqb b 109) (option_map (inner_node o) (number_of text)) (full_name_of (b ∷ text)) (Some s) h.1) [
        | inl k ↦
            let m = option_map_some (inner_node o) (number_of text) s k.1 in
            let b_is : b ≡ 109 = eqb-true b 109 k.0 in
            rw (b_is, ← m.2) (inner_node_is o m.0 text (number_sound text m.0 m.1))
        | inr k ↦ let f = full_name_sound (b ∷ text) s k.1 in rw (f.0) (full_name_is o (b ∷ text) f.1)
      ]
    ]

page_node_read : (o : Owner) (n : ℕ) (number' : List ℕ) → IsNumber n number' → node_word_of o (110 ∷ number') ≡ Some (page_node o n)
page_node_read o n number' h = ap (option_map (page_node o)) (number_complete number' n h)

inner_node_read : (o : Owner) (n : ℕ) (number' : List ℕ) → IsNumber n number' → node_word_of o (109 ∷ number') ≡ Some (inner_node o n)
inner_node_read o n number' h = ap (option_map (inner_node o)) (number_complete number' n h)

full_name_read : (o : Owner) (w : List ℕ) → IsFullName w → node_word_of o w ≡ Some foreign
full_name_read o w h =
    let at : w ≡ 99 ∷ (join_with_byte 46 h.4.1 ++ codes ":m" ++ h.3) = h.6 ∙ ap (λ (x : List ℕ). x ++ codes ":m" ++ h.3) h.4.6 in
    ap (node_word_of o) at ∙ ap full_name_of (sym at) ∙ full_name_complete w h

node_complete : (o : Owner) (w : List ℕ) (s : NodeWord) → IsNode o s w → node_word_of o w ≡ Some s
node_complete Page w (own n) h = ap (node_word_of Page) h.2 ∙ page_node_read Page n h.0 h.1
node_complete Page w foreign (inl h) = ap (node_word_of Page) h.1.2 ∙ inner_node_read Page h.0 h.1.0 h.1.1
node_complete Page w foreign (inr h) = full_name_read Page w h
node_complete (Component k) w (own n) h = ap (node_word_of (Component k)) h.2 ∙ inner_node_read (Component k) n h.0 h.1
node_complete (Component k) w foreign (inl h) = ap (node_word_of (Component k)) h.1.2 ∙ page_node_read (Component k) h.0 h.1.0 h.1.1
node_complete (Component k) w foreign (inr h) = full_name_read (Component k) w h

numbered_word : (letter : ℕ) → IsInRange 35 126 letter → (n : ℕ) (w : List ℕ) → IsNumbered (letter ∷ []) n w → IsWord w
numbered_word letter l n w h = rw (h.2) (word_from letter h.0 l (IsNumber-word_bytes n h.0 h.1))

full_name_word : (w : List ℕ) → IsFullName w → IsWord w
full_name_word w h =
    let middle : AllByRecursion IsWordByte (codes ":m") = ((omega arith, omega arith), ((omega arith, omega arith), tt)) in
    let front = word_append h.2 (codes ":m") (component_is_word h.0 h.2 h.4) middle in
    rw (h.6) (word_append (h.2 ++ codes ":m") h.3 front (IsNumber-word_bytes h.1 h.3 h.5))

node_word : (o : Owner) (w : List ℕ) (s : NodeWord) → IsNode o s w → IsWord w
node_word Page w (own n) h = numbered_word 110 (omega arith, omega arith) n w h
node_word Page w foreign (inl h) = numbered_word 109 (omega arith, omega arith) h.0 w h.1
node_word Page w foreign (inr h) = full_name_word w h
node_word (Component k) w (own n) h = numbered_word 109 (omega arith, omega arith) n w h
node_word (Component k) w foreign (inl h) = numbered_word 110 (omega arith, omega arith) h.0 w h.1
node_word (Component k) w foreign (inr h) = full_name_word w h

pub node_says : (o : Owner) → SaysPart (node_word_of o) (node o)
node_says o = record { sound = node_sound o; complete = node_complete o; is_word = node_word o }

-- ---- owners

pub owner_sound : (w : List ℕ) (o : Owner) → owner_of w ≡ Some o → IsOwner o w
owner_sound [] o e = absurd cc
owner_sound (b ∷ text) o e =
    elim (chosen (eqb b 112) (at_end Page text) (option_map Component (component_of (b ∷ text))) (Some o) e) [
      | inl h ↦
          let m = at_end_some Page o text h.1 in
          let b_is : b ≡ 112 = eqb-true b 112 h.0 in
          rw (← m.0, b_is, m.1) refl
      | inr h ↦
          let m = option_map_some Component (component_of (b ∷ text)) o h.1 in
          rw (← m.2) (component_sound (b ∷ text) m.0 m.1)
    ]

pub owner_complete : (w : List ℕ) (o : Owner) → IsOwner o w → owner_of w ≡ Some o
owner_complete w Page h = rw h refl
owner_complete w (Component q) h = ap owner_of h.6 ∙ ap (option_map Component) (ap component_of (sym h.6) ∙ component_complete q w h)

pub owner_is_word : (w : List ℕ) (o : Owner) → IsOwner o w → IsWord w
owner_is_word w Page h = rw h (word_from 112 [] (omega arith, omega arith) tt)
owner_is_word w (Component q) h = component_is_word q w h
