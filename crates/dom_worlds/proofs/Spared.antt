-- Texts that normalization leaves as they are: those with data and no Text directly behind them. They stay such while others are normalized.
use Rattle.dom_base.proofs.Std.{◌≡◌, ◌≤◌, ℕ, ◌+◌, Bool, true, false, List, [], ◌∷◌, take_while}
use Rattle.dom_base.proofs.Std.{refl, sym, ap, ◌∙◌, arith, if◌then◌else◌, cond-true, cond-false}
use Rattle.dom_model.proofs.Model.{NodeName, name_eq, items_after, Trees, none, tree, Node, names_of, roots}
use Rattle.dom_model.proofs.Model.{subtree, or_else, trees_below, times_in, without, taken_out, map_nodes}
use Rattle.dom_model.proofs.Model.{name_eq-turned, name_eq-true}
use Rattle.dom_worlds.proofs.Lists.{by_cases, take_while-no, take_while-yes}
use Rattle.dom_worlds.proofs.TreeChangeLaws.{without-here, without-elsewhere, subtree-here, subtree-elsewhere}
use Rattle.dom_worlds.proofs.Insides.{or_else-none}
use Rattle.dom_worlds.proofs.Trees.{IsSum, sum-put_root}
use Rattle.dom_worlds.proofs.ChildPairs.{childs, root_times}
use Rattle.dom_laws.proofs.Laws.{Once, by_times, once_parts, times-here, times-elsewhere, subtree_gone}

-- Which names are those of Texts.
module _ (text : NodeName → Bool) where
  -- whether the first tree is a Text's
  abbrev headed : Trees → ℕ
  headed none = 0
  headed (tree n c r) = if text n.name then 1 else 0

  -- how often a Text's tree is directly behind that of y
  abbrev pub led : Trees → NodeName → ℕ
  led none y = 0
  led (tree n c r) y = (if name_eq n.name y then headed r else 0) + led r y

  -- how often a Text is directly behind y among the children of nodes named q
  abbrev pub leads : Trees → NodeName → NodeName → ℕ
  leads none q y = 0
  leads (tree n c r) q y = (if name_eq n.name q then led c y else 0) + leads c q y + leads r q y

  led-here : (n : Node) (c r : Trees) (y : NodeName) → name_eq n.name y ≡ true → led (tree n c r) y ≡ headed r + led r y
  led-here n c r y e = ap (λ k. k + led r y) (cond-true (name_eq n.name y) (headed r) 0 e)

  led-elsewhere : (n : Node) (c r : Trees) (y : NodeName) → name_eq n.name y ≡ false → led (tree n c r) y ≡ led r y
  led-elsewhere n c r y e = let g = ap (λ k. k + led r y) (cond-false (name_eq n.name y) (headed r) 0 e) in omega arith

  leads-here : (n : Node) (c r : Trees) (q y : NodeName) → name_eq n.name q ≡ true → leads (tree n c r) q y ≡ led c y + leads c q y + leads r q y
  leads-here n c r q y e = ap (λ k. k + leads c q y + leads r q y) (cond-true (name_eq n.name q) (led c y) 0 e)

  leads-elsewhere : (n : Node) (c r : Trees) (q y : NodeName) → name_eq n.name q ≡ false → leads (tree n c r) q y ≡ leads c q y + leads r q y
  leads-elsewhere n c r q y e = let g = ap (λ k. k + leads c q y + leads r q y) (cond-false (name_eq n.name q) (led c y) 0 e) in omega arith

  headed-few : (ts : Trees) → headed ts ≤ 1
  headed-few none = omega arith
  headed-few (tree n c r) =
      by_cases (text n.name) (λ e. let g : headed (tree n c r) ≡ 1 = cond-true (text n.name) 1 0 e in omega arith)
      (λ e. let g : headed (tree n c r) ≡ 0 = cond-false (text n.name) 1 0 e in omega arith)

  -- no more than y is a root, or a child
  led-roots : (ts : Trees) (y : NodeName) → led ts y ≤ root_times ts y
  led-roots none y = omega arith
  led-roots (tree n c r) y =
      let h = led-roots r y in
      let f = headed-few r in
      by_cases (name_eq n.name y)
      (λ e. let g = led-here n c r y e in
      let k : root_times (tree n c r) y ≡ 1 + root_times r y = ap (λ k. k + root_times r y) (cond-true (name_eq n.name y) 1 0 e) in omega arith)
      (λ e. let g = led-elsewhere n c r y e in
      let k : root_times (tree n c r) y ≡ 0 + root_times r y = ap (λ k. k + root_times r y) (cond-false (name_eq n.name y) 1 0 e) in omega arith)

  pub leads-childs : (ts : Trees) (q y : NodeName) → leads ts q y ≤ childs ts y q
  leads-childs none q y = omega arith
  leads-childs (tree n c r) q y =
      let a = leads-childs c q y in
      let b = leads-childs r q y in
      let l = led-roots c y in
      by_cases (name_eq n.name q)
      (λ e. let g = leads-here n c r q y e in
      let k = ap (λ k. k + childs c y q + childs r y q) (cond-true (name_eq n.name q) (root_times c y) 0 e) in omega arith)
      (λ e. let g = leads-elsewhere n c r q y e in
      let k = ap (λ k. k + childs c y q + childs r y q) (cond-false (name_eq n.name q) (root_times c y) 0 e) in omega arith)

  -- A Text that is taken out.
  module _ (z : NodeName) (is : text z ≡ true) where
    headed-without : (ts : Trees) → headed (without z ts) ≤ headed ts
    headed-without none = omega arith
    headed-without (tree n c r) =
        by_cases (name_eq n.name z)
        (λ e. let f = headed-few (without z (tree n c r)) in
        let k : headed (tree n c r) ≡ 1 = cond-true (text n.name) 1 0 (ap text (name_eq-true n.name z e) ∙ is) in omega arith)
        (λ e. let s = ap headed (without-elsewhere n c r z e) in omega arith)

    led-without : (ts : Trees) (y : NodeName) → led (without z ts) y ≤ led ts y
    led-without none y = omega arith
    led-without (tree n c r) y =
        let h = led-without r y in
        let f = headed-without r in
        by_cases (name_eq n.name z)
        (λ e. let s = ap (λ t. led t y) (without-here n c r z e) in omega arith)
        (λ e. let s = ap (λ t. led t y) (without-elsewhere n c r z e) in
        by_cases (name_eq n.name y)
        (λ g. let a = led-here n c r y g in let b = led-here n (without z c) (without z r) y g in omega arith)
        (λ g. let a = led-elsewhere n c r y g in let b = led-elsewhere n (without z c) (without z r) y g in omega arith))

    leads-or_else : (ts us : Trees) (q y : NodeName) → leads (or_else ts us) q y ≤ leads ts q y + leads us q y
    leads-or_else none us q y = omega arith
    leads-or_else (tree n c r) us q y = omega arith

    leads-without : (ts : Trees) (q y : NodeName) → leads (without z ts) q y + leads (subtree ts z) q y ≤ leads ts q y
    leads-without none q y = omega arith
    leads-without (tree n c r) q y =
        let below = leads-without c q y in
        let behind = leads-without r q y in
        by_cases (name_eq n.name z)
        (λ e. let s = ap (λ t. leads t q y) (without-here n c r z e) in let t = ap (λ t. leads t q y) (subtree-here n c r z e) in omega arith)
        (λ e. let s = ap (λ t. leads t q y) (without-elsewhere n c r z e) in
        let t = ap (λ t. leads t q y) (subtree-elsewhere n c r z e) in
        let o = leads-or_else (subtree c z) (subtree r z) q y in
        let l = led-without c y in
        by_cases (name_eq n.name q)
        (λ f. let a = leads-here n c r q y f in let b = leads-here n (without z c) (without z r) q y f in omega arith)
        (λ f. let a = leads-elsewhere n c r q y f in let b = leads-elsewhere n (without z c) (without z r) q y f in omega arith))

    leads-sum : (q y : NodeName) → IsSum (λ ts. leads ts q y)
    leads-sum q y = record { nothing = refl; more = λ n c r. omega arith }

    pub leads-taken_out : (ts : Trees) (q y : NodeName) → leads (taken_out z ts) q y ≤ leads ts q y
    leads-taken_out ts q y =
        let s = sum-put_root (leads-sum q y) z (subtree ts z) (without z ts) in let w = leads-without ts q y in omega arith

  -- of nodes with other contents
  pub leads-map_nodes : (f : Node → Node) → ((n : Node) → (f n).name ≡ n.name) → (ts : Trees) (q y : NodeName) →
      leads (map_nodes f ts) q y ≡ leads ts q y
  leads-map_nodes f h none q y = refl
  leads-map_nodes f h (tree n c r) q y =
      let a = leads-map_nodes f h c q y in
      let b = leads-map_nodes f h r q y in
      let l = led-map c in
      by_cases (name_eq n.name q)
      (λ e. let i = leads-here n c r q y e in
      let j = leads-here (f n) (map_nodes f c) (map_nodes f r) q y (ap (λ z. name_eq z q) (h n) ∙ e) in omega arith)
      (λ e. let i = leads-elsewhere n c r q y e in
      let j = leads-elsewhere (f n) (map_nodes f c) (map_nodes f r) q y (ap (λ z. name_eq z q) (h n) ∙ e) in omega arith)
    where
      headed-map : (ts : Trees) → headed (map_nodes f ts) ≡ headed ts
      headed-map none = refl
      headed-map (tree n c r) = ap (λ z. if text z then 1 else 0) (h n)

      led-map : (ts : Trees) → led (map_nodes f ts) y ≡ led ts y
      led-map none = refl
      led-map (tree n c r) =
          let g = led-map r in
          let k = headed-map r in
          by_cases (name_eq n.name y)
          (λ e. let i = led-here n c r y e in
          let j = led-here (f n) (map_nodes f c) (map_nodes f r) y (ap (λ z. name_eq z y) (h n) ∙ e) in omega arith)
          (λ e. let i = led-elsewhere n c r y e in
          let j = led-elsewhere (f n) (map_nodes f c) (map_nodes f r) y (ap (λ z. name_eq z y) (h n) ∙ e) in omega arith)

  -- the children of one node
  leads-absent : (ts : Trees) (q y : NodeName) → times_in ts q ≡ 0 → leads ts q y ≡ 0
  leads-absent none q y h = refl
  leads-absent (tree n c r) q y h =
      by_cases (name_eq n.name q) (λ e. absurd (let g = times-here n c r q e in omega arith))
      (λ e. let g = times-elsewhere n c r q e in let k = leads-elsewhere n c r q y e in
      let a = leads-absent c q y (omega arith) in let b = leads-absent r q y (omega arith) in omega arith)

  pub leads-below : (ts : Trees) (q y : NodeName) → Once ts → led (trees_below (subtree ts q)) y ≡ leads ts q y
  leads-below none q y u = refl
  leads-below (tree n c r) q y u =
      let once = u q in
      let parts = once_parts n c r u in
      by_cases (name_eq n.name q)
      (λ e. let g = times-here n c r q e in let s = ap (λ t. led (trees_below t) y) (subtree-here n c r q e) in
      let k = leads-here n c r q y e in let a = leads-absent c q y (omega arith) in let b = leads-absent r q y (omega arith) in omega arith)
      (λ e. let g = times-elsewhere n c r q e in let k = leads-elsewhere n c r q y e in
      by_times (times_in c q)
      (λ z. let s = ap (λ t. led (trees_below t) y) (subtree-elsewhere n c r q e ∙ ap (λ t. or_else t (subtree r q)) (subtree_gone c q z)) in
      let a = leads-absent c q y z in let b = leads-below r q y parts.after in omega arith)
      (λ z. let s = ap (λ t. led (trees_below t) y)
      (subtree-elsewhere n c r q e ∙ ap (or_else (subtree c q)) (subtree_gone r q (omega arith)) ∙ or_else-none (subtree c q)) in
      let a = leads-absent r q y (omega arith) in let b = leads-below c q y parts.below in omega arith))

  -- as a list of names
  module _ (y : NodeName) where
    abbrev pub behind : Trees → List NodeName
    behind ts = take_while text (items_after name_eq y (names_of (roots ts)))

    behind-here : (n : Node) (c r : Trees) → name_eq n.name y ≡ true → behind (tree n c r) ≡ take_while text (names_of (roots r))
    behind-here n c r e =
        ap (take_while text) (cond-true (name_eq y n.name) (names_of (roots r)) (items_after name_eq y (names_of (roots r))) (name_eq-turned y n.name ∙ e))

    behind-elsewhere : (n : Node) (c r : Trees) → name_eq n.name y ≡ false → behind (tree n c r) ≡ behind r
    behind-elsewhere n c r e =
        ap (take_while text) (cond-false (name_eq y n.name) (names_of (roots r)) (items_after name_eq y (names_of (roots r))) (name_eq-turned y n.name ∙ e))

    none_headed : (ts : Trees) → headed ts ≡ 0 → take_while text (names_of (roots ts)) ≡ []
    none_headed none h = refl
    none_headed (tree n c r) h =
        by_cases (text n.name) (λ e. absurd (let g : headed (tree n c r) ≡ 1 = cond-true (text n.name) 1 0 e in omega arith))
        (λ e. take_while-no text n.name (names_of (roots r)) e)

    headed_none : (ts : Trees) → take_while text (names_of (roots ts)) ≡ [] → headed ts ≡ 0
    headed_none none h = refl
    headed_none (tree n c r) h =
        by_cases (text n.name)
        (λ e. absurd (no (take_while text (names_of (roots r))) (sym (take_while-yes text n.name (names_of (roots r)) e) ∙ h)))
        (λ e. cond-false (text n.name) 1 0 e)
      where
        no : (xs : List NodeName) → n.name ∷ xs ≡ [] → ⊥
        no xs e = cc

    pub none_led : (ts : Trees) → led ts y ≡ 0 → behind ts ≡ []
    none_led none h = refl
    none_led (tree n c r) h =
        by_cases (name_eq n.name y)
        (λ e. let g = led-here n c r y e in behind-here n c r e ∙ none_headed r (omega arith))
        (λ e. let g = led-elsewhere n c r y e in behind-elsewhere n c r e ∙ none_led r (omega arith))

    pub led_none : (ts : Trees) → times_in ts y ≤ 1 → behind ts ≡ [] → led ts y ≡ 0
    led_none none u h = refl
    led_none (tree n c r) u h =
        by_cases (name_eq n.name y)
        (λ e. let g = led-here n c r y e in let t = times-here n c r y e in let l = led-roots r y in let m = roots-times r in
        let k = headed_none r (sym (behind-here n c r e) ∙ h) in omega arith)
        (λ e. let g = led-elsewhere n c r y e in let t = times-elsewhere n c r y e in
        let k = led_none r (omega arith) (sym (behind-elsewhere n c r e) ∙ h) in omega arith)
      where
        roots-times : (ts : Trees) → root_times ts y ≤ times_in ts y
        roots-times none = omega arith
        roots-times (tree n c r) =
            let h = roots-times r in
            by_cases (name_eq n.name y)
            (λ e. let g = times-here n c r y e in
            let k : root_times (tree n c r) y ≡ 1 + root_times r y = ap (λ k. k + root_times r y) (cond-true (name_eq n.name y) 1 0 e) in omega arith)
            (λ e. let g = times-elsewhere n c r y e in
            let k : root_times (tree n c r) y ≡ 0 + root_times r y = ap (λ k. k + root_times r y) (cond-false (name_eq n.name y) 1 0 e) in omega arith)
