-- Hosts that belong to less deep owners than their shadow roots: their shadow trees lie in one another as a path asks.
use Rattle.dom_path.proofs.Cited.{◌≡◌, ℕ, suc, ◌≤◌, ◌<◌, true, false, List, [], ◌∷◌, find, Option, Some, None, refl, sym, ap, ◌∙◌, arith, true≢false}
use Rattle.dom_path.proofs.Cited.{IsTrue, is_some, option_map, AllByRecursion, cond-true, cond-false, NodeName, name_eq, owner_depth, parent_of}
use Rattle.dom_path.proofs.Cited.{root_of, name_eq-same, name_eq-true, by_cases, NamedTrees, name_at, stays_own, ShadowHost, host_named, root_named}
use Rattle.dom_path.proofs.Cited.{ShadowTrees, shadows, IsHosted, IsAttached, AreApart, AreAttached, host_above_at}
use Rattle.dom_path.proofs.Places.{ends-all}

-- A host that is found by its root is one of the hosts.
record IsFound (names : List NodeName) (P : ShadowHost → Type 0) (root host : NodeName) : Type 0 where
  at : ShadowHost
  such : P at
  root_is : root ≡ name_at names at.root
  host_is : name_at names at.host ≡ host

found : (names : List NodeName) (P : ShadowHost → Type 0) (root : NodeName) {host : NodeName} (hosts : List ShadowHost) → AllByRecursion P hosts →
    host_named names hosts root ≡ Some host
    → IsFound names P root host
found names P root [] all e = cc
found names P root {host} (h ∷ hosts) all e =
    by_cases (name_eq root (name_at names h.root))
    (λ t. let both : Some (name_at names h.host) ≡ Some host = sym
    (ap (option_map (λ (k : ShadowHost). name_at names k.host))
    (cond-true (name_eq root (name_at names h.root)) (Some h) (find (λ (k : ShadowHost). name_eq root (name_at names k.root)) hosts) t)) ∙ e in
    record { at = h; such = all.0; root_is = name_eq-true root (name_at names h.root) t; host_is = cc })
    (λ t. found names P root hosts all.1
    (sym (ap (option_map (λ (k : ShadowHost). name_at names k.host))
    (cond-false (name_eq root (name_at names h.root)) (Some h) (find (λ (k : ShadowHost). name_eq root (name_at names k.root)) hosts) t)) ∙ e))

-- Where no two hosts have one root, a host is that of its root.
theirs-apart : (names : List NodeName) (host root : NodeName) (hosts : List ShadowHost) → AreApart names hosts →
    root_named names hosts host ≡ Some root → host_named names hosts root ≡ Some host
theirs-apart names host root [] apart e = cc
theirs-apart names host root (h ∷ hosts) apart e =
    by_cases (name_eq host (name_at names h.host))
    (λ t.
    let both : Some (name_at names h.root) ≡ Some root =
    sym (ap (option_map (λ (k : ShadowHost). name_at names k.root))
    (cond-true (name_eq host (name_at names h.host)) (Some h) (find (λ (k : ShadowHost). name_eq host (name_at names k.host)) hosts) t)) ∙
    e in
    let same : name_at names h.root ≡ root = cc in
    let test : name_eq root (name_at names h.root) ≡ true = ap (name_eq root) same ∙ name_eq-same root in
    ap (option_map (λ (k : ShadowHost). name_at names k.host))
    (cond-true (name_eq root (name_at names h.root)) (Some h) (find (λ (k : ShadowHost). name_eq root (name_at names k.root)) hosts) test)
    ∙ ap Some (sym (name_eq-true host (name_at names h.host) t)))
    (λ t.
    let rest : root_named names hosts host ≡ Some root =
    sym (ap (option_map (λ (k : ShadowHost). name_at names k.root))
    (cond-false (name_eq host (name_at names h.host)) (Some h) (find (λ (k : ShadowHost). name_eq host (name_at names k.host)) hosts) t))
    ∙ e in
    let among = theirs-apart names host root hosts apart.1 rest in
    let k = found names (λ k. name_eq (name_at names k.root) (name_at names h.root) ≡ false) root hosts apart.0 among in
    let test : name_eq root (name_at names h.root) ≡ false = ap (λ y. name_eq y (name_at names h.root)) k.root_is ∙ k.such in
    ap (option_map (λ (k : ShadowHost). name_at names k.host))
    (cond-false (name_eq root (name_at names h.root)) (Some h) (find (λ (k : ShadowHost). name_eq root (name_at names k.root)) hosts) test)
    ∙ among)

module _ (f : NamedTrees) (hosts : List ShadowHost) (depth : ℕ) (are : AreAttached f hosts depth) where
  abbrev s : ShadowTrees
  s = shadows f hosts

  -- a node with a host above is deeper than it
  deeper : (x host : NodeName) → host_above_at s x ≡ Some host → (owner_depth host.owner < owner_depth x.owner) × (owner_depth x.owner ≤ depth)
  deeper x host e =
      let k = found f.names (IsAttached f depth) (root_of f.trees x) hosts are.each e in
      let own = ap owner_depth (sym (stays_own f.trees are.owned x.owner x refl).root ∙ ap (λ (y : NodeName). y.owner) k.root_is ∙ k.such.owned) in
      let its = ap (λ (y : NodeName). owner_depth y.owner) k.host_is in
      let less = k.such.deeper in
      let within = k.such.within in
      (omega (arith, own, its, less), omega (arith, own, within))

  roots : (root : NodeName) → IsTrue (is_some (host_named f.names hosts root)) → parent_of f.trees root ≡ None
  roots root h = by (host_named f.names hosts root) refl h
    where
      by : (o : Option NodeName) → host_named f.names hosts root ≡ o → IsTrue (is_some o) → parent_of f.trees root ≡ None
      by None e k = absurd (true≢false (sym k))
      by (Some host) e k = let at = found f.names (IsAttached f depth) root hosts are.each e in ap (parent_of f.trees) at.root_is ∙ at.such.alone

  pub attached-hosted : IsHosted f hosts depth
  attached-hosted = record {
    nested = ends-all s (λ x host e. (deeper x host e).0) depth (λ x host e. (deeper x host e).1);
    theirs = λ host root e. theirs-apart f.names host root hosts are.apart e;
    roots = roots;
  }
