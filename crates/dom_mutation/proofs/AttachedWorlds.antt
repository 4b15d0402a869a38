-- Attaching in the world of what is held with hosts: the component that is made was not there, the world is the one after
-- the command, and the list of hosts with the new one belongs to what is held then.
use Rattle.dom_mutation.proofs.Cited.{◌≡◌, ◌≢◌, ℕ, suc, ◌+◌, ◌<◌, ◌≤◌, Bool, true, false, cond, List, [], ◌∷◌, ◌++◌, Option, length, refl, sym, ap, subst, ◌∙◌}
use Rattle.dom_mutation.proofs.Cited.{◌⊎◌, inl, inr, arith, zero-add, if◌then◌else◌, cases_Bool, false_from_ne_true, length-map, length_push, map-append}
use Rattle.dom_mutation.proofs.Cited.{append-nil, append_assoc, sum_by-cons, same_Some, get_or-append_seam, Shadow, NodeName, Owner, Page, MAX_COMPONENTS}
use Rattle.dom_mutation.proofs.Cited.{owner_eq, node_of, none, tree, Node, node_in, with_node, new_root, part_with_root, attaching, Part, World, MayAttach}
use Rattle.dom_mutation.proofs.Cited.{with_part, is_there, component_made, made_by, shadow_root_of, owner_eq-true, owner_eq-false, owner_eq-same, ne-owner_eq}
use Rattle.dom_mutation.proofs.Cited.{made_by-made, component_made-no_page, ShadowHost, HostsAreNodes, name_at, count_of, AreOwned, IsOwnChange, trees_of_owner}
use Rattle.dom_mutation.proofs.Cited.{added, read_own, Contents, Tables, part_with, part_in, world_of, maker_of, hosts_of, IsMadeAs, AreMadeBehind, host_names}
use Rattle.dom_mutation.proofs.Cited.{attached_of, host_owners, AreHostsOf, IsAttached}
use Rattle.dom_mutation.proofs.Numbers.{count_more}
use Rattle.dom_mutation.proofs.HostedSteps.{KeepsNames, names_pushed, nodes_pushed, nodes_renamed, hosts_renamed, made_renamed, attached_renamed}
use Rattle.dom_mutation.proofs.HostedWorlds.{single_hosted}
use Rattle.dom_mutation.proofs.HostsOfOwners.{count_hosts, own-pushed, other-pushed, placed}
use Rattle.dom_mutation.proofs.Worlds.{In, In-push, In-end, there_in, in_there, there_same, part_at, changed, joined}

-- ---- the list of hosts

-- one host more
made_pushed : (names : List NodeName) (earlier hosts : List ShadowHost) (h : ShadowHost) → AreMadeBehind names earlier hosts →
    IsMadeAs names (earlier ++ hosts) h → AreMadeBehind names earlier (hosts ++ h ∷ [])
made_pushed names earlier [] h made one = (subst (λ gs. IsMadeAs names gs h) (append-nil earlier) one, tt)
made_pushed names earlier (g ∷ hosts) h made one =
    (made.0, made_pushed names (earlier ++ g ∷ []) hosts h made.1 (subst (λ gs. IsMadeAs names gs h) (sym (append_assoc earlier (g ∷ []) hosts)) one))

-- ---- counts

-- who has no name has none to count
pub count_none : (o : Owner) (names : List NodeName) → ((k : ℕ) → k < length names → (name_at names k).owner ≢ o) → count_of o names ≡ 0
count_none o [] other = refl
count_none o (x ∷ names) other =
    sum_by-cons (λ (y : NodeName). cond (owner_eq y.owner o) 1 0) x names
    ∙ (ap (λ b. cond b 1 0 + count_of o names) (ne-owner_eq x.owner o (other 0 (omega arith))) ∙
    (zero-add (count_of o names) ∙ count_none o names (λ k h. other (suc k) (omega arith))))

-- ---- the command

module _ (a : Contents) (hosts : List ShadowHost) (held : AreHostsOf a hosts) (m : Owner) (may : MayAttach m) where
  -- the component of the owner's next attach
  abbrev pub next_component : Owner
  next_component = component_made m (count_hosts a.names hosts m)

  -- is not there yet, nor is any later one
  pub component_absent : (k : ℕ) → count_hosts a.names hosts m ≤ k → is_there (world_of a) (component_made m k) ≡ false
  component_absent k later = false_from_ne_true _ (λ there. by (subst (In (component_made m k)) held.owners (there_in a (component_made m k) there)))
    where
      by : In (component_made m k) (Page ∷ host_owners hosts) → ⊥
      by (inl e) = component_made-no_page m k (sym e)
      by (inr i) =
          let p = placed a.names [] hosts (component_made m k) held.made i in
          let both = same_Some (p.maker, p.number) (m, k) (sym (made_by-made p.maker p.number p.may) ∙ (ap made_by p.made ∙ made_by-made m k may)) in
          let number : p.number ≡ k = ap (λ (q : Owner × ℕ). q.1) both in
          let below : p.number < 0 + count_hosts a.names hosts m =
          subst (λ (q : Owner). p.number < 0 + count_hosts a.names hosts q) (ap (λ (q : Owner × ℕ). q.0) both) p.below in
          omega (arith, number, below, later)

  pub component_new : is_there (world_of a) next_component ≡ false
  component_new = component_absent (count_hosts a.names hosts m) (omega arith)

  module _ (present : (k : ℕ) → k < length a.names → is_there (world_of a) (name_at a.names k).owner ≡ true) (b : Contents) (x : NodeName)
      (own : x.owner ≡ m) (there : is_there (world_of a) m ≡ true)
      (d : Option NodeName) (one : IsAttached a b (component_made m (count_hosts a.names hosts m)) x d) where
    abbrev root : Node
    root = new_root (shadow_root_of next_component) Shadow d

    new_change : IsOwnChange next_component (with_node (new_root (shadow_root_of next_component) Shadow d)) a.trees
    new_change = added a.trees held.owned next_component root refl

    pub counted_other : (q : Owner) → q ≢ next_component → count_of q b.names ≡ count_of q a.names
    counted_other q other =
        let count : count_of q b.names ≡ count_of q a.names + 0 =
        ap (count_of q) one.names ∙ (count_more q a.names (shadow_root_of next_component) ∙ ap (λ t. count_of q a.names + cond t 1 0)
        (ne-owner_eq next_component q (λ e. other (sym e)))) in
        omega (arith, count)

    pub counted_new : count_of next_component b.names ≡ 1
    counted_new =
        let count : count_of next_component b.names ≡ count_of next_component a.names + 1 =
        ap (count_of next_component) one.names ∙
        (count_more next_component a.names (shadow_root_of next_component) ∙ ap (λ t. count_of next_component a.names + cond t 1 0)
        (owner_eq-same next_component)) in
        let before = count_none next_component a.names (λ k h e. let on = sym (ap (is_there (world_of a)) e) ∙ present k h in let off = component_new in cc) in
        omega (arith, count, before)

    trees_new : trees_of_owner next_component b.trees ≡ tree root none none
    trees_new = ap (trees_of_owner next_component) one.trees ∙ (new_change.own ∙ ap (with_node root) (held.absent next_component component_new))

    trees_other : (q : Owner) → q ≢ next_component → trees_of_owner q b.trees ≡ trees_of_owner q a.trees
    trees_other q other = ap (trees_of_owner q) one.trees ∙ new_change.others q other

    -- the tables of the maker, and of others
    maker_tables : b.tables m ≡ record (a.tables m) { attached = (a.tables m).attached ++ x ∷ [] }
    maker_tables = subst (λ (o : Owner). b.tables o ≡ record (a.tables o) { attached = (a.tables o).attached ++ x ∷ [] }) own one.maker

    rest_tables : (q : Owner) → q ≢ m → q ≢ next_component → b.tables q ≡ a.tables q
    rest_tables q apart other = one.rest q (λ e. apart (e ∙ own)) other

    -- the maker's part marked, and no component yet
    abbrev marked : Contents
    marked = record a { tables = λ q. if owner_eq q m then b.tables m else a.tables q }

    abbrev marked_part : Part
    marked_part = record (part_in a m) { attached = (a.tables m).attached ++ x ∷ [] }

    marked_world : world_of marked ≡ with_part (world_of a) marked_part
    marked_world =
        changed a marked m (single_hosted a hosts held) there record {
          owners = refl;
          signalled = refl;
          tasks = refl;
          own = ap (λ (t : Bool). part_with m (trees_of_owner m a.trees) (count_of m a.names) (if t then b.tables m else a.tables m)) (owner_eq-same m) ∙
              ap (λ t. part_with m (trees_of_owner m a.trees) (count_of m a.names) t) maker_tables;
          others = λ q other. ap (λ (t : Bool). part_with q (trees_of_owner q a.trees) (count_of q a.names)
              (if t then b.tables m else a.tables q)) (ne-owner_eq q m other);
        }

    with_component : world_of b ≡ with_part (world_of marked) (part_in b next_component)
    with_component =
        joined marked b next_component (there_same marked a refl next_component ∙ component_new)
        record { owners = one.owners; signalled = one.signalled; tasks = one.tasks; others = others }
      where
        others : (q : Owner) → q ≢ next_component → part_in b q ≡ part_in marked q
        others q other =
            ap (λ us. part_with q us (count_of q b.names) (b.tables q)) (trees_other q other)
            ∙ (ap (λ n. part_with q (trees_of_owner q a.trees) n (b.tables q)) (counted_other q other) ∙
            ap (part_with q (trees_of_owner q a.trees) (count_of q a.names)) (by (cases_Bool (owner_eq q m))))
          where
            by : (owner_eq q m ≡ true) ⊎ (owner_eq q m ≡ false) → b.tables q ≡ (if owner_eq q m then b.tables m else a.tables q)
            by (inl e) = ap b.tables (owner_eq-true q m e) ∙ sym (ap (λ (t : Bool). if t then b.tables m else a.tables q) e)
            by (inr e) = rest_tables q (owner_eq-false q m e) other ∙ sym (ap (λ (t : Bool). if t then b.tables m else a.tables q) e)

    new_part : part_in b next_component ≡ part_with_root next_component Shadow d
    new_part =
        ap (λ us. part_with next_component us (count_of next_component b.names) (b.tables next_component)) trees_new
        ∙ (ap (λ n. part_with next_component (tree root none none) n (b.tables next_component)) counted_new ∙
        ap (part_with next_component (tree root none none) 1) one.new)

    -- how many the owner has attached before
    pub attached_count : count_hosts a.names hosts m ≡ length (a.tables m).attached
    attached_count = sym (ap length (held.attached m) ∙ length-map (hosts_of a.names hosts m) (λ h. name_at a.names h.host))

    -- the world after the command
    pub attached_world : d ≡ (node_in a.trees x).document → world_of b ≡ (attaching (world_of a) m x).0
    attached_world document =
        let after : Part → Owner → World =
        λ p c. with_part (with_part (world_of a) (record p { attached = p.attached ++ x ∷ [] }))
        (part_with_root c Shadow (node_in p.trees x).document) in
        with_component
        ∙ (ap (with_part (world_of marked)) new_part
        ∙ (ap (λ w. with_part w (part_with_root next_component Shadow d)) marked_world
        ∙ (ap (λ e. with_part (with_part (world_of a) marked_part) (part_with_root next_component Shadow e))
        (document ∙ ap (λ (n : Node). n.document) (read_own a.trees held.owned m x own).node)
        ∙ (ap (λ n. after (part_in a m) (component_made m n)) attached_count ∙ ap (λ p. after p (component_made m (length p.attached)))
        (sym (part_at a m there))))))

    -- the hosts then
    pub attached_hosts : (k : ℕ) → k < length a.names → name_at a.names k ≡ x → count_hosts a.names hosts m < MAX_COMPONENTS
        → AreHostsOf b (hosts ++ record { host = k; root = length a.names; owner = component_made m (count_hosts a.names hosts m) } ∷ [])
    attached_hosts k within is room =
        record {
          owners = one.owners ∙ (ap (λ os. os ++ next_component ∷ []) held.owners ∙
              ap (λ os. Page ∷ os) (sym (map-append (λ (g : ShadowHost). g.owner) hosts (h ∷ []))));
          made = made_pushed b.names [] hosts h (subst (λ ns. AreMadeBehind ns [] hosts) (sym one.names)
              (made_renamed a.names grown keeps [] hosts tt held.nodes held.made)) (subst (λ ns. IsMadeAs ns hosts h) (sym one.names) record {
                maker = subst MayAttach (sym host_maker) may;
                few = subst (λ n. n < MAX_COMPONENTS) (sym as_many) room;
                owner = sym (ap (λ (o : Owner). component_made o (count_hosts grown hosts (maker_of grown h))) host_maker ∙ ap (component_made m) as_many);
                root = get_or-append_seam a.names (shadow_root_of next_component) [] (node_of Page 0);
              });
          nodes = nodes_pushed b.names hosts h (subst (λ ns. HostsAreNodes ns hosts) (sym one.names) (nodes_renamed a.names grown keeps hosts held.nodes))
              (omega (arith, long, within)) (omega (arith, long));
          attached = λ q. attached_then q (cases_Bool (owner_eq q m)) (cases_Bool (owner_eq q next_component));
          unhosted = λ q off. ap (λ (t : Tables). t.attached) (rest_tables q (not_maker q off) (not_next q off)) ∙ held.unhosted q (off_before q off);
          owned = subst AreOwned (sym one.trees) new_change.owned;
          absent = λ q off. trees_other q (not_next q off) ∙ held.absent q (off_before q off);
        }
      where
        h : ShadowHost
        h = record { host = k; root = length a.names; owner = component_made m (count_hosts a.names hosts m) }

        grown : List NodeName
        grown = a.names ++ shadow_root_of next_component ∷ []

        keeps : KeepsNames a.names grown
        keeps = names_pushed a.names (shadow_root_of next_component)

        long : length b.names ≡ length a.names + 1
        long = ap length one.names ∙ length_push a.names (shadow_root_of next_component)

        host_name : name_at grown k ≡ x
        host_name = keeps.same k within ∙ is

        host_maker : maker_of grown h ≡ m
        host_maker = ap (λ (y : NodeName). y.owner) host_name ∙ own

        as_many : count_hosts grown hosts (maker_of grown h) ≡ count_hosts a.names hosts m
        as_many = ap (count_hosts grown hosts) host_maker ∙ ap length (hosts_renamed a.names grown keeps hosts m held.nodes)

        -- whoever is not there then was not there before, and is neither of the two
        off_before : (q : Owner) → is_there (world_of b) q ≡ false → is_there (world_of a) q ≡ false
        off_before q off = false_from_ne_true _
            (λ on. let then_on : is_there (world_of b) q ≡ true = in_there b q
            (subst (In q) (sym one.owners) (In-push q a.owners next_component (there_in a q on))) in cc)

        not_maker : (q : Owner) → is_there (world_of b) q ≡ false → q ≢ m
        not_maker q off e = let on = ap (is_there (world_of a)) e ∙ there in let gone = off_before q off in cc

        not_next : (q : Owner) → is_there (world_of b) q ≡ false → q ≢ next_component
        not_next q off e =
            let on : is_there (world_of b) q ≡ true =
            in_there b q (subst (In q) (sym one.owners)
            (subst (λ p. In p (a.owners ++ next_component ∷ [])) (sym e) (In-end a.owners next_component))) in
            cc

        -- the hosts of an owner who attached none
        others_hosts : (q : Owner) → q ≢ m → attached_of b.names (hosts ++ h ∷ []) q ≡ attached_of a.names hosts q
        others_hosts q apart =
            ap (λ ns. attached_of ns (hosts ++ h ∷ []) q) one.names
            ∙ (ap (host_names grown) (other-pushed grown hosts h q (ne-owner_eq (maker_of grown h) q (λ e. apart (sym e ∙ host_maker))))
            ∙ sym (attached_renamed a.names grown keeps hosts q held.nodes))

        attached_then : (q : Owner) → (owner_eq q m ≡ true) ⊎ (owner_eq q m ≡ false) → (owner_eq q next_component ≡ true) ⊎ (owner_eq q next_component ≡ false)
            → (b.tables q).attached ≡ attached_of b.names (hosts ++ h ∷ []) q
        attached_then q (inl e) new =
            let same = owner_eq-true q m e in
            ap (λ o. (b.tables o).attached) same
            ∙ (ap (λ (t : Tables). t.attached) maker_tables
            ∙ (ap (λ xs. xs ++ x ∷ []) (held.attached m ∙ attached_renamed a.names grown keeps hosts m held.nodes)
            ∙ (ap (λ y. attached_of grown hosts m ++ y ∷ []) (sym host_name)
            ∙ (sym (map-append (λ (g : ShadowHost). name_at grown g.host) (hosts_of grown hosts m) (h ∷ []))
            ∙ (sym (ap (host_names grown) (own-pushed grown hosts h m (ap (λ o. owner_eq o m) host_maker ∙ owner_eq-same m)))
            ∙ (sym (ap (λ ns. attached_of ns (hosts ++ h ∷ []) m) one.names) ∙ ap (attached_of b.names (hosts ++ h ∷ [])) (sym same)))))))
        attached_then q (inr e) (inl f) =
            let same = owner_eq-true q next_component f in
            ap (λ o. (b.tables o).attached) same
            ∙ (ap (λ (t : Tables). t.attached) one.new
            ∙ (sym (sym (held.attached next_component) ∙ held.unhosted next_component component_new)
            ∙ (ap (attached_of a.names hosts) (sym same) ∙ sym (others_hosts q (owner_eq-false q m e)))))
        attached_then q (inr e) (inr f) =
            ap (λ (t : Tables). t.attached) (rest_tables q (owner_eq-false q m e) (owner_eq-false q next_component f))
            ∙ (held.attached q ∙ sym (others_hosts q (owner_eq-false q m e)))
