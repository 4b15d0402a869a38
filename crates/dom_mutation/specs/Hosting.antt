-- How a list of hosts and what is held belong together; signals, node documents and attaching in what is held; and the
-- steps and plans that stay in their owner's part.
use Rattle.std.specs.Prelude.{◌≡◌, ◌≢◌, ℕ, zero, suc, ◌<◌, false, List, [], ◌∷◌, ◌++◌, map, filter, fold, find, length, Option, None, option_map}
use Rattle.std.specs.List.{AllByRecursion}
use Rattle.std.specs.Option.{option_map_or}
use Rattle.dom_base.specs.declared.Kind.TheVariants.{Shadow}
use Rattle.dom_base.specs.declared.NodeName.{NodeName}
use Rattle.dom_base.specs.declared.Owner.{Owner}
use Rattle.dom_base.specs.declared.Owner.TheVariants.{Page}
use Rattle.dom_base.specs.declared.TheConstants.{MAX_COMPONENTS}
use Rattle.dom_model.specs.Names.{name_eq, owner_eq, append_once, max_depth}
use Rattle.dom_model.specs.Tree.{Trees, none, kind_of, parent_of, root_of}
use Rattle.dom_model.specs.TreeChanges.{with_node, change_subtree, with_document}
use Rattle.dom_model.specs.DocumentMachine.{new_root}
use Rattle.dom_model.specs.Changes.{Plan}
use Rattle.dom_model.specs.Part.{Part}
use Rattle.dom_model.specs.Steps.{Step, set_document, after}
use Rattle.dom_model.specs.WorldSteps.{world_after}
use Rattle.dom_model.specs.World.{World, MayAttach, component_made, shadow_root_of, part_of, is_there, queued_notify}
use Rattle.dom_slots.specs.Hosts.{ShadowHost, HostsAreNodes}
use Rattle.dom_slots.specs.Shadows.{ShadowTrees, shadow_trees}
use Rattle.dom_mutation.specs.Documents.{roots_within}
use Rattle.dom_tree.specs.Forest.{NamedTrees, name_at}
use Rattle.dom_tree.specs.Owners.{AreOf, AreOwned, trees_of_owner}
use Rattle.dom_mutation.specs.Contents.{Contents, no_tables, world_of}

-- ---- hosts

-- who attached a host's shadow root: the owner of the host (own rule)
abbrev pub maker_of : List NodeName → ShadowHost → Owner
maker_of names h = (name_at names h.host).owner

-- an owner's hosts, in the order of attaching (own rule)
abbrev pub hosts_of : List NodeName → List ShadowHost → Owner → List ShadowHost
hosts_of names hosts o = filter (λ h. owner_eq (maker_of names h) o) hosts

-- a host behind earlier ones: its shadow root is node 0 of its maker's next component, of which there may be so many (own rule)
pub record IsMadeAs (names : List NodeName) (earlier : List ShadowHost) (h : ShadowHost) : Type 0 where
  pub maker : MayAttach (maker_of names h)
  pub few : length (hosts_of names earlier (maker_of names h)) < MAX_COMPONENTS
  pub owner : h.owner ≡ component_made (maker_of names h) (length (hosts_of names earlier (maker_of names h)))
  pub root : name_at names h.root ≡ shadow_root_of h.owner

-- hosts behind earlier ones, in order (own rule)
abbrev pub AreMadeBehind : List NodeName → List ShadowHost → List ShadowHost → Type 0
AreMadeBehind names earlier [] = Unit {0}
AreMadeBehind names earlier (h ∷ hosts) = IsMadeAs names earlier h × AreMadeBehind names (earlier ++ h ∷ []) hosts

-- the names of the hosts (DOM Standard, concept: shadow host)
abbrev pub host_names : List NodeName → List ShadowHost → List NodeName
host_names names hosts = map (λ h. name_at names h.host) hosts

-- the components to which the shadow roots belong (own rule)
abbrev pub host_owners : List ShadowHost → List Owner
host_owners hosts = map (λ h. h.owner) hosts

-- the nodes of an owner that are hosts, in the order of attaching (DOM Standard, concept: shadow host)
abbrev pub attached_of : List NodeName → List ShadowHost → Owner → List NodeName
attached_of names hosts o = host_names names (hosts_of names hosts o)

-- the component whose shadow root was attached to a node (DOM Standard, concept: shadow host)
abbrev pub component_named : List NodeName → List ShadowHost → NodeName → Option Owner
component_named names hosts x = option_map (λ h. h.owner) (find (λ h. name_eq x (name_at names h.host)) hosts)

-- What is held has just these hosts: the owners are the page and one component for each host, in the order of attaching; each
-- owner's table has the names of its hosts, and whoever is not there has none. Each tree is one owner's, and whoever is not there
-- has none (own rule).
pub record AreHostsOf (c : Contents) (hosts : List ShadowHost) : Type 0 where
  pub owners : c.owners ≡ Page ∷ host_owners hosts
  pub made : AreMadeBehind c.names [] hosts
  pub nodes : HostsAreNodes c.names hosts
  pub attached : (o : Owner) → (c.tables o).attached ≡ attached_of c.names hosts o
  pub unhosted : (o : Owner) → is_there (world_of c) o ≡ false → (c.tables o).attached ≡ []
  pub owned : AreOwned c.trees
  pub absent : (o : Owner) → is_there (world_of c) o ≡ false → trees_of_owner o c.trees ≡ none

-- a shadow root stands in its tree as one, and has no parent (DOM Standard, 4.2.2 Shadow tree)
pub record IsShadowRoot (ts : Trees) (x : NodeName) : Type 0 where
  pub kind : kind_of ts x ≡ Shadow
  pub top : parent_of ts x ≡ None

-- so do those of all hosts (own rule)
abbrev pub AreShadowRoots : Trees → List ShadowHost → Type 0
AreShadowRoots ts [] = Unit {0}
AreShadowRoots ts (h ∷ hosts) = IsShadowRoot ts (shadow_root_of h.owner) × AreShadowRoots ts hosts

-- the trees that are held, with these hosts (own rule)
abbrev pub shadows_in : Contents → List ShadowHost → ShadowTrees
shadows_in c hosts = shadow_trees c.names c.trees hosts

-- the root to which one comes from a root by going up from host to host, so often at most: each time to the root of the
-- host's tree (DOM Standard, concept: shadow-including root)
abbrev pub outermost_root : ShadowTrees → ℕ → NodeName → NodeName
outermost_root s zero r = r
outermost_root s (suc depth) r = option_map_or (λ h. outermost_root s depth (root_of s.trees h)) (s.host_of r) r

-- ---- signals

-- a slot is signalled: it is kept, once, and its owner's notification is queued (DOM Standard, concept: signal a slot
-- change)
abbrev pub signal_in : Contents → NodeName → Contents
signal_in c s = record c { signalled = append_once name_eq c.signalled s; tasks = queued_notify s.owner c.tasks }

-- slots are signalled, one after another (own rule)
abbrev pub signals_in : Contents → List NodeName → Contents
signals_in c ss = fold signal_in c ss

-- ---- node documents

-- the trees that are held, with the names of the nodes (own rule)
abbrev pub forest_in : Contents → NamedTrees
forest_in c = record { names = c.names; trees = c.trees }

-- a node and all below it get a node document (DOM Standard, concept: node document)
abbrev pub document_in : NodeName → Contents → NodeName → Contents
document_in d c x = record c { trees = change_subtree (with_document d) x c.trees }

-- so do the shadow trees of the hosts in it, and of those in these, as deep as there are (DOM Standard, concept: adopt)
abbrev pub documents_in : NodeName → Contents → List ShadowHost → NodeName → Contents
documents_in d c hosts x = fold (document_in d) (document_in d c x) (roots_within max_depth (forest_in c) hosts x)

-- ---- an owner's steps in its own part

-- a step sets the node documents of the owner's own nodes alone (own rule)
abbrev pub SetsOwnDocuments : Owner → Step → Type 0
SetsOwnDocuments o (set_document x d) = x.owner ≡ o
SetsOwnDocuments o s = Unit {0}

-- an owner with its own nodes alone: its steps, where they set the node documents of its own nodes alone, do in its part
-- what they do in a part alone (own rule)
pub record IsAlone (w : World) (o : Owner) : Type 0 where
  pub own : AreOf o (part_of w o).trees
  pub steps : (steps : List Step) → AllByRecursion (SetsOwnDocuments o) steps → part_of (world_after o w steps) o ≡ after (part_of w o) steps

-- ---- attaching

-- what is held, with one host more: a node gets a shadow root, node 0 of a new component of its owner, under this node document
-- (own rule; DOM Standard, concept: attach a shadow root)
pub record IsAttached (a b : Contents) (c : Owner) (x : NodeName) (d : Option NodeName) : Type 0 where
  pub owners : b.owners ≡ a.owners ++ c ∷ []
  pub names : b.names ≡ a.names ++ shadow_root_of c ∷ []
  pub trees : b.trees ≡ with_node (new_root (shadow_root_of c) Shadow d) a.trees
  pub maker : b.tables x.owner ≡ record (a.tables x.owner) { attached = (a.tables x.owner).attached ++ x ∷ [] }
  pub new : b.tables c ≡ no_tables
  pub rest : (q : Owner) → q ≢ x.owner → q ≢ c → b.tables q ≡ a.tables q
  pub signalled : b.signalled ≡ a.signalled
  pub tasks : b.tasks ≡ a.tasks

-- a part that is this owner's, with its own nodes alone (own rule)
pub record IsOwnPart (o : Owner) (p : Part) : Type 0 where
  pub owner : p.owner ≡ o
  pub own : AreOf o p.trees

-- a plan sets the node documents of the owner's own nodes alone, in each part of its own (own rule)
abbrev pub PlansOwn : Owner → Plan → Type 0
PlansOwn o f = (p : Part) → IsOwnPart o p → AllByRecursion (SetsOwnDocuments o) (f p)
