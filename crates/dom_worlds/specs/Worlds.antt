-- What holds of every world that the document machine reaches.
use Rattle.std.specs.Prelude.{◌≡◌, ◌≢◌, ◌≤◌, ◌<◌, ℕ, Bool, true, false, [], IsTrue, Some, is_some, is_none, filter, if◌then◌else◌, ◌+◌, ⊤, zero, suc}
use Rattle.std.specs.Prelude.{List, ◌∷◌, ◌++◌, map, length, option_to_list}
use Rattle.std.specs.List.{AllByRecursion}
use Rattle.std.specs.Option.{option_map_or}
use Rattle.dom_base.specs.declared.Owner.{Owner}
use Rattle.dom_base.specs.declared.Owner.TheVariants.{Page, Component}
use Rattle.dom_base.specs.declared.NodeName.{NodeName}
use Rattle.dom_base.specs.declared.Kind.TheVariants.{Shadow, Element}
use Rattle.dom_base.specs.declared.Action.TheVariants.{Log}
use Rattle.dom_model.specs.Names.{name_eq, owner_eq, first_of, is_in}
use Rattle.dom_model.specs.Tree.{Trees, none, tree, Node, names_of, roots, times_in}
use Rattle.dom_model.specs.Listeners.{Listener}
use Rattle.dom_model.specs.Part.{Part}
use Rattle.dom_model.specs.World.{World, Task, micro_task, notify_task, part_of, is_there, component_made, made_by, MayAttach, host_of, shadow_root_of}
use Rattle.dom_model.specs.Turns.{is_page_turn}
use Rattle.dom_model.specs.PageMachine.{is_page_task}

-- A part's nodes have its owner and numbers below its count, and no two have one name.
pub record IsPart (p : Part) : Type 0 where
  pub unique : (x : NodeName) → times_in p.trees x ≤ 1
  pub owned : (x : NodeName) → 1 ≤ times_in p.trees x → x.owner ≡ p.owner
  pub numbered : (x : NodeName) → 1 ≤ times_in p.trees x → x.number < p.node_count

-- the node is the owner's
abbrev pub IsOf : Owner → NodeName → Type 0
IsOf o x = x.owner ≡ o

-- the node is another owner's
abbrev pub IsForeignTo : Owner → NodeName → Type 0
IsForeignTo o x = x.owner ≢ o

-- each node of a list of trees
abbrev pub AllNodes : (Node → Type 0) → Trees → Type 0
AllNodes P none = ⊤
AllNodes P (tree n children rest) = P n × AllNodes P children × AllNodes P rest

-- A component's first node is a shadow root, and has no parent.
abbrev pub IsShadowAt : NodeName → Node → Type 0
IsShadowAt x n = name_eq n.name x ≡ true → n.kind ≡ Shadow

-- the first node is a root, and a shadow root
pub record IsRoot (ts : Trees) (x : NodeName) : Type 0 where
  pub alone : IsTrue (is_in name_eq x (names_of (roots ts)))
  pub shadow : AllNodes (IsShadowAt x) ts

-- whoever has hosts may attach
abbrev pub HasMakers : World → Type 0
HasMakers w = (o : Owner) → 0 < length (part_of w o).attached → MayAttach o

-- The page is there; each part is as it should be; a host is a node of the owner that attached its root, and whoever has hosts may
-- attach; a component's first node is its shadow root; no slot of the page is signalled; and the page has tasks only in its own turn.
pub record IsWorld (w : World) : Type 0 where
  pub page : IsTrue (is_there w Page)
  pub parts : (o : Owner) → IsPart (part_of w o)
  pub hosts : (o : Owner) → AllByRecursion (IsOf o) (part_of w o).attached
  pub makers : HasMakers w
  pub shadow_roots : (o : Owner) → IsTrue (is_some (host_of w o)) → IsRoot (part_of w o).trees (shadow_root_of o)
  pub signalled : AllByRecursion (IsForeignTo Page) w.signalled
  pub tasks : is_page_turn w.turn ≡ false → filter is_page_task w.tasks ≡ []

-- a node of this name is an element
abbrev pub IsElementAt : NodeName → Node → Type 0
IsElementAt x n = name_eq n.name x ≡ true → n.kind ≡ Element

-- A host: a node that was made, and is an element.
pub record IsHost (p : Part) (x : NodeName) : Type 0 where
  pub made : x.number < p.node_count
  pub element : AllNodes (IsElementAt x) p.trees

-- an owner's node of this name may be a shadow root: the first node of a component
abbrev pub MayBeShadow : Owner → NodeName → Type 0
MayBeShadow Page x = ⊥
MayBeShadow (Component k) x = x ≡ shadow_root_of (Component k)

-- a node of an owner is a shadow root only under such a name
abbrev pub IsShadowOf : Owner → Node → Type 0
IsShadowOf o n = n.kind ≡ Shadow → MayBeShadow o n.name

-- how often a node is among others
abbrev pub times_among : List NodeName → NodeName → ℕ
times_among [] x = 0
times_among (y ∷ ys) x = (if name_eq y x then 1 else 0) + times_among ys x

-- No node of a part is a shadow root but a component's first one; and its hosts are elements, each once.
pub record HasKinds (p : Part) : Type 0 where
  pub shadows : AllNodes (IsShadowOf p.owner) p.trees
  pub hosts : AllByRecursion (IsHost p) p.attached
  pub once : (x : NodeName) → times_among p.attached x ≤ 1

-- the components of an owner's first n attaches, in order
abbrev pub components_of : Owner → ℕ → List Owner
components_of o zero = []
components_of o (suc n) = components_of o n ++ component_made o n ∷ []

-- whether an owner was made by another one
abbrev pub is_made_by : Owner → Owner → Bool
is_made_by maker o = option_map_or (λ (m : Owner × ℕ). owner_eq m.0 maker) (made_by o) false

-- whether nobody made an owner
abbrev pub is_unmade : Owner → Bool
is_unmade o = is_none (made_by o)

-- the owners of all parts, in their order
abbrev pub owners_in : World → List Owner
owners_in w = map (λ (p : Part). p.owner) w.parts

-- the owner has a part
abbrev pub IsThere : World → Owner → Type 0
IsThere w o = IsTrue (is_there w o)

-- the owner of a task
abbrev pub task_owner : Task → Owner
task_owner (micro_task o label) = o
task_owner (notify_task o) = o

-- The page's part is the first one, and no other part is of an owner that nobody made; of the components that an owner made
-- just those that it attached have their parts, in the order of attaching; the open turn, the tasks and the signalled slots are
-- of owners that are there.
pub record HasOwners (w : World) : Type 0 where
  pub first : first_of (owners_in w) ≡ Some Page
  pub unmade : filter is_unmade (owners_in w) ≡ Page ∷ []
  pub made : (o : Owner) → filter (is_made_by o) (owners_in w) ≡ components_of o (length (part_of w o).attached)
  pub turn : AllByRecursion (IsThere w) (option_to_list w.turn)
  pub tasks : AllByRecursion (λ t. IsThere w (task_owner t)) w.tasks
  pub signalled : AllByRecursion (λ s. IsThere w s.owner) w.signalled

-- The listeners of components neither stop nor cancel.
abbrev pub OnlyLogs : Listener NodeName → Type 0
OnlyLogs l = l.words.action ≡ Log

-- the listeners of all components neither stop nor cancel
abbrev pub ComponentsOnlyLog : World → Type 0
ComponentsOnlyLog w = (o : Owner) → o ≢ Page → AllByRecursion OnlyLogs (part_of w o).listeners
