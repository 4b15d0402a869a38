-- A document of two widgets, whose components have numbers that no script gives.
use Rattle.std.specs.Prelude.{◌≡◌, ℕ, Bool, not, List, [], ◌∷◌, map, Option, None, option_map}
use Rattle.dom_base.specs.declared.Owner.{Owner}
use Rattle.dom_base.specs.declared.Owner.TheVariants.{Page, Component}
use Rattle.dom_base.specs.Owners.{longer_path, no_path}
use Rattle.dom_model.specs.Command.{EventWords}
use Rattle.dom_model.specs.Listeners.{Listener}
use Rattle.dom_model.specs.Paths.{View}
use Rattle.dom_model.specs.Tree.{parent_of}
use Rattle.dom_tree.specs.Forest.{NamedTrees, name_at}
use Rattle.dom_tree.specs.Owners.{HaveOwners}
use Rattle.dom_slots.specs.Hosts.{ShadowHost}
use Rattle.dom_slots.specs.Shadows.{shadows}
use Rattle.dom_path.specs.Items.{view_named}
use Rattle.dom_path.specs.Paths.{AreViews}
use Rattle.dom_dispatch.specs.Kept.{dispatch_along}

-- the component whose word has one number
abbrev pub numbered : ℕ → Owner
numbered n = Component (longer_path no_path n)

-- Each tree has one owner; the hosts are nodes of the page, and their shadow roots are of the components with the numbers 7 and 3, without a parent.
pub record AreWidgets (f : NamedTrees) (hosts : List ShadowHost) : Type 0 where
  pub first : ℕ
  pub second : ℕ
  pub seven : ℕ
  pub three : ℕ
  pub hosts_are : hosts ≡ record { host = first; root = seven; owner = numbered 7 } ∷ record { host = second; root = three; owner = numbered 3 } ∷ []
  pub owners : HaveOwners f.trees
  pub first_owner : (name_at f.names first).owner ≡ Page
  pub second_owner : (name_at f.names second).owner ≡ Page
  pub seven_owner : (name_at f.names seven).owner ≡ numbered 7
  pub three_owner : (name_at f.names three).owner ≡ numbered 3
  pub seven_alone : parent_of f.trees (name_at f.names seven) ≡ None
  pub three_alone : parent_of f.trees (name_at f.names three) ≡ None

-- an event is answered as its listeners do, called with what it shows along its path through the widgets
pub record IsAnswered (f : NamedTrees) (hosts : List ShadowHost) (listeners : List (Listener ℕ)) (target : ℕ) (related : Option ℕ)
    (e : EventWords) (answer : Bool) : Type 0 where
  pub shown : List (View ℕ)
  pub views : AreViews (shadows f hosts) 1 (name_at f.names target) (option_map (name_at f.names) related) e.composed (map (view_named f.names) shown)
  pub answer_is : answer ≡ not (dispatch_along listeners e shown).cancelled
