-- What an owner is told of the call of a listener.
use Rattle.dom_base.proofs.Std.{◌≡◌, List, [], ◌∷◌, ◌++◌, ℕ, sym, ap, ap₂, ◌∙◌, subst}
use Rattle.dom_base.specs.declared.Owner.{Owner}
use Rattle.dom_base.specs.declared.NodeName.{NodeName}
use Rattle.dom_model.specs.Names.{Word}
use Rattle.dom_model.specs.Command.{ListenerWords}
use Rattle.dom_model.specs.Listeners.{Visit, line_of}
use Rattle.dom_model.specs.Output.{Output, EventLine, says, event_seen}

-- the line of a call with these words and this path
abbrev pub line_with : Visit NodeName → Word → Word → List NodeName → EventLine NodeName
line_with v label event path =
    record { label = label; event = event; phase = v.phase; target = v.target; current = v.current; related = v.related; path = path }

-- that is the line of a call in a visit, where the words are the listener's and the path is the visit's
module _ (v : Visit NodeName) (w : ListenerWords) (label event : Word) (path : List NodeName) where
  line-same : label ≡ w.label → event ≡ w.event → path ≡ v.path → line_with v label event path ≡ line_of v w
  line-same l e p = ap₂ (λ m f. line_with v m f path) l e ∙ ap (λ q. line_with v w.label w.event q) p

module _ {A : Type 0} (adds : A → List Output → A → Type 0) (shows : A → List ℕ → Owner → List NodeName → Type 0)
    (more : (a b c : A) (xs ys : List Output) → adds a xs b → adds b ys c → adds a (xs ++ ys) c) where
  -- the path is made ready, and the call is told with it
  module _ (o : Owner) (v : Visit NodeName) (w : ListenerWords) (label event : Word) (path : List NodeName) (text t : List ℕ) (a b c : A)
      (l : label ≡ w.label) (e : event ≡ w.event) (p : path ≡ v.path) where
    pub told-with : t ≡ text → adds a [] b → shows b text o path →
        ((q : List NodeName) → shows b t o q → adds b (says o (event_seen (line_with v label event q)) ∷ []) c) →
        adds a (says o (event_seen (line_of v w)) ∷ []) c
    told-with is ready shown told =
        more a b c [] (says o (event_seen (line_of v w)) ∷ []) ready
        (subst (λ x. adds b (says o (event_seen x) ∷ []) c) (line-same v w label event path l e p)
        (told path (subst (λ s. shows b s o path) (sym is) shown)))
