-- What a call of a `Doc` leaves is ready, by what its contract says of the world.
use Rattle.dom_mutation.proofs.Cited.{◌≡◌, ◌↔◌, ◌<◌, ℕ, zero, suc, Bool, true, false, true≢false, List, [], ◌∷◌, length, Option, Some, Ok, Err, refl, sym, ap}
use Rattle.dom_mutation.proofs.Cited.{⊤, IfErr, ◌∙◌, subst, OnOk, OnErr, IfOk, Result, IsTrue, is_some, slice_get, slice_set, AllByRecursion, option_flatten}
use Rattle.dom_mutation.proofs.Cited.{on_ok_weaker, NodeName, Owner, Refusal, IndexSize, Plan, doing, Command, NodeWord, own, effect, named, past_end, node_of}
use Rattle.dom_mutation.proofs.Cited.{Value, Said, nothing, Part, first_node, range_at, Range, Step, make, set_document, set_range, part_step, after, Trees}
use Rattle.dom_mutation.proofs.Cited.{Node, has_node, is_shadow, World, part_of, owner-part_of, owner-part_step, part_of-stepped, EndsWithin, EndsIn, IsNodeIn}
use Rattle.dom_mutation.proofs.Cited.{IsPart, Fits, MadeIn, DocState, Makes, MakesSaying, made, planned, stepped, name_in, owner_in, trees_in, IsAlone}
use Rattle.dom_mutation.proofs.Cited.{SetsOwnDocuments, IsReadyPart, AreReady, IsReady, MayStand}
use Rattle.dom_mutation.proofs.ReadyPlans.{KeepReady, ready-make, ready-set_range}
use Rattle.dom_mutation.proofs.ReadyTables.{ReadyEffect, ready-makes}
use Rattle.dom_mutation.proofs.ReadyWorlds.{ready-made}

-- steps that fit set the owner's own node documents
own-documents : (o : Owner) (p : Part) (steps : List Step) → p.owner ≡ o → MadeIn p steps → AllByRecursion (SetsOwnDocuments o) steps
own-documents o p [] e m = tt
own-documents o p (s ∷ steps) e m = (mine p s e m.0, own-documents o (part_step p s) steps (owner-part_step p s ∙ e) m.1)
  where
    mine : (p : Part) (s : Step) → p.owner ≡ o → Fits p s → SetsOwnDocuments o s
    mine p (set_document x d) e f = f ∙ e
    mine p s e f = tt

-- A call begins with b and leaves e: where it is refused, as it was.
pub or-same : {X E : Type 0} (m : Result X E) (b e : DocState) → OnErr m (e ≡ b) → IsReady b → OnOk m (IsReady e) → IsReady e
or-same (Ok x) b e same h done = done
or-same (Err y) b e same h none = subst IsReady (sym same) h

-- The laws of a `Doc`.
pub record HasLaws (d : DocState) : Type 0 where
  pub alone : (k : ℕ) → k < length d.names → IsAlone d.world (owner_in d k)
  pub parts : (o : Owner) → IsPart (part_of d.world o)
  pub stand : (k : ℕ) → k < length d.names → has_node (trees_in d k) (name_in d k) ≡ true

module _ (d : DocState) (k : ℕ) (o : Owner) (plan : Plan) (now : World) (laws : HasLaws d) (there : k < length d.names) (mine : owner_in d k ≡ o)
    (e : now ≡ made o plan d.world) where
  -- The world after the plan of an owner of nodes.
  pub ready-planned : IsReady d →
      (IsPart (part_of d.world o) → IsReadyPart (part_of d.world o) → KeepReady (part_of d.world o) (plan (part_of d.world o))) → AreReady now
  ready-planned h keep =
      let p = part_of d.world o in
      subst AreReady (sym e)
      (ready-made d.world o plan laws.parts h
      (λ m. (subst (IsAlone d.world) mine (laws.alone k there)).steps (plan p) (own-documents o p (plan p) (owner-part_of d.world o) m))
      (keep (laws.parts o) (h o)))

  -- and the owner's part is what the plan leaves of it
  pub part-planned : MadeIn (part_of d.world o) (plan (part_of d.world o)) → part_of now o ≡ after (part_of d.world o) (plan (part_of d.world o))
  part-planned m =
      let p = part_of d.world o in
      ap (λ (w : World). part_of w o) e ∙ (subst (IsAlone d.world) mine (laws.alone k there)).steps (plan p)
      (own-documents o p (plan p) (owner-part_of d.world o) m)

-- A node stands in its owner's trees.
pub stands-in : (d : DocState) (k : ℕ) (o : Owner) → HasLaws d → k < length d.names → owner_in d k ≡ o →
    IsTrue (has_node (part_of d.world o).trees (name_in d k))
stands-in d k o laws there mine = subst (λ (q : Owner). IsTrue (has_node (part_of d.world q).trees (name_in d k))) mine (laws.stand k there)

-- A call begins with b, which is what the `Doc` shows as d, and leaves e. Here it makes a plan of a node's owner.
module _ (b d e : DocState) (same : b ≡ d) (laws : HasLaws b) (k : ℕ) (there : k < length d.names) (plan : DocState → Plan) where
  abbrev Keeps : Type 0
  Keeps = HasLaws d → IsPart (part_of d.world (owner_in d k)) → IsReadyPart (part_of d.world (owner_in d k)) →
      KeepReady (part_of d.world (owner_in d k)) (plan d (part_of d.world (owner_in d k)))

  -- all that it does is the plan
  pub plan-done : Keeps → e.world ≡ made (owner_in b k) (plan b) b.world → IsReady b → IsReady e
  plan-done keep w h =
      ready-planned d k (owner_in d k) (plan d) e.world (subst HasLaws same laws) there refl
      (subst (λ (a : DocState). e.world ≡ made (owner_in a k) (plan a) a.world) same w) (subst IsReady same h) (keep (subst HasLaws same laws))

  pub planned-done : Keeps → e ≡ planned (owner_in b k) (plan b) b → IsReady b → IsReady e
  planned-done keep is = plan-done keep (ap (λ (s : DocState). s.world) is)

-- Here it changes an owner's tables alone.
module _ (b e : DocState) (o : Owner) (c : Command) (h : IsReady b) (keep : IsReadyPart (part_of b.world o) → ReadyEffect (effect (part_of b.world o) c)) where
  pub table-ready : {lines : List Said} {v : Value} → MakesSaying o c lines v b.world e.world → IsReady e
  table-ready m = ready-makes o c b.world m h (keep (h o))

  -- from what it answers
  pub table-answered : {X E : Type 0} (m : Result X E) (v : X → Value) → IfOk m (λ x. Makes o c (v x) b.world e.world) → OnErr m (e ≡ b) → IsReady e
  table-answered (Ok x) v w same = table-ready w
  table-answered (Err y) v w same = subst IsReady (sym same) h

-- a node is spelled by its number
named-own : (w : World) (o : Owner) (x : NodeName) → x.owner ≡ o → named (part_of w o) (own x.number) ≡ x
named-own w o x is = ap (λ (q : Owner). node_of q x.number) (owner-part_of w o ∙ sym is)

-- An owner's first node is there.
pub record HasFirst (d : DocState) (o : Owner) : Type 0 where
  pub first : ℕ
  pub there : first < length d.names
  pub named : name_in d first ≡ node_of o 0

-- A new range stands at its owner's first node.
pub at_first : (d : DocState) (o : Owner) → HasLaws d → HasFirst d o → IsNodeIn (part_of d.world o).trees (first_node (part_of d.world o))
at_first d o laws f =
    let at : IsNodeIn (part_of d.world o).trees (node_of o 0) =
    subst (λ (y : NodeName). IsNodeIn (part_of d.world y.owner).trees y) f.named (laws.stand f.first f.there) in
    subst (λ (q : Owner). IsNodeIn (part_of d.world o).trees (node_of q 0)) (sym (owner-part_of d.world o)) at

-- where the offset is not past the node's end
within-done : {X P Q : Type 0} (m : Result X Refusal) (past : Bool) → (m ≡ Err IndexSize) ↔ (past ≡ true) → (past ≡ false → P → Q) → OnOk m P → OnOk m Q
within-done (Err r) past h f p = tt
within-done (Ok x) false h f p = f refl p
within-done (Ok x) true h f p = let e : Ok x ≡ Err IndexSize = h.1 refl in absurd cc

-- what a call says that sets an end of a live range by an owner's command, or is refused as the offset is past the node's end
pub record SetsEnd (o : Owner) (c : Command) (node offset : ℕ) (r : Result ⊤ Refusal) (was now : DocState) : Type 0 where
  pub names : now.names ≡ was.names
  pub world : OnOk r (Makes o c nothing was.world now.world)
  pub refused : (r ≡ Err IndexSize) ↔ (past_end (part_of was.world o) (name_in was node) offset ≡ true)
  pub other : IfErr r (λ refusal. refusal ≡ IndexSize)
  pub err : OnErr r (now ≡ was)

-- A live range gets another end, at an offset in a node of its owner.
module _ (d e : DocState) (laws : HasLaws d) (o : Owner) (k offset : ℕ) (there : k < length d.names) (mine : owner_in d k ≡ o) (h : IsReady d) where
  abbrev p : Part
  p = part_of d.world o

  -- the node as the command names it
  abbrev x : NodeName
  x = named p (own (name_in d k).number)

  here : IsNodeIn p.trees x
  here = subst (IsNodeIn p.trees) (sym (named-own d.world o (name_in d k) mine)) (stands-in d k o laws there mine)

  within : past_end p (name_in d k) offset ≡ false → past_end p x offset ≡ false
  within low = ap (λ y. past_end p y offset) (named-own d.world o (name_in d k) mine) ∙ low

  pub end-set : (number : ℕ) (c : ℕ → NodeWord → ℕ → Command) → ((q : Part) → IsReadyPart q → (n : ℕ) (y : NodeWord) (i : ℕ) → IsPart q →
      IsNodeIn q.trees (named q y) → past_end q (named q y) i ≡ false → ReadyEffect (effect q (c n y i))) →
      {m : Result (Unit {0}) Refusal} → SetsEnd o (c number (own (name_in d k).number) offset) k offset m d e → IsReady e
  end-set number c ready {m} says =
      let word = own (name_in d k).number in
      or-same m d e says.err h
      (within-done {P = Makes o (c number word offset) nothing d.world e.world} {Q = IsReady e} m (past_end p (name_in d k) offset) says.refused
      (λ low n. table-ready d e o (c number word offset) h (λ r. ready p r number word offset (laws.parts o) here (within low)) {lines = []} {v = nothing} n)
      says.world)

-- So do these calls.
module _ (b e : DocState) (laws : HasLaws b) (h : IsReady b) where
  -- A range gets ends that may stand.
  pub range-put : (o : Owner) (k : ℕ) (r : Range NodeName) → e ≡ stepped o (set_range k r) b → MayStand (part_of b.world o).trees r → IsReady e
  range-put o k r is may =
      subst AreReady (sym (ap (λ (s : DocState). s.world) is))
      (ready-made b.world o (doing (set_range k r)) laws.parts h (λ m. part_of-stepped b.world o (set_range k r))
      (ready-set_range (part_of b.world o) (laws.parts o) (h o) k r may.ends may.start may.end))

  -- A new node of an owner, no shadow root.
  pub node-made : (o : Owner) (n : Node) → is_shadow n.kind ≡ false → {X E : Type 0} (m : Result X E) → OnOk m (e.world ≡ made o (doing (make n)) b.world) →
      OnErr m (e ≡ b) → IsReady e
  node-made o n plain m w err =
      or-same m b e err h
      (on_ok_weaker m
      (λ v. subst AreReady (sym v)
      (ready-made b.world o (doing (make n)) laws.parts h (λ g. part_of-stepped b.world o (make n))
      (ready-make (part_of b.world o) (laws.parts o) (h o) n plain))) w)

-- A live range that is there may stand where it is put, if all is ready then.
pub stands-then : (e : DocState) (o : Owner) (k : ℕ) (r : Range NodeName) → is_some (range_at (part_of e.world o) k) ≡ true →
    IsReady (stepped o (set_range k r) e) → MayStand (part_of e.world o).trees r
stands-then e o k r there h =
    let now = subst IsReadyPart (part_of-stepped e.world o (set_range k r)) (h o) in
    at (part_of e.world o).trees (part_of e.world o).ranges k there now.ends now.bounds.ranges
  where
    at : (ts : Trees) (rs : List (Option (Range NodeName))) (k : ℕ) → is_some (option_flatten (slice_get rs k)) ≡ true →
        AllByRecursion (EndsIn ts) (slice_set rs k (Some r)) → AllByRecursion (EndsWithin ts) (slice_set rs k (Some r)) → MayStand ts r
    at ts [] k there ends within = absurd (true≢false (sym there))
    at ts (x ∷ rs) zero there ends within = record { ends = ends.0; start = within.0.0; end = within.0.1 }
    at ts (x ∷ rs) (suc k) there ends within = at ts rs k there ends.1 within.1
