-- How a command is handled: it passes the tests that all commands share, then it changes its owner's part and answers, or only answers.
use Rattle.dom_admission.proofs.Cited.{◌≡◌, ℕ, Bool, true, false, not, unwrap_or, List, [], ◌∷◌, ◌++◌, map, Option, Some, None, Result, Ok, Err, refl, sym, ap}
use Rattle.dom_admission.proofs.Cited.{subst, ◌∙◌, is_some, if◌then◌else◌, IsErrAnd, option_or}
use Rattle.dom_admission.proofs.Cited.{DocState, MakesSaying, made, name_in, owner_in, Operand, IsDone, IsHandled, let_pass, is_there_as, has_foreign}
use Rattle.dom_admission.proofs.Cited.{are_there, are_fitting, early_refusal, with_turn, turned, opened_turn, name_at}
use Rattle.dom_model.proofs.Model.{Fault, Refused, Memory, Refusal, Busy, Foreign, Unknown, WrongKind, NodeName, Owner, Plan, named, owner_eq, Effect, answers}
use Rattle.dom_model.proofs.Model.{changes, Output, says, replied, Said, Value, Part, empty_part, first_refusal, Run, Step, opening_turn, World, part_of}
use Rattle.dom_model.proofs.Model.{find_part, put_part, with_part, is_there, world_after, Command, NodeWord, effect, own_refusal, effect_in, refusal, accepted}
use Rattle.dom_model.proofs.Model.{is_busy, owner_eq-same, owner_eq-true}
use Rattle.dom_admission.proofs.Finding.{key_of}
use Rattle.dom_admission.proofs.Refusing.{IsNaming, refusal-naming}
use Rattle.dom_admission.proofs.Turned.{after_turned}
use Rattle.dom_base.proofs.Std.{and-true}

-- ---- the tests that all commands share

-- what holds where a line passes: its owner is there, and what it names is there and of the kinds that are asked for
pub record Passes (w : World) (o : Owner) (names : List Operand) : Type 0 where
  pub early : early_refusal w o names ≡ None
  pub owner : is_there w o ≡ true
  pub present : are_there (part_of w o) names ≡ true
  pub fitting : are_fitting (part_of w o) names ≡ true

-- a line that was let pass
pub passes : (w : World) (o : Owner) (names : List Operand) {r : Result (Unit {0}) Fault} → r ≡ let_pass (early_refusal w o names) → r ≡ Ok tt →
    Passes w o names
passes w o names is ok = record { early = none; owner = known.0; present = known.1; fitting = known.2 }
  where
    none : early_refusal w o names ≡ None
    none = by (early_refusal w o names) (sym is ∙ ok)
      where
        by : (e : Option Refusal) → let_pass e ≡ Ok tt → e ≡ None
        by None h = refl
        by (Some r) h = absurd cc

    cases : (busy foreign there present fitting : Bool) →
        first_refusal ((busy, Busy) ∷ (foreign, Foreign) ∷ (not there, Unknown) ∷ (not present, Unknown) ∷ (not fitting, WrongKind) ∷ []) ≡ None →
        (there ≡ true) × (present ≡ true) × (fitting ≡ true)
    cases false false true true true h = (refl, refl, refl)
    cases busy foreign there present fitting h = absurd cc

    known : (is_there w o ≡ true) × (are_there (part_of w o) names ≡ true) × (are_fitting (part_of w o) names ≡ true)
    known = cases (is_busy w o) (has_foreign names) (is_there w o) (are_there (part_of w o) names) (are_fitting (part_of w o) names) none

-- the one thing that it names is there
pub one_there : {w : World} {o : Owner} {n : Operand} → Passes w o (n ∷ []) → is_there_as (part_of w o) n ≡ true
one_there {w = w} {o = o} {n = n} p = sym (and-true (is_there_as (part_of w o) n)) ∙ p.present

-- In a state with these documents, a line that was let pass: what it names is so in the documents.
module _ (t : Option Owner) (d s : DocState) (seen : turned t d ≡ s) (o : Owner) (n : Operand) where
  pub thing_there : {r : Result (Unit {0}) Fault} → r ≡ let_pass (early_refusal s.world o (n ∷ [])) → r ≡ Ok tt → is_there_as (part_of d.world o) n ≡ true
  thing_there is ok = rw (← seen) at (one_there (passes s.world o (n ∷ []) is ok))

-- a line that doesn't pass is refused, and nothing is changed
module _ {S : Type 0} (adds : S → List Output → S → Type 0) (w : World) (o : Owner) (c : Command) (names : List Operand)
    (told : S) where
  pub refused : {f : Fault} {r : Result (Unit {0}) Fault} (q : Result (Unit {0}) Fault) → IsNaming o c names →
      r ≡ let_pass (early_refusal w o names) → r ≡ Err f → IsErrAnd q (λ e. e ≡ f) → IsHandled adds o c w w told told q
  refused (Ok x) naming is err h = absurd h
  refused (Err e) naming is err h =
      by (early_refusal w o names) (refusal-naming w o c names naming) e (sym is ∙ err ∙ ap Err (sym h))
    where
      by : (early : Option Refusal) → refusal w o c ≡ option_or early (own_refusal (part_of w o) c) → (e : Fault) → let_pass early ≡ Err e →
          IsHandled adds o c w w told told (Err e)
      by None is e h = absurd cc
      by (Some r) is (Refused k) h =
          let same : r ≡ k = cc in
          (is ∙ ap Some same, refl, refl)
      by (Some r) is Memory h = tt

-- a command that is refused by its own tests alone, of an owner who is there
pub record MayAct (w : World) (o : Owner) (c : Command) : Type 0 where
  pub own : refusal w o c ≡ own_refusal (part_of w o) c
  pub there : is_there w o ≡ true

-- where its line was let pass
module _ (w : World) (o : Owner) (c : Command) (names : List Operand) where
  pub may_act : {r : Result (Unit {0}) Fault} → IsNaming o c names →
      r ≡ let_pass (early_refusal w o names) → r ≡ Ok tt → MayAct w o c
  may_act naming is ok =
      let p = passes w o names is ok in
      record { own = refusal-naming w o c names naming ∙ ap (λ e. option_or e (own_refusal (part_of w o) c)) p.early; there = p.owner }

-- ---- the end of a command

-- what an accepted command of one part does
abbrev pub effecting : World → Owner → Command → Run World
effecting w o c = let u = opening_turn w o in effect_in u o (effect (part_of u o) c)

-- a refusal of a command's own, which changed nothing, or want of memory
module _ {S : Type 0} (adds : S → List Output → S → Type 0) (run : Run World) (old new : World) (told : S) where
  pub faulted : {own : Option Refusal} {f : Fault} (q : Result (Unit {0}) Fault) →
      IsErrAnd q (λ e. e ≡ f) → ((r : Refusal) → f ≡ Refused r → own ≡ Some r) → ((r : Refusal) → f ≡ Refused r → new ≡ old) →
      IsDone adds own run old new told told q
  faulted (Ok x) h own same = absurd h
  faulted (Err (Refused r)) h own same = (own r (sym h), same r (sym h), refl)
  faulted (Err Memory) h own same = tt

-- How a command ended: with this world, from what was answered before to what is answered after.
module _ {S : Type 0} (adds : S → List Output → S → Type 0) (new : World) (before after : S) (r : Result (Unit {0}) Fault) where
  -- what is done by a command that may act is its own refusal, or its run
  pub handled : {w : World} {o : Owner} {c : Command} → MayAct w o c → IsDone adds (own_refusal (part_of w o) c) (accepted w o c) w new before after r →
      IsHandled adds o c w new before after r
  handled {w = w} {o = o} {c = c} may done = subst (λ e. IsDone adds e (accepted w o c) w new before after r) (sym may.own) done

  -- a command without a refusal of its own does what its ending does
  pub finished : {own : Option Refusal} {run goal : Run World} (old mid : World) → own ≡ None → run ≡ goal →
      IsDone adds None run mid new before after r → IsDone adds own goal old new before after r
  finished {own = own} {run = run} {goal = goal} old mid none e done = by r done
    where
      by : (q : Result (Unit {0}) Fault) → IsDone adds None run mid new before after q → IsDone adds own goal old new before after q
      by (Ok x) h = (none, h.1 ∙ ap (λ (run : Run World). run.0) e, subst (λ (run : Run World). adds before run.1 after) e h.2)
      by (Err (Refused q)) h = let no : None ≡ Some q = h.0 in absurd cc
      by (Err Memory) h = tt

-- what comes after some answers comes after what was before them too, with these in front
abbrev pub Joins : {S : Type 0} → (S → List Output → S → Type 0) → Type 0
Joins {S = S} adds = (a b c : S) (xs ys : List Output) → adds a xs b → adds b ys c → adds a (xs ++ ys) c

-- a command that answers before its ending does
module _ {S : Type 0} (adds : S → List Output → S → Type 0) (more : Joins adds) (new : World) (before after : S) (r : Result (Unit {0}) Fault) where
  module _ {between : S} {own : Option Refusal} {goal : Run World} (old mid : World) (run : Run World) (lines : List Output) where
    said_before : own ≡ None → (run.0, lines ++ run.1) ≡ goal → adds before lines between → IsDone adds None run mid new between after r →
        IsDone adds own goal old new before after r
    said_before none e put h = by r h
      where
        by : (q : Result (Unit {0}) Fault) → IsDone adds None run mid new between after q → IsDone adds own goal old new before after q
        by (Ok x) h = (
          none,
          h.1 ∙ ap (λ (run : Run World). run.0) e,
          subst (λ (run : Run World). adds before run.1 after) e (more before between after lines run.1 put h.2),
        )
        by (Err (Refused q)) h = let no : None ≡ Some q = h.0 in absurd cc
        by (Err Memory) h = tt

-- ---- commands of one part

-- a turn is opened where none is open
pub opened : (t : Option Owner) (w : World) (o : Owner) → opening_turn (with_turn t w) o ≡ with_turn (opened_turn t o) w
opened None w o = refl
opened (Some x) w o = refl

-- what a command does in a world with an open turn, it does in the world alone
effect_turned : (t : Option Owner) (w : World) (o : Owner) (e : Effect) → effect_in (with_turn t w) o e ≡
    (with_turn t (effect_in w o e).0, (effect_in w o e).1)
effect_turned t w o (Effect.tables p lines v) = refl
effect_turned t w o (Effect.changes steps v) = ap (λ (u : World). (u, says o (replied v) ∷ [])) (after_turned t o w steps)

-- In a world with an open turn, a command of one part that has no refusal of its own: what it does there by what it does in the world alone.
module _ (t : Option Owner) (w mid : World) (o : Owner) (c : Command) where
  runs_turned : (reply : Value) (lines : List Said) → accepted (with_turn t w) o c ≡ effecting (with_turn t w) o c →
      (mid, map (says o) lines ++ says o (replied reply) ∷ []) ≡ effect_in w o (effect (part_of w o) c) →
      (opening_turn (with_turn t mid) o, map (says o) lines ++ says o (replied reply) ∷ []) ≡ accepted (with_turn t w) o c
  runs_turned reply lines runs does =
      let e = effect (part_of w o) c in
      let run : Run World → Run World = λ q. (with_turn (opened_turn t o) q.0, q.1) in
      ap (λ (u : World). (u, map (says o) lines ++ says o (replied reply) ∷ [])) (opened t mid o) ∙ ap run does
      ∙ sym (runs ∙ ap (λ (u : World). effect_in u o (effect (part_of u o) c)) (opened t w o) ∙ effect_turned (opened_turn t o) w o e)

-- In a state with these documents, a command of one part that is not refused.
module _ {S : Type 0} (adds : S → List Output → S → Type 0) (t : Option Owner) (d s : DocState) (seen : turned t d ≡ s) {o : Owner} {c : Command}
    (may : MayAct s.world o c) (new : World) (before after : S) (r : Result (Unit {0}) Fault) where
  -- what is done in the world of its documents is done in its world
  pub in_state : IsDone adds (own_refusal (part_of d.world o) c) (accepted (with_turn t d.world) o c) (with_turn t d.world) new before after r →
      IsHandled adds o c s.world new before after r
  in_state h =
      handled adds new before after r may
      (subst (λ (u : DocState). IsDone adds (own_refusal (part_of u.world o) c) (accepted u.world o c) u.world new before after r) seen h)

  module _ {mid : World} (none : own_refusal (part_of d.world o) c ≡ None)
      (runs : accepted (with_turn t d.world) o c ≡ effecting (with_turn t d.world) o c) where
    -- it does this, and says nothing before its reply
    performs : (reply : Value) → (mid, says o (replied reply) ∷ []) ≡ effect_in d.world o (effect (part_of d.world o) c) →
        IsDone adds None (opening_turn (with_turn t mid) o, says o (replied reply) ∷ []) (with_turn t mid) new before after r →
        IsHandled adds o c s.world new before after r
    performs reply does done =
        in_state (finished adds new before after r (with_turn t d.world) (with_turn t mid) none (runs_turned t d.world mid o c reply [] runs does) done)

    -- it changes its owner's tables alone
    pub keeps : {reply v : Value} → MakesSaying o c [] v d.world mid → reply ≡ v →
        IsDone adds None (opening_turn (with_turn t mid) o, says o (replied reply) ∷ []) (with_turn t mid) new before after r →
        IsHandled adds o c s.world new before after r
    keeps {reply = reply} makes is done =
        performs reply (ap (λ (u : World). (u, says o (replied reply) ∷ [])) makes.1
        ∙ ap (λ a. (with_part d.world (part_of mid o), says o (replied a) ∷ [])) is ∙ sym (ap (effect_in d.world o) makes.0)) done

    -- it makes the steps of a plan
    pub plans : {steps : List Step} {reply : Value} → changes steps reply ≡ effect (part_of d.world o) c → mid ≡ world_after o d.world steps →
        IsDone adds None (opening_turn (with_turn t mid) o, says o (replied reply) ∷ []) (with_turn t mid) new before after r →
        IsHandled adds o c s.world new before after r
    plans {reply = reply} is made done =
        performs reply (ap (λ (u : World). (u, says o (replied reply) ∷ [])) made ∙ ap (effect_in d.world o) is) done

    -- it changes its owner's tables alone, and says lines before its reply
    pub keeps_saying : {between : S} {lines : List Said} {reply v : Value} → Joins adds → MakesSaying o c lines v d.world mid → reply ≡ v →
        adds before (map (says o) lines) between →
        IsDone adds None (opening_turn (with_turn t mid) o, says o (replied reply) ∷ []) (with_turn t mid) new between after r →
        IsHandled adds o c s.world new before after r
    keeps_saying {lines = lines} {reply = reply} more makes is put done =
        in_state (said_before adds more new before after r (with_turn t d.world) (with_turn t mid)
        (opening_turn (with_turn t mid) o, says o (replied reply) ∷ []) (map (says o) lines) none
        (runs_turned t d.world mid o c reply lines runs (ap (λ (u : World). (u, map (says o) lines ++ says o (replied reply) ∷ [])) makes.1
        ∙ ap (λ a. (with_part d.world (part_of mid o), map (says o) lines ++ says o (replied a) ∷ [])) is ∙ sym (ap (effect_in d.world o) makes.0))) put done)

  -- it answers what its owner's tables say, and changes nothing
  pub tells : {reply v : Value} → own_refusal (part_of d.world o) c ≡ None → accepted (with_turn t d.world) o c ≡ effecting (with_turn t d.world) o c →
      MakesSaying o c [] v d.world d.world → reply ≡ v →
      IsDone adds None (opening_turn s.world o, says o (replied reply) ∷ []) s.world new before after r → IsHandled adds o c s.world new before after r
  tells {reply = reply} none runs makes is done =
      keeps none runs makes is
      (subst (λ (u : DocState). IsDone adds None (opening_turn u.world o, says o (replied reply) ∷ []) u.world new before after r) (sym seen) done)

-- it makes the steps of a plan on the node of a key
module _ {S : Type 0} (adds : S → List Output → S → Type 0) (plan : NodeName → Plan) (t : Option Owner) (d s : DocState) (seen : turned t d ≡ s)
    {o : Owner} {c : Command} (may : MayAct s.world o c) (new : World) (before after : S) (r : Result (Unit {0}) Fault) (w : NodeWord) (key : ℕ) where
  pub makes : {mid : World} {reply : Value} → name_at s.names key ≡ named (part_of s.world o) w → own_refusal (part_of d.world o) c ≡ None →
      accepted (with_turn t d.world) o c ≡ effecting (with_turn t d.world) o c →
      changes (plan (named (part_of d.world o) w) (part_of d.world o)) reply ≡ effect (part_of d.world o) c →
      mid ≡ made (owner_in d key) (plan (name_in d key)) d.world →
      IsDone adds None (opening_turn (with_turn t mid) o, says o (replied reply) ∷ []) (with_turn t mid) new before after r →
      IsHandled adds o c s.world new before after r
  makes is none runs does by done =
      let node = key_of t d s seen o w key is in
      plans adds t d s seen may new before after r none runs does (by ∙ (λ j. made (node.mine j) (plan (node.name j)) d.world)) done

-- it is refused by its own tests, which changed nothing, or memory was refused
module _ {S : Type 0} (adds : S → List Output → S → Type 0) (t : Option Owner) (d s : DocState) (seen : turned t d ≡ s) {o : Owner} {c : Command}
    (may : MayAct s.world o c) (mid : DocState) (told : S) where
  pub faults : {f : Fault} (q : Result (Unit {0}) Fault) → IsErrAnd q (λ e. e ≡ f) →
      ((r : Refusal) → f ≡ Refused r → own_refusal (part_of d.world o) c ≡ Some r) → ((r : Refusal) → f ≡ Refused r → mid ≡ d) →
      IsHandled adds o c s.world (with_turn t mid.world) told told q
  faults q err own same =
      in_state adds t d s seen may (with_turn t mid.world) told told q
      (faulted adds (accepted (with_turn t d.world) o c) (with_turn t d.world) (with_turn t mid.world) told q err own
      (λ r h. ap (λ (u : DocState). with_turn t u.world) (same r h)))

-- ---- commands that only answer

-- a part that is found is the owner's, and writing it as it is changes nothing
found_same : (ps : List Part) (o : Owner) (d : Part) → is_some (find_part ps o) ≡ true →
    ((unwrap_or (find_part ps o) d).owner ≡ o) × (put_part ps (unwrap_or (find_part ps o) d) ≡ ps)
found_same [] o d h = absurd cc
found_same (q ∷ qs) o d h = cases (owner_eq q.owner o) refl (λ g. found_same qs o d g)
  where
    cases : (b : Bool) → owner_eq q.owner o ≡ b →
        (is_some (find_part qs o) ≡ true → ((unwrap_or (find_part qs o) d).owner ≡ o) × (put_part qs (unwrap_or (find_part qs o) d) ≡ qs)) →
        ((unwrap_or (find_part (q ∷ qs) o) d).owner ≡ o) × (put_part (q ∷ qs) (unwrap_or (find_part (q ∷ qs) o) d) ≡ q ∷ qs)
    cases true e more = (rw e (owner_eq-true q.owner o e), rw (e, owner_eq-same q.owner) refl)
    cases false e more =
        let rest = more (rw e at h) in (rw e rest.0, rw (e, rest.0, e) (ap (λ (ps : List Part). q ∷ ps) rest.1))

pub with_part-same : (w : World) (o : Owner) → is_there w o ≡ true → with_part w (part_of w o) ≡ w
with_part-same w o h = ap (λ (ps : List Part). record { parts = ps; signalled = w.signalled; tasks = w.tasks; turn = w.turn })
    (found_same w.parts o (empty_part o) h).1

-- what does not go by the open turn is the same when an owner's is open
pub opened-same : {A : Type 0} (f : World → A) (w : World) (o : Owner) → ((t : Option Owner) → f w ≡ f (with_turn t w)) → f w ≡ f (opening_turn w o)
opened-same f w o same = cases w.turn
  where
    cases : (t : Option Owner) → f w ≡ f (if is_some t then w else record w { turn = Some o })
    cases None = same (Some o)
    cases (Some x) = refl

-- so it is with the owner's part, and with whether the owner is there
pub opened-part : (w : World) (o : Owner) → part_of w o ≡ part_of (opening_turn w o) o
opened-part w o = opened-same (λ u. part_of u o) w o (λ t. refl)

pub opened-there : (w : World) (o : Owner) → is_there w o ≡ true → is_there (opening_turn w o) o ≡ true
opened-there w o h = sym (opened-same (λ u. is_there u o) w o (λ t. refl)) ∙ h

-- a command that may act and has no refusal of its own
module _ {S : Type 0} (adds : S → List Output → S → Type 0) {w : World} {o : Owner} {c : Command} (may : MayAct w o c) (new : World) (before after : S)
    (r : Result (Unit {0}) Fault) (none : own_refusal (part_of w o) c ≡ None) where
  -- it only answers
  pub asks : {reply value : Value} → accepted w o c ≡ (opening_turn w o, says o (replied value) ∷ []) → reply ≡ value →
      IsDone adds None (opening_turn w o, says o (replied reply) ∷ []) w new before after r → IsHandled adds o c w new before after r
  asks runs is done =
      handled adds new before after r may (finished adds new before after r w w none (ap (λ a. (opening_turn w o, says o (replied a) ∷ [])) is ∙ sym runs) done)

  -- it answers what its owner's part says
  pub reads : {reply : Value} → accepted w o c ≡ effecting w o c → answers (part_of w o) reply ≡ effect (part_of w o) c →
      IsDone adds None (opening_turn w o, says o (replied reply) ∷ []) w new before after r → IsHandled adds o c w new before after r
  reads {reply = reply} runs is done =
      let u = opening_turn w o in
      asks
      (runs ∙ ap (effect_in u o) (sym (subst (λ p. answers p reply ≡ effect p c) (opened-part w o) is))
      ∙ ap (λ (v : World). (v, says o (replied reply) ∷ [])) (with_part-same u o (opened-there w o may.there)))
      refl done
