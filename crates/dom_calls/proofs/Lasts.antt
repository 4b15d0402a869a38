-- What an answer tells at last, and before.
use Rattle.dom_base.proofs.Std.{◌≡◌, ℕ, ◌+◌, ◌-◌, ◌<◌, true, false, List, [], ◌∷◌, ◌++◌, length, map, take, refl, sym, ap, ◌∙◌, subst, map-append, arith}
use Rattle.std.proofs.Math.ListN.{get_or}
use Rattle.std.proofs.Math.Seq.{take-length}
use Rattle.std.proofs.lemmas.List.{take_more}
use Rattle.std.proofs.lemmas.Option.{slice_get_within, slice_get-get_or}
use Rattle.std.proofs.lemmas.Bool.{true≢false}
use Rattle.std.specs.Option.{unwrap_or}
use Rattle.std.specs.Result.{is_err}
use Rattle.std.specs.Prelude.{OnOk, Bool, if◌then◌else◌, Option, Some, None, Result, Ok, Err, IfOk, slice_get}
use Rattle.dom_base.specs.declared.Fault.{Fault}
use Rattle.dom_base.specs.declared.Fault.TheVariants as fault
use Rattle.dom_base.specs.declared.Owner.{Owner}
use Rattle.dom_base.specs.declared.Refusal.{Refusal}
use Rattle.dom_model.specs.Command.{Command, command}
use Rattle.dom_model.specs.DocumentMachine.{step}
use Rattle.dom_model.specs.World.{World}
use Rattle.dom_model.specs.Output.{Output, Said, says, replied, refused}
use Rattle.dom_answers.specs.Arrays.{Arrays, output_of, said_of, value_of}
use Rattle.dom_answers.specs.Told.{Contents, shown_output, shown_said, told}
use Rattle.dom_answers.specs.declared.items.Item.{Item}
use Rattle.dom_answers.specs.declared.items.Item.TheVariants.{Says}
use Rattle.dom_answers.specs.declared.items.Reply.{Reply}
use Rattle.dom_engine.specs.Calls.{EndsInReply}
use Rattle.dom_engine.specs.Documents.{DocumentState, called}
use Rattle.dom_calls.specs.Calls.{Does, EndsSo, deliveries_of}
use Rattle.dom_calls.specs.Owners.{owner_in}
use Rattle.dom_calls.specs.State.{CallState}

-- the last of a list
last_of : {X : Type 0} → X → List X → X
last_of d [] = d
last_of d (x ∷ xs) = last_of x xs

last_of-append : {X : Type 0} (d : X) (xs : List X) (x : X) → last_of d (xs ++ x ∷ []) ≡ x
unfolding last_of
last_of-append d [] x = refl
last_of-append d (y ∷ xs) x = last_of-append y xs x

-- lists that are equal end alike
ends-alike : {X : Type 0} (xs ys : List X) (x y : X) → xs ++ x ∷ [] ≡ ys ++ y ∷ [] → x ≡ y
ends-alike xs ys x y e = sym (last_of-append x xs x) ∙ ap (last_of x) e ∙ last_of-append x ys y

-- a list is what is before its last item, and that
one_more : (n : ℕ) → n - 1 < n → n - 1 + 1 ≡ n
one_more n h = omega arith

split-last : {X : Type 0} (xs : List X) (x : X) → slice_get xs (length xs - 1) ≡ Some x → xs ≡ take (length xs - 1) xs ++ x ∷ []
split-last {X = X} xs x e =
    let i = length xs - 1 in
    let inside = slice_get_within xs i x e in
    let item : get_or xs i x ≡ x = ap (λ (o : Option X). unwrap_or o x) (sym (slice_get-get_or xs i x inside) ∙ e) in
    let whole : take (i + 1) xs ≡ xs = ap (λ (n : ℕ). take n xs) (one_more (length xs) inside) ∙ take-length xs in
    sym whole ∙ take_more xs i x inside ∙ ap (λ (y : X). take i xs ++ y ∷ []) item

-- whose a line of output is
whose : Owner → Output → Owner
whose d (says o said) = o
whose d _ = d

-- What is told of outputs that end in an owner's reply, by the last item of the answer.
module _ (a : Arrays) (items : List Item) (o : Owner) (outs : List Output) (ends : EndsInReply o outs) where
  tells-last : (p : Owner) (said : Said) (it : Item) → map (output_of a) items ≡ map shown_output outs → slice_get items (length items - 1) ≡ Some it
      → output_of a it ≡ says p said → map shown_output outs ≡ map (output_of a) (take (length items - 1) items) ++ says o said ∷ []
  unfolding whose
  tells-last p said it e last is =
      let before = take (length items - 1) items in
      let front = map (output_of a) before in
      let whole : map (output_of a) items ≡ front ++ says p said ∷ [] =
      ap (map (output_of a)) (split-last items it last) ∙ map-append (output_of a) before (it ∷ []) ∙ ap (λ (x : Output). front ++ x ∷ []) is in
      let shown : map shown_output outs ≡ map shown_output ends.deliveries ++ says o (shown_said ends.reply) ∷ [] =
      ap (map shown_output) ends.whole ∙ map-append shown_output ends.deliveries (says o ends.reply ∷ []) in
      let same = ends-alike front (map shown_output ends.deliveries) (says p said) (says o (shown_said ends.reply)) (sym whole ∙ e ∙ shown) in
      let owner : p ≡ o = ap (whose o) same in
      sym e ∙ whole ∙ ap (λ (q : Owner). front ++ says q said ∷ []) owner

-- what a call has left, if it was done: the facts that both of its endings need
pub record Called (place : ℕ) (c : Command) (was is : CallState) : Type 0 where
  pub laws : (w : World) (o : Owner) (d : Command) → EndsInReply o (step w (command o d)).1
  pub sound : was.has_failed ≡ false
  pub still : is.has_failed ≡ false
  pub world : is.world ≡ (called was.world (owner_in was.owners place) c).0
  pub said : told is.answer ≡ map shown_output (called was.world (owner_in was.owners place) c).1
  pub ended : is.has_reply ≡ true

-- what holds of a result that is no error
on-ok : {X E : Type 0} (r : Result X E) (P : Type 0) → false ≡ is_err r → OnOk r P → P
on-ok (Ok x) P e p = p
on-ok (Err x) P e p = absurd (true≢false (sym e))

-- what is known after a call of the document, by this owner from this world on
pub record Left {X E : Type 0} (place : ℕ) (c : Command) (was is : CallState) (w : World) (o : Owner) (r : Result X E) (new : DocumentState) : Type 0 where
  pub laws : (v : World) (p : Owner) (d : Command) → EndsInReply p (step v (command p d)).1
  pub sound : was.has_failed ≡ false
  pub still : is.has_failed ≡ was.has_failed
  pub ended : is.has_reply ≡ true
  pub from : w ≡ was.world
  pub owner : o ≡ owner_in was.owners place
  pub ok : false ≡ is_err r
  pub left : is.world ≡ new.world
  pub world : OnOk r (new ≡ record { world = (called w o c).0; has_failed = false })
  pub said : OnOk r (told is.answer ≡ map shown_output (called w o c).1)

module _ (place : ℕ) (c : Command) (was is : CallState) where
  -- so it is then
  pub called-from : {X E : Type 0} (w : World) (o : Owner) (r : Result X E) (new : DocumentState) → Left place c was is w o r new → Called place c was is
  called-from w o r new k =
      let e = on-ok r (new ≡ record { world = (called w o c).0; has_failed = false }) k.ok k.world in
      let t = on-ok r (told is.answer ≡ map shown_output (called w o c).1) k.ok k.said in
      record {
        laws = k.laws;
        sound = k.sound;
        still = k.still ∙ k.sound;
        world =
            k.left ∙ ap (λ (s : DocumentState). s.world) e ∙ ap (λ (v : World). (called v o c).0) k.from ∙ ap (λ (p : Owner). (called was.world p c).0) k.owner;
        said = t ∙ ap (λ (v : World). map shown_output (called v o c).1) k.from ∙ ap (λ (p : Owner). map shown_output (called was.world p c).1) k.owner;
        ended = k.ended;
      }

  -- what the last item says is what the owner was answered, and what comes before are the deliveries
  does-last : (p : Owner) (said : Said) (it : Item) → Called place c was is → slice_get is.answer.items (length is.answer.items - 1) ≡ Some it
      → output_of is.answer.arrays it ≡ says p said → Does place (Ok c) said was is
  does-last p said it done last says_it =
      let o = owner_in was.owners place in
      let before = take (length is.answer.items - 1) is.answer.items in
      let ends = tells-last is.answer.arrays is.answer.items o (called was.world o c).1 (done.laws was.world o c) p said it done.said last says_it in
      let items : before ≡ (if is.has_reply then before else is.answer.items) = sym (ap (λ (b : Bool). if b then before else is.answer.items) done.ended) in
      record {
        sound = done.sound;
        still = done.still;
        world = done.world;
        told = ends ∙ ap (λ (xs : List Item). map (output_of is.answer.arrays) xs ++ says o said ∷ []) items;
      }

  -- a reply
  pub does-reply : (ending : Result Reply Fault) → Called place c was is → EndsSo is.answer (Some ending)
      → IfOk ending (λ reply. Does place (Ok c) (replied (value_of is.answer.arrays reply)) was is)
  does-reply (Ok reply) done ends = does-last ends.0 (replied (value_of is.answer.arrays reply)) _ done ends.1.0 refl
  does-reply (Err e) done ends = tt

  -- and a refusal
  pub does-refuse : (ending : Result Reply Fault) → Called place c was is → EndsSo is.answer (Some ending)
      → (r : Refusal) → ending ≡ Err (fault.Refused r) → Does place (Ok c) (refused r) was is
  does-refuse ending done ends r e =
      let there = subst (λ (x : Result Reply Fault). EndsSo is.answer (Some x)) e ends in
      does-last there.0 (refused r) _ done there.1 refl
