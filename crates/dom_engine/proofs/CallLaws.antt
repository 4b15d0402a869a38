-- A line is its command and its call, what an answer tells ends in a reply or refusal, and a call that names another owner's node is refused.
use Rattle.dom_base.proofs.Std.{◌≡◌, false, List, [], ◌∷◌, map, map-append, refl, sym, ap, ◌∙◌, AllByRecursion}
use Rattle.dom_model.proofs.Model.{command, World, Run, step, Output, bad_owner, says, Said, replied}
use Rattle.dom_text.specs.Definitions.{output_text}
use Rattle.dom_text.proofs.DecodeLaws.{says_decode}
use Rattle.dom_answers.specs.Told.{ShowsText, shown_output, shown_said}
use Rattle.dom_engine.specs.Calls.{is_reply, IsDelivery, CallEndsInReply, LineIsItsCommand, LineIsItsCall, ForeignCallIsRefused}
use Rattle.dom_engine.specs.Session.{SessionState}
use Rattle.dom_engine.proofs.CallReplies.{command-ends_in_reply}
use Rattle.dom_engine.proofs.ForeignLines.{foreign-command}

-- by the grammar
pub line-is_its_command : LineIsItsCommand
line-is_its_command w line o c h = ap (step w) (sym (says_decode line (command o c) h))

-- as it is read
pub line-is_its_call : ShowsText → LineIsItsCall
line-is_its_call shows line o c e old text new answer called a k = (
  a.1 ∙ ap (λ l. record { world = (step old.world l).0; has_failed = false }) e ∙ sym k.1,
  a.0 ∙ ap (λ l. output_text (step old.world l).1) e ∙ sym (shows (step old.world (command o c)).1) ∙ ap output_text (sym k.0),
)

-- what is shown of something said
reply-shown : (s : Said) → is_reply (shown_said s) ≡ is_reply s
reply-shown (replied v) = refl
reply-shown s = refl

-- of a line of output
delivery-shown : (l : Output) → IsDelivery l → IsDelivery (shown_output l)
delivery-shown bad_owner h = h
delivery-shown (says o s) h = reply-shown s ∙ h

-- of all
deliveries-shown : (ls : List Output) → AllByRecursion IsDelivery ls → AllByRecursion IsDelivery (map shown_output ls)
deliveries-shown [] h = tt
deliveries-shown (l ∷ ls) h = (delivery-shown l h.0, deliveries-shown ls h.1)

-- an answer
pub call-ends_in_reply : CallEndsInReply
call-ends_in_reply old o c answer new k =
    let e = command-ends_in_reply old.world o c in
    record {
      deliveries = map shown_output e.deliveries;
      reply = shown_said e.reply;
      whole = k.0 ∙ ap (map shown_output) e.whole ∙ map-append shown_output e.deliveries (says o e.reply ∷ []);
      last = reply-shown e.reply ∙ e.last;
      before = deliveries-shown e.deliveries e.before;
    }

-- a call that names another owner's node
pub foreign-call : ForeignCallIsRefused
foreign-call old o c answer new h k =
    let e = foreign-command old.world o c h in (
      ap (λ (s : SessionState). s.world) k.1 ∙ ap (λ (r : Run World). r.0) e,
      k.0 ∙ ap (λ (r : Run World). map shown_output r.1) e,
    )
