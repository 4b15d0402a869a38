-- What others do to an event is small. So where their listeners only log nothing is told in a full trace: for all types of events, or for some; and in any
-- case it only adds to the trace.
use Rattle.dom_base.proofs.Std.{◌≡◌, ℕ, Bool, true, false, not, List, [], ◌∷◌, ◌++◌, filter, map, flat_map, Option, Some, None, option_map, refl, sym, ap, ◌∙◌}
use Rattle.dom_base.proofs.Std.{◌≤◌, suc, ◌&&◌, length, subst, arith, is_none, option_to_list, if◌then◌else◌, AllByRecursion, cond-true, ⊤}
use Rattle.dom_base.proofs.Std.{cond-false, and_parts, not-true, flat_map-append}
use Rattle.dom_model.proofs.Model.{Owner, Page, NodeName, Command, EventWords, Line, no_owner, no_command, command, named, Run, run_then, slotchange}
use Rattle.dom_model.proofs.Model.{firing_slotchange, is_owned_by, running_task, ending_other_turn, opening_turn, refusal, step, World, Task}
use Rattle.dom_model.proofs.Model.{micro_task, notify_task, part_of, line, outward, OutwardEvent, is_of, owner_of_line, outward_event, items_of}
use Rattle.dom_model.proofs.Model.{line_may_stop, no_component_stops_from, ends_other_turn, ends_group_turn, outward_command, outward_dispatch, outward_of}
use Rattle.dom_model.proofs.Model.{boundary_host, TraceItem, trace_from, PageState, page_line, run_page}
use Rattle.dom_model.proofs.Model.{Word, name_eq, Visit}
use Rattle.dom_model.proofs.Model.{begun, views, world_visit, visits_of}
use Rattle.dom_worlds.specs.Definitions.{IsQuiet}
use Rattle.dom_worlds.proofs.ListLemmas.{all-append, all-from, by_cases, either_way}
use Rattle.dom_worlds.proofs.TurnLemmas.{quiet-ending_other, quiet-opening, quiet-dispatch, told_in, quiet-told, quiet-running, at_end, quiet-at_end}
use Rattle.dom_worlds.proofs.TurnLemmas.{InWorld}
use Rattle.dom_worlds.proofs.WorldLemmas.{quiet-step}
use Rattle.dom_isolation.specs.Definitions.{IsUntouched, FullTraceIsTrace, NothingTouches, InterferenceIsSmall, Interference}
use Rattle.dom_isolation.specs.Definitions.{untouched, FullItem, line_with, outward_with, turn_ended, plain_items, records_each, first_record, interference_at}
use Rattle.dom_isolation.specs.Definitions.{slot_record, task_records, ending_records, accepted_records, before_records, own_records, others_items, full_items}
use Rattle.dom_isolation.specs.Definitions.{full_trace_from, touched, one_more, is_own_visit, interference_from, page_line_under, page_outward_under}
use Rattle.dom_isolation.specs.Definitions.{run_page_under, HasEventIn, HasLineIn, HasTypeIn}
use Rattle.dom_isolation.proofs.GroupSlots.{filter-here, filter-away}
use Rattle.dom_isolation.proofs.QuietVisits.{interference-is_on_purpose, others-log}

-- one visit more
one-more_small : (later : Option ℕ) (k n : ℕ) → ((j : ℕ) → later ≡ Some j → j ≤ n) → option_map suc later ≡ Some k → k ≤ suc n
one-more_small None k n h e = cc
one-more_small (Some j) k n h e = let same : suc j ≡ k = cc in let few = h j refl in omega (arith, same, few)

-- What is told of the visits of the group is no more than they are.
module _ (g : Owner → Bool) where
  -- from a state on
  small-from : (e : EventWords) (vs : List (Visit NodeName)) (s : InWorld) (k : ℕ) → (interference_from g e s vs).reached ≡ Some k →
      k ≤ length (filter (is_own_visit g) vs)
  small-from e [] s k h = let none : None ≡ Some k = h in cc
  small-from e (v ∷ vs) s k h =
      let t = world_visit e s v in
      let later = interference_from g e t vs in
      let mine = filter (is_own_visit g) vs in
      let own = one_more later in
      let other = touched s.1 t.1 later in
      by_cases (is_own_visit g v)
      (λ o. subst (λ us. k ≤ length us) (sym (filter-here (is_own_visit g) v vs o))
      (one-more_small later.reached k (length mine) (small-from e vs t)
      (sym (ap (λ (i : Interference). i.reached) (cond-true (is_own_visit g v) own other o)) ∙ h)))
      (λ o. subst (λ us. k ≤ length us) (sym (filter-away (is_own_visit g) v vs o))
      (by_stop t later (sym (ap (λ (i : Interference). i.reached) (cond-false (is_own_visit g v) own other o)) ∙ h) (small-from e vs t k)))
    where
      by_stop : (t : InWorld) (later : Interference) → (touched s.1 t.1 later).reached ≡ Some k →
          (later.reached ≡ Some k → k ≤ length (filter (is_own_visit g) vs)) → k ≤ length (filter (is_own_visit g) vs)
      by_stop t later e h = which (t.1.stopped && not s.1.stopped) e
        where
          which : (b : Bool) → (if b then Some 0 else later.reached) ≡ Some k → k ≤ length (filter (is_own_visit g) vs)
          which true e = let none : 0 ≡ k = cc in omega (arith, none)
          which false e = h e

-- the law
pub interference-is_small : InterferenceIsSmall
interference-is_small g w x related e k h = small-from g e (visits_of name_eq e.bubbles (views w x related e.composed)) (w, begun []) k h

-- all of some records tell nothing
abbrev pub TellNothing : List Interference → Type 0
TellNothing records = AllByRecursion (λ i. i ≡ untouched) records

-- so the first one does not
pub first-nothing : (records : List Interference) → TellNothing records → first_record records ≡ untouched
first-nothing [] h = refl
first-nothing (i ∷ records) h = h.0

-- records of what runs one after another, in worlds that stay good
each-nothing : {A : Type 0} {Good : World → Type 0} (run : World → A → Run World) (tell : World → A → List Interference) →
    ((w : World) (x : A) → Good w → Good (run w x).0 × TellNothing (tell w x)) → (xs : List A) (w : World) → Good w →
    TellNothing (records_each run tell w xs)
each-nothing run tell h [] w q = tt
each-nothing run tell h (x ∷ xs) w q =
    let one = h w x q in
    all-append (λ i. i ≡ untouched) (tell w x) (records_each run tell (run w x).0 xs) one.1 (each-nothing run tell h xs (run w x).0 one.0)

-- Worlds in which nobody outside a group touches `slotchange`, and which the ending of a turn leaves so.
pub record AreQuietAtSlots (kept : Owner → Bool) (Good : World → Type 0) : Type 0 where
  pub slot : (w : World) (s : NodeName) → Good w → interference_at kept w s None slotchange ≡ untouched
  pub fired : (w : World) (s : NodeName) → Good w → Good (firing_slotchange w s).0
  pub told : (w : World) (o : Owner) → Good w → Good (told_in w o)
  pub ran : (w : World) (t : Task) → Good w → Good (running_task w t).0
  pub at_end : (w : World) → Good w → Good (at_end w)

-- so nothing is told of the ending
module _ {kept : Owner → Bool} {Good : World → Type 0} (k : AreQuietAtSlots kept Good) where
  -- of a task
  task-quiet : (w : World) (t : Task) → Good w → TellNothing (task_records kept w t)
  task-quiet w (micro_task o label) q = tt
  task-quiet w (notify_task o) q =
      let slots = filter (is_owned_by o) w.signalled in
      either_way TellNothing (kept o) (records_each firing_slotchange (slot_record kept) (told_in w o) slots) []
      (each-nothing firing_slotchange (slot_record kept) (λ u s i. (k.fired u s i, (k.slot u s i, tt))) slots (told_in w o) (k.told w o q)) tt

  -- of all of them
  pub ending-quiet : (w : World) → Good w → TellNothing (ending_records kept w)
  ending-quiet w q =
      each-nothing running_task (task_records kept) (λ u t i. (k.ran u t i, task-quiet u t i)) w.tasks (at_end w) (k.at_end w q)

-- Worlds in which nobody outside touches events of some types, nor those of the ending of a turn.
pub record AreQuietFor (kept : Owner → Bool) (types : Word → Bool) (Good : World → Type 0) : Type 0 where
  pub event : (w : World) → Good w → (x : NodeName) (r : Option NodeName) (e : EventWords) → types e.event ≡ true → interference_at kept w x r e ≡ untouched
  pub ending : (w : World) → Good w → TellNothing (ending_records kept w)
  pub ended : (w : World) (o : Owner) → Good w → Good (ending_other_turn w o).0
  pub opened : (w : World) (o : Owner) → Good w → Good (opening_turn w o)

-- so nothing is told of lines with such events:
module _ {kept : Owner → Bool} {types : Word → Bool} {Good : World → Type 0} (k : AreQuietFor kept types Good) where
  -- of the ending before a line,
  before-quiet : (w : World) → Good w → (l : Line) → TellNothing (before_records kept w l)
  before-quiet w q l = either_way TellNothing (ends_other_turn w l) (ending_records kept w) [] (k.ending w q) tt

  -- of an accepted command,
  accepted-quiet : (w : World) → Good w → (o : Owner) (c : Command) → HasEventIn types c → TellNothing (accepted_records kept w o c)
  accepted-quiet w q o (Command.dispatch x e r) h =
      let v = opening_turn w o in
      (k.event v (k.opened w o q) (named (part_of v o) x) (option_map (named (part_of v o)) r) e h, tt)
  accepted-quiet w q o Command.end_turn h = k.ending w q
  accepted-quiet w q o c h = tt

  -- and of a line.
  pub own-quiet : (w : World) → Good w → (l : Line) → HasLineIn types l → TellNothing (own_records kept w l)
  own-quiet w q no_owner h = tt
  own-quiet w q (no_command o) h = tt
  own-quiet w q (command o c) h =
      let v = (ending_other_turn w o).0 in
      either_way TellNothing (is_none (refusal v o c)) (accepted_records kept v o c) [] (accepted-quiet v (k.ended w o q) o c h) tt

-- any command
any-event : (c : Command) → HasEventIn (λ event. true) c
any-event (Command.dispatch x e r) = refl
any-event c = tt

-- and any line
any-line : (l : Line) → HasLineIn (λ event. true) l
any-line no_owner = tt
any-line (no_command o) = tt
any-line (command o c) = any-event c

-- Where components' listeners only log.
module _ (kept : Owner → Bool) (page : kept Page ≡ true) where
  -- nothing is told of a dispatch,
  pub nothing-at : (w : World) → IsQuiet w → (x : NodeName) (r : Option NodeName) (e : EventWords) → interference_at kept w x r e ≡ untouched
  nothing-at w q x r e = interference-is_on_purpose kept w x r e (others-log kept e.event w page (q.logs refl))

  -- nor of any other event
  pub quiet-for_all : AreQuietFor kept (λ event. true) IsQuiet
  quiet-for_all = record {
    event = λ w q x r e h. nothing-at w q x r e;
    ending = ending-quiet (record {
      slot = λ w s q. nothing-at w q s None slotchange;
      fired = λ w s q. quiet-dispatch w s None slotchange q;
      told = λ w o q. quiet-told w o q;
      ran = λ w t q. quiet-running w q t;
      at_end = λ w q. quiet-at_end w q;
    });
    ended = λ w o q. quiet-ending_other w q o;
    opened = λ w o q. quiet-opening w q o;
  }

  -- of the ending of a turn,
  pub ending-nothing : (w : World) → IsQuiet w → TellNothing (ending_records kept w)
  ending-nothing w q = quiet-for_all.ending w q

  -- of the one before a line,
  pub before-nothing : (w : World) → IsQuiet w → (l : Line) → TellNothing (before_records kept w l)
  before-nothing w q l = before-quiet quiet-for_all w q l

  -- and of a line.
  pub own-nothing : (w : World) → IsQuiet w → (l : Line) → TellNothing (own_records kept w l)
  own-nothing w q l = own-quiet quiet-for_all w q l (any-line l)

-- A line of which nothing is told is a line of the page machine.
pub line-plain : (s : PageState) (l : Line) → page_line_under untouched s l ≡ page_line s l
line-plain s no_owner = refl
line-plain s (no_command o) = refl
line-plain s (command o c) = of_command c
  where
    of_command : (c : Command) → page_line_under untouched s (command o c) ≡ page_line s (command o c)
    of_command (Command.dispatch a b d) = refl
    of_command Command.end_turn = refl
    of_command c = refl

module _ {L : Type 0} (read : L → Line) where
  -- a list in two parts
  all-parts : {X : Type 0} (P : X → Type 0) (xs ys : List X) → AllByRecursion P (xs ++ ys) → AllByRecursion P xs × AllByRecursion P ys
  all-parts P [] ys h = (tt, h)
  all-parts P (x ∷ xs) ys h = let more = all-parts P xs ys h.1 in ((h.0, more.0), more.1)

  -- An event that goes out is that of its command,
  module _ (types : Word → Bool) (kept : Owner → Bool) where
    -- of a command
    event-goes_out : (w : World) (o : Owner) (c : Command) (e : OutwardEvent) → outward_command kept w o c ≡ Some e → types e.event ≡ true →
        HasEventIn types c
    event-goes_out w o (Command.dispatch x d None) e is h = accepted (is_none (refusal w o (Command.dispatch x d None))) is
      where
        found : (m : Option NodeName) → option_map (outward_of d) m ≡ Some e → types d.event ≡ true
        found None is = cc
        found (Some host) is = let same : outward_of d host ≡ e = cc in subst (λ (a : OutwardEvent). types a.event ≡ true) (sym same) h

        out : (b : Bool) → (if b then option_map (outward_of d) (boundary_host kept w (named (part_of w o) x)) else None) ≡ Some e → types d.event ≡ true
        out true is = found (boundary_host kept w (named (part_of w o) x)) is
        out false is = cc

        accepted : (b : Bool) → (if b then outward_dispatch kept w o (Command.dispatch x d None) else None) ≡ Some e → types d.event ≡ true
        accepted true is = out (not (kept o) && d.composed) is
        accepted false is = cc
    event-goes_out w o (Command.dispatch x d (Some r)) e is h =
        let both : None ≡ Some e = sym (either_way (λ m. m ≡ None) (is_none (refusal w o (Command.dispatch x d (Some r)))) None None refl refl) ∙ is in cc
    event-goes_out w o c e is h = tt

    -- and of its line
    line-goes_out : (w : World) (l : Line) (e : OutwardEvent) → outward_event kept w l ≡ Some e → types e.event ≡ true → HasLineIn types l
    line-goes_out w no_owner e is h = tt
    line-goes_out w (no_command o) e is h = tt
    line-goes_out w (command o c) e is h = event-goes_out (ending_other_turn w o).0 o c e is h

  -- The items of a line, and a trace.
  module _ {kept : Owner → Bool} {types : Word → Bool} {Good : World → Type 0} (k : AreQuietFor kept types Good) where
    -- an outward event
    sent-untouched : (w : World) → Good w → (l : L) (o : Option OutwardEvent) → outward_event kept w (read l) ≡ o →
        AllByRecursion (HasTypeIn read types) (map outward (option_to_list o)) →
        AllByRecursion (IsUntouched {L = L}) (map (λ e. outward_with e (first_record (own_records kept w (read l))).reached) (option_to_list o))
    sent-untouched w q l None is h = tt
    sent-untouched w q l (Some e) is h = (
      ap (λ (i : Interference). i.reached)
          (first-nothing (own_records kept w (read l)) (own-quiet k w q (read l) (line-goes_out types kept w (read l) e is h.0))),
      tt,
    )

    -- of another's line
    others-untouched : (w : World) → Good w → (l : L) →
        AllByRecursion (HasTypeIn read types) (map outward (option_to_list (outward_event kept w (read l)))) →
        AllByRecursion IsUntouched (others_items read kept w l)
    others-untouched w q l h =
        let before = before_records kept w (read l) in
        let reached = (first_record (own_records kept w (read l))).reached in
        all-append IsUntouched (if ends_group_turn kept w (read l) then turn_ended before ∷ [] else [])
        (map (λ e. outward_with e reached) (option_to_list (outward_event kept w (read l))))
        (either_way (AllByRecursion IsUntouched) (ends_group_turn kept w (read l)) (turn_ended before ∷ []) []
        (before-quiet k w q (read l), tt) tt)
        (sent-untouched w q l (outward_event kept w (read l)) refl h)

    -- of any line
    items-untouched : (w : World) → Good w → (l : L) → AllByRecursion (HasTypeIn read types) (items_of read kept w l) →
        AllByRecursion IsUntouched (full_items read kept w l)
    items-untouched w q l h =
        let mine = is_of kept (owner_of_line (read l)) in
        let records = before_records kept w (read l) ++ own_records kept w (read l) in
        let sent = map outward (option_to_list (outward_event kept w (read l))) in
        by_cases mine
        (λ m. subst (AllByRecursion IsUntouched) (sym (cond-true mine (line_with l records ∷ []) (others_items read kept w l) m)) (
          all-append (λ i. i ≡ untouched) (before_records kept w (read l)) (own_records kept w (read l)) (before-quiet k w q (read l))
              (own-quiet k w q (read l) (subst (AllByRecursion (HasTypeIn read types)) (cond-true mine (line l ∷ []) sent m) h).0),
          tt,
        ))
        (λ m. subst (AllByRecursion IsUntouched) (sym (cond-false mine (line_with l records ∷ []) (others_items read kept w l) m))
        (others-untouched w q l (subst (AllByRecursion (HasTypeIn read types)) (cond-false mine (line l ∷ []) sent m) h)))

    -- worlds that stay so
    abbrev pub AreGood : World → List L → Type 0
    AreGood w [] = ⊤
    AreGood w (l ∷ ls) = Good w × AreGood (step w (read l)).0 ls

    -- of a script
    pub trace-quiet : (ls : List L) (w : World) → AreGood w ls → AllByRecursion (HasTypeIn read types) (trace_from read kept w ls) →
        AllByRecursion IsUntouched (full_trace_from read kept w ls)
    trace-quiet [] w q h = tt
    trace-quiet (l ∷ ls) w q h =
        let v = (step w (read l)).0 in
        let parts = all-parts (HasTypeIn read types) (items_of read kept w l) (trace_from read kept v ls) h in
        all-append IsUntouched (full_items read kept w l) (full_trace_from read kept v ls) (items-untouched w q.0 l parts.0) (trace-quiet ls v q.1 parts.1)

  -- Where components' listeners only log.
  module _ (kept : Owner → Bool) (page : kept Page ≡ true) where
    -- they go on to
    quiet-on : (ls : List L) (w : World) → IsQuiet w → no_component_stops_from read w ls ≡ true → AreGood (quiet-for_all kept page) w ls
    quiet-on [] w q h = tt
    quiet-on (l ∷ ls) w q h =
        let v = (step w (read l)).0 in
        let both = and_parts (not (line_may_stop w (read l))) (no_component_stops_from read v ls) h in
        (q, quiet-on ls v (quiet-step w (read l) q (λ y. not-true (line_may_stop w (read l)) both.0)) both.1)

    -- so nobody touches an event
    pub trace-untouched : (ls : List L) (w : World) → IsQuiet w → no_component_stops_from read w ls ≡ true →
        AllByRecursion IsUntouched (full_trace_from read kept w ls)
    trace-untouched ls w q h =
        trace-quiet (quiet-for_all kept page) ls w (quiet-on ls w q h) (all-from (HasTypeIn read (λ event. true)) any-item (trace_from read kept w ls))
      where
        any-item : (i : TraceItem L) → HasTypeIn read (λ event. true) i
        any-item (line l) = any-line (read l)
        any-item (outward e) = refl

  -- the law
  pub nothing-touches : NothingTouches read
  nothing-touches kept page w i logs ls h = trace-untouched kept page ls w (record { world = i; logs = λ y. logs }) h

  -- An outward event's item is that of the trace,
  plain-outward : (reached : Option ℕ) (o : Option OutwardEvent) →
      flat_map (plain_items {L = L}) (map (λ e. outward_with e reached) (option_to_list o)) ≡ map outward (option_to_list o)
  plain-outward reached None = refl
  plain-outward reached (Some e) = refl

  -- the ending of a turn is none,
  plain-ended : (b : Bool) (records : List Interference) (items : List (FullItem L)) →
      flat_map plain_items ((if b then turn_ended records ∷ [] else []) ++ items) ≡ flat_map plain_items items
  plain-ended true records items = refl
  plain-ended false records items = refl

  -- so a line's items are those of the trace,
  plain-items : (kept : Owner → Bool) (w : World) (l : L) → flat_map plain_items (full_items read kept w l) ≡ items_of read kept w l
  plain-items kept w l =
      let records = before_records kept w (read l) ++ own_records kept w (read l) in
      let reached = (first_record (own_records kept w (read l))).reached in
      let mine = is_of kept (owner_of_line (read l)) in
      let others = map outward (option_to_list (outward_event kept w (read l))) in
      by_cases mine
      (λ h. ap (flat_map plain_items) (cond-true mine (line_with l records ∷ []) (others_items read kept w l) h)
      ∙ sym (cond-true mine (line l ∷ []) others h))
      (λ h. ap (flat_map plain_items) (cond-false mine (line_with l records ∷ []) (others_items read kept w l) h)
      ∙ plain-ended (ends_group_turn kept w (read l)) (before_records kept w (read l))
      (map (λ e. outward_with e reached) (option_to_list (outward_event kept w (read l))))
      ∙ plain-outward reached (outward_event kept w (read l)) ∙ sym (cond-false mine (line l ∷ []) others h))

  -- and a full trace is the trace with more.
  pub full_trace-is_trace : FullTraceIsTrace read
  full_trace-is_trace kept w [] = refl
  full_trace-is_trace kept w (l ∷ ls) =
      let v = (step w (read l)).0 in
      flat_map-append plain_items (full_items read kept w l) (full_trace_from read kept v ls)
      ∙ ap (λ items. items ++ flat_map plain_items (full_trace_from read kept v ls)) (plain-items kept w l)
      ∙ ap (λ items. items_of read kept w l ++ items) (full_trace-is_trace kept v ls)

  -- where nothing is told the page machine does what it does on the trace
  pub run-plain : (items : List (FullItem L)) (s : PageState) → AllByRecursion IsUntouched items →
      run_page_under read s items ≡ run_page read s (flat_map plain_items items)
  run-plain [] s h = refl
  run-plain (line_with l records ∷ items) s h =
      let r = page_line s (read l) in
      ap (λ i. run_then (page_line_under i s (read l)) (λ t. run_page_under read t items)) (first-nothing records h.0)
      ∙ ap (λ (q : Run PageState). run_then q (λ t. run_page_under read t items)) (line-plain s (read l))
      ∙ ap (λ (q : Run PageState). (q.0, r.1 ++ q.1)) (run-plain items r.0 h.1)
  run-plain (outward_with e reached ∷ items) s h =
      let r = page_outward_under None s e in
      ap (λ k. run_then (page_outward_under k s e) (λ t. run_page_under read t items)) h.0
      ∙ ap (λ (q : Run PageState). (q.0, r.1 ++ q.1)) (run-plain items r.0 h.1)
  run-plain (turn_ended records ∷ items) s h = run-plain items s h.1
