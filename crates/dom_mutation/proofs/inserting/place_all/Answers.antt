use Rattle.dom_mutation.proofs.Cited.{[], map, option_map, sym, ap, ◌∙◌, length-map, on_ok_weaker, child_list, in_turn, making_room, placing, steps_of, telling}
use Rattle.dom_mutation.proofs.Cited.{DocState, name_in, owner_in, planned, observing_of}
use Rattle.dom_mutation.proofs.Turns.{Stays, stays_same, all_may_now, child_now}
use Rattle.dom_mutation.proofs.inserting.place_all.Goals.{After-room_before}
use Rattle.dom_mutation.proofs.inserting.place_all.Goals as goal

-- what is around the place stays
stays : (c : After-room_before) → Stays c.args.parent c.args.before c.args.parts.now c.room_before.new.parts
stays c =
    stays_same c.args.parent c.args.before c.args.parts.now c.room_before.new.parts (ap (λ (s : DocState). s.names) c.room_before.ensures.state)
    c.room_before.ensures.trees

pub place_each-requires-clause-may_move : goal.place_each-requires-clause-may_move
place_each-requires-clause-may_move c =
    all_may_now c.args.parent c.args.before c.args.parts.now c.room_before.new.parts
    (stays (goal.at.place_each-requires-clause-may_move c).After-room_before) c.args.moved.now c.requires.may_move

pub place_each-requires-clause-before_is_child : goal.place_each-requires-clause-before_is_child
place_each-requires-clause-before_is_child c =
    child_now c.args.parent c.args.before c.args.parts.now c.room_before.new.parts
    (stays (goal.at.place_each-requires-clause-before_is_child c).After-room_before) c.requires.before_is_child

pub returns : goal.returns
returns c =
    let d = c.args.parts.now in
    let parent = c.args.parent in
    let keys = c.args.moved.now in
    let tell : DocState → DocState = λ e. planned (owner_in e parent)
    (steps_of (telling (observing_of c.args.how)
    (child_list (name_in e parent) (map (name_in e) keys) [] (option_map (name_in e) c.args.prev)
    (option_map (name_in e) c.args.before)))) e in
    let turn : DocState → DocState = λ e. planned (owner_in e parent)
    (in_turn (placing (name_in e parent) (option_map (name_in e) c.args.before)) (map (name_in e) keys)) e in
    on_ok_weaker c.tell_placed.result (λ told. told ∙ ap tell c.in_ok-place_each.ensures ∙ ap (λ e. tell (turn e)) c.room_before.ensures.state
    ∙ ap (λ n. tell (turn (planned (owner_in d parent) (making_room (name_in d parent) (option_map (name_in d) c.args.before) n) d)))
    (sym (length-map keys (name_in d))))
    c.tell_placed.ensures
