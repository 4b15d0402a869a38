use Rattle.dom_mutation.proofs.Cited.{◌≡◌, ℕ, length, arith, [], option_map, ap, sym, ◌∙◌, on_ok_weaker, parent_of, placing_tail, replacing_data, DocState}
use Rattle.dom_mutation.proofs.Cited.{name_in, owner_in, trees_in, planned, keeps-placing_tail}
use Rattle.dom_mutation.proofs.splitting.cut_tail.Goals.{in-Some+in_ok-placing_tail, in_default}
use Rattle.dom_mutation.proofs.splitting.cut_tail.Goals as goal
use Rattle.dom_mutation.proofs.Made.{planned_then}
use Rattle.dom_mutation.proofs.OwnPlans.{own_rules}

pub returns : goal.returns
returns c =
    let d = c.args.parts.now in
    let o = owner_in d c.args.node in
    let x = name_in d c.args.node in
    let y = name_in d c.args.new in
    let place_it = placing_tail x c.args.offset y (parent_of (trees_in d c.args.node) x) in
    let placed : c.match-parent.parts ≡ planned o place_it d = elim c.match-parent.branch [
      | in-Some+in_ok-placing_tail w ↦ w.parts-is ∙ w.in_ok-placing_tail.ensures ∙ ap (λ up. planned o (placing_tail x c.args.offset y up) d)
          (ap (option_map (name_in d)) (sym w.in-Some.is) ∙ c.parent.ensures.value)
      | in_default w ↦ w.parts-is ∙ ap (λ up. planned o (placing_tail x c.args.offset y up) d)
          (ap (option_map (name_in d)) (sym w.in_default.is) ∙ c.parent.ensures.value)
    ] in
    on_ok_weaker c.replacing_data.result (λ cut. cut
    ∙ ap (λ (s : DocState). planned (owner_in s c.args.node)
    (replacing_data (name_in s c.args.node) c.args.offset c.args.count c.new-none.result.items) s) placed
    ∙ ap (λ units. planned o (replacing_data x c.args.offset c.args.count units) (planned o place_it d)) c.new-none.ensures.items
    ∙ planned_then o place_it (replacing_data x c.args.offset c.args.count []) d (c.laws.ensures.alone c.args.node c.requires.node_is_node)
    (keeps-placing_tail (own_rules o) x c.args.offset y (parent_of (trees_in d c.args.node) x) c.requires.one_owner))
    c.replacing_data.ensures

pub replacing_data-requires-clause-may_come : goal.replacing_data-requires-clause-may_come
replacing_data-requires-clause-may_come c some = let none = ap (length {A = ℕ}) c.new-none.ensures.items in absurd (omega (arith, none, some))
