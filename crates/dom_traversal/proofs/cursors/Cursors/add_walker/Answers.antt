use Rattle.dom_traversal.proofs.Cited.{◌≡◌, ◌≤◌, [], ◌∷◌, ◌++◌, length, refl, sym, ap, subst, ◌∙◌, arith, IfOk, Err, ◌↔◌, IsSome, on_ok_weaker, on_err_weaker}
use Rattle.dom_traversal.proofs.Cited.{Limit, Refused, cursors_of, filter_of, ByOwner, KeyedTables, with_cursors}
use Rattle.dom_traversal.proofs.Owners.{seen, had-kept, written-kept, with-same, not_limit}
use Rattle.dom_tree.proofs.OwnerLists.{on_err}
use Rattle.dom_traversal.proofs.cursors.Cursors.add_walker.Goals as goal

pub returns-in_err-prepare-clause-limit : goal.returns-in_err-prepare-clause-limit
returns-in_err-prepare-clause-limit c =
    let none = ap (λ (t : KeyedTables). length t.walkers)
    (ap (λ each. each c.args.owner) (sym (seen c.self.inside.tables c.self.view_is)) ∙ c.in_err-prepare.ensures.none) in
    (λ h. absurd (not_limit c.from_residual.result c.from_residual.ensures.1 h), λ h. absurd (omega (arith, none, h)))

pub returns-in_err-prepare-clause-err : goal.returns-in_err-prepare-clause-err
returns-in_err-prepare-clause-err c =
    on_err c.from_residual.result (sym (seen c.prepare.new.self refl) ∙ (c.in_err-prepare.ensures.keeps ∙ seen c.self.inside.tables c.self.view_is))

pub add_walker-requires : goal.add_walker-requires
add_walker-requires c = subst (λ (t : KeyedTables). length t.walkers ≤ 1000000)
    (had-kept c.prepare.new.self c.args.self.now c.args.owner (c.in_ok-prepare.ensures.keeps ∙ seen c.self.inside.tables c.self.view_is)
    c.in-Some.ensures.value) c.requires

pub returns : goal.returns
returns c =
    let was = cursors_of c.args.self.now in
    let done = c.add_walker.ensures in
    let r : ByOwner = c.get_mut.follows.lender c.add_walker.new.self in
    let keeps = c.in_ok-prepare.ensures.keeps ∙ seen c.self.inside.tables c.self.view_is in
    let here = had-kept c.prepare.new.self c.args.self.now c.args.owner keeps c.in-Some.ensures.value in
    let now = written-kept c.prepare.new.self c.args.self.now c.args.owner keeps r c.add_walker.new.self
    (c.get_mut.follows.holds c.add_walker.new.self (subst IsSome c.in-Some.ensures.value refl)) in
    let more : KeyedTables → KeyedTables = λ t. record t {
      walkers = t.walkers ++ record { root = c.args.root; current = c.args.root; filter = filter_of c.args.filter } ∷ [];
    } in
    record {
      number = subst (λ (t : KeyedTables). IfOk c.add_walker.result (λ n. n ≡ length t.walkers)) (sym here) done.number;
      added = on_ok_weaker c.add_walker.result (λ (e : c.add_walker.new.self ≡ more c.in-Some.tables.now).
          now ∙ ap (with_cursors was c.args.owner) (e ∙ ap more (sym here))) done.added;
      limit = subst (λ (t : KeyedTables). (c.add_walker.result ≡ Err (Refused Limit)) ↔ (length t.walkers ≡ 1000000)) (sym here) done.limit;
      other = done.other;
      err = on_err_weaker c.add_walker.result (λ (e : c.add_walker.new.self ≡ c.in-Some.tables.now).
          now ∙ with-same was c.args.owner c.add_walker.new.self (here ∙ sym e)) done.err;
    }
