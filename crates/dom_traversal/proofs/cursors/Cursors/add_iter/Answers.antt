use Rattle.dom_traversal.proofs.Cited.{◌≡◌, ◌≤◌, true, [], ◌∷◌, ◌++◌, length, refl, sym, ap, subst, ◌∙◌, arith, IfOk, Err, ◌↔◌, IsSome, on_ok_weaker}
use Rattle.dom_traversal.proofs.Cited.{on_err_weaker, Limit, Refused, cursors_of, filter_of, ByOwner, KeyedTables, with_cursors}
use Rattle.dom_traversal.proofs.Owners.{seen, had-kept, written-kept, with-same, not_limit}
use Rattle.dom_tree.proofs.OwnerLists.{on_err}
use Rattle.dom_traversal.proofs.cursors.Cursors.add_iter.Goals as goal

pub returns-in_err-prepare-clause-limit : goal.returns-in_err-prepare-clause-limit
returns-in_err-prepare-clause-limit c =
    let none = ap (λ (t : KeyedTables). length t.iterators)
    (ap (λ each. each c.args.owner) (sym (seen c.self.inside.tables c.self.view_is)) ∙ c.in_err-prepare.ensures.none) in
    (λ h. absurd (not_limit c.from_residual.result c.from_residual.ensures.1 h), λ h. absurd (omega (arith, none, h)))

pub returns-in_err-prepare-clause-err : goal.returns-in_err-prepare-clause-err
returns-in_err-prepare-clause-err c =
    on_err c.from_residual.result (sym (seen c.prepare.new.self refl) ∙ (c.in_err-prepare.ensures.keeps ∙ seen c.self.inside.tables c.self.view_is))

pub add_iter-requires : goal.add_iter-requires
add_iter-requires c = subst (λ (t : KeyedTables). length t.iterators ≤ 1000000)
    (had-kept c.prepare.new.self c.args.self.now c.args.owner (c.in_ok-prepare.ensures.keeps ∙ seen c.self.inside.tables c.self.view_is)
    c.in-Some.ensures.value) c.requires

pub returns : goal.returns
returns c =
    let was = cursors_of c.args.self.now in
    let done = c.add_iter.ensures in
    let r : ByOwner = c.get_mut.follows.lender c.add_iter.new.self in
    let keeps = c.in_ok-prepare.ensures.keeps ∙ seen c.self.inside.tables c.self.view_is in
    let here = had-kept c.prepare.new.self c.args.self.now c.args.owner keeps c.in-Some.ensures.value in
    let now = written-kept c.prepare.new.self c.args.self.now c.args.owner keeps r c.add_iter.new.self
    (c.get_mut.follows.holds c.add_iter.new.self (subst IsSome c.in-Some.ensures.value refl)) in
    let more : KeyedTables → KeyedTables = λ t. record t {
      iterators = t.iterators ++ record { root = c.args.root; reference = c.args.root; before = true; filter = filter_of c.args.filter } ∷ [];
    } in
    record {
      number = subst (λ (t : KeyedTables). IfOk c.add_iter.result (λ n. n ≡ length t.iterators)) (sym here) done.number;
      added = on_ok_weaker c.add_iter.result (λ (e : c.add_iter.new.self ≡ more c.in-Some.tables.now).
          now ∙ ap (with_cursors was c.args.owner) (e ∙ ap more (sym here))) done.added;
      limit = subst (λ (t : KeyedTables). (c.add_iter.result ≡ Err (Refused Limit)) ↔ (length t.iterators ≡ 1000000)) (sym here) done.limit;
      other = done.other;
      err = on_err_weaker c.add_iter.result (λ (e : c.add_iter.new.self ≡ c.in-Some.tables.now).
          now ∙ with-same was c.args.owner c.add_iter.new.self (here ∙ sym e)) done.err;
    }
