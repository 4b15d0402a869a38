use Rattle.dom_mutation.proofs.Cited.{◌≡◌, ◌↔◌, ◌⊎◌, inl, inr, ℕ, Bool, true, false, ◌∷◌, [], Some, Ok, Err, Result, refl, sym, ap, subst, ◌∙◌, IfErr, Fault}
use Rattle.dom_mutation.proofs.Cited.{Refused, Memory, Refusal, InvalidCharacter, Limit, past_limit, next_name, first_refusal, part_of, node_from}
use Rattle.dom_mutation.specs.Definitions.{DocState}
use Rattle.dom_mutation.proofs.ReadyCalls.{node-made}
use Rattle.dom_mutation.proofs.doc.Doc.add.Goals as goal

-- where a name is one, the limit alone refuses
limited : (full : Bool) (m : Result ℕ Fault) → (m ≡ Err (Refused Limit)) ↔ (full ≡ true) → IfErr m (λ f. (f ≡ Refused Limit) ⊎ (f ≡ Memory)) →
    (r : Refusal) → (m ≡ Err (Refused r)) ↔ (first_refusal ((false, InvalidCharacter) ∷ (full, Limit) ∷ []) ≡ Some r)
limited true m h other r = let is = h.1 refl in (
  λ e. let same : Err (Refused Limit) ≡ Err (Refused r) = sym is ∙ e in cc,
  λ e. let same : Limit ≡ r = cc in is ∙ ap (λ (q : Refusal). Err (Refused q)) same,
)
limited false m h other r = (from m h other, λ e. absurd cc)
  where
    from : (m : Result ℕ Fault) → (m ≡ Err (Refused Limit)) ↔ (false ≡ true) → IfErr m (λ f. (f ≡ Refused Limit) ⊎ (f ≡ Memory)) →
        m ≡ Err (Refused r) → first_refusal ((false, InvalidCharacter) ∷ (false, Limit) ∷ []) ≡ Some r
    from (Ok x) h other e = absurd cc
    from (Err f) h (inl is) e = let none = h.0 (ap Err is) in absurd cc
    from (Err f) h (inr is) e = absurd cc

pub invariant_of-self : goal.invariant_of-self
invariant_of-self c =
    let b = c.self.inside.parts in
    let o = c.args.owner in
    node-made b c.add.new.self (record { alone = c.laws.ensures.alone; parts = c.laws.ensures.parts; stand = c.laws.ensures.stand }) c.self.invariant o
    (node_from b.names (next_name (part_of b.world o)) c.args.node) c.requires.no_shadow c.add.result c.add.ensures.world c.add.ensures.err

pub returns-clause-refused : goal.returns-clause-refused
returns-clause-refused c r =
    subst (λ (z : Bool). (c.add.result ≡ Err (Refused r)) ↔
    (first_refusal ((z, InvalidCharacter) ∷ (past_limit (part_of c.args.self.now.world c.args.owner).node_count 1, Limit) ∷ []) ≡ Some r))
    (sym c.if-is_misnamed.false ∙ c.is_misnamed.ensures)
    (subst (λ (d : DocState). (c.add.result ≡ Err (Refused r)) ↔
    (first_refusal ((false, InvalidCharacter) ∷ (past_limit (part_of d.world c.args.owner).node_count 1, Limit) ∷ []) ≡ Some r)) c.self.view_is
    (limited (past_limit (part_of c.self.inside.parts.world c.args.owner).node_count 1) c.add.result c.add.ensures.limit c.add.ensures.other r))
