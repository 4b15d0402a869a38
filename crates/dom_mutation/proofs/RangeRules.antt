-- Each rule for boundary points rewrites those of the owner of the changed nodes alone.
use Rattle.dom_mutation.proofs.Cited.{◌≡◌, ◌≢◌, ℕ, ◌+◌, ◌-◌, Bool, true, false, not, cond, ◌&&◌, ◌||◌, eqb, nat_lt, nat_le, sym, ap, ◌∙◌, NodeName, Owner}
use Rattle.dom_mutation.proofs.Cited.{name_eq, Trees, is_inclusive_ancestor, Boundary, at, boundary_eq, after_insert, after_removal, after_replace_data}
use Rattle.dom_mutation.proofs.Cited.{after_split, after_join, AreOwned, IsRuleOf}
use Rattle.dom_mutation.proofs.Keeping.{apart_above}
use Rattle.dom_worlds.proofs.ShadowTreeLemmas.{other-owner}

-- one of two points of an owner
either_own : (o : Owner) (t : Bool) (b c : Boundary NodeName) → b.node.owner ≡ o → c.node.owner ≡ o → (cond t b c).node.owner ≡ o
either_own o true b c h g = h
either_own o false b c h g = g

module _ (o : Owner) where
  -- a point of another owner is not at a node of this one
  apart : (x : NodeName) → x.owner ≡ o → (b : Boundary NodeName) → b.node.owner ≢ o → name_eq b.node x ≡ false
  apart x own b other = other-owner b.node x (λ e. other (e ∙ own))

  pub removal_rule : {ts : Trees} → AreOwned ts → (x parent : NodeName) (index : ℕ) → x.owner ≡ o → parent.owner ≡ o →
      IsRuleOf o (after_removal name_eq (is_inclusive_ancestor ts x) parent index)
  removal_rule {ts} owned x parent index is own = record {
    stays = λ b h.
        either_own o (is_inclusive_ancestor ts x b.node) (at parent index)
        (cond (name_eq b.node parent && nat_lt index b.offset) (at parent (b.offset - 1)) b) own
        (either_own o (name_eq b.node parent && nat_lt index b.offset) (at parent (b.offset - 1)) b own h);
    others = λ b h.
        ap (λ t. cond t (at parent index) (cond (name_eq b.node parent && nat_lt index b.offset) (at parent (b.offset - 1)) b))
        (apart_above ts owned x b.node (λ e. h (sym e ∙ is)))
        ∙ ap (λ t. cond (t && nat_lt index b.offset) (at parent (b.offset - 1)) b) (apart parent own b h);
  }

  pub replace_data_rule : (x : NodeName) (offset count size : ℕ) → x.owner ≡ o → IsRuleOf o (after_replace_data name_eq x offset count size)
  replace_data_rule x offset count size own = record {
    stays = λ b h.
        either_own o (not (name_eq b.node x) || nat_le b.offset offset) b
        (cond (nat_le b.offset (offset + count)) (at x offset) (at x (b.offset + size - count))) h
        (either_own o (nat_le b.offset (offset + count)) (at x offset) (at x (b.offset + size - count)) own own);
    others = λ b h. ap (λ t. cond (not t || nat_le b.offset offset) b
        (cond (nat_le b.offset (offset + count)) (at x offset) (at x (b.offset + size - count)))) (apart x own b h);
  }

  -- rules that speak of an index in a node of the owner
  module _ (parent : NodeName) (above : parent.owner ≡ o) (index : ℕ) where
    pub insert_rule : (count : ℕ) → IsRuleOf o (after_insert name_eq parent index count)
    insert_rule count = record {
      stays = λ b h. either_own o (name_eq b.node parent && nat_lt index b.offset) (at parent (b.offset + count)) b above h;
      others = λ b h. ap (λ t. cond (t && nat_lt index b.offset) (at parent (b.offset + count)) b) (apart parent above b h);
    }

    pub split_rule : (x : NodeName) (offset : ℕ) (new : NodeName) → x.owner ≡ o → new.owner ≡ o → IsRuleOf o (after_split name_eq x offset new parent index)
    split_rule x offset new own fresh = record {
      stays = λ b h.
          either_own o (name_eq b.node x && nat_lt offset b.offset) (at new (b.offset - offset))
          (cond (boundary_eq name_eq b (at parent (index + 1))) (at parent (index + 2)) b) fresh
          (either_own o (boundary_eq name_eq b (at parent (index + 1))) (at parent (index + 2)) b above h);
      others = λ b h.
          ap (λ t. cond (t && nat_lt offset b.offset) (at new (b.offset - offset))
          (cond (boundary_eq name_eq b (at parent (index + 1))) (at parent (index + 2)) b)) (apart x own b h)
          ∙ ap (λ t. cond (t && eqb b.offset (index + 1)) (at parent (index + 2)) b) (apart parent above b h);
    }

    pub join_rule : (first : NodeName) (size : ℕ) (next : NodeName) → first.owner ≡ o → next.owner ≡ o →
        IsRuleOf o (after_join name_eq first size next parent index)
    join_rule first size next own after = record {
      stays = λ b h.
          either_own o (name_eq b.node next) (at first (b.offset + size)) (cond (boundary_eq name_eq b (at parent index)) (at first size) b) own
          (either_own o (boundary_eq name_eq b (at parent index)) (at first size) b own h);
      others = λ b h.
          ap (λ t. cond t (at first (b.offset + size)) (cond (boundary_eq name_eq b (at parent index)) (at first size) b)) (apart next after b h)
          ∙ ap (λ t. cond (t && eqb b.offset index) (at first size) b) (apart parent above b h);
    }
