-- What the commands on ranges are refused for, as the table of ranges tests it and as the definitions say it.
use Rattle.dom_mutation.proofs.Cited.{◌≡◌, ℕ, ◌<◌, true, length, Option, sym, ap, ◌∙◌, nat_lt, option_map, ◌↔◌, lt-ltb, ltb-true, length-map, NodeName, Owner}
use Rattle.dom_mutation.proofs.Cited.{past_limit, past_end, Range, length_of, named_range, RangeLists, ranges_of, name_at, AreOwned, read_own, Contents}
use Rattle.dom_mutation.proofs.Cited.{part_in, AreRangesOf}

module _ (c : Contents) (t : RangeLists) (ranges : AreRangesOf c t) (o : Owner) where
  -- the ranges that an owner has made, dropped ones counted
  pub ranges_counted : length (part_in c o).ranges ≡ length (ranges_of t o)
  ranges_counted = ap (length {A = Option (Range NodeName)}) (ranges.shown o) ∙ length-map (ranges_of t o) (option_map (named_range c.names))

  -- an owner has made as many as it may
  pub limit_read : past_limit (length (ranges_of t o)) 1 ≡ past_limit (length (part_in c o).ranges) 1
  limit_read = ap (λ n. past_limit n 1) (sym ranges_counted)

  -- an offset past a node's length
  pub end_read : AreOwned c.trees → (x offset : ℕ) → (name_at c.names x).owner ≡ o →
      (length_of c.trees (name_at c.names x) < offset) ↔ (past_end (part_in c o) (name_at c.names x) offset ≡ true)
  end_read owned x offset is =
      let same : nat_lt (length_of c.trees (name_at c.names x)) offset ≡ past_end (part_in c o) (name_at c.names x) offset =
      ap (λ n. nat_lt n offset) (read_own c.trees owned o (name_at c.names x) is).size in (
        λ less. sym same ∙ lt-ltb (length_of c.trees (name_at c.names x)) offset less,
        λ e. ltb-true (length_of c.trees (name_at c.names x)) offset (same ∙ e),
      )
