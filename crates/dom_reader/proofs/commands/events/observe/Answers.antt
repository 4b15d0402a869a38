-- The words of `observe` are read one after the other.
use Rattle.dom_base.proofs.Std.{refl}
use Rattle.dom_reader.proofs.commands.events.observe.Goals as goal

pub returns : goal.returns
returns c =
    rw (
      c.in_ok-observer.ensures.read,
      c.in_ok-node.ensures,
      ← c.flag.ensures,
      ← c.flag-2.ensures,
      ← c.flag-3.ensures,
      ← c.flag-4.ensures,
      ← c.flag-5.ensures,
      ← c.flag-6.ensures,
      c.in_ok-last_attribute_filter.ensures,
      c.put.ensures,
    )
    refl
