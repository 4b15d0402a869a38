-- What a line asks of a thing is refused by the tests that all commands share, and by no other; what it has made at a root only by a limit too.
use Rattle.dom_query_commands.proofs.Cited.{◌≡◌, ℕ, [], ◌∷◌, ◌++◌, length, None, refl, Owner, Filter, NodeWord, effect, own_refusal, named, limit_on, accepted}
use Rattle.dom_query_commands.proofs.Cited.{answers, new_iterator, new_walker, a_walker, an_iterator, Part, World, effecting, IsNaming, namings, Any, word_view}
use Rattle.dom_query_commands.proofs.Cited.{command_of, thing_of, cursor_count, cursor_new, Cursor, Request}
use Rattle.dom_reader.specs.declared.line.NodeWord as line
use Rattle.dom_query_commands.specs.declared.cursors.Cursor.TheVariants as cursors
use Rattle.dom_query_commands.specs.declared.things.Request.TheVariants as asks

-- it names the thing alone, has no refusal of its own, and does what it does in its owner's part
pub record IsAsked (o : Owner) (r : Request) (k : ℕ) : Type 0 where
  pub naming : IsNaming o (command_of r k) (thing_of r k ∷ [])
  pub none : (p : Part) → own_refusal p (command_of r k) ≡ None
  pub runs : (w : World) → accepted w o (command_of r k) ≡ effecting w o (command_of r k)

pub asked : (o : Owner) (r : Request) (k : ℕ) → IsAsked o r k
asked o asks.Next k = record { naming = search namings; none = λ p. refl; runs = λ w. refl }
asked o r k = record { naming = search namings; none = λ p. refl; runs = λ w. refl }

-- A line has an iterator or a walker made at a root: it names the root alone, is refused by the limit, and does what it does in its owner's
-- part, which goes by the node that it names.
pub record MakesCursor (o : Owner) (cursor : Cursor) (root : line.NodeWord) (f : Filter) : Type 0 where
  pub naming : IsNaming o (cursor_new cursor (word_view root) f) (Any root ∷ [])
  pub limit : (p : Part) → own_refusal p (cursor_new cursor (word_view root) f) ≡ limit_on (cursor_count cursor p) 1
  pub runs : (w : World) → accepted w o (cursor_new cursor (word_view root) f) ≡ effecting w o (cursor_new cursor (word_view root) f)
  pub does : (p : Part) (x : NodeWord) (g : Filter) → named p x ≡ named p (word_view root) → g ≡ f →
      effect p (cursor_new cursor x g) ≡ effect p (cursor_new cursor (word_view root) f)

pub makes_cursor : (o : Owner) (cursor : Cursor) (root : line.NodeWord) (f : Filter) → MakesCursor o cursor root f
makes_cursor o cursors.Iterator root f = record {
  naming = search namings;
  limit = λ p. refl;
  runs = λ w. refl;
  does = λ p x g at is j. answers (record p { iterators = p.iterators ++ new_iterator (at j) (is j) ∷ [] }) (an_iterator (length p.iterators));
}
makes_cursor o cursors.Walker root f = record {
  naming = search namings;
  limit = λ p. refl;
  runs = λ w. refl;
  does = λ p x g at is j. answers (record p { walkers = p.walkers ++ new_walker (at j) (is j) ∷ [] }) (a_walker (length p.walkers));
}
