use Rattle.dom_commands.proofs.Cited.{◌≡◌, ℕ, ◌++◌, length, map}
use Rattle.dom_model.proofs.Model.{Listener}
use Rattle.dom_dispatch.specs.Entries.{listeners_in, words_in}
use Rattle.dom_commands.proofs.hearing.words_at.Given as goal

-- those that are put, and those that are left
abbrev pub invariant-loop-listener : goal.invariant-loop-listener
invariant-loop-listener l =
    map (λ words. words_in words.value) l.heard.items ++ map (λ (e : Listener ℕ). e.words) (listeners_in l.listeners.items)
    ≡ map (λ (e : Listener ℕ). e.words) (listeners_in l.initial.listeners.items)

abbrev pub decreases-loop-listener : goal.decreases-loop-listener
decreases-loop-listener l = length l.listeners.items
