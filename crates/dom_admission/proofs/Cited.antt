-- What the proofs of this crate cite of std, of the definitions, and of the crates below.
pub use Rattle.dom_base.proofs.Std.{[], ap, Bool, Err, false, filter_map, find, flat_map, fold, ForSome, get_or_from_slice_get}
pub use Rattle.dom_base.proofs.Std.{if◌then◌else◌, inl, inr, is_some, IsErrAnd, length, List, list_all, map, None, not, Ok, Option, option_map, option_map_or}
pub use Rattle.dom_base.proofs.Std.{option_or, or-false, refl, Result, slice_get, slice_get_within, Some, subst, suc, sym, take, true, unwrap_or, zero, ℕ, ◌&&◌}
pub use Rattle.dom_base.proofs.Std.{◌++◌, ◌<◌, ◌||◌, ◌↔◌, ◌∙◌, ◌∷◌, ◌≡◌, ◌⊎◌}
pub use Rattle.dom_admission.specs.Handled.{IsDone, IsHandled, let_pass, passing}
pub use Rattle.dom_admission.specs.Refusals.{accepts_node, are_fitting, are_there, early_refusal, four_tests, has_foreign, is_counted, is_fit, is_kind_at}
pub use Rattle.dom_admission.specs.Refusals.{is_there_as, IsLookedUp, name_named, node_named, number_in}
pub use Rattle.dom_admission.specs.Turned.{opened_turn, turned, with_turn}
pub use Rattle.dom_admission.specs.declared.admission.Operand.{Operand}
pub use Rattle.dom_admission.specs.declared.admission.Operand.TheVariants.{Slot}
pub use Rattle.dom_mutation.specs.Definitions.{DocState, made, MakesSaying, name_in, owner_in, trees_in}
pub use Rattle.dom_reader.specs.Views.{word_view}
pub use Rattle.dom_reader.specs.declared.line.NodeWord.{NodeWord}
pub use Rattle.dom_tree.proofs.Owned.{read_own}
pub use Rattle.dom_tree.specs.Definitions.{AreOwned, IsReadOwn, name_at, trees_of_owner}
