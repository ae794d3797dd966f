-- What parts can do and what their deeds leave, handed on from `pz_tree_acting` to whoever lets a tree act.
pub use Rattle.pz_tree_acting.specs.Acting.{Answers}
pub use Rattle.pz_tree_acting.specs.Deeds.{Ability, CanDo, CanAct, CanSend, CanReceive, able, deed, Leaves}
