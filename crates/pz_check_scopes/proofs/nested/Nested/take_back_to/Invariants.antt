use Rattle.std.proofs.Common.{◌≡◌, List, max, vec_len}
use Rattle.pz_check_scopes.specs.Scopes.{Note, outermost}
use Rattle.pz_check_scopes.specs.devices.Holding.{Keeps}
use Rattle.pz_check_scopes.proofs.nested.Nested.take_back_to.Given as goal

abbrev pub invariant-loop-self : goal.invariant-loop-self
invariant-loop-self g l = record {
  kept : (notes : List (Note g.row.K.Denot g.row.V.Denot)) → Keeps g.K.PartialEq.eq notes l.fn.self → Keeps g.K.PartialEq.eq (outermost (max l.count (vec_len l.self.changes)) notes) l.self;
  starts : l.self.starts ≡ l.fn.self.starts;
}

abbrev pub decreases-loop-self : goal.decreases-loop-self
decreases-loop-self g l = vec_len l.self.changes
