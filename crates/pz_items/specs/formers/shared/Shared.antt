-- How a box holds its value, so that a type may hold a box of itself: it holds it as a `Box`
-- does, and contracts see the value alone.
use mathlib.Core.Path.{refl}
use mathlib.Core.Former.{Former, this, const, pair, via}
use base.Stored.{gnil}
use base.Fml.{ftrue}
use denote.RattleType.{RattleType}
use denote.Memory.{part_of}
use denote.RawPtr.{Ptr}
use denote.Sharing.{nothing}
use denote.HoleLaws.{Alike}
use denote.HolePlaces.{Recodes, struct_places, laid, one_value}
use denote.Hole.Fix.{over}
use denote.Param.Weighed.{Weighed}
use denote.Model.Placed.{view_places}
use Rattle.std.specs.declared.rc.Rc.{Rc}
use Rattle.std.specs.contracts.rc.Rc as box
use Rattle.std.specs.declared.alloc.Global.{Global}
use Rattle.std.specs.contracts.alloc.Global as heap
use Rattle.std.specs.contracts.impls.GlobalAllocator.TheImpl.{ghosts}
use Rattle.pz_items.specs.declared.shared.Shared.TheInside.{Inside}
use Rattle.pz_items.specs.declared.shared.Shared.TheView.{view, invariant}
use Rattle.pz_items.specs.contracts.shared.Shared as contract
use Rattle.pz_items.specs.contracts.shared.Shared.TheInside as inside

-- what contracts see is what they see of the value
abbrev pub the_former : Former {0} → Former {0}
the_former g = g

abbrev pub the_weighed : {g : Former {0}} → Weighed g → Weighed (the_former g)
the_weighed w = w

-- the one field, a pointer with its allocator and the value behind it
abbrev field : Former {0}
field = via (pair (const Ptr) this) Inside (λ X a. (a.inner.ptr, a.inner.value))
    (λ X v. record { inner = record { ptr = v.0; value = v.1 } }) (λ X a. refl) (λ X v. refl)

-- the same box round another value
abbrev refilled : {X Y : Type 0} → Rc X Global → Y → Rc Y Global
refilled b y = record { ptr = b.ptr; value = y }

abbrev box_of : RattleType → RattleType
box_of R = box.the_row R heap.the_row ghosts

module _ (R S : RattleType) (h : R.Denot → S.Denot) where
  box_places : Alike R S h → Alike (box_of R) (box_of S) (λ b. refilled b (h b.value))
  unfolding part_of
  box_places alike = record {
    mir_same = λ i. (box_of (one_value R (alike.mir_same i) (λ _. ftrue) (λ _ _. nothing) gnil)).mir;
    own_same = λ b i. (box_of (one_value R (alike.mir_same i) (alike.own_same b.value i) (alike.shr_same b.value i) gnil)).own_val (refilled b tt);
    shr_same = λ b i. (box_of (one_value R (alike.mir_same i) (alike.own_same b.value i) (alike.shr_same b.value i) gnil)).shr_at (refilled b tt);
  }

  pub the_places : Alike R S h → Alike (contract.the_row R) (contract.the_row S) ((the_former this).map R.Denot S.Denot h)
  the_places alike = view_places field this view (λ X Y k u. refl) (λ X u. refl) R.Denot S.Denot h (contract.the_row R).coded (contract.the_row S).coded
      (invariant R.Denot) (invariant S.Denot) (λ u p q. refl) (λ u p q. refl) (λ u e. tt) (λ u e. tt)
      (over (inside.the_row R)) (over (inside.the_row S))
      (struct_places (inside.the_type R) (inside.the_type S) ((λ b. refilled b (h b.value)), tt) _ (λ d. refl) refl (laid _ _ _ (box_places alike), tt))

  pub the_codes_placed : Recodes R S h → Recodes (contract.the_row R) (contract.the_row S) ((the_former this).map R.Denot S.Denot h)
  the_codes_placed recodes d = recodes d
