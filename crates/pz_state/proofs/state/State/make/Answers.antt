use Rattle.std.proofs.Common.{◌<◌, length, refl, ap, ◌^◌, arith, rules}
use Rattle.pz_state.specs.States.{StateView, made}
use Rattle.pz_state.specs.Marks.{Seen}
use Rattle.pz_state.proofs.ObjectLists.{same_room}
use Rattle.pz_state.proofs.SelfContained.{contained-made, length-made}
use Rattle.pz_state.proofs.Keeping.{stays, changes_by, goes_on}
use Rattle.pz_state.specs.declared.journal.Change.TheVariants as change
use Rattle.pz_state.proofs.state.State.make.Goals as goal

pub invariant_of-self : goal.invariant_of-self
invariant_of-self c = (stays c.self.inside c.self.view_is c.self.invariant c.self.inside.contents c.reserve.new.self refl (same_room _) c.reserve.ensures.entries c.reserve.ensures.places).kept

pub invariant_of-self-in_err-make : goal.invariant_of-self-in_err-make
invariant_of-self-in_err-make c = (stays c.self.inside c.self.view_is c.self.invariant c.make.new.self c.reserve.new.self c.in_err-make.ensures.err c.make.ensures.room c.reserve.ensures.entries c.reserve.ensures.places).kept

pub invariant_of-self-2 : goal.invariant_of-self-2
invariant_of-self-2 c = (changes_by c.self.inside c.self.view_is c.self.invariant c.make.new.self change.Made c.in_ok-noting.noting c.note.new.self (λ (z : StateView). made z c.args.class c.args.items) c.in_ok-make.ensures.state c.in_ok-make.ensures.back
    (goes_on c.self.inside c.self.invariant c.make.new.self change.Made c.in_ok-noting.noting c.reserve.new.self c.note.new.self c.in_ok-noting.ensures.spared c.in_ok-noting.ensures.marked c.reserve.ensures.entries c.reserve.ensures.places c.note.ensures.entries c.note.ensures.places)
    (contained-made c.self.inside.contents.state c.args.class c.args.items (let few : c.args.items < 2 ^ 32 = search rules in few) c.self.invariant.contained) (let n = length-made c.self.inside.contents.state c.args.class c.args.items in let held = ap (λ (z : Seen). length z.held.objects) c.self.view_is in let count = c.objects-count.ensures.count in let limit = c.objects-count.ensures.limit in let other = c.if-count-eq-OBJECT_LIMIT.false in omega arith)).kept

pub returns-clause-ok : goal.returns-clause-ok
returns-clause-ok c = (changes_by c.self.inside c.self.view_is c.self.invariant c.make.new.self change.Made c.in_ok-noting.noting c.note.new.self (λ (z : StateView). made z c.args.class c.args.items) c.in_ok-make.ensures.state c.in_ok-make.ensures.back
    (goes_on c.self.inside c.self.invariant c.make.new.self change.Made c.in_ok-noting.noting c.reserve.new.self c.note.new.self c.in_ok-noting.ensures.spared c.in_ok-noting.ensures.marked c.reserve.ensures.entries c.reserve.ensures.places c.note.ensures.entries c.note.ensures.places)
    (contained-made c.self.inside.contents.state c.args.class c.args.items (let few : c.args.items < 2 ^ 32 = search rules in few) c.self.invariant.contained) (let n = length-made c.self.inside.contents.state c.args.class c.args.items in let held = ap (λ (z : Seen). length z.held.objects) c.self.view_is in let count = c.objects-count.ensures.count in let limit = c.objects-count.ensures.limit in let other = c.if-count-eq-OBJECT_LIMIT.false in omega arith)).is
