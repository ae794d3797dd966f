use Rattle.std.proofs.Common.{ℕ, sym, subst}
use Rattle.pz_state.specs.Marks.{IsLatest}
use Rattle.pz_state.proofs.Keeping.{keeps, keep_within}
use Rattle.pz_state.proofs.state.State.keep.Goals as goal

pub keep-requires : goal.keep-requires
keep-requires c = keep_within c.self.inside c.self.view_is c.point.inside.place (subst (λ (p : ℕ). IsLatest c.args.self.now p) (sym c.point.view_is) c.requires)

pub invariant_of-self : goal.invariant_of-self
invariant_of-self c = (keeps c.self.inside c.self.view_is c.self.invariant c.point.inside.place (subst (λ (p : ℕ). IsLatest c.args.self.now p) (sym c.point.view_is) c.requires) c.keep.new.self c.keep.ensures.entries c.keep.ensures.places).kept

pub returns : goal.returns
returns c = (keeps c.self.inside c.self.view_is c.self.invariant c.point.inside.place (subst (λ (p : ℕ). IsLatest c.args.self.now p) (sym c.point.view_is) c.requires) c.keep.new.self c.keep.ensures.entries c.keep.ensures.places).is
