use Rattle.std.proofs.Common.{◌≡◌, ◌∙◌, ◌+◌, refl, sym, subst, max, vec_len, arith}
use Rattle.pz_check_scopes.specs.Scopes.{outermost}
use Rattle.pz_check_scopes.specs.devices.Holding.{Keeps}
use Rattle.pz_check_scopes.proofs.Closing.{keeps_all, keeps_fewer}
use Rattle.pz_check_scopes.proofs.nested.Nested.take_back_to.Goals as goal

pub loop-self-init : goal.loop-self-init
loop-self-init g c = record { kept = λ notes kept. keeps_all g.K.PartialEq.eq c.args.count notes c.args.self.now kept; starts = refl }

pub loop-self-preserved : goal.loop-self-preserved
loop-self-preserved g c = record {
  kept = λ notes kept.
      let eq = g.K.PartialEq.eq in
      let before = c.loop-self.self in
      let after = c.take_back.new.self in
      let left = vec_len after.changes in
      let fewer : left + 1 ≡ vec_len before.changes = c.take_back.ensures.shorter (omega arith) in
      let was : max c.args.count (vec_len before.changes) ≡ left + 1 = omega (arith, fewer) in
      let is : left ≡ max c.args.count left = omega (arith, fewer) in
      let back = keeps_fewer eq left notes before after (sym fewer) c.take_back.ensures.back in
      subst (λ n. Keeps eq (outermost n notes) after) is (back (subst (λ n. Keeps eq (outermost n notes) before) was (c.loop-self.invariant.kept notes kept)));
  starts = c.take_back.ensures.starts ∙ c.loop-self.invariant.starts;
}
