-- The number is put between the smaller ones and the greater ones.
use Rattle.std.proofs.Common.{sym, subst, ℕ, List}
use Rattle.std.specs.Prelude.{Contains}
use Rattle.pz_match_lists.proofs.Inserting.{wanting, keeps_inserted, increasing_inserted}
use Rattle.pz_match_lists.proofs.numbers.Numbers.add.Goals as goal

pub invariant_of-self-in-Err : goal.invariant_of-self-in-Err
invariant_of-self-in-Err c =
    let at = wanting c.self.inside.numbers.items c.deref.result.now c.in-Err.place c.args.number c.deref.ensures.value c.self.invariant c.in-Err.ensures.position in
    rw c.in_ok-insert-in-Err.ensures.items (increasing_inserted c.self.inside.numbers.items c.in-Err.place c.args.number at.0 c.self.invariant at.1 at.2)

pub returns-in_ok-insert-in-Err-clause-keeps : goal.returns-in_ok-insert-in-Err-clause-keeps
returns-in_ok-insert-in-Err-clause-keeps c n has =
    let at = wanting c.self.inside.numbers.items c.deref.result.now c.in-Err.place c.args.number c.deref.ensures.value c.self.invariant c.in-Err.ensures.position in
    rw c.in_ok-insert-in-Err.ensures.items (keeps_inserted c.self.inside.numbers.items c.in-Err.place c.args.number at.0 n (subst (λ (ms : List ℕ). Contains ms n) (sym c.self.view_is) has))
