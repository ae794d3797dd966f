use Rattle.std.proofs.Common.{◌≡◌, ◌≤◌, ◌-◌, length, arith, ap, List}
use Rattle.std.proofs.Math.Logic.{∥∥₁_elim}
use Rattle.std.specs.Coded.{coded_ℕ}
use base.Stored.{Coded-set}
use Rattle.pz_env_tree.specs.pz_env_script.declared.entry.Entry.{Entry}
use Rattle.pz_env.proofs.refusing.entries_of.Goals as goal

pub returns-clause-few : goal.returns-clause-few
returns-clause-few c =
    let over : length c.args.script.now - 100000 ≡ 0 = ∥∥₁_elim c.entries.ensures.written (Coded-set coded_ℕ (length c.args.script.now - 100000) 0) (λ w. (let few : length c.args.script.now ≤ 100000 = w.1.few in omega (arith, few))) in
    let same : length c.entries.result.now ≡ length c.args.script.now = ap (λ (es : List Entry). length es) c.entries.ensures.list in
    omega (arith, over, same)
