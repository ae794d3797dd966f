-- What is kept of the entries is said of what is seen of them.
use Rattle.std.proofs.Common.{subst, List}
use Rattle.pz_env_script.specs.declared.entry.Entry.{Entry}
use Rattle.pz_env_script.specs.Scripts.{IsWritten}
use Rattle.pz_env_script.proofs.script.Script.entries.Goals as goal

pub returns-clause-written : goal.returns-clause-written
returns-clause-written c = subst (λ (es : List Entry). ∥ IsWritten es ∥₁) c.self.view_is c.self.invariant
