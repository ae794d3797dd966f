use Rattle.std.proofs.Common.{◌<◌, ◌^◌, List, length, arith}
use Rattle.pz_env_mimics.specs.pz_env_script.declared.entry.Entry.{Entry}
use Rattle.pz_env_mimics.specs.pz_env_script.Scripts.{IsWritten}
use Rattle.pz_env_joined.proofs.laws.closed_tree_closes.Goals as goal

-- a written script has at most 100,000 lines
few : (script : List Entry) → IsWritten script → length script < 2 ^ 64
few script (text, is) = let most = is.few in omega (arith, most)

pub returns : goal.returns
returns c = record {
  law = λ m script limits sound opens written accepted may. record {
    rules = c.closed_has_same_rules.ensures.law m script sound opens accepted;
    environment = c.closed_has_environment.ensures.law m script limits sound opens accepted (few script written);
    lines = c.written_lines_are_plain.ensures.law script written;
    limits = may;
  };
}
