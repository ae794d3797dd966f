use Rattle.std.proofs.Common.{◌≡◌, ◌∙◌, sym, ap, arith, drop, ◌+◌}
use Rattle.std.proofs.lemmas.Grind.{common_steps}
use Rattle.pz_io.specs.Mem.{mem_state}
use Rattle.pz_io.specs.Entries.{rest_of}
use Rattle.pz_io.proofs.Places.{rest_of-add}
use Rattle.pz_io.proofs.mem.MemFilesFiles.read.Goals as goal

pub returns-clause-bytes : goal.returns-clause-bytes
returns-clause-bytes c =
    let here : c.rest-left.result.now ≡ (mem_state c.args.self.now).rest = cc in
    let after : rest_of c.args.self.now.entries.items c.args.self.now.current (c.args.self.now.handed + c.min-n.result) ≡ drop c.min-n.result c.rest-left.result.now = rest_of-add c.args.self.now.entries.items c.args.self.now.current c.args.self.now.handed c.min-n.result ∙ ap (drop c.min-n.result) (sym here) in
    rw after (grind (arith, common_steps))
