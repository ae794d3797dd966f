use Rattle.std.proofs.Common.{sym, ◌∙◌}
use Rattle.std.proofs.lemmas.Bool.{false≢true}
use Rattle.std.proofs.lemmas.Bool.Decides.{Decides-eqb}
use Rattle.std.proofs.lemmas.Slice.Eq.{starts_is}
use Rattle.pz_run_replaying.proofs.Begins.{starts}
use Rattle.pz_run_replaying.proofs.fronts.front_len.Goals as goal

pub returns-then-starts_with : goal.returns-then-starts_with
returns-then-starts_with c =
    starts c.args.text.now c.args.line.now ((starts_is Decides-eqb c.args.text.now c.args.line.now c.starts_with.result c.starts_with.ensures.value).0 c.if-starts_with.true)

pub returns-else-starts_with : goal.returns-else-starts_with
returns-else-starts_with c = λ rest is.
    false≢true (sym c.if-starts_with.false ∙ (starts_is Decides-eqb c.args.text.now c.args.line.now c.starts_with.result c.starts_with.ensures.value).1 rest is)
