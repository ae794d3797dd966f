use Rattle.std.proofs.lemmas.Option.{slice_get-get_or}
use Rattle.std.proofs.Common.{sym, ap, Some, ◌∙◌}
use Rattle.pz_check_calls.proofs.Raisings.{large_test}
use Rattle.pz_check_calls.specs.declared.graph.Method.{Method}
use Rattle.pz_check_calls.proofs.counting.is_large.Goals as goal

pub returns : goal.returns
returns c =
    let found : Method = c.index-methods-method.result in
    large_test c.args.methods.now c.args.totals.now c.requires.totals c.args.method found c.as_slice.result.now c.total_with.result
    (slice_get-get_or c.args.methods.now c.args.method found c.requires.within ∙ ap (λ (r : Method). Some r) (sym c.index-methods-method.is)) c.as_slice.ensures c.total_with.ensures
