use Rattle.std.proofs.Common.{[], get_or, arith}
use Rattle.std.proofs.lemmas.List.{get_or_default}
use Rattle.pz_env.specs.devices.Ends.{ends_in, named, is_named}
use Rattle.pz_env.proofs.Sets.{any_step, any_done, port_added}
use Rattle.pz_env.proofs.standing.add_ports.Goals as goal

pub loop-place-preserved : goal.loop-place-preserved
loop-place-preserved c = λ e.
    let ports = c.args.ports.now.names in
    let counted = c.len-place-end.ensures in
    let below = c.loop-place-test.true in
    any_step (λ p. is_named e (named c.args.instance.now p)) ports (get_or ports c.loop-place.place []) c.loop-place.place _ _ _ _ (omega (arith, counted, below))
    (get_or_default ports c.loop-place.place [] (get_or ports c.loop-place.place []) (omega (arith, counted, below))) (omega arith)
    (port_added (ends_in c.loop-place.ends) _ e c.args.instance.now c.port_at.result.now (get_or ports c.loop-place.place []) c.port_at.ensures c.in_ok-add.ensures.added)
    (c.loop-place.invariant e)

pub returns : goal.returns
returns c = λ e.
    let counted = c.len-place-end.ensures in
    let past = c.loop-place-test.false in
    any_done (λ p. is_named e (named c.args.instance.now p)) c.args.ports.now.names c.loop-place.place _ _ (omega (arith, counted, past)) (c.loop-place.invariant e)
