use Rattle.std.proofs.Common.{◌≡◌, List, length, ap, arith}
use Rattle.pz_classes_code.specs.pz_value.declared.value.Value.{Value}
use Rattle.pz_copy.specs.pz_state.States.{StateView, locals}
use Rattle.pz_copy.specs.pz_state.Marks.{changed}
use Rattle.pz_eval_binding.proofs.Absent.{no_local}
use Rattle.pz_eval_binding.proofs.writing.write_local.Goals as goal

pub returns-then-slot-locals-clause-ok : goal.returns-then-slot-locals-clause-ok
returns-then-slot-locals-clause-ok c =
    ap (λ (h : StateView). changed c.args.state.now h)
    (no_local c.args.state.now.held c.args.frame.0 c.args.slot c.args.value (let count : length c.locals.result.now ≡ length (locals c.args.state.now.held c.args.frame.0) = ap (λ (vs : List Value). length vs) c.locals.ensures.value in omega (arith, count, c.if-slot-locals.true)))
