use Rattle.std.proofs.lemmas.Result.{IfOk-weaker}
use Rattle.pz_check_size.proofs.Orders.{ordered, numbered}
use Rattle.pz_check_size.proofs.counting.counting_order.Goals as goal

pub by_number-requires : goal.by_number-requires
by_number-requires c = numbered c.args.nodes.now _ _ _ _ c.requires c.in_ok-edges.ensures c.as_slice.ensures c.in_ok-numbers.ensures c.as_slice-2.ensures.value

pub returns : goal.returns
returns c = IfOk-weaker c.by_number.result _ _ (λ order placed. ordered c.args.nodes.now _ _ _ _ order.items c.requires c.in_ok-edges.ensures c.as_slice.ensures c.in_ok-numbers.ensures c.as_slice-2.ensures.value placed) c.by_number.ensures
