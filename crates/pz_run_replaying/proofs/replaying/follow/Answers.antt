use Rattle.std.proofs.Common.{◌<◌, ◌≤◌, ℕ, suc, List, length, None, Some, subst, ◌∙◌, arith}
use Rattle.pz_io.specs.Writing.{Wrote}
use Rattle.pz_io.specs.declared.writing.Halt.TheVariants.{NoMemory}
use Rattle.pz_run_replaying.proofs.Written.{err_is}
use Rattle.pz_term_simulator.specs.Simulations.{model_in, clock_in}
use Rattle.pz_run_replaying.proofs.Found.{move_some, end_some}
use Rattle.pz_run_replaying.proofs.Looping.{found_move, found_end, found_other, going_none, going_memory, going_cut, going_on, end_cut, going_concluded, going_refused}
use Rattle.pz_run_replaying.proofs.replaying.follow.Goals as goal

pub lines-init : goal.lines-init
lines-init g c = (
  going_none c.rules_are_known.ensures (g.S.Simulator.simulation c.args.sim.now) c.args.trace.now c.args.first (g.W.Sink.state c.args.out.now) c.requires.ready c.requires.short,
  c.requires.room,
)

pub go-requires-clause-room : goal.go-requires-clause-room
go-requires-clause-room g c = c.rules_are_known.ensures.less_room (length c.lines.rest.now) 0 (g.S.Simulator.simulation c.lines.sim) (omega arith) c.lines.invariant.1

pub go-requires-clause-may : goal.go-requires-clause-may
go-requires-clause-may g c =
    let found = found_move (g.S.Simulator.simulation c.lines.sim) c.lines.rest.now c.in-Goes.step c.in-Goes.len (rw c.in-Goes.is at c.in_ok-step.ensures.judges) in
    found.may

pub behind-rest-requires : goal.behind-rest-requires
behind-rest-requires g c =
    let found = found_move (g.S.Simulator.simulation c.lines.sim) c.lines.rest.now c.in-Goes.step c.in-Goes.len (rw c.in-Goes.is at c.in_ok-step.ensures.judges) in
    found.begins.within

pub returns-in_err-step : goal.returns-in_err-step
returns-in_err-step g c =
    rw (err_is c.from_residual.result NoMemory c.from_residual.ensures.1)
    (going_memory c.rules_are_known.ensures (g.S.Simulator.simulation c.args.sim.now) c.args.trace.now c.args.first (g.W.Sink.state c.args.out.now)
    (g.S.Simulator.simulation c.lines.sim) c.lines.rest.now c.lines.number (g.W.Sink.state c.lines.out) c.lines.invariant.0 (g.S.Simulator.simulation c.lines.sim))

pub returns-in_err-go-in-Goes : goal.returns-in_err-go-in-Goes
returns-in_err-go-in-Goes g c =
    let s = g.S.Simulator.simulation c.lines.sim in
    let found = found_move s c.lines.rest.now c.in-Goes.step c.in-Goes.len (rw c.in-Goes.is at c.in_ok-step.ensures.judges) in
    let before = g.W.Sink.state c.lines.out in
    let after = g.W.Sink.state c.go.new.out in
    let halt = c.in_err-go-in-Goes.field-0.0 in
    let wrote : Wrote before after found.line (Some halt) = subst (λ (l : List ℕ). Wrote before after l (Some halt)) (c.front.ensures ∙ found.begins.front) c.in_err-go-in-Goes.ensures.wrote in
    rw (err_is c.from_residual-in_err-go-in-Goes.result halt c.from_residual-in_err-go-in-Goes.ensures.1)
    (going_cut c.rules_are_known.ensures (g.S.Simulator.simulation c.args.sim.now) c.args.trace.now c.args.first (g.W.Sink.state c.args.out.now)
    s c.lines.rest.now c.lines.number before c.lines.invariant.0 c.in_ok-step.ensures.few c.in-Goes.step c.in-Goes.len found after (g.S.Simulator.simulation c.go.new.sim) halt wrote)

pub overflow_add-number : goal.overflow_add-number
overflow_add-number g c =
    let s = g.S.Simulator.simulation c.lines.sim in
    let found = found_move s c.lines.rest.now c.in-Goes.step c.in-Goes.len (rw c.in-Goes.is at c.in_ok-step.ensures.judges) in
    omega (arith, c.lines.invariant.0.short, found.begins.counted, found.begins.within, move_some s c.in-Goes.step found.line found.of)

pub lines-smaller : goal.lines-smaller
lines-smaller g c =
    let s = g.S.Simulator.simulation c.lines.sim in
    let found = found_move s c.lines.rest.now c.in-Goes.step c.in-Goes.len (rw c.in-Goes.is at c.in_ok-step.ensures.judges) in
    let less : length c.behind-rest.result.now < length c.lines.rest.now = omega (arith, c.behind-rest.ensures.left, found.begins.counted, move_some s c.in-Goes.step found.line found.of) in
    less

pub lines-preserved : goal.lines-preserved
lines-preserved g c =
    let s = g.S.Simulator.simulation c.lines.sim in
    let t = g.S.Simulator.simulation c.go.new.sim in
    let found = found_move s c.lines.rest.now c.in-Goes.step c.in-Goes.len (rw c.in-Goes.is at c.in_ok-step.ensures.judges) in
    let before = g.W.Sink.state c.lines.out in
    let after = g.W.Sink.state c.go.new.out in
    let wrote : Wrote before after found.line None = subst (λ (l : List ℕ). Wrote before after l None) (c.front.ensures ∙ found.begins.front) c.in_ok-go-in-Goes.ensures.wrote in
    let shorter : suc (length c.behind-rest.result.now) ≤ length c.lines.rest.now = omega (arith, c.behind-rest.ensures.left, found.begins.counted, move_some s c.in-Goes.step found.line found.of) in (
      rw (c.behind-rest.ensures.rest)
          (going_on c.rules_are_known.ensures (g.S.Simulator.simulation c.args.sim.now) c.args.trace.now c.args.first (g.W.Sink.state c.args.out.now)
          s c.lines.rest.now c.lines.number before c.lines.invariant.0 c.in_ok-step.ensures.few c.in-Goes.step c.in-Goes.len found t after c.in_ok-go-in-Goes.ensures.moves c.in_ok-go-in-Goes.ensures.setting wrote),
      c.in_ok-go-in-Goes.ensures.room (length c.behind-rest.result.now) (c.rules_are_known.ensures.less_room (length c.lines.rest.now) (suc (length c.behind-rest.result.now)) s shorter c.lines.invariant.1),
    )

pub returns-in_err-put-in-Ends : goal.returns-in_err-put-in-Ends
returns-in_err-put-in-Ends g c =
    let s = g.S.Simulator.simulation c.lines.sim in
    let found = found_end s c.lines.rest.now c.in-Ends.ending c.in-Ends.len (rw c.in-Ends.is at c.in_ok-step.ensures.judges) in
    let before = g.W.Sink.state c.lines.out in
    let after = g.W.Sink.state c.put.new.out in
    let halt = c.in_err-put-in-Ends.field-0.0 in
    let wrote = subst (λ (l : List ℕ). Wrote before after l (Some halt)) (c.front-in-Ends.ensures ∙ found.begins.front) c.in_err-put-in-Ends.ensures.wrote in
    rw (err_is c.from_residual-in_err-put-in-Ends.result halt c.from_residual-in_err-put-in-Ends.ensures.1)
    (end_cut c.rules_are_known.ensures (g.S.Simulator.simulation c.args.sim.now) c.args.trace.now c.args.first (g.W.Sink.state c.args.out.now)
    s c.lines.rest.now c.lines.number before c.lines.invariant.0 c.in_ok-step.ensures.few c.in-Ends.ending c.in-Ends.len found after s halt wrote)

pub overflow_add-number-in-Ends : goal.overflow_add-number-in-Ends
overflow_add-number-in-Ends g c =
    let s = g.S.Simulator.simulation c.lines.sim in
    let found = found_end s c.lines.rest.now c.in-Ends.ending c.in-Ends.len (rw c.in-Ends.is at c.in_ok-step.ensures.judges) in
    omega (arith, c.lines.invariant.0.short, found.begins.counted, found.begins.within, end_some (model_in s) (clock_in s) c.in-Ends.ending)

pub behind-requires : goal.behind-requires
behind-requires g c =
    let found = found_end (g.S.Simulator.simulation c.lines.sim) c.lines.rest.now c.in-Ends.ending c.in-Ends.len (rw c.in-Ends.is at c.in_ok-step.ensures.judges) in
    found.begins.within

pub returns-in-Ends : goal.returns-in-Ends
returns-in-Ends g c =
    let s = g.S.Simulator.simulation c.lines.sim in
    let found = found_end s c.lines.rest.now c.in-Ends.ending c.in-Ends.len (rw c.in-Ends.is at c.in_ok-step.ensures.judges) in
    let before = g.W.Sink.state c.lines.out in
    let mid = g.W.Sink.state c.put.new.out in
    let after = g.W.Sink.state c.conclude.new.out in
    let wrote = subst (λ (l : List ℕ). Wrote before mid l None) (c.front-in-Ends.ensures ∙ found.begins.front) c.in_ok-put-in-Ends.ensures.wrote in
    going_concluded c.rules_are_known.ensures (g.S.Simulator.simulation c.args.sim.now) c.args.trace.now c.args.first (g.W.Sink.state c.args.out.now)
    s c.lines.rest.now c.lines.number before c.lines.invariant.0 c.in_ok-step.ensures.few c.in-Ends.ending c.in-Ends.len found mid after c.conclude.result wrote
    (rw c.behind.ensures.rest at c.conclude.ensures)

pub returns-in-Differs : goal.returns-in-Differs
returns-in-Differs g c =
    let s = g.S.Simulator.simulation c.lines.sim in
    let found = found_other s c.lines.rest.now c.in-Differs.expected (rw c.in-Differs.is at c.in_ok-step.ensures.judges) in
    going_refused c.rules_are_known.ensures (g.S.Simulator.simulation c.args.sim.now) c.args.trace.now c.args.first (g.W.Sink.state c.args.out.now)
    s c.lines.rest.now c.lines.number (g.W.Sink.state c.lines.out) c.lines.invariant.0 (g.W.Sink.state c.refuse.new.out) c.in-Differs.expected c.refuse.result found c.refuse.ensures.wrote c.refuse.ensures.refused
