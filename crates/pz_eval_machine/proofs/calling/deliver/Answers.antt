use Rattle.std.proofs.Common.{◌≡◌, ap, sym, subst, ◌∙◌, ℕ, Ok, length, arith}
use Rattle.std.specs.Prelude.{All}
use Rattle.std.proofs.lemmas.Result.{IfOk-weaker}
use Rattle.pz_classes_code.specs.pz_value.declared.value.Value.{Value}
use Rattle.pz_classes_code.specs.CodeView.{list_view}
use Rattle.pz_state.specs.Marks.{Seen}
use Rattle.pz_eval_operations.specs.pz_eval_rules.Steps.{reply, runs}
use Rattle.pz_eval_operations.specs.pz_eval_rules.devices.Computed.{Reached, and_then, replied, selectors, evaluated}
use Rattle.pz_eval_operations.specs.declared.replying.Reply.{Reply as Got}
use Rattle.pz_eval_operations.specs.declared.replying.Reply.TheVariants as got
use Rattle.pz_eval_operations.specs.declared.task.Site.{Site}
use Rattle.pz_eval_operations.specs.devices.Sites.{place_of, locals_at, memory_of}
use Rattle.pz_eval_operations.specs.devices.Views.{sendings_view}
use Rattle.pz_eval_machine.specs.devices.Tasks.{pending, coming, unwound}
use Rattle.pz_eval_machine.specs.devices.Steps.{root}
use Rattle.pz_eval_operations.specs.devices.Within.{RequestWithin, ActivationWithin}
use Rattle.pz_eval_machine.specs.devices.Weights.{load}
use Rattle.pz_eval_machine.proofs.Going.{goes_same}
use Rattle.pz_eval_machine.proofs.Replied.{is_answer, is_run, is_stop, run_same, reply_within, got_answer, got_run, got_stop}
use Rattle.pz_eval_machine.proofs.Unwinding.{goes_unwound, stops_unwound, on_ok}
use Rattle.pz_eval_machine.proofs.Weighing.{no_more_units}
use Rattle.pz_eval_machine.proofs.calling.deliver.Goals as goal

pub go_on_selectors-requires-clause-receiver : goal.go_on_selectors-requires-clause-receiver
go_on_selectors-requires-clause-receiver c = reply_within c.ask.result (got.Answers c.in-Ok-Answers.value) (length c.ask.new.state.held.objects) (c.in-Ok-Answers.is ∙ ap (λ (x : Got). Ok x) c.in-Ok-Answers.field-0-is) c.ask.ensures.within

pub go_on_selectors-requires-clause-within : goal.go_on_selectors-requires-clause-within
go_on_selectors-requires-clause-within c = subst (λ (n : ℕ). ActivationWithin n c.args.activation.now) (sym c.ask.ensures.count) c.requires.within

pub returns-in-Ok-Answers-clause-goes : goal.returns-in-Ok-Answers-clause-goes
returns-in-Ok-Answers-clause-goes c model known =
    let answered = is_answer c.ask.result c.in-Ok-Answers.value (reply model c.args.request.receiver c.args.request.selector.now c.args.request.arguments.items (memory_of c.args.activation.now c.args.state.now.held)) (memory_of c.args.activation.now c.ask.new.state.held) (c.in-Ok-Answers.is ∙ ap (λ (x : Got). Ok x) c.in-Ok-Answers.field-0-is) (c.ask.ensures.replies model (locals_at c.args.activation.now.site c.args.activation.now.locals.items) known) in
    goes_same (λ k. unwound model c.args.basis.clock c.args.callers.now.items (coming model c.args.basis.clock c.go_on_selectors.new.activation c.ask.new.state.held c.go_on_selectors.new.units k)) c.go_on_selectors.result c.go_on_selectors.new.units
    (ap (λ (x : Reached Value). unwound model c.args.basis.clock c.args.callers.now.items (and_then x (pending model c.args.basis.clock (place_of c.args.activation.now.site) c.args.activation.now.tasks.items))) (sym (got_answer model c.args.basis.clock c.args.request.depth c.args.request.receiver c.args.request.selector.now c.args.request.arguments.items (memory_of c.args.activation.now c.args.state.now.held) c.args.units.now (λ z. selectors model c.args.basis.clock (evaluated model c.args.basis.clock c.args.request.depth) (place_of c.args.activation.now.site) z (sendings_view c.args.request.more.now)) c.in-Ok-Answers.value (memory_of c.args.activation.now c.ask.new.state.held) answered)))
    (goes_unwound model c.args.basis.clock c.args.callers.now.items (coming model c.args.basis.clock c.go_on_selectors.new.activation c.ask.new.state.held c.go_on_selectors.new.units) c.go_on_selectors.result c.go_on_selectors.new.units
    (and_then (selectors model c.args.basis.clock (evaluated model c.args.basis.clock c.args.request.depth) (place_of c.args.activation.now.site) c.in-Ok-Answers.value (sendings_view c.args.request.more.now) (memory_of c.args.activation.now c.ask.new.state.held) c.args.units.now) (pending model c.args.basis.clock (place_of c.args.activation.now.site) c.args.activation.now.tasks.items)) (c.go_on_selectors.ensures.goes model c.args.basis.clock))

pub returns-in-Ok-Answers-clause-root : goal.returns-in-Ok-Answers-clause-root
returns-in-Ok-Answers-clause-root c = on_ok c.go_on_selectors.result (ap (λ (s : Site). root c.args.callers.now.items (place_of s)) c.go_on_selectors.ensures.site)

pub returns-in-Ok-Answers-clause-within : goal.returns-in-Ok-Answers-clause-within
returns-in-Ok-Answers-clause-within c =
    IfOk-weaker c.go_on_selectors.result _ _ (λ k kept. (subst (λ (n : ℕ). All (ActivationWithin n) c.args.callers.now.items) (sym c.ask.ensures.count) c.requires.callers, kept.0, kept.1)) c.go_on_selectors.ensures.within

pub returns-in-Ok-Answers-clause-units : goal.returns-in-Ok-Answers-clause-units
returns-in-Ok-Answers-clause-units c = no_more_units c.go_on_selectors.result c.args.units.now c.go_on_selectors.new.units _ (λ k. load k c.go_on_selectors.new.activation.tasks.items) c.go_on_selectors.ensures.weighs

pub returns-in-Ok-Runs-clause-goes : goal.returns-in-Ok-Runs-clause-goes
returns-in-Ok-Runs-clause-goes c model known =
    let is : c.ask.result ≡ Ok (got.Runs c.in-Ok-Runs.object c.in-Ok-Runs.method) = c.in-Ok-Runs.is ∙ ap (λ (x : Got). Ok x) c.in-Ok-Runs.field-0-is in
    let run = is_run c.ask.result c.in-Ok-Runs.object c.in-Ok-Runs.method (reply model c.args.request.receiver c.args.request.selector.now c.args.request.arguments.items (memory_of c.args.activation.now c.args.state.now.held)) (memory_of c.args.activation.now c.ask.new.state.held) is (c.ask.ensures.replies model (locals_at c.args.activation.now.site c.args.activation.now.locals.items) known) in
    let same = run_same c.ask.result c.in-Ok-Runs.object c.in-Ok-Runs.method (c.ask.new.state ≡ c.args.state.now) is c.ask.ensures.same in
    goes_same (λ k. unwound model c.args.basis.clock c.call.new.callers.items (coming model c.args.basis.clock c.call.new.activation c.ask.new.state.held c.args.units.now k)) c.call.result c.args.units.now
    (ap (λ (t : Seen). unwound model c.args.basis.clock c.args.callers.now.items (and_then (and_then (replied model c.args.basis.clock (evaluated model c.args.basis.clock c.args.request.depth) (runs c.in-Ok-Runs.object c.in-Ok-Runs.method.locals (list_view c.in-Ok-Runs.method.code.now)) c.args.request.arguments.items (memory_of c.args.activation.now t.held) c.args.units.now) (λ z. selectors model c.args.basis.clock (evaluated model c.args.basis.clock c.args.request.depth) (place_of c.args.activation.now.site) z (sendings_view c.args.request.more.now))) (pending model c.args.basis.clock (place_of c.args.activation.now.site) c.args.activation.now.tasks.items))) same
    ∙ ap (λ (x : Reached Value). unwound model c.args.basis.clock c.args.callers.now.items (and_then x (pending model c.args.basis.clock (place_of c.args.activation.now.site) c.args.activation.now.tasks.items))) (sym (got_run model c.args.basis.clock c.args.request.depth c.args.request.receiver c.args.request.selector.now c.args.request.arguments.items (memory_of c.args.activation.now c.args.state.now.held) c.args.units.now (λ z. selectors model c.args.basis.clock (evaluated model c.args.basis.clock c.args.request.depth) (place_of c.args.activation.now.site) z (sendings_view c.args.request.more.now)) c.in-Ok-Runs.object c.in-Ok-Runs.method.locals (list_view c.in-Ok-Runs.method.code.now) run)))
    (c.call.ensures.goes model c.args.basis.clock c.ask.new.state.held c.args.units.now)

pub returns-in-Ok-Runs-clause-within : goal.returns-in-Ok-Runs-clause-within
returns-in-Ok-Runs-clause-within c =
    IfOk-weaker c.call.result _ _
    (λ k kept.
    let there = reply_within c.ask.result (got.Runs c.in-Ok-Runs.object c.in-Ok-Runs.method) (length c.ask.new.state.held.objects) (c.in-Ok-Runs.is ∙ ap (λ (x : Got). Ok x) c.in-Ok-Runs.field-0-is) c.ask.ensures.within in
    kept (length c.ask.new.state.held.objects) there (subst (λ (n : ℕ). All (ActivationWithin n) c.args.callers.now.items) (sym c.ask.ensures.count) c.requires.callers) (subst (λ (n : ℕ). ActivationWithin n c.args.activation.now) (sym c.ask.ensures.count) c.requires.within)
    (subst (λ (n : ℕ). RequestWithin n c.args.request) (sym c.ask.ensures.count) c.requires.request)) c.call.ensures.within

pub returns-in-Ok-Runs-clause-units : goal.returns-in-Ok-Runs-clause-units
returns-in-Ok-Runs-clause-units c = on_ok c.call.result (omega arith)

pub returns-clause-goes : goal.returns-clause-goes
returns-clause-goes c model known =
    stops_unwound model c.args.basis.clock c.in-Err.stop c.args.callers.now.items (and_then (and_then (replied model c.args.basis.clock (evaluated model c.args.basis.clock c.args.request.depth) (reply model c.args.request.receiver c.args.request.selector.now c.args.request.arguments.items (memory_of c.args.activation.now c.args.state.now.held)) c.args.request.arguments.items (memory_of c.args.activation.now c.args.state.now.held) c.args.units.now) (λ z. selectors model c.args.basis.clock (evaluated model c.args.basis.clock c.args.request.depth) (place_of c.args.activation.now.site) z (sendings_view c.args.request.more.now))) (pending model c.args.basis.clock (place_of c.args.activation.now.site) c.args.activation.now.tasks.items)) c.args.units.now
    (got_stop model c.args.basis.clock c.args.request.depth c.args.request.receiver c.args.request.selector.now c.args.request.arguments.items (memory_of c.args.activation.now c.args.state.now.held) c.args.units.now (λ z. selectors model c.args.basis.clock (evaluated model c.args.basis.clock c.args.request.depth) (place_of c.args.activation.now.site) z (sendings_view c.args.request.more.now)) c.in-Err.stop (memory_of c.args.activation.now c.ask.new.state.held) (pending model c.args.basis.clock (place_of c.args.activation.now.site) c.args.activation.now.tasks.items) (is_stop c.ask.result c.in-Err.stop (reply model c.args.request.receiver c.args.request.selector.now c.args.request.arguments.items (memory_of c.args.activation.now c.args.state.now.held)) (memory_of c.args.activation.now c.ask.new.state.held) c.in-Err.is (c.ask.ensures.replies model (locals_at c.args.activation.now.site c.args.activation.now.locals.items) known)))
