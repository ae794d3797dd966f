use Rattle.std.proofs.Common.{ℕ, Result, subst}
use Rattle.pz_rules.specs.pz_offer.declared.trouble.Trouble.{Trouble}
use Rattle.pz_rules.specs.Evaluations.{Lasts}
use Rattle.pz_classes_code.specs.CodeView as code
use Rattle.pz_rules.specs.Terms as terms
use Rattle.pz_classes_code.specs.pz_syntax.Statements as statements
use Rattle.pz_term_processes.specs.pz_part_queries.Standpoints.{seen_from}
use Rattle.pz_term_enabled.proofs.Asks.{delay_waits, delay_troubled, time_few}
use Rattle.pz_term_enabled.proofs.noting.note_delay.Goals as goal

pub returns-in-Ok-clause-adds : goal.returns-in-Ok-clause-adds
returns-in-Ok-clause-adds c = λ m class known.
    c.note_left.ensures (seen_from m c.args.here.now class c.args.state.now.held) c.args.frame.0 (terms.leaf (statements.delay c.args.pos (code.view c.args.time.now)))
    (delay_waits c.evaluations_are_computed.ensures.times (seen_from m c.args.here.now class c.args.state.now.held) c.args.frame.0 c.args.pos (code.view c.args.time.now) c.in-Ok.left (subst (λ (r : Result ℕ Trouble). Lasts (seen_from m c.args.here.now class c.args.state.now.held) c.args.frame.0 c.args.pos (code.view c.args.time.now) r) c.in-Ok.is (c.in_ok-left.ensures.lasts m class known)))
    (λ unbegun. time_few c.in_ok-left.field-0 c.in-Ok.left c.in-Ok.is c.in_ok-left.ensures.short)

pub returns-in-Err-clause-adds : goal.returns-in-Err-clause-adds
returns-in-Err-clause-adds c = λ m class known.
    c.note_trouble.ensures (seen_from m c.args.here.now class c.args.state.now.held) c.args.frame.0 (terms.leaf (statements.delay c.args.pos (code.view c.args.time.now)))
    (delay_troubled c.evaluations_are_computed.ensures.times (seen_from m c.args.here.now class c.args.state.now.held) c.args.frame.0 c.args.pos (code.view c.args.time.now) c.in-Err.trouble (subst (λ (r : Result ℕ Trouble). Lasts (seen_from m c.args.here.now class c.args.state.now.held) c.args.frame.0 c.args.pos (code.view c.args.time.now) r) c.in-Err.is (c.in_ok-left.ensures.lasts m class known)))
