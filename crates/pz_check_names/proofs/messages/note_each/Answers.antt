use Rattle.std.proofs.Common.{sym, subst, nat_eq, List, [], ◌∷◌, length, arith}
use Rattle.std.proofs.lemmas.List.{append-nil}
use Rattle.std.specs.Bool.{beq}
use Rattle.std.specs.Option.{unwrap_or}
use Rattle.std.specs.Str.{bytes_eq}
use Rattle.pz_classes_code.specs.pz_syntax.declared.classes.Message.{Message}
use Rattle.pz_check_names.specs.devices.Shown.{ShowsMessages}
use Rattle.pz_check_names.proofs.Shown.{next_shown, all_taken}
use Rattle.pz_check_names.proofs.Sets.{and_assoc}
use Rattle.pz_check_names.proofs.messages.note_each.Goals as goal

pub loop-message-init : goal.loop-message-init
loop-message-init c = λ own outer shown. subst (λ (ms : List Message). ShowsMessages (ms ∷ outer) c.args.noted.now) (sym (append-nil own)) shown

pub loop-message-preserved : goal.loop-message-preserved
loop-message-preserved c = λ own outer shown.
    let x = c.message-item.result in
    let made = c.new-signal.ensures in
    next_shown _ _ own c.args.messages.now outer c.new-signal.result x _ _ _ _ _ c.loop-message-test.true c.message-item.is (omega arith)
    (λ k. rw (made.on, made.directed, made.named, made.counted, c.count_types-count.ensures) (and_assoc (bytes_eq k.port.now x.port.name) (beq k.out x.out) (bytes_eq k.name.now x.name.name) (nat_eq k.count (length (unwrap_or x.types [])))))
    c.in_ok-note.ensures.noted (c.loop-message.invariant own outer shown)

pub returns : goal.returns
returns c = λ own outer shown.
    subst (λ (ms : List Message). ShowsMessages (ms ∷ outer) c.loop-message.noted) (all_taken own c.args.messages.now c.loop-message.message-index c.loop-message-test.false) (c.loop-message.invariant own outer shown)
