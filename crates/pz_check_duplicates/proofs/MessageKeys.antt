-- Messages by their keys.
use Rattle.std.proofs.Common.{◌≡◌, refl, sym, ap, ◌∙◌, ℕ, Bool, List, map}
use Rattle.pz_classes.specs.pz_syntax.declared.classes.Message.{Message}
use Rattle.pz_classes.specs.pz_classes_rules.RepeatRules.{same_message}
use Rattle.pz_check_duplicates.specs.declared.messages.MessageKey.{MessageKey}
use Rattle.pz_check_duplicates.specs.declared.places.Thing.{Thing}
use Rattle.pz_check_duplicates.specs.devices.Again.{same_key, thing_place, repeats}
use Rattle.pz_check_duplicates.specs.devices.Signals.{signal, signal_of, signal_place, same_signal, message_place}
use Rattle.pz_check_duplicates.proofs.Repeated.{repeats_seen}

-- things that stand for messages repeat where these do
pub messages_repeat : (eq : MessageKey → MessageKey → Bool) → ((x y : Thing MessageKey) → same_key eq x y ≡ same_signal (signal_of x) (signal_of y)) → (rule : ℕ) (things : List (Thing MessageKey)) (messages : List Message)
    → map signal_of things ≡ map signal messages → repeats (same_key eq) thing_place rule things ≡ repeats same_message message_place rule messages
messages_repeat eq alike rule things messages same =
    repeats_seen (same_key eq) thing_place signal_of same_signal signal_place alike (λ x. refl) rule things
    ∙ (ap (repeats same_signal signal_place rule) same
    ∙ sym (repeats_seen same_message message_place signal same_signal signal_place (λ x y. refl) (λ x. refl) rule messages))
