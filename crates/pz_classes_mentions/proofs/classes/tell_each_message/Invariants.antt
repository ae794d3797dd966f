use Rattle.std.proofs.Common.{◌≡◌, drop}
use Rattle.pz_classes_mentions.specs.Declarations.{mentioned_messages}
use Rattle.pz_classes_mentions.specs.Words.{told}
use Rattle.pz_classes_mentions.proofs.classes.tell_each_message.Given as goal

abbrev pub invariant-loop-message : goal.invariant-loop-message
invariant-loop-message g l = told (g.L.Listener.after l.listener) l.heard (mentioned_messages (drop l.message-index l.messages)) ≡ told (g.L.Listener.after l.listener) l.fn.heard (mentioned_messages l.messages)
