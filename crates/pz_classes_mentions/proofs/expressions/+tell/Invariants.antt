use Rattle.std.proofs.Common.{◌≡◌, map, drop}
use Rattle.pz_syntax.specs.ExpressionView.{list_view, link_view, sending_view, links_of, sendings_of}
use Rattle.pz_classes_mentions.specs.Expressions.{mentioned_all, mentioned_links, mentioned_sendings}
use Rattle.pz_classes_mentions.specs.Words.{told}
use Rattle.pz_classes_mentions.proofs.expressions.+tell.Given as goal

abbrev pub invariant-tell_exprs-loop-e : goal.invariant-tell_exprs-loop-e
invariant-tell_exprs-loop-e g l = told (g.L.Listener.after l.listener) l.heard (mentioned_all (list_view (drop l.e-index l.es))) ≡ told (g.L.Listener.after l.listener) l.fn.heard (mentioned_all (list_view l.es))

abbrev pub invariant-tell_links-loop-link : goal.invariant-tell_links-loop-link
invariant-tell_links-loop-link g l = told (g.L.Listener.after l.listener) l.heard (mentioned_links (links_of (map link_view (drop l.link-index l.links)))) ≡ told (g.L.Listener.after l.listener) l.fn.heard (mentioned_links (links_of (map link_view l.links)))

abbrev pub invariant-tell_sendings-loop-sending : goal.invariant-tell_sendings-loop-sending
invariant-tell_sendings-loop-sending g l = told (g.L.Listener.after l.listener) l.heard (mentioned_sendings (sendings_of (map sending_view (drop l.sending-index l.sendings)))) ≡ told (g.L.Listener.after l.listener) l.fn.heard (mentioned_sendings (sendings_of (map sending_view l.sendings)))
