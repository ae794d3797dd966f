use Rattle.std.proofs.Common.{◌≡◌, map, drop}
use Rattle.pz_classes_code.specs.CodeView.{list_view, link_view, sending_view, links_of, sendings_of}
use Rattle.pz_rules.specs.pz_eval_rules.Clocks.{list_names_clock, links_name_clock, sendings_name_clock}
use Rattle.pz_tree_nodes.proofs.clocks.+naming.Given as goal

-- none of those before names it
abbrev pub invariant-any_names_clock-loop-code : goal.invariant-any_names_clock-loop-code
invariant-any_names_clock-loop-code l = list_names_clock (list_view (drop l.code-index l.codes)) ≡ list_names_clock (list_view l.codes)

abbrev pub invariant-links_name_clock-loop-link : goal.invariant-links_name_clock-loop-link
invariant-links_name_clock-loop-link l = links_name_clock (links_of (map link_view (drop l.link-index l.links))) ≡ links_name_clock (links_of (map link_view l.links))

abbrev pub invariant-sendings_name_clock-loop-sending : goal.invariant-sendings_name_clock-loop-sending
invariant-sendings_name_clock-loop-sending l = sendings_name_clock (sendings_of (map sending_view (drop l.sending-index l.sendings))) ≡ sendings_name_clock (sendings_of (map sending_view l.sendings))
