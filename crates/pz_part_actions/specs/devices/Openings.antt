-- What opens for a part that acts, in the code's words.
use Rattle.std.specs.Prelude.{◌≡◌, ◌<◌, Result, Ok, Err}
use Rattle.pz_classes_code.specs.pz_syntax.declared.tokens.Pos.{Pos}
use Rattle.pz_rules.specs.pz_state.Marks.{Seen}
use Rattle.pz_rules.specs.pz_offer.declared.trouble.Trouble.{Trouble}
use Rattle.pz_rules.specs.pz_offer.declared.trouble.Trouble.TheVariants.{High}
use Rattle.pz_rules.specs.declared.term.Term.{Term}
use Rattle.pz_rules.specs.Terms.{height}
use Rattle.pz_rules.specs.Settings.{Process}
use Rattle.pz_rules.specs.Becoming.{Became}
use Rattle.pz_rules.specs.View.{term_view}
use Rattle.pz_part_queries.specs.declared.standpoint.Standpoint.{Standpoint}

-- this process, or at this place that its term is too high
abbrev pub OpensAs : Standpoint → Pos → Process → Seen → Seen → Result Term Trouble → Type 0
OpensAs here at x old new (Ok t) = Became x (term_view t) old new
OpensAs here at x old new (Err trouble) = (here.limits.height < height x.term) × (trouble ≡ High here.process at)
