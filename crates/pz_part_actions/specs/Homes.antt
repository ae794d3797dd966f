-- A process at home, as its statements see it.
use Rattle.pz_part_queries.specs.pz_classes.CheckedView.{checked_model}
use Rattle.pz_rules.specs.pz_state.States.{StateView}
use Rattle.pz_rules.specs.Settings.{Context}
use Rattle.pz_term_around.specs.pz_part_opening.declared.home.Home.{Home}
use Rattle.pz_part_queries.specs.declared.standpoint.Standpoint.{Standpoint}
use Rattle.pz_part_queries.specs.Standpoints.{seen_from}

-- the standpoint, under the edition at home
abbrev pub standing_at : Standpoint → Home → Standpoint
standing_at here home = record here { limits = record here.limits { edition = home.edition } }

-- of the class at home there, in this state
abbrev pub seen_home : Standpoint → Home → StateView → Context
seen_home here home s = seen_from (checked_model home.checked.now) (standing_at here home) home.class.0 s
