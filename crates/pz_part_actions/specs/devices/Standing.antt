-- A process of the class at home, as its statements see it from a standpoint, in this state.
use Rattle.pz_part_queries.specs.pz_classes.CheckedView.{checked_model}
use Rattle.pz_rules.specs.pz_state.States.{StateView}
use Rattle.pz_rules.specs.Settings.{Context}
use Rattle.pz_term_around.specs.pz_part_opening.declared.home.Home.{Home}
use Rattle.pz_part_queries.specs.declared.standpoint.Standpoint.{Standpoint}
use Rattle.pz_part_queries.specs.Standpoints.{seen_from}

abbrev pub seen_there : Standpoint → Home → StateView → Context
seen_there here home s = seen_from (checked_model home.checked.now) here home.class.0 s
