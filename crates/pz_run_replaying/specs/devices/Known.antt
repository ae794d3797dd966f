-- What is known of runs, of lines and of writing, by the laws of the crates below.
use Rattle.pz_rules.specs.Laws.{OneListOfOffers, WiresAreKnown, OneMoment, EveryMoment, MomentsCountOffers, EveryPassing, OneNext, OnePassing, StaysWhole, StartFits, StaysFit, EveryNext}
use Rattle.pz_trace.specs.Laws.{HeadersAreLines, EndLinesAreLines, OneFirstLine, ActionLinesDiffer, StopIsNoAction, StopIsNoPassing, OneHeading, EveryHeading, ActionsHaveHeadings, OffersAreNamed, FaultsAreNamed, HighsAreNamed, StopsAreNamed}
use Rattle.pz_term_simulator.specs.Laws.{OneMomentOf, OffersAreDerived, OneOfferOf}
use Rattle.pz_term_simulator.specs.devices.Room.{StartsWithRoom, ChoicesTakeRoom, PassingsTakeNoRoom, RoomMeansLow, LessRoomToo}
use Rattle.pz_io.specs.Laws.{NothingIsWritten, PiecesJoin, HaltsBeforeMore, MemoryMayBeWanting}

pub record Known : Type 0 where
  pub one_list : OneListOfOffers
  pub wires : WiresAreKnown
  pub one_moment : OneMoment
  pub some_moment : EveryMoment
  pub counts : MomentsCountOffers
  pub some_passing : EveryPassing
  pub one_next : OneNext
  pub one_passing : OnePassing
  pub stays_whole : StaysWhole
  pub start_fits : StartFits
  pub stays_fit : StaysFit
  pub some_next : EveryNext
  pub one_moment_of : OneMomentOf
  pub offers_derived : OffersAreDerived
  pub one_offer : OneOfferOf
  pub room_at_start : StartsWithRoom
  pub choices_take : ChoicesTakeRoom
  pub passings_take : PassingsTakeNoRoom
  pub room_is_low : RoomMeansLow
  pub less_room : LessRoomToo
  pub offers_named : OffersAreNamed
  pub faults_named : FaultsAreNamed
  pub highs_named : HighsAreNamed
  pub stops_named : StopsAreNamed
  pub header_lines : HeadersAreLines
  pub end_lines : EndLinesAreLines
  pub one_line : OneFirstLine
  pub actions_differ : ActionLinesDiffer
  pub stop_acting : StopIsNoAction
  pub stop_passing : StopIsNoPassing
  pub one_heading : OneHeading
  pub some_heading : EveryHeading
  pub headings : ActionsHaveHeadings
  pub nothing : NothingIsWritten
  pub joins : PiecesJoin
  pub halts : HaltsBeforeMore
  pub wants : MemoryMayBeWanting
