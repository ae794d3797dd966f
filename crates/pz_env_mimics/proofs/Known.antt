-- What is known of models with the same rules, as it is used here.
use Rattle.pz_env_tree.specs.pz_rules.Laws.{StaysWhole}
use Rattle.pz_env_same.specs.Laws.{SendsAreTheSame, ProcessesSeeTheSame}
use Rattle.pz_env_same.specs.SystemLaws.{OneMoreStands, PartsStandInBoth, PartsAreOfTheModel, InternalOffersAreTheSame, PairsAreTheSame, VerdictsAreTheSame, TroublesOfPartsAreTheSame, DelaysLeaveTheSame, HighIsTheSame, AllAreDoneInBoth, PartsHandTheSame, PartsTakeTheSame, ProcessesBecomeTheSame, OneMoreBecomes, LeadOnToBoth, TimePassesInBoth, StartsHaveOneMore, StartsAreOfBoth}

pub record Known : Type 0 where
  pub stays_whole : StaysWhole
  pub sees : ProcessesSeeTheSame
  pub sends : SendsAreTheSame
  pub more_stands : OneMoreStands
  pub parts_stand : PartsStandInBoth
  pub parts_of : PartsAreOfTheModel
  pub internals : InternalOffersAreTheSame
  pub pairs : PairsAreTheSame
  pub verdicts : VerdictsAreTheSame
  pub part_troubles : TroublesOfPartsAreTheSame
  pub left : DelaysLeaveTheSame
  pub high : HighIsTheSame
  pub done : AllAreDoneInBoth
  pub hands : PartsHandTheSame
  pub takes : PartsTakeTheSame
  pub becomes : ProcessesBecomeTheSame
  pub more_becomes : OneMoreBecomes
  pub lead_on : LeadOnToBoth
  pub passes : TimePassesInBoth
  pub starts : StartsHaveOneMore
  pub starts_of : StartsAreOfBoth
