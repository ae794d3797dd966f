-- What a table of pairs is seen as.
use Rattle.std.specs.Prelude.{Bool, List}
use Rattle.std.specs.List.{flat_map}
use Rattle.pz_match.specs.declared.offers.Sender.{Sender}
use Rattle.pz_match.specs.declared.offers.Receiver.{Receiver}
use Rattle.pz_match.specs.Pairs.{Judged}

-- the offers of each process, and all pairs
pub record Table : Type 0 where
  pub senders : List (List Sender)
  pub receivers : List (List Receiver)
  pub pairs : List Judged
  -- whether an update had no memory: then nothing else is known
  pub lost : Bool

-- those of all processes

abbrev pub all_senders : Table → List Sender
all_senders t = flat_map (λ ss. ss) t.senders

abbrev pub all_receivers : Table → List Receiver
all_receivers t = flat_map (λ rs. rs) t.receivers
