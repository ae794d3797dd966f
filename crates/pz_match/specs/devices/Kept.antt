-- The pairs of the offers that are kept, listed wire by wire, send by send and process by process.
use Rattle.std.specs.Prelude.{ℕ, Bool, not, nat_eq, ◌&&◌, List, [], ◌∷◌, filter, drop, if◌then◌else◌}
use Rattle.std.specs.List.{flat_map}
use Rattle.pz_offer.specs.declared.ends.Verdict.{Verdict}
use Rattle.pz_offer.specs.declared.ends.Verdict.TheVariants as says
use Rattle.pz_match.specs.declared.offers.Sender.{Sender}
use Rattle.pz_match.specs.declared.offers.Receiver.{Receiver}
use Rattle.pz_match.specs.declared.rows.Row.{Row}
use Rattle.pz_match.specs.declared.kept.Sending.{Sending}
use Rattle.pz_match.specs.declared.kept.Receiving.{Receiving}
use Rattle.pz_match.specs.declared.kept.Offers.{Offers}
use Rattle.pz_match.specs.Pairs.{Judged}
use Rattle.pz_match.specs.devices.Lists.{upto}

-- what a process offers
pub record Kept : Type 0 where
  pub process : ℕ
  pub sends : List Sending
  pub receives : List Receiving

abbrev pub kept : Offers → Kept
kept e = record { process = e.process; sends = e.sends.items; receives = e.receives.items }

abbrev pub sends_in : ℕ → Sending → Bool
sends_in g s = nat_eq s.group g

abbrev pub free_in : ℕ → Receiving → Bool
free_in g r = nat_eq r.group g && not r.receiver.conditional

abbrev pub asks_in : ℕ → Receiving → Bool
asks_in g r = nat_eq r.group g && r.receiver.conditional

-- what the receives of a process said
abbrev pub rows_at : ℕ → List Row → List Row
rows_at process rows = filter (λ r. nat_eq r.process process) rows

abbrev pub judged : Sender → Receiver → Verdict → Judged
judged s r v = record { sender = s; receiver = r; verdict = v }

abbrev pub next_verdict : List Row → Verdict
next_verdict [] = says.No
next_verdict (r ∷ rows) = r.verdict

-- a send of a group with the receives of one process: the conditional ones have the verdicts in order
abbrev pub answers : Sender → ℕ → List Row → List Receiving → List Judged
answers s g rows [] = []
answers s g rows (r ∷ rs) =
    if nat_eq r.group g
    then (if r.receiver.conditional then judged s r.receiver (next_verdict rows) ∷ answers s g (drop 1 rows) rs else judged s r.receiver says.Yes ∷ answers s g rows rs)
    else answers s g rows rs

abbrev pub heard : Sending → Kept → List Judged
heard s e = if nat_eq e.process s.sender.end.process then [] else answers s.sender s.group (rows_at e.process s.rows) e.receives

abbrev pub pairs_of : List Kept → Sending → List Judged
pairs_of all s = flat_map (heard s) all

abbrev pub sent_on : List Kept → ℕ → Sending → List Judged
sent_on all w s = if nat_eq s.sender.wire w then pairs_of all s else []

abbrev pub pairs_from : List Kept → ℕ → Kept → List Judged
pairs_from all w e = flat_map (sent_on all w) e.sends

abbrev pub pairs_on : List Kept → ℕ → List Judged
pairs_on all w = flat_map (pairs_from all w) all

-- over this many wires
abbrev pub all_pairs : List Kept → ℕ → List Judged
all_pairs all wires = flat_map (pairs_on all) (upto wires)
