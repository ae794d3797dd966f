-- What is asked, and what an update leaves of the offers that are kept.
use Rattle.std.specs.Prelude.{◌≡◌, ℕ, true, false, not, nat_eq, List, [], ◌∷◌, ◌++◌, length, filter, map, sum_by, All, if◌then◌else◌}
use Rattle.std.specs.List.{flat_map}
use Rattle.pz_offer.specs.pz_copy.Parcels.{ParcelView}
use Rattle.pz_offer.specs.declared.end.End.{End}
use Rattle.pz_match.specs.declared.offers.Sender.{Sender}
use Rattle.pz_match.specs.declared.rows.Row.{Row}
use Rattle.pz_match.specs.declared.kept.Sending.{Sending}
use Rattle.pz_match.specs.declared.kept.Receiving.{Receiving}
use Rattle.pz_match.specs.Judging.{Verdicts}
use Rattle.pz_match.specs.devices.Kept.{Kept, asks_in, rows_at}

abbrev pub row_of : Verdicts → Sender → ℕ → Receiving → Row
row_of says s process r = record { process = process; verdict = says s.end s.parcel r.receiver.end }

-- what the conditional receives of a process, in this group, say to a send
abbrev pub asked : Verdicts → Sender → ℕ → ℕ → List Receiving → List Row
asked says s g process = flat_map (λ r. if asks_in g r then row_of says s process r ∷ [] else [])

-- those of another process
abbrev pub asked_in : Verdicts → Sender → ℕ → Kept → List Row
asked_in says s g e = if nat_eq e.process s.end.process then [] else asked says s g e.process e.receives

-- the judge takes the question of this receive, if it has one in this group
abbrev pub MayAsk : {J : Type 0} → (J → End → ParcelView → End → Type 0) → J → Sender → ℕ → Receiving → Type 0
MayAsk takes j s g r = asks_in g r ≡ true → takes j s.end s.parcel r.receiver.end

abbrev pub MayAskAll : {J : Type 0} → (J → End → ParcelView → End → Type 0) → J → Sender → ℕ → Kept → Type 0
MayAskAll takes j s g e = nat_eq e.process s.end.process ≡ false → All (MayAsk takes j s g) e.receives

-- a send of another process, once the receives of this one have said something new
abbrev pub renewed : Verdicts → ℕ → List Receiving → Sending → Sending
renewed says process rs s = record s { rows = filter (λ r. not (nat_eq r.process process)) s.rows ++ asked says s.sender s.group process rs }

-- a process, once this one has other offers
abbrev pub replaced : Verdicts → ℕ → List Sending → List Receiving → Kept → Kept
replaced says process ss rs e =
    if nat_eq e.process process then record { process = process; sends = ss; receives = rs } else record e { sends = map (renewed says process rs) e.sends }

-- the rows that an update of a process writes: all of its own sends, and those of its receives
abbrev pub rows_written : ℕ → Sending → ℕ
rows_written process s = if nat_eq s.sender.end.process process then length s.rows else length (rows_at process s.rows)

abbrev pub all_written : ℕ → List Kept → ℕ
all_written process = sum_by (λ e. sum_by (rows_written process) e.sends)
