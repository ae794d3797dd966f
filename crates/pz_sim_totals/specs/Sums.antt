-- What the processes of a list can do together, and which of them an internal action of all is of.
use Rattle.std.specs.Prelude.{◌≡◌, ◌+◌, ◌^◌, ◌<◌, ℕ, List, [], ◌∷◌, length, take, slice_index_or}
use Rattle.pz_offer.specs.Summaries.{nothing, join}
use Rattle.pz_sim_totals.specs.declared.total.Total.{Total}
use Rattle.pz_sim_totals.specs.declared.totals.Found.{Found}

abbrev pub none : Total
none = record { summary = nothing; unfinished = 0 }

abbrev pub both : Total → Total → Total
both s t = record { summary = join s.summary t.summary; unfinished = s.unfinished + t.unfinished }

abbrev pub all : List Total → Total
all [] = none
all (t ∷ ts) = both t (all ts)

-- its sums are numbers of 64 bits
pub record AreNumbers (t : Total) : Type 0 where
  pub internal : t.summary.internal < 2 ^ 64
  pub sends : t.summary.sends < 2 ^ 64
  pub receives : t.summary.receives < 2 ^ 64
  pub unfinished : t.unfinished < 2 ^ 64

-- internal action k of all is this one of this process: the processes before it have those before
pub record IsAction (ts : List Total) (k : ℕ) (found : Found) : Type 0 where
  pub process : found.process < length ts
  pub number : found.number < (slice_index_or ts found.process none).summary.internal
  pub before : (all (take found.process ts)).summary.internal + found.number ≡ k
