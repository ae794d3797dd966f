-- How receives are linked.
use Rattle.std.specs.Prelude.{◌≡◌, ◌≤◌, ◌+◌, ℕ, Bool, ◌&&◌, not, nat_eq, List, [], ◌∷◌, length, drop, Option, Some, None, unwrap_or, slice_get, if◌then◌else◌}
use Rattle.std.specs.Str.{bytes_eq}
use Rattle.indexmap.specs.IndexMap.{get_by}
use Rattle.pz_term_matching.specs.declared.ends.Receiver.{Receiver}
use Rattle.pz_term_matching.specs.declared.key.Key.{Key}
use Rattle.pz_term_matching.specs.declared.chains.Link.{Link}
use Rattle.pz_term_matching.specs.declared.chains.Chains.{Chains}

-- it receives this message of so many values over this wire
abbrev pub hears : ℕ → List ℕ → ℕ → Receiver → Bool
hears wire message count r = nat_eq wire r.wire && (bytes_eq message r.message && nat_eq count r.count)

-- and stands in another process
abbrev pub hears_elsewhere : ℕ → List ℕ → ℕ → ℕ → Receiver → Bool
hears_elsewhere wire message count process r = hears wire message count r && not (nat_eq process r.end.process)

-- The first that passes the test, where the first of the list has this number; the number behind the
-- list where none does.
abbrev pub first_from : (Receiver → Bool) → ℕ → List Receiver → ℕ
first_from test place [] = place
first_from test place (r ∷ rs) = if test r then place else first_from test (place + 1) rs

-- where it goes on from a receive, before these
abbrev pub link_from : ℕ → Receiver → List Receiver → Link
link_from place r rs = record {
  next = first_from (hears r.wire r.message r.count) (place + 1) rs;
  elsewhere = first_from (hears_elsewhere r.wire r.message r.count r.end.process) (place + 1) rs;
}

abbrev pub links_from : ℕ → List Receiver → List Link
links_from place [] = []
links_from place (r ∷ rs) = link_from place r rs ∷ links_from (place + 1) rs

-- the receive that is noted for the key
abbrev pub found_in : Chains → Key → Option ℕ
found_in chains key = get_by (λ k. nat_eq key.wire k.wire && (bytes_eq key.message.now k.message.now && nat_eq key.count k.count)) chains.firsts

-- the place of a receive, but where it stands in this process the one that it links to elsewhere
abbrev pub passing : Option Receiver → Option Link → ℕ → ℕ → ℕ
passing None l process place = place
passing (Some r) None process place = place
passing (Some r) (Some l) process place = if nat_eq process r.end.process then l.elsewhere else place

abbrev pub past_process : List Receiver → List Link → ℕ → ℕ → ℕ
past_process receivers links process place = passing (slice_get receivers place) (slice_get links place) process place

-- the receives from this place on are linked
pub record AreChainsFrom (place : ℕ) (receivers : List Receiver) (chains : Chains) : Type 0 where
  pub counted : length chains.links.items ≡ length receivers
  pub firsts : (key : Key) → unwrap_or (found_in chains key) (length receivers) ≡ first_from (hears key.wire key.message.now key.count) place (drop place receivers)
  pub links : (i : ℕ) → place ≤ i → drop i chains.links.items ≡ links_from i (drop i receivers)

abbrev pub AreChains : List Receiver → Chains → Type 0
AreChains receivers chains = AreChainsFrom 0 receivers chains
