-- What an active part is asked has a trouble only where the summary of the term has one.
use Rattle.std.proofs.Common.{◌≡◌, ℕ, List, [], ◌∷◌, None, refl, arith}
use Rattle.std.specs.Prelude.{Contains}
use Rattle.pz_rules.specs.pz_offer.declared.trouble.Trouble.{Trouble}
use Rattle.pz_rules.specs.Settings.{Context}
use Rattle.pz_rules.specs.Terms.{Term}
use Rattle.pz_rules.specs.devices.Computed.{IsUntroubled}
use Rattle.pz_rules.specs.devices.Walk.{Noted, active_troubles}
use Rattle.pz_rules.specs.devices.Walks.{TroublesAreListed}
use Rattle.pz_tree_acting.specs.pz_tree_standing.Summaries.{first_of, summary_of}

none_first : (ns : List (Noted Trouble)) → first_of ns ≡ None → ns ≡ []
none_first [] e = refl
none_first (n ∷ ns) e = absurd cc

none_there : (ns : List (Noted Trouble)) (n : Noted Trouble) → ns ≡ [] → Contains ns n → ⊥
none_there [] n e has = absurd (omega (arith, has.1))
none_there (m ∷ ns) n e has = absurd cc

pub untroubled : (law : TroublesAreListed) (a : Context) (c : ℕ) (t : Term) → (summary_of a c 0 t).trouble ≡ None → IsUntroubled a 0 t
untroubled law a c t none place g part trouble active asks =
    none_there (active_troubles a t) (record { place = place; what = trouble }) (none_first (active_troubles a t) none)
    ((law a t).every place trouble (record { frame = g; part = part; active = active; it_holds = asks }))
