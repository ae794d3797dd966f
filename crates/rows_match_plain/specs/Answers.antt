-- What the judge of these rows says.
use Rattle.std.specs.Prelude.{◌+◌, ◌*◌, ◌%◌, ℕ, nat_eq, nat_lt, if◌then◌else◌, slice_index_or}
use Rattle.pz_offer.specs.declared.end.End.{End}
use Rattle.pz_offer.specs.declared.ends.Verdict.{Verdict}
use Rattle.pz_offer.specs.declared.ends.Verdict.TheVariants as says
use Rattle.pz_offer.specs.declared.trouble.Trouble.TheVariants.{Spent}
use Rattle.rows_match_plain.specs.declared.answers.Rule.{Rule}
use Rattle.rows_match_plain.specs.declared.answers.Rule.TheVariants as rules
use Rattle.rows_match_plain.specs.declared.answers.Spot.{Spot}

abbrev pub spot_of : End → Spot
spot_of e = record { process = e.process; place = slice_index_or e.place 0 0 }

abbrev pub trouble_at : Spot → Spot → Verdict
trouble_at s r = says.Trouble (Spent r.process (record { line = s.process; column = 1 }))

abbrev pub by_number : ℕ → Verdict → Verdict
by_number n trouble = if nat_eq n 0 then trouble else (if nat_lt n 4 then says.No else says.Yes)

abbrev pub mixed : ℕ → Spot → Spot → Verdict
mixed seed s r = by_number ((seed + (s.process * 3 + s.place * 5) + (r.process * 7 + r.place * 11)) % 8) (trouble_at s r)

abbrev pub said : Rule → Spot → Spot → Verdict
said rules.Yes s r = says.Yes
said (rules.NoTo process) s r = if nat_eq s.process process then says.No else says.Yes
said (rules.TroubleOf process) s r = if nat_eq r.process process then trouble_at s r else says.Yes
said (rules.Mixed seed) s r = mixed seed s r
